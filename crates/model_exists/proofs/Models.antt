-- Each typed log has a model.
use Rattle.std.proofs.Common.{◌≡◌, ℕ, suc, ◌+◌, ◌≤◌, List, [], ◌∷◌, map, length, refl, ap₂}
use Rattle.std.specs.List.{AllByRecursion}
use Rattle.invariants.specs.declared.Invariant.{Invariant}
use Rattle.invariants.specs.declared.records.Partition.{Partition}
use Rattle.invariants.specs.declared.records.Listed.{Listed}
use Rattle.invariants.specs.declared.records.Split.{Split}
use Rattle.invariants.specs.declared.records.Merge.{Merge}
use Rattle.invariants.specs.declared.records.Block.{Block}
use Rattle.invariants.specs.declared.records.Model.{Model}
use Rattle.partition_model.specs.Assignments.{Assignment, G, IsTyped, events}
use Rattle.partition_model.specs.Listings.{AreBelow, ArePartitions, partitions_below, edges_below}
use Rattle.partition_model.specs.Refinement.{Splits, Refines, IsRefined, after_split}
use Rattle.partition_model.specs.Coarsening.{Coarsens, AreBlocks}
use Rattle.partition_model.proofs.Listing.{are_partitions, are_edges}
use Rattle.refinement_end.specs.Laws.{IsWholeRun}
use Rattle.refinement_end.proofs.WholeRuns.{refinement_ends}
use Rattle.models.specs.Models.{TypedWords, mined_of, AreReached, IsModelOf}
use Rattle.models.proofs.FirstSteps.{bound-of}
use Rattle.models.proofs.Unique.{one_model}
use Rattle.models.proofs.Valid.{mined-hold}
use Rattle.model_exists.specs.Laws.{IsWholeCoarsening, IsTheModel, ModelExists}
use Rattle.model_exists.proofs.Merges.{coarsening_ends}
use Rattle.model_exists.proofs.Labels.{labels_exist}

-- invariants, each with the labels of the partitions
record AreLabelled (h : Assignment) (xs : List Partition) (invs : List Invariant) (ls : List Listed) : Type 0 where
  same : map (λ l. l.inv) ls ≡ invs
  labels : AllByRecursion (λ l. AreReached l.inv h xs l.labels) ls

-- there are such
labelled : (h : Assignment) (xs : List Partition) → IsTyped h → ArePartitions xs h → (invs : List Invariant) → (ls : List Listed) × AreLabelled h xs invs ls
labelled h xs t a [] = ([], record { same = refl; labels = tt })
labelled h xs t a (inv ∷ invs) =
    let o : (labels : List ℕ) × AreReached inv h xs labels = labels_exist inv h xs t a in
    let r : (ls : List Listed) × AreLabelled h xs invs ls = labelled h xs t a invs in
    let same : map (λ l. l.inv) r.0 ≡ invs = r.1.same in (
      record { inv = inv; labels = o.0 } ∷ r.0,
      record { same = ap₂ (λ (x : Invariant) (ys : List Invariant). x ∷ ys) refl same; labels = (o.1, r.1.labels) },
    )

-- a whole run is a run of splits
pub whole-splits : (invs : List Invariant) (ss : List Split) (h : Assignment) (n : ℕ) (end : Assignment) → Refines invs h n ss end → Splits invs h n ss end
whole-splits invs [] h n end w = w.1
whole-splits invs (s ∷ ss) h n end w = (w.0, whole-splits invs ss (after_split n s h) (suc n) end w.1)

-- the log has a model with these splits and these blocks
abbrev pub HasModelWith : TypedWords → List Split → List Block → Type 0
HasModelWith log splits blocks = (m : Model) × IsModelOf m log × (m.splits ≡ splits) × (m.blocks ≡ blocks)

-- where refinement and coarsening lead, there is a model
pub model-at : (log : TypedWords) (splits : List Split) (refined : Assignment) (merges : List Merge) (end : Assignment) (blocks : List Block)
    → IsRefined (mined_of log) (length log.types) log.words splits refined → Coarsens (mined_of log) refined merges end → IsTyped end → AreBlocks (mined_of log) (G end) blocks
    → HasModelWith log splits blocks
model-at log splits refined merges end blocks r c t a =
    let b : (n : ℕ) × (2 ≤ n) × AreBelow n end = bound-of (events end) in
    let p : ArePartitions (partitions_below b.0 end) end = are_partitions end b.0 b.1 b.2 in
    let l : (ls : List Listed) × AreLabelled end (partitions_below b.0 end) (mined_of log) ls = labelled end (partitions_below b.0 end) t p (mined_of log) in (
      record {
        types = log.types;
        kinds = log.kinds;
        partitions = partitions_below b.0 end;
        edges = edges_below b.0 end;
        invariants = l.0;
        splits = splits;
        merges = merges;
        blocks = blocks;
      },
      record {
        types = refl;
        kinds = refl;
        refined = refined;
        end = end;
        splits = r;
        merges = c;
        partitions = p;
        edges = are_edges end b.0 b.1 b.2;
        listing = l.1.same;
        labels = l.1.labels;
        blocks = a;
      },
      refl,
      refl,
    )

-- a model of a log is the one that it has
pub the-model : (m : Model) (log : TypedWords) → IsModelOf m log → IsTheModel m log
the-model m log k = record { model = k; alone = λ other o. one_model other m log o k }

-- each typed log has one model
pub model_exists : ModelExists
model_exists log t =
    let r : (splits : List Split) × (end : Assignment) × IsWholeRun (mined_of log) log.words (length log.types + 2) splits end =
    refinement_ends (mined_of log) log.words (length log.types + 2) t (mined-hold log) in
    let c : (merges : List Merge) × (end : Assignment) × IsWholeCoarsening (mined_of log) r.1 merges end = coarsening_ends (mined_of log) r.1 r.2.keeps.typed in
    let o : HasModelWith log r.0 c.2.blocks.0 = model-at log r.0 r.1 c.0 c.1 c.2.blocks.0 r.2.run c.2.run c.2.typed c.2.blocks.1 in
    (o.0, the-model o.0 log o.1)
