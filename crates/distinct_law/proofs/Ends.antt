-- Inference of logs with the same words ends alike.
use Rattle.std.proofs.Common.{◌≡◌, ◌↔◌, ℕ, ◌+◌, List, length, Contains, sym, ◌∙◌, ap, subst, subst₂}
use Rattle.std.specs.List.{AllByRecursion}
use Rattle.invariants.specs.declared.Invariant.{Invariant}
use Rattle.invariants.specs.declared.Kinds.{Kinds}
use Rattle.invariants.specs.declared.records.Model.{Model}
use Rattle.partition_model.specs.Graphs.{Graph}
use Rattle.partition_model.specs.Assignments.{Assignment, G, IsTyped, by_type}
use Rattle.partition_model.specs.Refinement.{IsNextSplit, IsRefined, Splits}
use Rattle.partition_model.specs.Coarsening.{merged_by, Coarsens, IsBlock}
use Rattle.partition_bounds.specs.Pairs.{pairs_below}
use Rattle.models.specs.Models.{TypedWords, mined_of}
use Rattle.models.specs.Limits.{KeepsLimits}
use Rattle.models.specs.Laws.{IsTypedLog}
use Rattle.coarsener.specs.Blocking.{EndsWithoutRoom}
use Rattle.infer_core.specs.Runs.{PassesNumbers, PassesPartitions}
use Rattle.infer_core.proofs.Sharing.{Alike, graph-over, next-split-over}
use Rattle.distinct_law.specs.Words.{HaveSameWords, counted_over}
use Rattle.distinct_law.specs.Laws.{LogsEndAlike}
use Rattle.distinct_law.proofs.SameWords.{asked, as-whole, turned, typed-to}
use Rattle.distinct_law.proofs.Wholes.{split-to, mined-alike, refined-alike, stopped-alike, coarsened-alike}
use Rattle.distinct_law.proofs.Models.{models_differ_in_counts}

module _ (kinds : Kinds) (types us vs : List (List ℕ)) (same : (w : List ℕ) → Contains us w ↔ Contains vs w) (t : IsTypedLog (asked kinds types us)) where
  mined : mined_of (asked kinds types us) ≡ mined_of (asked kinds types vs)
  mined = mined-alike kinds types us vs same t

  -- a refinement that stopped
  pub partitions-over : PassesPartitions (asked kinds types us) → PassesPartitions (asked kinds types vs)
  partitions-over p =
      let now : Assignment = split-to types p.splits vs in
      let o : Splits (mined_of (asked kinds types vs)) (by_type vs) (length types + 2) p.splits now × Alike p.now now × IsTyped p.now =
      stopped-alike kinds types us vs same t p.splits p.now p.run in
      record {
        splits = p.splits;
        now = now;
        run = o.0;
        full = p.full;
        next = p.next;
        is_next = subst (λ (invs : List Invariant). IsNextSplit invs now p.next) mined (next-split-over (mined_of (asked kinds types us)) p.now now p.next o.1 o.2 p.is_next);
      }

  -- a run that stopped at a block
  pub numbers-over : PassesNumbers (asked kinds types us) → PassesNumbers (asked kinds types vs)
  numbers-over p =
      let refined : Assignment = split-to types p.splits vs in
      let end : Assignment = merged_by p.merges refined in
      let n : ℕ = length types + 2 + length p.splits in
      let o : IsRefined (mined_of (asked kinds types vs)) (length types) vs p.splits refined × Alike p.refined refined × IsTyped p.refined =
      refined-alike kinds types us vs same t p.splits p.refined p.refines in
      let c : Coarsens (mined_of (asked kinds types vs)) refined p.merges end × Alike p.end end × IsTyped p.end =
      coarsened-alike kinds types us vs same t p.merges p.refined refined p.end o.1 o.2 p.coarsens in
      let g : G p.end ≡ G end = graph-over p.end end c.1 c.2 in
      let w : EndsWithoutRoom (mined_of (asked kinds types us)) (record { traces = p.end; used = n }) p.blocks _ = p.ends in
      record {
        splits = p.splits;
        refined = refined;
        refines = o.0;
        within = p.within;
        merges = p.merges;
        end = end;
        coarsens = c.0;
        blocks = p.blocks;
        ends = record {
          next = w.next;
          rest = w.rest;
          pairs = w.pairs ∙ ap (λ (x : Graph). pairs_below n x) g;
          each = subst₂ (λ (invs : List Invariant) (x : Graph). AllByRecursion (IsBlock invs x) p.blocks) mined g w.each;
          is_block = subst₂ (λ (invs : List Invariant) (x : Graph). IsBlock invs x w.next) mined g w.is_block;
          too_long = w.too_long;
        };
      }

-- what the inference of the one exceeds, that of the other does
partitions-to : (few whole : TypedWords) → HaveSameWords few whole → IsTypedLog few → PassesPartitions few → PassesPartitions whole
partitions-to few whole s t p =
    let e : few ≡ asked whole.kinds whole.types few.words = as-whole few whole s in
    partitions-over whole.kinds whole.types few.words whole.words s.words
    (subst (λ (log : TypedWords). IsTypedLog log) e t) (subst (λ (log : TypedWords). PassesPartitions log) e p)

numbers-to : (few whole : TypedWords) → HaveSameWords few whole → IsTypedLog few → PassesNumbers few → PassesNumbers whole
numbers-to few whole s t p =
    let e : few ≡ asked whole.kinds whole.types few.words = as-whole few whole s in
    numbers-over whole.kinds whole.types few.words whole.words s.words
    (subst (λ (log : TypedWords). IsTypedLog log) e t) (subst (λ (log : TypedWords). PassesNumbers log) e p)

-- limits of a run do not depend on counts
limits-to : (words : List (List ℕ)) (m : Model) → KeepsLimits m → KeepsLimits (counted_over words m)
limits-to words m l = record { ids = l.ids; numbers = l.numbers }

limits-from : (words : List (List ℕ)) (m : Model) → KeepsLimits (counted_over words m) → KeepsLimits m
limits-from words m l = record { ids = l.ids; numbers = l.numbers }

-- the inference of the one exceeds a limit exactly if that of the other does
pub logs_end_alike : LogsEndAlike
logs_end_alike few whole s t =
    let back : HaveSameWords whole few = turned few whole s in
    let u : IsTypedLog whole = typed-to few whole s t in
    record {
      partitions = (λ p. partitions-to few whole s t p, λ p. partitions-to whole few back u p);
      numbers = (λ p. numbers-to few whole s t p, λ p. numbers-to whole few back u p);
      models = λ m other k o.
          let e : other ≡ counted_over whole.words m = (models_differ_in_counts few whole m other s t k o).counts in (
            λ l. subst (λ (x : Model). KeepsLimits x) (sym e) (limits-to whole.words m l),
            λ l. limits-from whole.words m (subst (λ (x : Model). KeepsLimits x) e l),
          );
    }
