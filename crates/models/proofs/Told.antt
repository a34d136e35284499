-- What a valid model tells.
use Rattle.std.proofs.Common.{◌↔◌, ℕ, List, [], ◌∷◌, map, length, slice_get, Contains, sym, ◌∙◌, ap, subst}
use Rattle.std.specs.List.{AllByRecursion}
use Rattle.invariants.specs.declared.Invariant.{Invariant}
use Rattle.invariants.specs.declared.records.Listed.{Listed}
use Rattle.invariants.specs.declared.records.Model.{Model}
use Rattle.invariants.specs.Mined.{IsListed}
use Rattle.invariants.proofs.Members.{mined_tells}
use Rattle.invariants.proofs.Order.{mined_keeps_order}
use Rattle.partition_model.specs.Graphs.{Satisfies, Merged}
use Rattle.partition_model.specs.Assignments.{with_ends}
use Rattle.partition_model.specs.Refinement.{SatisfiesAll}
use Rattle.partition_model.specs.Coarsening.{IsPair}
use Rattle.partition_model.proofs.Lists.{In, all_in, map-In}
use Rattle.partition_model.proofs.Listing.{In-Contains}
use Rattle.partition_model.proofs.Labelling.{inductive_satisfies}
use Rattle.partition_bounds.proofs.Ordered.{get-In}
use Rattle.models.specs.Models.{TypedWords, graph_of, has_state, label_at, IsLabelled}
use Rattle.models.specs.Checks.{IsAccepted, IsBlocked, IsValid, KeepsApart}
use Rattle.models.specs.Laws.{ValidSatisfies, ValidTells, ModelsTell}
use Rattle.models.proofs.Valid.{models-valid}
use Rattle.model_shape.specs.Shapes.{listing_of}

labels-satisfy : (m : Model) (ls : List Listed) → AllByRecursion (IsLabelled m) ls → SatisfiesAll (graph_of m) (map (λ l. l.inv) ls)
labels-satisfy m [] a = tt
labels-satisfy m (l ∷ ls) a = (
  inductive_satisfies l.inv (graph_of m) (λ p s. has_state (label_at p m.partitions l.labels) s) a.0,
  labels-satisfy m ls a.1,
)

-- whatever is valid for a log satisfies each invariant that it lists
pub valid_satisfies : ValidSatisfies
valid_satisfies m log v = labels-satisfy m m.invariants v.labels

-- no pair of a valid model can be merged without loss
no-merge : (m : Model) (log : TypedWords) → IsValid m log → (p q : ℕ) → IsPair (graph_of m) p q → SatisfiesAll (Merged (graph_of m) p q) (listing_of m) → ⊥
no-merge m log v p q i s =
    let b : IsBlocked m p q = v.blocks p q i in
    let k : KeepsApart m p q b.0 b.1 = b.2 in
    let j : In b.1.inv (listing_of m) = map-In (λ (l : Listed). l.inv) b.1 m.invariants (get-In m.invariants b.0.inv b.1 k.names) in
    k.breaks.1 (all_in (λ inv. Satisfies (Merged (graph_of m) p q) inv) b.1.inv (listing_of m) s j b.0.path k.breaks.0)

-- a valid model promises all that is said of one
pub valid_tells : ValidTells
valid_tells m log v =
    record {
      types = v.types;
      listed = λ inv. subst (λ (ls : List Invariant). Contains ls inv ↔ IsListed log.kinds (length log.types) (map with_ends log.words) inv) (sym v.listing) (mined_tells log.kinds (length log.types) (map with_ends log.words) inv);
      order = λ j k i n first second ej ek ei en l.
          mined_keeps_order log.kinds (length log.types) (map with_ends log.words) j k i n first second
          (sym (ap (λ (ls : List Invariant). slice_get ls j) v.listing) ∙ ej) (sym (ap (λ (ls : List Invariant). slice_get ls k) v.listing) ∙ ek) ei en l;
      accepted = λ w c. all_in (IsAccepted m) w log.words v.traces (In-Contains log.words w c);
      satisfied = λ inv path c i. all_in (λ x. Satisfies (graph_of m) x) inv (listing_of m) (valid_satisfies m log v) (In-Contains (listing_of m) inv c) path i;
      apart = λ p q i.
          let b : IsBlocked m p q = v.blocks p q i in
          (b.0, b.1, b.2.there, b.2.lower, b.2.higher, b.2.names, b.2.breaks.0, b.2.breaks.1);
      no_merge = no-merge m log v;
    }

-- so does the model of a log
pub models_tell : ModelsTell
models_tell m log t k = valid_tells m log (models-valid m log t k)
