-- The definitions on the log with no events.
use Rattle.std.proofs.Common.{◌≡◌, ℕ, [], ◌∷◌, refl, arith}
use Rattle.invariants.specs.declared.Kinds.TheVariants.{Three}
use Rattle.invariants.specs.declared.records.Model.{Model}
use Rattle.partition_model.specs.Assignments.{Event, events, G}
use Rattle.partition_model.specs.Coarsening.{IsPair}
use Rattle.partition_model.proofs.Lists.{In}
use Rattle.partition_model.proofs.Listing.{are_partitions, are_edges}
use Rattle.partition_model.proofs.Passes.{live-member}
use Rattle.models.specs.Models.{TypedWords, IsModelOf}
use Rattle.models.specs.Laws.{IsTypedLog}
use Rattle.models.proofs.Shaped.{models_are_shaped}
use Rattle.model_shape.specs.Shapes.{end_of, IsWellShaped}
use Rattle.models.specs.Limits.{IsWithinLimits, KeepsLimits}

abbrev nothing : TypedWords
nothing = record { kinds = Three; types = []; words = [] }

abbrev empty : Model
empty = record { types = []; kinds = Three; partitions = end_of 0 0 ∷ end_of 1 0 ∷ []; edges = []; invariants = []; splits = []; merges = []; blocks = [] }

no-pair : (p q : ℕ) → IsPair (G []) p q → ⊥
no-pair p q i =
    let o : (e : Event) × In e (events []) × (e.id ≡ p) = live-member [] p i.low i.has_p in
    o.1

is_model : IsModelOf empty nothing
is_model =
    record {
      types = refl;
      kinds = refl;
      refined = [];
      end = [];
      splits = (tt, refl);
      merges = ((λ p q i s. no-pair p q i), refl);
      partitions = are_partitions [] 2 (omega arith) tt;
      edges = are_edges [] 2 (omega arith) tt;
      listing = refl;
      labels = tt;
      blocks = record { order = tt; each = λ k b e. absurd (cc e); whole = λ p q i. absurd (no-pair p q i) };
    }

is_typed : IsTypedLog nothing
is_typed = record { two = omega arith; range = tt; each = λ p l k. absurd (omega (arith, l, k)) }

is_within : IsWithinLimits nothing
is_within =
    record { types = record { few = omega arith; each = tt; apart = λ j k text e f. absurd (cc e) }; few_traces = omega arith; few_events = omega arith }

keeps : KeepsLimits empty
keeps = record { ids = omega arith; numbers = omega arith }

is_shaped : IsWellShaped empty
is_shaped = models_are_shaped empty nothing is_typed is_within keeps is_model
