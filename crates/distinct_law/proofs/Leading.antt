-- The splits and the merges of a model lead each trace by its word.
use Rattle.std.proofs.Common.{◌≡◌, ℕ, suc, ◌+◌, List, [], ◌∷◌, ◌++◌, map, length, slice_index, append-nil, sym, ◌∙◌, refl, ap, ap₂}
use Rattle.std.proofs.lemmas.List.{map-append}
use Rattle.std.specs.List.{flat_map}
use Rattle.invariants.specs.declared.records.Split.{Split}
use Rattle.invariants.specs.declared.records.Merge.{Merge}
use Rattle.invariants.specs.declared.records.Model.{Model}
use Rattle.partition_model.specs.Assignments.{Event, Assignment, events, ids_of, id_list, by_type, with_ends, renamed_event}
use Rattle.partition_model.specs.Listings.{parts_of}
use Rattle.partition_model.specs.Refinement.{split_trace, after_split}
use Rattle.partition_model.specs.Coarsening.{merge, merged_by, onto}
use Rattle.models.specs.Histories.{split_by}
use Rattle.distinct_law.specs.Words.{ids_by, path_by}

-- a trace after these splits, with n for the next id
abbrev split-on : ℕ → List Split → List Event → List Event
split-on n [] t = t
split-on n (s ∷ ss) t = split-on (suc n) ss (split_trace (slice_index s.path s.place) (slice_index s.path (s.place + 1)) n t)

-- a trace after these merges
abbrev merge-on : List Merge → List Event → List Event
merge-on [] t = t
merge-on (m ∷ ms) t = merge-on ms (map (renamed_event (onto m.p m.q)) t)

-- where the splits and the merges of the model lead the trace of the word
abbrev pub led : Model → List ℕ → List Event
led m w = merge-on m.merges (split-on (length m.types + 2) m.splits (map (λ (t : ℕ). record { typ = t; id = t }) w))

split-nil : (n : ℕ) (splits : List Split) → split_by n splits [] ≡ []
split-nil n [] = refl
split-nil n (s ∷ ss) = split-nil (suc n) ss

split-cons : (n : ℕ) (splits : List Split) (t : List Event) (h : Assignment) → split_by n splits (t ∷ h) ≡ split-on n splits t ∷ split_by n splits h
split-cons n [] t h = refl
split-cons n (s ∷ ss) t h = split-cons (suc n) ss (split_trace (slice_index s.path s.place) (slice_index s.path (s.place + 1)) n t) (after_split n s h)

merge-nil : (merges : List Merge) → merged_by merges [] ≡ []
merge-nil [] = refl
merge-nil (m ∷ ms) = merge-nil ms

merge-cons : (merges : List Merge) (t : List Event) (h : Assignment) → merged_by merges (t ∷ h) ≡ merge-on merges t ∷ merged_by merges h
merge-cons [] t h = refl
merge-cons (m ∷ ms) t h = merge-cons ms (map (renamed_event (onto m.p m.q)) t) (merge m.p m.q h)

-- they lead each trace of some words by itself
pub led-by : (m : Model) (words : List (List ℕ)) → merged_by m.merges (split_by (length m.types + 2) m.splits (by_type words)) ≡ map (led m) words
led-by m [] = ap (λ (h : Assignment). merged_by m.merges h) (split-nil (length m.types + 2) m.splits) ∙ merge-nil m.merges
led-by m (w ∷ words) =
    let first : List Event = map (λ (t : ℕ). record { typ = t; id = t }) w in
    ap (λ (h : Assignment). merged_by m.merges h) (split-cons (length m.types + 2) m.splits first (by_type words))
    ∙ merge-cons m.merges (split-on (length m.types + 2) m.splits first) (split_by (length m.types + 2) m.splits (by_type words))
    ∙ ap (λ (h : Assignment). led m w ∷ h) (led-by m words)

-- so the ids of a word are those of its trace
ids-led : (m : Model) (w : List ℕ) → ids_by m w ≡ ids_of (led m w)
ids-led m w = ap (λ (h : Assignment). parts_of h) (led-by m (w ∷ [])) ∙ ap (λ (t : List Event). ids_of t) (append-nil (led m w))

-- and its path is that of its trace
pub path-led : (m : Model) (w : List ℕ) → path_by m w ≡ id_list (led m w)
path-led m w = ap (λ (ids : List ℕ). with_ends ids) (ids-led m w)

-- the ids of all traces are those of the words, one after another
pub parts-led : (m : Model) (words : List (List ℕ)) → parts_of (map (led m) words) ≡ flat_map (λ w. ids_by m w) words
parts-led m [] = refl
parts-led m (w ∷ words) =
    map-append (λ (e : Event). e.id) (led m w) (events (map (led m) words))
    ∙ ap₂ (λ (xs ys : List ℕ). xs ++ ys) (sym (ids-led m w)) (parts-led m words)
