-- Logs with the same words: what is mined of them, their types, and which models are valid for them.
use Rattle.std.proofs.Common.{◌≡◌, ℕ, ◌+◌, ◌<◌, ◌≤◌, List, map, length, sym, ◌∙◌, refl, ap₂, subst}
use Rattle.invariants.specs.declared.Kinds.{Kinds}
use Rattle.invariants.specs.declared.records.Model.{Model}
use Rattle.invariants.specs.Mined.{mined_for}
use Rattle.partition_model.specs.Assignments.{Event, events, by_type, with_ends}
use Rattle.partition_model.specs.Laws.{AreTyped}
use Rattle.partition_model.proofs.Lists.{In, all_in, all_from, count-member, member-of}
use Rattle.partition_model.proofs.Listing.{Contains-In, In-Contains}
use Rattle.models.specs.Models.{TypedWords}
use Rattle.models.specs.Checks.{IsAccepted, IsValid}
use Rattle.models.specs.Laws.{IsTypedLog}
use Rattle.infer_core.proofs.Sharing.{Alike, event-over, mined-as}
use Rattle.distinct_law.specs.Words.{HaveSameWords}
use Rattle.distinct_law.specs.Laws.{SameMined, SameTyped, SameValid}
use Rattle.distinct_law.proofs.Alike.{alike-map}

-- the log of these words
abbrev pub asked : Kinds → List (List ℕ) → List (List ℕ) → TypedWords
asked kinds types words = record { kinds = kinds; types = types; words = words }

-- it is the same from the other side
pub turned : (few whole : TypedWords) → HaveSameWords few whole → HaveSameWords whole few
turned few whole s = record { kinds = sym s.kinds; types = sym s.types; words = λ w. ((s.words w).1, (s.words w).0) }

-- a log has its own words
pub itself : (log : TypedWords) → HaveSameWords log log
itself log = record { kinds = refl; types = refl; words = λ w. (λ c. c, λ c. c) }

-- the kinds and the types may be those of the whole log
pub as-whole : (few whole : TypedWords) → HaveSameWords few whole → few ≡ asked whole.kinds whole.types few.words
as-whole few whole s = λ d. record { kinds = s.kinds d; types = s.types d; words = few.words }

-- each word of the first is one of the second
pub words-to : (few whole : TypedWords) → HaveSameWords few whole → (w : List ℕ) → In w few.words → In w whole.words
words-to few whole s w i = In-Contains whole.words w ((s.words w).0 (Contains-In w few.words i))

-- each word of the second is one of the first
pub words-from : (few whole : TypedWords) → HaveSameWords few whole → (w : List ℕ) → In w whole.words → In w few.words
words-from few whole s w i = words-to whole few (turned few whole s) w i

-- so their first traces are the same
pub alike-start : (few whole : TypedWords) → HaveSameWords few whole → Alike (by_type few.words) (by_type whole.words)
alike-start few whole s = alike-map (λ (w : List ℕ). map (λ (t : ℕ). record { typ = t; id = t }) w) few.words whole.words (words-to few whole s) (words-from few whole s)

-- the same is mined of both
pub same_mined : SameMined
same_mined few whole s =
    mined-as few.kinds (length few.types) few.words whole.words (words-to few whole s) (words-from few whole s)
    ∙ ap₂ (λ (kinds : Kinds) (types : List (List ℕ)). mined_for kinds (length types) (map with_ends whole.words)) s.kinds s.types

-- words that are the same use the same types
typed-over : (us vs : List (List ℕ)) (n : ℕ) → Alike (by_type us) (by_type vs) → AreTyped us n → AreTyped vs n
typed-over us vs n a t = record {
  two = t.two;
  range = all_from (λ (e : Event). (2 ≤ e.typ) × (e.typ < n)) (events (by_type vs)) (λ e i.
      all_in (λ (e : Event). (2 ≤ e.typ) × (e.typ < n)) e (events (by_type us)) t.range (event-over (by_type vs) (by_type us) a.from e i));
  each = λ p l m.
      let o : (e : Event) × In e (events (by_type us)) × (e.id ≡ p) = member-of p (events (by_type us)) (t.each p l m) in
      count-member p o.0 (events (by_type vs)) (event-over (by_type us) (by_type vs) a.to o.0 o.1) o.2;
}

-- a log with the words of a typed one is typed
pub typed-to : (few whole : TypedWords) → HaveSameWords few whole → IsTypedLog few → IsTypedLog whole
typed-to few whole s t =
    subst (λ (types : List (List ℕ)). AreTyped whole.words (length types + 2)) s.types
    (typed-over few.words whole.words (length few.types + 2) (alike-start few whole s) t)

-- the one is typed exactly if the other is
pub same_typed : SameTyped
same_typed few whole s = (λ t. typed-to few whole s t, λ t. typed-to whole few (turned few whole s) t)

-- a model that is valid for the one is valid for the other
valid-to : (few whole : TypedWords) (m : Model) → HaveSameWords few whole → IsValid m few → IsValid m whole
valid-to few whole m s v = record {
  types = v.types ∙ s.types;
  listing = v.listing ∙ same_mined few whole s;
  traces = all_from (IsAccepted m) whole.words (λ w i. all_in (IsAccepted m) w few.words v.traces (words-from few whole s w i));
  labels = v.labels;
  blocks = v.blocks;
}

-- a model is valid for the one exactly if it is for the other
pub same_valid : SameValid
same_valid few whole m s = (λ v. valid-to few whole m s v, λ v. valid-to whole few m (turned few whole s) v)
