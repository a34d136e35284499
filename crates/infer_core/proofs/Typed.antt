-- The words of a log are typed and within the limits.
use Rattle.std.proofs.Common.{◌≡◌, ℕ, zero, suc, ◌+◌, ◌<◌, ◌≤◌, true, List, [], ◌∷◌, map, length, slice_get, Some, All, sum_by, sym, ◌∙◌, refl, ap, subst, arith}
use Rattle.std.proofs.lemmas.Bool.{or_left, or_right, false≢true}
use Rattle.std.proofs.lemmas.List.{length-map}
use Rattle.std.proofs.lemmas.List.Elements.{All-head, All-tail}
use Rattle.std.proofs.lemmas.List.Sums.{sum_by-cons}
use Rattle.std.proofs.lemmas.Slice.Eq.{bytes_eq-Decides}
use Rattle.std.specs.List.{AllByRecursion, list_any}
use Rattle.std.specs.Str.{bytes_eq}
use Rattle.limits.specs.declared.TheConstants.{FIRST_TYPE, MAX_EVENTS, MAX_TYPES, MAX_TYPE_BYTES}
use Rattle.invariants.specs.declared.Kinds.{Kinds}
use Rattle.traces.specs.Words.{Log, Trace, AreApart, event_count_of}
use Rattle.partition_model.specs.Laws.{AreTyped}
use Rattle.partition_model.proofs.Runs.{words-typed}
use Rattle.model_shape.specs.Shapes.{IsTypeText}
use Rattle.models.specs.Laws.{IsTypedLog}
use Rattle.models.specs.Limits.{IsWithinLimits}
use Rattle.partition_graph.specs.Parts.{inner_words_of, start_of}
use Rattle.partition_graph.specs.Starts.{AreTypedParts}
use Rattle.models.specs.Models.{typed_words}

-- each event has the number of a type, and each type's number is that of some event
pub log-typed : (kinds : Kinds) (log : Log) → AreTypedParts (start_of log) → IsTypedLog (typed_words kinds log)
log-typed kinds log t = subst (λ (ws : List (List ℕ)). AreTyped ws (length log.types + FIRST_TYPE)) (words-typed (inner_words_of log)) t

-- a text that stands in a list is one of it
stands-at : (t : List ℕ) (ts : List (List ℕ)) (k : ℕ) (text : List ℕ) → slice_get ts k ≡ Some text → t ≡ text → list_any (bytes_eq t) ts ≡ true
stands-at t [] k text g e = absurd cc
stands-at t (x ∷ ts) zero text g e = let same : x ≡ text = cc in or_left (bytes_eq t x) (list_any (bytes_eq t) ts) ((bytes_eq-Decides t x).1 (e ∙ sym same))
stands-at t (x ∷ ts) (suc k) text g e = or_right (bytes_eq t x) (list_any (bytes_eq t) ts) (stands-at t ts k text g e)

-- texts no two of which are the same have one place each
one-place : (ts : List (List ℕ)) → AreApart bytes_eq ts → (j k : ℕ) (text : List ℕ) → slice_get ts j ≡ Some text → slice_get ts k ≡ Some text → j ≡ k
one-place [] a j k text e f = absurd cc
one-place (t ∷ ts) a zero zero text e f = refl
one-place (t ∷ ts) a zero (suc k) text e f =
    let same : t ≡ text = cc in
    absurd (false≢true (sym a.0 ∙ stands-at t ts k text f same))
one-place (t ∷ ts) a (suc j) zero text e f =
    let same : t ≡ text = cc in
    absurd (false≢true (sym a.0 ∙ stands-at t ts j text e same))
one-place (t ∷ ts) a (suc j) (suc k) text e f = ap suc (one-place ts a.1 j k text e f)

each-text : (ts : List (List ℕ)) → All (λ text. 0 < length text) ts → All (λ text. length text ≤ MAX_TYPE_BYTES) ts → AllByRecursion IsTypeText ts
each-text [] some short = tt
each-text (t ∷ ts) some short = (
  record { some = All-head (λ text. 0 < length text) t ts some; short = All-head (λ text. length text ≤ MAX_TYPE_BYTES) t ts short },
  each-text ts (All-tail (λ text. 0 < length text) t ts some) (All-tail (λ text. length text ≤ MAX_TYPE_BYTES) t ts short),
)

events-of : (traces : List Trace) → sum_by (λ w. length w) (map (λ (trace : Trace). trace.events) traces) ≡ event_count_of traces
events-of [] = refl
events-of (t ∷ traces) =
    let a : sum_by (λ (w : List ℕ). length w) (t.events ∷ map (λ (trace : Trace). trace.events) traces) ≡ length t.events + sum_by (λ (w : List ℕ). length w) (map (λ (trace : Trace). trace.events) traces) =
    sum_by-cons (λ (w : List ℕ). length w) t.events (map (λ (trace : Trace). trace.events) traces) in
    let b : event_count_of (t ∷ traces) ≡ length t.events + event_count_of traces = sum_by-cons (λ (trace : Trace). length trace.events) t traces in
    let c : sum_by (λ (w : List ℕ). length w) (map (λ (trace : Trace). trace.events) traces) ≡ event_count_of traces = events-of traces in
    omega arith

-- what a set of traces says of its types, its traces and its events
pub log-within : (kinds : Kinds) (log : Log) → length log.types ≤ MAX_TYPES → All (λ text. 0 < length text) log.types → All (λ text. length text ≤ MAX_TYPE_BYTES) log.types → AreApart bytes_eq log.types
    → length log.traces ≤ MAX_EVENTS → event_count_of log.traces ≤ MAX_EVENTS → IsWithinLimits (typed_words kinds log)
log-within kinds log few some short apart traces events = record {
  types = record { few = few; each = each-text log.types some short; apart = one-place log.types apart };
  few_traces = omega (arith, length-map log.traces (λ (trace : Trace). trace.events));
  few_events = omega (arith, events-of log.traces);
}
