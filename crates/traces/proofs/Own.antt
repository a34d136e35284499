-- Each trace of a log has its key's events, and no others.
use Rattle.std.proofs.Common.{◌≡◌, ℕ, zero, suc, ◌+◌, Bool, true, false, ◌==◌, ◌&&◌, List, [], ◌∷◌, map, filter, length, cond, nat_le, refl, ap, ◌∙◌, ⊎_elim, arith, subst, Some}
use Rattle.std.proofs.lemmas.Bool.{cases_Bool, cond-true, cond-false}
use Rattle.std.proofs.lemmas.Option.{same_Some, none-some}
use Rattle.std.proofs.lemmas.List.Sums.{sum_by-cons}
use Rattle.std.specs.List.{slice_get}
use Rattle.traces.specs.Laws.{HasItsOwn, NoEventIsLost, TracesHaveTheirOwn}
use Rattle.traces.specs.Words.{Event, Key, Trace, event_count_of, events_of_key, gathered_trace, insert_by, keys_of, number_of, ordered_by, same_key, trace_of, types_of}
use Rattle.traces.proofs.Grown.{count-gathered_of}
use Rattle.traces.proofs.Timed.{length-ordered_by}
use Rattle.traces.proofs.TracesInTime.{length-map}

-- ---- how many items pass a test

one-more : {X : Type 0} (b : Bool) (x : X) (xs : List X) → length (cond b (x ∷ xs) xs) ≡ cond b 1 0 + length xs
one-more true x xs = omega arith
one-more false x xs = omega arith

insert-passing : {X : Type 0} (p : X → Bool) (f : X → ℕ) (x : X) (xs : List X) → length (filter p (insert_by f x xs)) ≡ length (filter p (x ∷ xs))
insert-passing p f x [] = refl
insert-passing p f x (y ∷ xs) = ⊎_elim
    (λ before. ap (λ ys. length (filter p ys)) (cond-true (nat_le (f x) (f y)) (x ∷ y ∷ xs) (y ∷ insert_by f x xs) before))
    (λ later. ap (λ ys. length (filter p ys)) (cond-false (nat_le (f x) (f y)) (x ∷ y ∷ xs) (y ∷ insert_by f x xs) later)
    ∙ omega (arith, one-more (p y) y (filter p (insert_by f x xs)), insert-passing p f x xs, one-more (p x) x (filter p xs), one-more (p x) x (filter p (y ∷ xs)), one-more (p y) y (filter p xs)))
    (cases_Bool (nat_le (f x) (f y)))

ordered-passing : {X : Type 0} (p : X → Bool) (f : X → ℕ) (xs : List X) → length (filter p (ordered_by f xs)) ≡ length (filter p xs)
ordered-passing p f [] = refl
ordered-passing p f (x ∷ xs) =
    insert-passing p f x (ordered_by f xs)
    ∙ omega (arith, one-more (p x) x (filter p (ordered_by f xs)), one-more (p x) x (filter p xs), ordered-passing p f xs)

map-passing : {X Y : Type 0} (p : Y → Bool) (g : X → Y) (xs : List X) → length (filter p (map g xs)) ≡ length (filter (λ x. p (g x)) xs)
map-passing p g [] = refl
map-passing p g (x ∷ xs) =
    omega (arith, one-more (p (g x)) (g x) (filter p (map g xs)), one-more (p (g x)) x (filter (λ x. p (g x)) xs), map-passing p g xs)

both-tests : {X : Type 0} (p : X → Bool) (q : X → Bool) (b : Bool) (x : X) (xs : List X)
    → filter p (cond b (x ∷ xs) xs) ≡ cond (b && p x) (x ∷ filter p xs) (filter p xs)
both-tests p q true x xs = refl
both-tests p q false x xs = refl

filter-passing : {X : Type 0} (p q : X → Bool) (xs : List X) → length (filter p (filter q xs)) ≡ length (filter (λ x. q x && p x) xs)
filter-passing p q [] = refl
filter-passing p q (x ∷ xs) =
    ap length (both-tests p q (q x) x (filter q xs))
    ∙ omega (arith, one-more (q x && p x) x (filter p (filter q xs)), one-more (q x && p x) x (filter (λ x. q x && p x) xs), filter-passing p q xs)

-- ---- traces

at-map : {X Y : Type 0} (f : X → Y) (xs : List X) (k : ℕ) (y : Y) → slice_get (map f xs) k ≡ Some y → (x : X) × (slice_get xs k ≡ Some x) × (f x ≡ y)
at-map f [] k y at = absurd (none-some y at)
at-map f (x ∷ xs) zero y at = (x, refl, same_Some (f x) y at)
at-map f (x ∷ xs) (suc k) y at = at-map f xs k y at

own-events : (events : List Event) (k : ℕ) (key : Key) → slice_get (keys_of events) k ≡ Some key → HasItsOwn events k (trace_of events key)
own-events events k key at = record {
  named = at;
  own = λ n.
      let number : Event → ℕ = λ e. number_of (types_of events) e.typ in
      map-passing (λ m. m == n) number (ordered_by (λ (e : Event). e.time) (events_of_key events key))
      ∙ (ordered-passing (λ e. number e == n) (λ (e : Event). e.time) (events_of_key events key)
      ∙ filter-passing (λ e. number e == n) (λ e. same_key key e.key) events);
}

-- each trace has its own events
pub traces-have-their-own : TracesHaveTheirOwn
traces-have-their-own events k trace at =
    let found = at-map (trace_of events) (keys_of events) k trace at in
    subst (HasItsOwn events k) found.2 (own-events events k found.0 found.1)

-- a trace in order has as many events as it had
same-lengths : (events : List Event) (keys : List Key) → event_count_of (map (trace_of events) keys) ≡ event_count_of (map (gathered_trace events) keys)
same-lengths events [] = refl
same-lengths events (key ∷ keys) =
    let count : Trace → ℕ = λ trace. length trace.events in
    omega (
      arith,
      sum_by-cons count (trace_of events key) (map (trace_of events) keys),
      sum_by-cons count (gathered_trace events key) (map (gathered_trace events) keys),
      length-map (λ (e : Event). number_of (types_of events) e.typ) (ordered_by (λ (e : Event). e.time) (events_of_key events key)),
      length-map (λ (e : Event). number_of (types_of events) e.typ) (events_of_key events key),
      length-ordered_by (λ (e : Event). e.time) (events_of_key events key),
      same-lengths events keys,
    )

-- each event is in one trace
pub no-event-is-lost : NoEventIsLost
no-event-is-lost events = same-lengths events (keys_of events) ∙ count-gathered_of events
