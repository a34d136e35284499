-- Events in the order of their traces are the events of the traces.
use Rattle.std.proofs.Common.{◌≡◌, ℕ, Bool, true, false, true≢false, ◌==◌, List, [], ◌∷◌, map, filter, cond, nat_le, nat_cmp, is_lt, refl, sym, ap, ◌∙◌, subst, ⊎_elim, arith, Some}
use Rattle.std.proofs.lemmas.Bool.{cases_Bool, cond-true, cond-false, and_parts, and_from, ne_eqb}
use Rattle.std.proofs.lemmas.Bool.Decides.{nat_tests, Decides-eqb}
use Rattle.std.proofs.lemmas.List.Elements.{filter_agree}
use Rattle.std.proofs.lemmas.Option.{same_Some}
use Rattle.std.specs.List.{list_all, list_any, slice_get, position_or_len}
use Rattle.std.specs.List.Sorted.{ties, IsNonDecreasingBy, IsStableByKey}
use Rattle.trace_keys.specs.Keys.{Key, AreApart, same_key}
use Rattle.trace_keys.proofs.Keys.{same_key-refl, same_key-≡, any-stands, key-at}
use Rattle.traces.specs.Words.{Event as KeyedEvent, AreOrderedBy, events_of_key, insert_by, keys_of, number_of, ordered_by, trace_of, types_of}
use Rattle.traces.proofs.FirstMet.{keys-first_met}
use Rattle.traces.proofs.StableOrder.{ordered-at, ordered-unique, ordered_by-ordered, ordered_by-stable}
use Rattle.log_reader.specs.LogLines.{Line, events_at}
use Rattle.log_reader.specs.Reading.{Setting}
use Rattle.log_reader.specs.declared.refusal.At.{At}
use Rattle.events.specs.Located.{by_traces, events_located, events_with_lines, located_in, numbers_of_trace, times_of_trace}
use Rattle.events.specs.declared.located.Located.{Located}
use Rattle.events.proofs.Locating.{without-lines}
use Rattle.events.proofs.Numbering.{AreMet, are-met}

-- a stable sort gives the order by numbers

ties-at : (m n : ℕ) → ties (λ x y. is_lt (nat_cmp x y)) m n ≡ (n == m)
ties-at m n = ⊎_elim (λ tie. grind (arith, nat_tests)) (λ apart. grind (arith, nat_tests)) (cases_Bool (n == m))

-- where there is an item of each number
pub sorted-by : {X : Type 0} (f : X → ℕ) (item : ℕ → X) → ((n : ℕ) → f (item n) ≡ n) → (xs ys : List X) → IsNonDecreasingBy f ys → IsStableByKey f nat_cmp xs ys → ys ≡ ordered_by f xs
sorted-by {X} f item has xs ys sorted stable =
    ordered-unique f ys (ordered_by f xs) (ordered-at f ys sorted) (ordered_by-ordered f xs)
    (λ n.
    let tie : X → Bool = ties (λ x y. is_lt (nat_cmp (f x) (f y))) (item n) in
    let is_tie : (x : X) → tie x ≡ (f x == n) = λ x. ties-at (f (item n)) (f x) ∙ ap (λ m. f x == m) (has n) in
    sym (filter_agree tie (λ x. f x == n) is_tie ys) ∙ (stable (item n) ∙ (filter_agree tie (λ x. f x == n) is_tie xs ∙ sym (ordered_by-stable f n xs))))

-- an event of each number
pub event_of_number : ℕ → Located
event_of_number n = record { at = record { file = 0; line = 0 }; trace = n; number = 0; time = n }

pub sorted-by-trace : (xs ys : List Located) → IsNonDecreasingBy (λ event. event.trace) ys → IsStableByKey (λ event. event.trace) nat_cmp xs ys → ys ≡ ordered_by (λ event. event.trace) xs
unfolding event_of_number
sorted-by-trace xs ys sorted stable = sorted-by (λ (event : Located). event.trace) event_of_number (λ n. refl) xs ys sorted stable

pub sorted-by-time : (xs ys : List Located) → IsNonDecreasingBy (λ event. event.time) ys → IsStableByKey (λ event. event.time) nat_cmp xs ys → ys ≡ ordered_by (λ event. event.time) xs
unfolding event_of_number
sorted-by-time xs ys sorted stable = sorted-by (λ (event : Located). event.time) event_of_number (λ n. refl) xs ys sorted stable

-- items that pass a test stand in the same order

swap-tests : {X : Type 0} (a b : Bool) (x : X) (both : List X) → cond b (cond a (x ∷ both) both) both ≡ cond a (cond b (x ∷ both) both) both
swap-tests true true x both = refl
swap-tests true false x both = refl
swap-tests false true x both = refl
swap-tests false false x both = refl

filter-cond : {X : Type 0} (p : X → Bool) (b : Bool) (x : X) (xs : List X) → filter p (cond b (x ∷ xs) xs) ≡ cond b (cond (p x) (x ∷ filter p xs) (filter p xs)) (filter p xs)
filter-cond p true x xs = refl
filter-cond p false x xs = refl

filter-swap : {X : Type 0} (p q : X → Bool) (xs : List X) → filter p (filter q xs) ≡ filter q (filter p xs)
filter-swap p q [] = refl
filter-swap {X} p q (x ∷ xs) =
    filter-cond p (q x) x (filter q xs)
    ∙ (ap (λ (ys : List X). cond (q x) (cond (p x) (x ∷ ys) ys) ys) (filter-swap p q xs)
    ∙ (swap-tests (p x) (q x) x (filter q (filter p xs)) ∙ sym (filter-cond q (p x) x (filter p xs))))

all-filter : {X : Type 0} (p q : X → Bool) (xs : List X) → list_all q xs ≡ true → list_all q (filter p xs) ≡ true
all-filter p q [] all = refl
all-filter p q (x ∷ xs) all =
    let parts = and_parts (q x) (list_all q xs) all in
    ⊎_elim
    (λ passes. ap (list_all q) (cond-true (p x) (x ∷ filter p xs) (filter p xs) passes) ∙ and_from _ _ parts.0 (all-filter p q xs parts.1))
    (λ fails. ap (list_all q) (cond-false (p x) (x ∷ filter p xs) (filter p xs) fails) ∙ all-filter p q xs parts.1)
    (cases_Bool (p x))

ordered-filter : {X : Type 0} (p : X → Bool) (f : X → ℕ) (xs : List X) → AreOrderedBy f xs → AreOrderedBy f (filter p xs)
ordered-filter p f [] ordered = tt
ordered-filter p f (x ∷ xs) ordered = ⊎_elim
    (λ passes. subst (AreOrderedBy f) (sym (cond-true (p x) (x ∷ filter p xs) (filter p xs) passes)) (all-filter p (λ y. nat_le (f x) (f y)) xs ordered.0, ordered-filter p f xs ordered.1))
    (λ fails. subst (AreOrderedBy f) (sym (cond-false (p x) (x ∷ filter p xs) (filter p xs) fails)) (ordered-filter p f xs ordered.1))
    (cases_Bool (p x))

filter-ordered : {X : Type 0} (p : X → Bool) (f : X → ℕ) (xs : List X) → filter p (ordered_by f xs) ≡ ordered_by f (filter p xs)
filter-ordered p f xs =
    ordered-unique f (filter p (ordered_by f xs)) (ordered_by f (filter p xs))
    (ordered-filter p f (ordered_by f xs) (ordered_by-ordered f xs)) (ordered_by-ordered f (filter p xs))
    (λ n. filter-swap (λ x. f x == n) p (ordered_by f xs)
    ∙ (ap (filter p) (ordered_by-stable f n xs) ∙ (filter-swap p (λ x. f x == n) xs ∙ sym (ordered_by-stable f n (filter p xs)))))

-- what is made of items stands in the order of the items

map-cond : {X Y : Type 0} (g : X → Y) (b : Bool) (x : X) (xs : List X) → map g (cond b (x ∷ xs) xs) ≡ cond b (g x ∷ map g xs) (map g xs)
map-cond g true x xs = refl
map-cond g false x xs = refl

filter-map : {X Y : Type 0} (p : Y → Bool) (g : X → Y) (xs : List X) → filter p (map g xs) ≡ map g (filter (λ x. p (g x)) xs)
filter-map p g [] = refl
filter-map {X} {Y} p g (x ∷ xs) =
    ap (λ (ys : List Y). cond (p (g x)) (g x ∷ ys) ys) (filter-map p g xs) ∙ sym (map-cond g (p (g x)) x (filter (λ x. p (g x)) xs))

insert-map : {X Y : Type 0} (f : Y → ℕ) (g : X → Y) (x : X) (xs : List X) → insert_by f (g x) (map g xs) ≡ map g (insert_by (λ z. f (g z)) x xs)
insert-map f g x [] = refl
insert-map f g x (y ∷ xs) = ⊎_elim
    (λ before. cond-true _ _ _ before ∙ sym (ap (map g) (cond-true (nat_le (f (g x)) (f (g y))) (x ∷ y ∷ xs) (y ∷ insert_by (λ z. f (g z)) x xs) before)))
    (λ later. cond-false _ _ _ later
    ∙ (ap (λ ys. g y ∷ ys) (insert-map f g x xs) ∙ sym (ap (map g) (cond-false (nat_le (f (g x)) (f (g y))) (x ∷ y ∷ xs) (y ∷ insert_by (λ z. f (g z)) x xs) later))))
    (cases_Bool (nat_le (f (g x)) (f (g y))))

ordered-map : {X Y : Type 0} (f : Y → ℕ) (g : X → Y) (xs : List X) → ordered_by f (map g xs) ≡ map g (ordered_by (λ z. f (g z)) xs)
ordered-map f g [] = refl
ordered-map f g (x ∷ xs) = ap (insert_by f (g x)) (ordered-map f g xs) ∙ insert-map f g x (ordered_by (λ z. f (g z)) xs)

map-twice : {X Y Z : Type 0} (f : X → Y) (g : Y → Z) (xs : List X) → map g (map f xs) ≡ map (λ x. g (f x)) xs
map-twice f g [] = refl
map-twice f g (x ∷ xs) = ap (λ ys. g (f x) ∷ ys) (map-twice f g xs)

map-alike : {X Y : Type 0} (f g : X → Y) → ((x : X) → f x ≡ g x) → (xs : List X) → map f xs ≡ map g xs
map-alike f g alike [] = refl
map-alike {X} {Y} f g alike (x ∷ xs) = ap (λ (y : Y). y ∷ map f xs) (alike x) ∙ ap (λ (ys : List Y). g x ∷ ys) (map-alike f g alike xs)

-- what is made of the items that pass, in order
made-in-order : {X Y Z : Type 0} (p : Y → Bool) (f : Y → ℕ) (h : Y → Z) (g : X → Y) (xs : List X)
    → map h (ordered_by f (filter p (map g xs))) ≡ map (λ x. h (g x)) (ordered_by (λ x. f (g x)) (filter (λ x. p (g x)) xs))
made-in-order p f h g xs =
    ap (λ ys. map h (ordered_by f ys)) (filter-map p g xs)
    ∙ (ap (map h) (ordered-map f g (filter (λ x. p (g x)) xs)) ∙ map-twice g h (ordered_by (λ x. f (g x)) (filter (λ x. p (g x)) xs)))

-- the events of a trace are those of its key

same-place : (keys : List Key) (k : ℕ) (key own : Key) → AreApart same_key keys → slice_get keys k ≡ Some key → list_any (same_key own) keys ≡ true
    → (position_or_len (same_key own) keys == k) ≡ same_key key own
same-place keys k key own apart at met = ⊎_elim
    (λ same.
    let is : k ≡ position_or_len (same_key own) keys = key-at keys k own apart (at ∙ ap (λ k. Some k) (same_key-≡ key own same)) in
    (Decides-eqb (position_or_len (same_key own) keys) k).1 (sym is) ∙ sym same)
    (λ differ.
    let stands = any-stands keys own met in
    ne_eqb (position_or_len (same_key own) keys) k (λ here.
    let there : slice_get keys k ≡ Some own = ap (slice_get keys) (sym here ∙ sym (key-at keys stands.0 own apart stands.1)) ∙ stands.1 in
    let is : key ≡ own = same_Some key own (sym at ∙ there) in
    true≢false (sym (subst (λ k. same_key key k ≡ true) is (same_key-refl key)) ∙ differ))
    ∙ sym differ)
    (cases_Bool (same_key key own))

module _ (events : List KeyedEvent) (k : ℕ) (key : Key) (at : slice_get (keys_of events) k ≡ Some key) where
  -- an event is of the trace
  abbrev is_of_trace : At × KeyedEvent → Bool
  is_of_trace p = (located_in events p).trace == k

  abbrev is_of_key : At × KeyedEvent → Bool
  is_of_key p = same_key key p.1.key

  of-key : (ps : List (At × KeyedEvent)) → AreMet events ps → filter is_of_trace ps ≡ filter is_of_key ps
  of-key [] met = refl
  of-key (p ∷ ps) met =
      ap (λ b. cond b (p ∷ filter is_of_trace ps) (filter is_of_trace ps)) (same-place (keys_of events) k key p.1.key (keys-first_met (map (λ (e : KeyedEvent). e.key) events) []).apart at met.0.key)
      ∙ ap (λ (qs : List (At × KeyedEvent)). cond (is_of_key p) (p ∷ qs) qs) (of-key ps met.1)

  -- what is made of the events of the trace
  of-trace : {Z : Type 0} (h : Located → Z) (own : KeyedEvent → Z) (ps : List (At × KeyedEvent)) → events ≡ map (λ (p : At × KeyedEvent). p.1) ps
      → ((p : At × KeyedEvent) → h (located_in events p) ≡ own p.1)
      → map h (filter (λ event. event.trace == k) (by_traces (map (located_in events) ps))) ≡ map own (ordered_by (λ (e : KeyedEvent). e.time) (events_of_key events key))
  of-trace h own ps are alike =
      let rows : List Located = map (located_in events) ps in
      let there : Located → Bool = λ event. event.trace == k in
      let time : Located → ℕ = λ event. event.time in
      let zs : List (At × KeyedEvent) = ordered_by (λ (p : At × KeyedEvent). p.1.time) (filter is_of_key ps) in
      ap (map h) (ordered_by-stable (λ (event : Located). event.trace) k (ordered_by time rows) ∙ filter-ordered there time rows)
      ∙ (made-in-order there time h (located_in events) ps
      ∙ (ap (λ (qs : List (At × KeyedEvent)). map (λ p. h (located_in events p)) (ordered_by (λ (p : At × KeyedEvent). p.1.time) qs)) (of-key ps (are-met events [] ps are))
      ∙ (map-alike (λ p. h (located_in events p)) (λ p. own p.1) alike zs
      ∙ (sym (made-in-order (λ (e : KeyedEvent). same_key key e.key) (λ (e : KeyedEvent). e.time) own (λ (p : At × KeyedEvent). p.1) ps)
      ∙ ap (λ (es : List KeyedEvent). map own (ordered_by (λ (e : KeyedEvent). e.time) (events_of_key es key))) (sym are)))))

pub types-of-trace : (s : Setting) (lines : List Line) (k : ℕ) (key : Key) → slice_get (keys_of (events_at s lines)) k ≡ Some key
    → numbers_of_trace k (by_traces (events_located s lines)) ≡ (trace_of (events_at s lines) key).events
types-of-trace s lines k key at =
    let events : List KeyedEvent = events_at s lines in
    of-trace events k key at (λ event. event.number) (λ e. number_of (types_of events) e.typ) (events_with_lines s lines) (sym (without-lines s lines)) (λ p. refl)

pub times-of-trace : (s : Setting) (lines : List Line) (k : ℕ) (key : Key) → slice_get (keys_of (events_at s lines)) k ≡ Some key
    → times_of_trace k (by_traces (events_located s lines)) ≡ (trace_of (events_at s lines) key).times
times-of-trace s lines k key at =
    let events : List KeyedEvent = events_at s lines in
    of-trace events k key at (λ event. event.time) (λ e. e.time) (events_with_lines s lines) (sym (without-lines s lines)) (λ p. refl)
