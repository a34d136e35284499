-- In the first assignment of a log each event has the number of a type, and each type has an event.
use Rattle.std.proofs.Common.{◌≡◌, ℕ, zero, suc, ◌+◌, ◌<◌, ◌≤◌, Bool, true, false, List, [], ◌∷◌, length, map, filter, arith, ap, sym, ◌∙◌, refl, subst, inl, inr, true≢false, nat_le}
use Rattle.std.proofs.lemmas.Bool.{cases_Bool, cond-true, cond-false, or_cases, or_left, or_right, not_from_true, not_from_false, false_from_ne_true}
use Rattle.std.proofs.lemmas.Slice.Eq.{bytes_eq-Decides}
use Rattle.std.specs.List.{list_any, position_or_len}
use Rattle.std.specs.Str.{bytes_eq}
use Rattle.traces.specs.Words.{Event as LogEvent, Key, Trace, AreApart, same_key, types_of, keys_of, number_of, insert_by, ordered_by, in_time, events_of_key, trace_of, log_of}
use Rattle.traces.proofs.FirstMet.{types-first_met, keys-first_met}
use Rattle.traces.proofs.Grown.{same_key-refl, same_key-≡, position-within}
use Rattle.partition_model.specs.Assignments.{Event, events, members, by_type, inner_words}
use Rattle.partition_model.specs.Laws.{AreTyped}
use Rattle.partition_model.proofs.Lists.{In, In-map, map-In, all_from, events-In, In-events, count-member}
use Rattle.partition_model.proofs.Runs.{words-typed}
use Rattle.partition_graph.specs.Parts.{start_of, inner_words_of}
use Rattle.partition_graph.proofs.WordCells.{named}

-- members of lists
any-In : {X : Type 0} (p : X → Bool) (xs : List X) → list_any p xs ≡ true → (x : X) × In x xs × (p x ≡ true)
any-In p [] has = absurd (true≢false (sym has))
any-In p (y ∷ xs) has =
    elim (or_cases (p y) (list_any p xs) has) [
      | inl hit ↦ (y, inl refl, hit)
      | inr later ↦ let o : (x : _) × In x xs × (p x ≡ true) = any-In p xs later in (o.0, inr o.1, o.2)
    ]

In-any : {X : Type 0} (p : X → Bool) (x : X) (xs : List X) → In x xs → p x ≡ true → list_any p xs ≡ true
In-any p x [] i hit = absurd i
In-any p x (y ∷ xs) (inl e) hit = or_left _ _ (ap p e ∙ hit)
In-any p x (y ∷ xs) (inr r) hit = or_right _ _ (In-any p x xs r hit)

filter-In : {X : Type 0} (p : X → Bool) (x : X) (xs : List X) → In x (filter p xs) → In x xs
filter-In p x [] i = i
filter-In p x (y ∷ xs) i =
    elim (cases_Bool (p y)) [
      | inl t ↦
          let j : In x (y ∷ filter p xs) = subst (In x) (cond-true _ _ _ t) i in
          elim j [ inl e ↦ inl e | inr r ↦ inr (filter-In p x xs r) ]
      | inr f ↦ inr (filter-In p x xs (subst (In x) (cond-false _ _ _ f) i))
    ]

In-filter : {X : Type 0} (p : X → Bool) (x : X) (xs : List X) → In x xs → p x ≡ true → In x (filter p xs)
In-filter p x [] i hit = i
In-filter p x (y ∷ xs) (inl e) hit = subst (In x) (sym (cond-true _ _ _ (ap p e ∙ hit))) (inl e)
In-filter p x (y ∷ xs) (inr r) hit =
    elim (cases_Bool (p y)) [
      | inl t ↦ subst (In x) (sym (cond-true _ _ _ t)) (inr (In-filter p x xs r hit))
      | inr f ↦ subst (In x) (sym (cond-false _ _ _ f)) (In-filter p x xs r hit)
    ]

-- and of lists in order
insert-In : {X : Type 0} (f : X → ℕ) (n x : X) (xs : List X) → In x (insert_by f n xs) → In x (n ∷ xs)
insert-In f n x [] i = i
insert-In f n x (y ∷ xs) i =
    elim (cases_Bool (nat_le (f n) (f y))) [
      | inl t ↦ subst (In x) (cond-true _ _ _ t) i
      | inr d ↦
          let j : In x (y ∷ insert_by f n xs) = subst (In x) (cond-false _ _ _ d) i in
          elim j [
            | inl e ↦ inr (inl e)
            | inr r ↦ elim (insert-In f n x xs r) [ inl e ↦ inl e | inr s ↦ inr (inr s) ]
          ]
    ]

In-insert : {X : Type 0} (f : X → ℕ) (n x : X) (xs : List X) → In x (n ∷ xs) → In x (insert_by f n xs)
In-insert f n x [] i = i
In-insert f n x (y ∷ xs) i =
    elim (cases_Bool (nat_le (f n) (f y))) [
      | inl t ↦ subst (In x) (sym (cond-true _ _ _ t)) i
      | inr d ↦
          subst (In x) (sym (cond-false _ _ _ d))
          (elim i [
            | inl e ↦ inr (In-insert f n x xs (inl e))
            | inr r ↦ elim r [ inl e ↦ inl e | inr s ↦ inr (In-insert f n x xs (inr s)) ]
          ])
    ]

ordered-In : {X : Type 0} (f : X → ℕ) (x : X) (xs : List X) → In x (ordered_by f xs) → In x xs
ordered-In f x [] i = i
ordered-In f x (y ∷ xs) i = elim (insert-In f y x (ordered_by f xs) i) [ inl e ↦ inl e | inr r ↦ inr (ordered-In f x xs r) ]

In-ordered : {X : Type 0} (f : X → ℕ) (x : X) (xs : List X) → In x xs → In x (ordered_by f xs)
In-ordered f x [] i = i
In-ordered f x (y ∷ xs) (inl e) = In-insert f y x (ordered_by f xs) (inl e)
In-ordered f x (y ∷ xs) (inr r) = In-insert f y x (ordered_by f xs) (inr (In-ordered f x xs r))

-- the type at a place has that place
bytes-same : (t : List ℕ) → bytes_eq t t ≡ true
bytes-same t = (bytes_eq-Decides t t).1 refl

later-place : {X : Type 0} (p : X → Bool) (x : X) (xs : List X) → p x ≡ false → position_or_len p (x ∷ xs) ≡ position_or_len p xs + 1
later-place p x xs miss = cond-true _ _ _ (not_from_false _ miss) ∙ omega arith

type-at : (types : List (List ℕ)) (k : ℕ) → AreApart bytes_eq types → k < length types → (t : List ℕ) × In t types × (position_or_len (bytes_eq t) types ≡ k)
type-at [] k apart l = absurd (omega arith)
type-at (y ∷ ys) zero apart l = (y, inl refl, cond-false _ _ _ (not_from_true _ (bytes-same y)))
type-at (y ∷ ys) (suc k) apart l =
    let o : (t : List ℕ) × In t ys × (position_or_len (bytes_eq t) ys ≡ k) = type-at ys k apart.1 (omega arith) in
    let miss : bytes_eq o.0 y ≡ false =
    false_from_ne_true (bytes_eq o.0 y) (λ hit. true≢false (sym (In-any (bytes_eq y) o.0 ys o.1 (subst (λ (t : List ℕ). bytes_eq y t ≡ true) (sym ((bytes_eq-Decides o.0 y).0 hit)) (bytes-same y))) ∙ apart.0)) in
    (o.0, inr o.1, omega (arith, later-place (bytes_eq o.0) y ys miss, o.2))

-- each event's number is that of a type
number-within : (es : List LogEvent) (e : LogEvent) → In e es → (2 ≤ number_of (types_of es) e.typ) × (number_of (types_of es) e.typ < length (types_of es) + 2)
number-within es e i =
    let typ : LogEvent → List ℕ = λ x. x.typ in
    let met : list_any (bytes_eq e.typ) (types_of es) ≡ true =
    (types-first_met (map typ es) []).members e.typ ∙ In-any (bytes_eq e.typ) e.typ (map typ es) (map-In typ e es i) (bytes-same e.typ) in
    let l : position_or_len (bytes_eq e.typ) (types_of es) < length (types_of es) = position-within (bytes_eq e.typ) (types_of es) met in
    (omega arith, omega arith)

numbered : (es : List LogEvent) (w : List ℕ) (t : ℕ) → In w (inner_words_of (log_of es)) → In t w → (2 ≤ t) × (t < length (types_of es) + 2)
numbered es w t i j =
    let a : (trace : Trace) × In trace (log_of es).traces × (trace.events ≡ w) = In-map (λ (trace : Trace). trace.events) w (log_of es).traces i in
    let b : (key : Key) × In key (keys_of es) × (trace_of es key ≡ a.0) = In-map (trace_of es) a.0 (keys_of es) a.1 in
    let k : In t (trace_of es b.0).events = subst (In t) (sym (ap (λ (trace : Trace). trace.events) b.2 ∙ a.2)) j in
    let number : LogEvent → ℕ = λ x. number_of (types_of es) x.typ in
    let c : (e : LogEvent) × In e (in_time (events_of_key es b.0)) × (number e ≡ t) = In-map number t (in_time (events_of_key es b.0)) k in
    let m : In c.0 es = filter-In (λ x. same_key b.0 x.key) c.0 es (ordered-In (λ (x : LogEvent). x.time) c.0 (events_of_key es b.0) c.1) in
    subst (λ (n : ℕ). (2 ≤ n) × (n < length (types_of es) + 2)) c.2 (number-within es c.0 m)

-- each type has an event
event-of-type : (es : List LogEvent) (k : ℕ) → k < length (types_of es) → (e : LogEvent) × In e es × (number_of (types_of es) e.typ ≡ k + 2)
event-of-type es k l =
    let typ : LogEvent → List ℕ = λ x. x.typ in
    let first = types-first_met (map typ es) [] in
    let o : (t : List ℕ) × In t (types_of es) × (position_or_len (bytes_eq t) (types_of es) ≡ k) = type-at (types_of es) k first.apart l in
    let met : list_any (bytes_eq o.0) (map typ es) ≡ true = sym (first.members o.0) ∙ In-any (bytes_eq o.0) o.0 (types_of es) o.1 (bytes-same o.0) in
    let a : (t : List ℕ) × In t (map typ es) × (bytes_eq o.0 t ≡ true) = any-In (bytes_eq o.0) (map typ es) met in
    let b : (e : LogEvent) × In e es × (typ e ≡ a.0) = In-map typ a.0 es a.1 in
    let same : o.0 ≡ b.0.typ = (bytes_eq-Decides o.0 a.0).0 a.2 ∙ sym b.2 in
    (b.0, b.1, ap (λ (n : ℕ). n + 2) (subst (λ (t : List ℕ). position_or_len (bytes_eq t) (types_of es) ≡ k) same o.2))

word-of-event : (es : List LogEvent) (e : LogEvent) → In e es → (w : List ℕ) × In w (inner_words_of (log_of es)) × In (number_of (types_of es) e.typ) w
word-of-event es e i =
    let key : LogEvent → Key = λ x. x.key in
    let met : list_any (same_key e.key) (keys_of es) ≡ true =
    (keys-first_met (map key es) []).members e.key ∙ In-any (same_key e.key) e.key (map key es) (map-In key e es i) (same_key-refl e.key) in
    let a : (k : Key) × In k (keys_of es) × (same_key e.key k ≡ true) = any-In (same_key e.key) (keys_of es) met in
    let own : same_key a.0 e.key ≡ true = subst (λ (k : Key). same_key k e.key ≡ true) (same_key-≡ e.key a.0 a.2) (same_key-refl e.key) in
    let m : In e (in_time (events_of_key es a.0)) =
    In-ordered (λ (x : LogEvent). x.time) e (events_of_key es a.0) (In-filter (λ x. same_key a.0 x.key) e es i own) in
    let number : LogEvent → ℕ = λ x. number_of (types_of es) x.typ in (
      (trace_of es a.0).events,
      map-In (λ (trace : Trace). trace.events) (trace_of es a.0) (log_of es).traces (map-In (trace_of es) a.0 (keys_of es) a.1),
      map-In number e (in_time (events_of_key es a.0)) m,
    )

-- the events of the first assignment
word-event : (ws : List (List ℕ)) (w : List ℕ) (t : ℕ) → In w ws → In t w → In (named t) (events (by_type ws))
word-event ws w t i j = In-events (named t) (map named w) (by_type ws) (map-In (λ (v : List ℕ). map named v) w ws i) (map-In named t w j)

event-word : (ws : List (List ℕ)) (e : Event) → In e (events (by_type ws)) → (w : List ℕ) × In w ws × In e.typ w
event-word ws e i =
    let a : (trace : List Event) × In trace (by_type ws) × In e trace = events-In e (by_type ws) i in
    let b : (w : List ℕ) × In w ws × (map named w ≡ a.0) = In-map (λ (v : List ℕ). map named v) a.0 ws a.1 in
    let c : (t : ℕ) × In t b.0 × (named t ≡ e) = In-map named e b.0 (subst (In e) (sym b.2) a.2) in
    (b.0, b.1, subst (λ (t : ℕ). In t b.0) (ap (λ (x : Event). x.typ) c.2) c.1)

words-typed-by : (es : List LogEvent) → AreTyped (inner_words_of (log_of es)) (length (types_of es) + 2)
words-typed-by es =
    let ws : List (List ℕ) = inner_words_of (log_of es) in
    record {
      two = omega arith;
      range =
          all_from (λ (e : Event). (2 ≤ e.typ) × (e.typ < length (types_of es) + 2)) (events (by_type ws))
          (λ e i. let a : (w : List ℕ) × In w ws × In e.typ w = event-word ws e i in numbered es a.0 e.typ a.1 a.2);
      each = λ p l u. each-type es p l u;
    }
  where
    each-type : (es : List LogEvent) (p : ℕ) → 2 ≤ p → p < length (types_of es) + 2 → 0 < members (by_type (inner_words_of (log_of es))) p
    each-type es zero l u = absurd (omega arith)
    each-type es (suc zero) l u = absurd (omega arith)
    each-type es (suc (suc k)) l u =
        let ws : List (List ℕ) = inner_words_of (log_of es) in
        let a : (e : LogEvent) × In e es × (number_of (types_of es) e.typ ≡ k + 2) = event-of-type es k (omega arith) in
        let n : ℕ = number_of (types_of es) a.0.typ in
        let b : (w : List ℕ) × In w ws × In n w = word-of-event es a.0 a.1 in
        count-member (suc (suc k)) (named n) (events (by_type ws)) (word-event ws b.0 n b.1 b.2) (let q : n ≡ k + 2 = a.2 in omega arith)

-- the first assignment of a log has the types of the log
pub start-typed : (es : List LogEvent) → AreTyped (inner_words (start_of (log_of es)).traces) (start_of (log_of es)).used
start-typed es = subst (λ (ws : List (List ℕ)). AreTyped ws (length (types_of es) + 2)) (sym (words-typed (inner_words_of (log_of es)))) (words-typed-by es)
