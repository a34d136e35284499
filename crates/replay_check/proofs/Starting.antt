-- The ids of the first assignment, word behind word.
use Rattle.std.proofs.Common.{◌≡◌, ℕ, zero, suc, ◌+◌, ◌*◌, ◌<◌, ◌≤◌, List, [], ◌∷◌, ◌++◌, map, length, slice_get, get_or, append_assoc, append-nil, refl, sym, ◌∙◌, ap, subst, inl, inr, arith}
use Rattle.std.specs.Prelude.{IfSome}
use Rattle.std.specs.List.{AllByRecursion}
use Rattle.std.proofs.lemmas.List.{map-append, length-append}
use Rattle.std.proofs.lemmas.List.Concat.{flat_map-append}
use Rattle.std.proofs.lemmas.List.Sums.{sum_by-cons}
use Rattle.std.proofs.lemmas.Bool.{cases_lt, lt-ltb}
use Rattle.limits.specs.declared.TheConstants.{MAX_PARTITIONS}
use Rattle.traces.specs.Words.{Trace, event_count_of}
use Rattle.partition_model.specs.Assignments.{Event, Assignment, id_list, ids_of, by_type, type_of, IsTyped}
use Rattle.partition_model.proofs.Lists.{In, all_in, all_from, In-events, events-In}
use Rattle.partition_model.proofs.Naming.{typed_from}
use Rattle.partition_model.specs.Assignments.{events}
use Rattle.partition_model.proofs.Passes.{live-member}
use Rattle.replay_check.specs.Laid.{laid, HaveIdsBelow}
use Rattle.replay_check.specs.Shown.{Shows, HasTypes, AreOwnPlaces}

-- the word at the place of a trace has the events of this trace
pub word-at : (traces : List Trace) (t : ℕ) (numbers : List ℕ) → t < length traces → IfSome (slice_get traces t) (λ trace. numbers ≡ trace.events) → get_or (map (λ (trace : Trace). trace.events) traces) t [] ≡ numbers
word-at [] t numbers l e = absurd (omega arith)
word-at (x ∷ xs) zero numbers l e = sym e
word-at (x ∷ xs) (suc t) numbers l e = word-at xs t numbers (omega arith) e

-- the events of a word, each with its type's number
abbrev pub typed : List ℕ → List Event
typed w = map (λ (t : ℕ). record { typ = t; id = t }) w

typed-ids : (w : List ℕ) → ids_of (typed w) ≡ w
typed-ids [] = refl
typed-ids (x ∷ w) = ap (λ (xs : List ℕ). x ∷ xs) (typed-ids w)

-- one word more
pub laid-word : (ws : List (List ℕ)) (w : List ℕ) → laid (by_type (ws ++ w ∷ [])) ≡ ((laid (by_type ws) ++ 0 ∷ []) ++ w) ++ 1 ∷ []
laid-word ws w =
    ap (λ (h : Assignment). laid h) (map-append typed ws (w ∷ []))
    ∙ flat_map-append id_list (by_type ws) (typed w ∷ [])
    ∙ ap (λ (xs : List ℕ). laid (by_type ws) ++ xs) (append-nil (id_list (typed w)) ∙ ap (λ (xs : List ℕ). 0 ∷ (xs ++ 1 ∷ [])) (typed-ids w))
    ∙ simp append_assoc

below-word : (n : ℕ) (w : List ℕ) (rest : List Event) → AllByRecursion (λ t. (2 ≤ t) × (t < n)) w → AllByRecursion (λ e. (2 ≤ e.id) × (e.id < n)) rest
    → AllByRecursion (λ e. (2 ≤ e.id) × (e.id < n)) (typed w ++ rest)
below-word n [] rest a b = b
below-word n (x ∷ w) rest a b = (a.0, below-word n w rest a.1 b)

-- each word of a list has numbers of types
abbrev pub AreRanged : ℕ → List (List ℕ) → Type 0
AreRanged n ws = AllByRecursion (λ w. AllByRecursion (λ t. (2 ≤ t) × (t < n)) w) ws

pub ranged-more : (n : ℕ) (ws : List (List ℕ)) (w : List ℕ) → AreRanged n ws → AllByRecursion (λ t. (2 ≤ t) × (t < n)) w → AreRanged n (ws ++ w ∷ [])
ranged-more n [] w a b = (b, tt)
ranged-more n (v ∷ ws) w a b = (a.0, ranged-more n ws w a.1 b)

pub ranged-below : (n : ℕ) (ws : List (List ℕ)) → AreRanged n ws → HaveIdsBelow n (by_type ws)
ranged-below n [] a = tt
ranged-below n (w ∷ ws) a = below-word n w (events (by_type ws)) a.0 (ranged-below n ws a.1)

-- how many ids there are
pub laid-length : (traces : List Trace) → length (laid (by_type (map (λ (trace : Trace). trace.events) traces))) ≡ event_count_of traces + 2 * length traces
laid-length [] = refl
laid-length (x ∷ xs) =
    let a = length-append (id_list (typed x.events)) (laid (by_type (map (λ (trace : Trace). trace.events) xs))) in
    let b = length-append (ids_of (typed x.events)) (1 ∷ []) in
    let c = ap length (typed-ids x.events) in
    let d = sum_by-cons (λ (trace : Trace). length trace.events) x xs in
    let i = laid-length xs in
    omega arith

-- the first assignment has one type for each id, which is its number
kinds-own : (h : Assignment) → ((e : Event) → In e (events h) → (2 ≤ e.id) × (e.typ ≡ e.id)) → IsTyped h
kinds-own h a = typed_from (λ x. x) h (all_from (λ e. (2 ≤ e.id) × (e.typ ≡ e.id)) (events h) a)

own-type : (ws : List (List ℕ)) (e : Event) → In e (events (by_type ws)) → e.typ ≡ e.id
own-type ws e i =
    let o : (t : List Event) × In t (by_type ws) × In e t = events-In e (by_type ws) i in
    let w : (v : List ℕ) × In v ws × (typed v ≡ o.0) = Rattle.partition_model.proofs.Lists.In-map typed o.0 ws o.1 in
    let x : (t : ℕ) × In t w.0 × (record { typ = t; id = t } ≡ e) = Rattle.partition_model.proofs.Lists.In-map (λ (t : ℕ). record { typ = t; id = t }) e w.0 (subst (λ (s : List Event). In e s) (sym w.2) o.2) in
    sym (ap (λ (z : Event). z.typ) x.2) ∙ ap (λ (z : Event). z.id) x.2

pub start-typed : (n : ℕ) (ws : List (List ℕ)) → HaveIdsBelow n (by_type ws) → IsTyped (by_type ws)
start-typed n ws a = kinds-own (by_type ws) (λ e i. ((all_in (λ e. (2 ≤ e.id) × (e.id < n)) e (events (by_type ws)) a i).0, own-type ws e i))

-- each live id of the first assignment is the number of its type
live-own : (n : ℕ) (ws : List (List ℕ)) (types : List ℕ) → n ≤ MAX_PARTITIONS → HaveIdsBelow n (by_type ws) → AreOwnPlaces types → HasTypes (by_type ws) types
live-own n ws types m a own p live =
    elim (cases_lt p 2) [
      | inl s ↦ own p (omega arith) ∙ sym (rw (lt-ltb p 2 s) refl)
      | inr s ↦
          let o : (e : Event) × In e (events (by_type ws)) × (e.id ≡ p) = live-member (by_type ws) p s live in
          let b : (2 ≤ o.0.id) × (o.0.id < n) = all_in (λ e. (2 ≤ e.id) × (e.id < n)) o.0 (events (by_type ws)) a o.1 in
          let top : o.0.id < n = b.1 in
          let k : (2 ≤ o.0.id) × (o.0.typ ≡ type_of (by_type ws) o.0.id) = all_in (λ e. (2 ≤ e.id) × (e.typ ≡ type_of (by_type ws) e.id)) o.0 (events (by_type ws)) (start-typed n ws a) o.1 in
          own p (omega arith) ∙ sym o.2 ∙ sym (own-type ws o.0 o.1) ∙ k.1 ∙ ap (λ x. type_of (by_type ws) x) o.2
    ]

-- what is shown at the start
pub start-shows : (n : ℕ) (ws : List (List ℕ)) (ids types : List ℕ) → 2 ≤ n → n ≤ MAX_PARTITIONS → ids ≡ laid (by_type ws) → HaveIdsBelow n (by_type ws) → AreOwnPlaces types
    → Shows (by_type ws) n ids types
start-shows n ws ids types l m e a own =
    record {
      ids_are = e;
      typed = start-typed n ws a;
      high = l;
      below = a;
      types_are = live-own n ws types m a own;
    }
