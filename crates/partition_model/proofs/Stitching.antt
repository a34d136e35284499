-- Where a violation leaves the traces.
use Rattle.std.proofs.Common.{◌≡◌, ◌≢◌, ◌⊎◌, ℕ, zero, suc, pred, ◌+◌, ◌<◌, ◌≤◌, ◌==◌, ◌&&◌, Bool, true, false, cond, List, [], ◌∷◌, ◌++◌, length, slice_index, sym, ◌∙◌, refl, ap, ap₂, subst, subst₂, inl, inr, arith, eq-eqb, ne_eqb, eqb-true, add-one}
use Rattle.std.proofs.lemmas.Bool.{cases_eq, cases_lt, cases_Bool, and_parts, and_right}
use Rattle.std.specs.List.{AllByRecursion}
use Rattle.invariants.specs.declared.Invariant.{Invariant}
use Rattle.invariants.specs.Holds.{Holds}
use Rattle.partition_model.specs.Graphs.{Graph, Walk, IsPath, word, Breaks}
use Rattle.partition_model.specs.Assignments.{Event, Assignment, events, G, IsTyped, id_list, ids_of, word_of, pairs, begins_with, type_of, members}
use Rattle.partition_model.specs.Refinement.{common, followed, stitch, split, split_trace, moved_id, next_id}
use Rattle.partition_model.specs.Laws.{Divides, StitchDivides}
use Rattle.partition_model.proofs.Lists.{In, In-append, In-map, In-events, all_in, edge-In, pairs-In, pairs-first, count-member}
use Rattle.partition_model.proofs.Following.{follows}

-- what two lists have in common is no longer than the first
pub common-le : (xs ys : List ℕ) → common xs ys ≤ length xs
common-le [] ys = omega arith
common-le (x ∷ xs) [] = omega arith
common-le (x ∷ xs) (y ∷ ys) =
    elim (x == y) as (λ t. cond t (suc (common xs ys)) 0 ≤ suc (length xs)) [
      | true ↦ let i : common xs ys ≤ length xs = common-le xs ys in omega arith
      | false ↦ omega arith
    ]

-- a path follows the traces at least as far as each of them
pub followed-in : (path : List ℕ) (trace : List Event) (h : Assignment) → In trace h → common path (id_list trace) ≤ followed h path
followed-in path trace [] i = absurd i
followed-in path trace (t ∷ h) (inl e) =
    let a : common path (id_list trace) ≡ common path (id_list t) = ap (λ (z : List Event). common path (id_list z)) (sym e) in
    omega arith
followed-in path trace (t ∷ h) (inr r) =
    let a : common path (id_list trace) ≤ followed h path = followed-in path trace h r in
    omega arith

-- where it follows them at all, it follows one of them as far
pub followed-by : (path : List ℕ) (h : Assignment) → 0 < followed h path → (trace : List Event) × In trace h × (common path (id_list trace) ≡ followed h path)
followed-by path [] k = absurd (omega arith)
followed-by path (t ∷ h) k =
    elim (cases_lt (common path (id_list t)) (followed h path)) [
      | inl l ↦
          let p : 0 < followed h path = omega arith in
          let o : (trace : List Event) × In trace h × (common path (id_list trace) ≡ followed h path) = followed-by path h p in
          (o.0, inr o.1, (let e : common path (id_list o.0) ≡ followed h path = o.2 in omega arith))
      | inr g ↦ (t, inl refl, omega arith)
    ]

-- ids of events are no ends
pub id-high : (h : Assignment) → IsTyped h → (e : Event) → In e (events h) → 2 ≤ e.id
id-high h t e i = (all_in (λ e. (2 ≤ e.id) × (e.typ ≡ type_of h e.id)) e (events h) t i).0

-- an id in a trace's list, but for its first place
later_id : (h : Assignment) → IsTyped h → (trace : List Event) → In trace h → (x : ℕ) → In x (ids_of trace ++ 1 ∷ []) → (x ≡ 1) ⊎ (2 ≤ x)
later_id h t trace i x k =
    elim (In-append x (ids_of trace) (1 ∷ []) k) [
      | inl a ↦
          let o : (e : Event) × In e trace × (e.id ≡ x) = In-map (λ e. e.id) x trace a in
          inr (subst (λ (z : ℕ). 2 ≤ z) o.2 (id-high h t o.0 (In-events o.0 trace h i o.1)))
      | inr b ↦ elim b [ inl e ↦ inl (sym e) | inr n ↦ absurd n ]
    ]

-- no edge enters INITIAL
pub enters_no_zero : (h : Assignment) → IsTyped h → (u v : ℕ) → (G h).edge u v ≡ true → v ≢ 0
enters_no_zero h t u v k z =
    let o : (trace : List Event) × In trace h × (0 < pairs u v (id_list trace)) = edge-In u v h k in
    elim (later_id h t o.0 o.1 v (pairs-In u v 0 (ids_of o.0 ++ 1 ∷ []) o.2)) [ inl e ↦ absurd (omega arith) | inr l ↦ absurd (omega arith) ]

-- in the list from any place on, 1 has no neighbour after it
one-last : (v : ℕ) (es : List Event) → ((e : Event) → In e es → 2 ≤ e.id) → 0 < pairs 1 v (ids_of es ++ 1 ∷ []) → ⊥
one-last v [] f k =
    let z : 0 < 0 + 0 = k in absurd (omega arith)
one-last v (e ∷ es) f k =
    let l : 2 ≤ e.id = f e (inl refl) in
    let t : (e.id == 1) ≡ false = ne_eqb e.id 1 (λ q. absurd (omega arith)) in
    let z : 0 < 0 + pairs 1 v (ids_of es ++ 1 ∷ []) = rw t at k in
    one-last v es (λ d i. f d (inr i)) (omega (arith, z))

-- no edge leaves TERMINAL
pub leaves_no_one : (h : Assignment) → IsTyped h → (v : ℕ) → (G h).edge 1 v ≡ true → ⊥
leaves_no_one h t v k =
    let o : (trace : List Event) × In trace h × (0 < pairs 1 v (id_list trace)) = edge-In 1 v h k in
    one-last v o.0 (λ e i. id-high h t e (In-events e o.0 h o.1 i)) (let z : 0 < 0 + pairs 1 v (ids_of o.0 ++ 1 ∷ []) = o.2 in omega (arith, z))

-- an edge from 0 goes to a trace's first id
first-edge : (h : Assignment) → IsTyped h → (v : ℕ) → (G h).edge 0 v ≡ true → (trace : List Event) × In trace h × (begins_with v (ids_of trace ++ 1 ∷ []) ≡ true)
first-edge h t v k =
    let o : (trace : List Event) × In trace h × (0 < pairs 0 v (id_list trace)) = edge-In 0 v h k in
    elim (cases_Bool (begins_with v (ids_of o.0 ++ 1 ∷ []))) [
      | inl b ↦ (o.0, o.1, b)
      | inr n ↦
          let z : 0 < 0 + pairs 0 v (ids_of o.0 ++ 1 ∷ []) = rw n at o.2 in
          let l : 0 < pairs 0 v (ids_of o.0 ++ 1 ∷ []) = omega arith in
          absurd (elim (later_id h t o.0 o.1 0 (pairs-first 0 v (ids_of o.0 ++ 1 ∷ []) l)) [ inl e ↦ absurd (omega arith) | inr e ↦ absurd (omega arith) ])
    ]

-- a path that a trace follows whole is the trace's
whole : (g : Graph) (p : ℕ) (xs : List ℕ) (es : List Event) → p ≢ 1 → ((e : Event) → In e es → 2 ≤ e.id) → Walk g p xs 1 → common xs (ids_of es ++ 1 ∷ []) ≡ length xs → xs ≡ ids_of es ++ 1 ∷ []
whole g p [] es n f w c = absurd (n w)
whole g p (r ∷ []) [] n f w c = ap (λ (z : ℕ). z ∷ []) w.1
whole g p (r ∷ s ∷ rs) [] n f w c =
    elim (cases_eq r 1) [
      | inl e ↦ let t : (r == 1) ≡ true = eq-eqb r 1 e in let z : suc 0 ≡ suc (suc (length rs)) = rw t at c in absurd (omega arith)
      | inr m ↦ let t : (r == 1) ≡ false = ne_eqb r 1 m in let z : 0 ≡ suc (suc (length rs)) = rw t at c in absurd (omega arith)
    ]
whole g p (r ∷ rs) (e ∷ es) n f w c =
    elim (cases_eq r e.id) [
      | inl q ↦
          let t : (r == e.id) ≡ true = eq-eqb r e.id q in
          let z : suc (common rs (ids_of es ++ 1 ∷ [])) ≡ suc (length rs) = rw t at c in
          let l : 2 ≤ e.id = f e (inl refl) in
          let i : rs ≡ ids_of es ++ 1 ∷ [] = whole g r rs es (λ o. absurd (omega arith)) (λ d k. f d (inr k)) w.1 (omega arith) in
          ap₂ (λ (x : ℕ) (y : List ℕ). x ∷ y) q i
      | inr m ↦ let t : (r == e.id) ≡ false = ne_eqb r e.id m in let z : 0 ≡ suc (length rs) = rw t at c in absurd (omega arith)
    ]

-- two neighbours of a walk have an edge
walk-edge : (g : Graph) (p : ℕ) (xs : List ℕ) (q c : ℕ) → Walk g p xs q → suc c < length xs → g.edge (slice_index xs c) (slice_index xs (suc c)) ≡ true
walk-edge g p [] q c w l = absurd (omega arith)
walk-edge g p (r ∷ []) q c w l = absurd (omega arith)
walk-edge g p (r ∷ s ∷ rs) q zero w l = w.1.0
walk-edge g p (r ∷ s ∷ rs) q (suc c) w l = walk-edge g r (s ∷ rs) q c w.1 (omega arith)

-- each id of a walk is entered by an edge
walk-into : (g : Graph) (p : ℕ) (xs : List ℕ) (q c : ℕ) → Walk g p xs q → c < length xs → (u : ℕ) × (g.edge u (slice_index xs c) ≡ true)
walk-into g p [] q c w l = absurd (omega arith)
walk-into g p (r ∷ rs) q zero w l = (p, w.0)
walk-into g p (r ∷ rs) q (suc c) w l = walk-into g r rs q c w.1 (omega arith)

-- the ids from a place on begin with the next id
begins-next : (b : ℕ) (es : List Event) → begins_with b (ids_of es ++ 1 ∷ []) ≡ (next_id es == b)
begins-next b [] = refl
begins-next b (e ∷ es) = refl

-- a split along neighbours of a trace moves an event of it
moved-part : (a b n : ℕ) (es : List Event) → 0 < pairs a b (ids_of es ++ 1 ∷ []) → (e : Event) × In e (split_trace a b n es) × (e.id ≡ n)
moved-part a b n [] k =
    elim (cases_Bool (1 == a && false)) [
      | inl t ↦ absurd (let z : false ≡ true = (and_parts (1 == a) false t).1 in cc)
      | inr g ↦ let z : 0 < 0 + 0 = rw g at k in absurd (omega arith)
    ]
moved-part a b n (e ∷ es) k =
    let nx : begins_with b (ids_of es ++ 1 ∷ []) ≡ (next_id es == b) = begins-next b es in
    elim (cases_Bool (e.id == a && next_id es == b)) [
      | inl t ↦ (record { typ = e.typ; id = n }, inl (rw t), refl)
      | inr g ↦
          let g' : (e.id == a && begins_with b (ids_of es ++ 1 ∷ [])) ≡ false = ap (λ (z : Bool). e.id == a && z) nx ∙ g in
          let z : 0 < 0 + pairs a b (ids_of es ++ 1 ∷ []) = rw g' at k in
          let o : (d : Event) × In d (split_trace a b n es) × (d.id ≡ n) = moved-part a b n es (omega (arith, z)) in
          (o.0, inr o.1, o.2)
    ]

-- where a trace and a path have no more in common, the next ids differ
differs : (s : ℕ) (rs : List ℕ) (es : List Event) → common (s ∷ rs) (ids_of es ++ 1 ∷ []) ≡ 0 → next_id es ≢ s
differs s rs [] k e = let t : (s == 1) ≡ true = eq-eqb s 1 (sym e) in let z : suc (common rs []) ≡ 0 = rw t at k in absurd (omega arith)
differs s rs (d ∷ es) k e = let t : (s == d.id) ≡ true = eq-eqb s d.id (sym e) in let z : suc (common rs (ids_of es ++ 1 ∷ [])) ≡ 0 = rw t at k in absurd (omega arith)

-- a split where the path leaves a trace lets an event of this trace stay
left-part : (g : Graph) → ((v : ℕ) → g.edge 1 v ≡ true → ⊥) → (n p : ℕ) (xs : List ℕ) (es : List Event) (c : ℕ) → Walk g p xs 1 → common xs (ids_of es ++ 1 ∷ []) ≡ suc c → suc c < length xs
    → (e : Event) × In e (split_trace (slice_index xs c) (slice_index xs (suc c)) n es) × (e.id ≡ slice_index xs c)
left-part g o n p [] es c w k l = absurd (omega arith)
left-part g o n p (r ∷ []) es c w k l = absurd (omega arith)
left-part g o n p (r ∷ s ∷ rs) [] c w k l =
    elim (cases_eq r 1) [
      | inl e ↦ absurd (o s (subst (λ (z : ℕ). g.edge z s ≡ true) e w.1.0))
      | inr m ↦ let t : (r == 1) ≡ false = ne_eqb r 1 m in let z : 0 ≡ suc c = rw t at k in absurd (omega arith)
    ]
left-part g o n p (r ∷ s ∷ rs) (e ∷ es) zero w k l =
    elim (cases_eq r e.id) [
      | inl q ↦
          let t : (r == e.id) ≡ true = eq-eqb r e.id q in
          let z : suc (common (s ∷ rs) (ids_of es ++ 1 ∷ [])) ≡ 1 = rw t at k in
          let d : next_id es ≢ s = differs s rs es (omega arith) in
          let u : (e.id == r && next_id es == s) ≡ false = and_right (e.id == r) (next_id es == s) (ne_eqb (next_id es) s d) in
          let v : moved_id r s n e es ≡ r = rw u (sym q) in
          (record { typ = e.typ; id = moved_id r s n e es }, inl refl, v)
      | inr m ↦ let t : (r == e.id) ≡ false = ne_eqb r e.id m in let z : zero ≡ suc zero = rw t at k in absurd (omega arith)
    ]
left-part g o n p (r ∷ s ∷ rs) (e ∷ es) (suc c) w k l =
    elim (cases_eq r e.id) [
      | inl q ↦
          let t : (r == e.id) ≡ true = eq-eqb r e.id q in
          let z : suc (common (s ∷ rs) (ids_of es ++ 1 ∷ [])) ≡ suc (suc c) = rw t at k in
          let i : (d : Event) × In d (split_trace (slice_index (s ∷ rs) c) (slice_index (s ∷ rs) (suc c)) n es) × (d.id ≡ slice_index (s ∷ rs) c) =
          left-part g o n r (s ∷ rs) es c w.1 (omega arith) (omega arith) in
          (i.0, inr i.1, i.2)
      | inr m ↦ let t : (r == e.id) ≡ false = ne_eqb r e.id m in let z : 0 ≡ suc (suc c) = rw t at k in absurd (omega arith)
    ]

-- each trace is there, split, after the split
pub In-split : (p q n : ℕ) (t : List Event) (h : Assignment) → In t h → In (split_trace p q n t) (split p q n h)
In-split p q n t [] i = absurd i
In-split p q n t (s ∷ h) (inl e) = inl (ap (split_trace p q n) e)
In-split p q n t (s ∷ h) (inr r) = inr (In-split p q n t h r)

-- an event of a split trace is counted after the split
member-split : (p q n x : ℕ) (t : List Event) (h : Assignment) → In t h → (e : Event) × In e (split_trace p q n t) × (e.id ≡ x) → 0 < members (split p q n h) x
member-split p q n x t h i o = count-member x o.0 (events (split p q n h)) (In-events o.0 (split_trace p q n t) (split p q n h) (In-split p q n t h i) o.1) o.2

-- a path that follows the traces for c + 2 ids, and not whole, is divided at the last of these
divides_at : (h : Assignment) (n : ℕ) (xs : List ℕ) (c : ℕ) → IsTyped h → Walk (G h) 0 xs 1 → followed h (0 ∷ xs) ≡ suc (suc c) → suc c < length xs → Divides h (0 ∷ xs) n
divides_at h n xs c t w k l =
    let st : stitch h (0 ∷ xs) ≡ suc c = ap pred k in
    let st1 : stitch h (0 ∷ xs) + 1 ≡ suc (suc c) = add-one _ ∙ ap suc st in
    let by : (trace : List Event) × In trace h × (common (0 ∷ xs) (id_list trace) ≡ followed h (0 ∷ xs)) = followed-by (0 ∷ xs) h (omega arith) in
    let cm : common xs (ids_of by.0 ++ 1 ∷ []) ≡ suc c = (let z : suc (common xs (ids_of by.0 ++ 1 ∷ [])) ≡ suc (suc c) = by.2 ∙ k in omega arith) in
    let a : ℕ = slice_index xs c in
    let b : ℕ = slice_index xs (suc c) in
    let ed : (G h).edge (slice_index xs c) (slice_index xs (suc c)) ≡ true = walk-edge (G h) 0 xs 1 c w l in
    let into : (u : ℕ) × ((G h).edge u (slice_index xs c) ≡ true) = walk-into (G h) 0 xs 1 c w (omega arith) in
    let nz : slice_index xs c ≢ 0 = enters_no_zero h t into.0 (slice_index xs c) into.1 in
    let tr : (trace : List Event) × In trace h × (0 < pairs (slice_index xs c) (slice_index xs (suc c)) (id_list trace)) = edge-In (slice_index xs c) (slice_index xs (suc c)) h ed in
    let zf : (0 == slice_index xs c) ≡ false = ne_eqb 0 (slice_index xs c) (λ e. nz (sym e)) in
    let pr : 0 < 0 + pairs (slice_index xs c) (slice_index xs (suc c)) (ids_of tr.0 ++ 1 ∷ []) = rw zf at tr.2 in
    let mv : 0 < members (split (slice_index xs c) (slice_index xs (suc c)) n h) n =
    member-split (slice_index xs c) (slice_index xs (suc c)) n n tr.0 h tr.1 (moved-part (slice_index xs c) (slice_index xs (suc c)) n tr.0 (omega (arith, pr))) in
    let lf : 0 < members (split (slice_index xs c) (slice_index xs (suc c)) n h) (slice_index xs c) =
    member-split (slice_index xs c) (slice_index xs (suc c)) n (slice_index xs c) by.0 h by.1 (left-part (G h) (λ v. leaves_no_one h t v) n 0 xs by.0 c w cm l) in
    let P : ℕ → ℕ → Type 0 = λ x y. 0 < members (split (slice_index (0 ∷ xs) x) (slice_index (0 ∷ xs) y) n h) n in
    let Q : ℕ → ℕ → Type 0 = λ x y. 0 < members (split (slice_index (0 ∷ xs) x) (slice_index (0 ∷ xs) y) n h) (slice_index (0 ∷ xs) x) in
    record {
      after_start = omega arith;
      before_end = omega arith;
      moved = subst₂ (λ (x y : ℕ). 0 < members (split (slice_index (0 ∷ xs) x) (slice_index (0 ∷ xs) y) n h) n) (sym st) (sym st1) mv;
      left = subst₂ (λ (x y : ℕ). 0 < members (split (slice_index (0 ∷ xs) x) (slice_index (0 ∷ xs) y) n h) (slice_index (0 ∷ xs) x)) (sym st) (sym st1) lf;
    }

-- the first edge of a path is followed
two-followed : (h : Assignment) → IsTyped h → (r : ℕ) (rs : List ℕ) → (G h).edge 0 r ≡ true → 2 ≤ followed h (0 ∷ r ∷ rs)
two-followed h t r rs k =
    let o : (trace : List Event) × In trace h × (begins_with r (ids_of trace ++ 1 ∷ []) ≡ true) = first-edge h t r k in
    let a : common (0 ∷ r ∷ rs) (id_list o.0) ≤ followed h (0 ∷ r ∷ rs) = followed-in (0 ∷ r ∷ rs) o.0 h o.1 in
    let b : 2 ≤ common (0 ∷ r ∷ rs) (id_list o.0) = two (ids_of o.0 ++ 1 ∷ []) o.2 in
    omega arith
  where
    two : (ys : List ℕ) → begins_with r ys ≡ true → 2 ≤ common (0 ∷ r ∷ rs) (0 ∷ ys)
    two [] e = absurd (cc e)
    two (y ∷ ys) e = let f : (r == y) ≡ true = eq-eqb r y (sym (eqb-true y r e)) in rw f (omega arith)

-- a path that breaks an invariant of all traces is not followed whole
not-whole : (h : Assignment) (inv : Invariant) (xs : List ℕ) → IsTyped h → AllByRecursion (λ trace. Holds inv (word_of trace)) h → Walk (G h) 0 xs 1
    → (Holds inv (word (G h) (0 ∷ xs)) → ⊥) → 2 ≤ followed h (0 ∷ xs) → followed h (0 ∷ xs) < suc (length xs)
not-whole h inv xs t a w n two =
    elim (cases_lt (followed h (0 ∷ xs)) (suc (length xs))) [
      | inl l ↦ l
      | inr g ↦
          let by : (trace : List Event) × In trace h × (common (0 ∷ xs) (id_list trace) ≡ followed h (0 ∷ xs)) = followed-by (0 ∷ xs) h (omega arith) in
          let z : suc (common xs (ids_of by.0 ++ 1 ∷ [])) ≡ followed h (0 ∷ xs) = by.2 in
          let le : common xs (ids_of by.0 ++ 1 ∷ []) ≤ length xs = common-le xs (ids_of by.0 ++ 1 ∷ []) in
          let e : xs ≡ ids_of by.0 ++ 1 ∷ [] = whole (G h) 0 xs by.0 (λ q. absurd (omega arith)) (λ d i. id-high h t d (In-events d by.0 h by.1 i)) w (omega arith) in
          let f : IsPath (G h) (id_list by.0) × (word (G h) (id_list by.0) ≡ word_of by.0) = follows h t by.0 by.1 in
          let hd : Holds inv (word_of by.0) = all_in (λ trace. Holds inv (word_of trace)) by.0 h a by.1 in
          let ww : word (G h) (0 ∷ xs) ≡ word_of by.0 = ap (λ (z : List ℕ). word (G h) (0 ∷ z)) e ∙ f.1 in
          absurd (n (subst (λ (z : List ℕ). Holds inv z) (sym ww) hd))
    ]

-- so is a path that follows the traces for k ids, from 2 on and not whole
from-count : (h : Assignment) (n : ℕ) (xs : List ℕ) (k : ℕ) → IsTyped h → Walk (G h) 0 xs 1 → followed h (0 ∷ xs) ≡ k → 2 ≤ k → k < suc (length xs) → Divides h (0 ∷ xs) n
from-count h n xs zero t w e a b = absurd (omega arith)
from-count h n xs (suc zero) t w e a b = absurd (omega arith)
from-count h n xs (suc (suc c)) t w e a b = divides_at h n xs c t w e (omega arith)

-- a path from 0 that breaks an invariant is divided where it leaves the traces
from-zero : (h : Assignment) (inv : Invariant) (xs : List ℕ) (n : ℕ) → IsTyped h → AllByRecursion (λ trace. Holds inv (word_of trace)) h
    → Walk (G h) 0 xs 1 → (Holds inv (word (G h) (0 ∷ xs)) → ⊥) → Divides h (0 ∷ xs) n
from-zero h inv [] n t a w br = absurd (let z : zero ≡ suc zero = w in omega arith)
from-zero h inv (r ∷ rs) n t a w br =
    let two : 2 ≤ followed h (0 ∷ r ∷ rs) = two-followed h t r rs w.0 in
    from-count h n (r ∷ rs) (followed h (0 ∷ r ∷ rs)) t w refl two (not-whole h inv (r ∷ rs) t a w br two)

-- a violation leaves the traces strictly between its ends, and both parts of the id there have events
pub stitch_divides : StitchDivides
stitch_divides h inv [] n t f a br = absurd br.0
stitch_divides h inv (x ∷ xs) n t f a br =
    let z : x ≡ 0 = br.0.0 in
    let g : Breaks (G h) inv (0 ∷ xs) = subst (λ (y : ℕ). Breaks (G h) inv (y ∷ xs)) z br in
    subst (λ (y : ℕ). Divides h (y ∷ xs) n) (sym z) (from-zero h inv xs n t a g.0.1 g.1)
