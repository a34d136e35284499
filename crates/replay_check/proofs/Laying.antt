-- What the ids of an assignment are like, laid trace behind trace.
use Rattle.std.proofs.Common.{◌≡◌, ◌≢◌, ℕ, zero, suc, ◌+◌, ◌<◌, ◌≤◌, ◌==◌, ◌&&◌, max, cond, if◌then◌else◌, Bool, false, List, [], ◌∷◌, ◌++◌, map, length, count_by, refl, sym, ◌∙◌, ap, ap₂, inl, inr, arith, eq-eqb, ne_eqb, zero-add}
use Rattle.std.proofs.lemmas.Bool.{cases_eq, cases_lt, cases_Bool, lt-ltb, le-ltb}
use Rattle.std.proofs.lemmas.List.{map-append}
use Rattle.std.proofs.lemmas.List.Sums.{sum_by-cons, sum_by-append}
use Rattle.partition_model.specs.Assignments.{Event, Assignment, IsTyped, begins_with, pairs, edge_count, events, id_list, ids_of, members, size, renamed}
use Rattle.partition_model.specs.Refinement.{common, followed, next_id, split_trace, split}
use Rattle.partition_model.proofs.Lists.{In, In-events, edge_count-cons, members-cons}
use Rattle.partition_model.proofs.Naming.{id_list-renamed}
use Rattle.partition_model.proofs.Stitching.{id-high, enters_no_zero}
use Rattle.replay_check.specs.Laid.{laid, edges_along, common_in_trace, longest, moved}

-- the ids of these events are not those of the ends
abbrev pub AreHigh : List Event → Type 0
AreHigh t = (e : Event) → In e t → 2 ≤ e.id

-- so it is in each trace of a typed assignment
pub high : (h : Assignment) → IsTyped h → (t : List Event) → In t h → AreHigh t
high h a t i e j = id-high h a e (In-events e t h i j)

-- the ids of a trace behind INITIAL, before the other traces
abbrev pub behind : List Event → List ℕ → List ℕ
behind t rest = (ids_of t ++ 1 ∷ []) ++ rest

-- ---- edges

pairs-append : (p q : ℕ) (xs ys : List ℕ) → begins_with q ys ≡ false → pairs p q (xs ++ ys) ≡ pairs p q xs + pairs p q ys
pairs-append p q [] ys b = sym (zero-add (pairs p q ys))
pairs-append p q (x ∷ []) ys b = rw b (omega arith)
pairs-append p q (x ∷ y ∷ zs) ys b = let i : pairs p q ((y ∷ zs) ++ ys) ≡ pairs p q (y ∷ zs) + pairs p q ys = pairs-append p q (y ∷ zs) ys b in omega arith

begins-laid : (q : ℕ) → q ≢ 0 → (h : Assignment) → begins_with q (laid h) ≡ false
begins-laid q n [] = refl
begins-laid q n (t ∷ h) = ne_eqb 0 q (λ e. n (sym e))

pairs-laid : (p q : ℕ) → q ≢ 0 → (h : Assignment) → pairs p q (laid h) ≡ edge_count h p q
pairs-laid p q n [] = refl
pairs-laid p q n (t ∷ h) =
    pairs-append p q (id_list t) (laid h) (begins-laid q n h) ∙ ap (λ k. pairs p q (id_list t) + k) (pairs-laid p q n h) ∙ sym (edge_count-cons t h p q)

pairs-first : (p q : ℕ) (xs : List ℕ) → begins_with q xs ≡ false → pairs p q (1 ∷ xs) ≡ pairs p q xs
pairs-first p q xs b =
    elim (cases_Bool (1 == p)) [
      | inl t ↦ rw (t, b) (zero-add (pairs p q xs))
      | inr f ↦ rw f (zero-add (pairs p q xs))
    ]

-- the edges along the ids are those of the assignment
pub laid-edges : (h : Assignment) → IsTyped h → (p q : ℕ) → edges_along p q (laid h) ≡ edge_count h p q
laid-edges h a p q =
    elim (cases_eq q 0) [
      | inr n ↦ rw (ne_eqb q 0 n) (pairs-first p q (laid h) (begins-laid q n h) ∙ pairs-laid p q n h)
      | inl e ↦ rw (eq-eqb q 0 e) (elim (cases_lt 0 (edge_count h p q)) [
        | inl l ↦ absurd (enters_no_zero h a p q (lt-ltb 0 (edge_count h p q) l) e)
        | inr m ↦ omega arith
      ])
    ]

-- ---- the stitch

common-nil : (path : List ℕ) → common path [] ≡ 0
common-nil [] = refl
common-nil (x ∷ path) = refl

common-behind : (path : List ℕ) (t : List Event) (rest : List ℕ) → AreHigh t → common_in_trace path (behind t rest) ≡ common path (ids_of t ++ 1 ∷ [])
common-behind [] t rest a = refl
common-behind (x ∷ path) [] rest a = rw (common-nil path) refl
common-behind (x ∷ path) (e ∷ t) rest a =
    let l : 2 ≤ e.id = a e (inl refl) in
    let n : (e.id == 1) ≡ false = ne_eqb e.id 1 (omega arith) in
    rw (n, common-behind path t rest (λ d i. a d (inr i))) refl

longest-behind : (path : List ℕ) (t : List Event) (rest : List ℕ) → AreHigh t → longest path (behind t rest) ≡ longest path rest
longest-behind path [] rest a = omega arith
longest-behind path (e ∷ t) rest a =
    let l : 2 ≤ e.id = a e (inl refl) in
    let n : (e.id == 0) ≡ false = ne_eqb e.id 0 (omega arith) in
    let i : longest path (behind t rest) ≡ longest path rest = longest-behind path t rest (λ d j. a d (inr j)) in
    rw n (omega arith)

common-trace : (path : List ℕ) (t : List Event) (rest : List ℕ) → AreHigh t → common_in_trace path (0 ∷ behind t rest) ≡ common path (id_list t)
common-trace [] t rest a = refl
common-trace (x ∷ path) t rest a = rw (common-behind path t rest a) refl

longest-high : (h : Assignment) → ((t : List Event) → In t h → AreHigh t) → (path : List ℕ) → longest path (laid h) ≡ followed h path
longest-high [] a path = refl
longest-high (t ∷ h) a path =
    ap₂ (λ m n. max m n) (common-trace path t (laid h) (a t (inl refl)))
    (longest-behind path t (laid h) (a t (inl refl)) ∙ longest-high h (λ s i. a s (inr i)) path)

-- the most that a path has in common with a trace is how far the traces follow it
pub laid-longest : (h : Assignment) → IsTyped h → (path : List ℕ) → longest path (laid h) ≡ followed h path
laid-longest h a path = longest-high h (high h a) path

-- ---- a split

begins-behind : (q : ℕ) (t : List Event) (rest : List ℕ) → begins_with q (behind t rest) ≡ (next_id t == q)
begins-behind q [] rest = refl
begins-behind q (e ∷ t) rest = refl

moved-behind : (p q n : ℕ) → 2 ≤ p → (t : List Event) (rest : List ℕ) → moved p q n (behind t rest) ≡ behind (split_trace p q n t) (moved p q n rest)
moved-behind p q n l [] rest = let f : (1 == p) ≡ false = ne_eqb 1 p (omega arith) in rw f refl
moved-behind p q n l (e ∷ t) rest =
    ap₂ (λ (x : ℕ) (xs : List ℕ). x ∷ xs) (ap (λ (b : Bool). if e.id == p && b then n else e.id) (begins-behind q t rest)) (moved-behind p q n l t rest)

-- where ids are moved in the list, they are in the assignment
pub laid-moved : (p q n : ℕ) → 2 ≤ p → (h : Assignment) → moved p q n (laid h) ≡ laid (split p q n h)
laid-moved p q n l [] = refl
laid-moved p q n l (t ∷ h) =
    let f : (0 == p) ≡ false = ne_eqb 0 p (omega arith) in
    rw f (ap (λ (xs : List ℕ). 0 ∷ xs) (moved-behind p q n l t (laid h) ∙ ap (λ (xs : List ℕ). behind (split_trace p q n t) xs) (laid-moved p q n l h)))

-- ---- merges

-- where ids are renamed in the list, they are in the assignment
pub laid-renamed : (f : ℕ → ℕ) → f 0 ≡ 0 → f 1 ≡ 1 → (h : Assignment) → map f (laid h) ≡ laid (renamed f h)
laid-renamed f z o [] = refl
laid-renamed f z o (t ∷ h) =
    map-append f (id_list t) (laid h) ∙ ap₂ (λ (xs ys : List ℕ). xs ++ ys) (sym (id_list-renamed f z o t)) (laid-renamed f z o h)

-- ---- sizes

-- how often a number stands in a list
abbrev pub times : ℕ → List ℕ → ℕ
times p xs = count_by (λ x. x == p) xs

pub times-cons : (p x : ℕ) (xs : List ℕ) → times p (x ∷ xs) ≡ cond (x == p) 1 0 + times p xs
times-cons p x xs = sum_by-cons (λ (y : ℕ). cond (y == p) 1 0) x xs

times-append : (p : ℕ) (xs ys : List ℕ) → times p (xs ++ ys) ≡ times p xs + times p ys
times-append p xs ys = sum_by-append (λ (y : ℕ). cond (y == p) 1 0) xs ys

times-ids : (p : ℕ) (t : List Event) → times p (ids_of t) ≡ count_by (λ (e : Event). e.id == p) t
times-ids p [] = refl
times-ids p (e ∷ t) = times-cons p e.id (ids_of t) ∙ ap (λ k. cond (e.id == p) 1 0 + k) (times-ids p t) ∙ sym (members-cons p e t)

events-append : (p : ℕ) (t : List Event) (h : Assignment) → members (t ∷ h) p ≡ count_by (λ (e : Event). e.id == p) t + members h p
events-append p t h = sum_by-append (λ (e : Event). cond (e.id == p) 1 0) t (events h)

none-high : (p : ℕ) → p < 2 → (t : List Event) → AreHigh t → count_by (λ (e : Event). e.id == p) t ≡ 0
none-high p l [] a = refl
none-high p l (e ∷ t) a =
    let k : 2 ≤ e.id = a e (inl refl) in
    let f : (e.id == p) ≡ false = ne_eqb e.id p (omega arith) in
    let i : count_by (λ (d : Event). d.id == p) t ≡ 0 = none-high p l t (λ d j. a d (inr j)) in
    let c : count_by (λ (d : Event). d.id == p) (e ∷ t) ≡ cond (e.id == p) 1 0 + count_by (λ (d : Event). d.id == p) t = members-cons p e t in
    let b : cond {A = ℕ} (e.id == p) 1 0 ≡ 0 = rw f refl in
    omega arith

-- how often the id stands among those of a trace with its ends
trace-times : (p : ℕ) (t : List Event) → times p (id_list t) ≡ cond (0 == p) 1 0 + (count_by (λ (e : Event). e.id == p) t + cond (1 == p) 1 0)
trace-times p t =
    times-cons p 0 (ids_of t ++ 1 ∷ [])
    ∙ ap (λ k. cond (0 == p) 1 0 + k) (times-append p (ids_of t) (1 ∷ []) ∙ ap₂ (λ a b. a + b) (times-ids p t) (times-cons p 1 [] ∙ omega arith))

high-times : (p : ℕ) → 2 ≤ p → (h : Assignment) → times p (laid h) ≡ members h p
high-times p l [] = refl
high-times p l (t ∷ h) =
    let a : (0 == p) ≡ false = ne_eqb 0 p (omega arith) in
    let b : (1 == p) ≡ false = ne_eqb 1 p (omega arith) in
    let x : cond {A = ℕ} (0 == p) 1 0 ≡ 0 = rw a refl in
    let y : cond {A = ℕ} (1 == p) 1 0 ≡ 0 = rw b refl in
    let c = times-append p (id_list t) (laid h) in
    let d = trace-times p t in
    let e = events-append p t h in
    let i = high-times p l h in
    omega arith

low-times : (p : ℕ) → p < 2 → (h : Assignment) → ((t : List Event) → In t h → AreHigh t) → times p (laid h) ≡ length h
low-times p l [] a = refl
low-times p l (t ∷ h) a =
    let x : cond (0 == p) 1 0 + cond (1 == p) 1 0 ≡ 1 = one p l in
    let c = times-append p (id_list t) (laid h) in
    let d = trace-times p t in
    let e = none-high p l t (a t (inl refl)) in
    let i = low-times p l h (λ s j. a s (inr j)) in
    omega arith
  where
    one : (p : ℕ) → p < 2 → cond (0 == p) 1 0 + cond (1 == p) 1 0 ≡ 1
    one zero l = refl
    one (suc zero) l = refl
    one (suc (suc p)) l = absurd (omega arith)

-- an id stands in the list as often as its size says
pub laid-sizes : (h : Assignment) → IsTyped h → (p : ℕ) → times p (laid h) ≡ size h p
laid-sizes h a p =
    elim (cases_lt p 2) [
      | inl l ↦ rw (lt-ltb p 2 l) (low-times p l h (high h a))
      | inr l ↦ rw (le-ltb p 2 l) (high-times p l h)
    ]
