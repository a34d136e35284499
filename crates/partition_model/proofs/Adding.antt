-- The counts of edges add up to the sizes of partitions.
use Rattle.std.proofs.Common.{◌≡◌, ◌≢◌, ℕ, zero, suc, ◌+◌, ◌<◌, ◌≤◌, ◌==◌, ◌&&◌, nat_lt, Bool, true, false, cond, if◌then◌else◌, List, [], ◌∷◌, ◌++◌, length, count_by, sym, ◌∙◌, refl, ap, inl, inr, arith, eq-eqb, ne_eqb, le-ltb}
use Rattle.std.proofs.lemmas.Bool.{cases_eq, cases_lt, and_right}
use Rattle.std.proofs.lemmas.List.Sums.{sum_by-cons, sum_by-append}
use Rattle.std.specs.List.{range_with_len, sum_by}
use Rattle.partition_model.specs.Assignments.{Event, Assignment, events, IsTyped, ids_of, id_list, pairs, edge_count, members, size}
use Rattle.partition_model.specs.Listings.{ids_below, CountsAddUp}
use Rattle.partition_model.proofs.Lists.{In, In-append_left, In-append_right, all_in, bit, edge_count-cons, members-cons, member-of}
use Rattle.partition_model.proofs.Stitching.{id-high}

-- a sum of sums is the sum of both
sum-both : (f g k : ℕ → ℕ) (xs : List ℕ) → ((x : ℕ) → k x ≡ f x + g x) → sum_by k xs ≡ sum_by f xs + sum_by g xs
sum-both f g k [] e = refl
sum-both f g k (x ∷ xs) e =
    let a : sum_by k (x ∷ xs) ≡ k x + sum_by k xs = sum_by-cons k x xs in
    let b : sum_by f (x ∷ xs) ≡ f x + sum_by f xs = sum_by-cons f x xs in
    let c : sum_by g (x ∷ xs) ≡ g x + sum_by g xs = sum_by-cons g x xs in
    let d : k x ≡ f x + g x = e x in
    let i : sum_by k xs ≡ sum_by f xs + sum_by g xs = sum-both f g k xs e in
    omega arith

-- a sum of nothing but 0 is 0
sum-none : (f : ℕ → ℕ) (xs : List ℕ) → ((x : ℕ) → f x ≡ 0) → sum_by f xs ≡ 0
sum-none f [] e = refl
sum-none f (x ∷ xs) e =
    let a : sum_by f (x ∷ xs) ≡ f x + sum_by f xs = sum_by-cons f x xs in
    let b : f x ≡ 0 = e x in
    let i : sum_by f xs ≡ 0 = sum-none f xs e in
    omega arith

-- a sum over numbers from a on, of which none counts, is 0
sum-above : (f : ℕ → ℕ) (y a m : ℕ) → y < a → ((x : ℕ) → x ≢ y → f x ≡ 0) → sum_by f (range_with_len a m) ≡ 0
sum-above f y a zero l e = refl
sum-above f y a (suc m) l e =
    let s : sum_by f (range_with_len a (suc m)) ≡ f a + sum_by f (range_with_len (a + 1) m) = sum_by-cons f a (range_with_len (a + 1) m) in
    let b : f a ≡ 0 = e a (λ q. absurd (omega arith)) in
    let i : sum_by f (range_with_len (a + 1) m) ≡ 0 = sum-above f y (a + 1) m (omega arith) e in
    omega arith

-- a sum over numbers of which one alone counts is what that one counts
sum-at : (f : ℕ → ℕ) (y a m : ℕ) → a ≤ y → y < a + m → ((x : ℕ) → x ≢ y → f x ≡ 0) → sum_by f (range_with_len a m) ≡ f y
sum-at f y a zero l k e = absurd (omega arith)
sum-at f y a (suc m) l k e =
    let s : sum_by f (range_with_len a (suc m)) ≡ f a + sum_by f (range_with_len (a + 1) m) = sum_by-cons f a (range_with_len (a + 1) m) in
    elim (cases_eq a y) [
      | inl q ↦
          let b : f a ≡ f y = ap f q in
          let i : sum_by f (range_with_len (a + 1) m) ≡ 0 = sum-above f y (a + 1) m (omega arith) e in
          omega arith
      | inr n ↦
          let b : f a ≡ 0 = e a n in
          let d : a < y = elim (cases_lt a y) [ inl o ↦ o | inr o ↦ absurd (n (omega arith)) ] in
          let i : sum_by f (range_with_len (a + 1) m) ≡ f y = sum-at f y (a + 1) m (omega arith) (omega arith) e in
          omega arith
    ]

-- one pair of neighbours, counted over its second
second : (n : ℕ) (b : Bool) (y : ℕ) → y < n → sum_by (λ q. bit (b && y == q)) (ids_below n) ≡ bit b
second n false y l = sum-none (λ q. bit (false && y == q)) (ids_below n) (λ q. refl)
second n true y l =
    let t : (y == y) ≡ true = eq-eqb y y refl in
    sum-at (λ q. bit (true && y == q)) y 0 n (omega arith) (omega arith) (λ q d. let f : (y == q) ≡ false = ne_eqb y q (λ e. d (sym e)) in ap bit f) ∙ ap bit t

-- one pair of neighbours, counted over its first
first : (n : ℕ) (b : Bool) (x : ℕ) → x < n → sum_by (λ p. bit (x == p && b)) (ids_below n) ≡ bit b
first n b x l =
    let t : (x == x) ≡ true = eq-eqb x x refl in
    sum-at (λ p. bit (x == p && b)) x 0 n (omega arith) (omega arith) (λ p d. let f : (x == p) ≡ false = ne_eqb x p (λ e. d (sym e)) in ap (λ (z : Bool). bit (z && b)) f) ∙ ap (λ (z : Bool). bit (z && b)) t

-- from a place of a trace on, the pairs that leave p are as many as p stands there
out-of : (n p x : ℕ) (es : List Event) → p ≢ 1 → 2 ≤ n → ((e : Event) → In e es → e.id < n)
    → sum_by (λ q. pairs p q (x ∷ (ids_of es ++ 1 ∷ []))) (ids_below n) ≡ bit (x == p) + count_by (λ e. e.id == p) es
out-of n p x [] d l f =
    let s : sum_by (λ q. pairs p q (x ∷ 1 ∷ [])) (ids_below n) ≡ sum_by (λ q. bit (x == p && 1 == q)) (ids_below n) + sum_by (λ q. pairs p q (1 ∷ [])) (ids_below n) =
    sum-both (λ q. bit (x == p && 1 == q)) (λ q. pairs p q (1 ∷ [])) (λ q. pairs p q (x ∷ 1 ∷ [])) (ids_below n) (λ q. refl) in
    let a : sum_by (λ q. bit (x == p && 1 == q)) (ids_below n) ≡ bit (x == p) = second n (x == p) 1 (omega arith) in
    let z : (1 == p && false) ≡ false = and_right (1 == p) false refl in
    let b : sum_by (λ q. pairs p q (1 ∷ [])) (ids_below n) ≡ 0 = sum-none (λ q. pairs p q (1 ∷ [])) (ids_below n) (λ q. ap (λ (w : Bool). bit w + 0) z) in
    omega arith
out-of n p x (e ∷ es) d l f =
    let s : sum_by (λ q. pairs p q (x ∷ e.id ∷ (ids_of es ++ 1 ∷ []))) (ids_below n) ≡ sum_by (λ q. bit (x == p && e.id == q)) (ids_below n) + sum_by (λ q. pairs p q (e.id ∷ (ids_of es ++ 1 ∷ []))) (ids_below n) =
    sum-both (λ q. bit (x == p && e.id == q)) (λ q. pairs p q (e.id ∷ (ids_of es ++ 1 ∷ []))) (λ q. pairs p q (x ∷ e.id ∷ (ids_of es ++ 1 ∷ []))) (ids_below n) (λ q. refl) in
    let a : sum_by (λ q. bit (x == p && e.id == q)) (ids_below n) ≡ bit (x == p) = second n (x == p) e.id (f e (inl refl)) in
    let i : sum_by (λ q. pairs p q (e.id ∷ (ids_of es ++ 1 ∷ []))) (ids_below n) ≡ bit (e.id == p) + count_by (λ e. e.id == p) es = out-of n p e.id es d l (λ c k. f c (inr k)) in
    let m : count_by (λ e. e.id == p) (e ∷ es) ≡ bit (e.id == p) + count_by (λ e. e.id == p) es = members-cons p e es in
    omega arith

-- from a place of a trace on, the pairs that enter q are as many as q stands behind it
into : (n q x : ℕ) (es : List Event) → 2 ≤ n → x < n → ((e : Event) → In e es → e.id < n)
    → sum_by (λ p. pairs p q (x ∷ (ids_of es ++ 1 ∷ []))) (ids_below n) ≡ bit (1 == q) + count_by (λ e. e.id == q) es
into n q x [] l k f =
    let s : sum_by (λ p. pairs p q (x ∷ 1 ∷ [])) (ids_below n) ≡ sum_by (λ p. bit (x == p && 1 == q)) (ids_below n) + sum_by (λ p. pairs p q (1 ∷ [])) (ids_below n) =
    sum-both (λ p. bit (x == p && 1 == q)) (λ p. pairs p q (1 ∷ [])) (λ p. pairs p q (x ∷ 1 ∷ [])) (ids_below n) (λ p. refl) in
    let a : sum_by (λ p. bit (x == p && 1 == q)) (ids_below n) ≡ bit (1 == q) = first n (1 == q) x k in
    let b : sum_by (λ p. pairs p q (1 ∷ [])) (ids_below n) ≡ 0 = sum-none (λ p. pairs p q (1 ∷ [])) (ids_below n) (λ p. let z : (1 == p && false) ≡ false = and_right (1 == p) false refl in ap (λ (w : Bool). bit w + 0) z) in
    omega arith
into n q x (e ∷ es) l k f =
    let s : sum_by (λ p. pairs p q (x ∷ e.id ∷ (ids_of es ++ 1 ∷ []))) (ids_below n) ≡ sum_by (λ p. bit (x == p && e.id == q)) (ids_below n) + sum_by (λ p. pairs p q (e.id ∷ (ids_of es ++ 1 ∷ []))) (ids_below n) =
    sum-both (λ p. bit (x == p && e.id == q)) (λ p. pairs p q (e.id ∷ (ids_of es ++ 1 ∷ []))) (λ p. pairs p q (x ∷ e.id ∷ (ids_of es ++ 1 ∷ []))) (ids_below n) (λ p. refl) in
    let a : sum_by (λ p. bit (x == p && e.id == q)) (ids_below n) ≡ bit (e.id == q) = first n (e.id == q) x k in
    let i : sum_by (λ p. pairs p q (e.id ∷ (ids_of es ++ 1 ∷ []))) (ids_below n) ≡ bit (1 == q) + count_by (λ e. e.id == q) es = into n q e.id es l (f e (inl refl)) (λ c j. f c (inr j)) in
    let m : count_by (λ e. e.id == q) (e ∷ es) ≡ bit (e.id == q) + count_by (λ e. e.id == q) es = members-cons q e es in
    omega arith

-- one for each trace, where the end is meant
abbrev ends : Bool → Assignment → ℕ
ends b h = if b then length h else 0

-- one trace more has one end more
ends-cons : (b : Bool) (t : List Event) (h : Assignment) → ends b (t ∷ h) ≡ bit b + ends b h
ends-cons true t h = omega arith
ends-cons false t h = refl

-- no traces have no ends
ends-none : (b : Bool) → ends b [] ≡ 0
ends-none true = refl
ends-none false = refl

-- the events of an id in one trace and in the others
members-append : (p : ℕ) (t : List Event) (h : Assignment) → members (t ∷ h) p ≡ count_by (λ e. e.id == p) t + members h p
members-append p t h = sum_by-append (λ (e : Event). cond (e.id == p) 1 0) t (events h)

-- the counts of the edges out of p add up to its events, and for INITIAL the traces beside them
all-out : (h : Assignment) (n p : ℕ) → p ≢ 1 → 2 ≤ n → ((e : Event) → In e (events h) → e.id < n) → sum_by (λ q. edge_count h p q) (ids_below n) ≡ ends (0 == p) h + members h p
all-out [] n p d l f =
    let a : sum_by (λ q. edge_count [] p q) (ids_below n) ≡ 0 = sum-none (λ q. edge_count [] p q) (ids_below n) (λ q. refl) in
    let b : ends (0 == p) [] ≡ 0 = ends-none (0 == p) in
    omega arith
all-out (t ∷ h) n p d l f =
    let s : sum_by (λ q. edge_count (t ∷ h) p q) (ids_below n) ≡ sum_by (λ q. pairs p q (id_list t)) (ids_below n) + sum_by (λ q. edge_count h p q) (ids_below n) =
    sum-both (λ q. pairs p q (id_list t)) (λ q. edge_count h p q) (λ q. edge_count (t ∷ h) p q) (ids_below n) (λ q. edge_count-cons t h p q) in
    let a : sum_by (λ q. pairs p q (id_list t)) (ids_below n) ≡ bit (0 == p) + count_by (λ e. e.id == p) t = out-of n p 0 t d l (λ e k. f e (In-append_left e t (events h) k)) in
    let i : sum_by (λ q. edge_count h p q) (ids_below n) ≡ ends (0 == p) h + members h p = all-out h n p d l (λ e k. f e (In-append_right e t (events h) k)) in
    let b : ends (0 == p) (t ∷ h) ≡ bit (0 == p) + ends (0 == p) h = ends-cons (0 == p) t h in
    let m : members (t ∷ h) p ≡ count_by (λ e. e.id == p) t + members h p = members-append p t h in
    omega arith

-- the counts of the edges into q add up to its events, and for TERMINAL the traces beside them
all-into : (h : Assignment) (n q : ℕ) → 2 ≤ n → ((e : Event) → In e (events h) → e.id < n) → sum_by (λ p. edge_count h p q) (ids_below n) ≡ ends (1 == q) h + members h q
all-into [] n q l f =
    let a : sum_by (λ p. edge_count [] p q) (ids_below n) ≡ 0 = sum-none (λ p. edge_count [] p q) (ids_below n) (λ p. refl) in
    let b : ends (1 == q) [] ≡ 0 = ends-none (1 == q) in
    omega arith
all-into (t ∷ h) n q l f =
    let s : sum_by (λ p. edge_count (t ∷ h) p q) (ids_below n) ≡ sum_by (λ p. pairs p q (id_list t)) (ids_below n) + sum_by (λ p. edge_count h p q) (ids_below n) =
    sum-both (λ p. pairs p q (id_list t)) (λ p. edge_count h p q) (λ p. edge_count (t ∷ h) p q) (ids_below n) (λ p. edge_count-cons t h p q) in
    let a : sum_by (λ p. pairs p q (id_list t)) (ids_below n) ≡ bit (1 == q) + count_by (λ e. e.id == q) t = into n q 0 t l (omega arith) (λ e k. f e (In-append_left e t (events h) k)) in
    let i : sum_by (λ p. edge_count h p q) (ids_below n) ≡ ends (1 == q) h + members h q = all-into h n q l (λ e k. f e (In-append_right e t (events h) k)) in
    let b : ends (1 == q) (t ∷ h) ≡ bit (1 == q) + ends (1 == q) h = ends-cons (1 == q) t h in
    let m : members (t ∷ h) q ≡ count_by (λ e. e.id == q) t + members h q = members-append q t h in
    omega arith

-- no event has the id of an end
no-member : (h : Assignment) (p : ℕ) → IsTyped h → p < 2 → members h p ≡ 0
no-member h p t l =
    elim (cases_lt 0 (members h p)) [
      | inl k ↦
          let o : (e : Event) × In e (events h) × (e.id ≡ p) = member-of p (events h) k in
          let a : 2 ≤ o.0.id = id-high h t o.0 o.1 in
          let b : o.0.id ≡ p = o.2 in
          absurd (omega arith)
      | inr k ↦ omega arith
    ]

-- the size of an id that is no end is the number of its events
size-high : (h : Assignment) (p : ℕ) → 2 ≤ p → size h p ≡ members h p
size-high h p l = let f : nat_lt p 2 ≡ false = le-ltb p 2 l in ap (λ (b : Bool). if b then length h else members h p) f

-- so those out of an id other than TERMINAL add up to its size
add-out : (h : Assignment) (n p : ℕ) → IsTyped h → p ≢ 1 → sum_by (λ q. edge_count h p q) (ids_below n) ≡ ends (0 == p) h + members h p → sum_by (λ q. edge_count h p q) (ids_below n) ≡ size h p
add-out h n zero t d e = let m : members h 0 ≡ 0 = no-member h 0 t (omega arith) in omega arith
add-out h n (suc zero) t d e = absurd (d refl)
add-out h n (suc (suc p)) t d e =
    let o : (0 == suc (suc p)) ≡ false = ne_eqb 0 (suc (suc p)) (λ c. absurd (omega arith)) in
    let u : ends (0 == suc (suc p)) h ≡ 0 = ap (λ (b : Bool). ends b h) o in
    let v : size h (suc (suc p)) ≡ members h (suc (suc p)) = size-high h (suc (suc p)) (omega arith) in
    omega arith

-- and so do those into an id other than INITIAL
add-into : (h : Assignment) (n q : ℕ) → IsTyped h → q ≢ 0 → sum_by (λ p. edge_count h p q) (ids_below n) ≡ ends (1 == q) h + members h q → sum_by (λ p. edge_count h p q) (ids_below n) ≡ size h q
add-into h n zero t d e = absurd (d refl)
add-into h n (suc zero) t d e = let m : members h 1 ≡ 0 = no-member h 1 t (omega arith) in omega arith
add-into h n (suc (suc q)) t d e =
    let o : (1 == suc (suc q)) ≡ false = ne_eqb 1 (suc (suc q)) (λ c. absurd (omega arith)) in
    let u : ends (1 == suc (suc q)) h ≡ 0 = ap (λ (b : Bool). ends b h) o in
    let v : size h (suc (suc q)) ≡ members h (suc (suc q)) = size-high h (suc (suc q)) (omega arith) in
    omega arith

-- the counts of the edges of an id add up to its size, out of it but for TERMINAL and into it but for INITIAL
pub counts_add_up : CountsAddUp
counts_add_up h n t l b =
    let f : (e : Event) → In e (events h) → e.id < n = λ e i. all_in (λ e. e.id < n) e (events h) b i in
    (λ p d. add-out h n p t d (all-out h n p d l f), λ q d. add-into h n q t d (all-into h n q l f))
