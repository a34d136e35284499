-- A walk that no shorter one replaces is as long as ranks rise along it, and as they fall where it comes to an id.
use Rattle.std.proofs.Common.{◌≡◌, ℕ, zero, suc, ◌+◌, ◌*◌, ◌-◌, ◌/◌, ◌<◌, ◌≤◌, ◌==◌, not, true, false, Bool, cond, List, [], ◌∷◌, filter, length, sum_by, max, sym, ◌∙◌, refl, ap, subst, inl, inr, arith, eq-eqb, ne_eqb}
use Rattle.std.proofs.lemmas.Bool.{cases_eq, cases_lt, cases_Bool}
use Rattle.std.proofs.lemmas.List.Sums.{sum_by-cons}
use Rattle.limits.specs.declared.TheConstants.{TERMINAL}
use Rattle.invariants.specs.declared.Invariant.{Invariant}
use Rattle.invariants.specs.Monitors.{step}
use Rattle.partition_model.specs.Graphs.{Graph, Walk, IsLeastViolation, Merged}
use Rattle.partition_model.specs.Coarsening.{onto}
use Rattle.partition_model.proofs.Lists.{In}
use Rattle.partition_model.proofs.Listing.{filter-In}
use Rattle.partition_model.proofs.Merging.{onto_is, onto_other, merged_parts}
use Rattle.partition_bounds.proofs.Short.{step-small}
use Rattle.partition_graph.specs.Neighbours.{IsNextSource, HasNoSource}
use Rattle.coarsener.specs.Fitting.{rank_of, gap, fall_to, sum_below}
use Rattle.coarsener.proofs.Visiting.{IsShortest, shortest-rest, least-shortest, IsVisit, visit-small, visit-below, no-second}

-- what falls at a numbered station of an id, of which each has three
abbrev at_station : (ℕ → ℕ) → ℕ → ℕ
at_station fall k = fall (k / 3)

-- a filtered list has no greater sum
sum-filter : (f : ℕ → Bool) (w : ℕ → ℕ) (xs : List ℕ) → sum_by w (filter f xs) ≤ sum_by w xs
sum-filter f w [] = omega arith
sum-filter f w (x ∷ xs) =
    let i : sum_by w (filter f xs) ≤ sum_by w xs = sum-filter f w xs in
    let e : sum_by w (x ∷ xs) ≡ w x + sum_by w xs = sum_by-cons w x xs in
    elim (cases_Bool (f x)) [
      | inl t ↦ let d : sum_by w (x ∷ filter f xs) ≡ w x + sum_by w (filter f xs) = sum_by-cons w x (filter f xs) in rw t (omega arith)
      | inr n ↦ rw n (omega arith)
    ]

-- it is less by the value of an element that does not pass
sum-without : (f : ℕ → Bool) (w : ℕ → ℕ) (x : ℕ) (xs : List ℕ) → In x xs → f x ≡ false → sum_by w (filter f xs) + w x ≤ sum_by w xs
sum-without f w x [] i n = absurd i
sum-without f w x (y ∷ xs) (inl a) n =
    let i : sum_by w (filter f xs) ≤ sum_by w xs = sum-filter f w xs in
    let e : sum_by w (y ∷ xs) ≡ w y + sum_by w xs = sum_by-cons w y xs in
    let v : w y ≡ w x = ap w a in
    let m : f y ≡ false = ap f a ∙ n in
    rw m (omega arith)
sum-without f w x (y ∷ xs) (inr r) n =
    let i : sum_by w (filter f xs) + w x ≤ sum_by w xs = sum-without f w x xs r n in
    let e : sum_by w (y ∷ xs) ≡ w y + sum_by w xs = sum_by-cons w y xs in
    elim (cases_Bool (f y)) [
      | inl t ↦ let d : sum_by w (y ∷ filter f xs) ≡ w y + sum_by w (filter f xs) = sum_by-cons w y (filter f xs) in rw t (omega arith)
      | inr m ↦ rw m (omega arith)
    ]

-- two stations with one number have one id and one state
one-station : (a b s t : ℕ) → s < 3 → t < 3 → 3 * a + s ≡ 3 * b + t → (a ≡ b) × (s ≡ t)
one-station a b s t k l e = (omega arith, omega arith)

-- the walk is no longer than the ranks rise, and fall at its stations
walk-long : (g : Graph) (inv : Invariant) (low fall : ℕ → ℕ) (x s : ℕ) (xs : List ℕ) (z : ℕ) (among : List ℕ) → ((u v : ℕ) → g.edge u v ≡ true → low u < low v + fall v) → s < 3
    → Walk g x xs z → IsShortest g inv x s xs z → ((u t : ℕ) → IsVisit g inv u s xs t → In (3 * u + t) among) → length xs + low x ≤ low z + sum_by (at_station fall) among
walk-long g inv low fall x s [] z among a sm w f h = let e : low x ≡ low z = ap low w in omega arith
walk-long g inv low fall x s (y ∷ xs) z among a sm w f h =
    let t : ℕ = step inv s (g.typ y) in
    let tm : t < 3 = step-small inv s (g.typ y) sm in
    let l : low x < low y + fall y = a x y w.0 in
    let r : IsShortest g inv y t xs z = shortest-rest g inv x y s xs z w.0 f in
    let here : In (3 * y + t) among = h y t (inl (refl, refl)) in
    let j : sum_by (at_station fall) (filter (λ k. not (k == 3 * y + t)) among) + at_station fall (3 * y + t) ≤ sum_by (at_station fall) among =
    sum-without (λ k. not (k == 3 * y + t)) (at_station fall) (3 * y + t) among here (ap not (eq-eqb (3 * y + t) (3 * y + t) refl)) in
    let third : (3 * y + t) / 3 ≡ y = omega arith in
    let d : at_station fall (3 * y + t) ≡ fall y = ap fall third in
    let i : length xs + low y ≤ low z + sum_by (at_station fall) (filter (λ k. not (k == 3 * y + t)) among) =
    walk-long g inv low fall y t xs z (filter (λ k. not (k == 3 * y + t)) among) a tm w.1 r (λ u v k.
    filter-In (λ m. not (m == 3 * y + t)) (3 * u + v) among (h u v (inr k))
    (ap not (ne_eqb (3 * u + v) (3 * y + t) (λ c.
    let o : (u ≡ y) × (v ≡ t) = one-station u y v t (visit-small g inv u t xs v tm k) tm c in
    no-second g inv u y t xs z (sym o.0) w.1 r (subst (λ (m : ℕ). IsVisit g inv u t xs m) o.1 k))))) in
    omega arith

-- the stations of the ids below n
abbrev spots : ℕ → List ℕ
spots zero = []
spots (suc n) = (3 * n) ∷ (3 * n + 1) ∷ (3 * n + 2) ∷ spots n

-- each id below n has its three
spot-In : (n u t : ℕ) → u < n → t < 3 → In (3 * u + t) (spots n)
spot-In zero u t l m = absurd (omega arith)
spot-In (suc n) u t l m =
    elim (cases_lt u n) [
      | inl k ↦ inr (inr (inr (spot-In n u t k m)))
      | inr k ↦ first t m (omega arith)
    ]
  where
    first : (v : ℕ) → v < 3 → u ≡ n → In (3 * u + v) (spots (suc n))
    first zero j e = inl (omega arith)
    first (suc zero) j e = inr (inl (omega arith))
    first (suc (suc zero)) j e = inr (inr (inl (omega arith)))
    first (suc (suc (suc v))) j e = absurd (omega arith)

-- what falls at all of them is three times what falls at all ids
spots-sum : (f : ℕ → ℕ) (n : ℕ) → sum_by (at_station f) (spots n) ≡ 3 * sum_below f n
spots-sum f zero = refl
spots-sum f (suc n) =
    let i : sum_by (at_station f) (spots n) ≡ 3 * sum_below f n = spots-sum f n in
    let a : sum_by (at_station f) (spots (suc n)) ≡ at_station f (3 * n) + sum_by (at_station f) ((3 * n + 1) ∷ (3 * n + 2) ∷ spots n) = sum_by-cons (at_station f) (3 * n) ((3 * n + 1) ∷ (3 * n + 2) ∷ spots n) in
    let b : sum_by (at_station f) ((3 * n + 1) ∷ (3 * n + 2) ∷ spots n) ≡ at_station f (3 * n + 1) + sum_by (at_station f) ((3 * n + 2) ∷ spots n) = sum_by-cons (at_station f) (3 * n + 1) ((3 * n + 2) ∷ spots n) in
    let c : sum_by (at_station f) ((3 * n + 2) ∷ spots n) ≡ at_station f (3 * n + 2) + sum_by (at_station f) (spots n) = sum_by-cons (at_station f) (3 * n + 2) (spots n) in
    let x : (3 * n) / 3 ≡ n = omega arith in
    let y : (3 * n + 1) / 3 ≡ n = omega arith in
    let z : (3 * n + 2) / 3 ≡ n = omega arith in
    let p : at_station f (3 * n) ≡ f n = ap f x in
    let q : at_station f (3 * n + 1) ≡ f n = ap f y in
    let r : at_station f (3 * n + 2) ≡ f n = ap f z in
    omega arith

-- so a least violation has at most so many ids
least-long : (g : Graph) (inv : Invariant) (low fall : ℕ → ℕ) (n : ℕ) (path : List ℕ) → ((u v : ℕ) → g.edge u v ≡ true → low u < low v + fall v) → ((u v : ℕ) → g.edge u v ≡ true → v < n)
    → IsLeastViolation g inv path → length path ≤ low TERMINAL + 1 + 3 * sum_below fall n
least-long g inv low fall n [] a b v = absurd v.breaks.0
least-long g inv low fall n (x ∷ xs) a b v =
    let s : ℕ = step inv 0 (g.typ x) in
    let sm : s < 3 = step-small inv 0 (g.typ x) (omega arith) in
    let w : length xs + low x ≤ low 1 + sum_by (at_station fall) (spots n) =
    walk-long g inv low fall x s xs 1 (spots n) a sm v.breaks.0.1 (least-shortest g inv x xs v)
    (λ u t i. spot-In n u t (visit-below g inv u x s xs t 1 n b v.breaks.0.1 i) (visit-small g inv u s xs t sm i)) in
    let e : sum_by (at_station fall) (spots n) ≡ 3 * sum_below fall n = spots-sum fall n in
    omega arith

-- the lower of two ranks
abbrev lesser : ℕ → ℕ → ℕ
lesser a b = a - (a - b)

-- the rank after the merge: of the two merged ids, the lower one
abbrev low : List ℕ → ℕ → ℕ → ℕ → ℕ
low ranks p q x = cond (x == p) (lesser (rank_of ranks p) (rank_of ranks q)) (rank_of ranks x)

-- a value at one number, and 0 elsewhere
abbrev single : ℕ → ℕ → ℕ → ℕ
single a k v = cond (v == a) k 0

-- how far ranks fall after the merge
abbrev merged_fall : List ℕ → (ℕ → ℕ) → ℕ → ℕ → ℕ → ℕ
merged_fall ranks fall p q v = cond (v == q) 0 (fall v + single p (gap (rank_of ranks p) (rank_of ranks q) + fall q) v)

-- the rank of what an id stands for is no lower
low-below : (ranks : List ℕ) (p q x u : ℕ) → onto p q x ≡ u → low ranks p q u ≤ rank_of ranks x
low-below ranks p q x u e =
    elim (cases_eq x q) [
      | inl a ↦
          let is : u ≡ p = sym e ∙ onto_is p q x a in
          let t : (u == p) ≡ true = eq-eqb u p is in
          let r : rank_of ranks x ≡ rank_of ranks q = ap (rank_of ranks) a in
          rw t (omega arith)
      | inr a ↦
          let is : x ≡ u = sym (onto_other p q x a) ∙ e in
          let r : rank_of ranks x ≡ rank_of ranks u = ap (rank_of ranks) is in
          elim (cases_eq u p) [
            | inl b ↦
                let t : (u == p) ≡ true = eq-eqb u p b in
                let s : rank_of ranks u ≡ rank_of ranks p = ap (rank_of ranks) b in
                rw t (omega arith)
            | inr b ↦ let t : (u == p) ≡ false = ne_eqb u p b in rw t (omega arith)
          ]
    ]

-- and no higher than that of the id, with its fall after the merge
high-above : (ranks : List ℕ) (fall : ℕ → ℕ) (p q x u : ℕ) → p < q → onto p q x ≡ u → rank_of ranks x + fall x ≤ low ranks p q u + merged_fall ranks fall p q u
high-above ranks fall p q x u less e =
    elim (cases_eq x q) [
      | inl a ↦
          let is : u ≡ p = sym e ∙ onto_is p q x a in
          let t : (u == p) ≡ true = eq-eqb u p is in
          let n : (u == q) ≡ false = ne_eqb u q (λ c. absurd (omega arith)) in
          let r : rank_of ranks x ≡ rank_of ranks q = ap (rank_of ranks) a in
          let s : fall x ≡ fall q = ap fall a in
          rw (n, t) (omega arith)
      | inr a ↦
          let is : x ≡ u = sym (onto_other p q x a) ∙ e in
          let n : (u == q) ≡ false = ne_eqb u q (λ c. a (is ∙ c)) in
          let r : rank_of ranks x ≡ rank_of ranks u = ap (rank_of ranks) is in
          let s : fall x ≡ fall u = ap fall is in
          elim (cases_eq u p) [
            | inl b ↦
                let t : (u == p) ≡ true = eq-eqb u p b in
                let v : rank_of ranks u ≡ rank_of ranks p = ap (rank_of ranks) b in
                rw (n, t) (omega arith)
            | inr b ↦ let t : (u == p) ≡ false = ne_eqb u p b in rw (n, t) (omega arith)
          ]
    ]

-- so an edge after the merge leads to a higher number
rises : (ranks : List ℕ) (g : Graph) (fall : ℕ → ℕ) (p q u v : ℕ) → p < q → ((x y : ℕ) → g.edge x y ≡ true → rank_of ranks x < rank_of ranks y + fall y) → (Merged g p q).edge u v ≡ true
    → low ranks p q u < low ranks p q v + merged_fall ranks fall p q v
rises ranks g fall p q u v less a k =
    let o : (x y : ℕ) × (onto p q x ≡ u) × (onto p q y ≡ v) × (g.edge x y ≡ true) = merged_parts g p q u v k in
    let l : low ranks p q u ≤ rank_of ranks o.0 = low-below ranks p q o.0 u o.2 in
    let m : rank_of ranks o.0 < rank_of ranks o.1 + fall o.1 = a o.0 o.1 o.4 in
    let h : rank_of ranks o.1 + fall o.1 ≤ low ranks p q v + merged_fall ranks fall p q v = high-above ranks fall p q o.1 v less o.3 in
    omega arith

-- a value at one number counts once
single-none : (a k n : ℕ) → n ≤ a → sum_below (single a k) n ≡ 0
single-none a k zero l = refl
single-none a k (suc n) l =
    let i : sum_below (single a k) n ≡ 0 = single-none a k n (omega arith) in
    let t : (n == a) ≡ false = ne_eqb n a (λ c. absurd (omega arith)) in
    let e : single a k n ≡ 0 = rw t refl in
    omega arith

single-sum : (a k n : ℕ) → a < n → sum_below (single a k) n ≡ k
single-sum a k zero l = absurd (omega arith)
single-sum a k (suc n) l =
    elim (cases_lt a n) [
      | inl m ↦
          let i : sum_below (single a k) n ≡ k = single-sum a k n m in
          let t : (n == a) ≡ false = ne_eqb n a (λ c. absurd (omega arith)) in
          let e : single a k n ≡ 0 = rw t refl in
          omega arith
      | inr m ↦
          let i : sum_below (single a k) n ≡ 0 = single-none a k n (omega arith) in
          let t : (n == a) ≡ true = eq-eqb n a (omega arith) in
          let e : single a k n ≡ k = rw t refl in
          omega arith
    ]

-- sums of equal sums
sum-equal : (f g h k : ℕ → ℕ) (n : ℕ) → ((v : ℕ) → f v + g v ≡ h v + k v) → sum_below f n + sum_below g n ≡ sum_below h n + sum_below k n
sum-equal f g h k zero e = refl
sum-equal f g h k (suc n) e =
    let i : sum_below f n + sum_below g n ≡ sum_below h n + sum_below k n = sum-equal f g h k n e in
    let d : f n + g n ≡ h n + k n = e n in
    omega arith

-- the falls after the merge, and that of the id that is gone
falls-at : (ranks : List ℕ) (fall : ℕ → ℕ) (p q v : ℕ) → p < q → merged_fall ranks fall p q v + single q (fall q) v ≡ fall v + single p (gap (rank_of ranks p) (rank_of ranks q) + fall q) v
falls-at ranks fall p q v less =
    elim (cases_eq v q) [
      | inl a ↦
          let t : (v == q) ≡ true = eq-eqb v q a in
          let n : (v == p) ≡ false = ne_eqb v p (λ c. absurd (omega arith)) in
          let e : fall v ≡ fall q = ap fall a in
          rw (t, n) (omega arith)
      | inr a ↦ let n : (v == q) ≡ false = ne_eqb v q a in rw n (omega arith)
    ]

-- all falls after the merge are the falls before, and what is between the two ranks
falls-merged : (ranks : List ℕ) (fall : ℕ → ℕ) (p q n : ℕ) → p < q → q < n → sum_below (merged_fall ranks fall p q) n ≡ gap (rank_of ranks p) (rank_of ranks q) + sum_below fall n
falls-merged ranks fall p q n less l =
    let s : sum_below (merged_fall ranks fall p q) n + sum_below (single q (fall q)) n ≡ sum_below fall n + sum_below (single p (gap (rank_of ranks p) (rank_of ranks q) + fall q)) n =
    sum-equal (merged_fall ranks fall p q) (single q (fall q)) fall (single p (gap (rank_of ranks p) (rank_of ranks q) + fall q)) n (λ v. falls-at ranks fall p q v less) in
    let a : sum_below (single q (fall q)) n ≡ fall q = single-sum q (fall q) n l in
    let b : sum_below (single p (gap (rank_of ranks p) (rank_of ranks q) + fall q)) n ≡ gap (rank_of ranks p) (rank_of ranks q) + fall q =
    single-sum p (gap (rank_of ranks p) (rank_of ranks q) + fall q) n (omega arith) in
    omega arith

-- the fall to an id is enough for each of its sources below n
fall-enough : (ranks : List ℕ) (g : Graph) (p n u : ℕ) → u < n → g.edge u p ≡ true → rank_of ranks u < rank_of ranks p + fall_to ranks g p n
fall-enough ranks g p zero u l e = absurd (omega arith)
fall-enough ranks g p (suc n) u l e =
    elim (cases_lt u n) [
      | inl m ↦ let i : rank_of ranks u < rank_of ranks p + fall_to ranks g p n = fall-enough ranks g p n u m e in omega arith
      | inr m ↦
          let is : n ≡ u = omega arith in
          let t : g.edge n p ≡ true = ap (λ (v : ℕ). g.edge v p) is ∙ e in
          let r : rank_of ranks n ≡ rank_of ranks u = ap (rank_of ranks) is in
          rw t (omega arith)
    ]

-- ids without an edge to p do not change it
fall-skip : (ranks : List ℕ) (g : Graph) (p a b : ℕ) → a ≤ b → ((u : ℕ) → a ≤ u → u < b → g.edge u p ≡ false) → fall_to ranks g p b ≡ fall_to ranks g p a
fall-skip ranks g p a zero l f = let e : 0 ≡ a = omega arith in ap (fall_to ranks g p) e
fall-skip ranks g p a (suc b) l f =
    elim (cases_lt b a) [
      | inl m ↦ let e : suc b ≡ a = omega arith in ap (fall_to ranks g p) e
      | inr m ↦
          let t : g.edge b p ≡ false = f b m (omega arith) in
          let i : fall_to ranks g p b ≡ fall_to ranks g p a = fall-skip ranks g p a b m (λ u j k. f u j (omega arith)) in
          rw t (omega arith)
    ]

-- the next source may raise it
pub fall-next : (ranks : List ℕ) (g : Graph) (p reached u : ℕ) → IsNextSource g p reached u → fall_to ranks g p (u + 1) ≡ max (fall_to ranks g p reached) (rank_of ranks u + 1 - rank_of ranks p)
fall-next ranks g p reached u n =
    let s : u + 1 ≡ suc u = omega arith in
    let t : g.edge u p ≡ true = n.edge in
    let i : fall_to ranks g p u ≡ fall_to ranks g p reached = fall-skip ranks g p reached u n.reached n.first in
    ap (fall_to ranks g p) s ∙ rw t (omega arith)

-- and behind the last one it stays
pub fall-end : (ranks : List ℕ) (g : Graph) (p reached n : ℕ) → reached ≤ n → HasNoSource g p reached → fall_to ranks g p n ≡ fall_to ranks g p reached
fall-end ranks g p reached n l none = fall-skip ranks g p reached n l (λ u a b. none u a)

-- what stands for an id below n is below n
onto-below : (p q y v n : ℕ) → q < n → p < q → y < n → onto p q y ≡ v → v < n
onto-below p q y v n l m b e =
    elim (cases_eq y q) [
      | inl a ↦ let is : v ≡ p = sym e ∙ onto_is p q y a in omega arith
      | inr a ↦ let is : y ≡ v = sym (onto_other p q y a) ∙ e in omega arith
    ]

-- so a least violation after a merge has at most so many ids
pub least-rising : (ranks : List ℕ) (g : Graph) (inv : Invariant) (p q n : ℕ) (path : List ℕ) → 2 ≤ p → p < q → q < n → ((u v : ℕ) → g.edge u v ≡ true → (u < n) × (v < n))
    → IsLeastViolation (Merged g p q) inv path
    → length path ≤ rank_of ranks TERMINAL + 1 + 3 * (gap (rank_of ranks p) (rank_of ranks q) + sum_below (λ v. fall_to ranks g v n) n)
least-rising ranks g inv p q n path two less limit below v =
    let l : length path ≤ low ranks p q TERMINAL + 1 + 3 * sum_below (merged_fall ranks (λ v. fall_to ranks g v n) p q) n =
    least-long (Merged g p q) inv (low ranks p q) (merged_fall ranks (λ v. fall_to ranks g v n) p q) n path
    (λ u v k. rises ranks g (λ v. fall_to ranks g v n) p q u v less (λ x y e. fall-enough ranks g y n x (below x y e).0 e) k)
    (λ u v k. let o : (x y : ℕ) × (onto p q x ≡ u) × (onto p q y ≡ v) × (g.edge x y ≡ true) = merged_parts g p q u v k in onto-below p q o.1 v n limit less (below o.0 o.1 o.4).1 o.3) v in
    let e : low ranks p q 1 ≡ rank_of ranks 1 = rw (ne_eqb 1 p (λ c. absurd (omega arith))) refl in
    let s : sum_below (merged_fall ranks (λ v. fall_to ranks g v n) p q) n ≡ gap (rank_of ranks p) (rank_of ranks q) + sum_below (λ v. fall_to ranks g v n) n =
    falls-merged ranks (λ v. fall_to ranks g v n) p q n less limit in
    omega arith
