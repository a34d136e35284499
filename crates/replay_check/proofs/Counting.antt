-- Counts of edges and of ids, as they are taken.
use Rattle.std.proofs.Common.{◌≡◌, ◌≢◌, ℕ, ◌+◌, ◌*◌, ◌<◌, ◌≤◌, ◌==◌, ◌&&◌, cond, if◌then◌else◌, Bool, true, false, List, [], ◌∷◌, length, set, get_or, refl, sym, ◌∙◌, ap, ap₂, inl, inr, arith, eq-eqb, ne_eqb, zero-add}
use Rattle.std.proofs.lemmas.Bool.{cases_eq, cases_Bool}
use Rattle.std.proofs.lemmas.List.{get_or-set_same, get_or-set_other}
use Rattle.std.proofs.lemmas.List.Sums.{count_by-le-length}
use Rattle.limits.specs.declared.TheConstants.{MAX_PARTITIONS}
use Rattle.partition_model.specs.Assignments.{pairs}
use Rattle.replay_check.specs.Shown.{count_at, HasRow}
use Rattle.replay_check.specs.Laid.{step_count}
use Rattle.replay_check.proofs.Laying.{times}

-- at how many places p is followed at once by q, but not by INITIAL
abbrev pub steps : ℕ → ℕ → List ℕ → ℕ
steps p q ids = if q == 0 then 0 else pairs p q ids

-- no more than there are ids behind the first
pairs-few : (p q x : ℕ) (xs : List ℕ) → pairs p q (x ∷ xs) ≤ length xs
pairs-few p q x [] = one (x == p)
  where
    one : (b : Bool) → (if b && false then 1 else 0) + 0 ≤ 0
    one true = omega arith
    one false = omega arith
pairs-few p q x (y ∷ xs) =
    let i : pairs p q (y ∷ xs) ≤ length xs = pairs-few p q y xs in
    let b : (if x == p && y == q then 1 else 0) ≤ 1 = bit (x == p && y == q) in
    omega arith
  where
    bit : (b : Bool) → (if b then 1 else 0) ≤ 1
    bit true = omega arith
    bit false = omega arith

pub steps-few : (p q x : ℕ) (xs : List ℕ) → steps p q (x ∷ xs) ≤ length xs
steps-few p q x xs =
    elim (cases_Bool (q == 0)) [
      | inl t ↦ rw t (omega arith)
      | inr f ↦ rw f (pairs-few p q x xs)
    ]

-- the next place is counted where no trace begins there
pub steps-more : (p q x y : ℕ) (xs : List ℕ) → y ≢ 0 → steps p q (x ∷ y ∷ xs) ≡ (if x == p && y == q then 1 else 0) + steps p q (y ∷ xs)
steps-more p q x y xs n =
    elim (cases_eq q 0) [
      | inl e ↦ (let f : (y == q) ≡ false = ne_eqb y q (λ k. n (k ∙ e)) in rw (eq-eqb q 0 e, f) (none (x == p)))
      | inr m ↦ rw (ne_eqb q 0 m) refl
    ]
  where
    none : (b : Bool) → 0 ≡ (if b && false then 1 else 0) + 0
    none true = refl
    none false = refl

-- and passed where one does
pub steps-over : (p q x y : ℕ) (xs : List ℕ) → y ≡ 0 → steps p q (x ∷ y ∷ xs) ≡ steps p q (y ∷ xs)
steps-over p q x y xs z =
    elim (cases_eq q 0) [
      | inl e ↦ rw (eq-eqb q 0 e) refl
      | inr m ↦ (let f : (y == q) ≡ false = ne_eqb y q (λ k. m (sym k ∙ z)) in rw (ne_eqb q 0 m, f) (none (x == p)))
    ]
  where
    none : (b : Bool) → (if b && false then 1 else 0) + pairs p q (y ∷ xs) ≡ pairs p q (y ∷ xs)
    none true = zero-add (pairs p q (y ∷ xs))
    none false = zero-add (pairs p q (y ∷ xs))

-- one more in a table of counts
pub count-more : (counts : List ℕ) (a b v : ℕ) → HasRow counts a → b < MAX_PARTITIONS → v ≡ count_at counts a b + 1
    → (p q : ℕ) → q < MAX_PARTITIONS → count_at (set counts (a * MAX_PARTITIONS + b) v) p q ≡ (if a == p && b == q then 1 else 0) + count_at counts p q
count-more counts a b v la lb e p q lq =
    elim (cases_eq a p) [
      | inl f ↦ elim (cases_eq b q) [
        | inl g ↦
            let at : a * MAX_PARTITIONS + b ≡ p * MAX_PARTITIONS + q = ap₂ (λ (x y : ℕ). x * MAX_PARTITIONS + y) f g in
            let there : get_or (set counts (a * MAX_PARTITIONS + b) v) (a * MAX_PARTITIONS + b) 0 ≡ v = get_or-set_same counts (a * MAX_PARTITIONS + b) v 0 (omega arith) in
            let old : count_at counts a b ≡ count_at counts p q = ap₂ (λ (x y : ℕ). count_at counts x y) f g in
            rw (eq-eqb a p f, eq-eqb b q g) (ap (λ n. get_or (set counts (a * MAX_PARTITIONS + b) v) n 0) (sym at) ∙ there ∙ omega arith)
        | inr n ↦
            rw (eq-eqb a p f, ne_eqb b q n) (get_or-set_other counts (a * MAX_PARTITIONS + b) (p * MAX_PARTITIONS + q) v 0 (λ k. n (omega arith)) ∙ sym (zero-add (count_at counts p q)))
      ]
      | inr n ↦ rw (ne_eqb a p n) (get_or-set_other counts (a * MAX_PARTITIONS + b) (p * MAX_PARTITIONS + q) v 0 (λ k. n (omega arith)) ∙ sym (zero-add (count_at counts p q)))
    ]

-- one more in a list of sizes
pub size-more : (sizes : List ℕ) (x v : ℕ) → x < length sizes → v ≡ get_or sizes x 0 + 1 → (p : ℕ) → get_or (set sizes x v) p 0 ≡ cond (x == p) 1 0 + get_or sizes p 0
size-more sizes x v l e p =
    elim (cases_eq p x) [
      | inl f ↦ rw (eq-eqb x p (sym f)) (ap (λ n. get_or (set sizes x v) n 0) f ∙ get_or-set_same sizes x v 0 l ∙ e ∙ ap (λ n. get_or sizes n 0 + 1) (sym f) ∙ omega arith)
      | inr n ↦ rw (ne_eqb x p (λ k. n (sym k))) (get_or-set_other sizes x p v 0 n ∙ sym (zero-add (get_or sizes p 0)))
    ]

pub times-few : (p : ℕ) (xs : List ℕ) → times p xs ≤ length xs
times-few p xs = count_by-le-length (λ x. x == p) xs

-- a step of the count
pub steps-next : (p q x y : ℕ) (xs : List ℕ) → steps p q (x ∷ y ∷ xs) ≡ step_count x y p q + steps p q (y ∷ xs)
steps-next p q x y xs =
    elim (cases_eq y 0) [
      | inl e ↦ rw (eq-eqb y 0 e) (steps-over p q x y xs e ∙ sym (zero-add (steps p q (y ∷ xs))))
      | inr n ↦ rw (ne_eqb y 0 n) (steps-more p q x y xs n)
    ]

-- nothing follows the last id
pub steps-end : (p q x : ℕ) → steps p q (x ∷ []) ≡ 0
steps-end p q x = let f : steps p q (x ∷ []) ≤ 0 = steps-few p q x [] in omega arith
