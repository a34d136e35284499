-- The first place at which lists differ, or at which a member of a list fails.
use Rattle.std.proofs.Common.{◌≡◌, ◌≢◌, ℕ, zero, suc, ◌+◌, ◌<◌, ◌≤◌, Bool, true, false, not, List, [], ◌∷◌, length, map, slice_get, get_or, Some, refl, sym, ◌∙◌, ap, ap₂, subst, inl, inr, arith}
use Rattle.std.specs.List.{AllByRecursion}
use Rattle.std.proofs.lemmas.Bool.{cases_eq}
use Rattle.invariants.specs.declared.Invariant.{Invariant}
use Rattle.invariants.specs.declared.records.Listed.{Listed}
use Rattle.models.specs.Checks.{DiffersAt, IsFirstFailure}
use Rattle.model_check.specs.Verdicts.{inv_of}

-- a test whose opposite fails
pub from_not : (b : Bool) → not b ≡ false → b ≡ true
from_not true e = refl
from_not false e = sym e

-- two lists agree at the first places, which both have
pub record AgreeUpTo (k : ℕ) (xs : List Listed) (ys : List Invariant) : Type 0 where
  pub room : k ≤ length xs
  pub same : (j : ℕ) (d : Listed) (e : Invariant) → j < k → (get_or xs j d).inv ≡ get_or ys j e

-- so do these lists without their first members
agree-rest : (k : ℕ) (x : Listed) (xs : List Listed) (y : Invariant) (ys : List Invariant) → AgreeUpTo (suc k) (x ∷ xs) (y ∷ ys) → AgreeUpTo k xs ys
agree-rest k x xs y ys a = record { room = omega (arith, a.room); same = λ j d e l. a.same (suc j) d e (omega arith) }

-- lists that agree up to a place at which their members differ differ there first
pub differs_here : (k : ℕ) (xs : List Listed) (ys : List Invariant) (d : Listed) (e : Invariant) → AgreeUpTo k xs ys → k < length xs → k < length ys → (get_or xs k d).inv ≢ get_or ys k e → DiffersAt (map inv_of xs) ys k
differs_here k [] ys d e a l m n = absurd (omega arith)
differs_here k (x ∷ xs) [] d e a l m n = absurd (omega arith)
differs_here zero (x ∷ xs) (y ∷ ys) d e a l m n = n
differs_here (suc k) (x ∷ xs) (y ∷ ys) d e a l m n = (a.same 0 d e (omega arith), differs_here k xs ys d e (agree-rest k x xs y ys a) (omega arith) (omega arith) n)

-- where the listed invariants end first, the lists differ at their length
pub listed_ends : (k : ℕ) (xs : List Listed) (ys : List Invariant) → AgreeUpTo k xs ys → length xs ≡ k → k < length ys → DiffersAt (map inv_of xs) ys k
listed_ends zero [] [] a l m = absurd (omega arith)
listed_ends zero [] (y ∷ ys) a l m = refl
listed_ends (suc k) [] ys a l m = absurd (omega arith)
listed_ends k (x ∷ xs) [] a l m = absurd (omega arith)
listed_ends zero (x ∷ xs) (y ∷ ys) a l m = absurd (omega arith)
listed_ends (suc k) (x ∷ xs) (y ∷ ys) a l m = (a.same 0 x y (omega arith), listed_ends k xs ys (agree-rest k x xs y ys a) (omega arith) (omega arith))

-- where the mined invariants end first, the lists differ at their length
pub mined_ends : (k : ℕ) (xs : List Listed) (ys : List Invariant) → AgreeUpTo k xs ys → length ys ≡ k → k < length xs → DiffersAt (map inv_of xs) ys k
mined_ends k [] ys a l m = absurd (omega arith)
mined_ends zero (x ∷ xs) [] a l m = refl
mined_ends (suc k) (x ∷ xs) [] a l m = absurd (omega arith)
mined_ends zero (x ∷ xs) (y ∷ ys) a l m = absurd (omega arith)
mined_ends (suc k) (x ∷ xs) (y ∷ ys) a l m = (a.same 0 x y (omega arith), mined_ends k xs ys (agree-rest k x xs y ys a) (omega arith) (omega arith))

-- lists that agree up to the end of both are the same
pub all_same : (k : ℕ) (xs : List Listed) (ys : List Invariant) → AgreeUpTo k xs ys → length xs ≡ k → length ys ≡ k → map inv_of xs ≡ ys
all_same k [] [] a l m = refl
all_same k [] (y ∷ ys) a l m = absurd (omega arith)
all_same k (x ∷ xs) [] a l m = absurd (omega arith)
all_same zero (x ∷ xs) (y ∷ ys) a l m = absurd (omega arith)
all_same (suc k) (x ∷ xs) (y ∷ ys) a l m = ap₂ (λ (u : Invariant) (us : List Invariant). u ∷ us) (a.same 0 x y (omega arith)) (all_same k xs ys (agree-rest k x xs y ys a) (omega arith) (omega arith))

-- each member before the place k has the property
abbrev pub HoldBelow : {X : Type 0} → (X → Type 0) → List X → ℕ → Type 0
HoldBelow {X} P xs k = (j : ℕ) (x : X) → slice_get xs j ≡ Some x → j < k → P x

-- a member that lacks the property where all before it have it is the first that fails
pub fails_first : {X : Type 0} (P : X → Type 0) (xs : List X) (k : ℕ) (x : X) → slice_get xs k ≡ Some x → (P x → ⊥) → HoldBelow P xs k → IsFirstFailure P xs k
fails_first P [] k x g n h = absurd (cc g)
fails_first P (y ∷ ys) zero x g n h = λ p. n (subst P (let e : y ≡ x = cc in e) p)
fails_first P (y ∷ ys) (suc k) x g n h = (h 0 y refl (omega arith), fails_first P ys k x g n (λ j z f l. h (suc j) z f (omega arith)))

-- where each member before the end has the property, all have it
pub holds_all : {X : Type 0} (P : X → Type 0) (xs : List X) (k : ℕ) → length xs ≤ k → HoldBelow P xs k → AllByRecursion P xs
holds_all P [] k l h = tt
holds_all P (y ∷ ys) zero l h = absurd (omega arith)
holds_all P (y ∷ ys) (suc k) l h = (h 0 y refl (omega arith), holds_all P ys k (omega arith) (λ j z f m. h (suc j) z f (omega arith)))

-- with one member more that has it, each before the next place has the property
pub holds_more : {X : Type 0} (P : X → Type 0) (xs : List X) (k : ℕ) (x : X) → slice_get xs k ≡ Some x → P x → HoldBelow P xs k → HoldBelow P xs (k + 1)
holds_more P xs k x g p h j y f l =
    elim (cases_eq j k) [
      | inl e ↦ subst P (let s : Some x ≡ Some y = sym g ∙ sym (ap (λ i. slice_get xs i) e) ∙ f in let t : x ≡ y = cc in t) p
      | inr n ↦ h j y f (omega arith)
    ]
