-- Facts that hold or do not.
use Rattle.std.proofs.Common.{◌≡◌, ◌⊎◌, ℕ, ◌<◌, Bool, true, List, [], ◌∷◌, Option, Some, None, sym, refl, ap₂, subst, inl, inr, arith}
use Rattle.std.proofs.lemmas.Bool.{cases_eq, cases_lt, cases_Bool}
use Rattle.std.specs.List.{AllByRecursion}
use Rattle.invariants.specs.declared.Invariant.{Invariant}
use Rattle.invariants.specs.Holds.{Holds, holds}
use Rattle.invariants.proofs.ByPlaces.{holds-Holds}
use Rattle.partition_model.specs.Graphs.{Graph, Walk, IsPath, word, Breaks}
use Rattle.partition_model.specs.Coarsening.{IsPair}
use Rattle.partition_model.proofs.Lists.{In}
use Rattle.partition_bounds.specs.Pairs.{is_pair}
use Rattle.partition_bounds.proofs.Pairing.{pair-passes, passed-pair}

-- a fact holds, or it does not
abbrev pub OrNot : Type 0 → Type 0
OrNot P = P ⊎ (P → ⊥)

-- two facts hold together or not, where each holds or not
pub both : {P Q : Type 0} → OrNot P → OrNot Q → OrNot (P × Q)
both (inl p) (inl q) = inl (p, q)
both (inl p) (inr n) = inr (λ x. n x.1)
both (inr n) q = inr (λ x. n x.0)

-- two lists are the same or not, where that is so of their members
pub same-or-not : {X : Type 0} → ((x y : X) → OrNot (x ≡ y)) → (xs ys : List X) → OrNot (xs ≡ ys)
same-or-not d [] [] = inl refl
same-or-not d [] (y ∷ ys) = inr (λ e. cc e)
same-or-not d (x ∷ xs) [] = inr (λ e. cc e)
same-or-not {X} d (x ∷ xs) (y ∷ ys) =
    elim (d x y) [
      | inl a ↦ elim (same-or-not d xs ys) [
        | inl b ↦ inl (ap₂ (λ (u : X) (us : List X). u ∷ us) a b)
        | inr n ↦ inr (λ e. n (let f : xs ≡ ys = cc in f))
      ]
      | inr n ↦ inr (λ e. n (let f : x ≡ y = cc in f))
    ]

-- two numbers are the same or not
pub number-or-not : (m n : ℕ) → OrNot (m ≡ n)
number-or-not m n = cases_eq m n

-- a number is below another or not
pub less-or-not : (m n : ℕ) → OrNot (m < n)
less-or-not m n = elim (cases_lt m n) [ inl l ↦ inl l | inr k ↦ inr (λ l. omega (arith, l, k)) ]

-- a truth value is true or not
pub true-or-not : (b : Bool) → OrNot (b ≡ true)
true-or-not b = elim (cases_Bool b) [ inl t ↦ inl t | inr f ↦ inr (λ t. cc) ]

-- an invariant holds of a word or not
pub holds-or-not : (inv : Invariant) (w : List ℕ) → OrNot (Holds inv w)
holds-or-not inv w =
    elim (cases_Bool (holds inv w)) [
      | inl t ↦ inl ((holds-Holds inv w).0 t)
      | inr f ↦ inr (λ h. (let t : holds inv w ≡ true = (holds-Holds inv w).1 h in cc))
    ]

-- a list of ids is a walk between two ids or not
pub walk-or-not : (g : Graph) (p : ℕ) (xs : List ℕ) (q : ℕ) → OrNot (Walk g p xs q)
walk-or-not g p [] q = cases_eq p q
walk-or-not g p (r ∷ rs) q = both (true-or-not (g.edge p r)) (walk-or-not g r rs q)

-- a list of ids is a path or not
pub path-or-not : (g : Graph) (path : List ℕ) → OrNot (IsPath g path)
path-or-not g [] = inr (λ h. h)
path-or-not g (x ∷ xs) = both (cases_eq x 0) (walk-or-not g x xs 1)

-- the opposite of a fact holds or not, where the fact does
pub not-or-not : {P : Type 0} → OrNot P → OrNot (P → ⊥)
not-or-not (inl p) = inr (λ n. n p)
not-or-not (inr n) = inl n

-- a list of ids is a path that breaks an invariant or not
pub breaks-or-not : (g : Graph) (inv : Invariant) (path : List ℕ) → OrNot (Breaks g inv path)
breaks-or-not g inv path = both (path-or-not g path) (not-or-not (holds-or-not inv (word g path)))

-- there is a value, or none
pub option-cases : {X : Type 0} (o : Option X) → ((x : X) × (o ≡ Some x)) ⊎ (o ≡ None)
option-cases None = inr refl
option-cases (Some x) = inl (x, refl)

-- two ids are a pair of one type or not
pub pair-or-not : (g : Graph) (p q : ℕ) → OrNot (IsPair g p q)
pair-or-not g p q =
    elim (true-or-not (is_pair g p q)) [
      | inl t ↦ inl (passed-pair g p q t)
      | inr f ↦ inr (λ i. f (pair-passes g p q i))
    ]

-- two options that are the same have the same value
pub some-same : {X : Type 0} (a b : X) → Some a ≡ Some b → a ≡ b
some-same a b e = cc

-- that a fact holds where another does is so or not, where each holds or not
pub from-or-not : {P Q : Type 0} → OrNot P → OrNot Q → OrNot (P → Q)
from-or-not p (inl q) = inl (λ x. q)
from-or-not (inl p) (inr n) = inr (λ f. n (f p))
from-or-not (inr m) (inr n) = inl (λ x. absurd (m x))

-- a property holds of each member of a list or not, where it holds of each one or not
pub all-or-not : {X : Type 0} (P : X → Type 0) → ((x : X) → OrNot (P x)) → (xs : List X) → OrNot (AllByRecursion P xs)
all-or-not P d [] = inl tt
all-or-not P d (x ∷ xs) = both (d x) (all-or-not P d xs)

-- a property holds of some member of a list or of none, where it holds of each one or not
pub any-or-not : {X : Type 0} (P : X → Type 0) → ((x : X) → OrNot (P x)) → (xs : List X) → OrNot ((x : X) × In x xs × P x)
any-or-not P d [] = inr (λ o. o.1)
any-or-not {X} P d (x ∷ xs) =
    elim (d x) [
      | inl p ↦ inl (x, inl refl, p)
      | inr n ↦ elim (any-or-not P d xs) [
        | inl o ↦ inl (o.0, inr o.1, o.2)
        | inr f ↦ inr (λ o. elim o.1 [
          | inl e ↦ n (subst P (sym e) o.2)
          | inr i ↦ f (o.0, i, o.2)
        ])
      ]
    ]
