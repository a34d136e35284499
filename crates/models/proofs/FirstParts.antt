-- A check names one part, and only where the model is not valid.
use Rattle.std.proofs.Common.{◌≡◌, ℕ, zero, suc, List, [], ◌∷◌, sym, ◌∙◌, refl, ap, ap₂, subst, inl, inr}
use Rattle.std.proofs.lemmas.Bool.{cases_order}
use Rattle.std.specs.List.{AllByRecursion}
use Rattle.invariants.specs.declared.Invariant.{Invariant}
use Rattle.invariants.specs.declared.records.Model.{Model}
use Rattle.models.specs.declared.parts.Part.TheVariants as part
use Rattle.models.specs.Models.{TypedWords, mined_of, IsLabelled}
use Rattle.models.specs.Checks.{IsAccepted, IsFirstFailure, DiffersAt, IsFirstPart}
use Rattle.models.specs.Laws.{FirstPartFails, OneFirstPart}
use Rattle.model_shape.specs.Shapes.{listing_of}

differs-self : (xs : List Invariant) (k : ℕ) → DiffersAt xs xs k → ⊥
differs-self [] k d = d
differs-self (x ∷ xs) zero d = d refl
differs-self (x ∷ xs) (suc k) d = differs-self xs k d.1

differs-not : (xs ys : List Invariant) (k : ℕ) → DiffersAt xs ys k → xs ≡ ys → ⊥
differs-not xs ys k d e = differs-self ys k (subst (λ (z : List Invariant). DiffersAt z ys k) e d)

one-difference : (xs ys : List Invariant) (j k : ℕ) → DiffersAt xs ys j → DiffersAt xs ys k → j ≡ k
one-difference [] [] j k a b = absurd a
one-difference [] (y ∷ ys) j k a b = a ∙ sym b
one-difference (x ∷ xs) [] j k a b = a ∙ sym b
one-difference (x ∷ xs) (y ∷ ys) zero zero a b = refl
one-difference (x ∷ xs) (y ∷ ys) zero (suc k) a b = absurd (a b.0)
one-difference (x ∷ xs) (y ∷ ys) (suc j) zero a b = absurd (b a.0)
one-difference (x ∷ xs) (y ∷ ys) (suc j) (suc k) a b = ap suc (one-difference xs ys j k a.1 b.1)

fails-not : {X : Type 0} (P : X → Type 0) (xs : List X) (k : ℕ) → IsFirstFailure P xs k → AllByRecursion P xs → ⊥
fails-not P [] k f a = f
fails-not P (x ∷ xs) zero f a = f a.0
fails-not P (x ∷ xs) (suc k) f a = fails-not P xs k f.1 a.1

one-failure : {X : Type 0} (P : X → Type 0) (xs : List X) (j k : ℕ) → IsFirstFailure P xs j → IsFirstFailure P xs k → j ≡ k
one-failure P [] j k a b = absurd a
one-failure P (x ∷ xs) zero zero a b = refl
one-failure P (x ∷ xs) zero (suc k) a b = absurd (a b.0)
one-failure P (x ∷ xs) (suc j) zero a b = absurd (b a.0)
one-failure P (x ∷ xs) (suc j) (suc k) a b = ap suc (one-failure P xs j k a.1 b.1)

-- where some part fails first, the model is not valid
pub first_part_fails : FirstPartFails
first_part_fails m log part.Types f valid = f valid.types
first_part_fails m log (part.Listing i) f valid = differs-not (listing_of m) (mined_of log) i f.1 valid.listing
first_part_fails m log (part.Trace i) f valid = fails-not (IsAccepted m) log.words i f.2 valid.traces
first_part_fails m log (part.Label i) f valid = fails-not (IsLabelled m) m.invariants i f.3 valid.labels
first_part_fails m log (part.Block p q) f valid = f.5 (valid.blocks p q f.4)

one-blocked : (m : Model) (log : TypedWords) (p q r s : ℕ) → IsFirstPart m log (part.Block p q) → IsFirstPart m log (part.Block r s) → part.Block p q ≡ part.Block r s
one-blocked m log p q r s a b =
    elim (cases_order p r) [
      | inl e ↦ elim (cases_order q s) [
        | inl f ↦ ap₂ (λ (x y : ℕ). part.Block x y) e f
        | inr o ↦ elim o [ inl l ↦ absurd (a.5 (b.6 p q a.4 (inr (e, l)))) | inr l ↦ absurd (b.5 (a.6 r s b.4 (inr (sym e, l)))) ]
      ]
      | inr o ↦ elim o [ inl l ↦ absurd (a.5 (b.6 p q a.4 (inl l))) | inr l ↦ absurd (b.5 (a.6 r s b.4 (inl l))) ]
    ]

-- no two parts fail first
pub one_first_part : OneFirstPart
one_first_part m log part.Types part.Types a b = refl
one_first_part m log part.Types y a b = absurd (a b.0)
one_first_part m log x part.Types a b = absurd (b a.0)
one_first_part m log (part.Listing i) (part.Listing j) a b = ap (λ (x : ℕ). part.Listing x) (one-difference (listing_of m) (mined_of log) i j a.1 b.1)
one_first_part m log (part.Listing i) y a b = absurd (differs-not (listing_of m) (mined_of log) i a.1 b.1)
one_first_part m log x (part.Listing j) a b = absurd (differs-not (listing_of m) (mined_of log) j b.1 a.1)
one_first_part m log (part.Trace i) (part.Trace j) a b = ap (λ (x : ℕ). part.Trace x) (one-failure (IsAccepted m) log.words i j a.2 b.2)
one_first_part m log (part.Trace i) y a b = absurd (fails-not (IsAccepted m) log.words i a.2 b.2)
one_first_part m log x (part.Trace j) a b = absurd (fails-not (IsAccepted m) log.words j b.2 a.2)
one_first_part m log (part.Label i) (part.Label j) a b = ap (λ (x : ℕ). part.Label x) (one-failure (IsLabelled m) m.invariants i j a.3 b.3)
one_first_part m log (part.Label i) (part.Block r s) a b = absurd (fails-not (IsLabelled m) m.invariants i a.3 b.3)
one_first_part m log (part.Block p q) (part.Label j) a b = absurd (fails-not (IsLabelled m) m.invariants j b.3 a.3)
one_first_part m log (part.Block p q) (part.Block r s) a b = one-blocked m log p q r s a b
