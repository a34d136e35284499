-- Sources of sets of states.
use Rattle.std.proofs.Common.{◌≡◌, ℕ, zero, suc, ◌+◌, ◌<◌, ◌≤◌, ◌==◌, ◌||◌, true, false, refl, sym, ◌∙◌, ap, inl, inr, arith, eq-eqb, ne_eqb}
use Rattle.std.proofs.lemmas.Bool.{cases_eq}
use Rattle.std.proofs.Math.Bool.{or-false, or-true}
use Rattle.invariants.specs.declared.Invariant.{Invariant}
use Rattle.invariants.specs.Monitors.{step}
use Rattle.models.specs.Models.{has_state}

-- of the states below the bound the source has those that lead into the set, and of the others none
pub record IsSourceBelow (inv : Invariant) (typ set bound source : ℕ) : Type 0 where
  pub below : (s : ℕ) → s < bound → has_state source s ≡ has_state set (step inv s typ)
  pub behind : (s : ℕ) → bound ≤ s → has_state source s ≡ false

-- before any state the source has none
pub source_none : (inv : Invariant) (typ set : ℕ) → IsSourceBelow inv typ set 0 0
source_none inv typ set =
    record {
      below = λ s l. absurd (let low : s < 0 = l in omega arith);
      behind = λ s l. nothing s;
    }
  where
    nothing : (s : ℕ) → has_state 0 s ≡ false
    nothing zero = refl
    nothing (suc zero) = refl
    nothing (suc (suc zero)) = refl
    nothing (suc (suc (suc s))) = refl

-- a state that leads into the set is taken into the source
pub source_more : (inv : Invariant) (typ set bound old new : ℕ) → has_state set (step inv bound typ) ≡ true
    → ((s : ℕ) → has_state new s ≡ (has_state old s || (bound == s)))
    → IsSourceBelow inv typ set bound old → IsSourceBelow inv typ set (bound + 1) new
source_more inv typ set bound old new h f i =
    record {
      below = λ s l. f s ∙ elim (cases_eq s bound) [
        | inl e ↦ rw (eq-eqb bound s (sym e)) (or-true (has_state old s) ∙ sym (ap (λ x. has_state set (step inv x typ)) e ∙ h))
        | inr n ↦ rw (ne_eqb bound s (λ e. n (sym e))) (or-false (has_state old s) ∙ i.below s (omega arith))
      ];
      behind = λ s l. f s ∙ rw (ne_eqb bound s (omega arith)) (or-false (has_state old s) ∙ i.behind s (omega arith));
    }

-- a state that does not lead into the set is left out of the source
pub source_same : (inv : Invariant) (typ set bound source : ℕ) → has_state set (step inv bound typ) ≡ false
    → IsSourceBelow inv typ set bound source → IsSourceBelow inv typ set (bound + 1) source
source_same inv typ set bound source h i =
    record {
      below = λ s l. elim (cases_eq s bound) [
        | inl e ↦ i.behind s (omega arith) ∙ sym (ap (λ x. has_state set (step inv x typ)) e ∙ h)
        | inr n ↦ i.below s (omega arith)
      ];
      behind = λ s l. i.behind s (omega arith);
    }
