-- What a type does to an invariant that does not name it: nothing.
use Rattle.std.proofs.Common.{◌≡◌, ◌≢◌, ℕ, ◌==◌, ◌&&◌, true, false, not, refl, ap, ◌∙◌, ne_eqb}
use Rattle.invariants.specs.declared.Kind.{Kind}
use Rattle.invariants.specs.declared.Kind.TheVariants.{AF, NF, AP, IB}
use Rattle.invariants.specs.declared.Invariant.{Invariant}
use Rattle.invariants.specs.Monitors.{step_of, bad_of, is_bad}
use Rattle.merge_law.specs.Critical.{critical_of, critical, calm_of}
use Rattle.clashes.specs.Rules.{enters, stays, falls}

-- a type that an invariant does not name leaves its monitor as it is
pub unnamed_step : (kind : Kind) (a b s x : ℕ) → x ≢ a → x ≢ b → step_of kind a b s x ≡ s
unnamed_step AF a b s x n m = rw (ne_eqb x a n, ne_eqb x b m) refl
unnamed_step NF a b s x n m = rw (ne_eqb x b m, ne_eqb x a n) refl
unnamed_step AP a b s x n m = rw (ne_eqb x b m, ne_eqb x a n) refl
unnamed_step IB a b s x n m = rw (ne_eqb x a n, ne_eqb x b m) refl

calm_is_other : (kind : Kind) → (calm_of kind == critical_of kind) ≡ false
calm_is_other AF = refl
calm_is_other NF = refl
calm_is_other AP = refl
calm_is_other IB = refl

critical_is_itself : (kind : Kind) → (critical_of kind == critical_of kind) ≡ true
critical_is_itself AF = refl
critical_is_itself NF = refl
critical_is_itself AP = refl
critical_is_itself IB = refl

bad_once : (kind : Kind) → (critical_of kind == bad_of kind && not (critical_of kind == bad_of kind)) ≡ false
bad_once AF = refl
bad_once NF = refl
bad_once AP = refl
bad_once IB = refl

-- it does not bring it into its critical state
pub not_entered : (inv : Invariant) (x : ℕ) → x ≢ inv.a → x ≢ inv.b → enters inv x ≡ false
not_entered inv x n m = ap (λ (s : ℕ). s == critical inv) (unnamed_step inv.kind inv.a inv.b (calm_of inv.kind) x n m) ∙ calm_is_other inv.kind

-- it leaves it there
pub stayed : (inv : Invariant) (x : ℕ) → x ≢ inv.a → x ≢ inv.b → stays inv x ≡ true
stayed inv x n m = ap (λ (s : ℕ). s == critical inv) (unnamed_step inv.kind inv.a inv.b (critical inv) x n m) ∙ critical_is_itself inv.kind

-- it does not bring it from there into the bad state
pub not_fallen : (inv : Invariant) (x : ℕ) → x ≢ inv.a → x ≢ inv.b → falls inv x ≡ false
not_fallen inv x n m =
    ap (λ (s : ℕ). is_bad inv s && not (is_bad inv (critical inv))) (unnamed_step inv.kind inv.a inv.b (critical inv) x n m) ∙ bad_once inv.kind
