use Rattle.std.proofs.Common.{◌≡◌, ◌==◌, ◌&&◌, not, ℕ, Bool, true, false, refl, sym}
use Rattle.std.proofs.lemmas.Bool.{true≢false}
use Rattle.invariants.specs.declared.Kind.{Kind}
use Rattle.invariants.specs.declared.Kind.TheVariants.{AF, NF, AP, IB}
use Rattle.invariants.specs.Monitors.{step_of}
use Rattle.path_finder.proofs.question.Question.passes_over.Goals as goal

-- a type that is neither of the two leaves each state as it is
passed : (k : Kind) (a b s x : ℕ) → (x == a) ≡ false → (x == b) ≡ false → step_of k a b s x ≡ s
passed AF a b s x e f = rw e (rw f refl)
passed NF a b s x e f = rw e (rw f refl)
passed AP a b s x e f = rw e (rw f refl)
passed IB a b s x e f = rw e (rw f refl)

neither : (x y : Bool) → (not x && not y) ≡ true → (x ≡ false) × (y ≡ false)
neither true y e = absurd (true≢false (sym e))
neither false true e = absurd (true≢false (sym e))
neither false false e = (refl, refl)

pub returns : goal.returns
returns c t s =
    let inv = c.args.self.now.inv in
    let n : ((c.args.typ == inv.a) ≡ false) × ((c.args.typ == inv.b) ≡ false) = neither (c.args.typ == inv.a) (c.args.typ == inv.b) t in
    passed inv.kind inv.a inv.b s c.args.typ n.0 n.1
