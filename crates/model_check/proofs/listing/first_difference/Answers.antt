use Rattle.std.proofs.Common.{◌≡◌, ◌≢◌, ◌==◌, ◌&&◌, not, Bool, true, false, true≢false, eq-eqb, get_or, length, sym, ◌∙◌, ap, subst, inl, inr, arith}
use Rattle.std.proofs.lemmas.Bool.{cases_Bool}
use denote.Enum.Bare.{sameb, same_false}
use Rattle.invariants.specs.contracts.Kind.{the_type}
use Rattle.invariants.specs.declared.Kind.TheVariants.{AF}
use Rattle.invariants.specs.declared.Invariant.{Invariant}
use Rattle.model_check.proofs.Failing.{AgreeUpTo, differs_here, listed_ends, mined_ends, all_same}
use Rattle.model_check.proofs.listing.first_difference.Goals as goal
use Rattle.model_check.proofs.listing.first_difference.Goals.{then-i-listed-via-then-i-listed, then-i-listed-via-else-i-listed+then-ne}

-- what the test of two invariants says
differ : (x y : Invariant) (r : Bool) → r ≡ true → r ≡ not (sameb the_type x.kind y.kind && (x.a == y.a && x.b == y.b)) → x ≢ y
differ x y r t e =
    λ same. elim (cases_Bool (sameb the_type x.kind y.kind)) [
      | inl k ↦
          let a : (x.a == y.a) ≡ true = eq-eqb x.a y.a (ap (λ (z : Invariant). z.a) same) in
          let b : (x.b == y.b) ≡ true = eq-eqb x.b y.b (ap (λ (z : Invariant). z.b) same) in
          let f : r ≡ false = rw (k, a, b) at e in
          true≢false (sym t ∙ f)
      | inr k ↦ same_false the_type x.kind y.kind k (ap (λ (z : Invariant). z.kind) same)
    ]

pub returns-then-i-listed : goal.returns-then-i-listed
returns-then-i-listed c =
    elim c.then-i-listed.branch [
      | then-i-listed-via-then-i-listed w ↦ listed_ends c.loop-i.i c.args.listed.now c.args.mined.now c.loop-i.invariant (let a = c.loop-i.invariant.room in omega (arith, w.if-i-listed.true)) c.loop-i-test.true
      | then-i-listed-via-else-i-listed+then-ne w ↦
          differs_here c.loop-i.i c.args.listed.now c.args.mined.now w.index-listed-i.result (record { kind = AF; a = 0; b = 0 }) c.loop-i.invariant w.if-i-listed.false c.loop-i-test.true
          (differ (get_or c.args.listed.now c.loop-i.i w.index-listed-i.result).inv (get_or c.args.mined.now c.loop-i.i (record { kind = AF; a = 0; b = 0 })) w.ne.result w.if-ne.true w.ne.ensures)
    ]

pub returns-then-listed-mined : goal.returns-then-listed-mined
returns-then-listed-mined c =
    let i : c.loop-i.i ≡ length c.args.mined.now = omega arith in
    mined_ends (length c.args.mined.now) c.args.listed.now c.args.mined.now (subst (λ k. AgreeUpTo k c.args.listed.now c.args.mined.now) i c.loop-i.invariant) Rattle.std.proofs.Common.refl (omega arith)

pub returns : goal.returns
returns c =
    let i : c.loop-i.i ≡ length c.args.mined.now = omega arith in
    all_same c.loop-i.i c.args.listed.now c.args.mined.now c.loop-i.invariant (let a = c.loop-i.invariant.room in omega arith) (sym i)
