use Rattle.std.proofs.Common.{◌≡◌, ℕ, true, subst, sym, ◌∙◌, arith, inl, inr}
use Rattle.std.proofs.lemmas.Bool.{cases_eq}
use Rattle.clashes.specs.Marks.{on}
use Rattle.clashes.proofs.Masking.{in_table, one_bit}
use Rattle.clashes.proofs.masks.turn_on.Goals as goal

pub put-requires-clause-row : goal.put-requires-clause-row
put-requires-clause-row c =
    let n = c.requires.0 in
    (in_table c.loop-k.rows n c.args.count c.args.r c.loop-k.k c.loop-k-test.true (c.loop-k.invariant.shape n c.args.count c.requires.2) c.requires.1).0

pub put-requires-clause-place : goal.put-requires-clause-place
put-requires-clause-place c =
    let n = c.requires.0 in
    (in_table c.loop-k.rows n c.args.count c.args.r c.loop-k.k c.loop-k-test.true (c.loop-k.invariant.shape n c.args.count c.requires.2) c.requires.1).1

pub loop-k-preserved : goal.loop-k-preserved
loop-k-preserved c =
    let n = c.requires.0 in
    let i = c.loop-k.invariant in
    let bit = one_bit c.loop-k.rows c.put.new.self n c.args.count c.args.r c.loop-k.k true c.loop-k-test.true (i.shape n c.args.count c.requires.2) c.requires.1 c.put.ensures.rows in
    record {
      shape = λ a b s. c.put.ensures.shape a b (i.shape a b s);
      here = λ k below. elim (cases_eq k c.loop-k.k) [
        | inl same ↦ subst (λ (x : ℕ). on c.put.new.self c.args.r x ≡ true) (sym same) bit.0
        | inr ne ↦ bit.1 c.args.r k (λ e f. ne f) ∙ i.here k (omega (arith, below, ne))
      ];
      others = λ s k ne. bit.1 s k (λ e f. ne e) ∙ i.others s k ne;
    }
