use Rattle.std.proofs.Common.{◌≡◌, ℕ, length, ◌∙◌, arith, ap, sym, inl, inr}
use Rattle.std.proofs.lemmas.Bool.{cases_eq, cases_lt, eqb-true}
use Rattle.closure_miner.specs.Rows.{in_row}
use Rattle.closure_miner.specs.Sets.{has_at}
use Rattle.closure_miner.proofs.Rows.{at-before, none-at, none-in}
use Rattle.closure_miner.proofs.between.are_empty.Goals as goal

pub loop-row-preserved : goal.loop-row-preserved
loop-row-preserved c = λ a b in_a.
    let rows = c.args.rows.now in
    let i : ℕ = c.loop-row.row-index in
    let row = c.row-item.result in
    let empty : length row.items ≡ 0 = omega (arith, row.ok.0, eqb-true _ _ (sym c.is_empty.ensures ∙ c.if-not-is_empty.false)) in
    elim (cases_eq a i) [
      | inl same ↦
          ap (λ k. has_at in_row rows k b) same ∙ sym (at-before in_row rows i b row c.loop-row-test.true c.row-item.is) ∙ none-in row.items b empty
      | inr other ↦ c.loop-row.invariant a b (omega (arith, in_a, other))
    ]

pub returns : goal.returns
returns c = λ all a b. elim (cases_lt a (length c.args.rows.now)) [
  | inl inside ↦ c.loop-row.invariant a b (omega (arith, inside, c.loop-row-test.false))
  | inr past ↦ none-at c.args.rows.now a b past
]
