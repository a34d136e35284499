use Rattle.std.proofs.Common.{arith, ◌≡◌, ◌-◌, ◌∷◌, ℕ, List, drop, length, take}
use Rattle.std.proofs.lemmas.List.{take_more_set}
use Rattle.std.proofs.lemmas.Grind.{common_steps}
use Rattle.model_file.specs.Tree.{number_data}
use Rattle.model_reader.proofs.Listing.{taken_last, taken_more}
use Rattle.model_reader.proofs.Tails.{first-apart}
use Rattle.model_reader.proofs.decimals.numbers_in_list.Goals as goal

pub returns-then-next-eq93-clause-text : goal.returns-then-next-eq93-clause-text
returns-then-next-eq93-clause-text c =
    let others : List ℕ = c.in_ok-number.others.now in
    let next : others ≡ 93 ∷ take (length others - 1) (drop 1 others) = first-apart others 93 _ c.in-len1-up.len_at_least c.if-next-eq93.true in
    taken_last number_data (take c.numbers.count c.numbers.numbers) c.in_ok-number.number _ c.args.bytes.now c.numbers.rest.now others _
    (take_more_set c.numbers.numbers c.numbers.count c.in_ok-number.number c.numbers-test.true) c.numbers.invariant.text c.in_ok-number.ensures next

pub numbers-preserved : goal.numbers-preserved
numbers-preserved c =
    let others : List ℕ = c.in_ok-number.others.now in
    let next : others ≡ 44 ∷ take (length others - 1) (drop 1 others) = first-apart others 44 0 c.in-len1-up.len_at_least (omega (arith, c.if-next-ne44.false)) in
    record {
      within = grind (arith, common_steps);
      text =
          taken_more number_data (take c.numbers.count c.numbers.numbers) c.in_ok-number.number _ c.args.bytes.now c.numbers.rest.now others _
          (take_more_set c.numbers.numbers c.numbers.count c.in_ok-number.number c.numbers-test.true) c.numbers.invariant.text c.in_ok-number.ensures next;
    }
