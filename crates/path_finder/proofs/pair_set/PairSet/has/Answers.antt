use Rattle.std.proofs.Common.{ℕ, ◌%◌, ap, ◌∙◌, arith}
use Rattle.std.proofs.lemmas.Nat.{div-add-mod', mod_below}
use Rattle.path_finder.specs.PairSets.{has_in}
use Rattle.path_finder.proofs.pair_set.PairSet.has.Goals as goal

pub returns : goal.returns
returns c =
    c.has_bit.ensures
    ∙ c.word.ensures (c.args.pair.id % 64) (mod_below c.args.pair.id 64 (omega arith))
    ∙ ap (λ (n : ℕ). has_in c.args.self.now c.args.pair.state n) (div-add-mod' c.args.pair.id 64)
