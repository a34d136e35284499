use Rattle.std.proofs.Common.{◌≡◌, ◌+◌, ◌*◌, ◌/◌, ◌%◌, arith}
use Rattle.std.proofs.lemmas.Nat.{div-add-mod', mod_below}
use Rattle.infer_core.proofs.labels.Window.place_of.Goals as goal

pub returns-clause-within : goal.returns-clause-within
returns-clause-within c =
    let split : c.args.number / 64 * 64 + c.args.number % 64 ≡ c.args.number = div-add-mod' c.args.number 64 in
    c.in_ok-read.ensures.full (c.args.number % 64) (mod_below c.args.number 64 (omega arith)) (omega (arith, split, c.requires.number))
