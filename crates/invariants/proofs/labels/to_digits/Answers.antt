use Rattle.std.proofs.Common.{ℕ, List, map, arith}
use Rattle.std.proofs.lemmas.List.{length-map}
use Rattle.invariants.specs.Labels.{digit_of}
use Rattle.invariants.proofs.LabelDigits.{partly-first, partly-all}
use Rattle.invariants.proofs.labels.to_digits.Goals as goal

pub loop-k-init : goal.loop-k-init
loop-k-init c = partly-first c.args.numbers.now (map digit_of c.args.numbers.now)

pub returns : goal.returns
returns c =
    let old : List ℕ = c.args.numbers.now in
    partly-all old c.loop-k.numbers (map digit_of old) c.loop-k.k (length-map old digit_of) (omega (arith, c.loop-k-test.false)) c.loop-k.invariant
