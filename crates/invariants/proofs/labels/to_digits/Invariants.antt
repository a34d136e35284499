use Rattle.std.proofs.Common.{map}
use Rattle.invariants.specs.Labels.{digit_of}
use Rattle.invariants.proofs.LabelDigits.{IsPartly}
use Rattle.invariants.proofs.labels.to_digits.Given as goal

abbrev pub invariant-loop-k : goal.invariant-loop-k
invariant-loop-k l = IsPartly l.initial.numbers l.numbers (map digit_of l.initial.numbers) l.k
