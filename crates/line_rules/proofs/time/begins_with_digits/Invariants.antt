use Rattle.std.proofs.Common.{◌≡◌, take}
use Rattle.std.specs.List.{list_all}
use Rattle.line_rules.specs.Times.{is_digit}
use Rattle.line_rules.proofs.time.begins_with_digits.Given as goal

abbrev pub invariant-loop-place : goal.invariant-loop-place
invariant-loop-place l = l.all ≡ list_all is_digit (take l.place l.text)
