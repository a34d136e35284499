use Rattle.std.proofs.Common.{◌≡◌, drop}
use Rattle.std.specs.List.{list_all}
use Rattle.command_line.specs.Numbers.{is_digit}
use Rattle.command_line.proofs.number.are_digits.Given as goal

abbrev pub invariant-loop-digit : goal.invariant-loop-digit
invariant-loop-digit l = list_all is_digit l.text ≡ list_all is_digit (drop l.digit-index l.text)
