use Rattle.std.proofs.Common.{◌≡◌, ◌≤◌, take, true, length}
use Rattle.std.specs.List.{list_all}
use Rattle.std.specs.Str.Parse.{digits_value}
use Rattle.line_rules.specs.Times.{is_digit}
use Rattle.line_rules.proofs.time.head_after.Given as goal

abbrev pub invariant-loop-place : goal.invariant-loop-place
invariant-loop-place l = record {
  inside : l.place ≤ length l.text;
  value : l.number ≡ digits_value 10 (take l.place l.text);
  digits : list_all is_digit (take l.place l.text) ≡ true;
}
