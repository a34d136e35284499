use Rattle.std.proofs.Common.{◌≡◌, flat_map, take}
use Rattle.command_line.specs.Task.{task_held}
use Rattle.events_cli.specs.Texts.{undecided_line}
use Rattle.events_cli.proofs.undecided_text.undecided_report.Given as goal

abbrev pub invariant-loop-line : goal.invariant-loop-line
invariant-loop-line l = l.all.items ≡ flat_map (λ line. undecided_line (task_held l.task) (line.at, line.bytes.items)) (take l.line-index l.lines)
