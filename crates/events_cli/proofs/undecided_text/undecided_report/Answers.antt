use Rattle.std.proofs.Common.{◌∙◌, ap, flat_map}
use Rattle.std.proofs.lemmas.List.{take_all}
use Rattle.command_line.specs.Task.{task_held}
use Rattle.events_cli.specs.Texts.{undecided_line}
use Rattle.events_cli.proofs.Texts.{flat-map-shown}
use Rattle.events_cli.proofs.undecided_text.undecided_report.Goals as goal

pub returns : goal.returns
returns c =
    let task = task_held c.args.task.now in
    c.from_vec.ensures
    ∙ (c.loop-line.invariant
    ∙ (ap (flat_map (λ line. undecided_line task (line.at, line.bytes.items))) (take_all c.loop-line.line-index c.args.lines.now c.loop-line-test.false)
    ∙ flat-map-shown (λ line. (line.at, line.bytes.items)) (undecided_line task) c.args.lines.now))
