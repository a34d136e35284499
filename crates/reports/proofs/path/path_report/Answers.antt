use Rattle.std.proofs.Common.{◌∙◌}
use Rattle.reports.proofs.Stepped.{lines-all}
use Rattle.reports.proofs.path.path_report.Goals as goal

pub returns : goal.returns
returns c =
    c.from_vec.ensures
    ∙ lines-all c.args.traces.now.types c.deref-path-items.result.now c.in_ok-paths.paths.items c.loop-path.path-index c.loop-path.text.items _
    c.deref-path-items.ensures.value c.loop-path-test.false c.in_ok-paths.ensures c.loop-path.invariant.1
