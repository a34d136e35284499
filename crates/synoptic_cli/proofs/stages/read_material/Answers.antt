use Rattle.command_line.specs.Task.{task_held}
use Rattle.synoptic_cli.proofs.Rules.{memory-first}
use Rattle.synoptic_cli.proofs.stages.read_material.Goals as goal

pub returns-in_default-clause-err : goal.returns-in_default-clause-err
returns-in_default-clause-err g c = memory-first (task_held c.args.task.now) (g.I.Inputs.state c.args.inputs.now) (g.P.Patterns.state c.args.patterns.now)
