use Rattle.std.proofs.Common.{List, Bool, ap, ◌∙◌}
use Rattle.limits.specs.declared.TheConstants.{MAX_PARTITIONS}
use Rattle.replay_check.specs.Shown.{has_edge}
use Rattle.replay_check.proofs.Marking.{step-unmarked, step-left}
use Rattle.replay_check.proofs.edges.unmark_step.Goals as goal

pub returns-then-id-clause-marks : goal.returns-then-id-clause-marks
returns-then-id-clause-marks c = λ p q. step-left c.args.rows.now c.args.before c.args.id c.if-id.true p q

pub returns-clause-marks : goal.returns-clause-marks
returns-clause-marks c = λ p q.
    ap (λ (t : List (List Bool)). has_edge t p q) c.put.ensures.rows
    ∙ step-unmarked c.args.rows.now c.args.before c.args.id c.requires.shape c.requires.from c.requires.to c.if-id.false p q

pub returns-clause-shape : goal.returns-clause-shape
returns-clause-shape c = c.put.ensures.shape MAX_PARTITIONS MAX_PARTITIONS c.requires.shape
