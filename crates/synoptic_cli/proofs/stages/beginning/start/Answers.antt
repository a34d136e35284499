use Rattle.std.proofs.Common.{◌∙◌, [], ap}
use Rattle.traces.specs.Words.{in_order}
use Rattle.synoptic_cli.proofs.Begun.{begun}
use Rattle.synoptic_cli.proofs.stages.beginning.start.Goals as goal

pub returns : goal.returns
returns c = begun c.in_ok-log.log c.in_ok-model.model (c.in_ok-log.ensures ∙ (ap in_order c.new.ensures ∙ c.gathering_in_order_is_the_log.ensures [])) c.in_ok-model.ensures
