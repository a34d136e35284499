use Rattle.splitter.proofs.RefiningTurns.{start-opened}
use Rattle.splitter.proofs.law.start_is_opened.Goals as goal

pub returns : goal.returns
returns c = start-opened c.args.traces.now c.set_is_typed.ensures
