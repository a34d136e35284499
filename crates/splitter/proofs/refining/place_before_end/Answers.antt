use Rattle.splitter.proofs.RefiningTurns.{divides-some}
use Rattle.splitter.proofs.refining.place_before_end.Goals as goal

pub place_before_end-requires-clause-some : goal.place_before_end-requires-clause-some
place_before_end-requires-clause-some c = divides-some c.args.graph.now.traces c.args.path.now c.args.graph.now.used c.requires.divides
