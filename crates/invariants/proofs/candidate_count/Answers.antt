use Rattle.std.proofs.Common.{sym}
use Rattle.invariants.proofs.CandidatePlaces.{length-candidates}
use Rattle.invariants.proofs.FourPlaces.{length-four}
use Rattle.invariants.proofs.candidate_count.Goals as goal

pub returns-in-Three-clause-listed : goal.returns-in-Three-clause-listed
returns-in-Three-clause-listed c = rw c.in-Three.is (sym (length-candidates c.args.types))

pub returns-in-Four-clause-listed : goal.returns-in-Four-clause-listed
returns-in-Four-clause-listed c = rw c.in-Four.is (sym (length-four c.args.types))
