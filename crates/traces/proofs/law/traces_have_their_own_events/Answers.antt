use Rattle.traces.proofs.Own.{no-event-is-lost, traces-have-their-own}
use Rattle.traces.proofs.law.traces_have_their_own_events.Goals as goal

pub returns-clause-own : goal.returns-clause-own
returns-clause-own c = traces-have-their-own

pub returns-clause-all : goal.returns-clause-all
returns-clause-all c = no-event-is-lost
