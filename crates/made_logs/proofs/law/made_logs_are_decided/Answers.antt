use Rattle.made_logs.proofs.Sessions.{text-short}
use Rattle.made_logs.proofs.Taken.{taken, events-are, events-few, types-few}
use Rattle.made_logs.proofs.Keys.{traces-are}
use Rattle.made_logs.specs.MadeLogs.{calls_of}
use Rattle.made_logs.proofs.law.made_logs_are_decided.Goals as goal

pub returns : goal.returns
returns c = λ n few. record {
  taken = taken n few;
  events = events-are n few;
  traces = traces-are n few;
  few = events-few n;
  types = types-few (calls_of n);
  short = text-short n few;
}
