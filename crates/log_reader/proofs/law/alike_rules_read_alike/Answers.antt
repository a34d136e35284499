use Rattle.log_reader.proofs.AlikeLogs.{alike-refusal, alike-events}
use Rattle.log_reader.proofs.law.alike_rules_read_alike.Goals as goal

pub returns-clause-refusal : goal.returns-clause-refusal
returns-clause-refusal c = alike-refusal

pub returns-clause-events : goal.returns-clause-events
returns-clause-events c = alike-events
