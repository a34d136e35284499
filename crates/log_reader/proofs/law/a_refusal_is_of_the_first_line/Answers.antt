use Rattle.log_reader.proofs.FirstRefusal.{tells-refusal, all-taken}
use Rattle.log_reader.proofs.law.a_refusal_is_of_the_first_line.Goals as goal

pub returns-clause-refusal : goal.returns-clause-refusal
returns-clause-refusal c = tells-refusal

pub returns-clause-taken : goal.returns-clause-taken
returns-clause-taken c = all-taken
