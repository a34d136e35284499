use Rattle.std.proofs.Common.{rules}
use Rattle.log_reader.proofs.so_far.LogSoFar.pass.Goals as goal

pub returns-else-self-clause-err : goal.returns-else-self-clause-err
returns-else-self-clause-err c = search rules

pub returns-else-self-clause-no_memory : goal.returns-else-self-clause-no_memory
returns-else-self-clause-no_memory c = search rules
