use Rattle.std.proofs.Common.{rules}
use Rattle.log_reader.proofs.Deciding.{wants-none}
use Rattle.log_reader.proofs.so_far.LogSoFar.take_by_rules.Goals as goal

pub returns-in-Err-Memory-clause-memory : goal.returns-in-Err-Memory-clause-memory
returns-in-Err-Memory-clause-memory c = λ wanted. absurd (wants-none 0 _ _ _ c.in-Err-Memory.ensures.value c.in-Err-Memory.field-0-is)

pub returns-in-Err-BadTime-clause-ok : goal.returns-in-Err-BadTime-clause-ok
returns-in-Err-BadTime-clause-ok c = search rules

pub returns-in-Err-BadTime-clause-err : goal.returns-in-Err-BadTime-clause-err
returns-in-Err-BadTime-clause-err c = search rules
