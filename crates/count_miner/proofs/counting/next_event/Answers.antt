use Rattle.std.proofs.Common.{arith}
use Rattle.std.proofs.lemmas.Grind.{common_steps}
use Rattle.count_miner.proofs.counting.next_event.Goals as goal

pub returns-then-from_end-clause-event : goal.returns-then-from_end-clause-event
returns-then-from_end-clause-event c = grind (arith, common_steps)

pub returns-then-from_end-clause-unread : goal.returns-then-from_end-clause-unread
returns-then-from_end-clause-unread c = grind (arith, common_steps)
