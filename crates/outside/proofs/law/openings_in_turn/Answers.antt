use Rattle.outside.proofs.Turns.{turn-count, turn-from, turn-names}
use Rattle.outside.proofs.law.openings_in_turn.Goals as goal

pub returns-clause-exact : goal.returns-clause-exact
returns-clause-exact c = λ files n names. (turn-names files n names, turn-from files n names)

pub returns-clause-none : goal.returns-clause-none
returns-clause-none c = λ files n k names is. turn-count files n k names is
