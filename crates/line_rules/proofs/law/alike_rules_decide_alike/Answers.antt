use Rattle.line_rules.proofs.Alike.{alike-decision, alike-name}
use Rattle.line_rules.proofs.law.alike_rules_decide_alike.Goals as goal

pub returns-clause-decision : goal.returns-clause-decision
returns-clause-decision c = λ rs ss line bytes alike. alike-decision 0 rs ss line bytes alike

pub returns-clause-name : goal.returns-clause-name
returns-clause-name c = λ rs ss number alike. alike-name rs ss number alike
