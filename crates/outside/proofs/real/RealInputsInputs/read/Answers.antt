use Rattle.std.proofs.Common.{rules}
use Rattle.outside.proofs.real.RealInputsInputs.read.Goals as goal

pub returns-in-Nothing-clause-gives : goal.returns-in-Nothing-clause-gives
returns-in-Nothing-clause-gives g c = search rules

pub returns-in-Standard-clause-gives : goal.returns-in-Standard-clause-gives
returns-in-Standard-clause-gives g c = search rules

pub returns-in-File-clause-gives : goal.returns-in-File-clause-gives
returns-in-File-clause-gives g c = search rules

pub returns-in-Standard-clause-exact : goal.returns-in-Standard-clause-exact
returns-in-Standard-clause-exact g c = search rules

pub returns-in-File-clause-exact : goal.returns-in-File-clause-exact
returns-in-File-clause-exact g c = search rules
