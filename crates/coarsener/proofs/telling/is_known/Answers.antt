use Rattle.std.proofs.Common.{subst}
use Rattle.coarsener.specs.declared.telling.Told.{Told}
use Rattle.coarsener.specs.Telling.{TellsLosses, TellByMarks}
use Rattle.coarsener.proofs.telling.is_known.Goals as goal

pub returns-in-Marks : goal.returns-in-Marks
returns-in-Marks c planes g inv f e t =
    let told : TellByMarks c.in-Marks.bad planes g = subst (λ (told : Told). TellsLosses told planes g) c.in-Marks.is f in
    c.is_satisfied.ensures g planes.invs inv told.bad e t
