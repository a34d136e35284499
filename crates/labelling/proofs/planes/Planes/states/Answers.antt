use Rattle.std.proofs.Common.{Bool, ◌∙◌, ap, ap₂}
use Rattle.labelling.specs.Labelled.{Labelling, digit, number_of}
use Rattle.labelling.specs.Layout.{is_on, label_row}
use Rattle.labelling.specs.Phases.{phase_at}
use Rattle.labelling.proofs.Telling.{digit_same}
use Rattle.labelling.proofs.planes.Planes.states.Goals as goal

pub returns-clause-value : goal.returns-clause-value
returns-clause-value c =
    let phase_rows = c.self.inside.phase_rows in
    c.number_of.ensures.value ∙ ap₂ (λ (x y : Bool). number_of x y c.has-3.result) c.has.ensures c.has-2.ensures
    ∙ ap (λ (x : Bool). number_of (is_on phase_rows.rows (label_row phase_rows.bound c.args.p (phase_at phase_rows.invs.items c.args.inv 0)) c.args.inv) (is_on phase_rows.rows (label_row phase_rows.bound c.args.p (phase_at phase_rows.invs.items c.args.inv 1)) c.args.inv) x) c.has-3.ensures
    ∙ digit_same phase_rows.bound phase_rows.invs.items phase_rows.rows c.self.inside.clashes c.args.inv c.args.p c.requires.id ∙ ap (λ (x : Labelling). digit x c.args.inv c.args.p) c.self.view_is
