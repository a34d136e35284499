use Rattle.std.proofs.Common.{◌∙◌, ◌*◌, ◌+◌, length, sym, ap, arith}
use Rattle.labelling.specs.Labelled.{Labelling, is_found, no_marks}
use Rattle.labelling.proofs.Telling.{found_same}
use Rattle.labelling.proofs.graph_labels.GraphLabels.words.Goals as goal

pub returns : goal.returns
returns c k s below inside low =
    let b = c.self.inside.phase_rows in
    c.words.ensures k s below (omega (arith, inside, ap (λ (x : Labelling). length x.invs) c.self.view_is)) low
    ∙ sym (found_same b.bound b.invs.items b.rows no_marks (c.args.place * 64 + k) c.args.p s c.requires.id low)
    ∙ ap (λ (x : Labelling). is_found x (c.args.place * 64 + k) c.args.p s) c.self.view_is
