use Rattle.std.proofs.Common.{ℕ, ap, ◌∙◌, ◌*◌, ◌+◌}
use Rattle.labelling.specs.Layout.{is_on}
use Rattle.labelling.proofs.Words.{states_told}
use Rattle.labelling.proofs.phase_rows.PhaseRows.words.Goals as goal

pub returns : goal.returns
returns c =
    let b = c.args.self.now in
    states_told b.bound b.invs.items b.rows c.args.place c.args.p c.args.swapped c.word-zeroth.result c.word-first.result c.word-second.result c.ranges.swapped.fits c.requires.swapped
    (λ i below. c.word-zeroth.ensures i below ∙ ap (λ (r : ℕ). is_on b.rows r (c.args.place * 64 + i)) c.label_row.ensures.value)
    (λ i below. c.word-first.ensures i below ∙ ap (λ (r : ℕ). is_on b.rows r (c.args.place * 64 + i)) c.label_row-2.ensures.value)
    (λ i below. c.word-second.ensures i below ∙ ap (λ (r : ℕ). is_on b.rows r (c.args.place * 64 + i)) c.label_row-3.ensures.value)
