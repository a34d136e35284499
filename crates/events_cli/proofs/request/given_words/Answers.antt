use Rattle.std.proofs.Common.{◌∙◌, true, false, ap, map, sym}
use Rattle.std.specs.String.{string_bytes}
use Rattle.events_cli.specs.Words.{lists_undecided}
use Rattle.events_cli.proofs.Given.{given-plain, given-skip}
use Rattle.events_cli.proofs.request.given_words.Goals as goal

pub returns-then-not-lists_undecided : goal.returns-then-not-lists_undecided
returns-then-not-lists_undecided c =
    let words = map string_bytes c.args.words.now in
    c.in_ok-plain.ensures
    ∙ given-plain words (map string_bytes c.others-rest.result.now) c.others-rest.ensures (ap lists_undecided (sym c.mode_of.ensures) ∙ (sym c.lists_undecided.ensures ∙ c.if-not-lists_undecided.true))

pub returns : goal.returns
returns c =
    let words = map string_bytes c.args.words.now in
    c.in_ok-plain.ensures
    ∙ given-skip words (map string_bytes c.others-rest.result.now) (map string_bytes c.deref.result.now) false c.others-rest.ensures
    (ap lists_undecided (sym c.mode_of.ensures) ∙ (sym c.lists_undecided.ensures ∙ c.if-not-lists_undecided.false))
    (ap (map string_bytes) c.deref.ensures.value ∙ c.in_ok-plain.ensures)
    (sym c.if-branch.false ∙ c.in_ok-lack_skip.ensures)

pub returns-then-branch : goal.returns-then-branch
returns-then-branch c =
    let words = map string_bytes c.args.words.now in
    c.in_ok-with_skip.ensures
    ∙ given-skip words (map string_bytes c.others-rest.result.now) (map string_bytes c.deref.result.now) true c.others-rest.ensures
    (ap lists_undecided (sym c.mode_of.ensures) ∙ (sym c.lists_undecided.ensures ∙ c.if-not-lists_undecided.false))
    (ap (map string_bytes) c.deref.ensures.value ∙ c.in_ok-plain.ensures)
    (sym c.if-branch.true ∙ c.in_ok-lack_skip.ensures)
