use Rattle.std.proofs.Common.{◌∙◌, ap, sym, map, string_bytes, List}
use Rattle.clap.specs.Words.{App, Text, fault_of, is_simple, is_simple_and_free, matches_of, takes}
use Rattle.command_line.proofs.Taken.{not_taken, is_free-app, is_simple-app}
use Rattle.command_line.proofs.Same.{app_takes}
use Rattle.command_line.proofs.given.matches_of.Goals as goal

pub returns-in-Ok-try_get_matches_from-clause-taken : goal.returns-in-Ok-try_get_matches_from-clause-taken
returns-in-Ok-try_get_matches_from-clause-taken c =
    let words : List Text = map string_bytes c.args.words.now in
    let none = c.in-Ok-try_get_matches_from.ensures.kinds (ap is_simple_and_free c.in-Ok.ensures ∙ is_free-app) in
    app_takes words (ap (λ (a : App). fault_of a words) (sym c.in-Ok.ensures) ∙ none)

pub returns-in-Ok-try_get_matches_from-clause-rows : goal.returns-in-Ok-try_get_matches_from-clause-rows
returns-in-Ok-try_get_matches_from-clause-rows c =
    let words : List Text = map string_bytes c.args.words.now in
    (c.in-Ok-try_get_matches_from.ensures.matches (ap is_simple c.in-Ok.ensures ∙ is_simple-app)).0 ∙ ap (λ (a : App). matches_of a words) c.in-Ok.ensures

pub returns-clause-usage : goal.returns-clause-usage
returns-clause-usage c same =
    let words : List Text = map string_bytes c.args.words.now in
    ap (λ (a : App). takes a words) (sym c.in-Ok.ensures) ∙ not_taken _ c.in-Err.error c.in-Err.ensures.passes (c.is_for_memory.ensures.other c.if-is_for_memory.false)
