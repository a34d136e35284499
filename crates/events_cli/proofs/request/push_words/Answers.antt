use Rattle.std.proofs.Common.{◌∙◌, ◌++◌, ap, map}
use Rattle.std.specs.String.{string_bytes}
use Rattle.std.proofs.lemmas.List.{take_all}
use Rattle.events_cli.proofs.request.push_words.Goals as goal

pub returns : goal.returns
returns c =
    c.loop-word.invariant ∙ ap (λ ws. map string_bytes c.args.all.now.items ++ map string_bytes ws) (take_all c.loop-word.word-index c.args.words.now c.loop-word-test.false)
