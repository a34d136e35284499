use Rattle.std.proofs.Common.{◌++◌, sym, ap, ◌∙◌}
use Rattle.std.specs.Prelude.{codes}
use Rattle.json.specs.Print.{escape_byte}
use Rattle.model_reader.proofs.texts.take_kinds.Goals as goal

pub returns-then-takes : goal.returns-then-takes
unfolding escape_byte
returns-then-takes c = c.in_ok-text.ensures ∙ ap (λ text. codes "[\"AF\",\"NF\",\"AP\"" ++ text) c.if-takes.ensures.yes

pub returns : goal.returns
unfolding escape_byte
returns c = c.in_ok-text.ensures ∙ ap (λ text. codes "[\"AF\",\"NF\",\"AP\"" ++ text) (sym c.if-takes.ensures.no ∙ c.in_ok-text-2.ensures)
