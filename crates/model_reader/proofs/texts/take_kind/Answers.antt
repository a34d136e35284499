use Rattle.std.proofs.Common.{sym, ◌∙◌}
use Rattle.json.specs.Print.{escape_byte}
use Rattle.model_reader.proofs.texts.take_kind.Goals as goal

pub returns-then-takes_text : goal.returns-then-takes_text
unfolding escape_byte
returns-then-takes_text c = c.if-takes_text.ensures.yes

pub returns-then-takes_text-2 : goal.returns-then-takes_text-2
unfolding escape_byte
returns-then-takes_text-2 c = sym c.if-takes_text.ensures.no ∙ c.if-takes_text-2.ensures.yes

pub returns-then-takes_text-3 : goal.returns-then-takes_text-3
unfolding escape_byte
returns-then-takes_text-3 c = sym c.if-takes_text.ensures.no ∙ (sym c.if-takes_text-2.ensures.no ∙ c.if-takes_text-3.ensures.yes)

pub returns : goal.returns
unfolding escape_byte
returns c = sym c.if-takes_text.ensures.no ∙ (sym c.if-takes_text-2.ensures.no ∙ (sym c.if-takes_text-3.ensures.no ∙ c.in_ok-text.ensures))
