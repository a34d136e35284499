use Rattle.std.proofs.Common.{◌∙◌, sym}
use Rattle.std.proofs.lemmas.List.Folds.{list_all-map}
use Rattle.command_line.specs.Table.{is_word}
use Rattle.command_line.proofs.table.are_words.Goals as goal

pub returns : goal.returns
returns c = c.are_words_each.ensures ∙ sym (list_all-map is_word (λ s. s.now) c.args.texts.now)
