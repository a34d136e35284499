use Rattle.std.proofs.Common.{ℕ, List, All, IsUtf8, subst}
use Rattle.model_reader.proofs.reading.written_model.Goals as goal

pub returns-clause-utf8 : goal.returns-clause-utf8
returns-clause-utf8 c = subst (λ (texts : List (List ℕ)). All IsUtf8 texts) c.as_slice.ensures c.texts_are_utf8.ensures
