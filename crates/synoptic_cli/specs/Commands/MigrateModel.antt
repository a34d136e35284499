-- `migrate`: the version 2 file of the model in a version 1 file.
use Rattle.std.specs.Prelude.{◌≡◌, Result, Ok}
use Rattle.model_shape.specs.Shapes.{IsOfVersion1}
use Rattle.model_file.specs.Tree.{file_text}
use Rattle.model_file.specs.Reading.{reads}
use Rattle.synoptic_cli.specs.declared.answer.Answer.{Answer}
use Rattle.synoptic_cli.specs.declared.material.Material.{Material}
use Rattle.synoptic_cli.specs.declared.status.LimitKind.{LimitKind}
use Rattle.synoptic_cli.specs.Commands.Answered.{done}

-- the answer: the text in version 2 of the file's model. It reads back as the same model, which has three kinds of
-- invariants and no more types than version 1 allows.
pub record Answers (m : Material) (r : Result Answer LimitKind) : Type 0 where
  pub value : r ≡ Ok (done (file_text m.model))
  pub reads_back : reads (file_text m.model) ≡ Ok m.model
  pub former : IsOfVersion1 m.model
