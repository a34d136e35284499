use Rattle.std.specs.Prelude.{◌≡◌, Ok}
use Rattle.std.proofs.lemmas.Result.{IfOk-weaker}
use Rattle.model_shape.specs.Shapes.{IsWellShaped}
use Rattle.model_file.specs.declared.version.Version.TheVariants.{Two}
use Rattle.model_file.specs.Reading.{reads}
use Rattle.model_file.proofs.Telling.{read-is-well-shaped}
use Rattle.model_file.proofs.Fails.{Gives-ok, Gives-err}
use Rattle.model_file.proofs.reading.read_model.Goals as goal

pub returns-clause-ok : goal.returns-clause-ok
returns-clause-ok c = Gives-ok c.read_as.result (reads c.args.bytes.now) c.read_as.ensures

pub returns-clause-shape : goal.returns-clause-shape
returns-clause-shape c =
    IfOk-weaker c.read_as.result (λ m. reads c.args.bytes.now ≡ Ok m) IsWellShaped (λ m e. read-is-well-shaped Two c.args.bytes.now m e)
    (Gives-ok c.read_as.result (reads c.args.bytes.now) c.read_as.ensures)

pub returns-clause-err : goal.returns-clause-err
returns-clause-err c = Gives-err c.read_as.result (reads c.args.bytes.now) c.read_as.ensures
