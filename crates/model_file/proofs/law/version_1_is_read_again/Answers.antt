use Rattle.model_file.specs.declared.version.Version.TheVariants.{One}
use Rattle.model_file.proofs.Shapes.{read-passes, read-of-version-1}
use Rattle.model_file.proofs.Telling.{shaped}
use Rattle.model_file.proofs.Limit.{written-reads-back}
use Rattle.model_file.proofs.law.version_1_is_read_again.Goals as goal

pub returns : goal.returns
returns c = λ bytes m e.
    record {
      shaped = shaped m (read-passes One bytes m e);
      first = read-of-version-1 bytes m e;
      again = λ texts. written-reads-back m (read-passes One bytes m e) texts;
    }
