use Rattle.model_file.proofs.Limit.{written-reads-back}
use Rattle.model_file.proofs.Telling.{passes}
use Rattle.model_file.proofs.law.written_reads_back.Goals as goal

pub returns : goal.returns
returns c = λ m shaped texts. written-reads-back m (passes m shaped) texts
