use Rattle.log_reader.proofs.FirstRefusal.{tells-past}
use Rattle.log_reader.proofs.law.one_file_passes_the_limit.Goals as goal

pub returns : goal.returns
returns c = tells-past
