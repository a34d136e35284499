use Rattle.model_exists.proofs.small_logs_fit.Goals as goal
use Rattle.model_exists.proofs.Small.{small_logs_fit}

pub returns : goal.returns
returns c = small_logs_fit
