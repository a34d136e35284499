use Rattle.model_exists.proofs.labels_exist.Goals as goal
use Rattle.model_exists.proofs.Labels.{labels_exist}

pub returns : goal.returns
returns c = labels_exist
