use Rattle.models.proofs.inferred.numbers_give_labels.Goals as goal
use Rattle.models.proofs.Listed.{numbers_give_labels}

pub returns : goal.returns
returns c = numbers_give_labels
