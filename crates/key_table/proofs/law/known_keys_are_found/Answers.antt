use Rattle.key_table.proofs.Kept.{known-are-found}
use Rattle.key_table.proofs.law.known_keys_are_found.Goals as goal

pub returns : goal.returns
returns c = known-are-found
