use Rattle.key_table.proofs.Kept.{new-are-put}
use Rattle.key_table.proofs.law.new_keys_are_put.Goals as goal

pub returns : goal.returns
returns c = new-are-put
