use Rattle.std.proofs.Common.{◌∙◌}
use Rattle.std.proofs.lemmas.Result.{on_ok_weaker}
use Rattle.model_file.proofs.Finding.{member-found}
use Rattle.model_file.proofs.found.read_member.Goals as goal

pub returns-clause-ok : goal.returns-clause-ok
returns-clause-ok c =
    on_ok_weaker c.read_field.result (λ e. (e.0, e.1, λ ms is. e.2 ∙ member-found c.args.version e.0 ms c.key_of-key.result c.args.key.now c.args.found.now c.has_key.result c.key_of-key.ensures c.has_key.ensures is)) c.read_field.ensures.ok
