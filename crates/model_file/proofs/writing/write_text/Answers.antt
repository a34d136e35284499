use Rattle.json.specs.Token.{string}
use Rattle.model_file.specs.Writing.{tokens_of}
use Rattle.model_file.proofs.Tokens.{appends-token}
use Rattle.model_file.proofs.writing.write_text.Goals as goal

pub returns : goal.returns
unfolding tokens_of
returns c = appends-token c.string.result c.args.out.now c.string.new.self (string c.args.text.now) c.string.ensures
