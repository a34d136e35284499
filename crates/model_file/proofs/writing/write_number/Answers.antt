use Rattle.json.specs.Token.{number}
use Rattle.std.specs.Prelude.{decimal}
use Rattle.model_file.specs.Writing.{tokens_of}
use Rattle.model_file.proofs.Tokens.{appends-token}
use Rattle.model_file.proofs.writing.write_number.Goals as goal

pub returns : goal.returns
unfolding tokens_of
returns c = rw (← c.from.ensures) (appends-token c.u64.result c.args.out.now c.u64.new.self (number (decimal c.from.result)) c.u64.ensures)
