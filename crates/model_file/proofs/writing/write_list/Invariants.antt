use Rattle.std.proofs.Common.{◌≡◌, [], ◌∷◌, ◌++◌, take}
use Rattle.json.specs.Token.{begin_array}
use Rattle.model_file.proofs.Tokens.{tokens_by}
use Rattle.model_file.proofs.writing.write_list.Given as goal

abbrev pub invariant-entries : goal.invariant-entries
invariant-entries g l = record {
  tokens : l.out.tokens ≡ (l.fn.out.tokens ++ begin_array ∷ []) ++ tokens_by g.T.Written.written_as (take l.entry-index l.entries);
  before : l.out.before ≡ l.fn.out.before;
}
