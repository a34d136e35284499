use Rattle.std.proofs.Common.{◌≡◌, ap, ◌∙◌, ◌++◌, [], ◌∷◌, arith}
use Rattle.std.proofs.lemmas.Grind.{common_steps}
use Rattle.std.proofs.lemmas.Result.{on_ok_weaker}
use Rattle.std.proofs.lemmas.List.{take_all}
use Rattle.json.specs.Token.{begin_array, end_array}
use Rattle.model_file.proofs.Tokens.{tokens_by, array-whole}
use Rattle.model_file.proofs.writing.write_list.Goals as goal

pub entries-preserved : goal.entries-preserved
entries-preserved g c = grind (arith, common_steps)

pub returns : goal.returns
returns g c =
    let f = g.T.Written.written_as in
    let first = c.args.out.now.tokens in
    let all = take_all c.entries.entry-index c.args.entries.now c.entries-test.false in
    let before : c.entries.out.tokens ≡ (first ++ begin_array ∷ []) ++ tokens_by f c.args.entries.now = c.entries.invariant.tokens ∙ ap (λ xs. (first ++ begin_array ∷ []) ++ tokens_by f xs) all in
    record {
      ok = on_ok_weaker c.end_array.result (λ e. array-whole f c.args.entries.now first c.end_array.new.self.tokens (e ∙ ap (λ ts. ts ++ end_array ∷ []) before)) c.end_array.ensures.ok;
      before = c.end_array.ensures.room.0 ∙ c.entries.invariant.before;
    }
