use Rattle.std.proofs.Common.{[], ◌∷◌, ◌++◌, ◌∙◌, ap}
use Rattle.std.proofs.lemmas.Result.{on_ok_weaker}
use Rattle.json.specs.Token.{begin_object, end_object}
use Rattle.model_file.specs.Writing.{first_members, last_members}
use Rattle.model_file.proofs.Tokens.{joined, object-tokens}
use Rattle.model_file.proofs.writing.write_tree.Goals as goal

pub returns : goal.returns
returns c =
    let first = c.args.out.now.tokens in
    let last = c.end_object.new.self.tokens in
    let m = c.args.model.now in
    record {
      ok = on_ok_weaker c.end_object.result (λ e.
          let l2 = joined c.write_first_members.new.out.tokens c.write_last_members.new.out.tokens last (last_members m) (end_object ∷ []) c.in_ok-write_last_members.ensures.ok e in
          let l1 = joined c.begin_object.new.self.tokens c.write_first_members.new.out.tokens last (first_members m) (last_members m ++ end_object ∷ []) c.in_ok-write_first_members.ensures.ok l2 in
          joined first c.begin_object.new.self.tokens last (begin_object ∷ []) (first_members m ++ (last_members m ++ end_object ∷ [])) c.in_ok-begin_object.ensures.ok l1
          ∙ ap (λ ts. first ++ ts) (object-tokens m)) c.end_object.ensures.ok;
      before = c.end_object.ensures.room.0 ∙ c.in_ok-write_last_members.ensures.before ∙ c.in_ok-write_first_members.ensures.before ∙ c.in_ok-begin_object.ensures.room.0;
    }
