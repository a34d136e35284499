use Rattle.std.proofs.Common.{List, [], ◌∷◌, ◌++◌, ◌∙◌, map}
use Rattle.std.specs.Prelude.{codes}
use Rattle.std.proofs.lemmas.Result.{on_ok_weaker}
use Rattle.json.specs.Token.{Token, key}
use Rattle.serde_json.specs.Data.{string}
use Rattle.model_file.specs.Tree.{number_data, array_of, merge_data, partition_data, split_data}
use Rattle.model_file.specs.Writing.{tokens_of}
use Rattle.model_file.proofs.Tokens.{joined}
use Rattle.model_file.proofs.writing.write_last_members.Goals as goal

pub returns : goal.returns
returns c =
    let first = c.args.out.now.tokens in
    let last = c.write_number.new.out.tokens in
    let m = c.args.model.now in
    let number = tokens_of (number_data 2) in
    let r4 : List Token = key (codes "version") ∷ number in
    let r3 : List Token = key (codes "types") ∷ (tokens_of (array_of (map string m.types)) ++ r4) in
    let r2 : List Token = key (codes "splits") ∷ (tokens_of (array_of (map split_data m.splits)) ++ r3) in
    let r1 : List Token = key (codes "partitions") ∷ (tokens_of (array_of (map partition_data m.partitions)) ++ r2) in
    record {
      ok = on_ok_weaker c.write_number.result (λ e.
          let l4 = joined c.write_part-4.new.out.tokens c.key.new.self.tokens last (key (codes "version") ∷ []) number c.in_ok-key.ensures.ok e in
          let l3 = joined c.write_part-3.new.out.tokens c.write_part-4.new.out.tokens last (key (codes "types") ∷ tokens_of (array_of (map string m.types))) r4 c.in_ok-write_part-4.ensures.ok l4 in
          let l2 = joined c.write_part-2.new.out.tokens c.write_part-3.new.out.tokens last (key (codes "splits") ∷ tokens_of (array_of (map split_data m.splits))) r3 c.in_ok-write_part-3.ensures.ok l3 in
          let l1 = joined c.write_part.new.out.tokens c.write_part-2.new.out.tokens last (key (codes "partitions") ∷ tokens_of (array_of (map partition_data m.partitions))) r2 c.in_ok-write_part-2.ensures.ok l2 in
          joined first c.write_part.new.out.tokens last (key (codes "merges") ∷ tokens_of (array_of (map merge_data m.merges))) r1 c.in_ok-write_part.ensures.ok l1) c.write_number.ensures.ok;
      before = c.write_number.ensures.before ∙ c.in_ok-key.ensures.room.0 ∙ c.in_ok-write_part-4.ensures.before ∙ c.in_ok-write_part-3.ensures.before ∙ c.in_ok-write_part-2.ensures.before ∙ c.in_ok-write_part.ensures.before;
    }
