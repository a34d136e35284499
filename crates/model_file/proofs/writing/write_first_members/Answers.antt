use Rattle.std.proofs.Common.{List, [], ◌∷◌, ◌++◌, ◌∙◌, map}
use Rattle.std.specs.Prelude.{codes}
use Rattle.std.proofs.lemmas.Result.{on_ok_weaker}
use Rattle.json.specs.Token.{Token, key}
use Rattle.model_file.specs.Tree.{array_of, block_data, edge_data, listed_data, kinds_data}
use Rattle.model_file.specs.Writing.{tokens_of}
use Rattle.model_file.proofs.Tokens.{joined}
use Rattle.model_file.proofs.writing.write_first_members.Goals as goal

pub returns : goal.returns
returns c =
    let first = c.args.out.now.tokens in
    let last = c.write_kinds.new.out.tokens in
    let m = c.args.model.now in
    let kinds = tokens_of (kinds_data m.kinds) in
    let r2 : List Token = key (codes "kinds") ∷ kinds in
    let r1 : List Token = key (codes "invariants") ∷ (tokens_of (array_of (map listed_data m.invariants)) ++ r2) in
    let r0 : List Token = key (codes "edges") ∷ (tokens_of (array_of (map edge_data m.edges)) ++ r1) in
    record {
      ok = on_ok_weaker c.write_kinds.result (λ e.
          let l3 = joined c.write_part-3.new.out.tokens c.key.new.self.tokens last (key (codes "kinds") ∷ []) kinds c.in_ok-key.ensures.ok e in
          let l2 = joined c.write_part-2.new.out.tokens c.write_part-3.new.out.tokens last (key (codes "invariants") ∷ tokens_of (array_of (map listed_data m.invariants))) r2 c.in_ok-write_part-3.ensures.ok l3 in
          let l1 = joined c.write_part.new.out.tokens c.write_part-2.new.out.tokens last (key (codes "edges") ∷ tokens_of (array_of (map edge_data m.edges))) r1 c.in_ok-write_part-2.ensures.ok l2 in
          joined first c.write_part.new.out.tokens last (key (codes "blocks") ∷ tokens_of (array_of (map block_data m.blocks))) r0 c.in_ok-write_part.ensures.ok l1) c.write_kinds.ensures.ok;
      before = c.write_kinds.ensures.before ∙ c.in_ok-key.ensures.room.0 ∙ c.in_ok-write_part-3.ensures.before ∙ c.in_ok-write_part-2.ensures.before ∙ c.in_ok-write_part.ensures.before;
    }
