use Rattle.std.proofs.Common.{[], ◌∷◌, ◌++◌, ◌∙◌, map}
use Rattle.json.specs.Token.{begin_array}
use Rattle.serde_json.specs.Data.{Data, string}
use Rattle.invariants.specs.Labels.{digit_of}
use Rattle.model_file.specs.Tree.{number_data, kind_text}
use Rattle.model_file.proofs.Tokens.{row-begin, row-more, row-end}
use Rattle.model_file.proofs.writing.ListedWritten.write.Goals as goal

pub returns : goal.returns
returns c =
    let first = c.args.out.now.tokens in
    let front = first ++ begin_array ∷ [] in
    let t0 = row-begin first c.begin_array.new.self.tokens c.in_ok-begin_array.ensures.ok in
    let d1 : Data = string (kind_text c.args.self.now.inv.kind) in
    let t1 = row-more front ([]) d1 c.begin_array.new.self.tokens c.write_text.new.out.tokens t0 (rw c.kind_text.ensures at c.in_ok-write_text.ensures.ok) in
    let d2 : Data = number_data c.args.self.now.inv.a in
    let t2 = row-more front (d1 ∷ []) d2 c.write_text.new.out.tokens c.write_number.new.out.tokens t1 (rw c.from.ensures at c.in_ok-write_number.ensures.ok) in
    let d3 : Data = number_data c.args.self.now.inv.b in
    let t3 = row-more front (d1 ∷ d2 ∷ []) d3 c.write_number.new.out.tokens c.write_number-2.new.out.tokens t2 (rw c.from-2.ensures at c.in_ok-write_number-2.ensures.ok) in
    let d4 : Data = string (map digit_of c.args.self.now.labels) in
    let t4 = row-more front (d1 ∷ d2 ∷ d3 ∷ []) d4 c.write_number-2.new.out.tokens c.write_labels.new.out.tokens t3 c.in_ok-write_labels.ensures.ok in
    record {
      ok = row-end c.end_array.result (d1 ∷ d2 ∷ d3 ∷ d4 ∷ []) first c.write_labels.new.out.tokens c.end_array.new.self.tokens t4 c.end_array.ensures.ok;
      before = c.end_array.ensures.room.0 ∙ c.in_ok-write_labels.ensures.before ∙ c.in_ok-write_number-2.ensures.before ∙ c.in_ok-write_number.ensures.before ∙ c.in_ok-write_text.ensures.before ∙ c.in_ok-begin_array.ensures.room.0;
    }
