use Rattle.std.proofs.Common.{rules, ◌≡◌, ℕ, List, [], ◌∷◌, ◌++◌, length, sym, ap, subst, ◌∙◌, arith}
use Rattle.infer_core.specs.declared.labels.Columns.{Columns}
use Rattle.infer_core.specs.Windows.{row_of, AreColumnsOf}
use Rattle.infer_core.proofs.Windows.{row-written, rows-append}
use Rattle.infer_core.proofs.labels.Digits.add.Goals as goal

pub returns-clause-rows : goal.returns-clause-rows
returns-clause-rows c =
    let words : List (List ℕ) = c.args.words.now in
    let size : length c.write.new.row ≡ length c.args.row.now = c.write.auto.row in
    let whole : length c.write.new.row ≡ length words = size ∙ c.requires.row in
    let row : c.write.new.row ≡ row_of words (length c.args.self.now.from.items) =
    row-written words c.args.number c.args.k c.take.new.self c.write.new.row (omega (arith, c.requires.bit)) whole (subst (λ (columns : Columns). AreColumnsOf words columns) (sym c.take.ensures.columns) c.requires.columns) c.take.ensures.bytes (λ j m. c.write.ensures j (omega (arith, size, m)))
    ∙ ap (row_of words) (sym c.requires.next) in
    let start : c.len-start.result ≡ length c.args.self.now.text.items = search rules in
    rows-append words c.args.self.now.text.items c.write.new.row c.extend_from_slice.new.self.items c.args.self.now.from.items c.push-2.new.self.items c.requires.rows row
    c.in_ok-extend_from_slice.ensures.items (c.in_ok-push-2.ensures.items ∙ ap (λ (n : ℕ). c.args.self.now.from.items ++ n ∷ []) start)
