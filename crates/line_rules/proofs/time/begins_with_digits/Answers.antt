use Rattle.std.proofs.Common.{arith, ap₂, ◌&&◌, ◌∙◌, sym}
use Rattle.std.proofs.lemmas.List.Folds.{list_all_more}
use Rattle.line_rules.specs.Times.{is_digit}
use Rattle.line_rules.proofs.time.begins_with_digits.Goals as goal

pub loop-place-preserved : goal.loop-place-preserved
loop-place-preserved c =
    let l = c.loop-place in
    ap₂ (λ p q. p && q) l.invariant c.is_ascii_digit-all.ensures.value ∙ sym (list_all_more is_digit c.args.text.now l.place 0 (omega arith))
