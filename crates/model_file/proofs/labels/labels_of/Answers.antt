use Rattle.std.proofs.Common.{◌≡◌, ◌-◌, ℕ, List, Some, map, true≢false, sym, ◌∙◌, ap}
use Rattle.model_file.specs.Entries.{labels_of}
use Rattle.model_file.proofs.Digits.{labels_are, labels_none}
use Rattle.model_file.proofs.labels.labels_of.Goals as goal

pub returns-else-are_labels : goal.returns-else-are_labels
returns-else-are_labels c = sym (labels_none c.args.digits.now (λ a. true≢false (sym (c.are_labels.ensures.1 a) ∙ c.if-are_labels.false)))

pub returns-in_ok-from_digits : goal.returns-in_ok-from_digits
returns-in_ok-from_digits c =
    let digits : List ℕ = c.args.digits.now in
    let some : labels_of digits ≡ Some (map (λ byte. byte - 48) digits) = labels_are digits (c.are_labels.ensures.0 c.if-are_labels.true) in
    ap (λ (xs : List ℕ). Some xs) c.in_ok-from_digits.ensures ∙ sym some
