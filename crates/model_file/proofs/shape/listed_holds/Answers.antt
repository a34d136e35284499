use Rattle.std.proofs.Common.{rules, ◌≡◌, true, nat_le}
use Rattle.std.specs.List.{list_all}
use Rattle.model_file.proofs.Digits.{small_labels}
use Rattle.model_file.proofs.shape.listed_holds.Goals as goal

pub returns-then-is_some : goal.returns-then-is_some
returns-then-is_some c =
    let small : list_all (λ label. nat_le label 7) c.args.listed.now.labels ≡ true = small_labels c.args.listed.now.labels c.len.ensures.labels in
    search rules
