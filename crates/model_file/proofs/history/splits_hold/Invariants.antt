use Rattle.std.proofs.Common.{◌≡◌, drop}
use Rattle.std.specs.List.{list_all}
use Rattle.model_file.specs.Rules.{split_holds}
use Rattle.model_file.proofs.history.splits_hold.Given as goal

abbrev pub invariant-splits : goal.invariant-splits
invariant-splits l = list_all (split_holds l.invariants) (drop l.split-index l.splits) ≡ list_all (split_holds l.invariants) l.splits
