use Rattle.std.proofs.Common.{◌≡◌, drop}
use Rattle.limits.specs.declared.TheConstants.{MAX_PATH_NUMBERS}
use Rattle.model_file.specs.Rules.{room_left}
use Rattle.model_shape.specs.Numbers.{split_numbers}
use Rattle.model_file.proofs.history.room_after_splits.Given as goal

abbrev pub invariant-splits : goal.invariant-splits
invariant-splits l = room_left l.room (split_numbers (drop l.split-index l.splits)) ≡ room_left MAX_PATH_NUMBERS (split_numbers l.splits)
