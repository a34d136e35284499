use Rattle.std.proofs.Common.{◌≡◌, drop}
use Rattle.std.specs.List.{list_all}
use Rattle.model_file.specs.Rules.{merge_holds}
use Rattle.model_file.proofs.history.merges_hold.Given as goal

abbrev pub invariant-merges : goal.invariant-merges
invariant-merges l = list_all merge_holds (drop l.merge-index l.merges) ≡ list_all merge_holds l.merges
