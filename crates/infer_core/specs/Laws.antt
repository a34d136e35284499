-- Laws on how inference ends.
use Rattle.std.specs.Prelude.{◌≡◌, List, ℕ}
use Rattle.invariants.specs.declared.records.Model.{Model}
use Rattle.models.specs.Models.{TypedWords, IsModelOf}
use Rattle.models.specs.Limits.{KeepsLimits}
use Rattle.infer_core.specs.Runs.{AreFinal, PassesNumbers, PassesPartitions}

-- a log whose model keeps the limits exceeds neither of them, and no log exceeds both
pub record EndsExclude : Type 0 where
  pub partitions : (m : Model) (log : TypedWords) → IsModelOf m log → KeepsLimits m → PassesPartitions log → ⊥
  pub numbers : (m : Model) (log : TypedWords) → IsModelOf m log → KeepsLimits m → PassesNumbers log → ⊥
  pub both : (log : TypedWords) → PassesPartitions log → PassesNumbers log → ⊥

-- a log has one list of final ids
abbrev pub OneFinal : Type 0
OneFinal = (log : TypedWords) (a b : List ℕ) → AreFinal log a → AreFinal log b → a ≡ b
