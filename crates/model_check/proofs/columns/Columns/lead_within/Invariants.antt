use Rattle.std.proofs.Common.{◌≡◌, ◌↔◌, true}
use Rattle.model_check.specs.Columns.{AreWithin}
use Rattle.model_check.proofs.columns.Columns.lead_within.Given as goal

abbrev pub invariant-loop-k : goal.invariant-loop-k
invariant-loop-k l = (l.all ≡ true) ↔ AreWithin l.self.labels.items l.self.sources.items l.k l.from l.to
