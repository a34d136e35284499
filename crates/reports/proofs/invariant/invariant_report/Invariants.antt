use Rattle.std.proofs.Common.{◌≡◌, take}
use Rattle.reports.specs.Reports.{invariant_report}
use Rattle.reports.proofs.invariant.invariant_report.Given as goal

abbrev pub invariant-loop-inv : goal.invariant-loop-inv
invariant-loop-inv l = l.text.items ≡ invariant_report l.types (take l.inv-index l.invs)
