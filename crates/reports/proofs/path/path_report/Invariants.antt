use Rattle.std.proofs.Common.{◌≡◌, flat_map, take}
use Rattle.reports.specs.Paths.{path_line, shown}
use Rattle.reports.proofs.path.path_report.Given as goal

abbrev pub invariant-loop-path : goal.invariant-loop-path
invariant-loop-path l = (l.steps ≡ l.traces.types) × (l.text.items ≡ flat_map (λ p. path_line l.traces.types (shown p)) (take l.path-index l.path-items))
