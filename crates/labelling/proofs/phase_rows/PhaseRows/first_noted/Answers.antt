use Rattle.std.proofs.Common.{rules}
use Rattle.labelling.proofs.phase_rows.PhaseRows.first_noted.Goals as goal

pub returns : goal.returns
returns c = search rules
