use Rattle.std.proofs.Common.{rules}
use Rattle.labelling.proofs.phase_rows.PhaseRows.row_type.Goals as goal

pub returns-clause-acts : goal.returns-clause-acts
returns-clause-acts c = search rules
