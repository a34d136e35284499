-- What the rows of phases contain.
use Rattle.std.specs.Prelude.{ℕ, List, Bool}
use Rattle.invariants.specs.declared.Invariant.{Invariant}
use Rattle.labelling.specs.declared.layout.TheConstants.{BROKEN_ROW}
use Rattle.labelling.specs.declared.phase_rows.PhaseRows.{PhaseRows}
use Rattle.labelling.specs.Carried.{off_count}
use Rattle.labelling.specs.Found.{Found}
use Rattle.labelling.specs.Layout.{is_on, label_row}

-- what rows contain for these invariants
abbrev pub found_in : ℕ → List Invariant → List (List Bool) → Found
found_in bound invs rows =
    record {
      invs = invs;
      has = λ k p s. is_on rows (label_row bound p s) k;
      broken = λ k. is_on rows BROKEN_ROW k;
      off = off_count rows;
    }

-- what the rows of phases contain
abbrev pub found : PhaseRows → Found
found b = found_in b.bound b.invs.items b.rows
