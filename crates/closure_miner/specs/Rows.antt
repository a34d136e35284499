-- Rows of truth values, one for each type.
use Rattle.std.specs.Prelude.{ℕ, Bool, false, get_or, Vec}
use Rattle.std.specs.declared.alloc.Global.{Global}

-- whether the type at this place is in the row; past its end none is
abbrev pub in_row : Vec Bool Global → ℕ → Bool
in_row row b = get_or row.items b false
