-- A table of types by ids.
use Rattle.std.specs.Prelude.{ℕ, List, get_or, Option, None}

-- the type at an id, and none past the end of the table
abbrev pub type_at : List (Option ℕ) → ℕ → Option ℕ
type_at table id = get_or table id None
