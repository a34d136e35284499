-- Room that a list has in its memory.
use Rattle.std.specs.Prelude.{ℕ, ◌≡◌, ◌≤◌, [], Vec, vec_len, vec_capacity}

-- the entries fit the room, and the allocated memory holds as many as the room
pub record HasRoom {T A : Type 0} (entries : Vec T A) (room : ℕ) : Type 0 where
  pub within : vec_len entries ≤ room
  pub taken : room ≤ vec_capacity entries

-- nothing is written yet, and the allocated memory holds as many entries as the room
pub record IsUnwritten {T A : Type 0} (entries : Vec T A) (room : ℕ) : Type 0 where
  pub none : entries.items ≡ []
  pub taken : room ≤ vec_capacity entries

-- how many cells there are, and how many lists
pub record CellCounts : Type 0 where
  pub cells : ℕ
  pub lists : ℕ
