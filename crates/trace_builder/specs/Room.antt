-- Events in columns: their times, and room for one more.
use Rattle.std.specs.Prelude.{ℕ, List, ◌≡◌, ◌<◌, [], length, vec_len, vec_capacity}
use Rattle.traces.specs.Columns.{times_beside}
use Rattle.trace_builder.specs.declared.columns.Columns.{Columns}

-- the time of each event
abbrev pub times_in : Columns → List ℕ
times_in columns = times_beside columns.numbers.items columns.times.items

-- the time of the next event is not stored: it is 0, and no times are stored yet
abbrev pub NeedsNoTime : Columns → ℕ → Type 0
NeedsNoTime columns time = (time ≡ 0) × (columns.times.items ≡ [])

-- if the time of the next event is stored, there is room for it, and each event has a time
pub record HasRoomForTime (columns : Columns) (time : ℕ) : Type 0 where
  pub times : (NeedsNoTime columns time → ⊥) → vec_len columns.times < vec_capacity columns.times
  pub each : (NeedsNoTime columns time → ⊥) → length columns.times.items ≡ length columns.numbers.items

-- if this time is 0, no times are stored
abbrev pub IsTimedAsOthers : Columns → ℕ → Type 0
IsTimedAsOthers columns time = time ≡ 0 → columns.times.items ≡ []

-- there is room for one more event, with this time
pub record HasRoom (columns : Columns) (time : ℕ) : Type 0 where
  pub places : vec_len columns.places < vec_capacity columns.places
  pub numbers : vec_len columns.numbers < vec_capacity columns.numbers
  pub for_time : HasRoomForTime columns time
