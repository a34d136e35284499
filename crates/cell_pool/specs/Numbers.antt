-- Numbers in a room, and what a push leaves.
use Rattle.std.specs.Prelude.{ℕ, ◌≡◌, ◌≤◌, ◌+◌, List, length, take, drop, ◌++◌}
use Rattle.cell_pool.specs.declared.spans.Span.{Span}

-- all numbers that were pushed, and how many there may be
pub record Numbers : Type 0 where
  pub numbers : List ℕ
  pub room : ℕ

-- the list at a place: this many numbers from there on
abbrev pub list_at : List ℕ → ℕ → ℕ → List ℕ
list_at numbers from len = take len (drop from numbers)

-- each list in the old numbers is in the new ones, at the same place
abbrev pub KeepsLists : List ℕ → List ℕ → Type 0
KeepsLists old new = (from len : ℕ) → from + len ≤ length old
    → list_at new from len ≡ list_at old from len

-- these numbers were appended, they fit the room, and the span says where they are
pub record Pushes (old new : Numbers) (numbers : List ℕ) (span : Span) : Type 0 where
  pub from : span.from ≡ length old.numbers
  pub long : span.len ≡ length numbers
  pub there : list_at new.numbers span.from span.len ≡ numbers
  pub fits : length new.numbers ≤ new.room
  pub appends : new ≡ record old { numbers = old.numbers ++ numbers }
