-- Where the ids of a list are kept.
use Rattle.std.specs.Prelude.{◌≡◌, ℕ, List, ◌≤◌, length, take}
use Rattle.invariants.specs.declared.ids.Places.{Places}
use Rattle.invariants.specs.declared.ids.Places.TheVariants.{Few, Many}

-- the ids
abbrev pub ids_in : Places → List ℕ
ids_in (Few count ids) = take count ids
ids_in (Many ids) = ids.items

-- those that are kept in place are there
abbrev pub IsWithin : Places → Type 0
IsWithin (Few count ids) = (count ≤ 5) × (length ids ≡ 5)
IsWithin (Many ids) = Unit
