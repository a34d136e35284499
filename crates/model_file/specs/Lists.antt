-- Lists of entries and rows of fields.
use Rattle.std.specs.Prelude.{ℕ, ◌*◌, ◌+◌, List, [], ◌∷◌, ◌++◌, length, Bool, false, not, nat_lt, Option, Some, None, option_map, if◌then◌else◌}
use Rattle.serde_json.specs.Data.{Data, Items, no_items, item}
use Rattle.serde_json.specs.Find.{as_array}
use Rattle.model_file.specs.declared.lists.Gathered.{Gathered}
use Rattle.limits.specs.declared.TheConstants.{MAX_TYPES, MAX_PARTITIONS, FIRST_TYPE}
use Rattle.invariants.specs.declared.Kind.{Kind}
use Rattle.invariants.specs.declared.Kind.TheVariants.{AF, NF, AP, IB}
use Rattle.invariants.specs.declared.Invariant.{Invariant}
use Rattle.invariants.specs.declared.records.Listed.{Listed}
use Rattle.invariants.specs.declared.records.Split.{Split}
use Rattle.invariants.specs.declared.records.Block.{Block}
use Rattle.model_file.specs.Rules.{pair_less}
use Rattle.model_file.specs.Entries.{◌>>=◌, each, list_in}

-- there is no item
abbrev pub no_fields : Items → Option (Unit {0})
no_fields no_items = Some tt
no_fields (item d ds) = None

-- the first item read by f, and the others read by g
abbrev pub one_more : {A R : Type 0} → (Data → Option A) → (Items → Option R) → Items → Option (A × R)
one_more f g no_items = None
one_more f g (item d ds) = f d >>= λ a. g ds >>= λ r. Some (a, r)

-- both values, if both are present
abbrev pub both : {A B : Type 0} → Option A → Option B → Option (A × B)
both a b = a >>= λ x. b >>= λ y. Some (x, y)

-- the items of the value, an array, read by g
abbrev pub row_in : {R : Type 0} → (Items → Option R) → Data → Option R
row_in g d = as_array d >>= g

-- the entries of a list, if every value was one
abbrev pub gathered : {T : Type 0} → Gathered T → Option (List T)
gathered g = if g.is_whole then Some g.entries.items else None

-- ---- lists of which no more is kept than a model can have

-- the list with an entry appended, unless it is over
abbrev pub put : {T : Type 0} → (List T → Bool) → List T → T → List T
put over xs x = if over xs then xs else xs ++ x ∷ []

-- the same, if both are present
abbrev pub added : {T : Type 0} → (List T → Bool) → Option (List T) → Option T → Option (List T)
added over list entry = list >>= λ xs. entry >>= λ x. Some (put over xs x)

-- the list with these entries appended until it is over
abbrev pub kept_after : {T : Type 0} → (List T → Bool) → List T → List T → List T
kept_after over front [] = front
kept_after over front (x ∷ xs) = kept_after over (put over front x) xs

-- the entries until the list is over
abbrev pub kept : {T : Type 0} → (List T → Bool) → List T → List T
kept over xs = kept_after over [] xs

-- the items read by f, kept until the list is over; every item must be readable
abbrev pub kept_each : {T : Type 0} → (List T → Bool) → (Data → Option T) → Items → Option (List T)
kept_each over f ds = option_map (kept over) (each f ds)

-- the items of an array read by f, kept until the list is over
abbrev pub kept_in : {T : Type 0} → (List T → Bool) → (Data → Option T) → Data → Option (List T)
kept_in over f d = option_map (kept over) (list_in f d)

-- a list kept whole is never over
abbrev pub never_over : {T : Type 0} → List T → Bool
never_over xs = false

-- whether the last entry does not have a higher key than the one before it
abbrev pub falls : {T : Type 0} → (T → ℕ × ℕ) → List T → Bool
falls key [] = false
falls key (x ∷ []) = false
falls key (x ∷ y ∷ []) = not (pair_less (key x) (key y))
falls key (x ∷ y ∷ z ∷ zs) = falls key (y ∷ z ∷ zs)

-- there are more types than a file of any version may have
abbrev pub types_over : List (List ℕ) → Bool
types_over ts = nat_lt MAX_TYPES (length ts)

-- there are more splits than ids beside the two ends
abbrev pub splits_over : List Split → Bool
splits_over ss = nat_lt MAX_PARTITIONS (length ss + FIRST_TYPE)

-- the last block does not come after the one before it
abbrev pub blocks_over : List Block → Bool
blocks_over bs = falls (λ b. (b.p, b.q)) bs

-- the number of a kind, in the order of the kinds
abbrev pub kind_number : Kind → ℕ
kind_number AF = 0
kind_number NF = 1
kind_number AP = 2
kind_number IB = 3

-- invariants are ordered by their first type, then by their second type, then by their kind
abbrev pub invariant_key : Invariant → ℕ × ℕ
invariant_key i = (i.a, 4 * i.b + kind_number i.kind)

-- the last invariant does not come after the one before it
abbrev pub invariants_over : List Listed → Bool
invariants_over ls = falls (λ l. invariant_key l.inv) ls
