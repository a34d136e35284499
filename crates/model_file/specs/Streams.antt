-- What is read at the start of the tokens of a JSON text.
use Rattle.std.specs.Prelude.{◌≡◌, ◌<◌, ◌+◌, ◌-◌, ◌*◌, ◌&&◌, ℕ, Bool, true, false, if◌then◌else◌, nat_le, List, [], ◌∷◌, length, Option, Some, None, Result, Ok, Err, option_map, ⊤}
use Rattle.std.specs.Option.{option_and_then}
use Rattle.json.specs.Token.{Token}
use Rattle.json.specs.Json.{parse_map, value, items, members}
use Rattle.serde_json.specs.Data.{Num, Data, array, Items, Members}
use Rattle.serde_json.specs.Find.{as_number, as_u64, as_array}
use Rattle.serde_json.specs.Read.{of_json, of_items, of_members, converted}
use Rattle.model_file.specs.declared.stream.Stop.{Stop}
use Rattle.model_file.specs.declared.stream.Stop.TheVariants.{NotJson, Memory}

-- ---- what the tokens start with

-- the value that the tokens start with, and the tokens after it
abbrev pub data_at : ℕ → List Token → Option (Data × List Token)
data_at depth ts = converted of_json (value depth ts)

-- the items up to the bracket that closes an array, at most n, and the tokens after it
abbrev pub items_at : ℕ → ℕ → List Token → Option (Items × List Token)
items_at n depth ts = converted of_items (items (value depth) n ts)

-- the members up to the brace that closes an object, following those already read, and the tokens after it
abbrev pub members_at : Members → ℕ → List Token → Option (Members × List Token)
members_at old depth ts = converted (λ ms. of_members ms old) (members (value depth) (length ts) ts)

-- the tokens after what was read
abbrev pub after : {A : Type 0} → Option (A × List Token) → Option (List Token)
after o = option_map (λ p. p.1) o

-- ---- what reading gives

-- the value as a whole number of at most 64 bits
abbrev pub whole_in : Data → Option ℕ
whole_in d = option_and_then as_u64 (as_number d)

-- the number written by the digits of n followed by these bytes, if all are decimal digits
abbrev pub digits_after : ℕ → List ℕ → Option ℕ
digits_after n [] = Some n
digits_after n (c ∷ cs) = if nat_le 48 c && nat_le c 57 then digits_after (n * 10 + (c - 48)) cs else None

-- a number as a whole number of at most 64 bits; without a number, the text is not JSON
abbrev pub whole_from : Option Num → Result (Option ℕ) Stop
whole_from None = Err NotJson
whole_from (Some x) = Ok (as_u64 x)

-- why nothing was read: it is not JSON, or out of memory
abbrev pub IsStopped : {A : Type 0} → Stop → Option A → Type 0
IsStopped NotJson read = read ≡ None
IsStopped Memory read = ⊤

-- A call answers the expected reading and leaves the tokens after it; or there is nothing to read, or memory ran out.
abbrev pub Answers : {A : Type 0} → Result A Stop → Option (A × List Token) → List Token → Type 0
Answers (Ok x) read left = read ≡ Some (x, left)
Answers (Err stop) read left = IsStopped stop read

-- An array is opened, or a value that is no array is skipped, or the call stops.
abbrev pub Opens : ℕ → Result Bool Stop → List Token → List Token → Type 0
Opens depth (Ok true) old left = (0 < depth) × (data_at depth old ≡ parse_map array (items_at (length left) (depth - 1) left))
Opens depth (Ok false) old left = (d : Data) × (data_at depth old ≡ Some (d, left)) × (as_array d ≡ None)
Opens depth (Err stop) old left = IsStopped stop (data_at depth old)
