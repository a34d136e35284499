-- Labels of many invariants, read together.
use Rattle.std.specs.Prelude.{◌≡◌, ◌<◌, ◌≤◌, ◌+◌, ◌-◌, ◌*◌, ◌/◌, ◌%◌, ◌^◌, ℕ, List, [], length, map, take, drop, slice_get, slice_index, slice_index_or, Some}
use Rattle.std.specs.Int.{bit_at}
use Rattle.invariants.specs.Labels.{digit_of}
use Rattle.invariants.specs.declared.records.Partition.{Partition}
use Rattle.labelling.specs.Labelled.{Labelling, digit, AreStatesAt}
use Rattle.infer_core.specs.declared.labels.TheConstants.{AHEAD, NEAR, TOGETHER}
use Rattle.infer_core.specs.declared.labels.Ahead.{Ahead}
use Rattle.infer_core.specs.declared.labels.Bytes.{Bytes}
use Rattle.infer_core.specs.declared.labels.Columns.{Columns}
use Rattle.infer_core.specs.declared.labels.Window.{Window}

-- the label that bit k of each of three numbers makes
abbrev pub label_at : ℕ → ℕ → ℕ → ℕ → ℕ
label_at zeroth first second k = bit_at zeroth k + 2 * bit_at first k + 4 * bit_at second k

-- the digits of an invariant, one for each partition; it has bit k of the words
abbrev pub row_of : List (List ℕ) → ℕ → List ℕ
row_of found k =
    map (λ words. digit_of (label_at (slice_index words 0) (slice_index words 1) (slice_index words 2) k)) found

-- the text has the digits of as many invariants as there are starts, each from its start on
abbrev pub HasRows : List (List ℕ) → List ℕ → List ℕ → Type 0
HasRows found text starts =
    (k : ℕ) → k < length starts
    → (slice_index starts k + length found ≤ length text)
    × (take (length found) (drop (slice_index starts k) text) ≡ row_of found k)

-- for each distance from 1 on a word in which a bit is off only if the invariant with that bit has the same digits as the
-- one at this distance after it
abbrev pub SaysApart : List (List ℕ) → List ℕ → Type 0
SaysApart found apart =
    (near k : ℕ) → near < NEAR → bit_at (slice_index apart near) k ≡ 0 → row_of found k ≡ row_of found (near + 1 + k)

-- two bits are the same in each of three words
pub record AreSame (words : List ℕ) (k l : ℕ) : Type 0 where
  pub zeroth : bit_at (slice_index words 0) k ≡ bit_at (slice_index words 0) l
  pub first : bit_at (slice_index words 1) k ≡ bit_at (slice_index words 1) l
  pub second : bit_at (slice_index words 2) k ≡ bit_at (slice_index words 2) l

-- the words of each state
pub record AreColumnsOf (found : List (List ℕ)) (columns : Columns) : Type 0 where
  pub zeroth_size : length columns.zeroth.items ≡ length found
  pub first_size : length columns.first.items ≡ length found
  pub second_size : length columns.second.items ≡ length found
  pub zeroth : (j : ℕ) → j < length found → slice_index columns.zeroth.items j ≡ slice_index (slice_index_or found j []) 0
  pub first : (j : ℕ) → j < length found → slice_index columns.first.items j ≡ slice_index (slice_index_or found j []) 1
  pub second : (j : ℕ) → j < length found → slice_index columns.second.items j ≡ slice_index (slice_index_or found j []) 2

-- the bytes are those with this number of the words that they are taken from
pub record HaveNumber (number : ℕ) (bytes : Bytes) : Type 0 where
  pub zeroth : (j : ℕ) → j < length bytes.columns.zeroth.items
      → slice_index bytes.zeroth.items j ≡ slice_index bytes.columns.zeroth.items j / 2 ^ (8 * number) % 256
  pub first : (j : ℕ) → j < length bytes.columns.first.items
      → slice_index bytes.first.items j ≡ slice_index bytes.columns.first.items j / 2 ^ (8 * number) % 256
  pub second : (j : ℕ) → j < length bytes.columns.second.items
      → slice_index bytes.second.items j ≡ slice_index bytes.columns.second.items j / 2 ^ (8 * number) % 256

-- there are as many words and bytes of each state as this
pub record HaveSize (count : ℕ) (bytes : Bytes) : Type 0 where
  pub zeroth_words : length bytes.columns.zeroth.items ≡ count
  pub first_words : length bytes.columns.first.items ≡ count
  pub second_words : length bytes.columns.second.items ≡ count
  pub zeroth : length bytes.zeroth.items ≡ count
  pub first : length bytes.first.items ≡ count
  pub second : length bytes.second.items ≡ count

-- there is a byte for each word, and those that are taken are those with their number
pub record AreTaken (bytes : Bytes) : Type 0 where
  pub zeroth : length bytes.zeroth.items ≡ length bytes.columns.zeroth.items
  pub first : length bytes.first.items ≡ length bytes.columns.first.items
  pub second : length bytes.second.items ≡ length bytes.columns.second.items
  pub taken : (number : ℕ) → bytes.number ≡ Some number → HaveNumber number bytes

-- for each partition, the words at the places of a block, up to the last place
abbrev pub AreReadAt : Labelling → List Partition → ℕ → ℕ → List (List (List ℕ)) → Type 0
AreReadAt planes partitions last block words =
    (j b : ℕ) (x : Partition) → slice_get partitions j ≡ Some x → b < AHEAD → block * AHEAD + b ≤ last
    → AreStatesAt planes (block * AHEAD + b) x.id (slice_index_or (slice_index_or words j []) b [])

-- what is read is that of its block
pub record IsAheadOf (planes : Labelling) (partitions : List Partition) (last : ℕ) (ahead : Ahead) : Type 0 where
  pub size : length ahead.words.items ≡ length partitions
  pub read : (block : ℕ) → ahead.block ≡ Some block → AreReadAt planes partitions last block ahead.words.items

-- the window has, for each of its invariants, the digits of its labels at the partitions
pub record IsWindowOf (planes : Labelling) (partitions : List Partition) (window : Window) : Type 0 where
  pub size : length window.words.items ≡ length partitions
  pub ahead : IsAheadOf planes partitions ((length planes.invs - 1) / TOGETHER) window.ahead
  pub bytes : HaveSize (length partitions) window.bytes
  pub row : length window.row.items ≡ length partitions
  pub few : window.len ≤ length window.digits.from.items
  pub within : (k : ℕ) → k < window.len
      → slice_index window.digits.from.items k + length partitions ≤ length window.text.value.items
  pub labels : (k : ℕ) → k < window.len
      → take (length partitions) (drop (slice_index window.digits.from.items k) window.text.value.items)
      ≡ map digit_of (map (λ x. digit planes (window.first + k) x.id) partitions)
