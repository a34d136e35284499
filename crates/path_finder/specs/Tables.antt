-- What the search has found: lengths of walks that end badly.
use Rattle.std.specs.Prelude.{◌≡◌, ◌==◌, ◌&&◌, ℕ, suc, ◌+◌, ◌*◌, ◌/◌, ◌%◌, ◌^◌, ◌<◌, ◌≤◌, ◌⊎◌, Bool, List, [], ◌∷◌, length, replicate, slice_get, Some, slice_index, count_by, if◌then◌else◌}
use Rattle.std.specs.Int.{bit_at}
use Rattle.partition_graph.specs.declared.id_rows.TheConstants.{ID_WORDS}
use Rattle.path_finder.specs.declared.pair.TheConstants.{STATES}
use Rattle.path_finder.specs.declared.table.TheConstants.{MAX_ENTRIES, OPEN}
use Rattle.path_finder.specs.declared.pair.Pair.{Pair}
use Rattle.path_finder.specs.declared.pair_set.Part.{Part}
use Rattle.path_finder.specs.declared.table.Entry.{Entry}
use Rattle.path_finder.specs.PairSets.{IsAmong}
use Rattle.path_finder.specs.Walks.{Asked, IsPairOf, Leads, Finishes}

-- a distance for each pair, OPEN if it was not entered; and the entries
pub record Entries : Type 0 where
  pub distances : List ℕ
  pub parts : List Entry

-- the place of a pair in the list of distances
abbrev pub place : Pair → ℕ
place r = r.id * STATES + r.state

-- the distance of a pair
abbrev pub at : Entries → Pair → ℕ
at e r = slice_index e.distances (place r)

-- how many pairs are open
abbrev pub open_count : Entries → ℕ
open_count e = count_by (λ d. d == OPEN) e.distances

-- the pairs of an entry
abbrev pub part_of : Entry → Part
part_of x = record { state = x.state; place = x.place; word = x.word }

-- whether the pair at this place is one of the entry's
abbrev pub has_place : Entry → ℕ → Bool
has_place x i = (i % STATES == x.state) && ((i / STATES / 64 == x.place) && (bit_at x.word (i / STATES % 64) == 1))

-- the distances from this place on, with that of the entry for each of its pairs
abbrev pub entered_from : ℕ → Entry → List ℕ → List ℕ
entered_from i x [] = []
entered_from i x (d ∷ ds) = (if has_place x i then x.distance else d) ∷ entered_from (suc i) x ds

-- the distances after all entries are entered, one after another
abbrev pub measured_by : List ℕ → List Entry → List ℕ
measured_by ds [] = ds
measured_by ds (x ∷ xs) = measured_by (entered_from 0 x ds) xs

-- the entries of so many pairs
abbrev pub entries_of : ℕ → List Entry → Entries
entries_of pairs xs = record { distances = measured_by (replicate pairs OPEN) xs; parts = xs }

-- the pairs of the part have this distance, and all others are as before
pub record AreEnteredWith (part : Part) (d : ℕ) (old new : Entries) : Type 0 where
  pub size : length new.distances ≡ length old.distances
  pub entered : (r : Pair) → IsAmong part r → at new r ≡ d
  pub others : (r : Pair) → r.state < 3 → (at new r ≡ at old r) ⊎ IsAmong part r
  pub count : open_count new ≤ open_count old
  pub fewer : (r : Pair) → IsAmong part r → open_count new < open_count old

-- the entry has pairs, and each of them has its distance
pub record IsEntered (e : Entries) (x : Entry) : Type 0 where
  pub state : x.state < 3
  pub below : x.place < ID_WORDS
  pub some : 0 < x.word
  pub fits : x.word < 2 ^ 64
  pub closes : x.distance < OPEN
  pub within : (r : Pair) → IsAmong (part_of x) r → place r < length e.distances
  pub value : (r : Pair) → IsAmong (part_of x) r → at e r ≡ x.distance

-- the pair is none of an entry's
abbrev pub IsUnlisted : Entries → Pair → Type 0
IsUnlisted e r = (i : ℕ) (x : Entry) → slice_get e.parts i ≡ Some x → IsAmong (part_of x) r → ⊥

-- no entry has a greater distance than one that follows it
abbrev pub AreInOrder : List Entry → Type 0
AreInOrder xs =
    (i j : ℕ) (x y : Entry) → i < j → slice_get xs i ≡ Some x → slice_get xs j ≡ Some y
    → x.distance ≤ y.distance

-- each pair that is not open is one of an entry's, no distance is past OPEN, the distances of the entries ascend, and
-- there is room for an entry for each open pair
pub record IsListed (e : Entries) : Type 0 where
  pub each : (i : ℕ) (x : Entry) → slice_get e.parts i ≡ Some x → IsEntered e x
  pub others : (r : Pair) → r.state < 3 → place r < length e.distances → IsUnlisted e r → OPEN ≤ at e r
  pub top : (k : ℕ) → slice_index e.distances k ≤ OPEN
  pub ascends : AreInOrder e.parts
  pub room : length e.parts + open_count e ≤ MAX_ENTRIES

-- the entries from this place of the list on have this distance or a greater one, and those before it have none of them
pub record IsSplitAt (d first : ℕ) (e : Entries) : Type 0 where
  pub within : first ≤ length e.parts
  pub before : (i : ℕ) (x : Entry) → i < first → slice_get e.parts i ≡ Some x → x.distance < d
  pub after : (i : ℕ) (x : Entry) → first ≤ i → slice_get e.parts i ≡ Some x → d ≤ x.distance

-- the pair is one of an entry's, from this place of the list on
pub record IsListedFrom (first : ℕ) (e : Entries) (r : Pair) : Type 0 where
  pub index : ℕ
  pub entry : Entry
  pub reached : first ≤ index
  pub there : slice_get e.parts index ≡ Some entry
  pub among : IsAmong (part_of entry) r

-- the entries from the first place up to the end have no other pair than q
abbrev pub IsOnlyPair : ℕ → ℕ → Entries → Pair → Type 0
IsOnlyPair first end e q =
    (i : ℕ) (x : Entry) → first ≤ i → i < end → slice_get e.parts i ≡ Some x
    → (r : Pair) → IsAmong (part_of x) r → r ≡ q

-- no pair that was entered is farther
abbrev pub AreWithin : Asked → ℕ → Entries → Type 0
AreWithin a d e = (r : Pair) → IsPairOf a r → at e r < OPEN → at e r ≤ d

-- distances less than that of the start are exact; if the start is open, all are
pub record IsMeasured (a : Asked) (start : Pair) (e : Entries) : Type 0 where
  pub size : length e.distances ≡ a.ids * STATES
  pub short : AreWithin a (a.ids * STATES) e
  pub sound : (r : Pair) → IsPairOf a r → at e r < OPEN → Finishes a r (at e r)
  pub whole : (r : Pair) (k : ℕ) → IsPairOf a r → (at e start < OPEN → k < at e start) → Finishes a r k
      → (at e r ≤ k) × (at e r < OPEN)

-- a table in which all distances below the bound are exact
pub record IsKnown (a : Asked) (bound : ℕ) (e : Entries) : Type 0 where
  pub size : length e.distances ≡ a.ids * STATES
  pub sound : (r : Pair) → IsPairOf a r → at e r < OPEN → Finishes a r (at e r)
  pub whole : (r : Pair) (k : ℕ) → IsPairOf a r → k < bound → Finishes a r k
      → (at e r ≤ k) × (at e r < OPEN)

-- q is the pair with the least id that p leads to and that has the distance d
pub record IsNextPair (a : Asked) (e : Entries) (p : Pair) (d : ℕ) (q : Pair) : Type 0 where
  pub leads : Leads a p q
  pub value : at e q ≡ d
  pub first : (r : Pair) → r.id < q.id → Leads a p r → at e r ≡ d → ⊥
