-- Traces and words compared without regard to how often each occurs.
use Rattle.std.specs.Prelude.{ℕ, ◌≡◌, ◌+◌, ◌<◌, ◌⊎◌, List, [], ◌∷◌, ◌++◌, length, take, drop, slice_index, slice_index_or, Contains}
use Rattle.partition_model.specs.Assignments.{by_type, with_ends}
use Rattle.replay_check.specs.Laid.{laid}

-- two lists have the same members
pub record HaveSame {X : Type 0} (xs ys : List X) : Type 0 where
  pub forth : (x : X) → Contains xs x → Contains ys x
  pub back : (x : X) → Contains ys x → Contains xs x

-- if the words are laid one after another, the ids of this one can begin at this place
pub record IsPlaced (words : List (List ℕ)) (word : List ℕ) (place : ℕ) : Type 0 where
  pub before : List (List ℕ)
  pub after : List (List ℕ)
  pub words_are : words ≡ before ++ word ∷ after
  pub place_is : place ≡ length (laid (by_type before))

-- the same for each of a list of words, with a place each
abbrev pub ArePlaced : List (List ℕ) → List (List ℕ) → List ℕ → Type 0
ArePlaced words [] [] = Unit {0}
ArePlaced words [] (p ∷ places) = ⊥
ArePlaced words (w ∷ ws) [] = ⊥
ArePlaced words (w ∷ ws) (p ∷ places) = IsPlaced words w p × ArePlaced words ws places

-- the ids of the first assignment of words with the same members as the list, and a place for each word of the list
pub record AreIdsOf (inner : List (List ℕ)) (ids places : List ℕ) : Type 0 where
  pub words : List (List ℕ)
  pub laid_are : ids ≡ laid (by_type words)
  pub same : HaveSame words inner
  pub placed : ArePlaced words inner places

-- the ids of each word with its ends, from its place on
abbrev pub gathered : List ℕ → List ℕ → List (List ℕ) → List ℕ
gathered ids places [] = []
gathered ids [] (w ∷ ws) = []
gathered ids (p ∷ places) (w ∷ ws) = take (length w + 2) (drop p ids) ++ gathered ids places ws

-- the word at place t, not the first, equals that of some slot, and gets the same place
pub record IsMet (inner : List (List ℕ)) (t : ℕ) (kept places now : List ℕ) : Type 0 where
  pub later : 0 < t
  pub slot : ℕ
  pub same : slice_index_or inner t [] ≡ slice_index_or inner (slice_index kept slot) []
  pub places_are : now ≡ places ++ slice_index places (slice_index kept slot) ∷ []

-- the word's ids are appended, and slots keep their numbers or get this one's
pub record IsAdded (inner : List (List ℕ)) (t : ℕ) (kept after places now ids more : List ℕ) : Type 0 where
  pub kept_are : (s : ℕ) → (slice_index after s ≡ t) ⊎ (slice_index after s ≡ slice_index kept s)
  pub places_are : now ≡ places ++ length ids ∷ []
  pub ids_are : more ≡ ids ++ with_ends (slice_index_or inner t [])

-- the word is known and no ids are added, or it is added
abbrev pub IsNoted : List (List ℕ) → ℕ → List ℕ → List ℕ → List ℕ → List ℕ → List ℕ → List ℕ → Type 0
IsNoted inner t kept after places now ids more =
    (IsMet inner t kept places now × (after ≡ kept) × (more ≡ ids)) ⊎ IsAdded inner t kept after places now ids more
