-- Slots with the numbers of traces, in which a trace with a given word is looked for.
use Rattle.std.specs.Prelude.{ℕ, ◌≡◌, ◌≢◌, ◌<◌, ◌≤◌, ◌+◌, ◌-◌, ◌^◌, ◌⊎◌, Option, List, [], length, set, slice_index, slice_index_or, All, MatchOption}
use Rattle.partition_graph.specs.declared.word_slots.TheConstants.{LOOKS}

-- each slot has one more than the number of one of the first traces, or 0
pub record AreSlots (traces : ℕ) (slots : List ℕ) : Type 0 where
  pub some : LOOKS < length slots
  pub few : length slots < 2 ^ 32
  pub below : All (λ slot. slot ≤ traces) slots

-- the slot at this place is empty
abbrev pub IsEmpty : List ℕ → ℕ → Type 0
IsEmpty slots place = (place < length slots) × (slice_index slots place ≡ 0)

-- the slot at this place has this trace, whose word is this one
abbrev pub HasWord : List (List ℕ) → List ℕ → ℕ → ℕ → List ℕ → Type 0
HasWord words slots place t word = (slice_index slots place ≡ t + 1) × (slice_index_or words t [] ≡ word)

-- each slot from one place up to another has a trace with another word
abbrev pub HaveOthers : List (List ℕ) → List ℕ → ℕ → ℕ → List ℕ → Type 0
HaveOthers words slots from to word =
    (place : ℕ) → from ≤ place → place < to
    → (slice_index slots place ≢ 0) × (slice_index_or words (slice_index slots place - 1) [] ≢ word)

-- the outcome of looking for the word of trace t in slots from its home on: up to the end there are traces with other words.
-- At the end there is an earlier trace with the word; or an empty slot, into which t is put; or all slots were looked at.
pub record IsLook (words : List (List ℕ)) (t : ℕ) (found : Option ℕ) (old new : List ℕ) : Type 0 where
  pub home : ℕ
  pub end : ℕ
  pub from : home ≤ end
  pub within : end ≤ home + LOOKS
  pub others : HaveOthers words old home end (slice_index_or words t [])
  pub outcome : MatchOption found
      (((end < home + LOOKS) × IsEmpty old end × (new ≡ set old end (t + 1))) ⊎ ((end ≡ home + LOOKS) × (new ≡ old)))
      (λ earlier. HasWord words old end earlier (slice_index_or words t []) × (new ≡ old))
