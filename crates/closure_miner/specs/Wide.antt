-- A set of types in two words.
use Rattle.std.specs.Prelude.{ℕ, ◌-◌, nat_lt, Bool, if◌then◌else◌}
use Rattle.closure_miner.specs.declared.type_sets.TheConstants.{WORD_TYPES}
use Rattle.closure_miner.specs.declared.type_sets.Wide.{Wide}
use Rattle.closure_miner.specs.Sets.{in_word}

-- whether the type at a place is in the set: the first WORD_TYPES places are in the low word, the others in the high one
abbrev pub in_two : Wide → ℕ → Bool
in_two set i = if nat_lt i WORD_TYPES then in_word set.low i else in_word set.high (i - WORD_TYPES)
