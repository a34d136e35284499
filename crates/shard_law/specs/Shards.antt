-- What a part of a log shows of an invariant.
use Rattle.std.specs.Prelude.{ℕ, ◌≡◌, ◌↔◌, ◌⊎◌, ◌<◌, ◌≤◌, ◌+◌, List, map, All, Contains}
use Rattle.std.specs.List.{AllByRecursion}
use Rattle.limits.specs.declared.TheConstants.{INITIAL, TERMINAL, FIRST_TYPE}
use Rattle.invariants.specs.declared.Kind.{Kind}
use Rattle.invariants.specs.declared.Kind.TheVariants.{AF, NF, AP, IB}
use Rattle.invariants.specs.declared.Kinds.{Kinds}
use Rattle.invariants.specs.declared.Invariant.{Invariant}
use Rattle.invariants.specs.Candidates.{invariant}
use Rattle.invariants.specs.Ends.{IsWord, HasType}
use Rattle.invariants.specs.Holds.{Holds, NeverFollowedBy}
use Rattle.invariants.specs.Mined.{mined_for}

-- some word has the type
abbrev pub Occurs : ℕ → List (List ℕ) → Type 0
Occurs x words = (word : List ℕ) × Contains words word × HasType x word

-- both types of the invariant occur in the words, and it holds of each
pub record IsShown (inv : Invariant) (words : List (List ℕ)) : Type 0 where
  pub first : Occurs inv.a words
  pub second : Occurs inv.b words
  pub of_every : All (λ word. Holds inv word) words

-- the words lack what the kind is about. AlwaysFollowedBy: an a. NeverFollowedBy: an a or a b.
-- AlwaysPrecedes: a b. InterruptedBy: an a, or both a b and two a in one word.
abbrev pub LacksAs : Kind → ℕ → ℕ → List (List ℕ) → Type 0
LacksAs AF a b words = Occurs a words → ⊥
LacksAs NF a b words = Occurs a words → Occurs b words → ⊥
LacksAs AP a b words = Occurs b words → ⊥
LacksAs IB a b words = (Occurs a words → ⊥) ⊎ ((Occurs b words → ⊥) × All (NeverFollowedBy a a) words)

-- the words lack what the invariant is about
abbrev pub Lacks : Invariant → List (List ℕ) → Type 0
Lacks inv words = LacksAs inv.kind inv.a inv.b words

-- the whole has exactly the words that some shard has
abbrev pub IsCutInto : List (List ℕ) → List (List (List ℕ)) → Type 0
IsCutInto whole shards =
    (word : List ℕ)
    → Contains whole word ↔ ((words : List (List ℕ)) × Contains shards words × Contains words word)

-- a shard with numbers of its own: how many types it has, the number that each has in the whole, and its words in its own numbers
pub record Shard : Type 0 where
  pub count : ℕ
  pub number : ℕ → ℕ
  pub words : List (List ℕ)

-- each word goes from INITIAL to TERMINAL and has only types of the shard, and each of these occurs;
-- the two ends keep their numbers in the whole, and no two types have the same one
pub record IsNumbered (shard : Shard) : Type 0 where
  pub words : All IsWord shard.words
  pub within : All (λ word. AllByRecursion (λ x. x < shard.count + FIRST_TYPE) word) shard.words
  pub occur : (x : ℕ) → FIRST_TYPE ≤ x → x < shard.count + FIRST_TYPE → Occurs x shard.words
  pub start : shard.number INITIAL ≡ INITIAL
  pub end : shard.number TERMINAL ≡ TERMINAL
  pub apart : (x y : ℕ) → x < shard.count + FIRST_TYPE → y < shard.count + FIRST_TYPE
      → shard.number x ≡ shard.number y → x ≡ y

-- its words in the numbers of the whole
abbrev pub words_of : Shard → List (List ℕ)
words_of shard = map (λ word. map shard.number word) shard.words

-- an invariant of the shard in the numbers of the whole
abbrev pub in_whole : Shard → Invariant → Invariant
in_whole shard inv = invariant inv.kind (shard.number inv.a) (shard.number inv.b)

-- the shard's own list of these kinds has the invariant of the whole
abbrev pub Lists : Kinds → Shard → Invariant → Type 0
Lists kinds shard inv =
    (own : Invariant) × Contains (mined_for kinds shard.count shard.words) own
    × (in_whole shard own ≡ inv)
