-- The invariants of shards together.
use Rattle.std.proofs.Common.{◌↔◌, ◌⊎◌, ℕ, List, ◌++◌, Contains}
use Rattle.std.proofs.lemmas.List.Elements.{All-contains, All-append, Contains-append_left, Contains-append_right}
use Rattle.invariants.specs.declared.Invariant.{Invariant}
use Rattle.invariants.specs.Holds.{Holds}
use Rattle.invariants.specs.Mined.{IsListed}
use Rattle.invariants.proofs.Members.{mined_tells}
use Rattle.shard_law.specs.Shards.{IsShown, Lacks, IsCutInto}
use Rattle.shard_law.specs.Laws.{TwoLogsJoin, ShardsJoin}
use Rattle.shard_law.proofs.Lists.{All-members}
use Rattle.shard_law.proofs.Showing.{OfEvery, every_shows}

-- a candidate is mined of two logs together exactly where each shows it or lacks what it speaks of
pub two_logs_join : TwoLogsJoin
two_logs_join kinds count first second inv = (
  λ m.
      let h : IsListed kinds count (first ++ second) inv = (mined_tells kinds count (first ++ second) inv).0 m in (
        h.candidate,
        (every_shows inv first).0 (part first h.of_every (λ word c. Contains-append_left first second word c)),
        (every_shows inv second).0 (part second h.of_every (λ word c. Contains-append_right first second word c)),
      ),
  λ h.
      let all : OfEvery inv (first ++ second) = All-append (λ word. Holds inv word) first second ((every_shows inv first).1 h.1) ((every_shows inv second).1 h.2) in
      (mined_tells kinds count (first ++ second) inv).1 (record { candidate = h.0; of_every = all }),
)
  where
    part : (words : List (List ℕ)) → OfEvery inv (first ++ second) → ((word : List ℕ) → Contains words word → Contains (first ++ second) word) → OfEvery inv words
    part words all inside = All-members (λ word. Holds inv word) words (λ word c. All-contains (λ w. Holds inv w) (first ++ second) word all (inside word c))

-- what holds of each word of the whole holds of each of a shard, and the other way round
pub every_of_shards : (whole : List (List ℕ)) (shards : List (List (List ℕ))) → IsCutInto whole shards → (inv : Invariant)
    → OfEvery inv whole ↔ ((words : List (List ℕ)) → Contains shards words → OfEvery inv words)
every_of_shards whole shards cut inv = (
  λ all words in_shards. All-members (λ word. Holds inv word) words (λ word c. All-contains (λ w. Holds inv w) whole word all ((cut word).1 (words, in_shards, c))),
  λ each. All-members (λ word. Holds inv word) whole (λ word c.
      let o : (words : List (List ℕ)) × Contains shards words × Contains words word = (cut word).0 c in
      All-contains (λ w. Holds inv w) o.0 word (each o.0 o.1) o.2),
)

-- a candidate is mined of the whole exactly where each shard shows it or lacks what it speaks of
pub shards_join : ShardsJoin
shards_join kinds count whole shards cut inv = (
  λ m.
      let h : IsListed kinds count whole inv = (mined_tells kinds count whole inv).0 m in (
        h.candidate,
        All-members (λ words. IsShown inv words ⊎ Lacks inv words) shards (λ words c.
            (every_shows inv words).0 ((every_of_shards whole shards cut inv).0 h.of_every words c)),
      ),
  λ h.
      let all : OfEvery inv whole = (every_of_shards whole shards cut inv).1 (λ words c.
      (every_shows inv words).1 (All-contains (λ words. IsShown inv words ⊎ Lacks inv words) shards words h.1 c)) in
      (mined_tells kinds count whole inv).1 (record { candidate = h.0; of_every = all }),
)
