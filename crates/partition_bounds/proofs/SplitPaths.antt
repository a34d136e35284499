-- The paths of a run of splits are short.
use Rattle.std.proofs.Common.{◌≡◌, ℕ, suc, ◌+◌, ◌*◌, ◌≤◌, List, [], ◌∷◌, length, slice_get, Some, subst, arith}
use Rattle.std.proofs.lemmas.List.Sums.{sum_by-cons}
use Rattle.limits.specs.declared.TheConstants.{MAX_PARTITIONS}
use Rattle.invariants.specs.declared.Invariant.{Invariant}
use Rattle.invariants.specs.declared.records.Split.{Split}
use Rattle.partition_model.specs.Graphs.{Satisfies, IsLeastViolation, IsFormed}
use Rattle.partition_model.specs.Assignments.{Assignment, G, by_type}
use Rattle.partition_model.specs.Refinement.{Splits, after_split}
use Rattle.partition_model.specs.Laws.{IsRun, HoldAll}
use Rattle.partition_model.proofs.Forming.{graphs_are_formed}
use Rattle.partition_model.proofs.Runs.{broken, next-run, start-run}
use Rattle.model_shape.specs.Numbers.{split_numbers}
use Rattle.partition_bounds.specs.Pairs.{longest_path}
use Rattle.partition_bounds.specs.Laws.{SplitPathsWithinLimit}
use Rattle.partition_model.proofs.Listing.{live-below}
use Rattle.partition_bounds.proofs.Shorter.{least_within_limit}

-- each path of the run is short, and so they are together
along : (words : List (List ℕ)) (invs : List Invariant) (ss : List Split) (h : Assignment) (n : ℕ) (end : Assignment) → IsRun words h n → 2 ≤ n → HoldAll words invs → n + length ss ≤ MAX_PARTITIONS
    → Splits invs h n ss end → split_numbers ss ≤ longest_path * length ss
along words invs [] h n end r l a lim w = omega arith
along words invs (s ∷ ss) h n end r l a lim w =
    let b : (inv : Invariant) × (slice_get invs s.inv ≡ Some inv) × (Satisfies (G h) inv → ⊥) = broken (G h) invs s.inv w.0.first in
    let v : IsLeastViolation (G h) b.0 s.path = w.0.least b.0 b.1 in
    let f : IsFormed (G h) = graphs_are_formed h r.typed in
    let p : length s.path ≤ longest_path = least_within_limit (G h) b.0 s.path n f (λ u k. live-below h n u l r.below k) (omega arith) v in
    let r1 : IsRun words (after_split n s h) (n + 1) = next-run words invs h n s b.0 r l a b.1 v w.0.place in
    let e : n + 1 ≡ suc n = omega arith in
    let i : split_numbers ss ≤ longest_path * length ss =
    along words invs ss (after_split n s h) (suc n) end (subst (λ (m : ℕ). IsRun words (after_split n s h) m) e r1) (omega arith) a (omega arith) w.1 in
    let c : split_numbers (s ∷ ss) ≡ length s.path + split_numbers ss = sum_by-cons (λ (x : Split). length x.path) s ss in
    omega arith

-- the paths of a run of splits have together at most so many numbers for each split
pub split_paths_within_limit : SplitPathsWithinLimit
split_paths_within_limit invs words n ss end t a lim w = along words invs ss (by_type words) n end (start-run words n t) t.two a lim w
