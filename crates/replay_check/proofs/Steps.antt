-- The steps of a history, one after another.
use Rattle.std.proofs.Common.{◌≡◌, ℕ, suc, ◌+◌, List, ◌∷◌, refl, sym, subst, zero-add, arith}
use Rattle.invariants.specs.declared.records.Model.{Model}
use Rattle.invariants.specs.declared.records.Split.{Split}
use Rattle.invariants.specs.declared.records.Merge.{Merge}
use Rattle.partition_model.specs.Assignments.{Assignment, G}
use Rattle.partition_model.specs.Refinement.{after_split}
use Rattle.partition_model.specs.Coarsening.{merge, merged_by, IsPair}
use Rattle.partition_model.specs.Laws.{MergeInTurn}
use Rattle.models.specs.Histories.{IsJustifiedSplit, SplitInTurn, IsFirstWrongSplit, split_by, IsFirstWrongMerge}

-- from h, with n for the next id, these splits come to now, with id for the next, where rest is left and k are made
pub record IsSplitting (m : Model) (h : Assignment) (n : ℕ) (ss : List Split) (now : Assignment) (id : ℕ) (rest : List Split) (k : ℕ) : Type 0 where
  pub all : SplitInTurn m now id rest → SplitInTurn m h n ss
  pub wrong : (j : ℕ) → IsFirstWrongSplit m now id rest j → IsFirstWrongSplit m h n ss (k + j)
  pub end : split_by id rest now ≡ split_by n ss h

pub splitting-first : (m : Model) (h : Assignment) (n : ℕ) (ss : List Split) → IsSplitting m h n ss h n ss 0
splitting-first m h n ss = record { all = λ a. a; wrong = λ j w. subst (λ x. IsFirstWrongSplit m h n ss x) (sym (zero-add j)) w; end = refl }

pub splitting-more : (m : Model) (h : Assignment) (n : ℕ) (ss : List Split) (now : Assignment) (id : ℕ) (s : Split) (rest : List Split) (k : ℕ)
    → IsJustifiedSplit m now id s → IsSplitting m h n ss now id (s ∷ rest) k → IsSplitting m h n ss (after_split id s now) (suc id) rest (k + 1)
splitting-more m h n ss now id s rest k j i =
    record {
      all = λ a. i.all (j, a);
      wrong = λ l w. subst (λ x. IsFirstWrongSplit m h n ss x) (let e : k + suc l ≡ (k + 1) + l = omega arith in e) (i.wrong (suc l) (j, w));
      end = i.end;
    }

-- from h these merges come to now, where rest is left and k are made
pub record IsMerging (h : Assignment) (ms : List Merge) (now : Assignment) (rest : List Merge) (k : ℕ) : Type 0 where
  pub all : MergeInTurn now rest → MergeInTurn h ms
  pub wrong : (j : ℕ) → IsFirstWrongMerge now rest j → IsFirstWrongMerge h ms (k + j)
  pub end : merged_by rest now ≡ merged_by ms h

pub merging-first : (h : Assignment) (ms : List Merge) → IsMerging h ms h ms 0
merging-first h ms = record { all = λ a. a; wrong = λ j w. subst (λ x. IsFirstWrongMerge h ms x) (sym (zero-add j)) w; end = refl }

pub merging-more : (h : Assignment) (ms : List Merge) (now : Assignment) (x : Merge) (rest : List Merge) (k : ℕ)
    → IsPair (G now) x.p x.q → IsMerging h ms now (x ∷ rest) k → IsMerging h ms (merge x.p x.q now) rest (k + 1)
merging-more h ms now x rest k j i =
    record {
      all = λ a. i.all (j, a);
      wrong = λ l w. subst (λ z. IsFirstWrongMerge h ms z) (let e : k + suc l ≡ (k + 1) + l = omega arith in e) (i.wrong (suc l) (j, w));
      end = i.end;
    }
