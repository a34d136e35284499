use Rattle.std.proofs.Common.{◌≡◌, ◌<◌, ◌≤◌, ◌+◌, ◌∷◌, [], ℕ, suc, List, true≢false, length, drop, get_or, refl, sym, ◌∙◌, ap, subst, subst₂, arith}
use Rattle.std.proofs.lemmas.List.{drop_more, drop_all}
use Rattle.std.proofs.lemmas.List.Elements.{All-from_recursion}
use Rattle.std.specs.List.{All}
use Rattle.limits.specs.declared.TheConstants.{MAX_PARTITIONS}
use Rattle.invariants.specs.declared.records.Split.{Split}
use Rattle.invariants.specs.declared.records.Model.{Model}
use Rattle.partition_model.specs.Assignments.{Assignment}
use Rattle.partition_model.specs.Refinement.{after_split}
use Rattle.model_shape.specs.Shapes.{IsShapedSplit}
use Rattle.models.specs.Histories.{IsJustifiedSplit, IsFirstWrongSplit}
use Rattle.replay_check.specs.Shown.{Shows}
use Rattle.replay_check.proofs.Steps.{IsSplitting, splitting-first, splitting-more}
use Rattle.replay_check.proofs.splits.first_wrong_split.Goals as goal
use Rattle.replay_check.proofs.splits.first_wrong_split.Goals.{After-index-splits-k}

-- the split in hand
read : (c : After-index-splits-k) → c.index-splits-k.result ≡ get_or c.args.model.now.splits c.loop-k.k c.index-splits-k.result
read c = c.index-splits-k.is ∙ ap (λ (xs : List Split). get_or xs c.loop-k.k c.index-splits-k.result) c.as_slice-splits.ensures

within : (c : After-index-splits-k) → c.loop-k.k < length c.args.model.now.splits
within c = omega (arith, c.loop-k-test.true, ap length c.as_slice-splits.ensures)

left : (c : After-index-splits-k) → drop c.loop-k.k c.args.model.now.splits ≡ c.index-splits-k.result ∷ drop (c.loop-k.k + 1) c.args.model.now.splits
left c = drop_more c.args.model.now.splits c.loop-k.k c.index-splits-k.result (within c) ∙ ap (λ (s : Split). s ∷ drop (c.loop-k.k + 1) c.args.model.now.splits) (sym (read c))

shaped : (c : After-index-splits-k) → IsShapedSplit (length c.args.model.now.invariants) c.index-splits-k.result
shaped c =
    let m : Model = c.args.model.now in
    let all : All (IsShapedSplit (length m.invariants)) m.splits = All-from_recursion (IsShapedSplit (length m.invariants)) m.splits c.requires.shaped.splits.each in
    subst (λ (s : Split). IsShapedSplit (length m.invariants) s) (sym (read c)) (all c.loop-k.k c.index-splits-k.result (within c))

pub loop-k-init : goal.loop-k-init
loop-k-init c =
    let e : c.args.first ≡ c.args.first + 0 = omega arith in
    record {
      room = (let f : c.args.first ≤ MAX_PARTITIONS = c.requires.first in omega arith);
      size = c.requires.size;
      count = refl;
      within = c.requires.within;
      blank = c.requires.blank;
      made = λ h s. (
        h,
        subst (λ n. Shows h n c.args.ids.now c.args.types.now) e s,
        subst (λ n. IsSplitting c.args.model.now h c.args.first c.args.model.now.splits h n c.args.model.now.splits 0) e (splitting-first c.args.model.now h c.args.first c.args.model.now.splits),
      );
    }

pub is_justified-requires-clause-shaped : goal.is_justified-requires-clause-shaped
is_justified-requires-clause-shaped c = shaped (goal.at.is_justified-requires-clause-shaped c).After-index-splits-k

pub divide-requires-clause-path : goal.divide-requires-clause-path
divide-requires-clause-path c =
    let a : After-index-splits-k = (goal.at.divide-requires-clause-path c).After-index-splits-k in
    All-from_recursion (λ p. p < MAX_PARTITIONS) c.index-splits-k.result.path (shaped a).path

pub divide-requires-clause-inside : goal.divide-requires-clause-inside
divide-requires-clause-inside c = c.is_justified.ensures.inside c.if-not-is_justified.false

pub divide-requires-clause-room : goal.divide-requires-clause-room
divide-requires-clause-room c = c.is_justified.ensures.room c.if-not-is_justified.false

pub returns-then-not-is_justified-clause-first : goal.returns-then-not-is_justified-clause-first
returns-then-not-is_justified-clause-first c = λ h s.
    let a : After-index-splits-k = (goal.at.returns-then-not-is_justified-clause-first c).After-index-splits-k in
    let m : Model = c.args.model.now in
    let k : ℕ = c.loop-k.k in
    let o = c.loop-k.invariant.made h s in
    let i : IsSplitting m h c.args.first m.splits o.0 (c.args.first + k) (c.index-splits-k.result ∷ drop (k + 1) m.splits) k =
    subst (λ (xs : List Split). IsSplitting m h c.args.first m.splits o.0 (c.args.first + k) xs k) (left a) o.2 in
    let z : k + 0 ≡ k = omega arith in
    subst (λ n. IsFirstWrongSplit m h c.args.first m.splits n) z
    (i.wrong 0 (λ j. true≢false (sym ((c.is_justified.ensures.right o.0 (c.args.first + k) o.1).1 j) ∙ c.if-not-is_justified.true)))

pub loop-k-preserved : goal.loop-k-preserved
loop-k-preserved c =
    let a : After-index-splits-k = (goal.at.loop-k-preserved c).After-index-splits-k in
    let m : Model = c.args.model.now in
    let k : ℕ = c.loop-k.k in
    let next : (c.args.first + k) + 1 ≡ c.args.first + (k + 1) = omega arith in
    let next-suc : suc (c.args.first + k) ≡ c.args.first + (k + 1) = omega arith in
    record {
      room = (let r : c.args.first + k < MAX_PARTITIONS = c.is_justified.ensures.room c.if-not-is_justified.false in omega arith);
      size = c.divide.ensures.size;
      count = c.divide.ensures.count ∙ c.loop-k.invariant.count;
      within = c.divide.ensures.within;
      blank = c.is_justified.ensures.blank;
      made = λ h s.
          let o = c.loop-k.invariant.made h s in
          let i : IsSplitting m h c.args.first m.splits o.0 (c.args.first + k) (c.index-splits-k.result ∷ drop (k + 1) m.splits) k =
          subst (λ (xs : List Split). IsSplitting m h c.args.first m.splits o.0 (c.args.first + k) xs k) (left a) o.2 in
          let j : IsJustifiedSplit m o.0 (c.args.first + k) c.index-splits-k.result = (c.is_justified.ensures.right o.0 (c.args.first + k) o.1).0 c.if-not-is_justified.false in
          let after : Assignment = after_split (c.args.first + k) c.index-splits-k.result o.0 in (
            after,
            subst (λ n. Shows after n c.divide.new.ids c.divide.new.types) next (c.divide.ensures.shows o.0 o.1),
            subst (λ n. IsSplitting m h c.args.first m.splits after n (drop (k + 1) m.splits) (k + 1)) next-suc
                (splitting-more m h c.args.first m.splits o.0 (c.args.first + k) c.index-splits-k.result (drop (k + 1) m.splits) k j i),
          );
    }

pub returns-clause-first : goal.returns-clause-first
returns-clause-first c = λ h s.
    let m : Model = c.args.model.now in
    let k : ℕ = c.loop-k.k in
    let o = c.loop-k.invariant.made h s in
    let end : length m.splits ≡ k = omega (arith, c.loop-k-test.false, ap length c.as_slice-splits.ensures) in
    let i : IsSplitting m h c.args.first m.splits o.0 (c.args.first + k) [] k =
    subst (λ (xs : List Split). IsSplitting m h c.args.first m.splits o.0 (c.args.first + k) xs k) (drop_all k m.splits (omega arith)) o.2 in
    let j : c.args.first + k ≡ c.args.first + length m.splits = omega arith in (
      i.all tt,
      (let r : c.args.first + k ≤ MAX_PARTITIONS = c.loop-k.invariant.room in omega arith),
      subst₂ (λ (x : Assignment) (n : ℕ). Shows x n c.loop-k.ids c.loop-k.types) i.end j o.1,
    )
