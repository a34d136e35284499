use Rattle.std.proofs.Common.{◌≡◌, ◌<◌, ◌≤◌, ◌+◌, ◌∷◌, [], ℕ, map, List, false, true≢false, length, drop, get_or, refl, sym, ◌∙◌, ap, subst, arith}
use Rattle.std.proofs.lemmas.List.{drop_more, drop_all, length-set, length-map}
use Rattle.limits.specs.declared.TheConstants.{MAX_PARTITIONS}
use Rattle.invariants.specs.declared.records.Merge.{Merge}
use Rattle.partition_model.specs.Assignments.{Assignment, G}
use Rattle.partition_model.specs.Coarsening.{merge, onto, IsPair}
use Rattle.partition_model.proofs.Merging.{onto_other}
use Rattle.model_shape.specs.Shapes.{IsShapedMerge}
use Rattle.models.specs.Histories.{IsFirstWrongMerge}
use Rattle.replay_check.specs.Shown.{Knows, named_by}
use Rattle.replay_check.proofs.Steps.{IsMerging, merging-first, merging-more}
use Rattle.replay_check.proofs.Showing.{knows-merge, named-first, named-more, onto-names, names-within}
use Rattle.std.specs.List.{All}
use Rattle.replay_check.proofs.merges.first_wrong_merge.Goals as goal

abbrev none : Merge
none = record { p = 0; q = 0 }

pub loop-k-init : goal.loop-k-init
loop-k-init c =
    record {
      live_size = c.requires.live_size;
      names_size = refl;
      names_within = c.requires.names_within;
      start = c.requires.names 0 (omega arith);
      end = c.requires.names 1 (omega arith);
      made = λ h k. (h, k, named-first c.args.names.now MAX_PARTITIONS h k.below c.requires.names, merging-first h c.args.merges.now);
    }

pub returns-then-not-is_pair-clause-first : goal.returns-then-not-is_pair-clause-first
returns-then-not-is_pair-clause-first c = λ h s.
    let ms : List Merge = c.args.merges.now in
    let k : ℕ = c.loop-k.k in
    let x : Merge = get_or ms k none in
    let o = c.loop-k.invariant.made h s in
    let i : IsMerging h ms o.0 (x ∷ drop (k + 1) ms) k = subst (λ (xs : List Merge). IsMerging h ms o.0 xs k) (drop_more ms k none c.loop-k-test.true) o.3 in
    let z : k + 0 ≡ k = omega arith in
    subst (λ n. IsFirstWrongMerge h ms n) z (i.wrong 0 (λ j. true≢false (sym ((c.is_pair.ensures.right o.0 o.1).1 j) ∙ c.if-not-is_pair.true)))

pub loop-k-preserved : goal.loop-k-preserved
loop-k-preserved c =
    let ms : List Merge = c.args.merges.now in
    let k : ℕ = c.loop-k.k in
    let x : Merge = get_or ms k none in
    let low : 2 ≤ x.p = c.is_pair.ensures.low c.if-not-is_pair.false in
    let shaped : IsShapedMerge x = c.requires.shaped k none c.loop-k-test.true in
    let order : x.p < x.q = shaped.order in
    let live_size : length c.loop-k.live ≡ MAX_PARTITIONS = c.loop-k.invariant.live_size in
    let names : List ℕ = c.loop-k.names in
    let new : c.replace.new.numbers ≡ map (λ y. onto x.p x.q y) names = c.replace.ensures in
    let high : 0 < x.q = omega arith in
    let zero : onto x.p x.q 0 ≡ 0 = onto_other x.p x.q 0 (λ e. absurd (omega arith)) in
    let one : onto x.p x.q 1 ≡ 1 = onto_other x.p x.q 1 (λ e. absurd (omega arith)) in
    record {
      live_size = length-set c.loop-k.live x.q false ∙ live_size;
      names_size = ap length new ∙ length-map names (λ y. onto x.p x.q y) ∙ c.loop-k.invariant.names_size;
      names_within = subst (λ (xs : List ℕ). All (λ p. p < MAX_PARTITIONS) xs) (sym new) (names-within x.p x.q MAX_PARTITIONS names (let b : x.q < MAX_PARTITIONS = shaped.high in omega arith) c.loop-k.invariant.names_within);
      start = ap (λ (xs : List ℕ). get_or xs 0 0) new ∙ sym (onto-names x.p x.q names high 0) ∙ ap (λ y. onto x.p x.q y) c.loop-k.invariant.start ∙ zero;
      end = ap (λ (xs : List ℕ). get_or xs 1 0) new ∙ sym (onto-names x.p x.q names high 1) ∙ ap (λ y. onto x.p x.q y) c.loop-k.invariant.end ∙ one;
      made = λ h s.
          let o = c.loop-k.invariant.made h s in
          let i : IsMerging h ms o.0 (x ∷ drop (k + 1) ms) k = subst (λ (xs : List Merge). IsMerging h ms o.0 xs k) (drop_more ms k none c.loop-k-test.true) o.3 in
          let j : IsPair (G o.0) x.p x.q = (c.is_pair.ensures.right o.0 o.1).0 c.if-not-is_pair.false in (
            merge x.p x.q o.0,
            knows-merge x.p x.q o.0 c.loop-k.live c.args.types.now shaped.high live_size j o.1,
            ap (λ (xs : List ℕ). named_by xs h) new ∙ named-more x.p x.q names h o.0 high o.2,
            merging-more h ms o.0 x (drop (k + 1) ms) k j i,
          );
    }

pub returns-clause-first : goal.returns-clause-first
returns-clause-first c = λ h s.
    let ms : List Merge = c.args.merges.now in
    let k : ℕ = c.loop-k.k in
    let o = c.loop-k.invariant.made h s in
    let i : IsMerging h ms o.0 [] k = subst (λ (xs : List Merge). IsMerging h ms o.0 xs k) (drop_all k ms c.loop-k-test.false) o.3 in (
      i.all tt,
      subst (λ (x : Assignment). Knows x c.loop-k.live c.args.types.now) i.end o.1,
      o.2 ∙ i.end,
    )
