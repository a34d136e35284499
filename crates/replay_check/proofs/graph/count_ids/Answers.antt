use Rattle.std.proofs.Common.{◌≡◌, ◌<◌, ◌≤◌, ◌+◌, ◌==◌, ◌^◌, [], cond, ℕ, List, length, drop, get_or, replicate, refl, sym, ◌∙◌, ap, eq-eqb, arith}
use Rattle.std.proofs.lemmas.List.{drop_all, length-set, get_or-replicate}
use Rattle.limits.specs.declared.TheConstants.{MAX_PARTITIONS}
use Rattle.replay_check.proofs.Laying.{times}
use Rattle.replay_check.proofs.Counting.{size-more, times-few}
use Rattle.replay_check.proofs.Known.{times-drop}
use Rattle.replay_check.proofs.graph.count_ids.Goals as goal

pub loop-id-init : goal.loop-id-init
loop-id-init c =
    record {
      size = c.fill.auto.self;
      counted = λ p l.
          let s : length c.args.sizes.now ≡ MAX_PARTITIONS = c.requires.size in
          let e : get_or c.fill.new.self p 0 ≡ 0 = ap (λ (xs : List ℕ). get_or xs p 0) (c.fill.ensures.after (λ y same. same)) ∙ get_or-replicate (length c.args.sizes.now) p 0 0 (omega arith) in
          omega arith;
    }

pub overflow_add-sizes : goal.overflow_add-sizes
overflow_add-sizes c =
    let ids : List ℕ = c.args.ids.now in
    let i : ℕ = c.loop-id.id-index in
    let id : ℕ = get_or ids i 0 in
    let from : c.from.result ≡ id = c.from.ensures in
    let here : id < MAX_PARTITIONS = c.requires.within i 0 c.loop-id-test.true in
    let same : get_or c.loop-id.sizes c.from.result 0 ≡ get_or c.loop-id.sizes id 0 = ap (λ x. get_or c.loop-id.sizes x 0) from in
    let few = times-few id ids in
    let one : cond {A = ℕ} (id == id) 1 0 ≡ 1 = rw (eq-eqb id id refl) refl in
    omega (arith, c.loop-id.invariant.counted id here, times-drop id ids i c.loop-id-test.true)

pub loop-id-preserved : goal.loop-id-preserved
loop-id-preserved c =
    let ids : List ℕ = c.args.ids.now in
    let i : ℕ = c.loop-id.id-index in
    let id : ℕ = get_or ids i 0 in
    let sizes : List ℕ = c.loop-id.sizes in
    let from : c.from.result ≡ id = c.from.ensures in
    let here : id < MAX_PARTITIONS = c.requires.within i 0 c.loop-id-test.true in
    let size : length sizes ≡ length c.args.sizes.now = c.loop-id.invariant.size in
    let old : length c.args.sizes.now ≡ MAX_PARTITIONS = c.requires.size in
    record {
      size = length-set sizes c.from.result (get_or sizes c.from.result 0 + 1) ∙ size;
      counted = λ p l.
          let a = size-more sizes c.from.result (get_or sizes c.from.result 0 + 1) (omega arith) refl p in
          let b = times-drop p ids i c.loop-id-test.true in
          let d : cond {A = ℕ} (c.from.result == p) 1 0 ≡ cond {A = ℕ} (id == p) 1 0 = ap (λ x. cond {A = ℕ} (x == p) 1 0) from in
          let f : get_or sizes p 0 + times p (drop i ids) ≡ times p ids = c.loop-id.invariant.counted p l in
          let g : get_or (Rattle.std.proofs.Common.set sizes c.from.result (get_or sizes c.from.result 0 + 1)) p 0 + times p (drop (i + 1) ids) ≡ times p ids = omega arith in
          g;
    }

pub returns-clause-sizes : goal.returns-clause-sizes
returns-clause-sizes c = λ p l.
    let e : times p (drop c.loop-id.id-index c.args.ids.now) ≡ 0 = ap (λ (xs : List ℕ). times p xs) (drop_all c.loop-id.id-index c.args.ids.now c.loop-id-test.false) in
    omega (arith, c.loop-id.invariant.counted p l)
