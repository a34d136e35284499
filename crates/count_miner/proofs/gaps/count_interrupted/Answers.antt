use Rattle.std.proofs.Common.{◌≡◌, ℕ, suc, ◌+◌, ◌-◌, ◌<◌, ◌≤◌, ◌∙◌, ◌&&◌, Bool, List, ◌∷◌, ap, ap₂, arith, cond, drop, eqb, get_or, length, length-drop, sym}
use Rattle.std.proofs.Math.Dec.{ltb}
use Rattle.traces.specs.Kept.{IsTypeNumber}
use Rattle.invariants.specs.Holds.{occurs, always_preceded}
use Rattle.count_miner.specs.Counts.{cell, interrupted_count}
use Rattle.count_miner.proofs.Between.{rest_from, gaps-within, sooner}
use Rattle.count_miner.proofs.Places.{same-test, place-test, set-at}
use Rattle.count_miner.proofs.Read.{rest-more}
use Rattle.count_miner.proofs.gaps.count_interrupted.Goals as goal

pub add_gap-requires-clause-room : goal.add_gap-requires-clause-room
add_gap-requires-clause-room c = λ a b low_a low_b.
    let types : ℕ = length c.args.next.now in
    let same : length c.loop-others.next ≡ types = omega (arith, c.loop-others.auto.next) in
    let in_a : a < types = omega (arith, low_a, same) in
    let in_b : b < types = omega (arith, low_b, same) in
    omega (
      arith,
      ap (λ n. cell c.loop-others.table n a b) same,
      c.loop-others.invariant.counted a b in_a in_b,
      gaps-within (a + 2) (b + 2) (drop c.loop-others.others c.args.events.now),
      length-drop c.loop-others.others c.args.events.now,
      c.loop-others.invariant.within,
      c.requires.room a b in_a in_b,
    )

-- the events from one place before, so many that the event there is first
more-left : (n m k : ℕ) → 0 < n → n ≤ m → k ≡ m - n → m - (n - 1) ≡ suc k
more-left n m k some within is = omega arith

pub loop-others-preserved : goal.loop-others-preserved
loop-others-preserved c =
    let types : ℕ = length c.args.next.now in
    let events : List ℕ = c.args.events.now in
    let next = c.loop-others.next in
    let n = c.loop-others.others in
    let word : List ℕ = drop n events in
    let x : ℕ = get_or events (n - 1) 0 in
    let at : ℕ = x - 2 in
    let same : length next ≡ types = omega (arith, c.loop-others.auto.next) in
    let number : IsTypeNumber types x = c.requires.numbers (n - 1) 0 (omega (arith, c.loop-others.invariant.within)) in
    let is : x ≡ at + 2 = omega (arith, number.0) in
    let rest : drop (n - 1) events ≡ x ∷ word = rest-more events n (omega arith) c.loop-others.invariant.within in
    record {
      within = omega (arith, c.loop-others.invariant.within);
      next = λ t in_t.
          let first : ℕ = length events - (n - 1) in
          set-at next at first t (omega (arith, number.0, number.1, same))
          ∙ (ap (λ s. cond s first (get_or next t 0)) (place-test t x at is)
          ∙ (ap₂ (λ (p q : ℕ). cond (eqb x (t + 2)) p q) (more-left n (length events) (length word) (omega arith) c.loop-others.invariant.within (length-drop n events)) (c.loop-others.invariant.next t in_t)
          ∙ sym (ap (rest_from (t + 2)) rest)));
      counted = λ a b in_a in_b.
          let one : Bool → ℕ = λ t. cond t 1 0 in
          let test : (eqb a at && (ltb 0 (get_or next a 0) && ltb (get_or next a 0) (get_or next b 0))) ≡ (eqb x (a + 2) && (occurs (a + 2) word && always_preceded (b + 2) (a + 2) word)) =
          ap₂ (λ (p q : ℕ). eqb a at && (ltb 0 p && ltb p q)) (c.loop-others.invariant.next a in_a) (c.loop-others.invariant.next b in_b)
          ∙ ap₂ (λ (s t : Bool). s && t) (same-test a x at is) (sooner (a + 2) (b + 2) word) in
          omega (
            arith,
            ap (λ m. cell c.add_gap.new.table m a b) same,
            ap (λ m. cell c.loop-others.table m a b) same,
            c.add_gap.ensures a b (omega (arith, in_a, same)) (omega (arith, in_b, same)),
            c.loop-others.invariant.counted a b in_a in_b,
            ap one test,
            ap (interrupted_count (a + 2) (b + 2)) rest,
          );
    }
