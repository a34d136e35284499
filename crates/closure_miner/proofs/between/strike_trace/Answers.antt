use Rattle.std.proofs.Common.{◌≡◌, ℕ, All, subst, suc, List, [], ◌+◌, ◌-◌, ◌<◌, ◌≤◌, ◌∷◌, ◌&&◌, ◌||◌, not, false, cond, eqb, get_or, length, length-drop, take, drop, take-append-drop, arith, refl, ap, ap₂, sym, ◌∙◌}
use Rattle.std.proofs.Math.Dec.{ltb}
use Rattle.std.proofs.lemmas.List.{drop_all}
use Rattle.invariants.specs.Holds.{always_preceded, interrupted}
use Rattle.traces.specs.Kept.{IsTypeNumber}
use Rattle.closure_miner.specs.Rows.{in_row}
use Rattle.closure_miner.specs.Sets.{has_at}
use Rattle.closure_miner.proofs.Rows.{and-true, and-swap, set-at}
use Rattle.closure_miner.proofs.Events.{rest-more}
use Rattle.closure_miner.proofs.Rests.{between-behind, still-false}
use Rattle.closure_miner.proofs.Sooner.{rest_from, sooner}
use Rattle.closure_miner.proofs.between.strike_trace.Goals as goal

pub loop-others-init : goal.loop-others-init
loop-others-init c =
    let events : List ℕ = c.args.events.now in
    let none : drop (length events) events ≡ [] = drop_all (length events) events (omega arith) in
    record {
      within = omega arith;
      narrow = c.requires.narrow;
      next = λ t in_t. c.fill.ensures.clones t 0 in_t refl ∙ sym (ap (rest_from (t + 2)) none);
      struck = λ a b in_a in_b.
          sym (ap (λ w. has_at in_row c.args.rows.now a b && interrupted (a + 2) (b + 2) w) none ∙ and-true (has_at in_row c.args.rows.now a b));
    }

-- the events from one place before, so many that the event there is first
more-left : (n m k : ℕ) → 0 < n → n ≤ m → k ≡ m - n → m - (n - 1) ≡ suc k
more-left n m k some within is = omega arith

pub loop-others-preserved : goal.loop-others-preserved
loop-others-preserved c =
    let types : ℕ = length c.args.next.now in
    let events : List ℕ = c.args.events.now in
    let next = c.loop-others.next in
    let old = c.args.rows.now in
    let n = c.loop-others.others in
    let word : List ℕ = drop n events in
    let x : ℕ = get_or events (n - 1) 0 in
    let place : ℕ = c.place_of.result in
    let same : length next ≡ types = omega (arith, c.loop-others.auto.next) in
    let number : IsTypeNumber types x = c.requires.numbers (n - 1) 0 (omega (arith, c.loop-others.invariant.within)) in
    let rest : drop (n - 1) events ≡ x ∷ word = rest-more events n (omega arith) c.loop-others.invariant.within in
    record {
      within = omega (arith, c.loop-others.invariant.within);
      narrow = subst (λ (m : ℕ). All (λ row. length row.items ≤ m) c.strike_event.new.rows) same c.strike_event.ensures.narrow;
      next = λ t in_t.
          let first : ℕ = length events - (n - 1) in
          set-at next place first x t c.place_of.ensures (omega (arith, c.place_of.ensures, number.1, same))
          ∙ (ap₂ (λ (p q : ℕ). cond (eqb x (t + 2)) p q) (more-left n (length events) (length word) (omega arith) c.loop-others.invariant.within (length-drop n events)) (c.loop-others.invariant.next t in_t)
          ∙ sym (ap (rest_from (t + 2)) rest));
      struck = λ a b in_a in_b.
          c.strike_event.ensures.left a b
          ∙ ap₂ (λ f o. f && (not (eqb x (a + 2)) || o)) (c.loop-others.invariant.struck a b in_a in_b)
          (ap₂ (λ (p q : ℕ). eqb p 0 || ltb p q) (c.loop-others.invariant.next a in_a) (c.loop-others.invariant.next b in_b) ∙ sooner (a + 2) (b + 2) word)
          ∙ and-swap (has_at in_row old a b) (interrupted (a + 2) (b + 2) word) (not (eqb x (a + 2)) || always_preceded (b + 2) (a + 2) word)
          ∙ ap (λ w. has_at in_row old a b && interrupted (a + 2) (b + 2) w) (sym rest);
    }

pub returns-then-are_empty-clause-left : goal.returns-then-are_empty-clause-left
returns-then-are_empty-clause-left c = λ a b in_a in_b.
    let events : List ℕ = c.args.events.now in
    let front : List ℕ = take c.loop-others.others events in
    let behind : List ℕ = drop c.loop-others.others events in
    let gone : has_at in_row c.loop-others.rows a b ≡ false = c.are_empty.ensures c.if-are_empty.true a b in
    gone
    ∙ sym (still-false (has_at in_row c.args.rows.now a b) (interrupted (a + 2) (b + 2) behind) (interrupted (a + 2) (b + 2) events)
    (sym (c.loop-others.invariant.struck a b in_a in_b) ∙ gone)
    (λ unless. ap (interrupted (a + 2) (b + 2)) (sym (take-append-drop c.loop-others.others events)) ∙ between-behind (a + 2) (b + 2) front behind unless))

pub returns-clause-left : goal.returns-clause-left
returns-clause-left c = λ a b in_a in_b.
    let read : c.loop-others.others ≡ 0 = omega arith in
    c.loop-others.invariant.struck a b in_a in_b ∙ ap (λ n. has_at in_row c.args.rows.now a b && interrupted (a + 2) (b + 2) (drop n c.args.events.now)) read
