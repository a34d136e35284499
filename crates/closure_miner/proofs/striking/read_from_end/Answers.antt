use Rattle.std.proofs.Common.{◌≡◌, ℕ, List, [], ◌+◌, ◌-◌, ◌<◌, ◌∷◌, ◌++◌, ◌&&◌, ◌||◌, not, true, eqb, get_or, length, take, drop, take-append-drop, arith, ap, ap₂, sym, ◌∙◌}
use Rattle.std.proofs.lemmas.List.{drop_all}
use Rattle.invariants.specs.Holds.{occurs, always_followed, never_followed}
use Rattle.closure_miner.specs.Sets.{has_at}
use Rattle.closure_miner.proofs.Rows.{and-true, and-swap, at-all}
use Rattle.closure_miner.proofs.Events.{rest-more}
use Rattle.closure_miner.proofs.Rests.{occurs-behind, followed-behind, never-behind, still-false}
use Rattle.closure_miner.proofs.striking.read_from_end.Goals as goal
use Rattle.closure_miner.proofs.striking.read_from_end.Goals.{Then-are_all}

pub loop-left-init : goal.loop-left-init
loop-left-init g c =
    let events : List ℕ = c.args.events.now in
    let none : drop (length events) events ≡ [] = drop_all (length events) events (omega arith) in
    record {
      within = omega arith;
      seen = λ b. c.none-later.ensures b ∙ sym (ap (λ w. occurs (b + 2) w) none);
      followed = λ a b.
          sym (ap (λ w. has_at g.S.TypeSet.has c.args.followed.now a b && always_followed (a + 2) (b + 2) w) none ∙ and-true (has_at g.S.TypeSet.has c.args.followed.now a b));
      never = λ a b.
          sym (ap (λ w. not (has_at g.S.TypeSet.has c.args.met.now a b) && never_followed (a + 2) (b + 2) w) none ∙ and-true (not (has_at g.S.TypeSet.has c.args.met.now a b)));
    }

pub loop-left-preserved : goal.loop-left-preserved
loop-left-preserved g c =
    let events : List ℕ = c.args.events.now in
    let left = c.loop-left.left in
    let x : ℕ = get_or events (left - 1) 0 in
    let word : List ℕ = drop left events in
    let rest : x ∷ word ≡ drop (left - 1) events = sym (rest-more events left (omega arith) c.loop-left.invariant.within) in
    let old = c.args.followed.now in
    let old_met = c.args.met.now in
    record {
      within = omega arith;
      seen = λ b. c.strike_earlier-later.ensures.later b ∙ ap (λ o. eqb x (b + 2) || o) (c.loop-left.invariant.seen b) ∙ ap (λ w. occurs (b + 2) w) rest;
      followed = λ a b.
          c.strike_earlier-later.ensures.followed a b ∙ ap₂ (λ f o. f && (not (eqb x (a + 2)) || o)) (c.loop-left.invariant.followed a b) (c.loop-left.invariant.seen b)
          ∙ and-swap (has_at g.S.TypeSet.has old a b) (always_followed (a + 2) (b + 2) word) (not (eqb x (a + 2)) || occurs (b + 2) word)
          ∙ ap (λ w. has_at g.S.TypeSet.has old a b && always_followed (a + 2) (b + 2) w) rest;
      never = λ a b.
          c.strike_earlier-later.ensures.never a b ∙ ap₂ (λ f o. f && not (eqb x (a + 2) && o)) (c.loop-left.invariant.never a b) (c.loop-left.invariant.seen b)
          ∙ and-swap (not (has_at g.S.TypeSet.has old_met a b)) (never_followed (a + 2) (b + 2) word) (not (eqb x (a + 2) && occurs (b + 2) word))
          ∙ ap (λ w. not (has_at g.S.TypeSet.has old_met a b) && never_followed (a + 2) (b + 2) w) rest;
    }

-- where nothing is left to strike out, each type occurs in what was read
all-read : (g : _) (c : Then-are_all g) (b : ℕ) → b < length c.args.followed.now → g.S.TypeSet.has c.loop-left.later b ≡ true
all-read g c b in_b = ap (λ s. g.S.TypeSet.has s b) (c.is.ensures.0 c.if-is.true) ∙ c.requires.all b in_b

some-read : (g : _) (c : Then-are_all g) (b : ℕ) → b < length c.args.followed.now → occurs (b + 2) (drop c.loop-left.left c.args.events.now) ≡ true
some-read g c b in_b = sym (c.loop-left.invariant.seen b) ∙ all-read g c b in_b

-- what is not yet read and what was read
whole : (g : _) (c : Then-are_all g) → take c.loop-left.left c.args.events.now ++ drop c.loop-left.left c.args.events.now ≡ c.args.events.now
whole g c = take-append-drop c.loop-left.left c.args.events.now

pub returns-then-are_all-clause-seen : goal.returns-then-are_all-clause-seen
returns-then-are_all-clause-seen g c = λ b in_b.
    let events : List ℕ = c.args.events.now in
    let front : List ℕ = take c.loop-left.left events in
    let behind : List ℕ = drop c.loop-left.left events in
    all-read g c b in_b ∙ sym (ap (occurs (b + 2)) (sym (whole g c)) ∙ occurs-behind (b + 2) front behind (some-read g c b in_b))

pub returns-then-are_all-clause-followed : goal.returns-then-are_all-clause-followed
returns-then-are_all-clause-followed g c = λ a b in_a in_b.
    let events : List ℕ = c.args.events.now in
    let front : List ℕ = take c.loop-left.left events in
    let behind : List ℕ = drop c.loop-left.left events in
    c.loop-left.invariant.followed a b
    ∙ ap (λ t. has_at g.S.TypeSet.has c.args.followed.now a b && t) (sym (followed-behind (a + 2) (b + 2) front behind (some-read g c b in_b)) ∙ ap (always_followed (a + 2) (b + 2)) (whole g c))

pub returns-then-are_all-clause-never : goal.returns-then-are_all-clause-never
returns-then-are_all-clause-never g c = λ a b in_a in_b.
    let events : List ℕ = c.args.events.now in
    let front : List ℕ = take c.loop-left.left events in
    let behind : List ℕ = drop c.loop-left.left events in
    let met : has_at g.S.TypeSet.has c.loop-left.met a b ≡ true =
    at-all g.S.TypeSet.has c.loop-left.met c.args.all a b (c.are_all.ensures.0 c.if-are_all.true) (omega (arith, c.loop-left.auto.met, c.requires.same)) ∙ c.requires.all b in_b in
    ap not met
    ∙ sym (still-false (not (has_at g.S.TypeSet.has c.args.met.now a b)) (never_followed (a + 2) (b + 2) behind) (never_followed (a + 2) (b + 2) events)
    (sym (c.loop-left.invariant.never a b) ∙ ap not met)
    (λ unless. ap (never_followed (a + 2) (b + 2)) (sym (whole g c)) ∙ never-behind (a + 2) (b + 2) front behind unless))
