use Rattle.std.proofs.Common.{◌≡◌, ℕ, List, [], ◌+◌, ◌∷◌, ◌++◌, ◌&&◌, ◌||◌, not, true, eqb, get_or, take, take_all, drop, take-append-drop, arith, ap, ap₂, sym, ◌∙◌}
use Rattle.invariants.specs.Holds.{occurs, always_preceded}
use Rattle.closure_miner.specs.Sets.{has_at}
use Rattle.closure_miner.proofs.Rows.{and-true, and-assoc}
use Rattle.closure_miner.proofs.Events.{front-more, occurs-last, preceded-last}
use Rattle.closure_miner.proofs.Rests.{preceded-front}
use Rattle.closure_miner.proofs.striking.read_from_start.Goals as goal

pub loop-i-init : goal.loop-i-init
loop-i-init g c = record {
  seen = λ a. c.none-earlier.ensures a;
  preceded = λ a b. sym (and-true (has_at g.S.TypeSet.has c.args.preceded.now b a));
}

pub loop-i-preserved : goal.loop-i-preserved
loop-i-preserved g c =
    let events : List ℕ = c.args.events.now in
    let i = c.loop-i.i in
    let x : ℕ = get_or events i 0 in
    let word : List ℕ = take i events in
    let next : word ++ x ∷ [] ≡ take (i + 1) events = sym (front-more events i (omega arith)) in
    let old = c.args.preceded.now in
    record {
      seen = λ a.
          c.strike_later-earlier.ensures.earlier a ∙ ap (λ o. eqb x (a + 2) || o) (c.loop-i.invariant.seen a) ∙ sym (occurs-last (a + 2) x word)
          ∙ ap (λ w. occurs (a + 2) w) next;
      preceded = λ a b.
          c.strike_later-earlier.ensures.preceded a b ∙ ap₂ (λ f o. f && (not (eqb x (b + 2)) || o)) (c.loop-i.invariant.preceded a b) (c.loop-i.invariant.seen a)
          ∙ and-assoc (has_at g.S.TypeSet.has old b a) (always_preceded (a + 2) (b + 2) word) (not (eqb x (b + 2)) || occurs (a + 2) word)
          ∙ ap (λ t. has_at g.S.TypeSet.has old b a && t) (sym (preceded-last (a + 2) (b + 2) x word) ∙ ap (always_preceded (a + 2) (b + 2)) next);
    }

pub returns : goal.returns
returns g c = record {
  preceded = λ a b in_a in_b.
      c.loop-i.invariant.preceded a b
      ∙ ap (λ w. has_at g.S.TypeSet.has c.args.preceded.now b a && always_preceded (a + 2) (b + 2) w) (take_all c.loop-i.i c.args.events.now (omega arith));
}

pub returns-then-is : goal.returns-then-is
returns-then-is g c = record {
  preceded = λ a b in_a in_b.
      let events : List ℕ = c.args.events.now in
      let front : List ℕ = take c.loop-i.i events in
      let some : occurs (a + 2) front ≡ true = sym (c.loop-i.invariant.seen a) ∙ (ap (λ s. g.S.TypeSet.has s a) (c.is.ensures.0 c.if-is.true) ∙ c.requires.all a in_a) in
      c.loop-i.invariant.preceded a b
      ∙ ap (λ t. has_at g.S.TypeSet.has c.args.preceded.now b a && t)
      (sym (preceded-front (a + 2) (b + 2) front (drop c.loop-i.i events) some) ∙ ap (always_preceded (a + 2) (b + 2)) (take-append-drop c.loop-i.i events));
}
