use Rattle.std.proofs.Common.{◌≡◌, ℕ, All, List, subst, sym, ◌+◌, ◌&&◌, not, length, arith, ap, refl, ◌∙◌}
use Rattle.std.proofs.lemmas.List.{with_items_is}
use Rattle.invariants.specs.Holds.{always_followed, never_followed, always_preceded}
use Rattle.traces.specs.Kept.{IsTypeNumber}
use Rattle.closure_miner.specs.Sets.{has_at}
use Rattle.closure_miner.proofs.Traces.{stands-more}
use Rattle.closure_miner.proofs.standing.Standing.read.Goals as goal

-- equal lists are as long
lengths : {S : Type 0} {xs ys : List S} → xs ≡ ys → length xs ≡ length ys
lengths is = ap length is

pub read_between-requires-clause-numbers : goal.read_between-requires-clause-numbers
read_between-requires-clause-numbers g c = λ four. subst (λ (n : ℕ). All (IsTypeNumber n) c.args.events.now) (sym (c.args.self.now.between_each four)) c.requires.numbers

pub returns-clause-stands : goal.returns-clause-stands
returns-clause-stands g c = λ words st.
    let old = c.args.self.now in
    let events = c.args.events.now in
    let many : old.types ≡ length c.deref_mut.result.now = omega (arith, lengths c.deref_mut.ensures.value, old.followed.ok.0) in
    let many_too : old.types ≡ length c.deref_mut-3.result.now = omega (arith, lengths c.deref_mut-3.ensures.value, old.followed.ok.0) in
    stands-more g.S.TypeSet.has old _ words events c.requires.numbers refl refl
    (λ b in_b. c.both-self.ensures b ∙ ap (λ o. g.S.TypeSet.has old.everywhere b && o) (c.read_from_end-seen.ensures.seen b (omega (arith, many))))
    (λ a b in_a in_b.
    ap (λ t. has_at g.S.TypeSet.has t a b)
    (with_items_is old.followed c.read_from_end-seen.new.followed (omega (arith, c.read_from_end-seen.auto.followed, lengths c.deref_mut.ensures.value, old.followed.ok.0)))
    ∙ c.read_from_end-seen.ensures.followed a b (omega (arith, many)) (omega (arith, many))
    ∙ ap (λ t. has_at g.S.TypeSet.has t a b && always_followed (a + 2) (b + 2) events) c.deref_mut.ensures.value)
    (λ a b in_a in_b.
    ap (λ t. not (has_at g.S.TypeSet.has t a b))
    (with_items_is old.met c.read_from_end-seen.new.met (omega (arith, c.read_from_end-seen.auto.met, lengths c.deref_mut-2.ensures.value, old.met.ok.0)))
    ∙ c.read_from_end-seen.ensures.never a b (omega (arith, many)) (omega (arith, many))
    ∙ ap (λ t. not (has_at g.S.TypeSet.has t a b) && never_followed (a + 2) (b + 2) events) c.deref_mut-2.ensures.value)
    (λ a b in_a in_b.
    ap (λ t. has_at g.S.TypeSet.has t b a)
    (with_items_is old.preceded c.read_from_start.new.preceded (omega (arith, c.read_from_start.auto.preceded, lengths c.deref_mut-3.ensures.value, old.preceded.ok.0)))
    ∙ c.read_from_start.ensures.preceded a b (omega (arith, many_too)) (omega (arith, many_too))
    ∙ ap (λ t. has_at g.S.TypeSet.has t b a && always_preceded (a + 2) (b + 2) events) c.deref_mut-3.ensures.value)
    (λ four a b in_a in_b. c.read_between.ensures.left four a b (omega (arith, in_a, old.between_each four)) (omega (arith, in_b, old.between_each four)))
    st
