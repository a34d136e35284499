use Rattle.std.proofs.Common.{◌≡◌, ◌≤◌, ◌<◌, ◌+◌, ◌-◌, ◌*◌, ◌∷◌, [], ◌++◌, List, ℕ, suc, length, vec_len, vec_capacity, sym, ◌∙◌, ap, subst, arith}
use Rattle.limits.specs.declared.TheConstants.{MAX_PARTITIONS}
use Rattle.path_finder.specs.declared.pair.TheConstants.{STATES}
use Rattle.path_finder.specs.declared.table.TheConstants.{MAX_ENTRIES, OPEN}
use Rattle.path_finder.specs.Asking.{asked}
use Rattle.path_finder.specs.Walks.{IsLeastOf}
use Rattle.path_finder.specs.Tables.{at, IsKnown, IsSplitAt}
use Rattle.std.proofs.lemmas.List.{length-append}
use Rattle.std.proofs.lemmas.Option.{slice_get_within}
use Rattle.path_finder.proofs.Least.{measured_known, known_below, led_further, led_to_end, violation_from}
use Rattle.path_finder.proofs.trace.trace.Goals as goal

pub loop-left-init : goal.loop-left-init
loop-left-init c =
    let v : at c.args.table.now c.args.start ≡ c.args.distance = c.requires.entered in
    let s : at c.args.table.now c.args.start ≤ (asked c.args.question.now).ids * STATES = c.requires.measured.short c.args.start c.requires.pair (omega (arith, v, c.requires.closes)) in
    let few : (asked c.args.question.now).ids ≤ MAX_PARTITIONS = c.args.question.now.few in
    let items : c.push_reserved.new.self.items ≡ c.clear.new.self.items ++ c.args.start.id ∷ [] = c.push_reserved.ensures.items in
    record {
      pair = c.requires.pair;
      entry = v;
      known = subst (λ (n : ℕ). IsKnown (asked c.args.question.now) n c.args.table.now) v (measured_known (asked c.args.question.now) c.args.start c.args.table.now c.requires.measured);
      stands = c.requires.closes;
      split = c.first_at-end.ensures;
      room = omega arith;
      more = omega arith;
      few = let n : length c.push_reserved.new.self.items ≡ 1 = ap length (items ∙ ap (λ (z : List ℕ). z ++ c.args.start.id ∷ []) c.clear.ensures.items) in omega (arith, n);
      front = (
        [],
        items ∙ ap (λ (z : List ℕ). z ++ c.args.start.id ∷ []) c.clear.ensures.items ∙ ap (λ (i : ℕ). i ∷ []) c.requires.id,
        λ ys lw. lw,
      );
    }

pub next_pair-pair-requires-clause-stands : goal.next_pair-pair-requires-clause-stands
next_pair-pair-requires-clause-stands c = let s : c.loop-left.left < OPEN = c.loop-left.invariant.stands in omega arith

pub first_at-end-requires-clause-after : goal.first_at-end-requires-clause-after
first_at-end-requires-clause-after c i x past is = absurd (omega (arith, past, slice_get_within c.args.table.now.parts i x is, c.len.ensures.len))

pub first_at-first-requires-clause-after : goal.first_at-first-requires-clause-after
first_at-first-requires-clause-after c i x past is = omega (arith, c.loop-left.invariant.split.after i x past is)

pub next_pair-pair-requires-clause-end : goal.next_pair-pair-requires-clause-end
next_pair-pair-requires-clause-end c =
    let one : c.loop-left.left ≡ c.loop-left.left - 1 + 1 = omega arith in
    subst (λ (n : ℕ). IsSplitAt n c.loop-left.end c.args.table.now) one c.loop-left.invariant.split

pub loop-left-preserved : goal.loop-left-preserved
loop-left-preserved c =
    let one : suc (c.loop-left.left - 1) ≡ c.loop-left.left = omega arith in
    let k : IsKnown (asked c.args.question.now) (suc (c.loop-left.left - 1)) c.args.table.now = subst (λ (n : ℕ). IsKnown (asked c.args.question.now) n c.args.table.now) (sym one) c.loop-left.invariant.known in
    record {
      pair = c.next_pair-pair.ensures.pair;
      entry = c.next_pair-pair.ensures.next.value;
      known = known_below (asked c.args.question.now) c.loop-left.left (c.loop-left.left - 1) c.args.table.now (omega arith) c.loop-left.invariant.known;
      stands = let s : c.loop-left.left < OPEN = c.loop-left.invariant.stands in omega arith;
      split = c.first_at-first.ensures;
      room = let r : vec_len c.loop-left.path + c.loop-left.left ≤ vec_capacity c.loop-left.path = c.loop-left.invariant.room in omega (arith, c.push_reserved-in-loop-left.ensures.len, c.push_reserved-in-loop-left.ensures.capacity);
      more = let r : MAX_ENTRIES < vec_capacity c.loop-left.path = c.loop-left.invariant.more in omega (arith, c.push_reserved-in-loop-left.ensures.capacity);
      few = let b : length c.loop-left.path.items + c.loop-left.left ≤ MAX_ENTRIES + 1 = c.loop-left.invariant.few in let n : length c.push_reserved-in-loop-left.new.self.items ≡ length c.loop-left.path.items + 1 = ap length c.push_reserved-in-loop-left.ensures.items ∙ length-append c.loop-left.path.items (c.next_pair-pair.result.id ∷ []) in omega (arith, n, b);
      front = (
        c.loop-left.invariant.front.0 ++ c.next_pair-pair.result.id ∷ [],
        c.push_reserved-in-loop-left.ensures.items ∙ ap (λ (z : List ℕ). z ++ c.next_pair-pair.result.id ∷ []) c.loop-left.invariant.front.1,
        led_further (asked c.args.question.now) c.args.table.now c.args.start c.loop-left.pair c.next_pair-pair.result c.loop-left.invariant.front.0 (c.loop-left.left - 1) c.args.question.now.within k
            c.loop-left.invariant.pair c.next_pair-pair.ensures.pair (c.loop-left.invariant.entry ∙ sym one) (let s : c.loop-left.left < OPEN = c.loop-left.invariant.stands in omega arith)
            c.next_pair-pair.ensures.next c.loop-left.invariant.front.2,
      );
    }

pub returns-clause-short : goal.returns-clause-short
returns-clause-short c = let b : length c.loop-left.path.items + c.loop-left.left ≤ MAX_ENTRIES + 1 = c.loop-left.invariant.few in omega (arith, b)

pub returns-clause-least : goal.returns-clause-least
returns-clause-least c =
    let z : c.loop-left.left ≡ 0 = omega (arith, c.loop-left-test.false) in
    let k : IsKnown (asked c.args.question.now) 0 c.args.table.now = subst (λ (n : ℕ). IsKnown (asked c.args.question.now) n c.args.table.now) z c.loop-left.invariant.known in
    subst (λ (p : List ℕ). IsLeastOf (asked c.args.question.now) p) (sym c.loop-left.invariant.front.1)
    (violation_from (asked c.args.question.now) c.args.start c.loop-left.invariant.front.0 c.requires.id c.requires.state
    (led_to_end (asked c.args.question.now) c.args.table.now c.args.start c.loop-left.pair c.loop-left.invariant.front.0 k c.loop-left.invariant.pair (c.loop-left.invariant.entry ∙ z) c.loop-left.invariant.front.2))
