use Rattle.std.proofs.Common.{◌≡◌, ◌==◌, ◌||◌, ◌<◌, ◌+◌, ◌*◌, ℕ, Bool, true, false, List, length, set, slice_index, get_or-set_same, get_or-set_other, refl, sym, ap, subst, ◌∙◌, inl, inr, arith}
use Rattle.std.proofs.lemmas.Bool.{cases_lt}
use Rattle.std.proofs.lemmas.List.{length-set}
use Rattle.std.specs.Int.{bit_at}
use Rattle.std.specs.Int.Bits.{bit_or}
use Rattle.partition_graph.proofs.NeighbourWords.{word-either}
use Rattle.path_finder.specs.Nearness.{is_met}
use Rattle.path_finder.proofs.WordSets.{on-within, is-in}
use Rattle.path_finder.proofs.reach.join.Goals as goal

pub loop-place-preserved : goal.loop-place-preserved
loop-place-preserved c =
    let joined : List ℕ = c.loop-place.words in
    let k : ℕ = c.loop-place.place in
    let v : ℕ = bit_or c.word.result c.word-in-loop-place.result in
    let size : length joined ≡ 16 = c.loop-place.invariant.size in
    let inside : k < length joined = omega arith in
    record {
      size = length-set joined k v ∙ size;
      words = λ place below i low. elim (cases_lt place k) [
        | inl old ↦
            ap (λ (w : ℕ). bit_at w i == 1) (get_or-set_other joined k place v 0 (λ e. omega (arith, e, old)))
            ∙ c.loop-place.invariant.words place old i low
        | inr new ↦
            let same : place ≡ k = omega (arith, below, new) in
            subst (λ (p : ℕ). (bit_at (slice_index (set joined k v) p) i == 1) ≡ (is_met c.args.ahead.now (p * 64 + i) || is_met c.args.behind.now (p * 64 + i))) (sym same)
            (ap (λ (w : ℕ). bit_at w i == 1) (get_or-set_same joined k v 0 inside)
            ∙ word-either (is_met c.args.ahead.now) (is_met c.args.behind.now) k c.word.result c.word-in-loop-place.result c.word.ensures.word c.word-in-loop-place.ensures.word i low)
      ];
      sized = λ some. (c.word.ensures.size, c.word-in-loop-place.ensures.size);
    }

or-right : (x y : Bool) → y ≡ true → (x || y) ≡ true
or-right true y e = refl
or-right false y e = e

pub returns-clause-ahead : goal.returns-clause-ahead
returns-clause-ahead c p m =
    let i = c.loop-place.invariant in
    let low : p < length c.args.ahead.now.flags = on-within c.args.ahead.now.flags p m in
    is-in (is_met c.args.ahead.now) (is_met c.args.behind.now) c.loop-place.words p (omega (arith, low, (i.sized (omega (arith, c.loop-place-test.false))).0))
    (λ place l. i.words place (omega (arith, l, c.loop-place-test.false))) (ap (λ (x : Bool). x || is_met c.args.behind.now p) m)

pub returns-clause-behind : goal.returns-clause-behind
returns-clause-behind c p m =
    let i = c.loop-place.invariant in
    let low : p < length c.args.behind.now.flags = on-within c.args.behind.now.flags p m in
    is-in (is_met c.args.ahead.now) (is_met c.args.behind.now) c.loop-place.words p (omega (arith, low, (i.sized (omega (arith, c.loop-place-test.false))).1))
    (λ place l. i.words place (omega (arith, l, c.loop-place-test.false))) (or-right (is_met c.args.ahead.now p) (is_met c.args.behind.now p) m)
