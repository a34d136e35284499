use Rattle.std.proofs.Common.{◌≡◌, ◌||◌, ◌∙◌, ℕ, Bool, true, false, length, refl, sym, arith}
use Rattle.std.proofs.lemmas.Bool.{true≢false}
use Rattle.std.proofs.lemmas.List.{length-set}
use Rattle.std.specs.Int.Bits.{bit_or}
use Rattle.path_finder.specs.IdSets.{has_id}
use Rattle.path_finder.proofs.WordSets.{below-bits, is-in, words-more}
use Rattle.path_finder.proofs.id_set.IdSet.with.Goals as goal

pub loop-place-preserved : goal.loop-place-preserved
loop-place-preserved c =
    let k : ℕ = c.loop-place.place in
    let size : length c.loop-place.words ≡ 16 = c.loop-place.invariant.size in
    record {
      size = length-set c.loop-place.words k (bit_or c.word.result c.word-in-loop-place.result) ∙ size;
      words = words-more (has_id c.args.self.now) (has_id c.args.other.now) c.loop-place.words k c.word.result c.word-in-loop-place.result (omega (arith, size)) c.word.ensures c.word-in-loop-place.ensures c.loop-place.invariant.words;
    }

or-left : (x y : Bool) → x ≡ true → (x || y) ≡ true
or-left true y e = refl
or-left false y e = absurd (true≢false (sym e))

or-right : (x y : Bool) → y ≡ true → (x || y) ≡ true
or-right true y e = refl
or-right false y e = e

pub returns-clause-own : goal.returns-clause-own
returns-clause-own c p e =
    is-in (has_id c.args.self.now) (has_id c.args.other.now) c.loop-place.words p (below-bits c.args.self.now.words p (omega arith) e)
    (λ place l. c.loop-place.invariant.words place (omega (arith, l, c.loop-place-test.false))) (or-left (has_id c.args.self.now p) (has_id c.args.other.now p) e)

pub returns-clause-others : goal.returns-clause-others
returns-clause-others c p e =
    is-in (has_id c.args.self.now) (has_id c.args.other.now) c.loop-place.words p (below-bits c.args.other.now.words p (omega arith) e)
    (λ place l. c.loop-place.invariant.words place (omega (arith, l, c.loop-place-test.false))) (or-right (has_id c.args.self.now p) (has_id c.args.other.now p) e)
