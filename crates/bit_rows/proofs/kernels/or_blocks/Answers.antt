use Rattle.std.proofs.Common.{◌≡◌, ℕ, ◌+◌, ◌*◌, ◌<◌, ◌≤◌, List, length, get_or, refl, sym, ap₂, ◌∙◌, subst, arith}
use Rattle.std.proofs.lemmas.Simd.{length-zip2, get_or-zip2, length-chunk}
use Rattle.std.specs.Int.Bits.{bit_or, bit_xor}
use lib.Lanes.{zip2, chunk, fold_l}
use Rattle.bit_rows.specs.Written.{word, HasSeen}
use Rattle.bit_rows.proofs.Bitwise.{same_from_xor}
use Rattle.bit_rows.proofs.Writing.{none_written, none_seen}
use Rattle.bit_rows.proofs.Blocks.{tells_from_seen, next_block, next_seen_block, here_block, apart_block}
use Rattle.bit_rows.proofs.kernels.or_blocks.Goals as goal

pub loop-b-preserved : goal.loop-b-preserved
loop-b-preserved c =
    let i : ℕ = c.loop-b.b * 8 in
    let step : (c.loop-b.b + 1) * 8 ≡ i + 8 = omega arith in
    let few : i + 8 ≤ c.args.blocks * 8 = omega arith in
    let h = c.loop-b.invariant.written in
    let mine : List ℕ = chunk (c.args.to + i) 8 c.loop-b.words in
    let theirs : List ℕ = chunk (c.args.from + i) 8 c.loop-b.words in
    let long_mine : length mine ≡ 8 = length-chunk (c.args.to + i) 8 c.loop-b.words (omega (arith, few, h.size, c.requires.to_in)) in
    let long_theirs : length theirs ≡ 8 = length-chunk (c.args.from + i) 8 c.loop-b.words (omega (arith, few, h.size, c.requires.from_in)) in
    let ys : List ℕ = zip2 bit_or mine theirs in
    let long : length ys ≡ 8 = length-zip2 bit_or mine theirs (long_mine ∙ sym long_theirs) ∙ long_mine in
    let is : (j : ℕ) → j < 8 → get_or ys j 0 ≡ bit_or (word c.args.words.now c.args.to (i + j)) (word c.args.words.now c.args.from (i + j)) =
    λ j hj. get_or-zip2 bit_or mine theirs j 0 0 0 (omega arith) (omega arith)
    ∙ ap₂ bit_or (here_block c.args.words.now c.loop-b.words c.args.to i j _ h hj) (apart_block c.args.words.now c.loop-b.words c.args.to c.args.from i j (c.args.blocks * 8) _ c.requires.apart few h hj) in
    let ds : List ℕ = zip2 bit_xor ys mine in
    let long_ds : length ds ≡ 8 = length-zip2 bit_xor ys mine (long ∙ sym long_mine) ∙ long in
    let differs : (j : ℕ) → j < 8 → get_or ds j 0 ≡ bit_xor (bit_or (word c.args.words.now c.args.to (i + j)) (word c.args.words.now c.args.from (i + j))) (word c.args.words.now c.args.to (i + j)) =
    λ j hj. get_or-zip2 bit_xor ys mine j 0 0 0 (omega arith) (omega arith) ∙ ap₂ bit_xor (is j hj) (here_block c.args.words.now c.loop-b.words c.args.to i j _ h hj) in
    record {
      fits = c.loop-b.invariant.fits;
      eight = length-zip2 bit_or c.loop-b.more ds (c.loop-b.invariant.eight ∙ sym long_ds) ∙ c.loop-b.invariant.eight;
      written = rw step (next_block c.args.words.now c.loop-b.words c.args.to i _ ys long (omega (arith, few, c.requires.to_in)) is h);
      seen = rw step (next_seen_block i _ _ c.loop-b.more ds c.loop-b.invariant.eight long_ds differs same_from_xor c.loop-b.invariant.seen);
    }

pub loop-b-init : goal.loop-b-init
loop-b-init c = record { fits = λ k. (c.type_inv.words k).fits; eight = refl; written = none_written c.args.words.now c.args.to _; seen = none_seen _ _ }

pub returns-clause-tells : goal.returns-clause-tells
returns-clause-tells c =
    let all : c.loop-b.b ≡ c.args.blocks = omega (arith, c.loop-b-test.false, c.loop-b.auto.b-end) in
    tells_from_seen (c.args.blocks * 8) (λ k. bit_or (word c.args.words.now c.args.to k) (word c.args.words.now c.args.from k)) (word c.args.words.now c.args.to) (fold_l bit_or 0 c.loop-b.more)
    (subst (λ n. HasSeen (n * 8) (λ k. bit_or (word c.args.words.now c.args.to k) (word c.args.words.now c.args.from k)) (word c.args.words.now c.args.to) (fold_l bit_or 0 c.loop-b.more)) all c.loop-b.invariant.seen)
