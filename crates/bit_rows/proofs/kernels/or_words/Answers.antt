use Rattle.std.proofs.Common.{◌≡◌, ℕ, ◌+◌, ◌*◌, ◌/◌, ◌-◌, ◌<◌, ◌||◌, ap₂, subst, arith}
use Rattle.std.specs.Int.Bits.{bit_or}
use Rattle.bit_rows.specs.Written.{word, IsWritten, TellsChange}
use Rattle.bit_rows.proofs.Blocks.{join_written, join_tells, rest_kept, rest_apart}
use Rattle.bit_rows.proofs.kernels.or_words.Goals as goal

pub returns-clause-written : goal.returns-clause-written
returns-clause-written c =
    let n : ℕ = c.args.count / 8 * 8 in
    let m : ℕ = c.args.count - n in
    let total : n + m ≡ c.args.count = omega arith in
    let h = c.or_blocks-in_blocks.ensures.written in
    let is : (k : ℕ) → k < m → bit_or (word c.or_blocks-in_blocks.new.words (c.args.to + n) k) (word c.or_blocks-in_blocks.new.words (c.args.from + n) k) ≡ bit_or (word c.args.words.now c.args.to (n + k)) (word c.args.words.now c.args.from (n + k)) =
    λ k below. ap₂ bit_or (rest_kept c.args.words.now c.or_blocks-in_blocks.new.words c.args.to n k _ h) (rest_apart c.args.words.now c.or_blocks-in_blocks.new.words c.args.to c.args.from n c.args.count k _ c.requires.apart (omega arith) h) in
    subst (λ t. IsWritten c.args.words.now c.or_rest-behind.new.words c.args.to t (λ k. bit_or (word c.args.words.now c.args.to k) (word c.args.words.now c.args.from k))) total
    (join_written c.args.words.now c.or_blocks-in_blocks.new.words c.or_rest-behind.new.words c.args.to n m (λ k. bit_or (word c.args.words.now c.args.to k) (word c.args.words.now c.args.from k)) _ h c.or_rest-behind.ensures.written is)

pub returns-clause-tells : goal.returns-clause-tells
returns-clause-tells c =
    let n : ℕ = c.args.count / 8 * 8 in
    let m : ℕ = c.args.count - n in
    let total : n + m ≡ c.args.count = omega arith in
    let h = c.or_blocks-in_blocks.ensures.written in
    let is : (k : ℕ) → k < m → bit_or (word c.or_blocks-in_blocks.new.words (c.args.to + n) k) (word c.or_blocks-in_blocks.new.words (c.args.from + n) k) ≡ bit_or (word c.args.words.now c.args.to (n + k)) (word c.args.words.now c.args.from (n + k)) =
    λ k below. ap₂ bit_or (rest_kept c.args.words.now c.or_blocks-in_blocks.new.words c.args.to n k _ h) (rest_apart c.args.words.now c.or_blocks-in_blocks.new.words c.args.to c.args.from n c.args.count k _ c.requires.apart (omega arith) h) in
    subst (λ t. TellsChange t (λ k. bit_or (word c.args.words.now c.args.to k) (word c.args.words.now c.args.from k)) (word c.args.words.now c.args.to) (c.or_blocks-in_blocks.result || c.or_rest-behind.result)) total
    (join_tells n m (λ k. bit_or (word c.args.words.now c.args.to k) (word c.args.words.now c.args.from k)) (word c.args.words.now c.args.to) _ _ c.or_blocks-in_blocks.result c.or_rest-behind.result c.or_blocks-in_blocks.ensures.tells c.or_rest-behind.ensures.tells is
    (λ k below. rest_kept c.args.words.now c.or_blocks-in_blocks.new.words c.args.to n k _ h))
