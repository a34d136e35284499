use Rattle.std.proofs.Common.{◌≡◌, ◌==◌, ◌<◌, ◌/◌, ◌%◌, ℕ, zero, suc, replicate, slice_index, refl, ap, ◌∙◌, eq-eqb, arith}
use Rattle.std.specs.Int.{bit_at}
use Rattle.std.proofs.lemmas.Nat.{div-add-mod', mod_below}
use Rattle.std.proofs.lemmas.Nat.Bits.{bit_at_ones}
use Rattle.path_finder.proofs.id_set.IdSet.all.Goals as goal

-- each word of a list of the same words
same-word : (n w k : ℕ) → k < n → slice_index (replicate n w) k ≡ w
same-word zero w k l = absurd (omega arith)
same-word (suc n) w zero l = refl
same-word (suc n) w (suc k) l = same-word n w k (omega arith)

pub returns : goal.returns
returns c p l =
    let all : slice_index (replicate 16 18446744073709551615) (p / 64) ≡ 18446744073709551615 = same-word 16 18446744073709551615 (p / 64) (omega (arith, l, div-add-mod' p 64)) in
    ap (λ (w : ℕ). bit_at w (p % 64) == 1) all ∙ eq-eqb (bit_at 18446744073709551615 (p % 64)) 1 (bit_at_ones 64 (p % 64) (mod_below p 64 (omega arith)))
