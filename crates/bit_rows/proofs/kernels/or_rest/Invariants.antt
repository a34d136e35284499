use Rattle.std.specs.Int.Bits.{bit_or}
use Rattle.bit_rows.specs.Written.{word, AllFit, IsWritten, HasSeen}
use Rattle.bit_rows.proofs.kernels.or_rest.Given as goal

abbrev pub invariant-loop-k : goal.invariant-loop-k
invariant-loop-k l = record {
  fits : AllFit l.fn.words;
  fits_now : AllFit l.words;
  written : IsWritten l.fn.words l.words l.to l.k (λ k. bit_or (word l.fn.words l.to k) (word l.fn.words l.from k));
  seen : HasSeen l.k (λ k. bit_or (word l.fn.words l.to k) (word l.fn.words l.from k)) (word l.fn.words l.to) l.more;
}
