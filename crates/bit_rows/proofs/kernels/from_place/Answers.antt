use Rattle.bit_rows.proofs.Next.{low_gone, high_kept}
use Rattle.bit_rows.proofs.kernels.from_place.Goals as goal

pub returns-clause-below : goal.returns-clause-below
returns-clause-below c = λ i below. low_gone c.args.word c.args.place i c.ranges.word.fits below

pub returns-clause-behind : goal.returns-clause-behind
returns-clause-behind c = λ i from. high_kept c.args.word c.args.place i c.ranges.word.fits from
