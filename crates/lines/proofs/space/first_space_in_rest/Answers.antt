use Rattle.std.proofs.Common.{◌+◌, ◌≤◌, ◌==◌, arith, length}
use Rattle.std.proofs.lemmas.Bool.{eqb-true}
use Rattle.std.proofs.lemmas.Simd.{run_in_chunk_stops}
use Rattle.lines.proofs.Spaces.{none-before}
use Rattle.lines.proofs.space.first_space_in_rest.Goals as goal

pub returns-then-before-lt-FEW_LANES : goal.returns-then-before-lt-FEW_LANES
returns-then-before-lt-FEW_LANES c =
    let bytes = c.args.bytes.now in
    let seen = c.args.seen in
    let before = c.before_space_of_few-before.result in
    let counted = c.before_space_of_few-before.ensures in
    let room : seen + 4 ≤ length bytes = omega arith in (
      omega arith,
      eqb-true _ _ (run_in_chunk_stops (λ b. b == 32) bytes seen 4 before 0 room counted (omega arith)),
      none-before bytes seen 4 before c.requires.none room counted,
    )

pub first_space_byte_by_byte-requires-2-clause-none : goal.first_space_byte_by_byte-requires-2-clause-none
first_space_byte_by_byte-requires-2-clause-none c =
    let bytes = c.args.bytes.now in
    let seen = c.args.seen in
    let room : seen + 4 ≤ length bytes = omega arith in
    λ k below. none-before bytes seen 4 c.before_space_of_few-before.result c.requires.none room c.before_space_of_few-before.ensures k (omega arith)
