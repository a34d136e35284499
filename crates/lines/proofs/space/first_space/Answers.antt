use Rattle.std.proofs.Common.{◌+◌, ◌≤◌, ◌==◌, arith, length}
use Rattle.std.proofs.lemmas.Bool.{eqb-true}
use Rattle.std.proofs.lemmas.Simd.{run_in_chunk_stops}
use Rattle.lines.proofs.Spaces.{none-before}
use Rattle.lines.proofs.space.first_space.Goals as goal

pub returns-then-before-lt-LANES : goal.returns-then-before-lt-LANES
returns-then-before-lt-LANES c =
    let bytes = c.args.bytes.now in
    let seen = c.loop-seen.seen in
    let before = c.before_space-before.result in
    let counted = c.before_space-before.ensures in
    let room : seen + 8 ≤ length bytes = omega arith in (
      omega arith,
      eqb-true _ _ (run_in_chunk_stops (λ b. b == 32) bytes seen 8 before 0 room counted (omega arith)),
      none-before bytes seen 8 before c.loop-seen.invariant.1 room counted,
    )

pub loop-seen-preserved : goal.loop-seen-preserved
loop-seen-preserved c =
    let bytes = c.args.bytes.now in
    let seen = c.loop-seen.seen in
    let room : seen + 8 ≤ length bytes = omega arith in
    (room, λ k below. none-before bytes seen 8 c.before_space-before.result c.loop-seen.invariant.1 room c.before_space-before.ensures k (omega arith))
