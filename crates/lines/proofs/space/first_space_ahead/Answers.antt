use Rattle.std.proofs.Common.{◌≡◌, ◌+◌, ◌≤◌, ◌<◌, ◌==◌, sym, ap, ◌∙◌, arith, length, get_or}
use Rattle.std.proofs.lemmas.Bool.{eqb-true}
use Rattle.std.proofs.lemmas.Simd.{run_in_chunk_stops}
use Rattle.lines.proofs.Ahead.{byte-ahead}
use Rattle.lines.proofs.Spaces.{none-before}
use Rattle.lines.proofs.space.first_space_ahead.Goals as goal

pub returns-then-before-line : goal.returns-then-before-line
returns-then-before-line c =
    let line = c.args.line.now in
    let bytes = c.args.bytes.now in
    let before = c.before_space_of_more-before.result in
    let counted = c.before_space_of_more-before.ensures in
    let inside : before < length line = omega (arith, c.if-before-line.true) in
    let room : 0 + 16 ≤ length bytes = omega (arith, c.if-bytes-lt-MORE_LANES.false) in
    let from : before ≡ 0 + before = omega arith in
    let none = none-before bytes 0 16 before (λ k below. absurd (omega (arith, below))) room counted in (
      inside,
      byte-ahead line bytes before c.requires.begins inside
          ∙ (ap (λ k. get_or bytes k 0) from
          ∙ eqb-true _ _ (run_in_chunk_stops (λ b. b == 32) bytes 0 16 before 0 room counted (omega (arith, c.if-before-lt-MORE_LANES.true)))),
      λ k below is. none k (omega (arith, below)) (sym (byte-ahead line bytes k c.requires.begins (omega (arith, below, inside))) ∙ is),
    )
