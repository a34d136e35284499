use Rattle.std.proofs.Common.{◌+◌, ℕ, List, ◌∷◌, arith, sym, ap, ◌∙◌, take}
use Rattle.lines.specs.Lines.{pieces}
use Rattle.lines.proofs.Cuts.{pieces-cut, pieces-last, rest_is, first-feed, no-feed}
use Rattle.lines.proofs.pieces.next_piece.Goals as goal

pub returns-in-Some-clause-pieces : goal.returns-in-Some-clause-pieces
returns-in-Some-clause-pieces c =
    let bytes = c.args.bytes.now in
    let end = c.in-Some.end in
    pieces-cut bytes end (first-feed bytes end c.in-Some.ensures) (omega (arith, c.in-Some.ensures.0.high))
    ∙ ap (λ (rest : List ℕ). take end bytes ∷ pieces rest) (sym (rest_is (end + 1) bytes))

pub returns-in-None-clause-pieces : goal.returns-in-None-clause-pieces
returns-in-None-clause-pieces c = pieces-last c.args.bytes.now (no-feed c.args.bytes.now c.in-None.ensures) (omega arith)
