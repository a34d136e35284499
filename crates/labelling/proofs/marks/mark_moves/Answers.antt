use Rattle.std.proofs.Common.{◌≡◌, ◌≤◌, ◌+◌, ◌*◌, ℕ, refl, sym, ap, ◌∙◌, arith}
use Rattle.bit_rows.specs.Tables.{HasShape}
use Rattle.labelling.specs.declared.layout.TheConstants.{MOVES, MOVE_ROWS}
use Rattle.labelling.specs.Layout.{is_on, moves_row}
use Rattle.labelling.proofs.Marking.{put_row, moves_more, moves_apart}
use Rattle.labelling.proofs.marks.mark_moves.Goals as goal

pub loop-place-init : goal.loop-place-init
loop-place-init c = record {
  shape = λ n bits h. h;
  moves = λ m none. absurd (omega (arith, none));
  off = λ m above low is_off. c.requires.off m low is_off;
  others = λ r j apart. refl;
}

pub turn_on-requires-clause-row : goal.turn_on-requires-clause-row
turn_on-requires-clause-row c =
    let n = c.requires.shape.0 in
    let h : HasShape c.loop-place.rows n c.args.count = c.loop-place.invariant.shape n c.args.count c.requires.shape.2 in
    let le : MOVE_ROWS + (c.args.typ + 1) * MOVES ≤ n = c.requires.shape.1 in
    omega (arith, h.count, le, c.moves_row.ensures.within, c.from.ensures)

pub turn_on-requires-clause-place : goal.turn_on-requires-clause-place
turn_on-requires-clause-place c =
    let n = c.requires.shape.0 in
    let h : HasShape c.loop-place.rows n c.args.count = c.loop-place.invariant.shape n c.args.count c.requires.shape.2 in
    let le : MOVE_ROWS + (c.args.typ + 1) * MOVES ≤ n = c.requires.shape.1 in
    omega (arith, h.long (c.moves_row.result + c.loop-place.place) (omega (arith, le, c.moves_row.ensures.within, c.from.ensures)))

pub turn_on-requires-clause-off : goal.turn_on-requires-clause-off
turn_on-requires-clause-off c is_off =
    let at : c.moves_row.result + c.loop-place.place ≡ moves_row c.args.typ + c.loop-place.place = ap (λ (x : ℕ). x + c.loop-place.place) (c.moves_row.ensures.value ∙ ap (λ (x : ℕ). moves_row x) c.from.ensures) in
    ap (λ (r : ℕ). is_on c.loop-place.rows r c.args.k) at
    ∙ c.loop-place.invariant.off c.loop-place.place (omega arith) (omega arith) (sym (c.moves_at-moves.ensures c.loop-place.place _ (omega arith)) ∙ is_off)

pub loop-place-preserved : goal.loop-place-preserved
loop-place-preserved c =
    let n = c.requires.shape.0 in
    let i = c.loop-place.invariant in
    let old = c.loop-place.rows in
    let new = c.turn_on.new.rows in
    let x = c.args.typ in
    let k = c.args.k in
    let row : ℕ = c.moves_row.result + c.loop-place.place in
    let h : HasShape old n c.args.count = i.shape n c.args.count c.requires.shape.2 in
    let at : row ≡ moves_row x + c.loop-place.place = ap (λ (y : ℕ). y + c.loop-place.place) (c.moves_row.ensures.value ∙ ap (λ (y : ℕ). moves_row y) c.from.ensures) in
    let is = c.turn_on.ensures.rows in
    record {
      shape = λ a b s. c.turn_on.ensures.shape a b (i.shape a b s);
      moves = moves_more old new n c.args.count x k c.loop-place.place row c.args.inv _ h c.requires.shape.1 c.requires.number (omega arith) at (c.moves_at-moves.ensures c.loop-place.place _ (omega arith)) is i.moves;
      off = λ m above low is_off. put_row old new row (moves_row x + m) k k _ is (λ e. absurd (omega (arith, e, at, above))) ∙ i.off m (omega (arith, above)) low is_off;
      others = λ r j apart. moves_apart old new n c.args.count x k c.loop-place.place row _ h c.requires.shape.1 c.requires.number (omega arith) at is r j apart ∙ i.others r j apart;
    }

pub returns-clause-shape : goal.returns-clause-shape
returns-clause-shape c = c.loop-place.invariant.shape

pub returns-clause-moves : goal.returns-clause-moves
returns-clause-moves c = λ m below. c.loop-place.invariant.moves m (omega arith)

pub returns-clause-others : goal.returns-clause-others
returns-clause-others c = c.loop-place.invariant.others
