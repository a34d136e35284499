use Rattle.std.proofs.Common.{◌≡◌, ◌≢◌, ℕ, true, false, sym, ap, ◌∙◌, arith, inl, inr}
use Rattle.std.proofs.lemmas.Bool.{cases_eq, eq-eqb, ne_eqb}
use Rattle.invariants.specs.Monitors.{is_bad}
use Rattle.bit_rows.specs.Tables.{HasShape}
use Rattle.labelling.specs.Layout.{is_on, bad_row, first_row, row_count}
use Rattle.labelling.specs.Phases.{first_phase}
use Rattle.labelling.proofs.Marking.{put_here, put_row, put_other, marked_more, moves_off}
use Rattle.labelling.proofs.marks.mark.Goals as goal

pub loop-phase-init : goal.loop-phase-init
loop-phase-init c =
    let n : ℕ = row_count c.args.bound in
    let old = c.args.rows.now in
    let new = c.put.new.self in
    let k = c.args.k in
    let row = c.first_row.result in
    let at : row ≡ first_row (first_phase c.args.inv) = c.first_row.ensures.value ∙ ap (λ (x : ℕ). first_row x) c.first_phase.ensures.value in
    let others : (r : ℕ) → r ≢ row → is_on new r k ≡ false = λ r ne. put_row old new row r k k true c.put.ensures.rows ne ∙ c.requires.blank r in
    record {
      shape = λ a b s. c.put.ensures.shape a b s;
      bad = λ s none. absurd (omega (arith, none));
      off = λ s above low. others (bad_row s) (λ e. absurd (omega (arith, low, e, c.first_row.ensures.within)));
      first = λ s low. elim (cases_eq (first_phase c.args.inv) s) [
        | inl same ↦
            ap (λ (x : ℕ). is_on new x k) (sym (at ∙ ap (λ (x : ℕ). first_row x) same))
            ∙ put_here old new n c.args.count row k true c.requires.shape (omega (arith, c.first_row.ensures.within)) c.requires.number c.put.ensures.rows
            ∙ sym (eq-eqb (first_phase c.args.inv) s same)
        | inr ne ↦ others (first_row s) (λ e. absurd (omega (arith, e, at, ne))) ∙ sym (ne_eqb (first_phase c.args.inv) s ne)
      ];
      moves = λ r above. others r (λ e. absurd (omega (arith, above, e, c.first_row.ensures.within)));
      free = λ r f.
          others r (λ e. elim f [ inl low ↦ omega (arith, low, e, c.first_row.ensures.within) | inr there ↦ omega (arith, there, e, c.first_row.ensures.within) ]);
      others = λ r j ne. put_other old new n c.args.count row r j k true c.requires.shape (omega (arith, c.first_row.ensures.within)) c.requires.number c.put.ensures.rows ne;
    }

pub loop-phase-preserved : goal.loop-phase-preserved
loop-phase-preserved c =
    let n : ℕ = row_count c.args.bound in
    let old = c.loop-phase.rows in
    let new = c.turn_on.new.rows in
    let k = c.args.k in
    let row = c.bad_row.result in
    let on = c.bad.result in
    let is = c.turn_on.ensures.rows in
    let i = c.loop-phase.invariant in
    let h : HasShape old n c.args.count = i.shape n c.args.count c.requires.shape in
    let at : row ≡ bad_row c.loop-phase.phase = c.bad_row.ensures.value in
    record {
      shape = λ a b s. c.turn_on.ensures.shape a b (i.shape a b s);
      bad = λ s below. elim (cases_eq s c.loop-phase.phase) [
        | inl same ↦
            ap (λ (x : ℕ). is_on new (bad_row x) k) same ∙ ap (λ (x : ℕ). is_on new x k) (sym at)
            ∙ put_here old new n c.args.count row k on h (omega (arith, at)) c.requires.number is ∙ c.bad.ensures ∙ ap (λ (x : ℕ). is_bad c.args.inv x) (sym same)
        | inr ne ↦ put_row old new row (bad_row s) k k on is (λ e. absurd (omega (arith, e, at, ne))) ∙ i.bad s (omega (arith, below, ne))
      ];
      off = λ s above low. put_row old new row (bad_row s) k k on is (λ e. absurd (omega (arith, above, e, at))) ∙ i.off s (omega (arith, above)) low;
      first = λ s below. put_row old new row (first_row s) k k on is (λ e. absurd (omega (arith, e, at))) ∙ i.first s below;
      moves = λ r above. put_row old new row r k k on is (λ e. absurd (omega (arith, above, e, at))) ∙ i.moves r above;
      free = λ r f. put_row old new row r k k on is (λ e. elim f [ inl low ↦ omega (arith, low, e, at) | inr there ↦ omega (arith, there, e, at) ]) ∙ i.free r f;
      others = λ r j ne. put_other old new n c.args.count row r j k on h (omega (arith, at)) c.requires.number is ne ∙ i.others r j ne;
    }

pub mark_moves-requires-clause-shape : goal.mark_moves-requires-clause-shape
mark_moves-requires-clause-shape c = (row_count c.args.bound, omega (arith, c.requires.named), c.loop-phase.invariant.shape _ _ c.requires.shape)

pub mark_moves-requires-2-clause-shape : goal.mark_moves-requires-2-clause-shape
mark_moves-requires-2-clause-shape c = (row_count c.args.bound, omega (arith, c.requires.named), c.mark_moves.ensures.shape _ _ (c.loop-phase.invariant.shape _ _ c.requires.shape))

pub mark_moves-requires-2-clause-off : goal.mark_moves-requires-2-clause-off
mark_moves-requires-2-clause-off c m low is_off =
    let a = c.mark_moves.ensures in
    moves_off c.loop-phase.rows c.mark_moves.new.rows c.args.inv.b c.args.inv.a c.args.k m c.args.inv c.loop-phase.invariant.moves a.moves a.others low is_off

pub returns : goal.returns
returns c =
    let i = c.loop-phase.invariant in
    let a = c.mark_moves.ensures in
    let b = c.mark_moves-2.ensures in
    record {
      shape = λ x y s. b.shape x y (a.shape x y (i.shape x y s));
      marked = marked_more c.args.bound c.loop-phase.rows c.mark_moves.new.rows c.mark_moves-2.new.rows c.args.k c.args.inv (λ s low. i.bad s (omega arith)) i.first i.moves a.moves a.others b.moves b.others;
      free = λ r f.
          (elim f [ inl low ↦ b.others r c.args.k (inr (inr (omega (arith, low, c.requires.named)))) ∙ a.others r c.args.k (inr (inr (omega (arith, low, c.requires.named)))) | inr at ↦ b.others r c.args.k (inr (inl (omega (arith, at)))) ∙ a.others r c.args.k (inr (inl (omega (arith, at)))) ])
          ∙ i.free r f;
      others = λ r j ne. b.others r j (inl ne) ∙ a.others r j (inl ne) ∙ i.others r j ne;
    }

pub turn_on-requires-clause-off : goal.turn_on-requires-clause-off
turn_on-requires-clause-off c is_off =
    ap (λ (r : ℕ). is_on c.loop-phase.rows r c.args.k) c.bad_row.ensures.value ∙ c.loop-phase.invariant.off c.loop-phase.phase (omega arith) (omega arith)

pub turn_on-requires-clause-place : goal.turn_on-requires-clause-place
turn_on-requires-clause-place c =
    let n : ℕ = row_count c.args.bound in
    let h : HasShape c.loop-phase.rows n c.args.count = c.loop-phase.invariant.shape n c.args.count c.requires.shape in
    omega (arith, h.long c.bad_row.result (omega (arith, c.bad_row.ensures.within)))

pub turn_on-requires-clause-row : goal.turn_on-requires-clause-row
turn_on-requires-clause-row c =
    let h : HasShape c.loop-phase.rows (row_count c.args.bound) c.args.count = c.loop-phase.invariant.shape _ _ c.requires.shape in
    omega (arith, h.count, c.bad_row.ensures.within)
