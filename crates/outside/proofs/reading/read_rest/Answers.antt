use Rattle.std.proofs.Common.{◌≡◌, rules, true, false, cond, List, ℕ, ◌++◌, take, drop, length, Result, Ok, Err, ap, sym, ◌∙◌, arith, length-append, length-take}
use Rattle.std.proofs.lemmas.List.{take-append-le}
use Rattle.std.specs.Result.{is_ok, is_err}
use Rattle.std.proofs.KnownBytes.{Consumes-trans}
use Rattle.outside.proofs.reading.read_rest.Goals as goal

-- what was put behind others stands there
extended : {T E : Type 0} (r : Result T E) (old more new : List ℕ) → is_err r ≡ false → new ≡ cond (is_ok r) (old ++ more) old → new ≡ old ++ more
extended (Ok x) old more new well is = is
extended (Err e) old more new well is = absurd (let no : true ≡ false = well in cc)

pub loop-buf-preserved : goal.loop-buf-preserved
loop-buf-preserved g c =
    let so_far = c.loop-buf.bytes.items in
    let more = take c.in-Ok.count c.read_piece.new.buf in
    let gives = c.in-Ok.ensures.gives in
    let given = c.read_piece.ensures in
    let before = c.loop-buf.invariant in
    let behind = drop c.min-room.result c.loop-buf.buf in
    let items = extended c.extend_from_slice.result so_far _ c.extend_from_slice.new.self.items (sym c.is_err.ensures.value ∙ c.if-is_err.false) c.extend_from_slice.ensures.items
    ∙ ap (λ front. so_far ++ front) (take-append-le c.in-Ok.count c.read_piece.new.buf behind gives.0) in
    record {
      stays = record { files = given.stays.files ∙ before.stays.files; may_fail = given.stays.may_fail ∙ before.stays.may_fail; faults = omega (arith, before.stays.faults, given.stays.faults) };
      opens = given.opens ∙ before.opens;
      no_fault = gives.3 ∙ before.no_fault;
      mark = given.mark ∙ before.mark;
      turn = given.turn ∙ before.turn;
      read = rw items (Consumes-trans _ _ _ so_far more before.read gives.1);
      short = omega (arith, c.extend_from_slice.new.self.ok.0, ap length items, length-append so_far more, length-take c.in-Ok.count c.read_piece.new.buf, length-take c.min-room.result c.loop-buf.buf);
    }

pub returns-then-is_err-clause-left : goal.returns-then-is_err-clause-left
returns-then-is_err-clause-left g c =
    let so_far = c.loop-buf.bytes.items in
    let more = take c.in-Ok.count c.read_piece.new.buf in
    let gives = c.in-Ok.ensures.gives in (
      so_far ++ more,
      omega (arith, length-append so_far more, length-take c.in-Ok.count c.read_piece.new.buf, length-take c.min-room.result c.loop-buf.buf),
      Consumes-trans _ _ _ so_far more c.loop-buf.invariant.read gives.1,
    )

pub returns-clause-at_end : goal.returns-clause-at_end
returns-clause-at_end g c = search rules
