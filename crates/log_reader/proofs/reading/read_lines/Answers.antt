use Rattle.std.proofs.Common.{rules, arith, ◌≡◌, ◌+◌, ℕ, List, length, take, Option, Bool, true, false, Result, Ok, Err, [], refl, sym, ap, ◌∙◌, subst, inl, inr}
use Rattle.std.specs.Prelude.{IfSome}
use Rattle.std.specs.Str.{IsAscii}
use Rattle.std.proofs.lemmas.Result.{err_from_is_err_and}
use Rattle.log_reader.specs.LineReader.{SeenLines, NextGives, GivesLine, GivesNone, FailsToRead, RefusesPiece}
use Rattle.log_reader.specs.Reading.{at_line}
use Rattle.log_reader.specs.Taking.{RefusesLineOf, TakesLineOf}
use Rattle.log_reader.specs.declared.line_error.LineError.{LineError}
use Rattle.log_reader.specs.declared.line_error.LineError.TheVariants.{ReadFault, TooLong, InputLimit}
use Rattle.log_reader.specs.declared.refusal.ReadError.{ReadError}
use Rattle.log_reader.specs.declared.refusal.ReadError.TheVariants as refused
use Rattle.log_reader.proofs.LineByLine.{reading-begins, reading-more, reading-ends, reading-ends-in-line, reading-refused, reading-refused-at, reading-fails, front-lost}
use Rattle.log_reader.proofs.reading.read_lines.Goals as goal

pub lines-init : goal.lines-init
lines-init g c =
    reading-begins c.args.number (g.I.Inputs.state c.args.inputs.now) c.args.lines.now (g.T.TakeLines.seen c.args.reader.now) c.requires.ready c.requires.between.nothing c.requires.first c.requires.between.refused c.requires.between.taken

pub returns-in-Ok-false-clause-ok : goal.returns-in-Ok-false-clause-ok
returns-in-Ok-false-clause-ok g c =
    let before = g.I.Inputs.state c.lines.inputs in
    let after = g.I.Inputs.state c.next.new.inputs in
    let is : ◌≡◌ {A = Result Bool LineError} c.next.result (Ok false) = cc (c.in-Ok-false.is) in
    let none : GivesNone c.lines.lines c.next.new.self before after = subst (λ r. NextGives c.lines.lines before r c.next.new.self after) is c.next.ensures.gives in
    reading-ends c.args.number (g.I.Inputs.state c.args.inputs.now) before after c.args.lines.now c.lines.lines c.next.new.self (g.T.TakeLines.seen c.args.reader.now) (g.T.TakeLines.seen c.lines.reader) c.lines.invariant none

pub returns-in-Err-ReadFault-clause-err : goal.returns-in-Err-ReadFault-clause-err
returns-in-Err-ReadFault-clause-err g c =
    let before = g.I.Inputs.state c.lines.inputs in
    let after = g.I.Inputs.state c.next.new.inputs in
    let is : ◌≡◌ {A = Result Bool LineError} c.next.result (Err ReadFault) = cc (c.in-Err-ReadFault.is, c.in-Err-ReadFault.field-0-is) in
    let fails : FailsToRead c.lines.lines c.next.new.self before after = subst (λ r. NextGives c.lines.lines before r c.next.new.self after) is c.next.ensures.gives in
    inl (reading-fails c.args.number (g.I.Inputs.state c.args.inputs.now) before after c.args.lines.now c.lines.lines c.next.new.self (g.T.TakeLines.seen c.args.reader.now) (g.T.TakeLines.seen c.lines.reader) (refused.ReadFault c.args.number) c.lines.invariant fails refl)

pub returns-in-Err-ReadFault-clause-memory : goal.returns-in-Err-ReadFault-clause-memory
returns-in-Err-ReadFault-clause-memory g c = search rules

pub returns-in-Err-TooLong-clause-err : goal.returns-in-Err-TooLong-clause-err
returns-in-Err-TooLong-clause-err g c =
    let before = g.I.Inputs.state c.lines.inputs in
    let after = g.I.Inputs.state c.next.new.inputs in
    let is : ◌≡◌ {A = Result Bool LineError} c.next.result (Err TooLong) = cc (c.in-Err-TooLong.is, c.in-Err-TooLong.field-0-is) in
    let refuses : RefusesPiece c.lines.lines c.next.new.self before after TooLong = subst (λ r. NextGives c.lines.lines before r c.next.new.self after) is c.next.ensures.gives in
    let number : c.number-line.result ≡ c.lines.lines.number = c.number-line.ensures ∙ ap (λ (s : SeenLines). s.number) refuses.leaves in
    inr (reading-refused c.args.number (g.I.Inputs.state c.args.inputs.now) before after c.args.lines.now c.lines.lines c.next.new.self (g.T.TakeLines.seen c.args.reader.now) (g.T.TakeLines.seen c.lines.reader) TooLong _ c.lines.invariant refuses
    (ap (λ k. refused.LineTooLong (at_line c.args.number (k + 1))) number))

pub returns-in-Err-InputLimit-clause-err : goal.returns-in-Err-InputLimit-clause-err
returns-in-Err-InputLimit-clause-err g c =
    let before = g.I.Inputs.state c.lines.inputs in
    let after = g.I.Inputs.state c.next.new.inputs in
    let is : ◌≡◌ {A = Result Bool LineError} c.next.result (Err InputLimit) = cc (c.in-Err-InputLimit.is, c.in-Err-InputLimit.field-0-is) in
    let refuses : RefusesPiece c.lines.lines c.next.new.self before after InputLimit = subst (λ r. NextGives c.lines.lines before r c.next.new.self after) is c.next.ensures.gives in
    inr (reading-refused c.args.number (g.I.Inputs.state c.args.inputs.now) before after c.args.lines.now c.lines.lines c.next.new.self (g.T.TakeLines.seen c.args.reader.now) (g.T.TakeLines.seen c.lines.reader) InputLimit refused.InputLimit c.lines.invariant refuses refl)

pub take_line-requires-clause-ready : goal.take_line-requires-clause-ready
take_line-requires-clause-ready g c = (c.lines.invariant.way false [] refl).ready

pub returns-in_err-take_line-clause-err : goal.returns-in_err-take_line-clause-err
returns-in_err-take_line-clause-err g c =
    let before = g.I.Inputs.state c.lines.inputs in
    let after = g.I.Inputs.state c.next.new.inputs in
    let reader = (g.T.TakeLines.seen c.lines.reader) in
    let is : ◌≡◌ {A = Result Bool LineError} c.next.result (Ok true) = cc (c.in-Ok-true.is) in
    let gives : GivesLine c.lines.lines c.next.new.self before after = subst (λ r. NextGives c.lines.lines before r c.next.new.self after) is c.next.ensures.gives in
    let p = err_from_is_err_and c.from_residual.result c.from_residual.ensures.1 in
    let at_number = λ (e : ReadError). subst (λ k. RefusesLineOf (at_line c.args.number k) c.line.result.now reader e) c.number.ensures in
    rw (p.1, p.2) (inr (reading-refused-at c.args.number (g.I.Inputs.state c.args.inputs.now) before after c.args.lines.now c.lines.lines c.next.new.self (g.T.TakeLines.seen c.args.reader.now) reader c.line.result.now _ c.lines.invariant gives
    c.next.ensures.taken c.line.ensures
    (at_number _ c.in_err-take_line.ensures.err)))

pub returns-then-not-ends_with_feed-clause-ok : goal.returns-then-not-ends_with_feed-clause-ok
returns-then-not-ends_with_feed-clause-ok g c =
    let before = g.I.Inputs.state c.lines.inputs in
    let after = g.I.Inputs.state c.next.new.inputs in
    let reader = (g.T.TakeLines.seen c.lines.reader) in
    let is : ◌≡◌ {A = Result Bool LineError} c.next.result (Ok true) = cc (c.in-Ok-true.is) in
    let gives : GivesLine c.lines.lines c.next.new.self before after = subst (λ r. NextGives c.lines.lines before r c.next.new.self after) is c.next.ensures.gives in
    let unfed : c.next.new.self.fed ≡ false = sym c.ends_with_feed.ensures ∙ c.if-not-ends_with_feed.true in
    reading-ends-in-line c.args.number (g.I.Inputs.state c.args.inputs.now) before after c.args.lines.now c.lines.lines c.next.new.self (g.T.TakeLines.seen c.args.reader.now) reader (g.T.TakeLines.seen c.take_line.new.self) c.line.result.now c.lines.invariant gives
    c.next.ensures.taken c.line.ensures unfed
    (subst (λ k. TakesLineOf (at_line c.args.number k) c.line.result.now reader (g.T.TakeLines.seen c.take_line.new.self)) c.number.ensures c.in_ok-take_line.ensures.ok)

pub lines-preserved : goal.lines-preserved
lines-preserved g c =
    let before = g.I.Inputs.state c.lines.inputs in
    let after = g.I.Inputs.state c.next.new.inputs in
    let reader = (g.T.TakeLines.seen c.lines.reader) in
    let is : ◌≡◌ {A = Result Bool LineError} c.next.result (Ok true) = cc (c.in-Ok-true.is) in
    let gives : GivesLine c.lines.lines c.next.new.self before after = subst (λ r. NextGives c.lines.lines before r c.next.new.self after) is c.next.ensures.gives in
    let fed : c.next.new.self.fed ≡ true = sym c.ends_with_feed.ensures ∙ c.if-not-ends_with_feed.false in
    reading-more c.args.number (g.I.Inputs.state c.args.inputs.now) before after c.args.lines.now c.lines.lines c.next.new.self (g.T.TakeLines.seen c.args.reader.now) reader (g.T.TakeLines.seen c.take_line.new.self) c.line.result.now c.lines.invariant
    c.next.ensures.stays c.next.ensures.opens c.next.ensures.turn c.next.ensures.mark gives c.next.ensures.taken c.line.ensures fed
    (subst (λ k. TakesLineOf (at_line c.args.number k) c.line.result.now reader (g.T.TakeLines.seen c.take_line.new.self)) c.number.ensures c.in_ok-take_line.ensures.ok)

pub returns-in-Ok-false-clause-left : goal.returns-in-Ok-false-clause-left
returns-in-Ok-false-clause-left g c =
    front-lost c.args.number (g.I.Inputs.state c.args.inputs.now) (g.I.Inputs.state c.lines.inputs) (g.I.Inputs.state c.next.new.inputs) c.args.lines.now c.lines.lines c.next.new.self (g.T.TakeLines.seen c.args.reader.now) (g.T.TakeLines.seen c.lines.reader) c.next.result
    c.lines.invariant c.next.ensures.within c.next.ensures.gives

pub returns-in-Err-ReadFault-clause-left : goal.returns-in-Err-ReadFault-clause-left
returns-in-Err-ReadFault-clause-left g c =
    front-lost c.args.number (g.I.Inputs.state c.args.inputs.now) (g.I.Inputs.state c.lines.inputs) (g.I.Inputs.state c.next.new.inputs) c.args.lines.now c.lines.lines c.next.new.self (g.T.TakeLines.seen c.args.reader.now) (g.T.TakeLines.seen c.lines.reader) c.next.result
    c.lines.invariant c.next.ensures.within c.next.ensures.gives

pub returns-in-Err-TooLong-clause-left : goal.returns-in-Err-TooLong-clause-left
returns-in-Err-TooLong-clause-left g c =
    front-lost c.args.number (g.I.Inputs.state c.args.inputs.now) (g.I.Inputs.state c.lines.inputs) (g.I.Inputs.state c.next.new.inputs) c.args.lines.now c.lines.lines c.next.new.self (g.T.TakeLines.seen c.args.reader.now) (g.T.TakeLines.seen c.lines.reader) c.next.result
    c.lines.invariant c.next.ensures.within c.next.ensures.gives

pub returns-in-Err-InputLimit-clause-left : goal.returns-in-Err-InputLimit-clause-left
returns-in-Err-InputLimit-clause-left g c =
    front-lost c.args.number (g.I.Inputs.state c.args.inputs.now) (g.I.Inputs.state c.lines.inputs) (g.I.Inputs.state c.next.new.inputs) c.args.lines.now c.lines.lines c.next.new.self (g.T.TakeLines.seen c.args.reader.now) (g.T.TakeLines.seen c.lines.reader) c.next.result
    c.lines.invariant c.next.ensures.within c.next.ensures.gives

pub returns-in_err-take_line-clause-left : goal.returns-in_err-take_line-clause-left
returns-in_err-take_line-clause-left g c =
    front-lost c.args.number (g.I.Inputs.state c.args.inputs.now) (g.I.Inputs.state c.lines.inputs) (g.I.Inputs.state c.next.new.inputs) c.args.lines.now c.lines.lines c.next.new.self (g.T.TakeLines.seen c.args.reader.now) (g.T.TakeLines.seen c.lines.reader) c.next.result
    c.lines.invariant c.next.ensures.within c.next.ensures.gives

pub returns-then-not-ends_with_feed-clause-left : goal.returns-then-not-ends_with_feed-clause-left
returns-then-not-ends_with_feed-clause-left g c =
    front-lost c.args.number (g.I.Inputs.state c.args.inputs.now) (g.I.Inputs.state c.lines.inputs) (g.I.Inputs.state c.next.new.inputs) c.args.lines.now c.lines.lines c.next.new.self (g.T.TakeLines.seen c.args.reader.now) (g.T.TakeLines.seen c.lines.reader) c.next.result
    c.lines.invariant c.next.ensures.within c.next.ensures.gives

pub take_line-requires-clause-ascii : goal.take_line-requires-clause-ascii
take_line-requires-clause-ascii g c = λ known. subst (λ (o : Option (List ℕ)). IfSome o (λ line. IsAscii line)) c.line.ensures (c.is_known_ascii.ensures known)

pub take_line-requires-clause-begins : goal.take_line-requires-clause-begins
take_line-requires-clause-begins g c =
    subst (λ (o : Option (List ℕ)). IfSome o (λ line. take (length line) c.line_and_more.result.now ≡ line)) c.line.ensures c.line_and_more.ensures

pub take_line-requires-clause-room : goal.take_line-requires-clause-room
take_line-requires-clause-room g c = omega (arith, c.lines.invariant.few, c.lines.invariant.within, c.requires.few, c.requires.between.taken)

pub next-requires : goal.next-requires
next-requires g c = c.lines.invariant.refused

pub line-requires : goal.line-requires
line-requires g c =
    let before = g.I.Inputs.state c.lines.inputs in
    let after = g.I.Inputs.state c.next.new.inputs in
    let is : ◌≡◌ {A = Result Bool LineError} c.next.result (Ok true) = cc (c.in-Ok-true.is, c.in-Ok-true.field-0-is) in
    let given : GivesLine c.lines.lines c.next.new.self before after = subst (λ r. NextGives c.lines.lines before r c.next.new.self after) is c.next.ensures.gives in
    rw given.line refl

pub line_and_more-requires : goal.line_and_more-requires
line_and_more-requires g c =
    let before = g.I.Inputs.state c.lines.inputs in
    let after = g.I.Inputs.state c.next.new.inputs in
    let is : ◌≡◌ {A = Result Bool LineError} c.next.result (Ok true) = cc (c.in-Ok-true.is, c.in-Ok-true.field-0-is) in
    let given : GivesLine c.lines.lines c.next.new.self before after = subst (λ r. NextGives c.lines.lines before r c.next.new.self after) is c.next.ensures.gives in
    rw given.line refl
