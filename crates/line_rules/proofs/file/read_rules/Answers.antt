use Rattle.std.proofs.Common.{◌≡◌, ◌∙◌, ◌+◌, ℕ, List, false, refl, arith, subst, map}
use Rattle.std.proofs.lemmas.Result.{err_from_is_err_and}
use Rattle.lines.specs.Lines.{line_of}
use Rattle.line_rules.specs.Patterns.{PatternsState}
use Rattle.line_rules.specs.Rules as spec
use Rattle.line_rules.specs.Files.{is_skipped}
use Rattle.line_rules.specs.Building.{AddsLine, IsLineRefused}
use Rattle.line_rules.specs.Views.{rule_view}
use Rattle.line_rules.proofs.Lines.{begin, step, refuse, stays-on, count-on}
use Rattle.line_rules.proofs.file.read_rules.Goals as goal

pub loop-rest-init : goal.loop-rest-init
loop-rest-init g c = record {
  counted = omega arith;
  few = omega arith;
  stays = record { may_refuse = refl; refusals = omega arith };
  count = refl;
  read = rw c.new-rules.ensures.items (begin c.args.bytes.now);
}

pub loop-rest-preserved : goal.loop-rest-preserved
loop-rest-preserved g c =
    let l = c.loop-rest in
    let state = g.P.Patterns.state in
    let rs : List spec.Rule = map rule_view l.rules.items in
    let new : List spec.Rule = map rule_view c.add_line.new.rules.items in
    let adds : AddsLine (l.number + 1) (line_of c.next_piece.result.0.now) rs new =
    subst (λ (t : List ℕ). AddsLine (l.number + 1) t rs new) c.without_return.ensures c.in_ok-add_line.ensures.ok in
    record {
      counted = omega arith;
      few = c.add_line.ensures.few;
      stays = stays-on (state c.args.patterns.now) (state l.patterns) (state c.add_line.new.patterns) l.invariant.stays c.add_line.ensures.stays;
      count = c.in_ok-add_line.ensures.count ∙ l.invariant.count;
      read = step c.args.bytes.now l.number l.rest.now c.next_piece.result.0.now c.next_piece.result.1.now rs new l.invariant.read c.next_piece.ensures.pieces adds;
    }

pub returns-in_err-add_line-clause-err : goal.returns-in_err-add_line-clause-err
returns-in_err-add_line-clause-err g c =
    let l = c.loop-rest in
    let state = g.P.Patterns.state in
    let mid : PatternsState = state l.patterns in
    let new : PatternsState = state c.add_line.new.patterns in
    let rs : List spec.Rule = map rule_view l.rules.items in
    let fault = c.in_err-add_line.field-0.0 in
    let p = err_from_is_err_and c.from_residual.result c.from_residual.ensures.1 in
    let piece : List ℕ = c.next_piece.result.0.now in
    let counts : is_skipped (line_of piece) ≡ false = subst (λ (t : List ℕ). is_skipped t ≡ false) c.without_return.ensures c.in_err-add_line.ensures.not_skipped in
    let refused : IsLineRefused mid new rs (l.number + 1) (line_of piece) fault =
    subst (λ (t : List ℕ). IsLineRefused mid new rs (l.number + 1) t fault) c.without_return.ensures c.in_err-add_line.ensures.err in
    rw (p.1, p.2) (refuse c.args.bytes.now l.number l.rest.now piece c.next_piece.result.1.now rs (state c.args.patterns.now) mid new fault c.requires l.invariant.read c.next_piece.ensures.pieces counts l.invariant.stays refused)

pub returns-in_err-add_line-clause-count : goal.returns-in_err-add_line-clause-count
returns-in_err-add_line-clause-count g c =
    let state = g.P.Patterns.state in
    let p = err_from_is_err_and c.from_residual.result c.from_residual.ensures.1 in
    rw (p.1, p.2) (count-on (state c.args.patterns.now) (state c.loop-rest.patterns) (state c.add_line.new.patterns) c.in_err-add_line.field-0.0 c.loop-rest.invariant.count c.in_err-add_line.ensures.count)
