use Rattle.std.proofs.Common.{rules, ◌≡◌, ◌+◌, ◌≤◌, true, false, length, ap, sym, ◌∙◌, subst, arith}
use Rattle.std.proofs.lemmas.Result.{err_from_is_err_and}
use Rattle.std.specs.List.{position_or_len}
use Rattle.lines.specs.Lines.{is_feed}
use Rattle.log_reader.specs.LineReader.{SeenLines}
use Rattle.log_reader.specs.declared.cut.Cut.{Cut}
use Rattle.log_reader.proofs.Buffered.{misses-end, searches-on, finds-feed, searches-without-line}
use Rattle.log_reader.proofs.line_reader.Lines.find_end.Goals as goal

pub loop-length-preserved : goal.loop-length-preserved
loop-length-preserved g c =
    let held = c.buffered-held.ensures.value in
    searches-on _ _ _ _ _ _ c.loop-length.searched (length c.buffered-held.result.now) c.in-Ok-true.field-0 c.loop-length.invariant c.fill.ensures.stays c.fill.ensures.mark c.fill.ensures.opens c.fill.ensures.turn c.in-Ok-true.ensures.gives
    (ap length held) (subst (λ bs. position_or_len is_feed bs ≡ length bs) held c.in_default.ensures.none)

pub returns-in_err-within_limits-clause-err : goal.returns-in_err-within_limits-clause-err
returns-in_err-within_limits-clause-err g c =
    let held = c.buffered-held.ensures.value in
    let now = c.loop-length.self in
    let taken : c.self.inside.taken ≡ now.taken = ap (λ (s : SeenLines). s.taken) c.self.view_is in
    let cut : Cut = record { length = c.in-Some.length; fed = true } in
    let inside : c.in-Some.length + 1 ≤ length now.buffered = omega (arith, c.in-Some.ensures.found, ap length held) in
    let p = err_from_is_err_and c.from_residual.result c.from_residual.ensures.1 in
    rw (p.1, p.2) (misses-end c.args.self.now now _ _ c.loop-length.searched c.self.inside.taken cut _ c.requires.line c.loop-length.invariant taken c.self.invariant.0.limit
    (omega (arith, taken, c.buffered-held.ensures.within, ap length held)) (c.in-Some.ensures.some ∙ ap (position_or_len is_feed) held) inside c.in_err-within_limits.ensures.err)

pub returns-in_err-whole-clause-err : goal.returns-in_err-whole-clause-err
returns-in_err-whole-clause-err g c =
    let held = c.buffered-held.ensures.value in
    let now = c.loop-length.self in
    let taken : c.self.inside.taken ≡ now.taken = ap (λ (s : SeenLines). s.taken) c.self.view_is in
    let cut : Cut = record { length = length c.buffered-held.result.now; fed = false } in
    let inside : length c.buffered-held.result.now + 0 ≤ length now.buffered = omega (arith, ap length held) in
    let p = err_from_is_err_and c.from_residual-in_err-whole.result c.from_residual-in_err-whole.ensures.1 in
    rw (p.1, p.2) (misses-end c.args.self.now now _ _ c.loop-length.searched c.self.inside.taken cut _ c.requires.line c.loop-length.invariant taken c.self.invariant.0.limit
    (omega (arith, taken, c.buffered-held.ensures.within, ap length held)) (sym c.in_default.ensures.none ∙ ap (position_or_len is_feed) held) inside c.in_err-whole.ensures.err)

pub returns-in-Ok-false-clause-ok : goal.returns-in-Ok-false-clause-ok
returns-in-Ok-false-clause-ok g c = search rules

pub returns-in-Some-clause-ok : goal.returns-in-Some-clause-ok
returns-in-Some-clause-ok g c =
    let held = c.buffered-held.ensures.value in
    let taken : c.self.inside.taken ≡ c.loop-length.self.taken = ap (λ (s : SeenLines). s.taken) c.self.view_is in
    finds-feed c.args.self.now c.loop-length.self _ _ c.loop-length.searched c.in-Some.length c.self.inside.taken c.in_ok-within_limits.field-0 c.loop-length.invariant taken c.in_ok-within_limits.ensures.ok
    (c.in-Some.ensures.some ∙ ap (position_or_len is_feed) held) (omega (arith, c.in-Some.ensures.found, ap length held))

pub fill-requires-clause-line : goal.fill-requires-clause-line
fill-requires-clause-line g c = searches-without-line c.args.self.now c.loop-length.self _ _ c.loop-length.searched c.requires.line c.loop-length.invariant

pub fill-requires-clause-short : goal.fill-requires-clause-short
fill-requires-clause-short g c = omega (arith, c.in_ok-whole.ensures.ok.1.short, ap length c.buffered-held.ensures.value)

pub fill-requires-clause-within : goal.fill-requires-clause-within
fill-requires-clause-within g c =
    let taken : c.self.inside.taken ≡ c.loop-length.self.taken = ap (λ (s : SeenLines). s.taken) c.self.view_is in
    omega (arith, taken, c.in_ok-whole.ensures.ok.1.within, ap length c.buffered-held.ensures.value)
