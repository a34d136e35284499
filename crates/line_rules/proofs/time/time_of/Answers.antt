use Rattle.std.proofs.Common.{arith, ap, ap₂, ◌∙◌, ◌+◌, ◌*◌, ◌^◌, Some, None}
use Rattle.line_rules.specs.Times.{billionths, time_of}
use Rattle.line_rules.proofs.Times.{no-head, no-time, all-digits, with-point, rest-of-text, point-told, other-told}
use Rattle.line_rules.proofs.time.time_of.Goals as goal

pub returns-then-digits-eq0 : goal.returns-then-digits-eq0
returns-then-digits-eq0 c =
    let h = c.whole_head-number in
    no-head c.as_bytes-bytes.result.now h.result.0 h.result.1 h.ensures c.if-digits-eq0.true ∙ ap time_of c.as_bytes-bytes.ensures.value

pub returns-then-digits-bytes : goal.returns-then-digits-bytes
returns-then-digits-bytes c =
    let h = c.whole_head-number in
    ap (λ n. Some (n * 10 ^ 9)) c.from-whole.ensures
    ∙ (all-digits c.as_bytes-bytes.result.now h.result.0 h.result.1 h.ensures (omega (arith, c.if-digits-eq0.false)) c.if-digits-bytes.true ∙ ap time_of c.as_bytes-bytes.ensures.value)

pub returns-then-bytes-digits-ne46 : goal.returns-then-bytes-digits-ne46
returns-then-bytes-digits-ne46 c =
    let h = c.whole_head-number in
    no-time c.as_bytes-bytes.result.now h.result.0 h.result.1 h.ensures (omega (arith, h.ensures.within, c.if-digits-bytes.false)) (other-told _ c.if-bytes-digits-ne46.true)
    ∙ ap time_of c.as_bytes-bytes.ensures.value

pub returns-in-Some : goal.returns-in-Some
returns-in-Some c =
    let h = c.whole_head-number in
    let bytes = c.as_bytes-bytes.result.now in
    ap₂ (λ n f. Some (n * 10 ^ 9 + f)) c.from-whole.ensures c.from.ensures
    ∙ (with-point bytes h.result.0 h.result.1 (Some c.in-Some.part) h.ensures (omega (arith, c.if-digits-eq0.false)) (omega (arith, h.ensures.within, c.if-digits-bytes.false)) (point-told _ c.if-bytes-digits-ne46.false)
    (c.in-Some.ensures.value ∙ ap billionths (rest-of-text bytes h.result.1)) ∙ ap time_of c.as_bytes-bytes.ensures.value)

pub returns-in-None : goal.returns-in-None
returns-in-None c =
    let h = c.whole_head-number in
    let bytes = c.as_bytes-bytes.result.now in
    with-point bytes h.result.0 h.result.1 None h.ensures (omega (arith, c.if-digits-eq0.false)) (omega (arith, h.ensures.within, c.if-digits-bytes.false)) (point-told _ c.if-bytes-digits-ne46.false)
    (c.in-None.ensures.value ∙ ap billionths (rest-of-text bytes h.result.1)) ∙ ap time_of c.as_bytes-bytes.ensures.value
