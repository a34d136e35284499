use Rattle.std.proofs.Common.{◌≡◌, ◌<◌, ◌+◌, ◌-◌, ◌*◌, ℕ, List, map, eqb, length, arith, ap, ◌∙◌}
use Rattle.std.specs.List.{count_by, sum_by}
use Rattle.invariants.specs.Holds.{occurs}
use Rattle.traces.specs.Words.{Trace, word_of}
use Rattle.count_miner.specs.Counts.{followed_count}
use Rattle.count_miner.proofs.Rows.{row-place}
use Rattle.count_miner.proofs.Sums.{any-default, first-holds, last-events, same-part, told-first}
use Rattle.count_miner.proofs.counts.Counts.holds_first.Goals as goal

pub returns : goal.returns
returns c = λ traces counted.
    let types = c.args.self.now.types in
    let b = c.args.inv.b - 2 in
    let words : List (List ℕ) = map (λ (trace : Trace). trace.events) traces in
    let in_b : b < types = omega (arith, c.requires.first.b_low, c.requires.first.b_high) in
    let second : b + 2 ≡ c.args.inv.b = omega (arith, c.requires.first.b_low) in
    let followed : ℕ = sum_by (followed_count (b + 2) (b + 2)) words in
    let having : ℕ = count_by (λ w. occurs (b + 2) w) words in
    let left : c.index-followed.result.now ≡ followed =
    c.index-followed.ensures
    ∙ (any-default c.args.self.now.followed.items (b * types + b) c.index-followed.result.now (omega (arith, row-place types b b in_b in_b, c.args.self.now.followed_square)) ∙ counted.followed b b in_b in_b) in
    let right : c.index.result.now ≡ followed + having =
    c.index.ensures
    ∙ (any-default c.args.self.now.occurring.items b c.index.result.now (omega (arith, in_b, c.args.self.now.occurring_row)) ∙ (counted.occurring b in_b ∙ last-events (b + 2) words)) in
    ap (λ n. eqb n c.from-3.result) (omega (arith, c.from.ensures, left, c.from-2.ensures, counted.traces))
    ∙ (ap (eqb (followed + length words)) (c.from-3.ensures ∙ right)
    ∙ (same-part followed (length words) having
    ∙ (first-holds (b + 2) (omega arith) traces counted.inner
    ∙ told-first c.args.inv b c.requires.first.kind c.requires.first.a second (map word_of traces))))
