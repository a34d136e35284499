use Rattle.std.proofs.Common.{◌≡◌, ℕ, ◌+◌, ◌&&◌, ◌||◌, Bool, false, eqb, get_or, arith, ap, sym, ◌∙◌}
use Rattle.std.proofs.Math.Dec.{ltb}
use Rattle.std.proofs.lemmas.Bool.{ne_eqb}
use Rattle.closure_miner.specs.Rows.{in_row}
use Rattle.closure_miner.specs.Sets.{has_at}
use Rattle.closure_miner.proofs.Rows.{all-kept, at-both, only-where}
use Rattle.closure_miner.proofs.between.strike_event.Goals as goal

-- whether a type with n events from its next one to the end comes later than one with m
abbrev sooner_than : ℕ → ℕ → Bool
sooner_than m n = eqb n 0 || ltb n m

pub returns-then-limit-gt0-clause-left : goal.returns-then-limit-gt0-clause-left
returns-then-limit-gt0-clause-left c = λ a b.
    let x : ℕ = c.args.x in
    let place : ℕ = c.place_of-place.result in
    let next = c.args.next.now in
    let n : ℕ = get_or next place 0 in
    let kept : ℕ → Bool = λ q. sooner_than (get_or next q 0) n in
    let some : eqb n 0 ≡ false = ne_eqb n 0 (λ e. absurd (omega (arith, e, c.if-limit-gt0.true))) in
    at-both in_row c.args.rows.now place c.index-rows-place.result c.strike_gap.new.row kept x a b c.place_of-place.ensures
    (omega (arith, c.place_of-place.ensures, c.requires.number.1, c.requires.square)) c.index-rows-place.is
    (λ q. c.strike_gap.ensures.left q ∙ ap (λ row. in_row row q && ltb n (get_or next q 0)) (sym c.index-rows-place.is) ∙ sym (ap (λ t. in_row c.index-rows-place.result q && (t || ltb n (get_or next q 0))) some))
    ∙ ap (λ t. has_at in_row c.args.rows.now a b && t)
    (only-where x (a + 2) (sooner_than (get_or next b 0) n) (sooner_than (get_or next b 0) (get_or next a 0)) (λ e.
    ap (λ k. sooner_than (get_or next b 0) (get_or next k 0)) (let same : place ≡ a = omega (arith, e, c.place_of-place.ensures) in same)))

pub returns-else-limit-gt0-clause-left : goal.returns-else-limit-gt0-clause-left
returns-else-limit-gt0-clause-left c = λ a b.
    let x : ℕ = c.args.x in
    let next = c.args.next.now in
    all-kept x (a + 2) (has_at in_row c.args.rows.now a b) (sooner_than (get_or next b 0) (get_or next a 0)) (λ e.
    let place : c.place_of-place.result ≡ a = omega (arith, e, c.place_of-place.ensures) in
    let zero_next : get_or next a 0 ≡ 0 = ap (λ k. get_or next k 0) (sym place) ∙ omega (arith, c.if-limit-gt0.false) in
    ap (sooner_than (get_or next b 0)) zero_next)
