use Rattle.std.proofs.Common.{◌≡◌, ◌≢◌, ℕ, ◌+◌, ◌-◌, ◌*◌, ◌<◌, ◌∙◌, ◌&&◌, Bool, List, true, ap, arith, cond, drop, eqb, get_or, length, length-drop, length-take, sym, ⊎_elim}
use Rattle.std.proofs.Math.Dec.{ltb}
use Rattle.std.proofs.Math.Nat.{mul-le-mul_right}
use Rattle.std.proofs.lemmas.Bool.{cases_eq, ne_eqb, lt-ltb}
use Rattle.std.proofs.lemmas.Bool.Decides.{Decides-eqb}
use Rattle.count_miner.specs.Counts.{cell}
use Rattle.count_miner.proofs.Rows.{cell-row}
use Rattle.count_miner.proofs.gaps.add_gap.Goals as goal

abbrev one : Bool → ℕ
one t = cond t 1 0

-- the test of a row is that of its own next event
row-test : (next : List ℕ) (a at b : ℕ) → 0 < get_or next at 0 → cond (eqb a at) (one (ltb (get_or next at 0) (get_or next b 0))) 0
    ≡ one (eqb a at && (ltb 0 (get_or next a 0) && ltb (get_or next a 0) (get_or next b 0)))
row-test next a at b some = ⊎_elim
    (λ (here : a ≡ at).
    let more : ltb 0 (get_or next a 0) ≡ true = lt-ltb 0 (get_or next a 0) (omega (arith, some, ap (λ k. get_or next k 0) here)) in
    let same : one (ltb (get_or next at 0) (get_or next b 0)) ≡ one (ltb (get_or next a 0) (get_or next b 0)) =
    ap (λ k. one (ltb (get_or next k 0) (get_or next b 0))) (sym here) in
    let hit = (Decides-eqb a at).1 here in
    ap (λ t. cond t (one (ltb (get_or next at 0) (get_or next b 0))) 0) hit
    ∙ (same ∙ sym (ap (λ t. one (t && (ltb 0 (get_or next a 0) && ltb (get_or next a 0) (get_or next b 0)))) hit ∙ ap (λ t. one (t && ltb (get_or next a 0) (get_or next b 0))) more)))
    (λ (other : a ≢ at).
    let miss = ne_eqb a at other in
    ap (λ t. cond t (one (ltb (get_or next at 0) (get_or next b 0))) 0) miss ∙ sym (ap (λ t. one (t && (ltb 0 (get_or next a 0) && ltb (get_or next a 0) (get_or next b 0)))) miss))
    (cases_eq a at)

pub returns-then-limit-gt0 : goal.returns-then-limit-gt0
returns-then-limit-gt0 c = λ a b in_a in_b.
    let types : ℕ = length c.args.next.now in
    let table = c.args.table.now in
    let next = c.args.next.now in
    let r = c.args.at in
    let size = (r + 1) * types - r * types in
    let wide : length c.add_sooner.new.row ≡ types =
    omega (
      arith,
      c.add_sooner.auto.row,
      length-take size (drop (r * types) table),
      length-drop (r * types) table,
      c.requires.square,
      mul-le-mul_right {m = r + 1} {n = types} types (omega (arith, c.requires.number)),
    ) in
    let added : ℕ → ℕ = λ k. one (ltb (get_or next r 0) (get_or next k 0)) in
    cell-row table c.add_sooner.new.row added types r size a b c.requires.square c.requires.number in_a in_b wide (omega arith) c.add_sooner.ensures
    ∙ ap (λ n. cell table types a b + n) (row-test next a r b c.if-limit-gt0.true)
