use Rattle.std.proofs.Common.{◌≡◌, ℕ, Bool, List, true, false, sym, ◌+◌, ◌-◌, ◌*◌, ◌<◌, ◌∙◌, ◌&&◌, ap, arith, cond, drop, eqb, get_or, length, length-drop, length-take}
use Rattle.std.proofs.Math.Nat.{mul-le-mul_right}
use Rattle.std.proofs.Math.Seq.{get_or-take, get_or-drop}
use Rattle.std.proofs.lemmas.Bool.{ne_eqb}
use Rattle.std.proofs.lemmas.Bool.Decides.{Decides-eqb}
use Rattle.count_miner.specs.Counts.{cell, type_count}
use Rattle.count_miner.proofs.Places.{first-only, not-first, one-less, same-test}
use Rattle.count_miner.proofs.Rows.{cell-row}
use Rattle.count_miner.proofs.counting.read_event.Goals as goal

pub returns-then-is_first-clause-counted : goal.returns-then-is_first-clause-counted
returns-then-is_first-clause-counted c = λ b a in_b in_a.
    let types : ℕ = length c.args.all.now in
    let table = c.args.table.now in
    let r = c.args.x - 2 in
    let size = (r + 1) * types - r * types in
    let in_r : r < types = omega (arith, c.requires.number.0, c.requires.number.1) in
    let wide : length c.add_unread.new.row ≡ types =
    omega (
      arith,
      c.add_unread.auto.row,
      length-take size (drop (r * types) table),
      length-drop (r * types) table,
      c.requires.square,
      mul-le-mul_right {m = r + 1} {n = types} types (omega arith),
    ) in
    let added : ℕ → ℕ = λ k. type_count (k + 2) c.args.unread.now in
    cell-row table c.add_unread.new.row added types r size b a c.requires.square in_r in_b in_a wide (omega arith) c.add_unread.ensures
    ∙ (ap (λ n. cell table types b a + n) (first-only b r (added a) c.args.left.now c.args.all.now c.if-is_first.true)
    ∙ ap (λ t. cell table types b a + cond (t && eqb (get_or c.args.left.now b 0) (get_or c.args.all.now b 0)) (added a) 0) (same-test b c.args.x r (omega (arith, c.requires.number.0))))

pub add_unread-requires-clause-room : goal.add_unread-requires-clause-room
add_unread-requires-clause-room c = λ a in_a.
    let types : ℕ = length c.args.all.now in
    let r = c.args.x - 2 in
    let size = (r + 1) * types - r * types in
    let row = drop (r * types) c.args.table.now in
    let is : c.args.x ≡ r + 2 = omega (arith, c.requires.number.0) in
    let wide : a < types = omega (arith, in_a, length-take size row) in
    omega (arith, c.requires.room r a is wide c.if-is_first.true, get_or-take size row a 0 (omega (arith, wide)), get_or-drop (r * types) c.args.table.now a 0)

pub add_unread-requires-clause-left : goal.add_unread-requires-clause-left
add_unread-requires-clause-left c = λ a in_a.
    let types : ℕ = length c.args.all.now in
    let r = c.args.x - 2 in
    let size = (r + 1) * types - r * types in
    let wide : a < types = omega (arith, in_a, length-take size (drop (r * types) c.args.table.now)) in
    one-less c.args.left.now c.args.x r a (type_count (a + 2) c.args.unread.now) (omega (arith, c.requires.number.0)) (omega (arith, c.requires.number.0, c.requires.number.1, c.requires.beside)) (c.requires.left a wide)

pub returns-then-is_first-clause-left : goal.returns-then-is_first-clause-left
returns-then-is_first-clause-left c = λ a in_a.
    one-less c.args.left.now c.args.x (c.args.x - 2) a (type_count (a + 2) c.args.unread.now) (omega (arith, c.requires.number.0)) (omega (arith, c.requires.number.0, c.requires.number.1, c.requires.beside)) (c.requires.left a in_a)

pub returns-else-is_first-clause-left : goal.returns-else-is_first-clause-left
returns-else-is_first-clause-left c = λ a in_a.
    one-less c.args.left.now c.args.x (c.args.x - 2) a (type_count (a + 2) c.args.unread.now) (omega (arith, c.requires.number.0)) (omega (arith, c.requires.number.0, c.requires.number.1, c.requires.beside)) (c.requires.left a in_a)

pub returns-else-is_first-clause-counted : goal.returns-else-is_first-clause-counted
returns-else-is_first-clause-counted c = λ b a in_b in_a.
    not-first b c.args.x (c.args.x - 2) (cell c.args.table.now (length c.args.all.now) b a) (type_count (a + 2) c.args.unread.now) c.args.left.now c.args.all.now (omega (arith, c.requires.number.0)) c.if-is_first.false

-- what the counts of the place of an event say of its type
at-place : (x b : ℕ) (left all : List ℕ) (t : Bool) → x ≡ b + 2 → eqb (get_or left (x - 2) 0) (get_or all (x - 2) 0) ≡ t → t ≡ eqb (get_or left b 0) (get_or all b 0)
at-place x b left all t is e = sym e ∙ ap (λ k. eqb (get_or left k 0) (get_or all k 0)) (omega (arith, is))

pub returns-then-is_first-clause-first : goal.returns-then-is_first-clause-first
returns-then-is_first-clause-first c = λ b is. at-place c.args.x b c.args.left.now c.args.all.now true is ((Decides-eqb (get_or c.args.left.now (c.args.x - 2) 0) (get_or c.args.all.now (c.args.x - 2) 0)).1 c.if-is_first.true)

pub returns-else-is_first-clause-first : goal.returns-else-is_first-clause-first
returns-else-is_first-clause-first c = λ b is. at-place c.args.x b c.args.left.now c.args.all.now false is (ne_eqb (get_or c.args.left.now (c.args.x - 2) 0) (get_or c.args.all.now (c.args.x - 2) 0) c.if-is_first.false)
