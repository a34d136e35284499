use Rattle.std.proofs.Common.{◌-◌, ◌%◌, ◌<◌, ℕ, bit_and, sym, ◌∙◌, inl, inr, arith}
use Rattle.std.proofs.lemmas.Bool.{true≢false}
use Rattle.std.proofs.lemmas.Nat.{and_le_r}
use Rattle.path_finder.specs.declared.pair.Pair.{Pair}
use Rattle.path_finder.specs.declared.pair_set.Part.{Part}
use Rattle.path_finder.specs.declared.table.TheConstants.{OPEN}
use Rattle.path_finder.specs.Asking.{asked}
use Rattle.path_finder.specs.PairSets.{IsAmong}
use Rattle.path_finder.specs.Tables.{at}
use Rattle.path_finder.specs.Walks.{Asked}
use Rattle.path_finder.proofs.Listing.{split-more}
use Rattle.path_finder.proofs.PairSets.{off-zero, some-among}
use Rattle.path_finder.proofs.Parts.{added-open, among-open, entered-more, entered-still, open-among, opened-all, opened-none}
use Rattle.path_finder.proofs.level.enter_open.Goals as goal

pub enter-requires-clause-stand_open : goal.enter-requires-clause-stand_open
enter-requires-clause-stand_open c r is =
    let o = open-among (asked c.args.question.now) c.args.part c.args.table.now c.args.entered.now c.put.result r c.put.type_inv c.put.ensures.had c.requires.pairs c.requires.size c.requires.entered is in
    (o.1, o.2)

pub enter-requires-clause-last : goal.enter-requires-clause-last
enter-requires-clause-last c r small inside low = c.requires.low r (record { id = omega (arith, inside, c.requires.size); state = small }) low

-- all pairs of the part were entered
none-open : (c : goal.Then-word-eq0) (r : Pair) → IsAmong c.args.part r → at c.args.table.now r < OPEN
none-open c r is = elim (among-open (asked c.args.question.now) c.args.part c.args.table.now c.args.entered.now c.put.result r c.args.question.now.few c.put.type_inv c.put.ensures.had c.requires.entered (c.requires.pairs r is) is) [
  | inl low ↦ low
  | inr stands ↦ absurd (true≢false (sym stands.bit ∙ off-zero (bit_and c.args.part.word (18446744073709551615 - c.put.result)) (r.id % 64) c.if-word-eq0.true))
]

pub returns-then-word-eq0-clause-opened : goal.returns-then-word-eq0-clause-opened
returns-then-word-eq0-clause-opened c = opened-none (asked c.args.question.now) c.args.part c.args.distance c.args.table.now (none-open c)

pub returns-then-word-eq0-clause-entered : goal.returns-then-word-eq0-clause-entered
returns-then-word-eq0-clause-entered c =
    entered-still (asked c.args.question.now) c.args.part c.args.table.now c.args.entered.now c.put.new.self c.requires.entered c.requires.pairs (none-open c) c.put.ensures.added

pub returns-clause-entered : goal.returns-clause-entered
returns-clause-entered c =
    let a : Asked = asked c.args.question.now in
    let w : ℕ = bit_and c.args.part.word (18446744073709551615 - c.put.result) in
    let these : Part = record { state = c.args.part.state; place = c.args.part.place; word = w } in
    let own : (r : Pair) → IsAmong these r → IsAmong c.args.part r = λ r is. (open-among a c.args.part c.args.table.now c.args.entered.now c.put.result r c.put.type_inv c.put.ensures.had c.requires.pairs c.requires.size c.requires.entered is).0 in
    entered-more a these c.args.distance c.args.table.now c.enter.new.self c.args.entered.now c.put.new.self c.requires.closes c.requires.entered
    (λ r is. c.requires.pairs r (own r is)) c.enter.ensures.entered
    (added-open a c.args.part these c.args.table.now c.args.entered.now c.put.new.self c.requires.entered c.requires.pairs own
    (λ r is. among-open a c.args.part c.args.table.now c.args.entered.now c.put.result r c.args.question.now.few c.put.type_inv c.put.ensures.had c.requires.entered (c.requires.pairs r is) is)
    c.put.ensures.added)

pub returns-clause-opened : goal.returns-clause-opened
returns-clause-opened c =
    let w : ℕ = bit_and c.args.part.word (18446744073709551615 - c.put.result) in
    opened-all (asked c.args.question.now) c.args.part c.args.distance w c.args.table.now c.enter.new.self c.requires.closes
    (λ r is. open-among (asked c.args.question.now) c.args.part c.args.table.now c.args.entered.now c.put.result r c.put.type_inv c.put.ensures.had c.requires.pairs c.requires.size c.requires.entered is)
    (λ r is. among-open (asked c.args.question.now) c.args.part c.args.table.now c.args.entered.now c.put.result r c.args.question.now.few c.put.type_inv c.put.ensures.had c.requires.entered (c.requires.pairs r is) is)
    c.requires.state c.enter.ensures.entered
    (λ first s. split-more c.args.distance first c.args.table.now c.enter.new.self (record { word = w; distance = c.args.distance; state = c.args.part.state; place = c.args.part.place }) c.enter.ensures.parts (omega arith) s)

pub returns-clause-some : goal.returns-clause-some
returns-clause-some c e =
    let w : ℕ = bit_and c.args.part.word (18446744073709551615 - c.put.result) in
    let some = some-among (record { state = c.args.part.state; place = c.args.part.place; word = w }) (omega (arith, c.if-word-eq0.false)) (omega (arith, and_le_r c.args.part.word (18446744073709551615 - c.put.result))) in
    c.enter.ensures.entered.fewer some.0 some.1
