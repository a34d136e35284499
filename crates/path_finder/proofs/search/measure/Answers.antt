use Rattle.std.proofs.Common.{◌≡◌, ◌≤◌, ◌<◌, ◌*◌, ◌∙◌, ℕ, true, false, ap, sym, inl, inr, replicate, arith}
use Rattle.std.proofs.lemmas.Bool.{true≢false}
use Rattle.limits.specs.declared.TheConstants.{MAX_PARTITIONS}
use Rattle.path_finder.specs.declared.pair.TheConstants.{STATES}
use Rattle.path_finder.specs.declared.table.TheConstants.{OPEN}
use Rattle.path_finder.specs.declared.pair.Pair.{Pair}
use Rattle.path_finder.specs.declared.pair_set.PairSet.{PairSet}
use Rattle.path_finder.specs.Asking.{asked}
use Rattle.path_finder.specs.Levels.{ArePassed, HasEntered}
use Rattle.path_finder.specs.PairSets.{has_pair}
use Rattle.path_finder.specs.Tables.{Entries, at}
use Rattle.path_finder.specs.Walks.{Asked, IsPairOf}
use Rattle.path_finder.proofs.Ends.{begins, none-entered, stands-open}
use Rattle.path_finder.proofs.Levels.{all-measured, next-due, start-measured}
use Rattle.path_finder.proofs.search.measure.Goals as goal

pub levels-init : goal.levels-init
levels-init c =
    let a : Asked = asked c.args.question.now in
    let stand = c.clear.ensures.distances ∙ ap (λ (n : ℕ). replicate (n * STATES) OPEN) c.ids.ensures.value in
    record {
      due = begins a c.clear.new.self c.ends-found.result c.args.question.now.two stand c.ends-found.ensures;
      entered = none-entered a c.clear.new.self c.none-entered.result stand c.none-entered.ensures;
      stands_open = stands-open a c.clear.new.self c.args.start stand c.requires;
    }

-- a pair that was open and is entered now is at this distance
entered-now : (a : Asked) (d : ℕ) (old new : Entries) (r : Pair) (n : PairSet) → a.ids ≤ MAX_PARTITIONS → IsPairOf a r → at old r ≡ OPEN → ArePassed a d old new → HasEntered a new n → has_pair n r ≡ true → (at new r ≡ d) × (at new r < OPEN)
entered-now a d old new r n few p stood passed entered has =
    let low : at new r < OPEN = (entered.sound r (record { state = p.state; id = omega (arith, p.id, few); has = has })).1 in
    elim (passed r p) [
      | inl same ↦ absurd (omega (arith, same, stood, low))
      | inr here ↦ (here, low)
    ]

-- a pair that is not entered is open still
open-still : (a : Asked) (d : ℕ) (old new : Entries) (r : Pair) (n : PairSet) → IsPairOf a r → d < OPEN → at old r ≡ OPEN → ArePassed a d old new → HasEntered a new n → has_pair n r ≡ false → at new r ≡ OPEN
open-still a d old new r n p closes stood passed entered gone =
    elim (passed r p) [
      | inl same ↦ same ∙ stood
      | inr here ↦ absurd (true≢false (sym (entered.whole r p (omega (arith, here, closes))) ∙ gone))
    ]

pub has-requires-clause-id : goal.has-requires-clause-id
has-requires-clause-id c = omega (arith, c.requires.id, c.args.question.now.few)

pub returns-then-has-clause-measured : goal.returns-then-has-clause-measured
returns-then-has-clause-measured c =
    let a : Asked = asked c.args.question.now in
    let o = c.enter_level.ensures in
    let now = entered-now a c.levels.distance c.levels.table c.enter_level.new.table c.args.start c.enter_level.new.entered c.args.question.now.few c.requires c.levels.invariant.stands_open o.passed o.entered (sym c.has.ensures ∙ c.if-has.true) in
    start-measured a c.levels.distance c.enter_level.new.table c.args.start o.reached c.requires now.1

pub returns-then-has-clause-distance : goal.returns-then-has-clause-distance
returns-then-has-clause-distance c =
    let a : Asked = asked c.args.question.now in
    let o = c.enter_level.ensures in
    let now = entered-now a c.levels.distance c.levels.table c.enter_level.new.table c.args.start c.enter_level.new.entered c.args.question.now.few c.requires c.levels.invariant.stands_open o.passed o.entered (sym c.has.ensures ∙ c.if-has.true) in
    (now.0, omega (arith, now.0, now.1))

pub overflow_add-distance : goal.overflow_add-distance
overflow_add-distance c = omega (arith, c.enter_level.ensures.reached.room, c.args.question.now.few)

pub levels-preserved : goal.levels-preserved
levels-preserved c =
    let a : Asked = asked c.args.question.now in
    let o = c.enter_level.ensures in
    let g = c.gather.ensures in
    record {
      due =
          next-due a c.levels.distance c.in-Some.first c.enter_level.new.table c.enter_level.new.found c.gather.new.found
          c.args.question.now.within c.args.question.now.few o.reached c.in-Some.ensures.level.1 g.listed c.in-Some.ensures.level.0 o.emptied g.marked g.gathered;
      entered = o.entered;
      stands_open = open-still a c.levels.distance c.levels.table c.enter_level.new.table c.args.start c.enter_level.new.entered c.requires (omega (arith, c.in-Some.ensures.level.1, c.args.question.now.few)) c.levels.invariant.stands_open o.passed o.entered (sym c.has.ensures ∙ c.if-has.false);
    }

pub levels-smaller : goal.levels-smaller
levels-smaller c = omega (arith, c.in-Some.ensures.level.1)

pub returns-clause-measured : goal.returns-clause-measured
returns-clause-measured c =
    all-measured (asked c.args.question.now) c.levels.distance c.enter_level.new.table c.args.start c.args.question.now.within c.enter_level.ensures.reached
    c.in_default.ensures.level

pub returns-clause-distance : goal.returns-clause-distance
returns-clause-distance c =
    elim (c.enter_level.ensures.passed c.args.start c.requires) [
      | inl same ↦ same ∙ c.levels.invariant.stands_open
      | inr here ↦ absurd (c.in_default.ensures.level c.args.start c.requires here)
    ]
