use Rattle.std.proofs.Common.{◌≡◌, ◌<◌, ◌≤◌, ◌+◌, [], ℕ, List, IfOk, length, get_or, sym, ◌∙◌, ap, subst, arith}
use Rattle.std.specs.List.{All}
use Rattle.std.proofs.lemmas.List.{length-map}
use Rattle.std.proofs.lemmas.Result.{IfOk-weaker}
use Rattle.limits.specs.declared.TheConstants.{FIRST_TYPE, MAX_PARTITIONS}
use Rattle.invariants.specs.declared.records.Model.{Model}
use Rattle.traces.specs.Words.{Trace}
use Rattle.partition_model.specs.Assignments.{by_type}
use Rattle.models.specs.Histories.{IsFirstWrongSplit, SplitInTurn, split_by}
use Rattle.replay_check.specs.Answers.{IsFollowed}
use Rattle.replay_check.specs.Laid.{inner_words_of}
use Rattle.replay_check.specs.Sharing.{gathered}
use Rattle.replay_check.specs.Shown.{Shows}
use Rattle.replay_check.proofs.Alike.{AreAlike, laid-alike, shaped-ids, alike-all, alike-wrong}
use Rattle.replay_check.proofs.Following.{followed-from}
use Rattle.replay_check.proofs.Placing.{placed-at, placed-count}
use Rattle.replay_check.proofs.Showing.{laid-within}
use Rattle.replay_check.proofs.Spreading.{placed-inside, spread-shows}
use Rattle.replay_check.proofs.Starting.{start-shows}
use Rattle.replay_check.proofs.follow.follow.Goals as goal
use Rattle.replay_check.proofs.follow.follow.Goals.{Start}

-- the words that are laid are those of the log
alike : (c : Start) (n : ℕ) → n ≡ length c.args.traces.now.types + FIRST_TYPE → AreAlike (by_type c.requires.laid.words) (by_type (inner_words_of c.args.traces.now)) n
alike c n is = laid-alike n (length c.args.traces.now.types) (inner_words_of c.args.traces.now) c.args.ids.now c.args.places.now c.requires.laid is c.requires.below

-- what is shown of them at first
shown : (c : Start) (n : ℕ) → n ≡ length c.args.traces.now.types + FIRST_TYPE → n ≤ MAX_PARTITIONS → Shows (by_type c.requires.laid.words) n c.args.ids.now c.args.types.now
shown c n is few =
    start-shows n c.requires.laid.words c.args.ids.now c.args.types.now (alike c n is).one.high few c.requires.laid.laid_are (alike c n is).one.below c.requires.types_are

pub first_wrong_split-requires-clause-within : goal.first_wrong_split-requires-clause-within
first_wrong_split-requires-clause-within c =
    let s : Start = (goal.at.first_wrong_split-requires-clause-within c).Start in
    subst (λ (xs : List ℕ). All (λ p. p < MAX_PARTITIONS) xs) (sym c.requires.laid.laid_are)
    (laid-within c.first_new-first.result MAX_PARTITIONS (omega arith) c.first_new-first.ensures.few (by_type c.requires.laid.words) (alike s c.first_new-first.result c.first_new-first.ensures.value).one.below)

pub returns-in-Some : goal.returns-in-Some
returns-in-Some c =
    let s : Start = (goal.at.returns-in-Some c).Start in
    let m : Model = c.args.model.now in
    let inner : List (List ℕ) = inner_words_of c.args.traces.now in
    subst (λ (n : ℕ). IsFirstWrongSplit m (by_type inner) n m.splits c.in-Some.k) c.first_new-first.ensures.value
    (alike-wrong m (by_type c.requires.laid.words) (by_type inner) c.first_new-first.result m.splits c.in-Some.k (shaped-ids m c.requires.shaped) (alike s c.first_new-first.result c.first_new-first.ensures.value) (c.in-Some.ensures.first (by_type c.requires.laid.words) (shown s c.first_new-first.result c.first_new-first.ensures.value c.first_new-first.ensures.few)))

pub follow_traces-requires-clause-count : goal.follow_traces-requires-clause-count
follow_traces-requires-clause-count c =
    placed-count c.requires.laid.words (inner_words_of c.args.traces.now) c.args.places.now c.requires.laid.placed ∙ length-map c.args.traces.now.traces (λ (trace : Trace). trace.events)

pub follow_traces-requires-clause-inside : goal.follow_traces-requires-clause-inside
follow_traces-requires-clause-inside c = λ t l.
    let inner : List (List ℕ) = inner_words_of c.args.traces.now in
    let long : length inner ≡ length c.args.traces.now.traces = length-map c.args.traces.now.traces (λ (trace : Trace). trace.events) in
    let there = placed-inside c.requires.laid.words (get_or inner t []) (get_or c.args.places.now t 0) (placed-at c.requires.laid.words inner c.args.places.now t (omega arith) c.requires.laid.placed) in
    omega (arith, there, c.in_default.ensures.count, ap length c.requires.laid.laid_are)

pub follow_traces-requires-clause-within : goal.follow_traces-requires-clause-within
follow_traces-requires-clause-within c =
    let s : Start = (goal.at.follow_traces-requires-clause-within c).Start in
    let m : Model = c.args.model.now in
    let n : ℕ = c.first_new-first.result in
    let words : List (List ℕ) = c.requires.laid.words in
    let inner : List (List ℕ) = inner_words_of c.args.traces.now in
    let o = c.in_default.ensures.first (by_type words) (shown s c.first_new-first.result c.first_new-first.ensures.value c.first_new-first.ensures.few) in
    let w : Shows (split_by n m.splits (by_type inner)) (n + length m.splits) (gathered c.first_wrong_split.new.ids c.args.places.now inner) c.first_wrong_split.new.types =
    spread-shows n m.splits words inner c.first_wrong_split.new.ids c.args.places.now c.first_wrong_split.new.types c.requires.laid.placed (alike s c.first_new-first.result c.first_new-first.ensures.value) o.2 in
    subst (λ (xs : List ℕ). All (λ p. p < MAX_PARTITIONS) xs) (sym w.ids_are)
    (laid-within (n + length m.splits) MAX_PARTITIONS (omega arith) o.1 (split_by n m.splits (by_type inner)) w.below)

pub returns : goal.returns
returns c =
    let s : Start = (goal.at.returns c).Start in
    let m : Model = c.args.model.now in
    let n : ℕ = c.first_new-first.result in
    let words : List (List ℕ) = c.requires.laid.words in
    let inner : List (List ℕ) = inner_words_of c.args.traces.now in
    let o = c.in_default.ensures.first (by_type words) (shown s c.first_new-first.result c.first_new-first.ensures.value c.first_new-first.ensures.few) in
    let w : Shows (split_by n m.splits (by_type inner)) (n + length m.splits) (gathered c.first_wrong_split.new.ids c.args.places.now inner) c.first_wrong_split.new.types =
    spread-shows n m.splits words inner c.first_wrong_split.new.ids c.args.places.now c.first_wrong_split.new.types c.requires.laid.placed (alike s c.first_new-first.result c.first_new-first.ensures.value) o.2 in
    let turns : SplitInTurn m (by_type inner) n m.splits = alike-all m (by_type words) (by_type inner) n m.splits (shaped-ids m c.requires.shaped) (alike s c.first_new-first.result c.first_new-first.ensures.value) o.0 in
    subst (λ (x : ℕ). IfOk c.follow_traces.result (IsFollowed m (by_type inner) x)) c.first_new-first.ensures.value
    (IfOk-weaker c.follow_traces.result _ _ (λ answer merged. followed-from m (by_type inner) n answer turns (merged (split_by n m.splits (by_type inner)) (n + length m.splits) w o.1)) c.follow_traces.ensures)
