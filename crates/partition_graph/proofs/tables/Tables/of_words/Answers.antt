use Rattle.std.proofs.Common.{◌≡◌, ◌+◌, ◌<◌, ◌≤◌, [], ℕ, List, length, take, get_or, arith, ap, subst, sym}
use Rattle.std.proofs.lemmas.List.{length-map}
use Rattle.std.proofs.lemmas.List.Elements.{recursion_from_All}
use Rattle.std.specs.List.{flat_map}
use Rattle.limits.specs.declared.TheConstants.{FIRST_TYPE, MAX_EVENTS, MAX_PARTITIONS}
use Rattle.traces.specs.Kept.{IsTypeNumber}
use Rattle.traces.specs.Words.{Trace}
use Rattle.partition_model.specs.Assignments.{by_type, IsTyped}
use Rattle.partition_model.specs.Listings.{AreBelow}
use Rattle.partition_graph.specs.Cells.{cells_of}
use Rattle.partition_graph.specs.Parts.{inner_words_of}
use Rattle.partition_graph.specs.Tables.{IsCountedFor}
use Rattle.partition_graph.proofs.CountedWords.{counted_none, counted_more_words, room_for_word, word_ids, words_counted, IsCountedTo}
use Rattle.partition_graph.proofs.WordCells.{cells-le, word_at}
use Rattle.partition_graph.proofs.tables.Tables.of_words.Goals as goal

pub loop-t-init : goal.loop-t-init
loop-t-init c = counted_none _ _ c.in_ok-tables.tables c.in_ok-tables.ensures

pub count_word-requires-clause-ids : goal.count_word-requires-clause-ids
count_word-requires-clause-ids c =
    let types : length c.types.result.now ≡ length c.args.traces.now.types = ap (λ (ts : List (List ℕ)). length ts) c.types.ensures.value in
    let few : length c.args.traces.now.types + 2 ≤ MAX_PARTITIONS = omega (arith, types, c.types.ensures.few) in
    word_ids (length c.args.traces.now.types + 2) c.events.result.now few (recursion_from_All (IsTypeNumber (length c.args.traces.now.types)) c.events.result.now c.events.ensures.numbers)

pub count_word-requires-clause-room : goal.count_word-requires-clause-room
count_word-requires-clause-room c =
    let log = c.args.traces.now in
    let t = c.loop-t.t in
    let inside : t < length log.traces = omega (arith, c.loop-t-test.true, c.trace_count-t-end.ensures) in
    let words : length (inner_words_of log) ≡ length log.traces = length-map log.traces (λ (trace : Trace). trace.events) in
    let within : t < length (inner_words_of log) = omega (arith, inside, words) in
    let at : get_or (inner_words_of log) t [] ≡ c.events.result.now = word_at log.traces t c.events.result.now inside c.events.ensures.events in
    let few : length (flat_map cells_of (take (t + 1) (inner_words_of log))) ≤ MAX_EVENTS = omega (arith, cells-le log.traces (t + 1), c.event_count.ensures) in
    room_for_word (length log.types + 2) (inner_words_of log) t c.loop-t.tables c.events.result.now within at c.events.ensures.some
    (recursion_from_All (IsTypeNumber (length log.types)) c.events.result.now c.events.ensures.numbers) few c.loop-t.invariant

pub loop-t-preserved : goal.loop-t-preserved
loop-t-preserved c =
    let log = c.args.traces.now in
    let t = c.loop-t.t in
    let inside : t < length log.traces = omega (arith, c.loop-t-test.true, c.trace_count-t-end.ensures) in
    let words : length (inner_words_of log) ≡ length log.traces = length-map log.traces (λ (trace : Trace). trace.events) in
    let within : t < length (inner_words_of log) = omega (arith, inside, words) in
    let at : get_or (inner_words_of log) t [] ≡ c.events.result.now = word_at log.traces t c.events.result.now inside c.events.ensures.events in
    counted_more_words (length log.types + 2) (inner_words_of log) t c.loop-t.tables c.count_word.new.self c.events.result.now within at c.events.ensures.some
    (recursion_from_All (IsTypeNumber (length log.types)) c.events.result.now c.events.ensures.numbers) c.loop-t.invariant c.count_word.ensures

all : (c : goal.After-loop-t) → IsCountedFor c.loop-t.tables (length c.args.traces.now.traces) (by_type (inner_words_of c.args.traces.now)) × IsTyped (by_type (inner_words_of c.args.traces.now))
    × AreBelow (length c.args.traces.now.types + FIRST_TYPE) (by_type (inner_words_of c.args.traces.now))
all c =
    let log = c.args.traces.now in
    let types : length c.types.result.now ≡ length log.types = ap (λ (ts : List (List ℕ)). length ts) c.types.ensures.value in
    let limit : length log.types + FIRST_TYPE ≤ MAX_PARTITIONS = omega (arith, types, c.types.ensures.few) in
    let words : length (inner_words_of log) ≡ length log.traces = length-map log.traces (λ (trace : Trace). trace.events) in
    let end : c.loop-t.t ≡ length log.traces = omega (arith, c.loop-t-test.false, c.loop-t.auto.t-end, c.trace_count-t-end.ensures.value) in
    let few : length (flat_map cells_of (take (length log.traces) (inner_words_of log))) ≤ MAX_EVENTS = omega (arith, cells-le log.traces (length log.traces), c.event_count.ensures) in
    words_counted (length log.types + FIRST_TYPE) (inner_words_of log) (length log.traces) c.loop-t.tables (sym words) (omega arith) limit few
    (subst (λ (n : ℕ). IsCountedTo (length log.types + 2) (inner_words_of log) n c.loop-t.tables) end c.loop-t.invariant)

pub returns-clause-counted : goal.returns-clause-counted
unfolding all
returns-clause-counted c = (all c).0

pub returns-clause-typed : goal.returns-clause-typed
unfolding all
returns-clause-typed c = (all c).1

pub returns-clause-below : goal.returns-clause-below
unfolding all
returns-clause-below c = (all c).2
