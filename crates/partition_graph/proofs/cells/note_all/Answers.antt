use Rattle.std.proofs.Common.{◌≡◌, ◌<◌, [], ℕ, get_or, length, arith, subst}
use Rattle.std.proofs.lemmas.List.{length-map}
use Rattle.std.proofs.lemmas.List.Elements.{recursion_from_All}
use Rattle.std.specs.Option.{IfSome}
use Rattle.traces.specs.Kept.{IsTypeNumber}
use Rattle.traces.specs.Words.{Trace}
use Rattle.partition_graph.specs.Parts.{inner_words_of}
use Rattle.partition_graph.proofs.Looking.{looked}
use Rattle.partition_graph.proofs.Sharing.{share-more}
use Rattle.partition_graph.proofs.WordCells.{cells-le, word_at}
use Rattle.partition_graph.proofs.cells.note_all.Goals as goal

pub prove-unreachable-requires : goal.prove-unreachable-requires
prove-unreachable-requires c =
    absurd (omega (arith, c.loop-t.invariant.shared.1.small, cells-le c.args.traces.now.traces c.loop-t.t, c.event_count-event_count.ensures.value, c.len.ensures, c.if-prove.true))

pub loop-t-preserved : goal.loop-t-preserved
loop-t-preserved c =
    let log = c.args.traces.now in
    let t : ℕ = c.loop-t.t in
    let inside : t < length log.traces = omega (arith, c.loop-t-test.true, c.trace_count-t-end.ensures) in
    let words : length (inner_words_of log) ≡ length log.traces = length-map log.traces (λ (trace : Trace). trace.events) in
    let within : t < length (inner_words_of log) = omega arith in
    let at : get_or (inner_words_of log) t [] ≡ c.events.result.now = word_at log.traces t c.events.result.now inside c.events.ensures.events in
    let numbers = recursion_from_All (IsTypeNumber (length log.types)) c.events.result.now c.events.ensures.numbers in
    let look = looked (inner_words_of log) t c.earlier_with-earlier.result c.loop-t.slots.slots.items c.earlier_with-earlier.new.self.slots.items c.earlier_with-earlier.ensures c.loop-t.invariant.slots in
    let known = subst (λ w. IfSome c.earlier_with-earlier.result (λ e. (e < t) × (get_or (inner_words_of log) e [] ≡ w))) at look.1 in
    record {
      slots = look.0;
      shared = share-more log t c.events.result.now c.earlier_with-earlier.result c.loop-t.shared c.note.new.self within at c.events.ensures.some numbers known c.in_ok-note.ensures c.loop-t.invariant.shared;
    }

pub returns-clause-few : goal.returns-clause-few
returns-clause-few c =
    omega (arith, c.loop-t.invariant.shared.1.small, cells-le c.args.traces.now.traces c.loop-t.t, c.event_count-event_count.ensures.value, c.event_count-event_count.ensures.few)
