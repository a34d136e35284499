use Rattle.std.proofs.Common.{◌≡◌, ℕ, ◌-◌, List, [], ◌∷◌, ◌++◌, get_or, length, map, subst, subst₂, sym, ap, ap₂, ◌∙◌, arith, length-append}
use Rattle.std.specs.Prelude.{OnErr, Result, Ok, Err}
use Rattle.std.proofs.lemmas.List.{length-map}
use Rattle.invariants.specs.declared.Invariant.{Invariant}
use Rattle.invariants.specs.declared.Kind.TheVariants.{AF}
use Rattle.invariants.specs.declared.records.Split.{Split}
use Rattle.cell_pool.specs.Numbers.{Numbers}
use Rattle.cell_pool.specs.RunLists.{RunLists}
use Rattle.partition_model.specs.Assignments.{G}
use Rattle.partition_graph.specs.Parts.{Parts}
use Rattle.run_history.specs.Records.{split_of, splits_of}
use Rattle.splitter.specs.Refining.{IsFull, IsStopped, split_by}
use Rattle.splitter.specs.Writing.{paths_of}
use Rattle.splitter.proofs.Asking.{asked-few, asked-known, asked-unknown}
use Rattle.splitter.proofs.RefiningTurns.{IsRefining, violation-divides, violation-starts, refining-start, refining-fresh, refining-hold, refining-events, refining-none, refining-known, known-some, refining-some, refining-stopped, refining-end, refining-full, refining-excludes, refining-numbers, refining-rests, refining-fewer}
use Rattle.splitter.proofs.WritingTurns.{paths-long, writing-start, writing-more, adds-told}
use Rattle.splitter.proofs.refining.refine_skipping.Goals as goal

abbrev none : Invariant
none = record { kind = AF; a = 0; b = 0 }

pub loop-k-init : goal.loop-k-init
loop-k-init g c =
    let e : splits_of c.args.run_log.now c.args.spans.now ≡ [] = ap (map (split_of c.args.spans.now.numbers)) c.requires.empty.splits in
    record {
      refining = subst (λ (z : List Split). IsRefining c.args.basis.invs.now c.args.graph.now c.args.graph.now 0 z) (sym e)
          (refining-start c.args.basis.invs.now c.args.graph.now c.requires.opened (omega arith));
      writes = writing-start c.args.run_log.now c.args.spans.now c.requires.empty;
      known = c.requires.known;
      counted = omega (arith, ap (λ (z : List Split). length z) e);
    }

pub divide-requires-clause-divides : goal.divide-requires-clause-divides
divide-requires-clause-divides g c =
    let now = c.loop-k.graph in
    let r = c.loop-k.invariant.refining in
    let ss : List Split = splits_of c.loop-k.run_log c.loop-k.spans in
    violation-divides now.traces (get_or c.args.basis.invs.now c.loop-k.k none) c.in-Some.path.now now.used r.run.typed
    (refining-fresh c.args.basis.invs.now c.args.graph.now now c.loop-k.k ss c.requires.opened r)
    (refining-hold c.args.basis.invs.now c.args.graph.now now c.loop-k.k ss none r c.requires.hold c.loop-k-test.true)
    c.in-Some.ensures.found

pub divide-requires-clause-starts : goal.divide-requires-clause-starts
divide-requires-clause-starts g c =
    violation-starts (G c.loop-k.graph.traces) (get_or c.args.basis.invs.now c.loop-k.k none) c.in-Some.path.now c.in-Some.ensures.found

pub divide-requires-clause-made : goal.divide-requires-clause-made
divide-requires-clause-made g c =
    c.requires.made
    ∙ sym (refining-events c.args.basis.invs.now c.args.graph.now c.loop-k.graph c.loop-k.k (splits_of c.loop-k.run_log c.loop-k.spans) c.loop-k.invariant.refining)

pub divide-requires-clause-splits : goal.divide-requires-clause-splits
divide-requires-clause-splits g c few =
    let ss : List Split = splits_of c.loop-k.run_log c.loop-k.spans in
    let n = refining-numbers c.args.basis.invs.now c.args.graph.now c.loop-k.graph c.loop-k.k ss c.requires.opened c.requires.hold c.loop-k.invariant.refining in
    let room : c.loop-k.run_log.split_room ≡ c.args.run_log.now.split_room = ap (λ (l : RunLists). l.split_room) c.loop-k.invariant.writes.log_is in
    omega (arith, n.1, room, c.requires.room.splits, length-map c.loop-k.run_log.splits (split_of c.loop-k.spans.numbers))

pub divide-requires-clause-numbers : goal.divide-requires-clause-numbers
divide-requires-clause-numbers g c =
    let ss : List Split = splits_of c.loop-k.run_log c.loop-k.spans in
    let r = c.loop-k.invariant.refining in
    let n = refining-numbers c.args.basis.invs.now c.args.graph.now c.loop-k.graph c.loop-k.k ss c.requires.opened c.requires.hold r in
    let room : c.loop-k.spans.room ≡ c.args.spans.now.room = ap (λ (s : Numbers). s.room) c.loop-k.invariant.writes.spans_are in
    let long : length c.loop-k.spans.numbers ≡ length (paths_of ss) = ap (λ (s : Numbers). length s.numbers) c.loop-k.invariant.writes.spans_are in
    omega (arith, n.0, n.1, room, long, paths-long ss, r.limit, c.requires.room.numbers, c.in-Some.ensures.short)

pub loop-k-preserved-then-is_known : goal.loop-k-preserved-then-is_known
loop-k-preserved-then-is_known g c =
    record {
      refining = refining-known c.args.basis.invs.now c.args.graph.now c.loop-k.graph c.loop-k.k (splits_of c.loop-k.run_log c.loop-k.spans) none c.args.basis.known.now c.loop-k.invariant.refining c.loop-k-test.true
          c.loop-k.invariant.known (sym c.is_known.ensures ∙ c.if-is_known.true);
      writes = c.loop-k.invariant.writes;
      known = c.loop-k.invariant.known;
      counted = omega (arith, asked-known c.args.basis.known.now c.loop-k.k (sym c.is_known.ensures ∙ c.if-is_known.true));
    }

pub loop-k-preserved-in-None : goal.loop-k-preserved-in-None
loop-k-preserved-in-None g c =
    record {
      refining = refining-none c.args.basis.invs.now c.args.graph.now c.loop-k.graph c.loop-k.k (splits_of c.loop-k.run_log c.loop-k.spans) none c.loop-k.invariant.refining c.loop-k-test.true c.in-None.ensures.found;
      writes = c.loop-k.invariant.writes;
      known = c.loop-k.invariant.known;
      counted = omega (arith, asked-unknown c.args.basis.known.now c.loop-k.k (sym c.is_known.ensures ∙ c.if-is_known.false), c.in-None.ensures.counted);
    }

pub loop-k-preserved : goal.loop-k-preserved
loop-k-preserved g c =
    let ss : List Split = splits_of c.loop-k.run_log c.loop-k.spans in
    let s : Split = split_by c.loop-k.graph c.in-Some.path.now c.loop-k.k in
    let more : List Split = splits_of c.divide.new.run_log c.divide.new.spans in
    let f : more ≡ ss ++ s ∷ [] = adds-told c.loop-k.run_log c.divide.new.run_log c.loop-k.spans c.divide.new.spans s c.loop-k.invariant.writes.paths c.in_ok-divide-in-Some.ensures.adds in
    record {
      refining = subst (λ (z : List Split). IsRefining c.args.basis.invs.now c.args.graph.now c.divide.new.graph c.loop-k.k z) (sym f)
          (refining-some c.args.basis.invs.now c.args.graph.now c.loop-k.graph c.divide.new.graph c.loop-k.k ss none c.in-Some.path.now c.requires.opened c.requires.hold c.loop-k.invariant.refining
          c.loop-k-test.true c.in_ok-divide-in-Some.ensures.room c.in-Some.ensures.found c.in_ok-divide-in-Some.ensures.split);
      writes = writing-more c.args.run_log.now c.loop-k.run_log c.divide.new.run_log c.args.spans.now c.loop-k.spans c.divide.new.spans s c.loop-k.invariant.writes c.in_ok-divide-in-Some.ensures.adds;
      known = known-some c.args.basis.invs.now c.args.graph.now c.loop-k.graph c.divide.new.graph c.loop-k.k ss c.in-Some.path.now c.args.basis.known.now c.requires.opened c.loop-k.invariant.refining
          c.in_ok-divide-in-Some.ensures.split c.loop-k.invariant.known;
      counted = omega (arith, ap (λ (z : List Split). length z) f, length-append ss (s ∷ []), c.in-Some.ensures.counted);
    }

-- what holds, holds where there is an error
on_err : {T E P : Type 0} (r : Result T E) → P → OnErr r P
on_err (Ok _) p = tt
on_err (Err _) p = p

pub returns-in_err-divide-in-Some-clause-full : goal.returns-in_err-divide-in-Some-clause-full
returns-in_err-divide-in-Some-clause-full g c =
    let ss : List Split = splits_of c.loop-k.run_log c.loop-k.spans in
    on_err c.from_residual.result (subst (IsFull c.args.basis.invs.now) (sym c.in_err-divide-in-Some.ensures.graph)
    (refining-full c.args.basis.invs.now c.args.graph.now c.loop-k.graph c.loop-k.k ss none c.in-Some.path.now c.requires.opened c.requires.hold c.loop-k.invariant.refining c.loop-k-test.true
    c.in_err-divide-in-Some.ensures.full c.in-Some.ensures.found))

pub returns-in_err-divide-in-Some-clause-excludes : goal.returns-in_err-divide-in-Some-clause-excludes
returns-in_err-divide-in-Some-clause-excludes g c =
    let ss : List Split = splits_of c.loop-k.run_log c.loop-k.spans in
    on_err c.from_residual.result
    (refining-excludes c.args.basis.invs.now c.args.graph.now c.loop-k.graph c.loop-k.k ss none c.in-Some.path.now c.requires.opened c.requires.hold c.loop-k.invariant.refining c.loop-k-test.true
    c.in_err-divide-in-Some.ensures.full c.in-Some.ensures.found)

pub returns-in_err-divide-in-Some-clause-rests : goal.returns-in_err-divide-in-Some-clause-rests
returns-in_err-divide-in-Some-clause-rests g c h =
    let ss : List Split = splits_of c.loop-k.run_log c.loop-k.spans in
    absurd (refining-rests c.args.basis.invs.now c.args.graph.now c.loop-k.graph c.loop-k.k ss none c.in-Some.path.now h.names c.requires.opened c.requires.hold c.loop-k.invariant.refining c.loop-k-test.true
    c.in_err-divide-in-Some.ensures.full c.in-Some.ensures.found h.rests h.few)

pub returns-in_err-divide-in-Some-clause-stands : goal.returns-in_err-divide-in-Some-clause-stands
returns-in_err-divide-in-Some-clause-stands g c =
    let ss : List Split = splits_of c.loop-k.run_log c.loop-k.spans in
    let same : splits_of c.divide.new.run_log c.divide.new.spans ≡ ss =
    ap₂ (λ (l : RunLists) (s : Numbers). splits_of l s) c.in_err-divide-in-Some.ensures.run_log c.in_err-divide-in-Some.ensures.spans in
    let counted : ℕ = c.least_violation.new.steps - c.args.steps.now in
    on_err c.from_residual.result
    (subst₂ (λ (p : Parts) (z : List Split). IsStopped c.args.basis.invs.now c.args.graph.now p z counted) (sym c.in_err-divide-in-Some.ensures.graph) (sym same)
    (refining-stopped c.args.basis.invs.now c.args.graph.now c.loop-k.graph c.loop-k.k counted ss c.loop-k.invariant.refining
    (omega (arith, asked-few c.args.basis.known.now c.loop-k.k, c.loop-k-test.true, c.in-Some.ensures.counted, c.loop-k.invariant.counted))))

pub returns-clause-ok : goal.returns-clause-ok
returns-clause-ok g c =
    refining-end c.args.basis.invs.now c.args.graph.now c.loop-k.graph c.loop-k.k (splits_of c.loop-k.run_log c.loop-k.spans) c.loop-k.invariant.refining c.loop-k-test.false

pub returns-clause-fewer : goal.returns-clause-fewer
returns-clause-fewer g c =
    refining-fewer c.args.basis.invs.now c.args.graph.now c.loop-k.graph c.loop-k.k (splits_of c.loop-k.run_log c.loop-k.spans) c.requires.opened c.requires.hold c.loop-k.invariant.refining
