use Rattle.std.proofs.Common.{◌≡◌, ◌<◌, length, map, sym, ap, ◌∙◌, arith}
use Rattle.std.proofs.lemmas.List.{length-map}
use Rattle.reports.specs.Paths.{paths_of, shown, total, trace_path}
use Rattle.reports.proofs.Counted.{taken-fold, total-with}
use Rattle.reports.proofs.Noted.{length-with}
use Rattle.reports.proofs.Traced.{next-left, noted-step, left-step, all-noted}
use Rattle.reports.proofs.taken.taken_paths.Goals as goal

pub split_at-requires : goal.split_at-requires
split_at-requires c =
    let traces = c.args.traces.now.traces in
    let inside : c.loop-t.t < length traces = omega (arith, c.loop-t-test.true, c.trace_count-t-end.ensures) in
    omega (arith, next-left traces c.loop-t.t c.events-types.result.now inside c.events-types.ensures.events, c.loop-t.invariant.left)

pub loop-t-preserved : goal.loop-t-preserved
loop-t-preserved c =
    let traces = c.args.traces.now.traces in
    let events = c.events-types.result.now in
    let inside : c.loop-t.t < length traces = omega (arith, c.loop-t-test.true, c.trace_count-t-end.ensures) in
    let noted = c.in_ok-note.ensures.noted in
    record {
      lists = c.in_ok-note.ensures.lists;
      all = noted-step traces c.loop-t.t events c.loop-t.rest.now c.split_at.result.0.now c.split_at.result.1.now (map shown c.loop-t.paths.items) (map shown c.note.new.paths.items) _ inside
          c.events-types.ensures.events c.split_at.ensures.front c.split_at.ensures.back noted c.loop-t.invariant.all;
      left = left-step traces c.loop-t.t events c.loop-t.rest.now c.split_at.result.1.now inside c.events-types.ensures.events c.split_at.ensures.back c.loop-t.invariant.left;
      few = omega (arith, ap length noted, length-map c.loop-t.paths.items shown, length-map c.note.new.paths.items shown, length-with (map shown c.loop-t.paths.items) (trace_path events c.split_at.result.0.now), c.loop-t.invariant.few);
      count = ap total noted ∙ omega (arith, total-with (map shown c.loop-t.paths.items) (trace_path events c.split_at.result.0.now), c.loop-t.invariant.count);
    }

pub returns : goal.returns
returns c =
    let traces = c.args.traces.now.traces in
    let end : length traces ≡ c.loop-t.t = omega (arith, c.loop-t-test.false, c.loop-t.auto.t-end, c.trace_count-t-end.ensures) in
    sym (all-noted traces c.loop-t.t c.loop-t.rest.now (map shown c.loop-t.paths.items) end)
    ∙ (c.loop-t.invariant.all ∙ sym (taken-fold (paths_of traces c.args.parts.now)))
