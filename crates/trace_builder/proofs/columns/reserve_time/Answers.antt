use Rattle.std.proofs.Common.{ap, sym, ◌∙◌, arith, vec_len}
use Rattle.traces.specs.Columns.{times_beside}
use Rattle.traces.proofs.Zeros.{zeros-fill}
use Rattle.trace_builder.proofs.columns.reserve_time.Goals.{then-len-events+in_ok-resize, else-len-events}
use Rattle.trace_builder.proofs.columns.reserve_time.Goals as goal

pub returns-clause-same : goal.returns-clause-same
returns-clause-same c = λ numbers long beside. elim c.if-len-events.branch [
  | then-len-events+in_ok-resize w ↦
      ap (times_beside numbers) (c.reserve.ensures.items ∙ ap (λ times. times.items) w.times-is)
      ∙ zeros-fill numbers c.args.times.now.items w.resize.new.self.items c.args.events (vec_len c.args.times.now) beside long (sym c.args.times.now.ok.0)
      (omega (arith, w.if-len-events.true, c.len.ensures)) w.in_ok-resize.ensures.items
  | else-len-events w ↦ ap (times_beside numbers) (c.reserve.ensures.items ∙ ap (λ times. times.items) w.times-is)
]
