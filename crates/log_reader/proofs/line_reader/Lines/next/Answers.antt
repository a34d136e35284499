use Rattle.std.proofs.Common.{true, ap, arith, subst}
use Rattle.log_reader.specs.LineReader.{SeenLines, without_line}
use Rattle.log_reader.specs.Buffers.{FindsEnd}
use Rattle.log_reader.specs.declared.cut.Cut.{Cut}
use Rattle.log_reader.proofs.Buffered.{finds-near, gives-line}
use Rattle.log_reader.proofs.line_reader.Lines.next.Goals as goal

pub returns-clause-gives : goal.returns-clause-gives
returns-clause-gives g c =
    let before = g.I.Inputs.state c.args.inputs.now in
    let after = g.I.Inputs.state c.far_end.new.inputs in
    gives-line c.args.self.now c.far_end.new.self c.take-2.new.self before after c.in-Ok.cut c.requires
    (subst (λ s. FindsEnd (without_line s) c.far_end.new.self before after c.in-Ok.cut) c.self.view_is c.in-Ok.ensures.ok) c.take-2.ensures
    (omega (arith, c.used.ensures, c.if-used-eq0.false))

pub returns-in-Some-clause-gives : goal.returns-in-Some-clause-gives
returns-in-Some-clause-gives g c =
    let state = g.I.Inputs.state c.args.inputs.now in
    let mid = without_line c.args.self.now in
    let cut : Cut = record { length = c.in-Some.length; fed = true } in
    gives-line c.args.self.now mid c.take.new.self state state cut c.requires
    (finds-near mid state c.in-Some.length c.in-Some.ensures.first c.in-Some.ensures.inside c.in-Some.ensures.limits) c.take.ensures
    (omega arith)

pub invariant_of-self : goal.invariant_of-self
invariant_of-self g c =
    let sound = c.self.invariant.0 in (
      record { size = sound.size; order = sound.order; inside = sound.inside; placed = tt; counted = sound.counted; limit = sound.limit; within = sound.within },
      c.self.invariant.1,
    )

pub invariant_of-self-in-Err : goal.invariant_of-self-in-Err
invariant_of-self-in-Err g c = c.self-2.invariant

pub take-requires-clause-inside : goal.take-requires-clause-inside
take-requires-clause-inside g c = omega (arith, c.in-Some.ensures.inside)

pub take-requires-clause-within : goal.take-requires-clause-within
take-requires-clause-within g c = omega (arith, c.in-Some.ensures.limits.within)

pub take-requires-2-clause-inside : goal.take-requires-2-clause-inside
take-requires-2-clause-inside g c = c.in-Ok.ensures.ok.inside

pub take-requires-2-clause-within : goal.take-requires-2-clause-within
take-requires-2-clause-within g c =
    let found = c.in-Ok.ensures.ok in
    omega (arith, found.limits.within, ap (λ (s : SeenLines). s.taken) found.leaves)
