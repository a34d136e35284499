use Rattle.std.proofs.Common.{ap, ◌∙◌, rules}
use Rattle.outside.proofs.Given.{front-given}
use Rattle.outside.proofs.mem_inputs.MemInputsInputs.read.Goals as goal

pub returns-clause-gives : goal.returns-clause-gives
returns-clause-gives c =
    let rest = rw c.deref-2.ensures.value at c.rest_at.ensures.rest in
    let given = front-given _ _ _ _ _ _ _ _ _ rest (rest ∙ ap (λ s. s.rest) c.self.view_is) c.self.invariant c.fill-count.ensures.count c.fill-count.ensures.front in
    (given.0, given.1, given.2, c.if-fails.ensures.none ∙ ap (λ s. s.faults) c.self.view_is)

pub returns-then-fails-clause-gives : goal.returns-then-fails-clause-gives
returns-then-fails-clause-gives c = search rules

pub returns-then-fails-clause-exact : goal.returns-then-fails-clause-exact
returns-then-fails-clause-exact c = search rules
