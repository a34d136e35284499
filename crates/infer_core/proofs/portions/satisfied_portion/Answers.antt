use Rattle.std.proofs.Common.{◌≡◌, Bool, List, length, sym, ap, subst, arith}
use Rattle.std.proofs.lemmas.List.{with_items_is}
use Rattle.invariants.specs.declared.Invariant.{Invariant}
use Rattle.partition_model.specs.Assignments.{G}
use Rattle.labelling.specs.Labelled.{SaysSatisfied}
use Rattle.infer_core.proofs.portions.satisfied_portion.Goals as goal

pub returns-clause-told : goal.returns-clause-told
returns-clause-told c =
    let g = G c.args.graph.now.traces in
    let long : length c.tell_satisfied.new.flags ≡ c.in_ok-flags.flags.len =
    omega (arith, c.tell_satisfied.auto.flags, ap (λ (flags : List Bool). length flags) c.as_mut_slice.ensures.value, c.in_ok-flags.flags.ok.0) in
    let told : SaysSatisfied g c.args.invs.now c.tell_satisfied.new.flags = subst (λ (invs : List Invariant). SaysSatisfied g invs c.tell_satisfied.new.flags) c.in_ok-labels.ensures.list (c.tell_satisfied.ensures g c.in_ok-labels.ensures.labels) in
    subst (λ (flags : List Bool). SaysSatisfied g c.args.invs.now flags) (sym (with_items_is c.in_ok-flags.flags c.tell_satisfied.new.flags long)) told
