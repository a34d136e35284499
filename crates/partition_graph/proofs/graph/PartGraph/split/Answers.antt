use Rattle.std.proofs.Common.{◌≡◌, ◌<◌, ◌+◌, List, ap, sym, ◌∙◌, subst, arith}
use Rattle.limits.specs.declared.TheConstants.{MAX_PARTITIONS}
use Rattle.partition_model.specs.Assignments.{Event}
use Rattle.partition_model.specs.Refinement.{split}
use Rattle.partition_graph.specs.declared.cells.Cell.{Cell}
use Rattle.partition_graph.specs.Cells.{traces_of, moved_cells}
use Rattle.partition_graph.specs.Parts.{Parts}
use Rattle.partition_graph.specs.Tables.{HasCountsOf, IsCountOf}
use Rattle.partition_graph.proofs.Gathered.{starts}
use Rattle.partition_graph.proofs.Moving.{all_cells, moved_are, moved_ids, moved-none, still_kept}
use Rattle.partition_graph.proofs.Members.{none-above}
use Rattle.partition_graph.proofs.Retyping.{counted-of, moved-count}
use Rattle.partition_graph.proofs.graph.PartGraph.split.Goals as goal
use Rattle.partition_graph.proofs.graph.PartGraph.split.Goals.{After-divide}

few_used : (c : After-divide) → c.self.inside.used < MAX_PARTITIONS
few_used c = omega (arith, c.self.invariant.limit, c.if-self-eq-MAX_PARTITIONS.false)

pub divide-requires-clause-two : goal.divide-requires-clause-two
divide-requires-clause-two c = c.self.invariant.two

pub divide-requires-clause-new : goal.divide-requires-clause-new
divide-requires-clause-new c =
    let g = c.self.inside in
    none-above g.used g.used g.events (omega arith) (all_cells (λ (e : Event). e.id < g.used) g.events c.self.invariant.below)

pub divide-requires-clause-ids : goal.divide-requires-clause-ids
divide-requires-clause-ids c =
    let g = c.self.inside in
    moved_ids g.used g.events c.self.invariant.limit c.self.invariant.below c.self.invariant.typed

pub divide-requires-clause-counted : goal.divide-requires-clause-counted
divide-requires-clause-counted c =
    let g = c.self.inside in
    let counted = counted-of g.events g.firsts.items g.tables g.used c.self.invariant in
    record { sizes = counted.sizes; counts = counted.counts }

-- the graph in which nothing moves, since no event has the id
pub invariant_of-self : goal.invariant_of-self
invariant_of-self c =
    let g = c.self.inside in
    still_kept c.args.p c.args.next g.used g.events g.events g.firsts.items g.tables g.tables c.self.invariant (omega (arith, c.self.invariant.limit, c.if-self-eq-MAX_PARTITIONS.false))
    (moved-none c.args.p c.args.next g.used g.events (none-above g.used c.args.p g.events c.if-p-n.true (all_cells (λ (e : Event). e.id < g.used) g.events c.self.invariant.below)))
    (counted-of g.events g.firsts.items g.tables g.used c.self.invariant)

pub returns-then-p-n : goal.returns-then-p-n
returns-then-p-n c =
    let g = c.self.inside in
    let used : g.used ≡ c.args.self.now.used = ap (λ (x : Parts). x.used) c.self.view_is in
    let none : g.events ≡ moved_cells c.args.p c.args.next g.used g.events =
    moved-none c.args.p c.args.next g.used g.events (none-above g.used c.args.p g.events c.if-p-n.true (all_cells (λ (e : Event). e.id < g.used) g.events c.self.invariant.below)) in
    let t : traces_of g.events ≡ split c.args.p c.args.next c.args.self.now.used c.args.self.now.traces =
    ap (λ (cs : List Cell). traces_of cs) none ∙ moved_are c.args.p c.args.next g.used g.events c.self.invariant.closed
    ∙ ap (λ (x : Parts). split c.args.p c.args.next x.used x.traces) c.self.view_is in
    (used, omega (arith, c.self.invariant.limit, c.if-self-eq-MAX_PARTITIONS.false), starts (traces_of g.events) (split c.args.p c.args.next c.args.self.now.used c.args.self.now.traces) (g.used + 1) (c.args.self.now.used + 1) t (ap (λ n. n + 1) used))

pub invariant_of-self-2 : goal.invariant_of-self-2
invariant_of-self-2 c =
    let d : After-divide = (goal.at.invariant_of-self-2 c).After-divide in
    let g = c.self.inside in
    still_kept c.args.p c.args.next g.used g.events c.divide.new.self g.firsts.items g.tables c.divide.new.tables c.self.invariant (few_used d) c.divide.ensures.cells
    (subst (λ (cs : List Cell). IsCountOf c.divide.new.tables cs) (sym c.divide.ensures.cells)
    (moved-count c.args.p c.args.next g.events g.firsts.items g.tables c.divide.new.tables g.used c.self.invariant c.if-p-n.false c.divide.ensures.types
    (subst (λ (cs : List Cell). HasCountsOf c.divide.new.tables cs) c.divide.ensures.cells c.divide.ensures.counted)))

pub returns : goal.returns
returns c =
    let d : After-divide = (goal.at.returns c).After-divide in
    let g = c.self.inside in
    let used : g.used ≡ c.args.self.now.used = ap (λ (x : Parts). x.used) c.self.view_is in
    let t : traces_of c.divide.new.self ≡ split c.args.p c.args.next c.args.self.now.used c.args.self.now.traces =
    ap (λ (cs : List Cell). traces_of cs) c.divide.ensures.cells ∙ moved_are c.args.p c.args.next g.used g.events c.self.invariant.closed
    ∙ ap (λ (x : Parts). split c.args.p c.args.next x.used x.traces) c.self.view_is in
    (used, few_used d, starts (traces_of c.divide.new.self) (split c.args.p c.args.next c.args.self.now.used c.args.self.now.traces) (g.used + 1) (c.args.self.now.used + 1) t (ap (λ n. n + 1) used))
