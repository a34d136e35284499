use Rattle.std.proofs.Common.{◌≡◌, ◌<◌, ◌≤◌, ◌^◌, ℕ, List, ap, sym, ◌∙◌, subst, arith}
use Rattle.limits.specs.declared.TheConstants.{FIRST_TYPE, INITIAL, MAX_PARTITIONS}
use Rattle.partition_model.specs.Assignments.{G}
use Rattle.partition_model.specs.Coarsening.{merge, IsPair}
use Rattle.partition_graph.specs.declared.cells.Cell.{Cell}
use Rattle.partition_graph.specs.Cells.{traces_of, joined_cells}
use Rattle.partition_graph.specs.Parts.{Parts}
use Rattle.partition_graph.specs.Counts.{edges_along}
use Rattle.partition_graph.specs.Joins.{joined_counts}
use Rattle.partition_graph.specs.Tables.{count_at, IsCountOf}
use Rattle.partition_graph.proofs.Gathered.{starts}
use Rattle.partition_graph.proofs.Moving.{moved_ids}
use Rattle.partition_graph.proofs.Joined.{joined_are, joined_kept}
use Rattle.partition_graph.proofs.JoinedEdges.{joined-few, two-sizes}
use Rattle.partition_graph.proofs.Retyping.{counted-of, joined-count, pair-below}
use Rattle.partition_graph.proofs.graph.PartGraph.merge.Goals as goal
use Rattle.partition_graph.proofs.graph.PartGraph.merge.Goals.{After-self}

-- the pair is one of the cells' traces
pair : (c : After-self) → IsPair (G (traces_of c.self.inside.events)) c.args.p c.args.q
pair c = subst (λ (x : Parts). IsPair (G x.traces) c.args.p c.args.q) (sym c.self.view_is) c.requires

second : (c : After-self) → (c.args.p < c.args.q) × (c.args.q < MAX_PARTITIONS)
second c =
    let g = c.self.inside in
    let below : c.args.q < g.used = pair-below g.events g.firsts.items g.tables g.used c.args.p c.args.q c.self.invariant (pair c) in
    ((pair c).order, omega (arith, below, c.self.invariant.limit))

-- what is counted once the two are one
counts : (c : After-self) (a b : ℕ) → a < MAX_PARTITIONS → b < MAX_PARTITIONS
    → (joined_counts c.args.p c.args.q (count_at c.self.inside.tables) a b ≡ edges_along INITIAL (joined_cells c.args.p c.args.q c.self.inside.events) a b)
    × (joined_counts c.args.p c.args.q (count_at c.self.inside.tables) a b < 2 ^ 32)
counts c =
    let g = c.self.inside in
    let s = second c in
    let low : FIRST_TYPE ≤ c.args.p = (pair c).low in
    joined-few c.args.p c.args.q g.events (count_at g.tables) (λ e. absurd (omega (arith, s.0, e))) low (omega (arith, low, s.0)) s.1 (omega (arith, s.0, s.1))
    (moved_ids g.used g.events c.self.invariant.limit c.self.invariant.below c.self.invariant.typed) c.self.invariant.few
    (counted-of g.events g.firsts.items g.tables g.used c.self.invariant).counts

pub join-requires-clause-to : goal.join-requires-clause-to
join-requires-clause-to c = let s = second (goal.at.join-requires-clause-to c).After-self in omega (arith, s.0, s.1)

pub join-requires-clause-from : goal.join-requires-clause-from
join-requires-clause-from c = (second (goal.at.join-requires-clause-from c).After-self).1

pub join-requires-clause-apart : goal.join-requires-clause-apart
join-requires-clause-apart c = let s = second (goal.at.join-requires-clause-apart c).After-self in λ e. absurd (omega (arith, s.0, e))

pub join-requires-clause-few : goal.join-requires-clause-few
join-requires-clause-few c =
    let g = c.self.inside in
    let s = second (goal.at.join-requires-clause-few c).After-self in
    let counted = counted-of g.events g.firsts.items g.tables g.used c.self.invariant in
    omega (arith, counted.sizes c.args.p (omega (arith, s.0, s.1)), counted.sizes c.args.q s.1, two-sizes c.args.p c.args.q g.events (λ e. absurd (omega (arith, s.0, e))), c.self.invariant.few)

pub join-requires-clause-few_edges : goal.join-requires-clause-few_edges
join-requires-clause-few_edges c = λ a b a_low b_low. (counts (goal.at.join-requires-clause-few_edges c).After-self a b a_low b_low).1

pub join-requires-2-clause-to : goal.join-requires-2-clause-to
join-requires-2-clause-to c = let s = second (goal.at.join-requires-2-clause-to c).After-self in omega (arith, s.0, s.1)

pub join-requires-2-clause-from : goal.join-requires-2-clause-from
join-requires-2-clause-from c = (second (goal.at.join-requires-2-clause-from c).After-self).1

pub join-requires-2-clause-apart : goal.join-requires-2-clause-apart
join-requires-2-clause-apart c = let s = second (goal.at.join-requires-2-clause-apart c).After-self in λ e. absurd (omega (arith, s.0, e))

pub invariant_of-self : goal.invariant_of-self
invariant_of-self c =
    let s : After-self = (goal.at.invariant_of-self c).After-self in
    let g = c.self.inside in
    joined_kept c.args.p c.args.q g.used g.events c.join-2.new.self g.firsts.items g.tables c.join.new.self c.self.invariant (pair s) c.join-2.ensures
    (subst (λ (cs : List Cell). IsCountOf c.join.new.self cs) (sym c.join-2.ensures)
    (joined-count c.args.p c.args.q g.events g.firsts.items g.tables c.join.new.self g.used c.self.invariant (pair s) c.join.ensures.types c.join.ensures.sizes
    (λ a b a_low b_low. c.join.ensures.counts a b a_low b_low ∙ (counts s a b a_low b_low).0)))

pub returns : goal.returns
returns c =
    let g = c.self.inside in
    let used : g.used ≡ c.args.self.now.used = ap (λ (x : Parts). x.used) c.self.view_is in
    let t : traces_of c.join-2.new.self ≡ merge c.args.p c.args.q c.args.self.now.traces =
    ap (λ (cs : List Cell). traces_of cs) c.join-2.ensures ∙ joined_are c.args.p c.args.q g.events
    ∙ ap (λ (x : Parts). merge c.args.p c.args.q x.traces) c.self.view_is in
    starts (traces_of c.join-2.new.self) (merge c.args.p c.args.q c.args.self.now.traces) g.used c.args.self.now.used t used
