-- The pairs to which edges lead.
use Rattle.std.proofs.Common.{◌≡◌, ℕ, ◌<◌, ◌≤◌, true, refl, arith}
use Rattle.invariants.proofs.Agree.{step-le}
use Rattle.partition_graph.specs.Parts.{HasEdgesBelow}
use Rattle.path_finder.specs.declared.pair.Pair.{Pair}
use Rattle.path_finder.specs.Walks.{Asked, state_at, IsPairOf, Leads}

-- a monitor has three states
pub state_small : (a : Asked) (s q : ℕ) → s < 3 → state_at a s q < 3
state_small a s q l = let k : state_at a s q ≤ 2 = step-le a.inv.kind a.inv.a a.inv.b s (a.graph.typ q) (omega arith) in omega arith

-- the pair to which an edge to q leads
abbrev pub pair_after : Asked → Pair → ℕ → Pair
pair_after a r q = record { id = q; state = state_at a r.state q }

-- an edge leads to a pair
pub after_is_pair : (a : Asked) (r : Pair) (q : ℕ) → HasEdgesBelow a.graph a.ids → IsPairOf a r → a.graph.edge r.id q ≡ true → IsPairOf a (pair_after a r q)
after_is_pair a r q w p e = record { id = (w r.id q e).1; state = state_small a r.state q p.state }

-- an edge leads to the pair after it
pub leads_after : (a : Asked) (r : Pair) (q : ℕ) → a.graph.edge r.id q ≡ true → Leads a r (pair_after a r q)
leads_after a r q e = record { edge = e; step = refl }
