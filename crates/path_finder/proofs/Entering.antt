-- What is kept when a pair is entered.
use Rattle.std.proofs.Common.{◌≡◌, ℕ, ◌*◌, ◌<◌, true, List, ◌∷◌, sym, subst, arith}
use Rattle.invariants.specs.Monitors.{run, is_bad}
use Rattle.partition_model.specs.Graphs.{word}
use Rattle.path_finder.specs.declared.pair.TheConstants.{STATES}
use Rattle.path_finder.specs.declared.pair.Pair.{Pair}
use Rattle.path_finder.specs.Walks.{Asked, IsPairOf, Leads, EndsBadly}
use Rattle.path_finder.specs.Tables.{place}

-- the place of a pair is within the table
pub place_within : (a : Asked) (r : Pair) → IsPairOf a r → place r < a.ids * STATES
place_within a r p =
    let i : r.id < a.ids = p.id in
    let s : r.state < 3 = p.state in
    omega arith

-- from a pair that leads to another, the walks of the other go on
pub ends_before : (a : Asked) (p q : Pair) (xs : List ℕ) → Leads a p q → EndsBadly a q xs → EndsBadly a p (q.id ∷ xs)
ends_before a p q xs l b = record { walk = (l.edge, b.walk); bad = subst (λ (x : ℕ). is_bad a.inv (run a.inv x (word a.graph xs)) ≡ true) (sym l.step) b.bad }
