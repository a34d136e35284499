-- Passes over the links of a graph.
use Rattle.std.specs.Prelude.{ℕ, ◌<◌, ◌≤◌, Bool, true, false, List, Contains}
use Rattle.partition_model.specs.Graphs.{Graph}
use Rattle.partition_graph.specs.declared.links.Link.{Link}
use Rattle.labelling.specs.Found.{Found, IsPropagated, IsStill}

-- all phases found at the start of a link were propagated to its end, except from marked ids
abbrev pub ArePropagated : List Link → Graph → List Bool → Found → Type 0
ArePropagated links g marks found =
    (link : Link) → Contains links link → IsStill marks link.from
    → IsPropagated link.from (g.typ link.to) link.to found found

-- a pass up the ids, or down them if the flag is true, comes to p after it came to u
abbrev pub IsAhead : Bool → ℕ → ℕ → Type 0
IsAhead false u p = u < p
IsAhead true u p = p < u

-- a pass up the ids, or down them if the flag is true, comes to p no later than to u
abbrev pub IsBehind : Bool → ℕ → ℕ → Type 0
IsBehind false u p = p ≤ u
IsBehind true u p = u ≤ p

-- an id that is marked neither for this pass nor for the next was not marked before, and what was propagated from it
-- still is
abbrev pub KeepsAhead : List Bool → List Bool → List Bool → List Bool → Found → Found → Type 0
KeepsAhead before recent was marks old new =
    (p x q : ℕ) → IsStill recent p → IsStill marks p
    → IsStill before p × IsStill was p × (IsPropagated p x q old old → IsPropagated p x q new new)

-- an id to which the pass comes no later than to u, and which is not marked for the next pass, was not so before, and
-- what was propagated from it still is
abbrev pub KeepsBehind : Bool → ℕ → List Bool → List Bool → Found → Found → Type 0
KeepsBehind from_end u was marks old new =
    (p x q : ℕ) → IsBehind from_end u p → IsStill marks p
    → IsStill was p × (IsPropagated p x q old old → IsPropagated p x q new new)
