-- The neighbours of an id after p replaces q, in three parts.
use Rattle.std.specs.Prelude.{ℕ, ◌==◌, ◌&&◌, ◌||◌, not, Bool}
use Rattle.partition_model.specs.Graphs.{Graph}

-- u is still there and has an edge to v
abbrev pub own_source : Graph → ℕ → ℕ → ℕ → Bool
own_source g q v u = not (u == q) && g.edge u v

-- v is p, and u is still there and has an edge to q
abbrev pub gained_source : Graph → ℕ → ℕ → ℕ → ℕ → Bool
gained_source g p q v u = v == p && (not (u == q) && g.edge u q)

-- u is p, and q has an edge to v, or to itself if v is p
abbrev pub kept_source : Graph → ℕ → ℕ → ℕ → ℕ → Bool
kept_source g p q v u = u == p && (g.edge q v || (v == p && g.edge q q))

-- v is still there and u has an edge to it
abbrev pub own_target : Graph → ℕ → ℕ → ℕ → Bool
own_target g q u v = not (v == q) && g.edge u v

-- u is p, and v is still there and q has an edge to it
abbrev pub gained_target : Graph → ℕ → ℕ → ℕ → ℕ → Bool
gained_target g p q u v = u == p && (not (v == q) && g.edge q v)

-- v is p, and u has an edge to q, or q has one to itself if u is p
abbrev pub kept_target : Graph → ℕ → ℕ → ℕ → ℕ → Bool
kept_target g p q u v = v == p && (g.edge u q || (u == p && g.edge q q))
