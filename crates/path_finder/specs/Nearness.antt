-- Ids that walks lead to from given ids, and a graph restricted to the edges of some ids.
use Rattle.std.specs.Prelude.{ℕ, ◌≡◌, ◌≢◌, ◌==◌, ◌&&◌, nat_lt, Bool, true, false, List, slice_index_or}
use Rattle.std.specs.List.{AllByRecursion}
use Rattle.invariants.specs.declared.Kind.{Kind}
use Rattle.invariants.specs.declared.Kind.TheVariants.{AF, NF, AP, IB}
use Rattle.partition_model.specs.Graphs.{Graph}
use Rattle.partition_graph.specs.declared.view.View.{View}
use Rattle.partition_graph.specs.declared.view.View.TheVariants.{Plain, Merged}

-- a flag for each id that says whether it is met, and the list of the met ids
pub record Met : Type 0 where
  pub flags : List Bool
  pub list : List ℕ

-- whether the id is met
abbrev pub is_met : Met → ℕ → Bool
is_met m p = slice_index_or m.flags p false

-- the graph without the edges that have an end that is not kept
abbrev pub narrowed : (ℕ → Bool) → Graph → Graph
narrowed kept g =
    record { typ = g.typ; edge = λ p q. (kept p && kept q) && g.edge p q; listed = g.listed }

-- each id that an edge leads to from a met id is met
abbrev pub IsClosed : (ℕ → Bool) → (ℕ → ℕ → Bool) → Type 0
IsClosed met edge = (p q : ℕ) → met p ≡ true → edge p q ≡ true → met q ≡ true

-- these ids are met, and so is each id that a walk leads to from one of them
pub record IsReachedFrom (met starts : ℕ → Bool) (edge : ℕ → ℕ → Bool) : Type 0 where
  pub first : (p : ℕ) → starts p ≡ true → met p ≡ true
  pub along : IsClosed met edge

-- whether the id is below this number and has the type
abbrev pub is_of_type : Graph → ℕ → ℕ → ℕ → Bool
is_of_type g ids typ p = nat_lt p ids && (g.typ p == typ)

-- the type that occurs in every word that breaks the invariant
abbrev pub key_of : Kind → ℕ → ℕ → ℕ
key_of AF a b = a
key_of NF a b = a
key_of AP a b = b
key_of IB a b = a

-- the path does not contain the id that a merged view removes
abbrev pub AvoidsGone : View → List ℕ → Type 0
AvoidsGone (Plain g) path = Unit {0}
AvoidsGone (Merged g p q) path = AllByRecursion (λ x. x ≢ q) path
