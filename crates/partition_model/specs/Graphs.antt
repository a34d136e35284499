-- Graphs of partitions, their paths, and the words of these.
use Rattle.std.specs.Prelude.{◌≡◌, ◌==◌, ◌&&◌, ◌||◌, not, ℕ, ◌<◌, ◌≤◌, ◌⊎◌, Bool, true, List, [], ◌∷◌, map, length}
use Rattle.limits.specs.declared.TheConstants.{INITIAL, TERMINAL}
use Rattle.invariants.specs.declared.Invariant.{Invariant}
use Rattle.invariants.specs.Holds.{Holds}

-- typ p is the type of the id p, edge p q says whether there is an edge from p to q,
-- and listed p says whether the graph has the id p. Paths depend on the edges only.
pub record Graph : Type 0 where
  pub typ : ℕ → ℕ
  pub edge : ℕ → ℕ → Bool
  pub listed : ℕ → Bool

-- p and then the list follow edges, and end with q
abbrev pub Walk : Graph → ℕ → List ℕ → ℕ → Type 0
Walk g p [] q = p ≡ q
Walk g p (r ∷ rs) q = (g.edge p r ≡ true) × Walk g r rs q

-- a list of ids that begins with INITIAL, ends with TERMINAL and follows edges
abbrev pub IsPath : Graph → List ℕ → Type 0
IsPath g [] = ⊥
IsPath g (x ∷ xs) = (x ≡ INITIAL) × Walk g x xs TERMINAL

-- the types of a list of ids
abbrev pub word : Graph → List ℕ → List ℕ
word g path = map g.typ path

-- some path of the graph has this word
abbrev pub Accepts : Graph → List ℕ → Type 0
Accepts g w = (path : List ℕ) × IsPath g path × (word g path ≡ w)

-- the invariant holds of the word of every path
abbrev pub Satisfies : Graph → Invariant → Type 0
Satisfies g inv = (path : List ℕ) → IsPath g path → Holds inv (word g path)

-- the list is a path of the graph, and its word breaks the invariant
abbrev pub Breaks : Graph → Invariant → List ℕ → Type 0
Breaks g inv path = IsPath g path × (Holds inv (word g path) → ⊥)

-- of two lists of one length: the first is lexicographically smaller
abbrev pub IsBefore : List ℕ → List ℕ → Type 0
IsBefore [] ys = ⊥
IsBefore (x ∷ xs) [] = ⊥
IsBefore (x ∷ xs) (y ∷ ys) = (x < y) ⊎ ((x ≡ y) × IsBefore xs ys)

-- a shortest path that breaks the invariant, the first in lexicographic order among those of equal length
pub record IsLeastViolation (g : Graph) (inv : Invariant) (path : List ℕ) : Type 0 where
  pub breaks : Breaks g inv path
  pub shortest : (other : List ℕ) → Breaks g inv other → length path ≤ length other
  pub first : (other : List ℕ) → Breaks g inv other → length other ≡ length path → IsBefore other path → ⊥

-- the two ends are listed, with their own types; edges go between listed ids, none into INITIAL and none out of TERMINAL
pub record IsFormed (g : Graph) : Type 0 where
  pub start_listed : g.listed INITIAL ≡ true
  pub end_listed : g.listed TERMINAL ≡ true
  pub start_type : g.typ INITIAL ≡ INITIAL
  pub end_type : g.typ TERMINAL ≡ TERMINAL
  pub between : (p q : ℕ) → g.edge p q ≡ true → (g.listed p ≡ true) × (g.listed q ≡ true)
  pub none_into_start : (p : ℕ) → g.edge p INITIAL ≡ true → ⊥
  pub none_out_of_end : (q : ℕ) → g.edge TERMINAL q ≡ true → ⊥

-- whether there is an edge from u to v after q is replaced by p
abbrev pub merged_edge : Graph → ℕ → ℕ → ℕ → ℕ → Bool
merged_edge g p q u v =
    not (u == q) && not (v == q)
    && (g.edge u v || (u == p && g.edge q v) || (v == p && g.edge u q) || (u == p && v == p && g.edge q q))

-- the graph with q replaced by p in ids and edges
abbrev pub Merged : Graph → ℕ → ℕ → Graph
Merged g p q =
    record { typ = g.typ; edge = λ u v. merged_edge g p q u v; listed = λ u. not (u == q) && g.listed u }
