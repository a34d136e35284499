-- An invariant is satisfied, or it has a least violation.
use Rattle.std.proofs.Common.{◌≡◌, ◌⊎◌, ℕ, suc, ◌+◌, ◌*◌, ◌<◌, ◌≤◌, true, false, List, [], ◌∷◌, length, sym, ◌∙◌, refl, subst, inl, inr, arith}
use Rattle.std.proofs.lemmas.Bool.{cases_lt, cases_Bool}
use Rattle.invariants.specs.declared.Invariant.{Invariant}
use Rattle.invariants.specs.Holds.{Holds}
use Rattle.invariants.specs.Monitors.{step, run, is_bad}
use Rattle.invariants.proofs.Agree.{monitor_agrees}
use Rattle.partition_model.specs.Graphs.{Graph, IsPath, word, Breaks, IsBefore, IsFormed}
use Rattle.partition_model.specs.Listings.{ids_below}
use Rattle.partition_model.proofs.Listing.{Contains-In, range-In}
use Rattle.partition_bounds.specs.Laws.{IsBelow}
use Rattle.partition_bounds.proofs.Pairing.{range-count}
use Rattle.partition_bounds.proofs.Short.{least_is_short}
use Rattle.refinement_end.specs.Laws.{HasLeast, LeastExists, SatisfiedOrViolated}
use Rattle.refinement_end.proofs.Searching.{IsFirstWith, HasNone, EndsBadly, HasWalk, AreSearched, EdgesBelow, has-walk, first-below, searched}

-- the state after INITIAL
abbrev start : Graph → Invariant → ℕ
start g inv = step inv 0 (g.typ 0)

-- a path that breaks the invariant is a walk from INITIAL that ends badly
breaks-ends : (g : Graph) (inv : Invariant) (x : ℕ) (xs : List ℕ) → Breaks g inv (x ∷ xs) → EndsBadly g inv 0 (start g inv) xs
breaks-ends g inv x xs b =
    elim (cases_Bool (is_bad inv (run inv 0 (word g (x ∷ xs))))) [
      | inl t ↦ subst (λ (z : ℕ). EndsBadly g inv z (step inv 0 (g.typ z)) xs) b.0.0 (b.0.1, t)
      | inr f ↦ absurd (b.1 ((monitor_agrees inv (word g (x ∷ xs))).0 f))
    ]

-- and such a walk is a path that breaks it
ends-breaks : (g : Graph) (inv : Invariant) (xs : List ℕ) → EndsBadly g inv 0 (start g inv) xs → Breaks g inv (0 ∷ xs)
ends-breaks g inv xs e = (
  (refl, e.0),
  λ h. let c : true ≡ false = sym e.1 ∙ (monitor_agrees inv (word g (0 ∷ xs))).1 h in absurd (cc c),
)

-- the first walk of the least length is the least violation
least-of : (g : Graph) (inv : Invariant) (k : ℕ) → ((j : ℕ) → AreSearched g inv j) → IsFirstWith (HasWalk g inv 0 (start g inv)) k → HasLeast g inv
least-of g inv k known f = (
  0 ∷ f.0.0,
  record {
    breaks = ends-breaks g inv f.0.0 f.0.1.ends;
    shortest = λ other b. shortest other b;
    first = λ other b l o. first other b l o;
  },
)
  where
    shortest : (other : List ℕ) → Breaks g inv other → suc (length f.0.0) ≤ length other
    shortest [] b = absurd b.0
    shortest (x ∷ ys) b =
        elim (cases_lt (length ys) k) [
          | inl l ↦ absurd (f.1 (length ys) l (has-walk g inv 0 (start g inv) (length ys) ys (known (length ys)) refl (breaks-ends g inv x ys b)))
          | inr l ↦ let e : length f.0.0 ≡ k = f.0.1.long in omega arith
        ]

    first : (other : List ℕ) → Breaks g inv other → length other ≡ suc (length f.0.0) → IsBefore other (0 ∷ f.0.0) → ⊥
    first [] b l o = o
    first (x ∷ ys) b l (inl lt) = absurd (omega arith)
    first (x ∷ ys) b l (inr o) =
        f.0.1.first ys (let e : length f.0.0 ≡ k = f.0.1.long in omega arith) (breaks-ends g inv x ys b) o.1

-- each number is the length of a walk from INITIAL that ends badly, or not
walk-or-not : (g : Graph) (inv : Invariant) → ((j : ℕ) → AreSearched g inv j) → (k : ℕ) → HasWalk g inv 0 (start g inv) k ⊎ (HasWalk g inv 0 (start g inv) k → ⊥)
walk-or-not g inv known k =
    elim (known k 0 (start g inv)) [
      | inl o ↦ inl o
      | inr none ↦ inr (λ z. none z.0 z.1.long z.1.ends)
    ]

-- there is a least violation, or no walk from INITIAL with fewer than m edges ends badly
least-below : (g : Graph) (inv : Invariant) (m : ℕ) → ((j : ℕ) → AreSearched g inv j) → HasLeast g inv ⊎ HasNone (HasWalk g inv 0 (start g inv)) m
least-below g inv m known =
    elim (first-below (HasWalk g inv 0 (start g inv)) (walk-or-not g inv known) m) [
      | inl f ↦ inl (least-of g inv f.0 known f.2)
      | inr none ↦ inr none
    ]

-- a path with fewer edges that breaks the invariant is then impossible
not-short : (g : Graph) (inv : Invariant) (m : ℕ) (path : List ℕ) → ((j : ℕ) → AreSearched g inv j) → HasNone (HasWalk g inv 0 (start g inv)) m → Breaks g inv path → length path ≤ m → ⊥
not-short g inv m [] known none b l = absurd b.0
not-short g inv m (x ∷ xs) known none b l =
    none (length xs) (omega arith) (has-walk g inv 0 (start g inv) (length xs) xs (known (length xs)) refl (breaks-ends g inv x xs b))

-- the edges of a formed graph go to listed ids
edges-below : (g : Graph) (n : ℕ) → IsFormed g → IsBelow n g → EdgesBelow n g
edges-below g n f below p q e = below q (f.between p q e).1

-- there is a least violation if some path breaks the invariant
pub least_exists : LeastExists
least_exists g inv path n f below b =
    let known : (j : ℕ) → AreSearched g inv j = searched g inv n (edges-below g n f below) in
    elim (least-below g inv (length path) known) [
      | inl v ↦ v
      | inr none ↦ absurd (not-short g inv (length path) path known none b (omega arith))
    ]

-- no path breaks the invariant if no short one does, since a least violation is short
none-breaks : (g : Graph) (inv : Invariant) (n : ℕ) (path : List ℕ) → IsFormed g → IsBelow n g → HasNone (HasWalk g inv 0 (start g inv)) (3 * n) → Breaks g inv path → ⊥
none-breaks g inv n path f below none b =
    let known : (j : ℕ) → AreSearched g inv j = searched g inv n (edges-below g n f below) in
    let v : HasLeast g inv = least_exists g inv path n f below b in
    let c : length (ids_below n) ≡ n = range-count 0 n in
    let s : length v.0 + 4 ≤ 3 * length (ids_below n) =
    least_is_short g inv v.0 (ids_below n) f (λ p l. Contains-In p (ids_below n) (range-In 0 n p (omega arith) (let u : p < n = below p l in omega arith))) v.1 in
    not-short g inv (3 * n) v.0 known none v.1.breaks (omega arith)

-- the word of a path that does not break the invariant keeps it
holds-unless : (g : Graph) (inv : Invariant) (path : List ℕ) → IsPath g path → (Breaks g inv path → ⊥) → Holds inv (word g path)
holds-unless g inv path p n =
    elim (cases_Bool (is_bad inv (run inv 0 (word g path)))) [
      | inl t ↦ absurd (n (p, λ h. let c : true ≡ false = sym t ∙ (monitor_agrees inv (word g path)).1 h in absurd (cc c)))
      | inr f ↦ (monitor_agrees inv (word g path)).0 f
    ]

-- a graph satisfies an invariant, or it has a least violation of it
pub satisfied_or_violated : SatisfiedOrViolated
satisfied_or_violated g inv n f below =
    elim (least-below g inv (3 * n) (searched g inv n (edges-below g n f below))) [
      | inl v ↦ inr v
      | inr none ↦ inl (λ path p. holds-unless g inv path p (none-breaks g inv n path f below none))
    ]
