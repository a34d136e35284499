-- A search for walks that end badly, length by length, and of each length in lexicographic order.
use Rattle.std.proofs.Common.{◌≡◌, ◌⊎◌, ℕ, zero, suc, ◌<◌, Bool, true, false, List, [], ◌∷◌, length, sym, ◌∙◌, refl, ap, subst, inl, inr, arith}
use Rattle.std.proofs.lemmas.Bool.{cases_eq, cases_lt, cases_Bool}
use Rattle.invariants.specs.declared.Invariant.{Invariant}
use Rattle.invariants.specs.Monitors.{step, run, is_bad}
use Rattle.partition_model.specs.Graphs.{Graph, Walk, word, IsBefore}

-- the number has the property, and none before it has
abbrev pub IsFirstWith : (ℕ → Type 0) → ℕ → Type 0
IsFirstWith P q = P q × ((r : ℕ) → r < q → P r → ⊥)

-- some number below n is the first with the property
abbrev pub HasFirst : (ℕ → Type 0) → ℕ → Type 0
HasFirst P n = (q : ℕ) × (q < n) × IsFirstWith P q

-- no number below n has the property
abbrev pub HasNone : (ℕ → Type 0) → ℕ → Type 0
HasNone P n = (q : ℕ) → q < n → P q → ⊥

-- if none below n has the property, none up to n has it, or n is the first
one-more : (P : ℕ → Type 0) (n : ℕ) → P n ⊎ (P n → ⊥) → HasNone P n → HasFirst P (suc n) ⊎ HasNone P (suc n)
one-more P n (inl p) none = inl (n, omega arith, (p, λ r l. none r l))
one-more P n (inr f) none =
    inr (λ q l p. elim (cases_lt q n) [
      | inl k ↦ none q k p
      | inr k ↦ let e : q ≡ n = omega arith in f (subst P e p)
    ])

-- if each number has the property or not, some number below n is the first with it, or none has it
pub first-below : (P : ℕ → Type 0) → ((q : ℕ) → P q ⊎ (P q → ⊥)) → (n : ℕ) → HasFirst P n ⊎ HasNone P n
first-below P d zero = inr (λ q l p. absurd (omega arith))
first-below P d (suc n) =
    elim (first-below P d n) [
      | inl f ↦ inl (f.0, (let l : f.0 < n = f.1 in omega arith), f.2)
      | inr none ↦ one-more P n (d n) none
    ]

-- the ids lead from p along edges to TERMINAL, and the monitor from the state s to its bad state
abbrev pub EndsBadly : Graph → Invariant → ℕ → ℕ → List ℕ → Type 0
EndsBadly g inv p s xs = Walk g p xs 1 × (is_bad inv (run inv s (word g xs)) ≡ true)

-- of the walks with k edges that end badly, this is the first in lexicographic order
pub record IsFirstWalk (g : Graph) (inv : Invariant) (p s k : ℕ) (xs : List ℕ) : Type 0 where
  pub long : length xs ≡ k
  pub ends : EndsBadly g inv p s xs
  pub first : (ys : List ℕ) → length ys ≡ k → EndsBadly g inv p s ys → IsBefore ys xs → ⊥

-- there is such a walk
abbrev pub HasWalk : Graph → Invariant → ℕ → ℕ → ℕ → Type 0
HasWalk g inv p s k = (xs : List ℕ) × IsFirstWalk g inv p s k xs

-- no walk with k edges ends badly
abbrev pub HasNoWalk : Graph → Invariant → ℕ → ℕ → ℕ → Type 0
HasNoWalk g inv p s k = (xs : List ℕ) → length xs ≡ k → EndsBadly g inv p s xs → ⊥

-- from each id and state there is a first walk with k edges that ends badly, or none ends so
abbrev pub AreSearched : Graph → Invariant → ℕ → Type 0
AreSearched g inv k = (p s : ℕ) → HasWalk g inv p s k ⊎ HasNoWalk g inv p s k

-- each edge goes to an id below n
abbrev pub EdgesBelow : ℕ → Graph → Type 0
EdgesBelow n g = (p q : ℕ) → g.edge p q ≡ true → q < n

-- a walk that ends badly gives the first of its length
pub has-walk : (g : Graph) (inv : Invariant) (p s k : ℕ) (xs : List ℕ) → AreSearched g inv k → length xs ≡ k → EndsBadly g inv p s xs → HasWalk g inv p s k
has-walk g inv p s k xs known l b = elim (known p s) [ inl o ↦ o | inr none ↦ absurd (none xs l b) ]

-- no list is before the empty one
none-before : (ys : List ℕ) → IsBefore ys [] → ⊥
none-before [] b = b
none-before (y ∷ ys) b = b

-- what is true is not false
not-both : (t : Bool) → t ≡ true → t ≡ false → ⊥
not-both t a b = let c : true ≡ false = sym a ∙ b in absurd (cc c)

-- a walk without edges ends where it begins, in its first state
no-walk : (g : Graph) (inv : Invariant) (p s : ℕ) → (p ≡ 1 → is_bad inv s ≡ true → ⊥) → HasNoWalk g inv p s 0
no-walk g inv p s n [] l b = n b.0 b.1
no-walk g inv p s n (x ∷ xs) l b = absurd (omega arith)

-- the walks without edges
no-edges : (g : Graph) (inv : Invariant) → AreSearched g inv 0
no-edges g inv p s =
    elim (cases_eq p 1) [
      | inl e ↦ elim (cases_Bool (is_bad inv s)) [
        | inl t ↦ inl ([], record { long = refl; ends = (e, t); first = λ ys l b o. none-before ys o })
        | inr f ↦ inr (no-walk g inv p s (λ a b. not-both (is_bad inv s) b f))
      ]
      | inr n ↦ inr (no-walk g inv p s (λ a b. n a))
    ]

-- an edge leads from p to q, and from there a walk with k edges ends badly
abbrev GoesOn : Graph → Invariant → ℕ → ℕ → ℕ → ℕ → Type 0
GoesOn g inv p s k q = (g.edge p q ≡ true) × HasWalk g inv q (step inv s (g.typ q)) k

-- each id is such a q or not
goes-or-not : (g : Graph) (inv : Invariant) (p s k : ℕ) → AreSearched g inv k → (q : ℕ) → GoesOn g inv p s k q ⊎ (GoesOn g inv p s k q → ⊥)
goes-or-not g inv p s k known q =
    elim (cases_Bool (g.edge p q)) [
      | inl t ↦ elim (known q (step inv s (g.typ q))) [
        | inl o ↦ inl (t, o)
        | inr none ↦ inr (λ z. none z.1.0 z.1.1.long z.1.1.ends)
      ]
      | inr f ↦ inr (λ z. not-both (g.edge p q) z.0 f)
    ]

-- the first id of a walk that ends badly is one
goes-on : (g : Graph) (inv : Invariant) (p s k q : ℕ) (xs : List ℕ) → AreSearched g inv k → length xs ≡ k → EndsBadly g inv p s (q ∷ xs) → GoesOn g inv p s k q
goes-on g inv p s k q xs known l b = (b.0.0, has-walk g inv q (step inv s (g.typ q)) k xs known l (b.0.1, b.1))

-- the least such id leads to the first walk
first-walk : (g : Graph) (inv : Invariant) (p s k q : ℕ) → AreSearched g inv k → IsFirstWith (GoesOn g inv p s k) q → HasWalk g inv p s (suc k)
first-walk g inv p s k q known f = (
  q ∷ f.0.1.0,
  record {
    long = ap suc f.0.1.1.long;
    ends = ((f.0.0, f.0.1.1.ends.0), f.0.1.1.ends.1);
    first = λ ys l b o. first ys l b o;
  },
)
  where
    first : (ys : List ℕ) → length ys ≡ suc k → EndsBadly g inv p s ys → IsBefore ys (q ∷ f.0.1.0) → ⊥
    first [] l b o = o
    first (y ∷ ys) l b (inl lt) = f.1 y lt (goes-on g inv p s k y ys known (omega arith) b)
    first (y ∷ ys) l b (inr o) =
        let e : EndsBadly g inv q (step inv s (g.typ q)) ys = subst (λ (z : ℕ). EndsBadly g inv z (step inv s (g.typ z)) ys) o.0 (b.0.1, b.1) in
        f.0.1.1.first ys (omega arith) e o.1

-- if no id is one, no walk ends badly
no-first : (g : Graph) (inv : Invariant) (p s k n : ℕ) → EdgesBelow n g → AreSearched g inv k → HasNone (GoesOn g inv p s k) n → HasNoWalk g inv p s (suc k)
no-first g inv p s k n below known none [] l b = absurd (omega arith)
no-first g inv p s k n below known none (y ∷ ys) l b = none y (below p y b.0.0) (goes-on g inv p s k y ys known (omega arith) b)

-- the walks with one edge more
more-edges : (g : Graph) (inv : Invariant) (n k : ℕ) → EdgesBelow n g → AreSearched g inv k → AreSearched g inv (suc k)
more-edges g inv n k below known p s =
    elim (first-below (GoesOn g inv p s k) (goes-or-not g inv p s k known) n) [
      | inl f ↦ inl (first-walk g inv p s k f.0 known f.2)
      | inr none ↦ inr (no-first g inv p s k n below known none)
    ]

-- the walks of each length
pub searched : (g : Graph) (inv : Invariant) (n : ℕ) → EdgesBelow n g → (k : ℕ) → AreSearched g inv k
searched g inv n below zero = no-edges g inv
searched g inv n below (suc k) = more-edges g inv n k below (searched g inv n below k)
