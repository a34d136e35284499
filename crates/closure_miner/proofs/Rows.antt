-- Lists of sets of types after a write to one of them.
use Rattle.std.proofs.Common.{◌≡◌, ℕ, zero, suc, ◌+◌, ◌<◌, ◌≤◌, Bool, true, false, not, ◌&&◌, ◌||◌, cond, eqb, List, [], ◌∷◌, All, Vec, length, set, get_or, replicate, refl, sym, ap, ◌∙◌, arith, inl, inr}
use Rattle.std.proofs.lemmas.Bool.{cases_eq, eq-eqb, ne_eqb}
use Rattle.std.proofs.lemmas.List.{get_or-replicate, get_or-set_same, get_or-set_other}
use Rattle.std.specs.declared.alloc.Global.{Global}
use Rattle.closure_miner.specs.Rows.{in_row}
use Rattle.closure_miner.specs.Sets.{has_at}

-- a truth value and true is this truth value
pub and-true : (x : Bool) → (x && true) ≡ x
and-true true = refl
and-true false = refl

-- of three truth values that all have to hold, the last two may be joined first
pub and-assoc : (o f c : Bool) → ((o && f) && c) ≡ (o && (f && c))
and-assoc true f c = refl
and-assoc false f c = refl

-- of three truth values that all have to hold, the last two may change places
pub and-swap : (o f c : Bool) → ((o && f) && c) ≡ (o && (c && f))
and-swap true true c = sym (and-true c)
and-swap true false true = refl
and-swap true false false = refl
and-swap false f c = refl

-- a set keeps its types where another set is not asked
keep-both : (x t y : Bool) → t ≡ false → (x && (not t || y)) ≡ x
keep-both x t y off = ap (λ s. x && (not s || y)) off ∙ and-true x

-- what a set lacks stays where another set is not added
keep-without : (x t y : Bool) → t ≡ false → (x && not (t && y)) ≡ x
keep-without x t y off = ap (λ s. x && not (s && y)) off ∙ and-true x

-- neither of two
neither : (x y : Bool) → not (x || y) ≡ (not x && not y)
neither true y = refl
neither false y = refl

-- what the set at a place has
pub at-place : {S : Type 0} (has : S → ℕ → Bool) (sets : List S) (a b : ℕ) (d : S) → a < length sets → has_at has sets a b ≡ has (get_or sets a d) b
at-place has [] a b d inside = absurd (omega arith)
at-place has (s ∷ sets) zero b d inside = refl
at-place has (s ∷ sets) (suc a) b d inside = at-place has sets a b d (omega arith)

-- what the same set for each has
pub at-same : {S : Type 0} (has : S → ℕ → Bool) (n : ℕ) (s : S) (a b : ℕ) → a < n → has_at has (replicate n s) a b ≡ has s b
at-same has zero s a b inside = absurd (omega arith)
at-same has (suc n) s zero b inside = refl
at-same has (suc n) s (suc a) b inside = at-same has n s a b (omega arith)

-- what the set that was written has
at-written : {S : Type 0} (has : S → ℕ → Bool) (old : List S) (p : ℕ) (new : S) (b : ℕ) → p < length old → has_at has (set old p new) p b ≡ has new b
at-written has [] p new b inside = absurd (omega arith)
at-written has (s ∷ old) zero new b inside = refl
at-written has (s ∷ old) (suc p) new b inside = at-written has old p new b (omega arith)

-- what another set has
at-other : {S : Type 0} (has : S → ℕ → Bool) (old : List S) (p a : ℕ) (new : S) (b : ℕ) → (a ≡ p → ⊥) → has_at has (set old p new) a b ≡ has_at has old a b
at-other has [] p a new b other = refl
at-other has (s ∷ old) zero zero new b other = absurd (other refl)
at-other has (s ∷ old) zero (suc a) new b other = refl
at-other has (s ∷ old) (suc p) zero new b other = refl
at-other has (s ∷ old) (suc p) (suc a) new b other = at-other has old p a new b (λ e. other (ap suc e))

-- what the set at a place had before the write
pub at-before : {S : Type 0} (has : S → ℕ → Bool) (old : List S) (p b : ℕ) (was : S) → p < length old → was ≡ get_or old p was → has was b ≡ has_at has old p b
at-before has old p b was inside is = ap (λ s. has s b) is ∙ sym (at-place has old p b was inside)

-- where the set of a type keeps only some types, no other set changes
pub at-both : {S : Type 0} (has : S → ℕ → Bool) (old : List S) (p : ℕ) (was new : S) (kept : ℕ → Bool) (x a b : ℕ) → x ≡ p + 2 → p < length old → was ≡ get_or old p was
    → ((q : ℕ) → has new q ≡ (has was q && kept q))
    → has_at has (set old p new) a b ≡ (has_at has old a b && (not (eqb x (a + 2)) || kept b))
at-both has old p was new kept x a b is inside before both = elim (cases_eq a p) [
  | inl same ↦
      ap (λ k. has_at has (set old p new) k b) same ∙ at-written has old p new b inside ∙ both b
      ∙ ap (λ t. t && kept b) (at-before has old p b was inside before ∙ ap (λ k. has_at has old k b) (sym same))
      ∙ sym (ap (λ t. has_at has old a b && (not t || kept b)) (eq-eqb x (a + 2) (omega arith)))
  | inr other ↦
      at-other has old p a new b other
      ∙ sym (keep-both (has_at has old a b) (eqb x (a + 2)) (kept b) (ne_eqb x (a + 2) (λ e. other (omega arith))))
]

-- where the set of a type takes the types of another, no other set changes
pub at-either : {S : Type 0} (has : S → ℕ → Bool) (old : List S) (p : ℕ) (was new s : S) (x a b : ℕ) → x ≡ p + 2 → p < length old → was ≡ get_or old p was
    → ((q : ℕ) → has new q ≡ (has was q || has s q))
    → not (has_at has (set old p new) a b) ≡ (not (has_at has old a b) && not (eqb x (a + 2) && has s b))
at-either has old p was new s x a b is inside before either = elim (cases_eq a p) [
  | inl same ↦
      ap (λ k. not (has_at has (set old p new) k b)) same ∙ ap not (at-written has old p new b inside ∙ either b) ∙ neither (has was b) (has s b)
      ∙ ap (λ t. not t && not (has s b)) (at-before has old p b was inside before ∙ ap (λ k. has_at has old k b) (sym same))
      ∙ sym (ap (λ t. not (has_at has old a b) && not (t && has s b)) (eq-eqb x (a + 2) (omega arith)))
  | inr other ↦
      ap not (at-other has old p a new b other)
      ∙ sym (keep-without (not (has_at has old a b)) (eqb x (a + 2)) (has s b) (ne_eqb x (a + 2) (λ e. other (omega arith))))
]

-- where each set is this one, each has what it has
pub at-all : {S : Type 0} (has : S → ℕ → Bool) (sets : List S) (all : S) (a b : ℕ) → All (λ (s : S). s ≡ all) sets → a < length sets → has_at has sets a b ≡ has all b
at-all has sets all a b each inside = at-place has sets a b all inside ∙ ap (λ s. has s b) (each a all inside)

-- a set with the type at a place, told by the type's number
pub with-number : (x p b : ℕ) (t : Bool) → x ≡ p + 2 → (eqb b p || t) ≡ (eqb x (b + 2) || t)
with-number x p b t is = elim (cases_eq b p) [
  | inl same ↦ ap (λ e. e || t) (eq-eqb b p same ∙ sym (eq-eqb x (b + 2) (omega arith)))
  | inr other ↦ ap (λ e. e || t) (ne_eqb b p other ∙ sym (ne_eqb x (b + 2) (λ e. other (omega arith))))
]

-- what is only asked of one number may be asked in another form there
pub only-where : (x a : ℕ) (u v : Bool) → (x ≡ a → u ≡ v) → (not (eqb x a) || u) ≡ (not (eqb x a) || v)
only-where x a u v same = elim (cases_eq x a) [
  | inl e ↦ ap (λ t. not (eqb x a) || t) (same e)
  | inr other ↦ ap (λ t. not t || u) (ne_eqb x a other) ∙ sym (ap (λ t. not t || v) (ne_eqb x a other))
]

-- where nothing is asked at one number, all stays
pub all-kept : (x a : ℕ) (o u : Bool) → (x ≡ a → u ≡ true) → o ≡ (o && (not (eqb x a) || u))
all-kept x a o u kept = elim (cases_eq x a) [
  | inl e ↦ sym (ap (λ t. o && (not (eqb x a) || t)) (kept e) ∙ ap (λ t. o && t) (or-on (not (eqb x a))) ∙ and-true o)
  | inr other ↦ sym (ap (λ t. o && (not t || u)) (ne_eqb x a other) ∙ and-true o)
]
  where
    or-on : (t : Bool) → (t || true) ≡ true
    or-on true = refl
    or-on false = refl

-- nothing stands in an empty row
pub none-in : (row : List Bool) (b : ℕ) → length row ≡ 0 → get_or row b false ≡ false
none-in [] b empty = refl
none-in (stands ∷ row) b empty = absurd (omega (arith, empty))

-- nothing stands past the last row
pub none-at : (rows : List (Vec Bool Global)) (a b : ℕ) → length rows ≤ a → has_at in_row rows a b ≡ false
none-at [] a b past = refl
none-at (row ∷ rows) zero b past = absurd (omega (arith, past))
none-at (row ∷ rows) (suc a) b past = none-at rows a b (omega (arith, past))

-- in full rows all stands
pub at-full : (rows : List (Vec Bool Global)) (n a b : ℕ) → All (λ row. row.items ≡ replicate n true) rows → a < length rows → b < n → has_at in_row rows a b ≡ true
at-full [] n a b each in_a in_b = absurd (omega (arith, in_a))
at-full (row ∷ rows) n zero b each in_a in_b = ap (λ (xs : List Bool). get_or xs b false) (each 0 row (omega arith)) ∙ get_or-replicate n b true false in_b
at-full (row ∷ rows) n (suc a) b each in_a in_b = at-full rows n a b (λ k d inside. each (suc k) d (omega arith)) (omega (arith, in_a)) in_b

-- what stands at the place of a type after a write at that of an event
pub set-at : (xs : List ℕ) (p v x k : ℕ) → x ≡ p + 2 → p < length xs → get_or (set xs p v) k 0 ≡ cond (eqb x (k + 2)) v (get_or xs k 0)
set-at xs p v x k is inside = elim (cases_eq k p) [
  | inl here ↦
      ap (λ n. get_or (set xs p v) n 0) here ∙ get_or-set_same xs p v 0 inside
      ∙ sym (ap (λ t. cond t v (get_or xs k 0)) (eq-eqb x (k + 2) (omega arith)))
  | inr other ↦
      get_or-set_other xs p k v 0 other
      ∙ sym (ap (λ t. cond t v (get_or xs k 0)) (ne_eqb x (k + 2) (λ e. other (omega arith))))
]
