-- In a list that ascends each is before all that come later.
use Rattle.std.proofs.Common.{◌≡◌, ℕ, zero, suc, ◌<◌, ◌⊎◌, List, [], ◌∷◌, Some, subst, ◌∙◌, arith, inl, inr}
use Rattle.std.specs.List.{slice_get}
use Rattle.invariants.specs.declared.Kinds.{Kinds}
use Rattle.invariants.proofs.EachKinds.{candidates-differ}
use Rattle.model_shape.specs.Ascending.{LeadsTo, Ascends, PartitionBefore, EdgeBefore, BlockBefore, CandidateBefore, AscendingTells}

-- what is before something is before all that this is before
abbrev Passes : {K : Type 0} → (K → K → Type 0) → Type 0
Passes {K} Before = (x y z : K) → Before x y → Before y z → Before x z

-- what leads to a list that ascends is before each of it
before-each : {K : Type 0} (Before : K → K → Type 0) → Passes Before → (k : K) (ks : List K) → LeadsTo Before k ks → Ascends Before ks → (j : ℕ) (y : K) → slice_get ks j ≡ Some y → Before k y
before-each Before pass k [] l a j y e = absurd cc
before-each Before pass k (x ∷ xs) l a zero y e = let same : x ≡ y = cc in subst (λ z. Before k z) same l
before-each Before pass k (x ∷ xs) l a (suc j) y e = pass k x y l (before-each Before pass x xs a.0 a.1 j y e)

-- in a list that ascends each is before all that come later
in-order : {K : Type 0} (Before : K → K → Type 0) → Passes Before → (ks : List K) → Ascends Before ks → (i j : ℕ) (x y : K) → slice_get ks i ≡ Some x → slice_get ks j ≡ Some y → i < j → Before x y
in-order Before pass [] a i j x y e f l = absurd cc
in-order Before pass (k ∷ ks) a i zero x y e f l = absurd (omega (arith, l))
in-order Before pass (k ∷ ks) a zero (suc j) x y e f l = let same : k ≡ x = cc in subst (λ z. Before z y) same (before-each Before pass k ks a.0 a.1 j y f)
in-order Before pass (k ∷ ks) a (suc i) (suc j) x y e f l = in-order Before pass ks a.1 i j x y e f (omega (arith, l))

-- pairs by their first numbers and then by their second
two-pass : (a b c d e f : ℕ) → (a < c) ⊎ ((a ≡ c) × (b < d)) → (c < e) ⊎ ((c ≡ e) × (d < f)) → (a < e) ⊎ ((a ≡ e) × (b < f))
two-pass a b c d e f (inl p) (inl q) = inl (omega (arith, p, q))
two-pass a b c d e f (inl p) (inr q) = inl (let s : c ≡ e = q.0 in omega (arith, p, s))
two-pass a b c d e f (inr p) (inl q) = inl (let s : a ≡ c = p.0 in omega (arith, q, s))
two-pass a b c d e f (inr p) (inr q) = inr (p.0 ∙ q.0, let x : b < d = p.1 in let y : d < f = q.1 in omega (arith, x, y))

-- so it is in the order of the candidates
candidates-pass : (kinds : Kinds) (types : ℕ) → Passes (CandidateBefore kinds types)
candidates-pass kinds types x y z p q =
    let same : p.later ≡ q.place = candidates-differ kinds types p.later q.place y p.there q.here in
    let a : p.place < p.later = p.order in
    let b : q.place < q.later = q.order in
    record { place = p.place; later = q.later; here = p.here; there = q.there; order = omega (arith, a, b, same) }

-- each list of a model that ascends is in order throughout
pub ascending_tells : AscendingTells
ascending_tells =
    record {
      partitions = in-order PartitionBefore (λ x y z p q. omega (arith, p, q));
      edges = in-order EdgeBefore (λ x y z p q. two-pass x.from x.to y.from y.to z.from z.to p q);
      invariants = λ kinds types. in-order (CandidateBefore kinds types) (candidates-pass kinds types);
      blocks = in-order BlockBefore (λ x y z p q. two-pass x.p x.q y.p y.q z.p z.q p q);
    }
