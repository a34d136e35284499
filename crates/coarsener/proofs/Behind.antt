-- The first pair behind another, row by row.
use Rattle.std.proofs.Common.{◌≡◌, ℕ, ◌+◌, ◌-◌, ◌*◌, ◌<◌, ◌≤◌, sym, subst, inl, inr, arith}
use Rattle.std.proofs.lemmas.Bool.{cases_lt}
use Rattle.limits.specs.declared.TheConstants.{MAX_PARTITIONS}
use Rattle.partition_model.specs.Graphs.{Graph}
use Rattle.partition_model.specs.Coarsening.{IsPair, PairBefore}
use Rattle.partition_bounds.specs.Laws.{IsBelow}
use Rattle.coarsener.specs.Pairs.{HasNoPartner, IsNextPartner, HasNoPairBehind, IsNextPair}

-- no pair comes behind (p, q) whose lower id is below b
abbrev pub NoneBelow : Graph → ℕ → ℕ → ℕ → Type 0
NoneBelow g p q b = (r s : ℕ) → IsPair g r s → PairBefore p q r s → r < b → ⊥

-- where p has no partner behind q, no pair behind (p, q) has a lower id up to p
pub rows-start : (g : Graph) (p q : ℕ) → HasNoPartner g p (q + 1) → NoneBelow g p q (p + 1)
rows-start g p q n r s i (inl l) b = omega (arith, l, b)
rows-start g p q n r s i (inr e) b = n s (omega (arith, e.1)) (subst (λ (z : ℕ). IsPair g z s) (sym e.0) i)

at-row : (g : Graph) (b r s : ℕ) → HasNoPartner g b (b + 1) → r ≡ b → IsPair g r s → ⊥
at-row g b r s n e i =
    let j : IsPair g b s = subst (λ (z : ℕ). IsPair g z s) e i in
    let o : b < s = j.order in
    n s (omega arith) j

-- where b has no partner, no pair has b for its lower id either
pub rows-next : (g : Graph) (p q b : ℕ) → NoneBelow g p q b → HasNoPartner g b (b + 1) → NoneBelow g p q (b + 1)
rows-next g p q b n f r s i k l =
    elim (cases_lt r b) [
      | inl m ↦ n r s i k m
      | inr m ↦ at-row g b r s f (omega arith) i
    ]

before-found : (g : Graph) (p q b s u v : ℕ) → NoneBelow g p q b → IsNextPartner g b (b + 1) s → IsPair g u v → PairBefore p q u v → PairBefore u v b s → ⊥
before-found g p q b s u v n f i k (inl l) = n u v i k l
before-found g p q b s u v n f i k (inr e) =
    let j : IsPair g b v = subst (λ (z : ℕ). IsPair g z v) e.0 i in
    let o : b < v = j.order in
    f.first v (omega arith) e.1 j

-- the first partner of b makes the next pair, where no pair comes before that has a lower id below b
pub rows-found : (g : Graph) (p q b s : ℕ) → p < b → NoneBelow g p q b → IsNextPartner g b (b + 1) s → IsNextPair g p q b s
rows-found g p q b s l n f = record { pair = f.pair; behind = inl l; first = λ u v i k m. before-found g p q b s u v n f i k m }

-- behind the last id no pair comes
pub rows-end : (g : Graph) (p q b n : ℕ) → NoneBelow g p q b → IsBelow n g → n ≤ b → HasNoPairBehind g p q
rows-end g p q b n f below l r s i k =
    let m : r < n = below r i.has_p in
    f r s i k (omega arith)

-- fewer pairs come behind a later pair
pub pair-smaller : (p q r s : ℕ) → PairBefore p q r s → s < MAX_PARTITIONS → q < MAX_PARTITIONS → r < s
    → (MAX_PARTITIONS - r) * MAX_PARTITIONS + (MAX_PARTITIONS - s) < (MAX_PARTITIONS - p) * MAX_PARTITIONS + (MAX_PARTITIONS - q)
pair-smaller p q r s (inl l) k h o = omega (arith, l, k, h, o)
pair-smaller p q r s (inr e) k h o = omega (arith, e.0, e.1, k, h, o)
