-- The pairs that are still to come.
use Rattle.std.proofs.Common.{◌≡◌, ◌↔◌, ℕ, ◌<◌, ◌≤◌, List, [], ◌∷◌, length, sym, ◌∙◌, refl, ap, subst₂, inl, inr, arith}
use Rattle.std.proofs.lemmas.Bool.{cases_lt}
use Rattle.invariants.specs.declared.records.Merge.{Merge}
use Rattle.partition_model.specs.Graphs.{Graph}
use Rattle.partition_model.specs.Assignments.{Assignment, G, IsTyped}
use Rattle.partition_model.specs.Coarsening.{merge, IsPair, PairBefore}
use Rattle.partition_model.specs.Laws.{PairsAscend, IsAmong}
use Rattle.partition_model.proofs.Passes.{pair-back}
use Rattle.partition_bounds.specs.Laws.{IsBelow}
use Rattle.partition_bounds.specs.Pairs.{pair_of, pairs_below}
use Rattle.partition_bounds.proofs.Ordered.{pair-next}
use Rattle.partition_bounds.proofs.Pairing.{pairs_tell}
use Rattle.coarsener.specs.Pairs.{HasNoPairBehind, IsNextPair}

-- these are the pairs behind (p, q), in their order
pub record Remain (g : Graph) (p q : ℕ) (rest : List Merge) : Type 0 where
  pub ascend : PairsAscend p q rest
  pub pairs : (r s : ℕ) → IsAmong r s rest → IsPair g r s
  pub all : (r s : ℕ) → IsPair g r s → PairBefore p q r s → IsAmong r s rest

not-itself : (p q : ℕ) → PairBefore p q p q → ⊥
not-itself p q (inl l) = omega (arith, l)
not-itself p q (inr e) = omega (arith, e.1)

above : (p q : ℕ) (xs : List Merge) (r s : ℕ) → PairsAscend p q xs → IsAmong r s xs → PairBefore p q r s
above p q [] r s a i = absurd i
above p q (x ∷ xs) r s a (inl e) = subst₂ (λ (u v : ℕ). PairBefore p q u v) e.0 e.1 a.0
above p q (x ∷ xs) r s a (inr i) = pair-next p q x.p x.q r s a.0 (above x.p x.q xs r s a.1 i)

-- the pairs of a graph, which ascend from (0, 0) on, ascend from (2, 2) on
from-start : (g : Graph) (xs : List Merge) → PairsAscend 0 0 xs → ((r s : ℕ) → IsAmong r s xs → IsPair g r s) → PairsAscend 2 2 xs
from-start g [] a f = tt
from-start g (x ∷ xs) a f =
    let i : IsPair g x.p x.q = f x.p x.q (inl (refl, refl)) in
    let l : 2 ≤ x.p = i.low in
    let o : x.p < x.q = i.order in
    (elim (cases_lt 2 x.p) [ inl k ↦ inl k | inr k ↦ inr (omega arith, omega arith) ], a.1)

-- before the first pair all pairs are to come
pub remain-start : (g : Graph) (n : ℕ) → IsBelow n g → Remain g 2 2 (pairs_below n g)
remain-start g n b =
    let t : PairsAscend 0 0 (pairs_below n g) × ((p q : ℕ) → IsPair g p q ↔ IsAmong p q (pairs_below n g)) = pairs_tell g n b in
    record {
      ascend = from-start g (pairs_below n g) t.0 (λ r s i. (t.1 r s).1 i);
      pairs = λ r s i. (t.1 r s).1 i;
      all = λ r s i k. (t.1 r s).0 i;
    }

-- the next pair is the first of those to come
is-head : (g : Graph) (p q r s : ℕ) (x : Merge) (xs : List Merge) → Remain g p q (x ∷ xs) → IsNextPair g p q r s → IsAmong r s (x ∷ xs) → (x.p ≡ r) × (x.q ≡ s)
is-head g p q r s x xs m n (inl e) = e
is-head g p q r s x xs m n (inr i) = absurd (n.first x.p x.q (m.pairs x.p x.q (inl (refl, refl))) m.ascend.0 (above x.p x.q xs r s m.ascend.1 i))

still-among : (r s u v : ℕ) (x : Merge) (xs : List Merge) → x.p ≡ r → x.q ≡ s → PairBefore r s u v → IsAmong u v (x ∷ xs) → IsAmong u v xs
still-among r s u v x xs e f k (inl j) = absurd (not-itself r s (subst₂ (λ (a b : ℕ). PairBefore r s a b) (sym j.0 ∙ e) (sym j.1 ∙ f) k))
still-among r s u v x xs e f k (inr j) = j

-- behind the next pair all but that one are to come
pub remain-next : (g : Graph) (p q r s : ℕ) (rest : List Merge) → Remain g p q rest → IsNextPair g p q r s → (more : List Merge) × (rest ≡ pair_of r s ∷ more) × Remain g r s more
remain-next g p q r s [] m n = absurd (m.all r s n.pair n.behind)
remain-next g p q r s (x ∷ xs) m n =
    let e : (x.p ≡ r) × (x.q ≡ s) = is-head g p q r s x xs m n (m.all r s n.pair n.behind) in
    let same : x ≡ pair_of r s = λ d. record { p = e.0 d; q = e.1 d } in (
      xs,
      ap (λ (z : Merge). z ∷ xs) same,
      record {
        ascend = subst₂ (λ (a b : ℕ). PairsAscend a b xs) e.0 e.1 m.ascend.1;
        pairs = λ u v i. m.pairs u v (inr i);
        all = λ u v i k. still-among r s u v x xs e.0 e.1 k (m.all u v i (pair-next p q r s u v n.behind k));
      },
    )

-- where no pair comes behind this one, none is left
pub remain-none : (g : Graph) (p q : ℕ) (rest : List Merge) → Remain g p q rest → HasNoPairBehind g p q → rest ≡ []
remain-none g p q [] m n = refl
remain-none g p q (x ∷ xs) m n = absurd (n x.p x.q (m.pairs x.p x.q (inl (refl, refl))) m.ascend.0)

-- where there is a next pair, some are left
pub remain-some : (g : Graph) (p q r s : ℕ) (rest : List Merge) → Remain g p q rest → IsNextPair g p q r s → 0 < length rest
remain-some g p q r s [] m n = absurd (m.all r s n.pair n.behind)
remain-some g p q r s (x ∷ xs) m n = omega arith

-- each pair behind (p, q) is among these, which ascend from there; others may be among them too
pub record Covers (g : Graph) (p q : ℕ) (rest : List Merge) : Type 0 where
  pub ascend : PairsAscend p q rest
  pub all : (r s : ℕ) → IsPair g r s → PairBefore p q r s → IsAmong r s rest

-- before the first pair all pairs are to come
pub covers-start : (g : Graph) (n : ℕ) → IsBelow n g → Covers g 2 2 (pairs_below n g)
covers-start g n b = let m : Remain g 2 2 (pairs_below n g) = remain-start g n b in record { ascend = m.ascend; all = m.all }

covers-among : (g : Graph) (p q r s : ℕ) (rest : List Merge) → Covers g p q rest → IsAmong r s rest → (more : List Merge) × (length more < length rest) × Covers g r s more
covers-among g p q r s [] c i = absurd i
covers-among g p q r s (x ∷ xs) c (inl e) = (
  xs,
  omega arith,
  record {
    ascend = subst₂ (λ (a b : ℕ). PairsAscend a b xs) e.0 e.1 c.ascend.1;
    all = λ u v i k.
        still-among r s u v x xs e.0 e.1 k (c.all u v i (pair-next p q r s u v (subst₂ (λ (a b : ℕ). PairBefore p q a b) e.0 e.1 c.ascend.0) k));
  },
)
covers-among g p q r s (x ∷ xs) c (inr i) =
    let d : Covers g x.p x.q xs = record {
      ascend = c.ascend.1;
      all = λ u v j k. still-among x.p x.q u v x xs refl refl k (c.all u v j (pair-next p q x.p x.q u v c.ascend.0 k));
    } in
    let o : (more : List Merge) × (length more < length xs) × Covers g r s more = covers-among g x.p x.q r s xs d i in
    (o.0, omega (arith, o.1), o.2)

-- behind a pair fewer are to come
pub covers-next : (g : Graph) (p q r s : ℕ) (rest : List Merge) → Covers g p q rest → IsPair g r s → PairBefore p q r s → (more : List Merge) × (length more < length rest) × Covers g r s more
covers-next g p q r s rest c i b = covers-among g p q r s rest c (c.all r s i b)

-- a merge brings no pairs
pub covers-merged : (h : Assignment) (p q r s : ℕ) (rest : List Merge) → IsTyped h → IsPair (G h) p q → Covers (G h) r s rest → Covers (G (merge p q h)) r s rest
covers-merged h p q r s rest t i c = record { ascend = c.ascend; all = λ u v j k. c.all u v (pair-back h p q u v t i j) k }

-- where there are two pairs, the list has both
pub remain-two : (g : Graph) (p q r s t u : ℕ) (rest : List Merge) → Remain g p q rest → IsNextPair g p q r s → IsNextPair g r s t u → 1 < length rest
remain-two g p q r s t u rest m n o =
    let e : (more : List Merge) × (rest ≡ pair_of r s ∷ more) × Remain g r s more = remain-next g p q r s rest m n in
    omega (arith, ap (λ (ms : List Merge). length ms) e.1, remain-some g r s t u e.0 e.2 o)

-- where no pair comes behind the first one, each pair is that one
pub one-pair : (g : Graph) (r s : ℕ) → IsNextPair g 2 2 r s → HasNoPairBehind g r s → (p q : ℕ) → IsPair g p q → (r ≡ p) × (s ≡ q)
one-pair g r s n none p q i =
    let l : 2 ≤ p = i.low in
    let o : p < q = i.order in
    let b : PairBefore 2 2 p q = elim (cases_lt 2 p) [ inl k ↦ inl k | inr k ↦ inr (omega arith, omega arith) ] in
    elim (cases_lt r p) [
      | inl k ↦ absurd (none p q i (inl k))
      | inr k ↦ elim (cases_lt p r) [
        | inl j ↦ absurd (n.first p q i b (inl j))
        | inr j ↦ elim (cases_lt s q) [
          | inl w ↦ absurd (none p q i (inr (omega arith, w)))
          | inr w ↦ elim (cases_lt q s) [
            | inl v ↦ absurd (n.first p q i b (inr (omega arith, v)))
            | inr v ↦ (omega arith, omega arith)
          ]
        ]
      ]
    ]
