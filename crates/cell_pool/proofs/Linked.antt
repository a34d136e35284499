-- Chains of nodes: what they say of their first and last node, and what is left of them after links were changed.
use Rattle.std.proofs.Common.{◌≡◌, ◌≢◌, ℕ, ◌<◌, ◌≤◌, zero, suc, not, cond, eqb, ltb, List, [], ◌∷◌, ◌++◌, length, get_or, filter, Some, None, All, slice_get, refl, sym, ap, ◌∙◌, subst, arith}
use Rattle.std.proofs.lemmas.Bool.{lt-ltb, le-ltb, eq-eqb, ne_eqb}
use Rattle.std.proofs.lemmas.List.Elements.{All-head, All-tail}
use Rattle.cell_pool.specs.Chains.{IsLink, IsChain}

-- what holds of each cell and of the last node holds of the node behind the first
pub next_has : (next prev : List ℕ) (P : ℕ → Type 0) (a : ℕ) (xs : List ℕ) (b : ℕ) → IsChain next prev a xs b → All P xs → P b → P (get_or next a 0)
next_has next prev P a [] b h all last = subst P (sym h.0) last
next_has next prev P a (x ∷ xs) b h all last = subst P (sym h.0.0) (All-head P x xs all)

-- what holds of the first node and of each cell holds of the node before the last
pub prev_has : (next prev : List ℕ) (P : ℕ → Type 0) (a : ℕ) (xs : List ℕ) (b : ℕ) → IsChain next prev a xs b → P a → All P xs → P (get_or prev b 0)
prev_has next prev P a [] b h first all = subst P (sym h.1) first
prev_has next prev P a (x ∷ xs) b h first all = prev_has next prev P x xs b h.1 (All-head P x xs all) (All-tail P x xs all)

-- the last node follows the node before it
pub next_of_prev : (next prev : List ℕ) (a : ℕ) (xs : List ℕ) (b : ℕ) → IsChain next prev a xs b → get_or next (get_or prev b 0) 0 ≡ b
next_of_prev next prev a [] b h = ap (λ m. get_or next m 0) h.1 ∙ h.0
next_of_prev next prev a (x ∷ xs) b h = next_of_prev next prev x xs b h.1

-- the node behind the first node follows the first
pub prev_of_next : (next prev : List ℕ) (a : ℕ) (xs : List ℕ) (b : ℕ) → IsChain next prev a xs b → get_or prev (get_or next a 0) 0 ≡ a
prev_of_next next prev a [] b h = ap (λ m. get_or prev m 0) h.0 ∙ h.1
prev_of_next next prev a (x ∷ xs) b h = ap (λ m. get_or prev m 0) h.0.0 ∙ h.0.1

-- a chain over a cell is a chain to the cell and a chain from it on
pub chain_split : (next prev : List ℕ) (a : ℕ) (xs : List ℕ) (c : ℕ) (ys : List ℕ) (b : ℕ) → IsChain next prev a (xs ++ c ∷ ys) b → IsChain next prev a xs c × IsChain next prev c ys b
chain_split next prev a [] c ys b h = (h.0, h.1)
chain_split next prev a (x ∷ xs) c ys b h = let rest = chain_split next prev x xs c ys b h.1 in ((h.0, rest.0), rest.1)

-- each cell follows the one before it, and the first follows the first node
pub prev_at : (next prev : List ℕ) (a : ℕ) (xs : List ℕ) (b : ℕ) → IsChain next prev a xs b → (k : ℕ) → k < length xs → get_or prev (get_or xs k 0) 0 ≡ get_or (a ∷ xs) k 0
prev_at next prev a [] b h k below = absurd (omega arith)
prev_at next prev a (x ∷ xs) b h zero below = h.0.1
prev_at next prev a (x ∷ xs) b h (suc k) below = prev_at next prev x xs b h.1 k (omega arith)

-- the node behind the first is the first cell, or no cell where there is none
pub first_is : (next prev : List ℕ) (count a : ℕ) (xs : List ℕ) (b : ℕ) → IsChain next prev a xs b → All (λ x. x < count) xs → count ≤ b
    → cond (ltb (get_or next a 0) count) (Some (get_or next a 0)) None ≡ slice_get xs 0
first_is next prev count a [] b h all past = ap (λ m. cond (ltb m count) (Some m) None) h.0 ∙ ap (λ t. cond t (Some b) None) (le-ltb b count past)
first_is next prev count a (x ∷ xs) b h all past =
    ap (λ m. cond (ltb m count) (Some m) None) h.0.0 ∙ ap (λ t. cond t (Some x) None) (lt-ltb x count (All-head (λ y. y < count) x xs all))

-- the node behind a cell is the next cell, or no cell behind the last
pub next_is : (next prev : List ℕ) (count a : ℕ) (xs : List ℕ) (b : ℕ) → IsChain next prev a xs b → All (λ x. x < count) xs → count ≤ b → (k c : ℕ) → slice_get xs k ≡ Some c
    → cond (ltb (get_or next c 0) count) (Some (get_or next c 0)) None ≡ slice_get xs (suc k)
next_is next prev count a [] b h all past k c is = absurd (cc)
next_is next prev count a (x ∷ xs) b h all past zero c is =
    let same : x ≡ c = cc in
    subst (λ m. cond (ltb (get_or next m 0) count) (Some (get_or next m 0)) None ≡ slice_get xs 0) same
    (first_is next prev count x xs b h.1 (All-tail (λ y. y < count) x xs all) past)
next_is next prev count a (x ∷ xs) b h all past (suc k) c is = next_is next prev count x xs b h.1 (All-tail (λ y. y < count) x xs all) past k c is

module _ (next prev next' prev' : List ℕ) (S D : ℕ → Type 0) (stays : (y z : ℕ) → S y → D z → IsLink next prev y z → IsLink next' prev' y z) where
  -- a chain from nodes in S to nodes in D stays, where such links stay
  pub chain_stays : (a : ℕ) (xs : List ℕ) (b : ℕ) → S a → All S xs → All D xs → D b → IsChain next prev a xs b → IsChain next' prev' a xs b
  chain_stays a [] b first from to last h = stays a b first last h
  chain_stays a (x ∷ xs) b first from to last h = (
    stays a x first (All-head D x xs to) h.0,
    chain_stays x xs b (All-head S x xs from) (All-tail S x xs from) (All-tail D x xs to) last h.1,
  )

  -- a cell is taken out
  cut_first : (a c : ℕ) (ys : List ℕ) (b : ℕ) → All S ys → All D ys → D b → IsLink next prev a c → IsChain next prev c ys b → IsLink next' prev' (get_or prev c 0) (get_or next c 0) → IsChain next' prev' a ys b
  cut_first a c [] b from to last h rest link = subst (λ m. IsLink next' prev' m b) h.1 (subst (λ m. IsLink next' prev' (get_or prev c 0) m) rest.0 link)
  cut_first a c (y ∷ ys) b from to last h rest link = (
    subst (λ m. IsLink next' prev' m y) h.1 (subst (λ m. IsLink next' prev' (get_or prev c 0) m) rest.0.0 link),
    chain_stays y ys b (All-head S y ys from) (All-tail S y ys from) (All-tail D y ys to) last rest.1,
  )

  -- a chain from which a cell is taken out is a chain over the other cells
  pub chain_cut : (a : ℕ) (xs : List ℕ) (c : ℕ) (ys : List ℕ) (b : ℕ) → S a → All S xs → All D xs → All S ys → All D ys → D b
      → IsChain next prev a xs c → IsChain next prev c ys b → IsLink next' prev' (get_or prev c 0) (get_or next c 0) → IsChain next' prev' a (xs ++ ys) b
  chain_cut a [] c ys b first from to from' to' last h rest link = cut_first a c ys b from' to' last h rest link
  chain_cut a (x ∷ xs) c ys b first from to from' to' last h rest link = (
    stays a x first (All-head D x xs to) h.0,
    chain_cut x xs c ys b (All-head S x xs from) (All-tail S x xs from) (All-tail D x xs to) from' to' last h.1 rest link,
  )

  -- a chain ends at another node
  pub chain_turned : (a : ℕ) (xs : List ℕ) (b e : ℕ) → S a → All S xs → All D xs → IsChain next prev a xs b → IsLink next' prev' (get_or prev b 0) e → IsChain next' prev' a xs e
  chain_turned a [] b e first from to h link = subst (λ m. IsLink next' prev' m e) h.1 link
  chain_turned a (x ∷ xs) b e first from to h link = (
    stays a x first (All-head D x xs to) h.0,
    chain_turned x xs b e (All-head S x xs from) (All-tail S x xs from) (All-tail D x xs to) h.1 link,
  )

  -- a chain goes on over more cells to another node
  pub chain_append : (a : ℕ) (xs : List ℕ) (b f : ℕ) (ys : List ℕ) (e : ℕ) → S a → All S xs → All D xs → IsChain next prev a xs b
      → IsLink next' prev' (get_or prev b 0) f → IsChain next' prev' f ys e → IsChain next' prev' a (xs ++ f ∷ ys) e
  chain_append a [] b f ys e first from to h link rest = (subst (λ m. IsLink next' prev' m f) h.1 link, rest)
  chain_append a (x ∷ xs) b f ys e first from to h link rest = (
    stays a x first (All-head D x xs to) h.0,
    chain_append x xs b f ys e (All-head S x xs from) (All-tail S x xs from) (All-tail D x xs to) h.1 link rest,
  )

-- a list without the cell stays where the cell is left out
pub filter_all : (c : ℕ) (xs : List ℕ) → All (λ x. x ≢ c) xs → filter (λ x. not (eqb x c)) xs ≡ xs
filter_all c [] all = refl
filter_all c (x ∷ xs) all =
    ap (λ t. cond (not t) (x ∷ filter (λ y. not (eqb y c)) xs) (filter (λ y. not (eqb y c)) xs)) (ne_eqb x c (All-head (λ y. y ≢ c) x xs all))
    ∙ ap (λ l. x ∷ l) (filter_all c xs (All-tail (λ y. y ≢ c) x xs all))

-- a list that has the cell once is what stands before it and behind it where the cell is left out
pub filter_one : (xs : List ℕ) (c : ℕ) (ys : List ℕ) → All (λ x. x ≢ c) xs → All (λ x. x ≢ c) ys → filter (λ x. not (eqb x c)) (xs ++ c ∷ ys) ≡ xs ++ ys
filter_one [] c ys all all' =
    ap (λ t. cond (not t) (c ∷ filter (λ y. not (eqb y c)) ys) (filter (λ y. not (eqb y c)) ys)) (eq-eqb c c refl) ∙ filter_all c ys all'
filter_one (x ∷ xs) c ys all all' =
    ap (λ t. cond (not t) (x ∷ filter (λ y. not (eqb y c)) (xs ++ c ∷ ys)) (filter (λ y. not (eqb y c)) (xs ++ c ∷ ys))) (ne_eqb x c (All-head (λ y. y ≢ c) x xs all))
    ∙ ap (λ l. x ∷ l) (filter_one xs c ys (All-tail (λ y. y ≢ c) x xs all) all')
