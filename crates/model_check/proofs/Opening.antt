-- Pairs of partitions by their places, and the one block that a pair may have.
use Rattle.std.proofs.Common.{◌≡◌, ℕ, zero, suc, ◌+◌, ◌<◌, ◌≤◌, ◌==◌, true, true≢false, List, [], ◌∷◌, length, slice_get, Some, refl, sym, ◌∙◌, ap, subst, subst₂, inl, inr, arith, eq-eqb, eqb-true}
use Rattle.std.proofs.lemmas.Bool.{cases_Bool, cases_eq, cases_order, or_left, or_right}
use Rattle.std.proofs.lemmas.Option.{slice_get_within, slice_get_read, slice_get-get_or, get_or_from_slice_get}
use Rattle.std.specs.Prelude.{get_or}
use Rattle.invariants.specs.declared.records.Partition.{Partition}
use Rattle.invariants.specs.declared.records.Listed.{Listed}
use Rattle.invariants.specs.declared.records.Block.{Block}
use Rattle.invariants.specs.declared.records.Model.{Model}
use Rattle.partition_model.specs.Coarsening.{IsPair, PairBefore}
use Rattle.model_shape.specs.Ascending.{PartitionBefore, BlockBefore, IsInOrder}
use Rattle.partition_model.specs.Graphs.{Breaks, Merged}
use Rattle.partition_model.proofs.Lists.{In, all_in}
use Rattle.model_shape.specs.Shapes.{is_listed, listed_type, IsShapedBlock, IsWellShaped}
use Rattle.model_shape.proofs.Orders.{ascending_tells}
use Rattle.models.specs.Models.{graph_of}
use Rattle.models.specs.Checks.{IsBlocked, KeepsApart}
use Rattle.model_check.specs.Rows.{AreApart}
use Rattle.model_check.specs.Pairs.{AreBefore, IsReached, IsFirstWith, IsFirstOpen}
use Rattle.model_check.proofs.Building.{ascends-apart}

-- two options that are the same have the same value
some-is : {X : Type 0} (x y : X) → Some x ≡ Some y → x ≡ y
some-is x y e = cc e

-- a listed id has a place in the list, and the partition there has its type
pub place-of : (p : ℕ) (xs : List Partition) → is_listed p xs ≡ true → (k : ℕ) × (x : Partition) × (slice_get xs k ≡ Some x) × (x.id ≡ p) × (x.typ ≡ listed_type p xs)
place-of p [] e = absurd (true≢false (sym e))
place-of p (x ∷ xs) e =
    elim (cases_Bool (x.id == p)) [
      | inl t ↦ (0, x, refl, eqb-true x.id p t, rw t refl)
      | inr f ↦
          let o : (k : ℕ) × (y : Partition) × (slice_get xs k ≡ Some y) × (y.id ≡ p) × (y.typ ≡ listed_type p xs) = place-of p xs (rw f at e) in
          (suc o.0, o.1, o.2, o.3, rw f o.4)
    ]

-- the id of a partition in the list is listed
pub listed-at : (xs : List Partition) (k : ℕ) (x : Partition) → slice_get xs k ≡ Some x → is_listed x.id xs ≡ true
listed-at [] k x e = absurd (cc e)
listed-at (y ∷ ys) zero x e = or_left (y.id == x.id) (is_listed x.id ys) (eq-eqb y.id x.id (ap (λ (z : Partition). z.id) (some-is y x e)))
listed-at (y ∷ ys) (suc k) x e = or_right (y.id == x.id) (is_listed x.id ys) (listed-at ys k x e)

-- the id of a partition in the list has its type, where no two have one id
pub type-at : (xs : List Partition) (k : ℕ) (x : Partition) → AreApart xs → slice_get xs k ≡ Some x → listed_type x.id xs ≡ x.typ
type-at [] k x a e = absurd (cc e)
type-at (y ∷ ys) zero x a e =
    let same : y ≡ x = some-is y x e in
    rw (eq-eqb y.id x.id (ap (λ (z : Partition). z.id) same)) (ap (λ (z : Partition). z.typ) same)
type-at (y ∷ ys) (suc k) x a e =
    elim (cases_Bool (y.id == x.id)) [
      | inl t ↦ absurd (true≢false (sym (listed-at ys k x e) ∙ ap (λ (z : ℕ). is_listed z ys) (sym (eqb-true y.id x.id t)) ∙ a.0))
      | inr f ↦ rw f (type-at ys k x a.1 e)
    ]

-- the partitions of a well-shaped model stand in the order of their ids
pub ids-in-order : (m : Model) → IsWellShaped m → IsInOrder PartitionBefore m.partitions
ids-in-order m w = ascending_tells.partitions m.partitions w.partitions.order

-- of two partitions, that with the lower id stands first
pub place-before : (m : Model) (w : IsWellShaped m) (j k : ℕ) (x y : Partition) → slice_get m.partitions j ≡ Some x → slice_get m.partitions k ≡ Some y → x.id < y.id → j < k
place-before m w j k x y e f l =
    elim (cases_order j k) [
      | inl same ↦ absurd (let g : x ≡ y = some-is x y (sym e ∙ ap (λ (n : ℕ). slice_get m.partitions n) same ∙ f) in let h : x.id ≡ y.id = ap (λ (z : Partition). z.id) g in omega arith)
      | inr o ↦ elim o [
        | inl less ↦ less
        | inr more ↦ absurd (let h : y.id < x.id = ids-in-order m w k j y x f e more in omega arith)
      ]
    ]

-- two partitions of one type, the second behind the first, are a pair
pub pair-at : (m : Model) (w : IsWellShaped m) (j k : ℕ) (x y : Partition) → slice_get m.partitions j ≡ Some x → slice_get m.partitions k ≡ Some y → 2 ≤ x.id → j < k → y.typ ≡ x.typ → IsPair (graph_of m) x.id y.id
pair-at m w j k x y e f low l t =
    let apart : AreApart m.partitions = ascends-apart m.partitions w.partitions.order in
    record {
      low = low;
      order = ids-in-order m w j k x y e f l;
      has_p = listed-at m.partitions j x e;
      has_q = listed-at m.partitions k y f;
      types = type-at m.partitions j x apart e ∙ sym t ∙ sym (type-at m.partitions k y apart f);
    }

-- the id q is that of a partition behind the place j, of the type of the partition x
pub record IsPairAt (m : Model) (j : ℕ) (x : Partition) (q : ℕ) : Type 0 where
  pub k : ℕ
  pub y : Partition
  pub there : slice_get m.partitions k ≡ Some y
  pub id : y.id ≡ q
  pub later : j < k
  pub types : y.typ ≡ x.typ

-- the second of a pair stands behind the first, and has its type
pub place-pair : (m : Model) (w : IsWellShaped m) (j : ℕ) (x : Partition) (q : ℕ) → slice_get m.partitions j ≡ Some x → IsPair (graph_of m) x.id q → IsPairAt m j x q
place-pair m w j x q e pair =
    let apart : AreApart m.partitions = ascends-apart m.partitions w.partitions.order in
    let o : (k : ℕ) × (y : Partition) × (slice_get m.partitions k ≡ Some y) × (y.id ≡ q) × (y.typ ≡ listed_type q m.partitions) = place-of q m.partitions pair.has_q in
    let above : x.id < q = pair.order in
    let id : o.1.id ≡ q = o.3 in
    record {
      k = o.0;
      y = o.1;
      there = o.2;
      id = o.3;
      later = place-before m w j o.0 x o.1 e o.2 (omega arith);
      types = o.4 ∙ sym pair.types ∙ type-at m.partitions j x apart e;
    }

-- the block at the place keeps the pair apart
pub record IsBlockOf (m : Model) (p q next : ℕ) : Type 0 where
  pub block : Block
  pub listed : Listed
  pub there : slice_get m.blocks next ≡ Some block
  pub keeps : KeepsApart m p q block listed

-- no pair is before itself
pair-not-before : (p q : ℕ) → PairBefore p q p q → ⊥
pair-not-before p q (inl l) = omega arith
pair-not-before p q (inr e) = let l : q < q = e.1 in omega arith

-- the first block that is not before a pair is the only one that it may have
pub the-block : (m : Model) (w : IsWellShaped m) (p q next : ℕ) → AreBefore m.blocks next p q → ((b : Block) → slice_get m.blocks next ≡ Some b → PairBefore b.p b.q p q → ⊥) → IsBlocked m p q → IsBlockOf m p q next
the-block m w p q next before first (b, l, keeps) =
    let k : ℕ = keeps.there.0 in
    let at : slice_get m.blocks k ≡ Some b = slice_get_read m.blocks (length m.blocks) k b refl keeps.there.1 (sym keeps.there.2) in
    elim (cases_order k next) [
      | inl same ↦ record { block = b; listed = l; there = ap (λ (n : ℕ). slice_get m.blocks n) (sym same) ∙ at; keeps = keeps }
      | inr o ↦ elim o [
        | inl less ↦ absurd (pair-not-before p q (moved b keeps (before k b at less)))
        | inr more ↦ absurd (
            let within : k < length m.blocks = keeps.there.1 in
            let d : Block = get_or m.blocks next b in
            let here : slice_get m.blocks next ≡ Some d = slice_get-get_or m.blocks next b (omega arith) in
            let order : BlockBefore d b = ascending_tells.blocks m.blocks w.blocks.order next k d b here at more in
            first d here (onto d b keeps order))
      ]
    ]
  where
    moved : (b : Block) → KeepsApart m p q b l → PairBefore b.p b.q p q → PairBefore p q p q
    moved b keeps h = subst (λ (r : ℕ). PairBefore r q p q) keeps.lower (subst (λ (s : ℕ). PairBefore b.p s p q) keeps.higher h)

    onto : (d b : Block) → KeepsApart m p q b l → BlockBefore d b → PairBefore d.p d.q p q
    onto d b keeps h = subst (λ (r : ℕ). PairBefore d.p d.q r q) keeps.lower (subst (λ (s : ℕ). PairBefore d.p d.q b.p s) keeps.higher h)

-- what stands at a place of a list is in the list
pub get-in : {X : Type 0} (xs : List X) (k : ℕ) (x : X) → slice_get xs k ≡ Some x → In x xs
get-in [] k x e = absurd (cc e)
get-in (y ∷ ys) zero x e = inl (some-is y x e)
get-in (y ∷ ys) (suc k) x e = inr (get-in ys k x e)

-- each block of a well-shaped model names a listed invariant
pub block-named : (m : Model) (w : IsWellShaped m) (k : ℕ) (b : Block) → slice_get m.blocks k ≡ Some b → b.inv < length m.invariants
block-named m w k b e =
    (all_in (IsShapedBlock (length m.invariants) m.partitions) b m.blocks w.blocks.each (get-in m.blocks k b e)).names

module _ (m : Model) (w : IsWellShaped m) (p q next : ℕ) (before : AreBefore m.blocks next p q) (first : (b : Block) → slice_get m.blocks next ≡ Some b → PairBefore b.p b.q p q → ⊥) where
  -- past the last block, no block keeps the pair apart
  pub not-past : length m.blocks ≤ next → IsBlocked m p q → ⊥
  not-past l b =
      let o : IsBlockOf m p q next = the-block m w p q next before first b in
      let k : next < length m.blocks = slice_get_within m.blocks next o.block o.there in
      omega arith

  -- where a block keeps the pair apart, it is the one at the place
  pub block-is : (d : Block) → slice_get m.blocks next ≡ Some d → (b : IsBlocked m p q) → (the-block m w p q next before first b).block ≡ d
  block-is d e b = some-is (the-block m w p q next before first b).block d (sym (the-block m w p q next before first b).there ∙ e)

  -- where a block keeps the pair apart, the block at the place has its lower id
  pub block-lower : (d : Block) → slice_get m.blocks next ≡ Some d → IsBlocked m p q → d.p ≡ p
  block-lower d e b = sym (ap (λ (z : Block). z.p) (block-is d e b)) ∙ (the-block m w p q next before first b).keeps.lower

  -- where a block keeps the pair apart, the block at the place has its higher id
  pub block-higher : (d : Block) → slice_get m.blocks next ≡ Some d → IsBlocked m p q → d.q ≡ q
  block-higher d e b = sym (ap (λ (z : Block). z.q) (block-is d e b)) ∙ (the-block m w p q next before first b).keeps.higher

  -- where a block keeps the pair apart, the path at the place breaks its invariant in the merged graph
  pub block-breaks : (d : Block) (l : Listed) → slice_get m.blocks next ≡ Some d → slice_get m.invariants d.inv ≡ Some l → IsBlocked m p q → Breaks (Merged (graph_of m) p q) l.inv d.path
  block-breaks d l e f b =
      let o : IsBlockOf m p q next = the-block m w p q next before first b in
      let same : o.block ≡ d = block-is d e b in
      let names : slice_get m.invariants d.inv ≡ Some o.listed = sym (ap (λ (z : Block). slice_get m.invariants z.inv) same) ∙ o.keeps.names in
      let lists : o.listed ≡ l = some-is o.listed l (sym names ∙ f) in
      subst₂ (λ (z : Block) (k : Listed). Breaks (Merged (graph_of m) p q) k.inv z.path) same lists o.keeps.breaks

  -- a block of the pair at the place keeps it apart where its path breaks its invariant in the merged graph
  pub block-keeps : (d : Block) (l : Listed) → slice_get m.blocks next ≡ Some d → d.p ≡ p → d.q ≡ q → slice_get m.invariants d.inv ≡ Some l → Breaks (Merged (graph_of m) p q) l.inv d.path → IsBlocked m p q
  block-keeps d l e lower higher f b = (
    d,
    l,
    record {
      there = (next, slice_get_within m.blocks next d e, get_or_from_slice_get m.blocks next d d e);
      lower = lower;
      higher = higher;
      names = f;
      breaks = b;
    },
  )

-- the pairs of x, at i, with those before j have blocks, and the blocks before next are before the pairs left
pub record IsScanned (m : Model) (i j next : ℕ) (x : Partition) : Type 0 where
  pub held : (k : ℕ) (y : Partition) → slice_get m.partitions k ≡ Some y → i < k → k < j → y.typ ≡ x.typ → IsBlocked m x.id y.id
  pub reached : (k : ℕ) (y : Partition) → slice_get m.partitions k ≡ Some y → j ≤ k → AreBefore m.blocks next x.id y.id
  pub low : (n : ℕ) (b : Block) → slice_get m.blocks n ≡ Some b → n < next → b.p ≤ x.id

-- blocks before a pair have no higher first id than it
pub before-low : (blocks : List Block) (next p q : ℕ) → AreBefore blocks next p q → (n : ℕ) (b : Block) → slice_get blocks n ≡ Some b → n < next → b.p ≤ p
before-low blocks next p q before n b e l =
    elim (before n b e l) [
      | inl less ↦ (let h : b.p < p = less in omega arith)
      | inr same ↦ (let h : b.p ≡ p = same.0 in omega arith)
    ]

-- a block before a pair is before each later pair with the same first id
later-pair : (b : Block) (p q s : ℕ) → q < s → PairBefore b.p b.q p q → PairBefore b.p b.q p s
later-pair b p q s l (inl less) = inl less
later-pair b p q s l (inr same) = inr (same.0, let h : b.q < q = same.1 in omega arith)

module _ (m : Model) (w : IsWellShaped m) (i : ℕ) (x : Partition) (here : slice_get m.partitions i ≡ Some x) where
  -- blocks whose first id is not above that of the partition are before the pairs of the partitions behind it
  pub low-reached : (next : ℕ) → ((n : ℕ) (b : Block) → slice_get m.blocks n ≡ Some b → n < next → b.p ≤ x.id) → IsReached m next (i + 1)
  low-reached next low j y e l n b f k =
      let order : x.id < y.id = ids-in-order m w i j x y here e (omega arith) in
      let h : b.p ≤ x.id = low n b f k in
      omega arith

  -- before any pair of the partition was looked at, nothing is asked of one
  pub scan_start : (next : ℕ) → IsReached m next i → IsScanned m i (i + 1) next x
  scan_start next r =
      record {
        held = λ k y e l n t. absurd (omega arith);
        reached = λ k y e l n b f o. inl (r i x here (omega arith) n b f o);
        low = λ n b f o. (let h : b.p < x.id = r i x here (omega arith) n b f o in omega arith);
      }

  -- a partition of another type makes no pair
  pub scan_skip : (j next : ℕ) (y : Partition) → slice_get m.partitions j ≡ Some y → (y.typ ≡ x.typ → ⊥) → IsScanned m i j next x → IsScanned m i (j + 1) next x
  scan_skip j next y e n s =
      record {
        held = λ k z f l o t. elim (cases_eq k j) [
          | inl same ↦ absurd (n (ap (λ (u : Partition). u.typ) (some-is y z (sym e ∙ ap (λ (v : ℕ). slice_get m.partitions v) (sym same) ∙ f)) ∙ t))
          | inr other ↦ s.held k z f l (omega arith) t
        ];
        reached = λ k z f l. s.reached k z f (omega arith);
        low = s.low;
      }

  -- a pair that has a block is one more of those that have
  pub scan_more : (j old new : ℕ) (y : Partition) → slice_get m.partitions j ≡ Some y → IsBlocked m x.id y.id → AreBefore m.blocks new x.id y.id → IsScanned m i j old x → IsScanned m i (j + 1) new x
  scan_more j old new y e b before s =
      record {
        held = λ k z f l o t. elim (cases_eq k j) [
          | inl same ↦ subst (λ (u : Partition). IsBlocked m x.id u.id) (some-is y z (sym e ∙ ap (λ (v : ℕ). slice_get m.partitions v) (sym same) ∙ f)) b
          | inr other ↦ s.held k z f l (omega arith) t
        ];
        reached = λ k z f l n c g o. later-pair c x.id y.id z.id (ids-in-order m w j k y z e f (omega arith)) (before n c g o);
        low = before-low m.blocks new x.id y.id before;
      }

  -- at the end of the list each pair of the partition has a block
  pub scan_none : (j next : ℕ) → length m.partitions ≤ j → IsScanned m i j next x → (q : ℕ) → IsPair (graph_of m) x.id q → IsBlocked m x.id q
  scan_none j next l s q pair =
      let o : IsPairAt m i x q = place-pair m w i x q here pair in
      let k : o.k < length m.partitions = slice_get_within m.partitions o.k o.y o.there in
      subst (λ (v : ℕ). IsBlocked m x.id v) o.id (s.held o.k o.y o.there o.later (omega arith) o.types)

  -- the first pair that has no block is the first of the partition
  pub scan_some : (j next : ℕ) (y : Partition) → slice_get m.partitions j ≡ Some y → 2 ≤ x.id → i < j → y.typ ≡ x.typ → (IsBlocked m x.id y.id → ⊥) → IsScanned m i j next x → IsFirstWith m x.id y.id
  scan_some j next y e low l t n s =
      record {
        pair = pair-at m w i j x y here e low l t;
        stands_open = n;
        first = λ q pair less.
            let o : IsPairAt m i x q = place-pair m w i x q here pair in
            let id : o.y.id ≡ q = o.id in
            let k : o.k < j = place-before m w o.k j o.y y o.there e (omega arith) in
            subst (λ (v : ℕ). IsBlocked m x.id v) o.id (s.held o.k o.y o.there o.later k o.types);
      }

-- each pair whose first partition is before the place i has a block
abbrev pub AreKept : Model → ℕ → Type 0
AreKept m i =
    (k : ℕ) (x : Partition) → slice_get m.partitions k ≡ Some x → k < i → (s : ℕ) → IsPair (graph_of m) x.id s → IsBlocked m x.id s

-- so it is past one partition more, each pair of which has a block
pub kept_more : (m : Model) (i : ℕ) (x : Partition) → slice_get m.partitions i ≡ Some x → ((s : ℕ) → IsPair (graph_of m) x.id s → IsBlocked m x.id s) → AreKept m i → AreKept m (i + 1)
kept_more m i x e f a k y g l =
    elim (cases_eq k i) [
      | inl same ↦ subst (λ (u : Partition). (s : ℕ) → IsPair (graph_of m) u.id s → IsBlocked m u.id s) (some-is x y (sym e ∙ ap (λ (v : ℕ). slice_get m.partitions v) (sym same) ∙ g)) f
      | inr other ↦ a k y g (omega arith)
    ]

-- at the end of the list each pair has a block
pub kept_all : (m : Model) (i : ℕ) → length m.partitions ≤ i → AreKept m i → (p q : ℕ) → IsPair (graph_of m) p q → IsBlocked m p q
kept_all m i l a p q pair =
    let o : (k : ℕ) × (x : Partition) × (slice_get m.partitions k ≡ Some x) × (x.id ≡ p) × (x.typ ≡ listed_type p m.partitions) = place-of p m.partitions pair.has_p in
    let k : o.0 < length m.partitions = slice_get_within m.partitions o.0 o.1 o.2 in
    subst (λ (v : ℕ). IsBlocked m v q) o.3 (a o.0 o.1 o.2 (omega arith) q (subst (λ (v : ℕ). IsPair (graph_of m) v q) (sym o.3) pair))

-- where all pairs of the partitions before have one, the first of a partition that has none is the first of all
pub kept_some : (m : Model) (w : IsWellShaped m) (i q : ℕ) (x : Partition) → slice_get m.partitions i ≡ Some x → AreKept m i → IsFirstWith m x.id q → IsFirstOpen m x.id q
kept_some m w i q x e a f =
    record {
      pair = f.pair;
      stands_open = f.stands_open;
      first = λ r s pair before. earlier r s pair before;
    }
  where
    earlier : (r s : ℕ) → IsPair (graph_of m) r s → PairBefore r s x.id q → IsBlocked m r s
    earlier r s pair (inl less) =
        let o : (k : ℕ) × (y : Partition) × (slice_get m.partitions k ≡ Some y) × (y.id ≡ r) × (y.typ ≡ listed_type r m.partitions) = place-of r m.partitions pair.has_p in
        let id : o.1.id ≡ r = o.3 in
        let k : o.0 < i = place-before m w o.0 i o.1 x o.2 e (omega arith) in
        subst (λ (v : ℕ). IsBlocked m v s) o.3 (a o.0 o.1 o.2 k s (subst (λ (v : ℕ). IsPair (graph_of m) v s) (sym o.3) pair))
    earlier r s pair (inr same) =
        subst (λ (v : ℕ). IsBlocked m v s) (sym same.0) (f.first s (subst (λ (v : ℕ). IsPair (graph_of m) v s) same.0 pair) same.1)
