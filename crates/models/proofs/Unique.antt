-- A log has at most one model.
use Rattle.std.proofs.Common.{◌≡◌, ◌↔◌, ◌⊎◌, ℕ, zero, suc, ◌+◌, ◌/◌, ◌%◌, ◌<◌, ◌≤◌, ◌==◌, Bool, true, false, List, [], ◌∷◌, map, length, sym, ◌∙◌, refl, ap, ap₂, subst, subst₂, inl, inr, arith, eq-eqb, ne_eqb}
use Rattle.std.specs.List.{AllByRecursion}
use Rattle.invariants.specs.declared.Invariant.{Invariant}
use Rattle.invariants.specs.declared.records.Model.{Model}
use Rattle.invariants.specs.declared.records.Listed.{Listed}
use Rattle.invariants.specs.declared.records.Partition.{Partition}
use Rattle.invariants.specs.declared.records.Edge.{Edge}
use Rattle.invariants.specs.Labels.{IsLabel}
use Rattle.partition_model.specs.Assignments.{Assignment, G, by_type, is_live}
use Rattle.partition_model.specs.Listings.{AscendIds, AscendEdges, ArePartitions, AreEdges}
use Rattle.partition_model.specs.Coarsening.{Coarsens, PairBefore, AreBlocks}
use Rattle.partition_model.proofs.Lists.{In}
use Rattle.partition_model.proofs.Listing.{Contains-In, In-Contains}
use Rattle.partition_model.proofs.Unique.{one_refinement, one_coarsening}
use Rattle.partition_bounds.proofs.Ordered.{Sorted, same-lists, pair-asym, pair-next}
use Rattle.partition_bounds.proofs.Blocks.{one_blocks}
use Rattle.models.specs.Models.{mined_of, has_state, label_at, AreReached}
use Rattle.models.specs.Laws.{OneModel}

-- the id of the one partition is below that of the other
abbrev IdBefore : Partition → Partition → Type 0
IdBefore x y = x.id < y.id

-- where ids ascend from a number on, none is below it
ids-above : (low : ℕ) (xs : List Partition) (y : Partition) → AscendIds low xs → In y xs → low ≤ y.id
ids-above low [] y a i = absurd i
ids-above low (x ∷ xs) y a i = elim i [
  | inl e ↦ subst (λ (u : Partition). low ≤ u.id) e a.0
  | inr j ↦ (let l : suc x.id ≤ y.id = ids-above (suc x.id) xs y a.1 j in let k : low ≤ x.id = a.0 in omega arith)
]

-- partitions whose ids ascend are sorted by them
ids-sorted : (low : ℕ) (xs : List Partition) → AscendIds low xs → Sorted IdBefore xs
ids-sorted low [] a = tt
ids-sorted low (x ∷ xs) a = (λ y i. (let l : suc x.id ≤ y.id = ids-above (suc x.id) xs y a.1 i in omega arith), ids-sorted (suc x.id) xs a.1)

-- a partition of one list of the assignment is in each other
partition-there : (h : Assignment) (xs ys : List Partition) → ArePartitions xs h → ArePartitions ys h → (z : Partition) → In z xs → In z ys
partition-there h xs ys a b z i = In-Contains ys z ((b.members z).1 ((a.members z).0 (Contains-In z xs i)))

-- an assignment has one list of partitions
pub one-partitions : (h : Assignment) (xs ys : List Partition) → ArePartitions xs h → ArePartitions ys h → xs ≡ ys
one-partitions h xs ys a b =
    same-lists IdBefore (λ x y l k. omega (arith, l, k)) xs ys (ids-sorted 0 xs a.order) (ids-sorted 0 ys b.order)
    (partition-there h xs ys a b) (partition-there h ys xs b a)

-- the ends of the one edge are before those of the other
abbrev EdgeBefore : Edge → Edge → Type 0
EdgeBefore x y = PairBefore x.from x.to y.from y.to

-- from one edge on, the next ones come after it
edge-first : (p q r s : ℕ) → (p < r) ⊎ ((p ≡ r) × (suc q ≤ s)) → PairBefore p q r s
edge-first p q r s (inl l) = inl l
edge-first p q r s (inr b) = inr (b.0, omega (arith, b.1))

-- where edges ascend from behind a pair, each comes after it
edges-above : (p q : ℕ) (xs : List Edge) (y : Edge) → AscendEdges p (suc q) xs → In y xs → PairBefore p q y.from y.to
edges-above p q [] y a i = absurd i
edges-above p q (x ∷ xs) y a i =
    let f : PairBefore p q x.from x.to = edge-first p q x.from x.to a.0 in
    elim i [
      | inl e ↦ subst (λ (u : Edge). PairBefore p q u.from u.to) e f
      | inr j ↦ pair-next p q x.from x.to y.from y.to f (edges-above x.from x.to xs y a.1 j)
    ]

-- edges that ascend are sorted by their ends
edges-sorted : (p q : ℕ) (xs : List Edge) → AscendEdges p q xs → Sorted EdgeBefore xs
edges-sorted p q [] a = tt
edges-sorted p q (x ∷ xs) a = (λ y i. edges-above x.from x.to xs y a.1 i, edges-sorted x.from (suc x.to) xs a.1)

-- an edge of one list of the assignment is in each other
edge-there : (h : Assignment) (xs ys : List Edge) → AreEdges xs h → AreEdges ys h → (z : Edge) → In z xs → In z ys
edge-there h xs ys a b z i = In-Contains ys z ((b.members z).1 ((a.members z).0 (Contains-In z xs i)))

-- an assignment has one list of edges
pub one-edges : (h : Assignment) (xs ys : List Edge) → AreEdges xs h → AreEdges ys h → xs ≡ ys
one-edges h xs ys a b =
    same-lists EdgeBefore (λ x y l k. pair-asym x.from x.to y.from y.to l k) xs ys (edges-sorted 0 0 xs a.order) (edges-sorted 0 0 ys b.order)
    (edge-there h xs ys a b) (edge-there h ys xs b a)

-- truth values that both hold exactly where a fact does are the same
same-bit : {P : Type 0} (x y : Bool) → (x ≡ true) ↔ P → (y ≡ true) ↔ P → x ≡ y
same-bit true y f g = sym (g.1 (f.0 refl))
same-bit false true f g = f.1 (g.0 refl)
same-bit false false f g = refl

-- numbers below 2 are the same where they are 1 alike
bit-number : (m n : ℕ) → m < 2 → n < 2 → (m == 1) ≡ (n == 1) → m ≡ n
bit-number zero zero k l e = refl
bit-number zero (suc zero) k l e = cc
bit-number (suc zero) zero k l e = cc
bit-number (suc zero) (suc zero) k l e = refl
bit-number m n k l e = absurd (omega arith)

-- labels with the same states are the same
same-number : (d e : ℕ) → d ≤ 7 → e ≤ 7 → ((s : ℕ) → s < 3 → has_state d s ≡ has_state e s) → d ≡ e
same-number d e k l f =
    let a : d % 2 ≡ e % 2 = bit-number (d % 2) (e % 2) (omega arith) (omega arith) (f 0 (omega arith)) in
    let b : (d / 2) % 2 ≡ (e / 2) % 2 = bit-number ((d / 2) % 2) ((e / 2) % 2) (omega arith) (omega arith) (f 1 (omega arith)) in
    let c : (d / 4) % 2 ≡ (e / 4) % 2 = bit-number ((d / 4) % 2) ((e / 4) % 2) (omega arith) (omega arith) (f 2 (omega arith)) in
    omega arith

-- labels that say the same states of each partition are the same
same-labels : (low : ℕ) (xs : List Partition) (ds es : List ℕ) → AscendIds low xs → length ds ≡ length xs → length es ≡ length xs
    → AllByRecursion IsLabel ds → AllByRecursion IsLabel es
    → ((x : Partition) → In x xs → (s : ℕ) → s < 3 → has_state (label_at x.id xs ds) s ≡ has_state (label_at x.id xs es) s) → ds ≡ es
same-labels low [] [] [] a m n k l f = refl
same-labels low [] (d ∷ ds) es a m n k l f = absurd (omega arith)
same-labels low [] [] (e ∷ es) a m n k l f = absurd (omega arith)
same-labels low (x ∷ xs) [] es a m n k l f = absurd (omega arith)
same-labels low (x ∷ xs) (d ∷ ds) [] a m n k l f = absurd (omega arith)
same-labels low (x ∷ xs) (d ∷ ds) (e ∷ es) a m n k l f =
    ap₂ (λ (u : ℕ) (us : List ℕ). u ∷ us) first (same-labels (suc x.id) xs ds es a.1 (omega arith) (omega arith) k.1 l.1 rest)
  where
    at-x : (c : ℕ) (cs : List ℕ) → label_at x.id (x ∷ xs) (c ∷ cs) ≡ c
    at-x c cs = rw (eq-eqb x.id x.id refl) refl

    here : (s : ℕ) → s < 3 → has_state d s ≡ has_state e s
    here s u = ap (λ (z : ℕ). has_state z s) (sym (at-x d ds)) ∙ (f x (inl refl) s u ∙ ap (λ (z : ℕ). has_state z s) (at-x e es))

    first : d ≡ e
    first = same-number d e k.0 l.0 here

    past : (y : Partition) → In y xs → (c : ℕ) (cs : List ℕ) → label_at y.id (x ∷ xs) (c ∷ cs) ≡ label_at y.id xs cs
    past y i c cs =
        let u : suc x.id ≤ y.id = ids-above (suc x.id) xs y a.1 i in
        rw (ne_eqb x.id y.id (λ q. absurd (omega (arith, u, q)))) refl

    rest : (y : Partition) → In y xs → (s : ℕ) → s < 3 → has_state (label_at y.id xs ds) s ≡ has_state (label_at y.id xs es) s
    rest y i s u = ap (λ (z : ℕ). has_state z s) (sym (past y i d ds)) ∙ (f y (inr i) s u ∙ ap (λ (z : ℕ). has_state z s) (past y i e es))

-- the labels that say the states that are reached are these alone
one-label : (inv : Invariant) (h : Assignment) (xs : List Partition) (ds es : List ℕ) → ArePartitions xs h
    → AreReached inv h xs ds → AreReached inv h xs es → ds ≡ es
one-label inv h xs ds es a r s =
    same-labels 0 xs ds es a.order r.count s.count r.each s.each
    (λ x i t u.
    (let p : is_live h x.id ≡ true = ((a.members x).0 (Contains-In x xs i)).0 in
    same-bit (has_state (label_at x.id xs ds) t) (has_state (label_at x.id xs es) t) (r.states x.id t p u) (s.states x.id t p u)))

-- listed invariants with the same invariant and the same labels are the same
same-listed : (x y : Listed) → x.inv ≡ y.inv → x.labels ≡ y.labels → x ≡ y
same-listed x y e f = λ d. record { inv = e d; labels = f d }

-- a listing has one list of labels that say the states that are reached
one-listing : (h : Assignment) (xs : List Partition) → ArePartitions xs h → (ls ks : List Listed) → map (λ l. l.inv) ls ≡ map (λ l. l.inv) ks
    → AllByRecursion (λ l. AreReached l.inv h xs l.labels) ls → AllByRecursion (λ l. AreReached l.inv h xs l.labels) ks → ls ≡ ks
one-listing h xs a [] [] e r s = refl
one-listing h xs a [] (k ∷ ks) e r s = absurd (cc)
one-listing h xs a (l ∷ ls) [] e r s = absurd (cc)
one-listing h xs a (l ∷ ls) (k ∷ ks) e r s =
    let i : l.inv ≡ k.inv = cc in
    let j : map (λ (x : Listed). x.inv) ls ≡ map (λ (x : Listed). x.inv) ks = cc in
    let s' : AreReached l.inv h xs k.labels = subst (λ (x : Invariant). AreReached x h xs k.labels) (sym i) s.0 in
    let d : l.labels ≡ k.labels = one-label l.inv h xs l.labels k.labels a r.0 s' in
    ap₂ (λ (x : Listed) (z : List Listed). x ∷ z) (same-listed l k i d) (one-listing h xs a ls ks j r.1 s.1)

-- models whose parts are the same are the same
same-model : (a b : Model) → a.types ≡ b.types → a.kinds ≡ b.kinds → a.partitions ≡ b.partitions → a.edges ≡ b.edges → a.invariants ≡ b.invariants
    → a.splits ≡ b.splits → a.merges ≡ b.merges → a.blocks ≡ b.blocks → a ≡ b
same-model a b t x p e i s m k = λ d. record { types = t d; kinds = x d; partitions = p d; edges = e d; invariants = i d; splits = s d; merges = m d; blocks = k d }

-- a log has at most one model
pub one_model : OneModel
one_model a b log x y =
    let invs : List Invariant = mined_of log in
    let s : (a.splits ≡ b.splits) × (x.refined ≡ y.refined) =
    one_refinement invs (by_type log.words) (length log.types + 2) a.splits b.splits x.refined y.refined x.splits y.splits in
    let m : (a.merges ≡ b.merges) × (x.end ≡ y.end) =
    one_coarsening invs x.refined a.merges b.merges x.end y.end x.merges (subst (λ (h : Assignment). Coarsens invs h b.merges y.end) (sym s.1) y.merges) in
    let bp : ArePartitions b.partitions x.end = subst (λ (h : Assignment). ArePartitions b.partitions h) (sym m.1) y.partitions in
    let p : a.partitions ≡ b.partitions = one-partitions x.end a.partitions b.partitions x.partitions bp in
    let e : a.edges ≡ b.edges = one-edges x.end a.edges b.edges x.edges (subst (λ (h : Assignment). AreEdges b.edges h) (sym m.1) y.edges) in
    let bl : AllByRecursion (λ l. AreReached l.inv x.end a.partitions l.labels) b.invariants =
    subst₂ (λ (h : Assignment) (z : List Partition). AllByRecursion (λ l. AreReached l.inv h z l.labels) b.invariants) (sym m.1) (sym p) y.labels in
    let i : a.invariants ≡ b.invariants = one-listing x.end a.partitions x.partitions a.invariants b.invariants (x.listing ∙ sym y.listing) x.labels bl in
    let k : a.blocks ≡ b.blocks = one_blocks invs (G x.end) a.blocks b.blocks x.blocks (subst (λ (h : Assignment). AreBlocks invs (G h) b.blocks) (sym m.1) y.blocks) in
    same-model a b (x.types ∙ sym y.types) (x.kinds ∙ sym y.kinds) p e i s.0 m.0 k
