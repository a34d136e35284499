-- Answers that are the next number with a property.
use Rattle.std.proofs.Common.{◌≡◌, ◌≢◌, ℕ, ◌<◌, ◌≤◌, ◌==◌, ◌&&◌, ◌||◌, not, Bool, true, false, ltb, leb, List, Option, Some, None, arith, ap, sym, ◌∙◌, refl, subst, inl, inr, ne_eqb}
use Rattle.std.specs.Option.{IfSome}
use Rattle.std.proofs.lemmas.Bool.{cases_Bool, cases_lt, lt-ltb, le-ltb, leb-true, leb-false, or_left, or_right, eqb-true}
use Rattle.limits.specs.declared.TheConstants.{MAX_PARTITIONS}
use Rattle.partition_model.specs.Graphs.{Graph, merged_edge}
use Rattle.partition_model.specs.Assignments.{G}
use Rattle.partition_graph.specs.declared.cells.Cell.{Cell}
use Rattle.partition_graph.specs.declared.tables.Tables.{Tables}
use Rattle.partition_graph.specs.Cells.{traces_of}
use Rattle.partition_graph.specs.Kept.{IsKept}
use Rattle.partition_graph.specs.Marks.{is_counted}
use Rattle.partition_graph.specs.MergedNeighbours.{own_source, gained_source, kept_source, own_target, gained_target, kept_target}
use Rattle.partition_graph.specs.NeighbourWords.{IsWordOf}
use Rattle.partition_graph.specs.Nexts.{IsNextAnswer, lesser}
use Rattle.partition_graph.specs.Parts.{Parts, IsUsed}
use Rattle.partition_graph.proofs.NeighbourWords.{word-same}
use Rattle.partition_graph.proofs.UnusedIds.{edges_within, no_edge}

-- an answer for another test that answers the same
pub next_same : (has other : ℕ → Bool) (from : ℕ) (o : Option ℕ) → ((n : ℕ) → has n ≡ other n) → IsNextAnswer has from o → IsNextAnswer other from o
next_same has other from None e a = λ n l. sym (e n) ∙ a n l
next_same has other from (Some x) e a =
    record {
      reached = a.reached;
      there = sym (e x) ∙ a.there;
      first = λ k l b. sym (e k) ∙ a.first k l b;
    }

-- what holds of each number with the property holds of the answer
pub next_holds : (has : ℕ → Bool) (from : ℕ) (P : ℕ → Type 0) (o : Option ℕ) → ((n : ℕ) → has n ≡ true → P n) → IsNextAnswer has from o → IfSome o P
next_holds has from P None f a = tt
next_holds has from P (Some x) f a = f x a.there

or_none : (x y : Bool) → x ≡ false → y ≡ false → (x || y) ≡ false
or_none x y a b = ap (λ z. z || y) a ∙ b

-- the lesser of two answers is the answer for both tests together
pub next_lesser : (has other : ℕ → Bool) (from : ℕ) (a b : Option ℕ) → IsNextAnswer has from a → IsNextAnswer other from b → IsNextAnswer (λ n. has n || other n) from (lesser a b)
next_lesser has other from None None x y = λ n l. or_none (has n) (other n) (x n l) (y n l)
next_lesser has other from None (Some j) x y =
    record {
      reached = y.reached;
      there = or_right (has j) (other j) y.there;
      first = λ k l b. or_none (has k) (other k) (x k l) (y.first k l b);
    }
next_lesser has other from (Some i) None x y =
    record {
      reached = x.reached;
      there = or_left (has i) (other i) x.there;
      first = λ k l b. or_none (has k) (other k) (x.first k l b) (y k l);
    }
next_lesser has other from (Some i) (Some j) x y =
    elim (cases_Bool (leb i j)) [
      | inl t ↦
          let le : i ≤ j = leb-true i j t in
          rw t
          (record {
            reached = x.reached;
            there = or_left (has i) (other i) x.there;
            first = λ k l b. or_none (has k) (other k) (x.first k l b) (y.first k l (omega (arith, le, b)));
          })
      | inr f ↦
          let lt : j < i = leb-false i j f in
          rw f
          (record {
            reached = y.reached;
            there = or_right (has j) (other j) y.there;
            first = λ k l b. or_none (has k) (other k) (x.first k l (omega (arith, lt, b))) (y.first k l b);
          })
    ]

-- what is counted is an edge
pub counted_is : (cells : List Cell) (firsts : List ℕ) (tables : Tables) (used : ℕ) → IsKept cells firsts tables used → (p q : ℕ) → is_counted tables.counts p q ≡ (G (traces_of cells)).edge p q
counted_is cells firsts tables used k p q =
    let limit : used ≤ MAX_PARTITIONS = k.limit in
    elim (cases_lt p MAX_PARTITIONS) [
      | inl a ↦
          let x : ltb p MAX_PARTITIONS ≡ true = lt-ltb p MAX_PARTITIONS a in
          elim (cases_lt q MAX_PARTITIONS) [
            | inl b ↦ let y : ltb q MAX_PARTITIONS ≡ true = lt-ltb q MAX_PARTITIONS b in rw (x, y) (ap (λ n. ltb 0 n) (k.counts_are p q a b))
            | inr b ↦
                let y : ltb q MAX_PARTITIONS ≡ false = le-ltb q MAX_PARTITIONS b in
                rw (x, y) (ap (λ n. ltb 0 n) (no_edge (traces_of cells) used k.two k.below p q (inr (omega (arith, b, limit)))))
          ]
      | inr a ↦
          let x : ltb p MAX_PARTITIONS ≡ false = le-ltb p MAX_PARTITIONS a in
          rw x (ap (λ n. ltb 0 n) (no_edge (traces_of cells) used k.two k.below p q (inl (omega (arith, a, limit)))))
    ]

used_ends : (cells : List Cell) (firsts : List ℕ) (tables : Tables) (used : ℕ) (parts : Parts) → IsKept cells firsts tables used → (let kept : Parts = record { traces = traces_of cells; used = used } in kept ≡ parts)
    → (p q : ℕ) → (G parts.traces).edge p q ≡ true → IsUsed parts p × IsUsed parts q
used_ends cells firsts tables used parts k e p q edge =
    subst (λ (x : Parts). (G x.traces).edge p q ≡ true → IsUsed x p × IsUsed x q) e (λ t.
    let w : (p < used) × (q < used) = edges_within (traces_of cells) used k.two k.below p q t in
    let limit : used ≤ MAX_PARTITIONS = k.limit in
    let a : p < used = w.0 in
    let b : q < used = w.1 in
    ((a, omega (arith, a, limit)), (b, omega (arith, b, limit)))) edge

-- the next source and the next target by what is counted
pub next_source_is : (cells : List Cell) (firsts : List ℕ) (tables : Tables) (used : ℕ) (parts : Parts) → IsKept cells firsts tables used → (let kept : Parts = record { traces = traces_of cells; used = used } in kept ≡ parts)
    → (q from : ℕ) (o : Option ℕ) → IsNextAnswer (λ p. is_counted tables.counts p q) from o → IsNextAnswer (λ p. (G parts.traces).edge p q) from o
next_source_is cells firsts tables used parts k e q from o a =
    subst (λ (x : Parts). IsNextAnswer (λ p. (G x.traces).edge p q) from o) e
    (next_same (λ p. is_counted tables.counts p q) (λ p. (G (traces_of cells)).edge p q) from o (λ p. counted_is cells firsts tables used k p q) a)

pub next_target_is : (cells : List Cell) (firsts : List ℕ) (tables : Tables) (used : ℕ) (parts : Parts) → IsKept cells firsts tables used → (let kept : Parts = record { traces = traces_of cells; used = used } in kept ≡ parts)
    → (p from : ℕ) (o : Option ℕ) → IsNextAnswer (λ q. is_counted tables.counts p q) from o → IsNextAnswer (λ q. (G parts.traces).edge p q) from o
next_target_is cells firsts tables used parts k e p from o a =
    subst (λ (x : Parts). IsNextAnswer (λ q. (G x.traces).edge p q) from o) e
    (next_same (λ q. is_counted tables.counts p q) (λ q. (G (traces_of cells)).edge p q) from o (λ q. counted_is cells firsts tables used k p q) a)

-- the words of sources and of targets by what is counted
pub source_word_is : (cells : List Cell) (firsts : List ℕ) (tables : Tables) (used : ℕ) (parts : Parts) → IsKept cells firsts tables used → (let kept : Parts = record { traces = traces_of cells; used = used } in kept ≡ parts)
    → (q place word : ℕ) → IsWordOf (λ p. is_counted tables.counts p q) place word → IsWordOf (λ p. (G parts.traces).edge p q) place word
source_word_is cells firsts tables used parts k e q place word is =
    subst (λ (x : Parts). IsWordOf (λ p. (G x.traces).edge p q) place word) e
    (word-same (λ p. is_counted tables.counts p q) (λ p. (G (traces_of cells)).edge p q) place word (λ p. counted_is cells firsts tables used k p q) is)

pub target_word_is : (cells : List Cell) (firsts : List ℕ) (tables : Tables) (used : ℕ) (parts : Parts) → IsKept cells firsts tables used → (let kept : Parts = record { traces = traces_of cells; used = used } in kept ≡ parts)
    → (p place word : ℕ) → IsWordOf (λ q. is_counted tables.counts p q) place word → IsWordOf (λ q. (G parts.traces).edge p q) place word
target_word_is cells firsts tables used parts k e p place word is =
    subst (λ (x : Parts). IsWordOf (λ q. (G x.traces).edge p q) place word) e
    (word-same (λ q. is_counted tables.counts p q) (λ q. (G (traces_of cells)).edge p q) place word (λ q. counted_is cells firsts tables used k p q) is)

-- and they are used
pub source_used : (cells : List Cell) (firsts : List ℕ) (tables : Tables) (used : ℕ) (parts : Parts) → IsKept cells firsts tables used → (let kept : Parts = record { traces = traces_of cells; used = used } in kept ≡ parts)
    → (q from : ℕ) (o : Option ℕ) → IsNextAnswer (λ p. (G parts.traces).edge p q) from o → IfSome o (IsUsed parts)
source_used cells firsts tables used parts k e q from o a =
    next_holds (λ p. (G parts.traces).edge p q) from (IsUsed parts) o (λ p t. (used_ends cells firsts tables used parts k e p q t).0) a

pub target_used : (cells : List Cell) (firsts : List ℕ) (tables : Tables) (used : ℕ) (parts : Parts) → IsKept cells firsts tables used → (let kept : Parts = record { traces = traces_of cells; used = used } in kept ≡ parts)
    → (p from : ℕ) (o : Option ℕ) → IsNextAnswer (λ q. (G parts.traces).edge p q) from o → IfSome o (IsUsed parts)
target_used cells firsts tables used parts k e p from o a =
    next_holds (λ q. (G parts.traces).edge p q) from (IsUsed parts) o (λ q t. (used_ends cells firsts tables used parts k e p q t).1) a

-- the three parts of the edges after a merge: a says that the id is gone, c and d that each end is the one that stays
source_parts : (a c d x y z w : Bool) → (a ≡ true → c ≡ true → ⊥) → ((not a && x) || ((d && (not a && z)) || (c && (y || (d && w))))) ≡ (not a && not false && (x || (c && y) || (d && z) || (c && d && w)))
source_parts true true d x y z w h = absurd (h refl refl)
source_parts true false true x y z w h = refl
source_parts true false false x y z w h = refl
source_parts false c d true y z w h = refl
source_parts false false true false y true w h = refl
source_parts false false true false y false w h = refl
source_parts false false false false y z w h = refl
source_parts false true false false true z w h = refl
source_parts false true false false false z w h = refl
source_parts false true true false true true w h = refl
source_parts false true true false true false w h = refl
source_parts false true true false false true w h = refl
source_parts false true true false false false w h = refl

target_parts : (b c d x y z w : Bool) → (b ≡ true → d ≡ true → ⊥) → ((not b && x) || ((c && (not b && y)) || (d && (z || (c && w))))) ≡ (not false && not b && (x || (c && y) || (d && z) || (c && d && w)))
target_parts true c true x y z w h = absurd (h refl refl)
target_parts true true false x y z w h = refl
target_parts true false false x y z w h = refl
target_parts false c d true y z w h = refl
target_parts false true true false true z w h = refl
target_parts false true true false false true w h = refl
target_parts false true true false false false w h = refl
target_parts false true false false true z w h = refl
target_parts false true false false false z w h = refl
target_parts false false true false y true w h = refl
target_parts false false true false y false w h = refl
target_parts false false false false y z w h = refl

-- the sources of v where q is replaced by p
pub merged_sources : (g : Graph) (p q v : ℕ) → p < q → v ≢ q → (u : ℕ) → (own_source g q v u || (gained_source g p q v u || kept_source g p q v u)) ≡ merged_edge g p q u v
merged_sources g p q v l ne u =
    let f : (v == q) ≡ false = ne_eqb v q ne in
    rw f
    (source_parts (u == q) (u == p) (v == p) (g.edge u v) (g.edge q v) (g.edge u q) (g.edge q q) (λ s t.
    let x : u ≡ q = eqb-true u q s in
    let y : u ≡ p = eqb-true u p t in
    omega (arith, x, y, l)))

-- the targets of u where q is replaced by p
pub merged_targets : (g : Graph) (p q u : ℕ) → p < q → u ≢ q → (v : ℕ) → (own_target g q u v || (gained_target g p q u v || kept_target g p q u v)) ≡ merged_edge g p q u v
merged_targets g p q u l ne v =
    let f : (u == q) ≡ false = ne_eqb u q ne in
    rw f
    (target_parts (v == q) (u == p) (v == p) (g.edge u v) (g.edge q v) (g.edge u q) (g.edge q q) (λ s t.
    let x : v ≡ q = eqb-true v q s in
    let y : v ≡ p = eqb-true v p t in
    omega (arith, x, y, l)))
