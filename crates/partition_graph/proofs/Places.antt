-- The places at which there may be neighbours.
use Rattle.std.proofs.Common.{◌≡◌, ◌≢◌, ℕ, ◌+◌, ◌*◌, ◌/◌, ◌%◌, ◌<◌, ◌≤◌, ◌==◌, ◌&&◌, ◌||◌, not, Bool, true, false, eqb, ltb, eq-eqb, ne_eqb, List, length, sym, ap, ◌∙◌, refl, arith, inl, inr, subst}
use Rattle.std.proofs.lemmas.Bool.{cases_lt, le-ltb, true≢false}
use Rattle.std.proofs.lemmas.List.{get_or_past}
use Rattle.std.proofs.lemmas.Nat.{div-add-mod', mod_below}
use Rattle.std.proofs.lemmas.Nat.Bits.{bit_at-zero}
use lib.Bits.{bit_and}
use Rattle.std.specs.Int.Bits.{bit_or}
use Rattle.limits.specs.declared.TheConstants.{MAX_PARTITIONS}
use Rattle.bit_rows.specs.Tables.{row_at, is_set}
use Rattle.partition_model.specs.Graphs.{Graph, merged_edge}
use Rattle.partition_model.specs.Assignments.{G}
use Rattle.partition_graph.specs.declared.cells.Cell.{Cell}
use Rattle.partition_graph.specs.declared.tables.Tables.{Tables}
use Rattle.partition_graph.specs.Cells.{traces_of}
use Rattle.partition_graph.specs.Filled.{IsFilled}
use Rattle.partition_graph.specs.Kept.{IsKept}
use Rattle.partition_graph.specs.Marks.{is_counted}
use Rattle.partition_graph.specs.MergedNeighbours.{gained_source, gained_target}
use Rattle.partition_graph.specs.NeighbourWords.{IsWordOf, ArePlaces}
use Rattle.partition_graph.specs.Parts.{Parts}
use Rattle.partition_graph.proofs.NeighbourWords.{word-both, word-blank, word-either}
use Rattle.partition_graph.proofs.NextOnes.{counted_is}

-- no place where no number has the property
pub places-none : (has : ℕ → Bool) → ((n : ℕ) → has n ≡ false) → ArePlaces has 0
places-none has none =
    record {
      marks = λ k. false;
      bits = λ i below. ap (λ y. eqb y 1) (bit_at-zero i);
      others = λ place i below off. none (place * 64 + i);
    }

-- the places of a property are places of one that only some of its numbers have
pub places-fewer : (has other : ℕ → Bool) (x : ℕ) → ((n : ℕ) → has n ≡ false → other n ≡ false) → ArePlaces has x → ArePlaces other x
places-fewer has other x less are =
    record { marks = are.marks; bits = are.bits; others = λ place i below off. less (place * 64 + i) (are.others place i below off) }

neither-first : (a b : Bool) → (a || b) ≡ false → a ≡ false
neither-first true b e = e
neither-first false b e = refl

neither-second : (a b : Bool) → (a || b) ≡ false → b ≡ false
neither-second true b e = absurd (true≢false e)
neither-second false b e = e

-- the places of two properties
pub places-either : (a b c : ℕ → Bool) (x y : ℕ) → ((n : ℕ) → a n ≡ false → b n ≡ false → c n ≡ false) → ArePlaces a x → ArePlaces b y → ArePlaces c (bit_or x y)
places-either a b c x y none are too =
    record {
      marks = λ k. are.marks k || too.marks k;
      bits = word-either are.marks too.marks 0 x y are.bits too.bits;
      others = λ place i below off. none (place * 64 + i)
          (are.others place i below (neither-first (are.marks place) (too.marks place) off))
          (too.others place i below (neither-second (are.marks place) (too.marks place) off));
    }

-- the place of one number
pub places-here : (id x : ℕ) → IsWordOf (λ k. k == id / 64) 0 x → ArePlaces (λ n. n == id) x
places-here id x is =
    record {
      marks = λ k. k == id / 64;
      bits = is;
      others = λ place i below off. ne_eqb (place * 64 + i) id (λ e.
          true≢false (sym (eq-eqb place (id / 64) (omega (arith, e, below))) ∙ off));
    }

-- the places of a row
pub places-row : (rows filled : List (List Bool)) (r x : ℕ) → IsFilled rows filled → r < MAX_PARTITIONS → IsWordOf (is_set (row_at filled r)) 0 x → ArePlaces (is_set (row_at rows r)) x
places-row rows filled r x inv low is =
    record {
      marks = is_set (row_at filled r);
      bits = is;
      others = λ place i below off. elim (cases_lt place 16) [
        | inl inside ↦ inv.blank r place i low inside below off
        | inr past ↦ (let long : length (row_at rows r) ≡ MAX_PARTITIONS = inv.rows_shape.long r low in get_or_past (row_at rows r) (place * 64 + i) false (omega (arith, past, long)))
      ];
    }

left-off : (a b : Bool) → b ≡ true → (a && b) ≡ false → a ≡ false
left-off true b on off = absurd (true≢false (sym on ∙ off))
left-off false b on off = refl

and-false : (a : Bool) → (a && false) ≡ false
and-false true = refl
and-false false = refl

-- no edge to an id past the last one is counted, and none from one
pub none-to-past : (counts : List ℕ) (p q : ℕ) → MAX_PARTITIONS ≤ q → is_counted counts p q ≡ false
none-to-past counts p q past =
    let off : ltb q MAX_PARTITIONS ≡ false = le-ltb q MAX_PARTITIONS past in
    rw off (and-false (ltb p MAX_PARTITIONS))

pub none-from-past : (counts : List ℕ) (p q : ℕ) → MAX_PARTITIONS ≤ p → is_counted counts p q ≡ false
none-from-past counts p q past =
    let off : ltb p MAX_PARTITIONS ≡ false = le-ltb p MAX_PARTITIONS past in
    rw off refl

-- the places of sources and of targets by what is counted
pub source_places_are : (cells : List Cell) (firsts : List ℕ) (tables : Tables) (used : ℕ) (parts : Parts) → IsKept cells firsts tables used → (let kept : Parts = record { traces = traces_of cells; used = used } in kept ≡ parts)
    → (q x : ℕ) → ArePlaces (λ p. is_counted tables.counts p q) x → ArePlaces (λ p. (G parts.traces).edge p q) x
source_places_are cells firsts tables used parts k e q x are =
    subst (λ (it : Parts). ArePlaces (λ p. (G it.traces).edge p q) x) e
    (places-fewer (λ p. is_counted tables.counts p q) (λ p. (G (traces_of cells)).edge p q) x (λ p off. sym (counted_is cells firsts tables used k p q) ∙ off) are)

pub target_places_are : (cells : List Cell) (firsts : List ℕ) (tables : Tables) (used : ℕ) (parts : Parts) → IsKept cells firsts tables used → (let kept : Parts = record { traces = traces_of cells; used = used } in kept ≡ parts)
    → (p x : ℕ) → ArePlaces (λ q. is_counted tables.counts p q) x → ArePlaces (λ q. (G parts.traces).edge p q) x
target_places_are cells firsts tables used parts k e p x are =
    subst (λ (it : Parts). ArePlaces (λ q. (G it.traces).edge p q) x) e
    (places-fewer (λ q. is_counted tables.counts p q) (λ q. (G (traces_of cells)).edge p q) x (λ q off. sym (counted_is cells firsts tables used k p q) ∙ off) are)

-- what a merge gives an id beyond its own edges is gained, or the id that stays
none-but : (a b e : Bool) → e ≡ false → (a && (b && e)) ≡ false
none-but a true e off = ap (λ x. a && x) off ∙ and-false a
none-but a false e off = and-false a

pub gained_source_off : (g : Graph) (p q v u : ℕ) → g.edge u q ≡ false → gained_source g p q v u ≡ false
gained_source_off g p q v u off = none-but (v == p) (not (u == q)) (g.edge u q) off

pub gained_target_off : (g : Graph) (p q u v : ℕ) → g.edge q v ≡ false → gained_target g p q u v ≡ false
gained_target_off g p q u v off = none-but (u == p) (not (v == q)) (g.edge q v) off

pub gained_source_other : (g : Graph) (p q v u : ℕ) → v ≢ p → gained_source g p q v u ≡ false
gained_source_other g p q v u other =
    let off : (v == p) ≡ false = ne_eqb v p other in
    rw off refl

pub gained_target_other : (g : Graph) (p q u v : ℕ) → u ≢ p → gained_target g p q u v ≡ false
gained_target_other g p q u v other =
    let off : (u == p) ≡ false = ne_eqb u p other in
    rw off refl

source_none : (a b c d x y z w : Bool) → x ≡ false → (d && (not a && z)) ≡ false → c ≡ false → (not a && not b && (x || (c && y) || (d && z) || (c && d && w))) ≡ false
source_none true b c d x y z w o g k = refl
source_none false true c d x y z w o g k = refl
source_none false false true d x y z w o g k = absurd (true≢false k)
source_none false false false d true y z w o g k = o
source_none false false false true false y true w o g k = g
source_none false false false true false y false w o g k = refl
source_none false false false false false y z w o g k = refl

target_none : (a b c d x y z w : Bool) → x ≡ false → (c && (not b && y)) ≡ false → d ≡ false → (not a && not b && (x || (c && y) || (d && z) || (c && d && w))) ≡ false
target_none true b c d x y z w o g k = refl
target_none false true c d x y z w o g k = refl
target_none false false c true x y z w o g k = absurd (true≢false k)
target_none false false c false true y z w o g k = o
target_none false false true false false true z w o g k = g
target_none false false true false false false z w o g k = refl
target_none false false false false false y z w o g k = refl

-- the places of sources and of targets after a merge
pub merged_sources_at : (g : Graph) (p q v x y z : ℕ) → ArePlaces (λ u. g.edge u v) x → ArePlaces (gained_source g p q v) y → ArePlaces (λ u. u == p) z → ArePlaces (λ u. merged_edge g p q u v) (bit_or x (bit_or y z))
merged_sources_at g p q v x y z own gained kept =
    places-either (λ u. g.edge u v) (λ u. gained_source g p q v u || u == p) (λ u. merged_edge g p q u v) x (bit_or y z)
    (λ u a b. source_none (u == q) (v == q) (u == p) (v == p) (g.edge u v) (g.edge q v) (g.edge u q) (g.edge q q) a (neither-first (gained_source g p q v u) (u == p) b) (neither-second (gained_source g p q v u) (u == p) b))
    own
    (places-either (gained_source g p q v) (λ u. u == p) (λ u. gained_source g p q v u || u == p) y z (λ u a b. ap (λ t. t || u == p) a ∙ b) gained kept)

pub merged_targets_at : (g : Graph) (p q u x y z : ℕ) → ArePlaces (λ v. g.edge u v) x → ArePlaces (gained_target g p q u) y → ArePlaces (λ v. v == p) z → ArePlaces (λ v. merged_edge g p q u v) (bit_or x (bit_or y z))
merged_targets_at g p q u x y z own gained kept =
    places-either (λ v. g.edge u v) (λ v. gained_target g p q u v || v == p) (λ v. merged_edge g p q u v) x (bit_or y z)
    (λ v a b. target_none (u == q) (v == q) (u == p) (v == p) (g.edge u v) (g.edge q v) (g.edge u q) (g.edge q q) a (neither-first (gained_target g p q u v) (v == p) b) (neither-second (gained_target g p q u v) (v == p) b))
    own
    (places-either (gained_target g p q u) (λ v. v == p) (λ v. gained_target g p q u v || v == p) y z (λ v a b. ap (λ t. t || v == p) a ∙ b) gained kept)

-- a merge leaves an edge as it is between ids that are neither of the two
alone : (x : Bool) → x ≡ (x || false || false || false)
alone true = refl
alone false = refl

pub apart-edge : (g : Graph) (p q u v : ℕ) → u ≢ q → v ≢ q → u ≢ p → v ≢ p → g.edge u v ≡ merged_edge g p q u v
apart-edge g p q u v a b c d =
    let uq : (u == q) ≡ false = ne_eqb u q a in
    let vq : (v == q) ≡ false = ne_eqb v q b in
    let up : (u == p) ≡ false = ne_eqb u p c in
    let vp : (v == p) ≡ false = ne_eqb v p d in
    rw (uq, vq, up, vp) (alone (g.edge u v))

-- an id whose bit is in another word is none of the numbers of a word
pub other-word : (id place i : ℕ) → i < 64 → id / 64 ≢ place → place * 64 + i ≢ id
other-word id place i below other e = other (omega (arith, e, below))

-- an id whose place is off does not have the property
pub place-off : (has : ℕ → Bool) (places id x : ℕ) → ArePlaces has places → id < MAX_PARTITIONS → IsWordOf (λ k. k == id / 64) 0 x → bit_and places x ≡ 0 → has id ≡ false
place-off has places id x are low is none =
    let k : ℕ = id / 64 in
    let split : k * 64 + id % 64 ≡ id = div-add-mod' id 64 in
    let both : (are.marks (0 * 64 + k) && (0 * 64 + k == k)) ≡ false = word-blank (λ n. are.marks n && n == k) 0 (bit_and places x) (word-both are.marks (λ n. n == k) 0 places x are.bits is) none k (omega (arith, low, split)) in
    let same : 0 * 64 + k ≡ k = omega arith in
    let off : (are.marks k && (k == k)) ≡ false = ap (λ n. are.marks n && n == k) (sym same) ∙ both in
    sym (ap has split) ∙ are.others k (id % 64) (mod_below id 64 (omega arith)) (left-off (are.marks k) (k == k) (eq-eqb k k refl) off)

-- the places of an id that a merge leaves as they are
source_bare : (a b c d x y z w : Bool) → x ≡ false → y ≡ false → d ≡ false → (not a && not b && (x || (c && y) || (d && z) || (c && d && w))) ≡ false
source_bare true b c d x y z w o k n = refl
source_bare false true c d x y z w o k n = refl
source_bare false false c d true y z w o k n = o
source_bare false false c d false true z w o k n = absurd (true≢false k)
source_bare false false c true false false z w o k n = absurd (true≢false n)
source_bare false false true false false false z w o k n = refl
source_bare false false false false false false z w o k n = refl

target_bare : (a b c d x y z w : Bool) → x ≡ false → z ≡ false → c ≡ false → (not a && not b && (x || (c && y) || (d && z) || (c && d && w))) ≡ false
target_bare true b c d x y z w o k n = refl
target_bare false true c d x y z w o k n = refl
target_bare false false c d true y z w o k n = o
target_bare false false c d false y true w o k n = absurd (true≢false k)
target_bare false false true d false y false w o k n = absurd (true≢false n)
target_bare false false false true false y false w o k n = refl
target_bare false false false false false y false w o k n = refl

pub bare-sources : (g : Graph) (p q v x : ℕ) → v ≢ p → g.edge q v ≡ false → ArePlaces (λ u. g.edge u v) x → ArePlaces (λ u. merged_edge g p q u v) x
bare-sources g p q v x other none are =
    places-fewer (λ u. g.edge u v) (λ u. merged_edge g p q u v) x
    (λ u off. source_bare (u == q) (v == q) (u == p) (v == p) (g.edge u v) (g.edge q v) (g.edge u q) (g.edge q q) off none (ne_eqb v p other)) are

pub bare-targets : (g : Graph) (p q u x : ℕ) → u ≢ p → g.edge u q ≡ false → ArePlaces (λ v. g.edge u v) x → ArePlaces (λ v. merged_edge g p q u v) x
bare-targets g p q u x other none are =
    places-fewer (λ v. g.edge u v) (λ v. merged_edge g p q u v) x
    (λ v off. target_bare (u == q) (v == q) (u == p) (v == p) (g.edge u v) (g.edge q v) (g.edge u q) (g.edge q q) off none (ne_eqb u p other)) are
