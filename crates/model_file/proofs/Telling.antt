-- Each test is passed exactly where the rule of a well-shaped model holds.
use Rattle.std.proofs.Common.{◌≡◌, ◌↔◌, ℕ, ◌+◌, ◌<◌, ◌≤◌, Bool, true, false, cond, not, ◌&&◌, ◌||◌, eqb, ltb, leb, nat_lt, List, [], ◌∷◌, map, length, Option, Some, None, Ok, refl, sym, ap, ◌∙◌, arith}
use Rattle.std.proofs.Common.{eq-eqb, eqb-true, lt-ltb, ltb-true, le-leb}
use Rattle.std.specs.Prelude.{unwrap_or, option_map, find, is_some}
use Rattle.std.specs.List.{list_all, slice_get}
use Rattle.std.proofs.lemmas.Bool.{and_parts, and_from, leb-true, false≢true}
use Rattle.limits.specs.declared.TheConstants.{MAX_TYPES, MAX_PATH_NUMBERS}
use Rattle.invariants.specs.Candidates.{candidates_for}
use Rattle.invariants.specs.declared.Invariant.{Invariant}
use Rattle.invariants.specs.declared.records.Partition.{Partition}
use Rattle.invariants.specs.declared.records.Edge.{Edge}
use Rattle.invariants.specs.declared.records.Listed.{Listed}
use Rattle.invariants.specs.declared.records.Merge.{Merge}
use Rattle.invariants.specs.declared.records.Split.{Split}
use Rattle.invariants.specs.declared.records.Block.{Block}
use Rattle.invariants.specs.declared.records.Model.{Model}
use Rattle.invariants.specs.declared.Kinds.{Kinds}
use Rattle.invariants.proofs.EachKinds.{candidates-differ}
use Rattle.invariants.proofs.Members.{Contains-from_place, place-from_Contains}
use Rattle.invariants.specs.Labels.{IsLabel}
use Rattle.model_shape.specs.Numbers.{split_numbers, block_numbers}
use Rattle.model_shape.specs.Ascending.{LeadsTo, Ascends, EdgeBefore, BlockBefore, CandidateBefore}
use Rattle.model_shape.specs.Shapes.{is_listed, listed_type, IsShapedEdge, AreShapedEdges, IsShapedListed, AreShapedInvariants, IsShapedMerge, AreShapedMerges, AreIds, IsShapedSplit, AreShapedSplits, IsShapedBlock, AreShapedBlocks, IsWellShaped}
use Rattle.model_file.specs.Rules.{types_hold, partitions_hold, ascends_from, pair_less, type_of, edge_holds, edges_hold, place_of, listed_holds, invariants_hold, merge_holds, merges_hold, path_holds, split_holds, splits_hold, are_one, block_holds, blocks_hold, PassesRules, RulesTell, others_hold}
use Rattle.model_file.specs.declared.version.Version.{Version}
use Rattle.model_file.specs.Reading.{reads_as}
use Rattle.model_file.proofs.Places.{place-is, place-some}
use Rattle.model_file.proofs.Bounds.{all-by, some-place, both-some}
use Rattle.model_file.proofs.Shapes.{read-passes}
use Rattle.model_file.proofs.Passing.{all-of, differs, differ, any, Gives, ascends-tell, Takes, ascends-told, pairs-give, pairs-take, types-tell, partitions-tell}
use Rattle.model_file.proofs.PartByPart.{edges-rule-same, blocks-rule-same}

-- ---- listed partitions

found-or : (b : Bool) (p : Partition) (o : Option Partition) (l : Bool) → is_some (option_map (λ (q : Partition). q.typ) o) ≡ l → is_some (option_map (λ (q : Partition). q.typ) (cond b (Some p) o)) ≡ (b || l)
found-or true p o l h = refl
found-or false p o l h = h

-- an id has a type where it is listed
listed-found : (ps : List Partition) (id : ℕ) → is_some (type_of ps id) ≡ is_listed id ps
listed-found [] id = refl
listed-found (p ∷ ps) id = found-or (eqb p.id id) p (find (λ (q : Partition). eqb q.id id) ps) (is_listed id ps) (listed-found ps id)

typed-or : (b : Bool) (p : Partition) (o : Option Partition) (l : Bool) (t : ℕ) → (l ≡ true → option_map (λ (q : Partition). q.typ) o ≡ Some t) → (b || l) ≡ true
    → option_map (λ (q : Partition). q.typ) (cond b (Some p) o) ≡ Some (cond b p.typ t)
typed-or true p o l t h e = refl
typed-or false p o l t h e = h e

-- and it is the listed one
listed-typed : (ps : List Partition) (id : ℕ) → is_listed id ps ≡ true → type_of ps id ≡ Some (listed_type id ps)
listed-typed [] id h = absurd (false≢true h)
listed-typed (p ∷ ps) id h = typed-or (eqb p.id id) p (find (λ (q : Partition). eqb q.id id) ps) (is_listed id ps) (listed_type id ps) (listed-typed ps id) h

-- ---- edges

edge-tells : (ps : List Partition) (e : Edge) → edge_holds (type_of ps) e ≡ true → IsShapedEdge ps e
edge-tells ps e h =
    let a = and_parts (is_some (type_of ps e.from)) (is_some (type_of ps e.to) && (not (eqb e.from 1) && (not (eqb e.to 0) && (leb 1 e.count && leb e.count 2000000)))) h in
    let b = and_parts (is_some (type_of ps e.to)) (not (eqb e.from 1) && (not (eqb e.to 0) && (leb 1 e.count && leb e.count 2000000))) a.1 in
    let c = and_parts (not (eqb e.from 1)) (not (eqb e.to 0) && (leb 1 e.count && leb e.count 2000000)) b.1 in
    let d = and_parts (not (eqb e.to 0)) (leb 1 e.count && leb e.count 2000000) c.1 in
    let f = and_parts (leb 1 e.count) (leb e.count 2000000) d.1 in
    let low : 1 ≤ e.count = leb-true 1 e.count f.0 in
    record {
      has_from = sym (listed-found ps e.from) ∙ a.0;
      has_to = sym (listed-found ps e.to) ∙ b.0;
      not_from_end = differs e.from 1 c.0;
      not_to_start = differs e.to 0 d.0;
      some = omega (arith, low);
      few = leb-true e.count 2000000 f.1;
    }

edge-told : (ps : List Partition) (e : Edge) → IsShapedEdge ps e → edge_holds (type_of ps) e ≡ true
edge-told ps e t =
    let low : 0 < e.count = t.some in
    and_from (is_some (type_of ps e.from)) (is_some (type_of ps e.to) && (not (eqb e.from 1) && (not (eqb e.to 0) && (leb 1 e.count && leb e.count 2000000)))) (listed-found ps e.from ∙ t.has_from)
    (and_from (is_some (type_of ps e.to)) (not (eqb e.from 1) && (not (eqb e.to 0) && (leb 1 e.count && leb e.count 2000000))) (listed-found ps e.to ∙ t.has_to)
    (and_from (not (eqb e.from 1)) (not (eqb e.to 0) && (leb 1 e.count && leb e.count 2000000)) (differ e.from 1 t.not_from_end)
    (and_from (not (eqb e.to 0)) (leb 1 e.count && leb e.count 2000000) (differ e.to 0 t.not_to_start)
    (and_from (leb 1 e.count) (leb e.count 2000000) (le-leb 1 e.count (omega (arith, low))) (le-leb e.count 2000000 t.few)))))

edges-tell : (ps : List Partition) (es : List Edge) → (edges_hold (type_of ps) es ≡ true) ↔ AreShapedEdges ps es
unfolding edges_hold
edges-tell ps es =
    let key : Edge → ℕ × ℕ = λ e. (e.from, e.to) in (
      λ h.
          let a = and_parts (list_all (edge_holds (type_of ps)) es) (ascends_from pair_less None (map key es)) h in
          record {
            order = ascends-tell pair_less key EdgeBefore (λ _. Unit {0}) (λ x y p q l. pairs-give x.from x.to y.from y.to l) es None (any es) a.1;
            each = all-by (edge_holds (type_of ps)) (IsShapedEdge ps) (edge-tells ps) es a.0;
          },
      λ t.
          and_from (list_all (edge_holds (type_of ps)) es) (ascends_from pair_less None (map key es)) (all-of (edge_holds (type_of ps)) (IsShapedEdge ps) (edge-told ps) es t.each)
          (ascends-told pair_less key EdgeBefore (λ x y l. pairs-take x.from x.to y.from y.to l) es t.order),
    )

-- ---- invariants

found-place : (kinds : Kinds) (types : ℕ) (i : Invariant) (k : ℕ) → place_of kinds types i ≡ Some k → slice_get (candidates_for kinds types) k ≡ Some i
unfolding place_of
found-place kinds types i k h = place-is i (candidates_for kinds types) k h

has-place : (kinds : Kinds) (types : ℕ) (i : Invariant) (k : ℕ) → slice_get (candidates_for kinds types) k ≡ Some i → is_some (place_of kinds types i) ≡ true
unfolding place_of
has-place kinds types i k h = place-some i (candidates_for kinds types) k h

-- a candidate has one place
its-place : (kinds : Kinds) (types : ℕ) (i : Invariant) (k : ℕ) → slice_get (candidates_for kinds types) k ≡ Some i → place_of kinds types i ≡ Some k
its-place kinds types i k h =
    let o = some-place (place_of kinds types i) (has-place kinds types i k h) in
    o.1 ∙ ap Some (candidates-differ kinds types o.0 k i (found-place kinds types i o.0 o.1) h)

abbrev place-at : Kinds → ℕ → Listed → ℕ
place-at kinds types l = unwrap_or (place_of kinds types l.inv) 0

abbrev IsCandidate : Kinds → ℕ → Listed → Type 0
IsCandidate kinds types l = is_some (place_of kinds types l.inv) ≡ true

abbrev ListedBefore : Kinds → ℕ → Listed → Listed → Type 0
ListedBefore kinds types x y = CandidateBefore kinds types x.inv y.inv

candidates-give : (kinds : Kinds) (types : ℕ) → Gives nat_lt (place-at kinds types) (ListedBefore kinds types) (IsCandidate kinds types)
candidates-give kinds types x y p q h =
    let a = some-place (place_of kinds types x.inv) p in
    let b = some-place (place_of kinds types y.inv) q in
    let less : place-at kinds types x < place-at kinds types y = ltb-true (place-at kinds types x) (place-at kinds types y) h in
    let first : place-at kinds types x ≡ a.0 = ap (λ (o : Option ℕ). unwrap_or o 0) a.1 in
    let second : place-at kinds types y ≡ b.0 = ap (λ (o : Option ℕ). unwrap_or o 0) b.1 in
    record { place = a.0; later = b.0; here = found-place kinds types x.inv a.0 a.1; there = found-place kinds types y.inv b.0 b.1; order = omega (arith, less, first, second) }

candidates-take : (kinds : Kinds) (types : ℕ) → Takes nat_lt (place-at kinds types) (ListedBefore kinds types)
candidates-take kinds types x y c =
    let first : place-at kinds types x ≡ c.place = ap (λ (o : Option ℕ). unwrap_or o 0) (its-place kinds types x.inv c.place c.here) in
    let second : place-at kinds types y ≡ c.later = ap (λ (o : Option ℕ). unwrap_or o 0) (its-place kinds types y.inv c.later c.there) in
    let less : c.place < c.later = c.order in
    lt-ltb (place-at kinds types x) (place-at kinds types y) (omega (arith, first, second, less))

-- of listed invariants or of the invariants alone
listing-leads : (kinds : Kinds) (types : ℕ) (x : Listed) (xs : List Listed) → LeadsTo (ListedBefore kinds types) x xs → LeadsTo (CandidateBefore kinds types) x.inv (map (λ (l : Listed). l.inv) xs)
listing-leads kinds types x [] l = tt
listing-leads kinds types x (y ∷ ys) l = l

listing-ascends : (kinds : Kinds) (types : ℕ) (xs : List Listed) → Ascends (ListedBefore kinds types) xs → Ascends (CandidateBefore kinds types) (map (λ (l : Listed). l.inv) xs)
listing-ascends kinds types [] a = tt
listing-ascends kinds types (x ∷ xs) a = (listing-leads kinds types x xs a.0, listing-ascends kinds types xs a.1)

listed-leads : (kinds : Kinds) (types : ℕ) (x : Listed) (xs : List Listed) → LeadsTo (CandidateBefore kinds types) x.inv (map (λ (l : Listed). l.inv) xs) → LeadsTo (ListedBefore kinds types) x xs
listed-leads kinds types x [] l = tt
listed-leads kinds types x (y ∷ ys) l = l

pub listed-ascends : (kinds : Kinds) (types : ℕ) (xs : List Listed) → Ascends (CandidateBefore kinds types) (map (λ (l : Listed). l.inv) xs) → Ascends (ListedBefore kinds types) xs
listed-ascends kinds types [] a = tt
listed-ascends kinds types (x ∷ xs) a = (listed-leads kinds types x xs a.0, listed-ascends kinds types xs a.1)

listed-tells : (kinds : Kinds) (types partitions : ℕ) (l : Listed) → listed_holds kinds types partitions l ≡ true → IsShapedListed kinds types partitions l
listed-tells kinds types partitions l h =
    let a = and_parts (is_some (place_of kinds types l.inv)) (eqb (length l.labels) partitions && list_all (λ label. leb label 7) l.labels) h in
    let b = and_parts (eqb (length l.labels) partitions) (list_all (λ label. leb label 7) l.labels) a.1 in
    let k = some-place (place_of kinds types l.inv) a.0 in
    record {
      candidate = Contains-from_place (candidates_for kinds types) k.0 l.inv (found-place kinds types l.inv k.0 k.1);
      count = eqb-true (length l.labels) partitions b.0;
      labels = all-by (λ label. leb label 7) IsLabel (λ label low. leb-true label 7 low) l.labels b.1;
    }

listed-told : (kinds : Kinds) (types partitions : ℕ) (l : Listed) → IsShapedListed kinds types partitions l → listed_holds kinds types partitions l ≡ true
listed-told kinds types partitions l t =
    and_from (is_some (place_of kinds types l.inv)) (eqb (length l.labels) partitions && list_all (λ label. leb label 7) l.labels)
    (has-place kinds types l.inv t.candidate.0 (place-from_Contains (candidates_for kinds types) l.inv t.candidate))
    (and_from (eqb (length l.labels) partitions) (list_all (λ label. leb label 7) l.labels) (eq-eqb (length l.labels) partitions t.count)
    (all-of (λ label. leb label 7) IsLabel (λ label low. le-leb label 7 low) l.labels t.labels))

invariants-tell : (kinds : Kinds) (types partitions : ℕ) (ls : List Listed) → (invariants_hold kinds types partitions ls ≡ true) ↔ AreShapedInvariants kinds types partitions ls
unfolding invariants_hold
invariants-tell kinds types partitions ls = (
  λ h.
      let a = and_parts (list_all (listed_holds kinds types partitions) ls) (ascends_from nat_lt None (map (place-at kinds types) ls)) h in
      let known = all-by (listed_holds kinds types partitions) (IsCandidate kinds types)
      (λ l x. (and_parts (is_some (place_of kinds types l.inv)) (eqb (length l.labels) partitions && list_all (λ label. leb label 7) l.labels) x).0) ls a.0 in
      record {
        order = listing-ascends kinds types ls (ascends-tell nat_lt (place-at kinds types) (ListedBefore kinds types) (IsCandidate kinds types) (candidates-give kinds types) ls None known a.1);
        each = all-by (listed_holds kinds types partitions) (IsShapedListed kinds types partitions) (listed-tells kinds types partitions) ls a.0;
      },
  λ t.
      and_from (list_all (listed_holds kinds types partitions) ls) (ascends_from nat_lt None (map (place-at kinds types) ls))
      (all-of (listed_holds kinds types partitions) (IsShapedListed kinds types partitions) (listed-told kinds types partitions) ls t.each)
      (ascends-told nat_lt (place-at kinds types) (ListedBefore kinds types) (candidates-take kinds types) ls (listed-ascends kinds types ls t.order)),
)

-- ---- merges

merges-tell : (ms : List Merge) → (merges_hold ms ≡ true) ↔ AreShapedMerges ms
unfolding merges_hold
merges-tell ms = (
  λ h.
      let a = and_parts (leb (length ms + 2) 1024) (list_all merge_holds ms) h in
      record {
        few = leb-true (length ms + 2) 1024 a.0;
        each = all-by merge_holds IsShapedMerge (λ m x. let b = and_parts (ltb m.p m.q) (ltb m.q 1024) x in record { order = ltb-true m.p m.q b.0; high = ltb-true m.q 1024 b.1 }) ms a.1;
      },
  λ t.
      and_from (leb (length ms + 2) 1024) (list_all merge_holds ms) (le-leb (length ms + 2) 1024 t.few)
      (all-of merge_holds IsShapedMerge (λ m x. and_from (ltb m.p m.q) (ltb m.q 1024) (lt-ltb m.p m.q x.order) (lt-ltb m.q 1024 x.high)) ms t.each),
)

-- ---- paths

path-tells : (path : List ℕ) → path_holds path ≡ true → AreIds path
path-tells path h = all-by (λ id. ltb id 1024) (λ id. id < 1024) (λ id x. ltb-true id 1024 x) path h

path-told : (path : List ℕ) → AreIds path → path_holds path ≡ true
path-told path h = all-of (λ id. ltb id 1024) (λ id. id < 1024) (λ id x. lt-ltb id 1024 x) path h

-- ---- splits

split-tells : (invariants : ℕ) (s : Split) → split_holds invariants s ≡ true → IsShapedSplit invariants s
split-tells invariants s h =
    let a = and_parts (ltb s.inv invariants) (ltb s.place (length s.path) && path_holds s.path) h in
    let b = and_parts (ltb s.place (length s.path)) (path_holds s.path) a.1 in
    record { names = ltb-true s.inv invariants a.0; place = ltb-true s.place (length s.path) b.0; path = path-tells s.path b.1 }

split-told : (invariants : ℕ) (s : Split) → IsShapedSplit invariants s → split_holds invariants s ≡ true
split-told invariants s t =
    and_from (ltb s.inv invariants) (ltb s.place (length s.path) && path_holds s.path) (lt-ltb s.inv invariants t.names)
    (and_from (ltb s.place (length s.path)) (path_holds s.path) (lt-ltb s.place (length s.path) t.place) (path-told s.path t.path))

splits-tell : (invariants : ℕ) (ss : List Split) → (splits_hold invariants ss ≡ true) ↔ AreShapedSplits invariants ss
unfolding splits_hold
splits-tell invariants ss = (
  λ h.
      let a = and_parts (leb (length ss + 2) 1024) (list_all (split_holds invariants) ss && leb (split_numbers ss) MAX_PATH_NUMBERS) h in
      let b = and_parts (list_all (split_holds invariants) ss) (leb (split_numbers ss) MAX_PATH_NUMBERS) a.1 in
      record {
        few = leb-true (length ss + 2) 1024 a.0;
        each = all-by (split_holds invariants) (IsShapedSplit invariants) (split-tells invariants) ss b.0;
        numbers = leb-true (split_numbers ss) MAX_PATH_NUMBERS b.1;
      },
  λ t.
      and_from (leb (length ss + 2) 1024) (list_all (split_holds invariants) ss && leb (split_numbers ss) MAX_PATH_NUMBERS) (le-leb (length ss + 2) 1024 t.few)
      (and_from (list_all (split_holds invariants) ss) (leb (split_numbers ss) MAX_PATH_NUMBERS)
      (all-of (split_holds invariants) (IsShapedSplit invariants) (split-told invariants) ss t.each) (le-leb (split_numbers ss) MAX_PATH_NUMBERS t.numbers)),
)

-- ---- blocks

-- two ids that have one type
record HaveOneType (ps : List Partition) (p q : ℕ) : Type 0 where
  has_p : is_listed p ps ≡ true
  has_q : is_listed q ps ≡ true
  types : listed_type p ps ≡ listed_type q ps

ones-are : (a b : ℕ) (s t : Option ℕ) → s ≡ Some a → t ≡ Some b → are_one s t ≡ eqb a b
ones-are a b s t e f = rw (e, f) refl

one-tells : (ps : List Partition) (p q : ℕ) → are_one (type_of ps p) (type_of ps q) ≡ true → HaveOneType ps p q
one-tells ps p q h =
    let both = both-some (type_of ps p) (type_of ps q) h in
    let has_p : is_listed p ps ≡ true = sym (listed-found ps p) ∙ both.0 in
    let has_q : is_listed q ps ≡ true = sym (listed-found ps q) ∙ both.1 in
    let same = ones-are (listed_type p ps) (listed_type q ps) (type_of ps p) (type_of ps q) (listed-typed ps p has_p) (listed-typed ps q has_q) in
    record { has_p = has_p; has_q = has_q; types = eqb-true (listed_type p ps) (listed_type q ps) (sym same ∙ h) }

one-told : (ps : List Partition) (p q : ℕ) → is_listed p ps ≡ true → is_listed q ps ≡ true → listed_type p ps ≡ listed_type q ps → are_one (type_of ps p) (type_of ps q) ≡ true
one-told ps p q has_p has_q types =
    ones-are (listed_type p ps) (listed_type q ps) (type_of ps p) (type_of ps q) (listed-typed ps p has_p) (listed-typed ps q has_q) ∙ eq-eqb (listed_type p ps) (listed_type q ps) types

block-tells : (invariants : ℕ) (ps : List Partition) (b : Block) → block_holds (type_of ps) invariants b ≡ true → IsShapedBlock invariants ps b
block-tells invariants ps b h =
    let a = and_parts (ltb b.p b.q) (are_one (type_of ps b.p) (type_of ps b.q) && (ltb b.inv invariants && path_holds b.path)) h in
    let c = and_parts (are_one (type_of ps b.p) (type_of ps b.q)) (ltb b.inv invariants && path_holds b.path) a.1 in
    let d = and_parts (ltb b.inv invariants) (path_holds b.path) c.1 in
    let one = one-tells ps b.p b.q c.0 in
    record { order = ltb-true b.p b.q a.0; has_p = one.has_p; has_q = one.has_q; types = one.types; names = ltb-true b.inv invariants d.0; path = path-tells b.path d.1 }

block-told : (invariants : ℕ) (ps : List Partition) (b : Block) → IsShapedBlock invariants ps b → block_holds (type_of ps) invariants b ≡ true
block-told invariants ps b t =
    and_from (ltb b.p b.q) (are_one (type_of ps b.p) (type_of ps b.q) && (ltb b.inv invariants && path_holds b.path)) (lt-ltb b.p b.q t.order)
    (and_from (are_one (type_of ps b.p) (type_of ps b.q)) (ltb b.inv invariants && path_holds b.path) (one-told ps b.p b.q t.has_p t.has_q t.types)
    (and_from (ltb b.inv invariants) (path_holds b.path) (lt-ltb b.inv invariants t.names) (path-told b.path t.path)))

blocks-tell : (invariants : ℕ) (ps : List Partition) (ss : List Split) (bs : List Block) → (blocks_hold (type_of ps) invariants ss bs ≡ true) ↔ AreShapedBlocks invariants ps ss bs
unfolding blocks_hold
blocks-tell invariants ps ss bs =
    let key : Block → ℕ × ℕ = λ b. (b.p, b.q) in
    let numbers = split_numbers ss + block_numbers bs in (
      λ h.
          let a = and_parts (list_all (block_holds (type_of ps) invariants) bs) (ascends_from pair_less None (map key bs) && leb numbers MAX_PATH_NUMBERS) h in
          let b = and_parts (ascends_from pair_less None (map key bs)) (leb numbers MAX_PATH_NUMBERS) a.1 in
          record {
            order = ascends-tell pair_less key BlockBefore (λ _. Unit {0}) (λ x y p q l. pairs-give x.p x.q y.p y.q l) bs None (any bs) b.0;
            each = all-by (block_holds (type_of ps) invariants) (IsShapedBlock invariants ps) (block-tells invariants ps) bs a.0;
            numbers = leb-true numbers MAX_PATH_NUMBERS b.1;
          },
      λ t.
          and_from (list_all (block_holds (type_of ps) invariants) bs) (ascends_from pair_less None (map key bs) && leb numbers MAX_PATH_NUMBERS)
          (all-of (block_holds (type_of ps) invariants) (IsShapedBlock invariants ps) (block-told invariants ps) bs t.each)
          (and_from (ascends_from pair_less None (map key bs)) (leb numbers MAX_PATH_NUMBERS)
          (ascends-told pair_less key BlockBefore (λ x y l. pairs-take x.p x.q y.p y.q l) bs t.order) (le-leb numbers MAX_PATH_NUMBERS t.numbers)),
    )

-- ---- all rules

-- each test of the reader is passed exactly where the rule of a well-shaped model holds
pub rules-tell : RulesTell
rules-tell =
    record {
      types = types-tell;
      partitions = partitions-tell;
      edges = edges-tell;
      invariants = invariants-tell;
      merges = merges-tell;
      splits = splits-tell;
      blocks = blocks-tell;
    }

-- a well-shaped model passes the rules
pub passes : (m : Model) → IsWellShaped m → PassesRules m
passes m w =
    record {
      types = (types-tell m.types).1 w.types;
      partitions = (partitions-tell (length m.types) m.partitions).1 w.partitions;
      edges = (edges-tell m.partitions m.edges).1 w.edges;
      invariants = (invariants-tell m.kinds (length m.types) (length m.partitions) m.invariants).1 w.invariants;
      merges = (merges-tell m.merges).1 w.merges;
      splits = (splits-tell (length m.invariants) m.splits).1 w.splits;
      blocks = (blocks-tell (length m.invariants) m.partitions m.splits m.blocks).1 w.blocks;
    }

-- a model that passes the rules is well shaped
pub shaped : (m : Model) → PassesRules m → IsWellShaped m
shaped m h =
    record {
      types = (types-tell m.types).0 h.types;
      partitions = (partitions-tell (length m.types) m.partitions).0 h.partitions;
      edges = (edges-tell m.partitions m.edges).0 h.edges;
      invariants = (invariants-tell m.kinds (length m.types) (length m.partitions) m.invariants).0 h.invariants;
      merges = (merges-tell m.merges).0 h.merges;
      splits = (splits-tell (length m.invariants) m.splits).0 h.splits;
      blocks = (blocks-tell (length m.invariants) m.partitions m.splits m.blocks).0 h.blocks;
    }

-- a model that is read is well shaped
pub read-is-well-shaped : (version : Version) (bytes : List ℕ) (m : Model) → reads_as version bytes ≡ Ok m → IsWellShaped m
read-is-well-shaped version bytes m e = shaped m (read-passes version bytes m e)

-- ---- the test of a whole model

no-rule : (P : Type 0) → (P → ⊥) → (false ≡ true) ↔ P
no-rule P not_so = (λ t. absurd (false≢true t), λ p. absurd (not_so p))

-- where the types fail, the model is not well shaped
pub no-types : (m : Model) → types_hold MAX_TYPES m.types ≡ false → (false ≡ true) ↔ IsWellShaped m
no-types m fails = no-rule (IsWellShaped m) (λ w. false≢true (sym fails ∙ (passes m w).types))

-- where the partitions fail, the model is not well shaped
pub no-partitions : (m : Model) → partitions_hold (length m.types) m.partitions ≡ false → (false ≡ true) ↔ IsWellShaped m
no-partitions m fails = no-rule (IsWellShaped m) (λ w. false≢true (sym fails ∙ (passes m w).partitions))

others-same : (type : ℕ → Option ℕ) (m : Model) → ((id : ℕ) → type id ≡ type_of m.partitions id) → others_hold type m ≡ others_hold (type_of m.partitions) m
others-same type m h =
    rw (edges-rule-same type (type_of m.partitions) h m.edges, blocks-rule-same type (type_of m.partitions) h (length m.invariants) m.splits m.blocks) refl

others-pass : (m : Model) → types_hold MAX_TYPES m.types ≡ true → partitions_hold (length m.types) m.partitions ≡ true → others_hold (type_of m.partitions) m ≡ true → PassesRules m
others-pass m types partitions h =
    let a = and_parts _ _ h in
    let b = and_parts _ _ a.1 in
    let c = and_parts _ _ b.1 in
    let d = and_parts _ _ c.1 in
    record { types = types; partitions = partitions; edges = a.0; invariants = b.0; merges = c.0; splits = d.0; blocks = d.1 }

pass-others : (m : Model) → PassesRules m → others_hold (type_of m.partitions) m ≡ true
pass-others m p = and_from _ _ p.edges (and_from _ _ p.invariants (and_from _ _ p.merges (and_from _ _ p.splits p.blocks)))

-- where types and partitions pass, the other parts pass exactly where the model is well shaped
pub others-tell : (m : Model) (type : ℕ → Option ℕ) (b : Bool) → types_hold MAX_TYPES m.types ≡ true → partitions_hold (length m.types) m.partitions ≡ true
    → ((id : ℕ) → type id ≡ type_of m.partitions id) → b ≡ others_hold type m → (b ≡ true) ↔ IsWellShaped m
others-tell m type b types partitions agree is =
    let same = is ∙ others-same type m agree in
    (λ t. shaped m (others-pass m types partitions (sym same ∙ t)), λ w. same ∙ pass-others m (passes m w))
