-- The text of a well-shaped model is not too long.
use Rattle.std.proofs.Common.{◌≡◌, ℕ, zero, suc, ◌+◌, ◌-◌, ◌*◌, ◌^◌, add-zero, add-suc, ◌<◌, ◌≤◌, Bool, true, false, cond, not, ◌&&◌, eqb, ltb, leb, List, [], ◌∷◌, ◌++◌, map, length, Option, Some, None, Ok, All, IsUtf8, nat_lt, refl, ap, subst, arith, inl, inr, length-append}
use Rattle.std.specs.Prelude.{codes, unwrap_or, is_some}
use Rattle.std.specs.List.{AllByRecursion, list_all}
use Rattle.std.proofs.lemmas.Bool.{and_parts, or_cases, ltb-true, leb-true, eqb-true}
use Rattle.std.proofs.lemmas.List.{length-map}
use Rattle.std.proofs.lemmas.List.Sums.{sum_by-cons}
use Rattle.std.proofs.lemmas.Fmt.{length-decimal-le}
use Rattle.json.specs.Print.{escape_byte, escape, escape_letter, quoted}
use Rattle.json.proofs.Printed.Strings.{escape_byte_plain}
use Rattle.serde_json.specs.Data.{Data, string, Members, no_members, member}
use Rattle.serde_json.specs.View.{items_of}
use Rattle.serde_json.specs.Written.{comma_if, compact_text, items_text, members_text}
use Rattle.invariants.specs.declared.Kind.{Kind}
use Rattle.invariants.specs.declared.Kind.TheVariants.{AF, NF, AP, IB}
use Rattle.invariants.specs.declared.records.Partition.{Partition}
use Rattle.invariants.specs.declared.records.Edge.{Edge}
use Rattle.invariants.specs.declared.records.Listed.{Listed}
use Rattle.invariants.specs.declared.records.Merge.{Merge}
use Rattle.invariants.specs.declared.records.Split.{Split}
use Rattle.invariants.specs.declared.records.Block.{Block}
use Rattle.invariants.specs.Labels.{digit_of}
use Rattle.model_file.specs.Tree.{number_data, array_of, path_data, partition_data, edge_data, kind_data, kinds_in_order, kinds_data, listed_data, merge_data, split_data, block_data, tree_of, file_text}
use Rattle.limits.specs.declared.TheConstants.{MAX_TYPES, MAX_TYPE_BYTES, MAX_INVARIANTS, MAX_PARTITIONS, MAX_EVENTS, MAX_EDGE_COUNT, MAX_PATH_NUMBERS, MAX_MODEL_BYTES, MAX_WRITTEN_BYTES}
use Rattle.invariants.specs.declared.Kinds.{Kinds}
use Rattle.invariants.specs.declared.Kinds.TheVariants.{Three, Four}
use Rattle.invariants.specs.declared.records.Model.{Model}
use Rattle.model_file.specs.Reading.{reads}
use Rattle.model_file.proofs.Forth.{some-is}
use Rattle.model_file.specs.Rules.{pair_less, comes_after, ascends_from, type_holds, types_hold, are_distinct, partitions_hold, type_of, edge_holds, edges_hold, place_of, listed_holds, invariants_hold, merge_holds, merges_hold, path_holds, split_holds, splits_hold, are_one, block_holds, blocks_hold, PassesRules}
use Rattle.model_shape.specs.Numbers.{split_numbers, block_numbers}
use Rattle.model_file.proofs.Bounds.{all-by, all-weaker, all-map, few-types, IsNumbered, numbered, listed-small, six, place-known, few-invariants, both-some}
use Rattle.model_file.proofs.Trees.{from_version, from_types, from_splits, from_partitions, from_merges, from_kinds, from_invariants, from_edges, IsUtf8-file_text, text-reads-back}

-- ---- lengths

-- the sum of some numbers
abbrev total : {A : Type 0} → (A → ℕ) → List A → ℕ
total w [] = 0
total w (x ∷ xs) = w x + total w xs

total-const : {A : Type 0} (n : ℕ) (xs : List A) → total (λ _. n) xs ≡ length xs * n
total-const n [] = omega arith
total-const n (x ∷ xs) = let more = total-const n xs in grind arith

comma-short : (later : Bool) → length (comma_if later) ≤ 1
comma-short true = omega arith
comma-short false = omega arith

items-short : {A : Type 0} (g : A → Data) (w : A → ℕ) (P : A → Type 0) → ((x : A) → P x → length (compact_text (g x)) + 1 ≤ w x) → (xs : List A) (later : Bool) → AllByRecursion P xs
    → length (items_text later (items_of (map g xs))) ≤ 1 + total w xs
items-short g w P short [] later h = omega arith
items-short g w P short (x ∷ xs) later h =
    let rest = items-short g w P short xs true h.1 in
    let here = short x h.0 in
    let more = items_text true (items_of (map g xs)) in
    omega (arith, rest, here, comma-short later, length-append (comma_if later) (compact_text (g x) ++ more), length-append (compact_text (g x)) more)

array-short : {A : Type 0} (g : A → Data) (w : A → ℕ) (P : A → Type 0) → ((x : A) → P x → length (compact_text (g x)) + 1 ≤ w x) → (xs : List A) → AllByRecursion P xs → length (compact_text (array_of (map g xs))) ≤ 2 + total w xs
array-short g w P short xs h = omega (arith, items-short g w P short xs false h)

number-short : (k n : ℕ) → 0 < k → n < 10 ^ k → n < 2 ^ 64 → length (compact_text (number_data n)) ≤ k
number-short k n some small wide = length-decimal-le k n some small wide

path-short : (path : List ℕ) → AllByRecursion (λ id. id < MAX_PARTITIONS) path → length (compact_text (path_data path)) ≤ 2 + length path * 5
path-short path h =
    let all = array-short number_data (λ _. 5) (λ id. id < MAX_PARTITIONS) (λ id low. let short = number-short 4 id (omega arith) (omega (arith, low)) (omega (arith, low)) in omega (arith, short)) path h in
    omega (arith, all, total-const 5 path)

row-two : (a b : Data) → length (compact_text (array_of (a ∷ b ∷ []))) ≡ length (compact_text a) + length (compact_text b) + 3
row-two a b = omega (arith, length-append (compact_text a) (44 ∷ (compact_text b ++ 93 ∷ [])), length-append (compact_text b) (93 ∷ []))

row-three : (a b c : Data) → length (compact_text (array_of (a ∷ b ∷ c ∷ []))) ≡ length (compact_text a) + length (compact_text b) + length (compact_text c) + 4
row-three a b c =
    omega (
      arith,
      length-append (compact_text a) (44 ∷ (compact_text b ++ 44 ∷ (compact_text c ++ 93 ∷ []))),
      length-append (compact_text b) (44 ∷ (compact_text c ++ 93 ∷ [])),
      length-append (compact_text c) (93 ∷ []),
    )

row-four : (a b c d : Data) → length (compact_text (array_of (a ∷ b ∷ c ∷ d ∷ []))) ≡ length (compact_text a) + length (compact_text b) + length (compact_text c) + length (compact_text d) + 5
row-four a b c d =
    omega (
      arith,
      length-append (compact_text a) (44 ∷ (compact_text b ++ 44 ∷ (compact_text c ++ 44 ∷ (compact_text d ++ 93 ∷ [])))),
      length-append (compact_text b) (44 ∷ (compact_text c ++ 44 ∷ (compact_text d ++ 93 ∷ []))),
      length-append (compact_text c) (44 ∷ (compact_text d ++ 93 ∷ [])),
      length-append (compact_text d) (93 ∷ []),
    )

-- ---- strings

at-most-six : (a b : Bool) (x y z : List ℕ) → length x ≤ 6 → length y ≤ 6 → length z ≤ 6 → length (cond a x (cond b y z)) ≤ 6
at-most-six true b x y z p q r = p
at-most-six false true x y z p q r = q
at-most-six false false x y z p q r = r

byte-short : (x : ℕ) → length (escape_byte x) ≤ 6
unfolding escape_byte
byte-short x = at-most-six (nat_lt 0 (escape_letter x)) (nat_lt x 32) _ _ _ (omega arith) (omega arith) (omega arith)

escape-short : (s : List ℕ) → length (escape s) ≤ length s * 6
escape-short [] = omega arith
escape-short (x ∷ xs) = omega (arith, byte-short x, escape-short xs, length-append (escape_byte x) (escape xs))

quoted-short : (s : List ℕ) → length (quoted s) ≤ 2 + length s * 6
quoted-short s = omega (arith, escape-short s, length-append (escape s) (34 ∷ []))

digits-short : (labels : List ℕ) → AllByRecursion (λ label. label ≤ 7) labels → length (escape (map digit_of labels)) ≡ length labels
digits-short [] h = refl
digits-short (label ∷ labels) h =
    let low : label ≤ 7 = h.0 in
    let plain : escape_byte (48 + label) ≡ (48 + label) ∷ [] = escape_byte_plain (48 + label) (λ e. omega arith) (λ e. omega arith) (omega arith) in
    omega (arith, ap (λ (xs : List ℕ). length xs) plain, digits-short labels h.1, length-append (escape_byte (48 + label)) (escape (map digit_of labels)))

labels-short : (labels : List ℕ) → AllByRecursion (λ label. label ≤ 7) labels → length (compact_text (string (map digit_of labels))) ≡ length labels + 2
labels-short labels h = omega (arith, digits-short labels h, length-append (escape (map digit_of labels)) (34 ∷ []))

kind-short : (kind : Kind) → length (compact_text (kind_data kind)) ≡ 4
unfolding escape_byte
kind-short AF = refl
kind-short NF = refl
kind-short AP = refl
kind-short IB = refl

any-kind : (ks : List Kind) → AllByRecursion (λ _. Unit {0}) ks
any-kind [] = tt
any-kind (k ∷ ks) = (tt, any-kind ks)

few-kinds : (kinds : Kinds) → length (kinds_in_order kinds) ≤ 4
few-kinds Three = omega arith
few-kinds Four = omega arith

kinds-short : (kinds : Kinds) → length (compact_text (kinds_data kinds)) ≤ 22
kinds-short kinds =
    let all = array-short kind_data (λ _. 5) (λ _. Unit {0}) (λ k u. let four = kind-short k in omega (arith, four)) (kinds_in_order kinds) (any-kind (kinds_in_order kinds)) in
    omega (arith, all, total-const 5 (kinds_in_order kinds), few-kinds kinds)

-- ---- pairs that ascend

abbrev IsLow : ℕ × ℕ → Type 0
IsLow k = (k.0 < MAX_PARTITIONS) × (k.1 < MAX_PARTITIONS)

abbrev rank : Option (ℕ × ℕ) → ℕ
rank None = 0
rank (Some k) = k.0 * 1024 + k.1 + 1

rank-le : (before : Option (ℕ × ℕ)) (k : ℕ × ℕ) → (h : (b : ℕ × ℕ) → before ≡ Some b → IsLow b) → comes_after pair_less before k ≡ true → rank before ≤ k.0 * 1024 + k.1
rank-le None k low h = omega arith
rank-le (Some b) k low h =
    let small = low b refl in
    elim (or_cases (nat_lt b.0 k.0) (eqb b.0 k.0 && nat_lt b.1 k.1) h) [
      | inl first ↦ let less = ltb-true b.0 k.0 first in omega (arith, less, small.1)
      | inr second ↦
          let e = and_parts (eqb b.0 k.0) (nat_lt b.1 k.1) second in
          let same = eqb-true b.0 k.0 e.0 in
          let less = ltb-true b.1 k.1 e.1 in
          omega (arith, same, less)
    ]

pairs-few : (ks : List (ℕ × ℕ)) (before : Option (ℕ × ℕ)) → ((b : ℕ × ℕ) → before ≡ Some b → IsLow b) → AllByRecursion IsLow ks → rank before ≤ 1048576 → ascends_from pair_less before ks ≡ true
    → length ks + rank before ≤ 1048576
pairs-few [] before low h room e = omega arith
pairs-few (k ∷ ks) before low h room e =
    let both = and_parts (comes_after pair_less before k) (ascends_from pair_less (Some k) ks) e in
    let above = rank-le before k low both.0 in
    let first : k.0 < MAX_PARTITIONS = h.0.0 in
    let second : k.1 < MAX_PARTITIONS = h.0.1 in
    let rest : length ks + (k.0 * 1024 + k.1 + 1) ≤ 1048576 = pairs-few ks (Some k) (λ b same. subst IsLow (some-is k b same) h.0) h.1 (omega (arith, first, second)) both.1 in
    omega (arith, above, rest)

-- ---- pairs of a lower and a higher id, which ascend

abbrev IsOrdered : ℕ × ℕ → Type 0
IsOrdered k = (k.0 < k.1) × (k.1 < MAX_PARTITIONS)

-- how many such pairs there are whose lower id is below this one
unfoldable pairs-below : ℕ → ℕ
pairs-below zero = 0
pairs-below (suc p) = pairs-below p + (1023 - p)

below-more : (p : ℕ) → pairs-below (suc p) ≡ pairs-below p + (1023 - p)
unfolding pairs-below
below-more p = refl

below-grows : (p n : ℕ) → pairs-below p ≤ pairs-below (p + n)
below-grows p zero = omega (arith, ap pairs-below (add-zero p))
below-grows p (suc n) = omega (arith, below-grows p n, ap pairs-below (add-suc p n), below-more (p + n))

below-between : (p q : ℕ) → p ≤ q → pairs-below p ≤ pairs-below q
below-between p q h = let n = q - p in let sum : p + n ≡ q = omega (arith, h) in omega (arith, below-grows p n, ap pairs-below sum)

below-none : pairs-below zero * 2 + zero * zero ≡ zero * 2047
unfolding pairs-below
below-none = refl

square-more : (p : ℕ) → suc p * suc p ≡ p * p + 2 * p + 1
square-more p = grind arith

-- twice their number, by squares
below-twice : (p : ℕ) → p ≤ 1023 → pairs-below p * 2 + p * p ≡ p * 2047
below-twice zero h = below-none
below-twice (suc p) h = let before = below-twice p (omega (arith, h)) in omega (arith, h, before, below-more p, square-more p)

below-all : (n : ℕ) → n ≡ 1023 → pairs-below n ≡ 523776
below-all n e =
    let squares : n * n ≡ 1046529 = ap (λ x. x * x) e in
    let twice = below-twice n (omega (arith, e)) in
    omega (arith, e, squares, twice)

-- the number of a pair among all, from 1
abbrev place : Option (ℕ × ℕ) → ℕ
place None = 0
place (Some k) = pairs-below k.0 + (k.1 - k.0)

place-next : (before : Option (ℕ × ℕ)) (k : ℕ × ℕ) → ((b : ℕ × ℕ) → before ≡ Some b → IsOrdered b) → k.0 < k.1 → comes_after pair_less before k ≡ true → place before + 1 ≤ pairs-below k.0 + (k.1 - k.0)
place-next None k ordered up h = omega (arith, up)
place-next (Some b) k ordered up h =
    let small = ordered b refl in
    let high : b.1 < MAX_PARTITIONS = small.1 in
    elim (or_cases (nat_lt b.0 k.0) (eqb b.0 k.0 && nat_lt b.1 k.1) h) [
      | inl first ↦
          let less = ltb-true b.0 k.0 first in
          let more = below-between (suc b.0) k.0 less in
          omega (arith, less, small.0, high, up, more, below-more b.0)
      | inr second ↦
          let e = and_parts (eqb b.0 k.0) (nat_lt b.1 k.1) second in
          let same = eqb-true b.0 k.0 e.0 in
          let less = ltb-true b.1 k.1 e.1 in
          omega (arith, same, less, small.0, ap pairs-below same)
    ]

place-room : (k : ℕ × ℕ) → IsOrdered k → pairs-below k.0 + (k.1 - k.0) ≤ 523776
place-room k h =
    let up : k.0 < k.1 = h.0 in
    let high : k.1 < MAX_PARTITIONS = h.1 in
    let rest = 1022 - k.0 in
    let last : suc k.0 + rest ≡ 1023 = omega (arith, up, high) in
    omega (arith, up, high, below-more k.0, below-grows (suc k.0) rest, below-all (suc k.0 + rest) last)

room-before : (before : Option (ℕ × ℕ)) → ((b : ℕ × ℕ) → before ≡ Some b → IsOrdered b) → place before ≤ 523776
room-before None ordered = omega arith
room-before (Some b) ordered = place-room b (ordered b refl)

ordered-few : (ks : List (ℕ × ℕ)) (before : Option (ℕ × ℕ)) → ((b : ℕ × ℕ) → before ≡ Some b → IsOrdered b) → AllByRecursion IsOrdered ks → ascends_from pair_less before ks ≡ true
    → length ks + place before ≤ 523776
ordered-few [] before ordered h e = omega (arith, room-before before ordered)
ordered-few (k ∷ ks) before ordered h e =
    let both = and_parts (comes_after pair_less before k) (ascends_from pair_less (Some k) ks) e in
    let next = place-next before k ordered h.0.0 both.0 in
    let rest : length ks + (pairs-below k.0 + (k.1 - k.0)) ≤ 523776 = ordered-few ks (Some k) (λ b same. subst IsOrdered (some-is k b same) h.0) h.1 both.1 in
    omega (arith, next, rest)

no-ordered : (b : ℕ × ℕ) → None ≡ Some b → IsOrdered b
no-ordered b e = absurd cc

-- ---- the entries of a well-shaped model

-- ---- types

text-short : (s : List ℕ) → type_holds s ≡ true → length (compact_text (string s)) + 1 ≤ 1539
text-short s h = let low : length s ≤ MAX_TYPE_BYTES = leb-true (length s) MAX_TYPE_BYTES (and_parts (leb 1 (length s)) (leb (length s) MAX_TYPE_BYTES) h).1 in omega (arith, low, quoted-short s)

types-short : (ts : List (List ℕ)) → types_hold MAX_TYPES ts ≡ true → length (compact_text (array_of (map string ts))) ≤ 394000
unfolding types_hold
types-short ts h =
    let a = and_parts (leb (length ts) MAX_TYPES) (list_all type_holds ts && are_distinct ts) h in
    let few : length ts ≤ MAX_TYPES = leb-true (length ts) MAX_TYPES a.0 in
    let each = all-by type_holds (λ (s : List ℕ). length (compact_text (string s)) + 1 ≤ 1539) text-short ts (and_parts (list_all type_holds ts) (are_distinct ts) a.1).0 in
    let all = array-short string (λ _. 1539) (λ (s : List ℕ). length (compact_text (string s)) + 1 ≤ 1539) (λ s x. x) ts each in
    omega (arith, all, total-const 1539 ts, few)

-- ---- partitions

few-partitions : (types : ℕ) (ps : List Partition) → partitions_hold types ps ≡ true → length ps ≤ MAX_PARTITIONS
unfolding partitions_hold
few-partitions types ps h = leb-true (length ps) MAX_PARTITIONS (and_parts (leb (length ps) MAX_PARTITIONS) _ h).0

partition-short : (types : ℕ) → types ≤ MAX_TYPES → (p : Partition) → IsNumbered types p → length (compact_text (partition_data p)) + 1 ≤ 19
partition-short types few p n =
    let id : p.id < MAX_PARTITIONS = n.id in
    let typ : p.typ ≤ types + 1 = n.typ in
    let count : p.count ≤ MAX_EVENTS = n.count in
    let a = number-short 4 p.id (omega arith) (omega (arith, id)) (omega (arith, id)) in
    let b = number-short 3 p.typ (omega arith) (omega (arith, typ, few)) (omega (arith, typ, few)) in
    let c = number-short 7 p.count (omega arith) (omega (arith, count)) (omega (arith, count)) in
    omega (arith, a, b, c, row-three (number_data p.id) (number_data p.typ) (number_data p.count))

partitions-short : (types : ℕ) (ps : List Partition) → types ≤ MAX_TYPES → partitions_hold types ps ≡ true → length (compact_text (array_of (map partition_data ps))) ≤ 20000
partitions-short types ps few h =
    let all = array-short partition_data (λ _. 19) (IsNumbered types) (partition-short types few) ps (numbered types ps h) in
    omega (arith, all, total-const 19 ps, few-partitions types ps h)

-- ---- edges

record IsShortEdge (e : Edge) : Type 0 where
  low : IsLow (e.from, e.to)
  count : e.count ≤ MAX_EDGE_COUNT

edge-numbers : (types : ℕ) (ps : List Partition) → AllByRecursion (IsNumbered types) ps → (e : Edge) → edge_holds (type_of ps) e ≡ true → IsShortEdge e
edge-numbers types ps small e x =
    let parts = six (is_some (type_of ps e.from)) (is_some (type_of ps e.to)) (not (eqb e.from 1)) (not (eqb e.to 0)) (leb 1 e.count) (leb e.count MAX_EDGE_COUNT) x in
    record { low = (listed-small types ps e.from small parts.0, listed-small types ps e.to small parts.1); count = leb-true e.count MAX_EDGE_COUNT parts.2 }

edge-short : (e : Edge) → IsShortEdge e → length (compact_text (edge_data e)) + 1 ≤ 20
edge-short e n =
    let from : e.from < MAX_PARTITIONS = n.low.0 in
    let to : e.to < MAX_PARTITIONS = n.low.1 in
    let count : e.count ≤ MAX_EDGE_COUNT = n.count in
    let a = number-short 4 e.from (omega arith) (omega (arith, from)) (omega (arith, from)) in
    let b = number-short 4 e.to (omega arith) (omega (arith, to)) (omega (arith, to)) in
    let c = number-short 7 e.count (omega arith) (omega (arith, count)) (omega (arith, count)) in
    omega (arith, a, b, c, row-three (number_data e.from) (number_data e.to) (number_data e.count))

no-pair : (b : ℕ × ℕ) → None ≡ Some b → IsLow b
no-pair b e = absurd cc

edges-short : (types : ℕ) (ps : List Partition) (es : List Edge) → partitions_hold types ps ≡ true → edges_hold (type_of ps) es ≡ true → length (compact_text (array_of (map edge_data es))) ≤ 20971522
unfolding edges_hold
edges-short types ps es parts h =
    let pair : Edge → ℕ × ℕ = λ e. (e.from, e.to) in
    let both = and_parts (list_all (edge_holds (type_of ps)) es) (ascends_from pair_less None (map pair es)) h in
    let numbers = all-by (edge_holds (type_of ps)) IsShortEdge (edge-numbers types ps (numbered types ps parts)) es both.0 in
    let few = pairs-few (map pair es) None no-pair (all-map pair IsLow es (all-weaker IsShortEdge (λ e. IsLow (pair e)) (λ e n. n.low) es numbers)) (omega arith) both.1 in
    let all = array-short edge_data (λ _. 20) IsShortEdge edge-short es numbers in
    omega (arith, all, total-const 20 es, few, length-map es pair)

-- ---- invariants

record IsShortListed (l : Listed) : Type 0 where
  a : l.inv.a < MAX_TYPES + 2
  b : l.inv.b < MAX_TYPES + 2
  count : length l.labels ≤ MAX_PARTITIONS
  labels : AllByRecursion (λ label. label ≤ 7) l.labels

listed-numbers : (kinds : Kinds) (types partitions : ℕ) → types ≤ MAX_TYPES → partitions ≤ MAX_PARTITIONS → (l : Listed) → listed_holds kinds types partitions l ≡ true → IsShortListed l
listed-numbers kinds types partitions few short l x =
    let a = and_parts (is_some (place_of kinds types l.inv)) (eqb (length l.labels) partitions && list_all (λ label. leb label 7) l.labels) x in
    let b = and_parts (eqb (length l.labels) partitions) (list_all (λ label. leb label 7) l.labels) a.1 in
    let at = place-known kinds types l.inv a.0 in
    let same : length l.labels ≡ partitions = eqb-true (length l.labels) partitions b.0 in
    record {
      a = omega (arith, at.a, few);
      b = omega (arith, at.b, few);
      count = omega (arith, same, short);
      labels = all-by (λ label. leb label 7) (λ label. label ≤ 7) (λ label y. leb-true label 7 y) l.labels b.1;
    }

listed-short : (l : Listed) → IsShortListed l → length (compact_text (listed_data l)) + 1 ≤ 1042
listed-short l n =
    let first : l.inv.a < MAX_TYPES + 2 = n.a in
    let second : l.inv.b < MAX_TYPES + 2 = n.b in
    let count : length l.labels ≤ MAX_PARTITIONS = n.count in
    let a = number-short 3 l.inv.a (omega arith) (omega (arith, first)) (omega (arith, first)) in
    let b = number-short 3 l.inv.b (omega arith) (omega (arith, second)) (omega (arith, second)) in
    omega (
      arith,
      a,
      b,
      count,
      kind-short l.inv.kind,
      labels-short l.labels n.labels,
      row-four (kind_data l.inv.kind) (number_data l.inv.a) (number_data l.inv.b) (string (map digit_of l.labels)),
    )

listed-list : (kinds : Kinds) (types partitions : ℕ) (ls : List Listed) → types ≤ MAX_TYPES → partitions ≤ MAX_PARTITIONS → invariants_hold kinds types partitions ls ≡ true → AllByRecursion IsShortListed ls
unfolding invariants_hold
listed-list kinds types partitions ls few short h =
    let x = and_parts (list_all (listed_holds kinds types partitions) ls) (ascends_from nat_lt None (map (λ l. unwrap_or (place_of kinds types l.inv) 0) ls)) h in
    all-by (listed_holds kinds types partitions) IsShortListed (listed-numbers kinds types partitions few short) ls x.0

invariants-short : (kinds : Kinds) (types partitions : ℕ) (ls : List Listed) → types ≤ MAX_TYPES → partitions ≤ MAX_PARTITIONS → invariants_hold kinds types partitions ls ≡ true → length (compact_text (array_of (map listed_data ls))) ≤ 273154050
invariants-short kinds types partitions ls few short h =
    let count = few-invariants kinds types partitions ls few h in
    let all = array-short listed_data (λ _. 1042) IsShortListed listed-short ls (listed-list kinds types partitions ls few short h) in
    omega (arith, all, total-const 1042 ls, count)

-- ---- merges

merge-short : (m : Merge) → merge_holds m ≡ true → length (compact_text (merge_data m)) + 1 ≤ 12
merge-short m h =
    let x = and_parts (ltb m.p m.q) (ltb m.q MAX_PARTITIONS) h in
    let less : m.p < m.q = ltb-true m.p m.q x.0 in
    let high : m.q < MAX_PARTITIONS = ltb-true m.q MAX_PARTITIONS x.1 in
    let a = number-short 4 m.p (omega arith) (omega (arith, less, high)) (omega (arith, less, high)) in
    let b = number-short 4 m.q (omega arith) (omega (arith, high)) (omega (arith, high)) in
    omega (arith, a, b, row-two (number_data m.p) (number_data m.q))

merges-short : (ms : List Merge) → merges_hold ms ≡ true → length (compact_text (array_of (map merge_data ms))) ≤ 12300
unfolding merges_hold
merges-short ms h =
    let x = and_parts (leb (length ms + 2) MAX_PARTITIONS) (list_all merge_holds ms) h in
    let few : length ms + 2 ≤ MAX_PARTITIONS = leb-true (length ms + 2) MAX_PARTITIONS x.0 in
    let all = array-short merge_data (λ _. 12) (λ m. merge_holds m ≡ true) merge-short ms (all-by merge_holds (λ m. merge_holds m ≡ true) (λ m y. y) ms x.1) in
    omega (arith, all, total-const 12 ms, few)

-- ---- splits

record IsShortSplit (s : Split) : Type 0 where
  inv : s.inv < MAX_INVARIANTS
  place : s.place < MAX_PATH_NUMBERS
  path : AllByRecursion (λ id. id < MAX_PARTITIONS) s.path

low-path : (path : List ℕ) → path_holds path ≡ true → AllByRecursion (λ id. id < MAX_PARTITIONS) path
low-path path h = all-by (λ id. ltb id MAX_PARTITIONS) (λ id. id < MAX_PARTITIONS) (λ id x. ltb-true id MAX_PARTITIONS x) path h

split-numbers : (invariants n : ℕ) (ss : List Split) → invariants ≤ MAX_INVARIANTS → n ≤ MAX_PATH_NUMBERS → list_all (split_holds invariants) ss ≡ true → split_numbers ss ≤ n → AllByRecursion IsShortSplit ss
split-numbers invariants n [] few long h room = tt
split-numbers invariants n (s ∷ ss) few long h room =
    let e = and_parts (split_holds invariants s) (list_all (split_holds invariants) ss) h in
    let a = and_parts (ltb s.inv invariants) (ltb s.place (length s.path) && path_holds s.path) e.0 in
    let b = and_parts (ltb s.place (length s.path)) (path_holds s.path) a.1 in
    let inv : s.inv < invariants = ltb-true s.inv invariants a.0 in
    let place : s.place < length s.path = ltb-true s.place (length s.path) b.0 in
    let sum = sum_by-cons (λ (t : Split). length t.path) s ss in
    (record { inv = omega (arith, inv, few); place = omega (arith, place, room, long, sum); path = low-path s.path b.1 }, split-numbers invariants n ss few long e.1 (omega (arith, room, sum)))

split-short : (s : Split) → IsShortSplit s → length (compact_text (split_data s)) + 1 ≤ 20 + length s.path * 5
split-short s n =
    let inv : s.inv < MAX_INVARIANTS = n.inv in
    let place : s.place < MAX_PATH_NUMBERS = n.place in
    let a = number-short 6 s.inv (omega arith) (omega (arith, inv)) (omega (arith, inv)) in
    let b = number-short 7 s.place (omega arith) (omega (arith, place)) (omega (arith, place)) in
    omega (arith, a, b, path-short s.path n.path, row-three (number_data s.inv) (number_data s.place) (path_data s.path))

total-splits : (ss : List Split) → total (λ (s : Split). 20 + length s.path * 5) ss ≡ length ss * 20 + split_numbers ss * 5
total-splits [] = omega arith
total-splits (s ∷ ss) = let sum = sum_by-cons (λ (t : Split). length t.path) s ss in omega (arith, sum, total-splits ss)

splits-short : (invariants : ℕ) (ss : List Split) → invariants ≤ MAX_INVARIANTS → splits_hold invariants ss ≡ true → length (compact_text (array_of (map split_data ss))) ≤ 21000 + split_numbers ss * 5
unfolding splits_hold
splits-short invariants ss few h =
    let x = and_parts (leb (length ss + 2) MAX_PARTITIONS) (list_all (split_holds invariants) ss && leb (split_numbers ss) MAX_PATH_NUMBERS) h in
    let y = and_parts (list_all (split_holds invariants) ss) (leb (split_numbers ss) MAX_PATH_NUMBERS) x.1 in
    let count : length ss + 2 ≤ MAX_PARTITIONS = leb-true (length ss + 2) MAX_PARTITIONS x.0 in
    let numbers : split_numbers ss ≤ MAX_PATH_NUMBERS = leb-true (split_numbers ss) MAX_PATH_NUMBERS y.1 in
    let all = array-short split_data (λ (s : Split). 20 + length s.path * 5) IsShortSplit split-short ss (split-numbers invariants (split_numbers ss) ss few numbers y.0 (omega arith)) in
    omega (arith, all, total-splits ss, count)

-- ---- blocks

record IsShortBlock (b : Block) : Type 0 where
  pair : IsOrdered (b.p, b.q)
  inv : b.inv < MAX_INVARIANTS
  path : AllByRecursion (λ id. id < MAX_PARTITIONS) b.path

block-numbers : (types invariants : ℕ) (ps : List Partition) → invariants ≤ MAX_INVARIANTS → AllByRecursion (IsNumbered types) ps → (b : Block) → block_holds (type_of ps) invariants b ≡ true → IsShortBlock b
block-numbers types invariants ps few small b x =
    let a = and_parts (ltb b.p b.q) (are_one (type_of ps b.p) (type_of ps b.q) && (ltb b.inv invariants && path_holds b.path)) x in
    let c = and_parts (are_one (type_of ps b.p) (type_of ps b.q)) (ltb b.inv invariants && path_holds b.path) a.1 in
    let d = and_parts (ltb b.inv invariants) (path_holds b.path) c.1 in
    let both = both-some (type_of ps b.p) (type_of ps b.q) c.0 in
    let inv : b.inv < invariants = ltb-true b.inv invariants d.0 in
    record { pair = (ltb-true b.p b.q a.0, listed-small types ps b.q small both.1); inv = omega (arith, inv, few); path = low-path b.path d.1 }

block-short : (b : Block) → IsShortBlock b → length (compact_text (block_data b)) + 1 ≤ 22 + length b.path * 5
block-short b n =
    let order : b.p < b.q = n.pair.0 in
    let q : b.q < MAX_PARTITIONS = n.pair.1 in
    let inv : b.inv < MAX_INVARIANTS = n.inv in
    let x = number-short 4 b.p (omega arith) (omega (arith, order, q)) (omega (arith, order, q)) in
    let y = number-short 4 b.q (omega arith) (omega (arith, q)) (omega (arith, q)) in
    let z = number-short 6 b.inv (omega arith) (omega (arith, inv)) (omega (arith, inv)) in
    omega (arith, x, y, z, path-short b.path n.path, row-four (number_data b.p) (number_data b.q) (number_data b.inv) (path_data b.path))

total-blocks : (bs : List Block) → total (λ (b : Block). 22 + length b.path * 5) bs ≡ length bs * 22 + block_numbers bs * 5
total-blocks [] = omega arith
total-blocks (b ∷ bs) = let sum = sum_by-cons (λ (c : Block). length c.path) b bs in omega (arith, sum, total-blocks bs)

blocks-short : (types invariants : ℕ) (ps : List Partition) (ss : List Split) (bs : List Block) → partitions_hold types ps ≡ true → invariants ≤ MAX_INVARIANTS → blocks_hold (type_of ps) invariants ss bs ≡ true
    → length (compact_text (array_of (map block_data bs))) + split_numbers ss * 5 ≤ 31523074
unfolding blocks_hold
blocks-short types invariants ps ss bs parts few h =
    let pair : Block → ℕ × ℕ = λ b. (b.p, b.q) in
    let x = and_parts (list_all (block_holds (type_of ps) invariants) bs) (ascends_from pair_less None (map pair bs) && leb (split_numbers ss + block_numbers bs) MAX_PATH_NUMBERS) h in
    let y = and_parts (ascends_from pair_less None (map pair bs)) (leb (split_numbers ss + block_numbers bs) MAX_PATH_NUMBERS) x.1 in
    let numbers : split_numbers ss + block_numbers bs ≤ MAX_PATH_NUMBERS = leb-true (split_numbers ss + block_numbers bs) MAX_PATH_NUMBERS y.1 in
    let short = all-by (block_holds (type_of ps) invariants) IsShortBlock (block-numbers types invariants ps few (numbered types ps parts)) bs x.0 in
    let count = ordered-few (map pair bs) None no-ordered (all-map pair IsOrdered bs (all-weaker IsShortBlock (λ b. IsOrdered (pair b)) (λ b n. n.pair) bs short)) y.0 in
    let all = array-short block_data (λ (b : Block). 22 + length b.path * 5) IsShortBlock block-short bs short in
    omega (arith, all, total-blocks bs, count, length-map bs pair, numbers)

-- ---- the whole

within : (n : ℕ) → n ≤ MAX_WRITTEN_BYTES → n ≤ MAX_MODEL_BYTES
within n short = omega (arith, short)

member-short : (later : Bool) (k : List ℕ) (d : Data) (ms : Members) → length (members_text later (member k d ms)) ≤ 4 + length k * 6 + length (compact_text d) + length (members_text true ms)
member-short later k d ms =
    omega (
      arith,
      comma-short later,
      quoted-short k,
      length-append (comma_if later) (quoted k ++ 58 ∷ (compact_text d ++ members_text true ms)),
      length-append (quoted k) (58 ∷ (compact_text d ++ members_text true ms)),
      length-append (compact_text d) (members_text true ms),
    )

-- the text of a model that passes the rules is within the limit of what is written
pub texts-are-short : (m : Model) → PassesRules m → length (file_text m) ≤ MAX_WRITTEN_BYTES
unfolding tree_of
texts-are-short m h =
    let few = few-types MAX_TYPES m.types h.types in
    let parts = few-partitions (length m.types) m.partitions h.partitions in
    let listed = few-invariants m.kinds (length m.types) (length m.partitions) m.invariants few h.invariants in
    let version = member-short true (codes "version") (number_data 2) no_members in
    let types = member-short true (codes "types") (array_of (map string m.types)) (from_version m) in
    let splits = member-short true (codes "splits") (array_of (map split_data m.splits)) (from_types m) in
    let partitions = member-short true (codes "partitions") (array_of (map partition_data m.partitions)) (from_splits m) in
    let merges = member-short true (codes "merges") (array_of (map merge_data m.merges)) (from_partitions m) in
    let invariants = member-short true (codes "invariants") (array_of (map listed_data m.invariants)) (from_kinds m) in
    let kinds = member-short true (codes "kinds") (kinds_data m.kinds) (from_merges m) in
    let edges = member-short true (codes "edges") (array_of (map edge_data m.edges)) (from_invariants m) in
    let blocks = member-short false (codes "blocks") (array_of (map block_data m.blocks)) (from_edges m) in
    let two = number-short 1 2 (omega arith) (omega arith) (omega arith) in
    let a = types-short m.types h.types in
    let b = partitions-short (length m.types) m.partitions few h.partitions in
    let c = edges-short (length m.types) m.partitions m.edges h.partitions h.edges in
    let d = invariants-short m.kinds (length m.types) (length m.partitions) m.invariants few parts h.invariants in
    let e = merges-short m.merges h.merges in
    let f = splits-short (length m.invariants) m.splits listed h.splits in
    let g = blocks-short (length m.types) (length m.invariants) m.partitions m.splits m.blocks h.partitions listed h.blocks in
    omega (arith, blocks, edges, invariants, kinds, merges, partitions, splits, types, version, two, kinds-short m.kinds, a, b, c, d, e, f, g)

-- so it is within the limit of a model file
pub short-enough : (m : Model) → PassesRules m → length (file_text m) ≤ MAX_MODEL_BYTES
short-enough m h = within (length (file_text m)) (texts-are-short m h)

-- the text of a model that passes the rules is read back as this model, where its types are UTF-8
pub written-reads-back : (m : Model) → PassesRules m → All IsUtf8 m.types → reads (file_text m) ≡ Ok m
written-reads-back m h texts = text-reads-back m h (IsUtf8-file_text m h texts) (short-enough m h)
