-- Tests and the facts that they test: lists that ascend, types and partitions.
use Rattle.std.proofs.Common.{◌≡◌, ◌≢◌, ◌↔◌, ℕ, zero, suc, ◌+◌, ◌<◌, ◌≤◌, ◌⊎◌, Bool, true, false, not, ◌&&◌, eqb, ltb, leb, nat_lt, List, [], ◌∷◌, map, length, Option, Some, None, bytes_eq, refl, sym, ap, subst, ◌∙◌, arith, inl, inr}
use Rattle.std.proofs.Common.{eq-eqb, ne_eqb, eqb-true, lt-ltb, ltb-true, le-leb}
use Rattle.std.specs.List.{AllByRecursion, list_all, list_any, slice_get}
use Rattle.std.proofs.lemmas.Bool.{and_parts, and_from, or_cases, or_left, or_right, leb-true, cases_Bool, false≢true}
use Rattle.std.proofs.lemmas.Slice.Eq.{bytes_eq-Decides}
use Rattle.limits.specs.declared.TheConstants.{MAX_TYPES}
use Rattle.invariants.specs.declared.records.Partition.{Partition}
use Rattle.model_shape.specs.Ascending.{LeadsTo, Ascends, PartitionBefore}
use Rattle.model_shape.specs.Shapes.{IsTypeText, AreTypes, end_of, IsEventPartition, AreShapedPartitions}
use Rattle.model_file.specs.Rules.{comes_after, ascends_from, pair_less, are_distinct, type_holds, types_hold, ends_hold, partition_holds, partitions_hold}
use Rattle.model_file.proofs.Bounds.{all-by}

-- where each element with the property passes, a list of such elements passes
pub all-of : {X : Type 0} (p : X → Bool) (Q : X → Type 0) → ((x : X) → Q x → p x ≡ true) → (xs : List X) → AllByRecursion Q xs → list_all p xs ≡ true
all-of p Q give [] h = refl
all-of p Q give (x ∷ xs) h = and_from (p x) (list_all p xs) (give x h.0) (all-of p Q give xs h.1)

-- a test whose contrary passes fails
pub not-true : (b : Bool) → not b ≡ true → b ≡ false
not-true true h = absurd (false≢true h)
not-true false h = refl

-- the contrary of a test that fails passes
pub not-false : (b : Bool) → b ≡ false → not b ≡ true
not-false b h = ap not h

-- two numbers that pass as different differ
pub differs : (a b : ℕ) → not (eqb a b) ≡ true → a ≢ b
differs a b h = λ e. false≢true (sym (not-true (eqb a b) h) ∙ eq-eqb a b e)

-- two numbers that differ pass as different
pub differ : (a b : ℕ) → a ≢ b → not (eqb a b) ≡ true
differ a b n = not-false (eqb a b) (ne_eqb a b n)

-- each element has a property that asks nothing
pub any : {X : Type 0} (xs : List X) → AllByRecursion (λ _. Unit {0}) xs
any [] = tt
any (x ∷ xs) = (tt, any xs)

-- of entries that have the property: a smaller key comes before
abbrev pub Gives : {X K : Type 0} → (K → K → Bool) → (X → K) → (X → X → Type 0) → (X → Type 0) → Type 0
Gives {X} {K} less key Before P = (x y : X) → P x → P y → less (key x) (key y) ≡ true → Before x y

-- where the keys ascend from an element on, it leads to the rest
pub leads : {X K : Type 0} (less : K → K → Bool) (key : X → K) (Before : X → X → Type 0) (P : X → Type 0) → Gives less key Before P
    → (x : X) (xs : List X) → P x → AllByRecursion P xs → ascends_from less (Some (key x)) (map key xs) ≡ true → LeadsTo Before x xs
leads less key Before P give x [] p ps h = tt
leads less key Before P give x (y ∷ ys) p ps h = give x y p ps.0 (and_parts (less (key x) (key y)) (ascends_from less (Some (key y)) (map key ys)) h).0

-- where the keys ascend, so do the entries
pub ascends-tell : {X K : Type 0} (less : K → K → Bool) (key : X → K) (Before : X → X → Type 0) (P : X → Type 0) → Gives less key Before P
    → (xs : List X) (before : Option K) → AllByRecursion P xs → ascends_from less before (map key xs) ≡ true → Ascends Before xs
ascends-tell less key Before P give [] before ps h = tt
ascends-tell less key Before P give (x ∷ xs) before ps h =
    let rest = (and_parts (comes_after less before (key x)) (ascends_from less (Some (key x)) (map key xs)) h).1 in
    (leads less key Before P give x xs ps.0 ps.1 rest, ascends-tell less key Before P give xs (Some (key x)) ps.1 rest)

-- what comes before has a smaller key
abbrev pub Takes : {X K : Type 0} → (K → K → Bool) → (X → K) → (X → X → Type 0) → Type 0
Takes {X} {K} less key Before = (x y : X) → Before x y → less (key x) (key y) ≡ true

-- where the entries ascend from an element on, so do the keys
pub ascends-after : {X K : Type 0} (less : K → K → Bool) (key : X → K) (Before : X → X → Type 0) → Takes less key Before
    → (x : X) (xs : List X) → LeadsTo Before x xs → Ascends Before xs → ascends_from less (Some (key x)) (map key xs) ≡ true
ascends-after less key Before take x [] l a = refl
ascends-after less key Before take x (y ∷ ys) l a =
    and_from (less (key x) (key y)) (ascends_from less (Some (key y)) (map key ys)) (take x y l) (ascends-after less key Before take y ys a.0 a.1)

-- where the entries ascend, so do the keys
pub ascends-told : {X K : Type 0} (less : K → K → Bool) (key : X → K) (Before : X → X → Type 0) → Takes less key Before
    → (xs : List X) → Ascends Before xs → ascends_from less None (map key xs) ≡ true
ascends-told less key Before take [] a = refl
ascends-told less key Before take (x ∷ xs) a = ascends-after less key Before take x xs a.0 a.1

-- of pairs the smaller has the smaller first number, or the same and the smaller second
pub pairs-give : (a b c d : ℕ) → pair_less (a, b) (c, d) ≡ true → (a < c) ⊎ ((a ≡ c) × (b < d))
pairs-give a b c d h =
    elim (or_cases (nat_lt a c) (eqb a c && nat_lt b d) h) [
      | inl f ↦ inl (ltb-true a c f)
      | inr s ↦ let e = and_parts (eqb a c) (nat_lt b d) s in inr (eqb-true a c e.0, ltb-true b d e.1)
    ]

-- a pair with the smaller first number, or the same and the smaller second, is the smaller
pub pairs-take : (a b c d : ℕ) → (a < c) ⊎ ((a ≡ c) × (b < d)) → pair_less (a, b) (c, d) ≡ true
pairs-take a b c d (inl l) = or_left (nat_lt a c) (eqb a c && nat_lt b d) (lt-ltb a c l)
pairs-take a b c d (inr e) = or_right (nat_lt a c) (eqb a c && nat_lt b d) (and_from (eqb a c) (nat_lt b d) (eq-eqb a c e.0) (lt-ltb b d e.1))

-- a text that stands in a list is found there
pub stands-at : (t : List ℕ) (ts : List (List ℕ)) (k : ℕ) (text : List ℕ) → slice_get ts k ≡ Some text → t ≡ text → list_any (bytes_eq t) ts ≡ true
stands-at t [] k text g e = absurd cc
stands-at t (x ∷ ts) zero text g e = let same : x ≡ text = cc in or_left (bytes_eq t x) (list_any (bytes_eq t) ts) ((bytes_eq-Decides t x).1 (e ∙ sym same))
stands-at t (x ∷ ts) (suc k) text g e = or_right (bytes_eq t x) (list_any (bytes_eq t) ts) (stands-at t ts k text g e)

-- a text that is found in a list stands there
pub stands : (t : List ℕ) (ts : List (List ℕ)) → list_any (bytes_eq t) ts ≡ true → (k : ℕ) × (slice_get ts k ≡ Some t)
stands t [] h = absurd (false≢true h)
stands t (x ∷ ts) h =
    elim (or_cases (bytes_eq t x) (list_any (bytes_eq t) ts) h) [
      | inl e ↦ (0, ap Some (sym ((bytes_eq-Decides t x).0 e)))
      | inr r ↦ let k = stands t ts r in (suc k.0, k.1)
    ]

-- no text stands at two places
abbrev pub AreApart : List (List ℕ) → Type 0
AreApart ts = (j k : ℕ) (text : List ℕ) → slice_get ts j ≡ Some text → slice_get ts k ≡ Some text → j ≡ k

-- where the test of a list finds no text twice, none stands at two places
pub distinct-apart : (ts : List (List ℕ)) → are_distinct ts ≡ true → AreApart ts
distinct-apart [] h j k text e f = absurd cc
distinct-apart (t ∷ ts) h zero zero text e f = refl
distinct-apart (t ∷ ts) h zero (suc k) text e f =
    let a = and_parts (not (list_any (bytes_eq t) ts)) (are_distinct ts) h in
    let same : t ≡ text = cc in
    absurd (false≢true (sym (not-true (list_any (bytes_eq t) ts) a.0) ∙ stands-at t ts k text f same))
distinct-apart (t ∷ ts) h (suc j) zero text e f =
    let a = and_parts (not (list_any (bytes_eq t) ts)) (are_distinct ts) h in
    let same : t ≡ text = cc in
    absurd (false≢true (sym (not-true (list_any (bytes_eq t) ts) a.0) ∙ stands-at t ts j text e same))
distinct-apart (t ∷ ts) h (suc j) (suc k) text e f = ap suc (distinct-apart ts (and_parts (not (list_any (bytes_eq t) ts)) (are_distinct ts) h).1 j k text e f)

-- where no text stands at two places, the test of the list finds none twice
pub apart-distinct : (ts : List (List ℕ)) → AreApart ts → are_distinct ts ≡ true
apart-distinct [] a = refl
apart-distinct (t ∷ ts) a =
    and_from (not (list_any (bytes_eq t) ts)) (are_distinct ts)
    (elim (cases_Bool (list_any (bytes_eq t) ts)) [
      | inl h ↦ absurd (let k = stands t ts h in let same : zero ≡ suc k.0 = a zero (suc k.0) t refl k.1 in omega (arith, same))
      | inr n ↦ not-false (list_any (bytes_eq t) ts) n
    ])
    (apart-distinct ts (λ j k text e f. let same : suc j ≡ suc k = a (suc j) (suc k) text e f in omega (arith, same)))

-- a text that passes is a text of a type
pub text-tells : (s : List ℕ) → type_holds s ≡ true → IsTypeText s
text-tells s h = let a = and_parts (leb 1 (length s)) (leb (length s) 256) h in let low : 1 ≤ length s = leb-true 1 (length s) a.0 in record { some = omega (arith, low); short = leb-true (length s) 256 a.1 }

-- a text of a type passes
pub text-told : (s : List ℕ) → IsTypeText s → type_holds s ≡ true
text-told s t = let low : 0 < length s = t.some in and_from (leb 1 (length s)) (leb (length s) 256) (le-leb 1 (length s) (omega (arith, low))) (le-leb (length s) 256 t.short)

-- a list of texts passes exactly where they are the types of a well-shaped model
pub types-tell : (ts : List (List ℕ)) → (types_hold MAX_TYPES ts ≡ true) ↔ AreTypes ts
unfolding types_hold
types-tell ts = (
  λ h.
      let a = and_parts (leb (length ts) MAX_TYPES) (list_all type_holds ts && are_distinct ts) h in
      let b = and_parts (list_all type_holds ts) (are_distinct ts) a.1 in
      record { few = leb-true (length ts) MAX_TYPES a.0; each = all-by type_holds IsTypeText text-tells ts b.0; apart = distinct-apart ts b.1 },
  λ t.
      and_from (leb (length ts) MAX_TYPES) (list_all type_holds ts && are_distinct ts) (le-leb (length ts) MAX_TYPES t.few)
      (and_from (list_all type_holds ts) (are_distinct ts) (all-of type_holds IsTypeText text-told ts t.each) (apart-distinct ts t.apart)),
)

-- a partition with the numbers of an end is this end
pub end-is : (p : Partition) (id traces : ℕ) → p.id ≡ id → p.typ ≡ id → p.count ≡ traces → p ≡ end_of id traces
end-is p id traces a b c =
    let x : p ≡ record p { id = id } = ap (λ z. record p { id = z }) a in
    let y : record p { id = id } ≡ record { id = id; typ = id; count = p.count } = ap (λ z. record { id = id; typ = z; count = p.count }) b in
    let z : record { id = id; typ = id; count = p.count } ≡ end_of id traces = ap (λ w. record { id = id; typ = id; count = w }) c in
    x ∙ (y ∙ z)

-- a partition that passes is one of events
pub partition-tells : (types : ℕ) (p : Partition) → partition_holds types p ≡ true → IsEventPartition types p
partition-tells types p h =
    let a = and_parts (ltb p.id 1024) (leb 2 p.typ && (ltb p.typ (types + 2) && (leb 1 p.count && leb p.count 1000000))) h in
    let b = and_parts (leb 2 p.typ) (ltb p.typ (types + 2) && (leb 1 p.count && leb p.count 1000000)) a.1 in
    let c = and_parts (ltb p.typ (types + 2)) (leb 1 p.count && leb p.count 1000000) b.1 in
    let d = and_parts (leb 1 p.count) (leb p.count 1000000) c.1 in
    let low : 1 ≤ p.count = leb-true 1 p.count d.0 in
    record { id = ltb-true p.id 1024 a.0; type_low = leb-true 2 p.typ b.0; type_high = ltb-true p.typ (types + 2) c.0; some = omega (arith, low); few = leb-true p.count 1000000 d.1 }

-- a partition of events passes
pub partition-told : (types : ℕ) (p : Partition) → IsEventPartition types p → partition_holds types p ≡ true
partition-told types p t =
    let low : 0 < p.count = t.some in
    and_from (ltb p.id 1024) (leb 2 p.typ && (ltb p.typ (types + 2) && (leb 1 p.count && leb p.count 1000000))) (lt-ltb p.id 1024 t.id)
    (and_from (leb 2 p.typ) (ltb p.typ (types + 2) && (leb 1 p.count && leb p.count 1000000)) (le-leb 2 p.typ t.type_low)
    (and_from (ltb p.typ (types + 2)) (leb 1 p.count && leb p.count 1000000) (lt-ltb p.typ (types + 2) t.type_high)
    (and_from (leb 1 p.count) (leb p.count 1000000) (le-leb 1 p.count (omega (arith, low))) (le-leb p.count 1000000 t.few))))

-- the partition with the smaller id comes before
pub ids-give : Gives nat_lt (λ (p : Partition). p.id) PartitionBefore (λ _. Unit {0})
ids-give x y p q h = ltb-true x.id y.id h

-- the partition that comes before has the smaller id
pub ids-take : Takes nat_lt (λ (p : Partition). p.id) PartitionBefore
ids-take x y l = lt-ltb x.id y.id l

-- partitions that pass are well shaped
pub partitions-hold-tell : (types : ℕ) (ps : List Partition) → partitions_hold types ps ≡ true → AreShapedPartitions types ps
unfolding partitions_hold
partitions-hold-tell types [] h = absurd (false≢true h)
partitions-hold-tell types (p ∷ []) h = absurd (false≢true h)
partitions-hold-tell types (p ∷ q ∷ ps) h =
    let a = and_parts _ _ h in
    let b = and_parts _ _ a.1 in
    let c = and_parts _ _ b.0 in
    let d = and_parts _ _ c.1 in
    let e = and_parts _ _ d.1 in
    let f = and_parts _ _ e.1 in
    let g = and_parts _ _ f.1 in
    let i = and_parts _ _ b.1 in
    let counts : p.count ≡ q.count = eqb-true _ _ g.0 in
    let first : p ≡ end_of 0 p.count = end-is p 0 p.count (eqb-true _ _ c.0) (eqb-true _ _ d.0) refl in
    let second : q ≡ end_of 1 p.count = end-is q 1 p.count (eqb-true _ _ e.0) (eqb-true _ _ f.0) (sym counts) in
    let begin : p ∷ q ∷ ps ≡ end_of 0 p.count ∷ q ∷ ps = ap (λ (x : Partition). x ∷ q ∷ ps) first in
    let whole : end_of 0 p.count ∷ q ∷ ps ≡ end_of 0 p.count ∷ end_of 1 p.count ∷ ps = ap (λ (x : Partition). end_of 0 p.count ∷ x ∷ ps) second in
    record {
      traces = p.count;
      inner = ps;
      ends = begin ∙ whole;
      few = leb-true _ _ a.0;
      few_traces = leb-true _ _ g.1;
      order = ascends-tell nat_lt (λ (x : Partition). x.id) PartitionBefore (λ _. Unit {0}) ids-give (p ∷ q ∷ ps) None (any (p ∷ q ∷ ps)) i.1;
      each = all-by (partition_holds types) (IsEventPartition types) (partition-tells types) ps i.0;
    }

-- the two ends pass
pub ends-stand : (traces : ℕ) (ps : List Partition) → traces ≤ 1000000 → ends_hold (end_of 0 traces ∷ end_of 1 traces ∷ ps) ≡ true
ends-stand traces ps few = rw (le-leb traces 1000000 few, eq-eqb traces traces refl) refl

-- the two ends and partitions of events that ascend pass
pub made-hold : (types traces : ℕ) (ps : List Partition) → length ps + 2 ≤ 1024 → traces ≤ 1000000 → Ascends PartitionBefore (end_of 0 traces ∷ end_of 1 traces ∷ ps) → AllByRecursion (IsEventPartition types) ps
    → partitions_hold types (end_of 0 traces ∷ end_of 1 traces ∷ ps) ≡ true
unfolding partitions_hold
made-hold types traces ps short few order each =
    and_from _ _ (le-leb (length (end_of 0 traces ∷ end_of 1 traces ∷ ps)) 1024 (omega (arith, short)))
    (and_from _ _ (ends-stand traces ps few)
    (and_from _ _ (all-of (partition_holds types) (IsEventPartition types) (partition-told types) ps each)
    (ascends-told nat_lt (λ (x : Partition). x.id) PartitionBefore ids-take (end_of 0 traces ∷ end_of 1 traces ∷ ps) order)))

-- partitions pass exactly where they are well shaped
pub partitions-tell : (types : ℕ) (ps : List Partition) → (partitions_hold types ps ≡ true) ↔ AreShapedPartitions types ps
partitions-tell types ps = (
  partitions-hold-tell types ps,
  λ t.
      let whole : List Partition = end_of 0 t.traces ∷ end_of 1 t.traces ∷ t.inner in
      let same : length ps ≡ length whole = ap length t.ends in
      let few : length ps ≤ 1024 = t.few in
      subst (λ (xs : List Partition). partitions_hold types xs ≡ true) (sym t.ends)
      (made-hold types t.traces t.inner (omega (arith, same, few)) t.few_traces (subst (λ (xs : List Partition). Ascends PartitionBefore xs) t.ends t.order) t.each),
)
