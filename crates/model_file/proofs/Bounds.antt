-- The numbers of a well-shaped model fit the fields of its records.
use Rattle.std.proofs.Common.{◌≡◌, ℕ, zero, suc, ◌+◌, ◌<◌, ◌≤◌, Bool, true, false, cond, not, ◌&&◌, eqb, leb, ltb, ◌⊎◌, List, [], ◌∷◌, map, length, Option, Some, None, is_some, nat_lt, le-leb, refl, sym, subst, arith, inl, inr}
use Rattle.std.specs.Prelude.{unwrap_or, option_map, find}
use Rattle.std.specs.List.{AllByRecursion, list_all, slice_get}
use Rattle.std.proofs.lemmas.Bool.{and_parts, and_from, ltb-true, leb-true, eqb-true, cases_Bool, false≢true}
use Rattle.std.proofs.lemmas.List.{length-map}
use Rattle.std.proofs.lemmas.List.Sums.{sum_by-cons}
use Rattle.std.proofs.Math.Nat.{mul-le-mul}
use Rattle.limits.specs.declared.TheConstants.{MAX_TYPES, MAX_INVARIANTS, MAX_PARTITIONS, MAX_EVENTS, MAX_EDGE_COUNT, MAX_PATH_NUMBERS}
use Rattle.invariants.specs.Candidates.{candidates_for, candidate_total, IsFirst, IsPair}
use Rattle.invariants.specs.declared.Invariant.{Invariant}
use Rattle.invariants.specs.declared.records.Partition.{Partition}
use Rattle.invariants.specs.declared.records.Edge.{Edge}
use Rattle.invariants.specs.declared.records.Listed.{Listed}
use Rattle.invariants.specs.declared.records.Merge.{Merge}
use Rattle.invariants.specs.declared.records.Split.{Split}
use Rattle.invariants.specs.declared.records.Block.{Block}
use Rattle.invariants.specs.declared.Kinds.{Kinds}
use Rattle.invariants.specs.declared.Kinds.TheVariants.{Three, Four}
use Rattle.invariants.proofs.EachKinds.{length-total, candidate-shape}
use Rattle.model_file.specs.declared.version.Version.{Version}
use Rattle.model_file.specs.declared.version.Version.TheVariants.{One, Two}
use Rattle.model_file.specs.Versions.{max_types}
use Rattle.model_file.specs.Rules.{type_holds, are_distinct, types_hold, partition_holds, partitions_hold, type_of, edge_holds, edges_hold, place_of, listed_holds, invariants_hold, merge_holds, merges_hold, path_holds, split_holds, splits_hold, are_one, block_holds, blocks_hold, comes_after, ascends_from}
use Rattle.model_shape.specs.Numbers.{split_numbers}
use Rattle.model_file.proofs.Places.{place-is}
use Rattle.model_file.proofs.Back.{IsSmall, FitsPartition, FitsEdge, FitsListed, FitsMerge, FitsSplit, FitsBlock}

-- what each element that passes has, where all pass
pub all-by : {X : Type 0} (p : X → Bool) (Q : X → Type 0) → ((x : X) → p x ≡ true → Q x) → (xs : List X) → list_all p xs ≡ true → AllByRecursion Q xs
all-by p Q give [] h = tt
all-by p Q give (x ∷ xs) h = let e = and_parts (p x) (list_all p xs) h in (give x e.0, all-by p Q give xs e.1)

-- what follows for each element follows for all
pub all-weaker : {X : Type 0} (P Q : X → Type 0) → ((x : X) → P x → Q x) → (xs : List X) → AllByRecursion P xs → AllByRecursion Q xs
all-weaker P Q give [] h = tt
all-weaker P Q give (x ∷ xs) h = (give x h.0, all-weaker P Q give xs h.1)

-- types that pass are no more than the limit
pub few-types : (limit : ℕ) (ts : List (List ℕ)) → types_hold limit ts ≡ true → length ts ≤ limit
unfolding types_hold
few-types limit ts h = leb-true _ _ (and_parts _ _ h).0

-- types that pass a limit pass each higher one
pub types-within : (few many : ℕ) (ts : List (List ℕ)) → few ≤ many → types_hold few ts ≡ true → types_hold many ts ≡ true
unfolding types_hold
types-within few many ts higher h =
    let a = and_parts (leb (length ts) few) (list_all type_holds ts && are_distinct ts) h in
    let short : length ts ≤ few = leb-true (length ts) few a.0 in
    and_from (leb (length ts) many) (list_all type_holds ts && are_distinct ts) (le-leb (length ts) many (omega (arith, short, higher))) a.1

-- no version has more types than a log may have
pub max_types-within : (version : Version) → max_types version ≤ MAX_TYPES
max_types-within One = omega arith
max_types-within Two = omega arith

-- an id that a partition may have, the number of a type, and a count that fits
pub record IsNumbered (types : ℕ) (p : Partition) : Type 0 where
  pub id : p.id < MAX_PARTITIONS
  pub typ : p.typ ≤ types + 1
  pub count : p.count ≤ MAX_EVENTS

numbered-other : (types : ℕ) (p : Partition) → partition_holds types p ≡ true → IsNumbered types p
numbered-other types p h =
    let a = and_parts _ _ h in
    let b = and_parts _ _ a.1 in
    let c = and_parts _ _ b.1 in
    let d = and_parts _ _ c.1 in
    let id : p.id < MAX_PARTITIONS = ltb-true _ _ a.0 in
    let typ : p.typ < types + 2 = ltb-true _ _ c.0 in
    record { id = omega (arith, id); typ = omega (arith, typ); count = leb-true _ _ d.1 }

-- where the partitions pass, each is numbered so
pub numbered : (types : ℕ) (ps : List Partition) → partitions_hold types ps ≡ true → AllByRecursion (IsNumbered types) ps
unfolding partitions_hold
numbered types [] h = absurd (false≢true h)
numbered types (p ∷ []) h = absurd (false≢true h)
numbered types (p ∷ q ∷ ps) h =
    let a = and_parts _ _ (and_parts _ _ h).1 in
    let b = and_parts _ _ a.0 in
    let c = and_parts _ _ b.1 in
    let d = and_parts _ _ c.1 in
    let e = and_parts _ _ d.1 in
    let f = and_parts _ _ e.1 in
    let p_id : p.id ≡ 0 = eqb-true _ _ b.0 in
    let p_typ : p.typ ≡ 0 = eqb-true _ _ c.0 in
    let q_id : q.id ≡ 1 = eqb-true _ _ d.0 in
    let q_typ : q.typ ≡ 1 = eqb-true _ _ e.0 in
    let counts : p.count ≡ q.count = eqb-true _ _ f.0 in
    let few : p.count ≤ MAX_EVENTS = leb-true _ _ f.1 in (
      record { id = omega (arith, p_id); typ = omega (arith, p_typ); count = few },
      (
        record { id = omega (arith, q_id); typ = omega (arith, q_typ); count = omega (arith, counts, few) },
        all-by (partition_holds types) (IsNumbered types) (numbered-other types) ps (and_parts _ _ a.1).0,
      ),
    )

-- partitions that pass fit their fields
pub fits-partitions : (types : ℕ) (ps : List Partition) → types ≤ MAX_TYPES → partitions_hold types ps ≡ true → AllByRecursion FitsPartition ps
fits-partitions types ps few h =
    all-weaker (IsNumbered types) FitsPartition (λ p n. record { id = omega (arith, n.id); typ = omega (arith, n.typ, few); count = omega (arith, n.count) }) ps (numbered types ps h)

found-small : (b : Bool) (p : Partition) (o : Option Partition) → b ≡ false → is_some (option_map (λ (q : Partition). q.typ) (cond b (Some p) o)) ≡ true → is_some (option_map (λ (q : Partition). q.typ) o) ≡ true
found-small true p o e h = absurd (false≢true (sym e))
found-small false p o e h = h

-- the id of a listed partition is one that a partition may have
pub listed-small : (types : ℕ) (ps : List Partition) (id : ℕ) → AllByRecursion (IsNumbered types) ps → is_some (type_of ps id) ≡ true → id < MAX_PARTITIONS
listed-small types [] id h some = absurd (false≢true some)
listed-small types (p ∷ ps) id h some =
    elim (cases_Bool (eqb p.id id)) [
      | inl here ↦ let same = eqb-true p.id id here in omega (arith, same, h.0.id)
      | inr other ↦ listed-small types ps id h.1 (found-small (eqb p.id id) p (find (λ (q : Partition). eqb q.id id) ps) other some)
    ]

-- of six tests that all pass, the first two and the last
pub six : (a b c d e f : Bool) → (a && (b && (c && (d && (e && f))))) ≡ true → (a ≡ true) × (b ≡ true) × (f ≡ true)
six true true true true true true h = (refl, refl, refl)
six true true true true true false h = absurd (false≢true h)
six true true true true false f h = absurd (false≢true h)
six true true true false e f h = absurd (false≢true h)
six true true false d e f h = absurd (false≢true h)
six true false c d e f h = absurd (false≢true h)
six false b c d e f h = absurd (false≢true h)

fits-edge : (types : ℕ) (ps : List Partition) → AllByRecursion (IsNumbered types) ps → (e : Edge) → edge_holds (type_of ps) e ≡ true → FitsEdge e
fits-edge types ps small e x =
    let parts = six (is_some (type_of ps e.from)) (is_some (type_of ps e.to)) (not (eqb e.from 1)) (not (eqb e.to 0)) (leb 1 e.count) (leb e.count MAX_EDGE_COUNT) x in
    let count : e.count ≤ MAX_EDGE_COUNT = leb-true e.count MAX_EDGE_COUNT parts.2 in
    let from : e.from < MAX_PARTITIONS = listed-small types ps e.from small parts.0 in
    let to : e.to < MAX_PARTITIONS = listed-small types ps e.to small parts.1 in
    record { from = omega (arith, from); to = omega (arith, to); count = omega (arith, count) }

-- edges that pass fit their fields
pub fits-edges : (types : ℕ) (ps : List Partition) (es : List Edge) → partitions_hold types ps ≡ true → edges_hold (type_of ps) es ≡ true → AllByRecursion FitsEdge es
unfolding edges_hold
fits-edges types ps es parts h = all-by (edge_holds (type_of ps)) FitsEdge (fits-edge types ps (numbered types ps parts)) es (and_parts (list_all (edge_holds (type_of ps)) es) _ h).0

-- merges that pass fit their fields
pub fits-merges : (ms : List Merge) → merges_hold ms ≡ true → AllByRecursion FitsMerge ms
unfolding merges_hold
fits-merges ms h =
    all-by merge_holds FitsMerge (λ m x.
    let a = and_parts _ _ x in
    let less : m.p < m.q = ltb-true _ _ a.0 in
    let high : m.q < MAX_PARTITIONS = ltb-true _ _ a.1 in
    record { p = omega (arith, less, high); q = omega (arith, high) }) ms (and_parts _ _ h).1

-- the ids of a path that passes fit 32 bits
pub small-path : (path : List ℕ) → path_holds path ≡ true → AllByRecursion IsSmall path
small-path path h = all-by (λ id. ltb id MAX_PARTITIONS) IsSmall (λ id x. let high : id < MAX_PARTITIONS = ltb-true _ _ x in omega (arith, high)) path h

-- an option that is not empty has a value
pub some-place : (o : Option ℕ) → is_some o ≡ true → (k : ℕ) × (o ≡ Some k)
some-place None h = absurd (false≢true h)
some-place (Some k) h = (k, refl)

length-at : {X : Type 0} (xs : List X) (k : ℕ) (x : X) → slice_get xs k ≡ Some x → k < length xs
length-at [] k x h = absurd cc
length-at (y ∷ xs) zero x h = omega arith
length-at (y ∷ xs) (suc k) x h = omega (arith, length-at xs k x h)

-- the types of a candidate
record IsBetween (types : ℕ) (i : Invariant) : Type 0 where
  a : i.a < types + 2
  b : i.b < types + 2

between : (kinds : Kinds) (types : ℕ) (i : Invariant) (s : IsFirst types i ⊎ IsPair kinds types i) → IsBetween types i
between kinds types i (inl f) = record { a = omega (arith, f.a); b = f.b_high }
between kinds types i (inr p) = record { a = p.a_high; b = p.b_high }

-- where an invariant stands among the candidates
pub record IsPlaced (kinds : Kinds) (types : ℕ) (i : Invariant) (k : ℕ) : Type 0 where
  pub inside : k < candidate_total kinds types
  pub a : i.a < types + 2
  pub b : i.b < types + 2

placed : (kinds : Kinds) (types : ℕ) (i : Invariant) (k : ℕ) → place_of kinds types i ≡ Some k → IsPlaced kinds types i k
unfolding place_of
placed kinds types i k h =
    let found = place-is i (candidates_for kinds types) k h in
    let inside = length-at (candidates_for kinds types) k i found in
    let shape = between kinds types i (candidate-shape kinds types k i found) in
    record { inside = omega (arith, inside, length-total kinds types); a = shape.a; b = shape.b }

-- an invariant that is found stands at its place among the candidates
pub place-known : (kinds : Kinds) (types : ℕ) (i : Invariant) → is_some (place_of kinds types i) ≡ true → IsPlaced kinds types i (unwrap_or (place_of kinds types i) 0)
place-known kinds types i h = let k = some-place (place_of kinds types i) h in subst (λ o. IsPlaced kinds types i (unwrap_or o 0)) (sym k.1) (placed kinds types i k.0 k.1)

abbrev after : Option ℕ → ℕ
after None = 0
after (Some k) = k + 1

after-le : (before : Option ℕ) (k : ℕ) → comes_after nat_lt before k ≡ true → after before ≤ k
after-le None k h = omega arith
after-le (Some b) k h = let less = ltb-true b k h in omega (arith, less)

-- numbers that ascend below a limit are no more than the limit
few-ascend : (n : ℕ) (ks : List ℕ) (before : Option ℕ) → AllByRecursion (λ k. k < n) ks → after before ≤ n → ascends_from nat_lt before ks ≡ true → length ks + after before ≤ n
few-ascend n [] before small room h = omega arith
few-ascend n (k ∷ ks) before small room h =
    let e = and_parts (comes_after nat_lt before k) (ascends_from nat_lt (Some k) ks) h in
    let low = after-le before k e.0 in
    let rest : length ks + (k + 1) ≤ n = few-ascend n ks (Some k) small.1 (omega (arith, small.0)) e.1 in
    omega (arith, low, rest)

-- what the image of each element has, all images have
pub all-map : {X Y : Type 0} (f : X → Y) (P : Y → Type 0) (xs : List X) → AllByRecursion (λ x. P (f x)) xs → AllByRecursion P (map f xs)
all-map f P [] h = tt
all-map f P (x ∷ xs) h = (h.0, all-map f P xs h.1)

few-candidates : (kinds : Kinds) (types : ℕ) → types ≤ MAX_TYPES → candidate_total kinds types ≤ MAX_INVARIANTS
few-candidates Three types few = omega (arith, few, mul-le-mul few few)
few-candidates Four types few = omega (arith, mul-le-mul few few)

-- listed invariants that pass are no more than a log may have
pub few-invariants : (kinds : Kinds) (types partitions : ℕ) (ls : List Listed) → types ≤ MAX_TYPES → invariants_hold kinds types partitions ls ≡ true → length ls ≤ MAX_INVARIANTS
unfolding invariants_hold
few-invariants kinds types partitions ls few h =
    let e = and_parts _ _ h in
    let n = candidate_total kinds types in
    let place : Listed → ℕ = λ l. unwrap_or (place_of kinds types l.inv) 0 in
    let small = all-by (listed_holds kinds types partitions) (λ l. place l < n) (λ l x. (place-known kinds types l.inv (and_parts _ _ x).0).inside) ls e.0 in
    let count = few-ascend n (map place ls) None (all-map place (λ k. k < n) ls small) (omega arith) e.1 in
    omega (arith, count, length-map ls place, few-candidates kinds types few)

-- listed invariants that pass fit their fields
pub fits-invariants : (kinds : Kinds) (types partitions : ℕ) (ls : List Listed) → types ≤ MAX_TYPES → invariants_hold kinds types partitions ls ≡ true → AllByRecursion FitsListed ls
unfolding invariants_hold
fits-invariants kinds types partitions ls few h =
    all-by (listed_holds kinds types partitions) FitsListed (λ l x.
    let a = and_parts _ _ x in
    let b = and_parts _ _ a.1 in
    let at = place-known kinds types l.inv a.0 in
    record { a = omega (arith, at.a, few); b = omega (arith, at.b, few); labels = all-by (λ label. leb label 7) (λ label. label ≤ 7) (λ label y. leb-true _ _ y) l.labels b.1 }) ls (and_parts _ _ h).0

split-list : (invariants n : ℕ) (ss : List Split) → invariants ≤ MAX_INVARIANTS → n ≤ MAX_PATH_NUMBERS → list_all (split_holds invariants) ss ≡ true → split_numbers ss ≤ n → AllByRecursion FitsSplit ss
split-list invariants n [] few long h room = tt
split-list invariants n (s ∷ ss) few long h room =
    let e = and_parts (split_holds invariants s) (list_all (split_holds invariants) ss) h in
    let a = and_parts _ _ e.0 in
    let b = and_parts _ _ a.1 in
    let inv : s.inv < invariants = ltb-true _ _ a.0 in
    let place : s.place < length s.path = ltb-true _ _ b.0 in
    let sum = sum_by-cons (λ (t : Split). length t.path) s ss in
    (record { inv = omega (arith, inv, few); place = omega (arith, place, room, long, sum); path = small-path s.path b.1 }, split-list invariants n ss few long e.1 (omega (arith, room, sum)))

-- splits that pass fit their fields
pub fits-splits : (invariants : ℕ) (ss : List Split) → invariants ≤ MAX_INVARIANTS → splits_hold invariants ss ≡ true → AllByRecursion FitsSplit ss
unfolding splits_hold
fits-splits invariants ss few h = let e = and_parts _ _ (and_parts _ _ h).1 in split-list invariants (split_numbers ss) ss few (leb-true _ _ e.1) e.0 (omega arith)

-- two values that are one are both there
pub both-some : (s t : Option ℕ) → are_one s t ≡ true → (is_some s ≡ true) × (is_some t ≡ true)
both-some None t h = absurd (false≢true h)
both-some (Some x) None h = absurd (false≢true h)
both-some (Some x) (Some y) h = (refl, refl)

-- blocks that pass fit their fields
pub fits-blocks : (types invariants : ℕ) (ps : List Partition) (ss : List Split) (bs : List Block) → partitions_hold types ps ≡ true → invariants ≤ MAX_INVARIANTS → blocks_hold (type_of ps) invariants ss bs ≡ true → AllByRecursion FitsBlock bs
unfolding blocks_hold
fits-blocks types invariants ps ss bs parts few h =
    let small = numbered types ps parts in
    all-by (block_holds (type_of ps) invariants) FitsBlock (λ b x.
    let a = and_parts _ _ x in
    let c = and_parts _ _ a.1 in
    let d = and_parts _ _ c.1 in
    let both = both-some (type_of ps b.p) (type_of ps b.q) c.0 in
    let p : b.p < MAX_PARTITIONS = listed-small types ps b.p small both.0 in
    let q : b.q < MAX_PARTITIONS = listed-small types ps b.q small both.1 in
    let inv : b.inv < invariants = ltb-true _ _ d.0 in
    record { p = omega (arith, p); q = omega (arith, q); inv = omega (arith, inv, few); path = small-path b.path d.1 }) bs (and_parts _ _ h).0
