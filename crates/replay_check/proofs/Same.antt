-- Lists that agree place by place.
use Rattle.std.proofs.Common.{◌≡◌, ◌≢◌, ℕ, zero, suc, ◌+◌, ◌-◌, ◌<◌, ◌≤◌, ◌==◌, ◌&&◌, not, if◌then◌else◌, Bool, true, false, List, [], ◌∷◌, length, map, set, get_or, refl, sym, ◌∙◌, ap, ap₂, inl, inr, arith, eq-eqb, eqb-true}
use Rattle.std.proofs.lemmas.Bool.{cases_eq, cases_lt, and_parts}
use Rattle.std.proofs.lemmas.List.{same_lists, get_or-set_same, get_or-set_other, get_or_default, length-set}
use Rattle.std.proofs.lemmas.List.Elements.{All-from_recursion, recursion_from_All}
use Rattle.std.specs.List.{All, AllByRecursion}
use Rattle.invariants.specs.declared.records.Partition.{Partition}
use Rattle.invariants.specs.declared.records.Edge.{Edge}
use Rattle.partition_model.specs.Assignments.{begins_with}
use Rattle.replay_check.specs.Laid.{moved}

-- a test whose opposite fails
pub from_not : (b : Bool) → not b ≡ false → b ≡ true
from_not true e = refl
from_not false e = sym e

-- partitions with the same id, type and count are the same
pub same-partition : (x y : Partition) → (x.id == y.id && (x.typ == y.typ && x.count == y.count)) ≡ true → x ≡ y
same-partition x y t =
    let a = and_parts (x.id == y.id) (x.typ == y.typ && x.count == y.count) t in
    let b = and_parts (x.typ == y.typ) (x.count == y.count) a.1 in
    let i : x.id ≡ y.id = eqb-true x.id y.id a.0 in
    let j : x.typ ≡ y.typ = eqb-true x.typ y.typ b.0 in
    let k : x.count ≡ y.count = eqb-true x.count y.count b.1 in
    λ d. record { id = i d; typ = j d; count = k d }

pub partitions-differ : (x y : Partition) → not (x.id == y.id && (x.typ == y.typ && x.count == y.count)) ≡ true → x ≢ y
partitions-differ x y t e =
    let a : (x.id == y.id) ≡ true = eq-eqb x.id y.id (ap (λ (z : Partition). z.id) e) in
    let b : (x.typ == y.typ) ≡ true = eq-eqb x.typ y.typ (ap (λ (z : Partition). z.typ) e) in
    let c : (x.count == y.count) ≡ true = eq-eqb x.count y.count (ap (λ (z : Partition). z.count) e) in
    let f : not (x.id == y.id && (x.typ == y.typ && x.count == y.count)) ≡ false = rw (a, b, c) refl in
    Rattle.std.proofs.Common.true≢false (sym t ∙ f)

-- edges with the same ends and the same count are the same
pub same-edge : (x y : Edge) → (x.from == y.from && (x.to == y.to && x.count == y.count)) ≡ true → x ≡ y
same-edge x y t =
    let a = and_parts (x.from == y.from) (x.to == y.to && x.count == y.count) t in
    let b = and_parts (x.to == y.to) (x.count == y.count) a.1 in
    let i : x.from ≡ y.from = eqb-true x.from y.from a.0 in
    let j : x.to ≡ y.to = eqb-true x.to y.to b.0 in
    let k : x.count ≡ y.count = eqb-true x.count y.count b.1 in
    λ d. record { from = i d; to = j d; count = k d }

pub edges-differ : (x y : Edge) → not (x.from == y.from && (x.to == y.to && x.count == y.count)) ≡ true → x ≢ y
edges-differ x y t e =
    let a : (x.from == y.from) ≡ true = eq-eqb x.from y.from (ap (λ (z : Edge). z.from) e) in
    let b : (x.to == y.to) ≡ true = eq-eqb x.to y.to (ap (λ (z : Edge). z.to) e) in
    let c : (x.count == y.count) ≡ true = eq-eqb x.count y.count (ap (λ (z : Edge). z.count) e) in
    let f : not (x.from == y.from && (x.to == y.to && x.count == y.count)) ≡ false = rw (a, b, c) refl in
    Rattle.std.proofs.Common.true≢false (sym t ∙ f)

-- two lists agree before a place
abbrev pub AgreeBelow : {X : Type 0} → List X → List X → ℕ → Type 0
AgreeBelow {X} xs ys i = (k : ℕ) (d : X) → k < i → get_or xs k d ≡ get_or ys k d

pub agree-more : {X : Type 0} (xs ys : List X) (i : ℕ) (d : X) → i < length xs → i < length ys → get_or xs i d ≡ get_or ys i d → AgreeBelow xs ys i → AgreeBelow xs ys (i + 1)
agree-more xs ys i d l m e a k f b =
    elim (cases_eq k i) [
      | inl q ↦ ap (λ n. get_or xs n f) q ∙ get_or_default xs i f d l ∙ e ∙ get_or_default ys i d f m ∙ sym (ap (λ n. get_or ys n f) q)
      | inr n ↦ a k f (omega arith)
    ]

-- a list of which the numbers before a place were made anew
pub record IsPartly (old now made : List ℕ) (k : ℕ) : Type 0 where
  pub size : length now ≡ length old
  pub before : (j : ℕ) → j < k → get_or now j 0 ≡ get_or made j 0
  pub after : (j : ℕ) → k ≤ j → get_or now j 0 ≡ get_or old j 0

pub partly-first : (old made : List ℕ) → IsPartly old old made 0
partly-first old made = record { size = refl; before = λ j l. absurd (omega arith); after = λ j l. refl }

pub partly-more : (old now made : List ℕ) (k v : ℕ) → k < length old → v ≡ get_or made k 0 → IsPartly old now made k → IsPartly old (set now k v) made (k + 1)
partly-more old now made k v l e p =
    let size : length now ≡ length old = p.size in
    record {
      size = length-set now k v ∙ p.size;
      before = λ j m. elim (cases_eq j k) [
        | inl q ↦ ap (λ n. get_or (set now k v) n 0) q ∙ get_or-set_same now k v 0 (omega arith) ∙ e ∙ sym (ap (λ n. get_or made n 0) q)
        | inr n ↦ get_or-set_other now k j v 0 n ∙ p.before j (omega arith)
      ];
      after = λ j m. get_or-set_other now k j v 0 (λ q. absurd (omega arith)) ∙ p.after j (omega arith);
    }

pub partly-all : (old now made : List ℕ) (k : ℕ) → length made ≡ length old → length old ≤ k → IsPartly old now made k → now ≡ made
partly-all old now made k e l p =
    let size : length now ≡ length old = p.size in
    same_lists now made (p.size ∙ sym e) (λ j d m. get_or_default now j d 0 m ∙ p.before j (omega arith) ∙ get_or_default made j 0 d (omega arith))

-- the same where the last number stays
pub partly-last : (old now made : List ℕ) (k : ℕ) → length made ≡ length old → length old ≤ k + 1 → ((j : ℕ) → j + 1 ≡ length old → get_or made j 0 ≡ get_or old j 0) → IsPartly old now made k → now ≡ made
partly-last old now made k e l same p =
    let size : length now ≡ length old = p.size in
    same_lists now made (p.size ∙ sym e) (λ j d m. get_or_default now j d 0 m ∙ elim (cases_lt j k) [
      | inl a ↦ p.before j a
      | inr b ↦ p.after j b ∙ sym (same j (omega arith))
    ] ∙ get_or_default made j 0 d (omega arith))

pub length-moved : (p q n : ℕ) (xs : List ℕ) → length (moved p q n xs) ≡ length xs
length-moved p q n [] = refl
length-moved p q n (x ∷ xs) = ap suc (length-moved p q n xs)

pub moved-at : (p q n : ℕ) (xs : List ℕ) (j : ℕ) → j + 1 < length xs → get_or (moved p q n xs) j 0 ≡ (if get_or xs j 0 == p && get_or xs (suc j) 0 == q then n else get_or xs j 0)
moved-at p q n [] j l = absurd (omega arith)
moved-at p q n (x ∷ []) j l = absurd (omega arith)
moved-at p q n (x ∷ y ∷ xs) zero l = refl
moved-at p q n (x ∷ y ∷ xs) (suc j) l = moved-at p q n (y ∷ xs) j (omega arith)

pub moved-last : (p q n : ℕ) (xs : List ℕ) (j : ℕ) → j + 1 ≡ length xs → get_or (moved p q n xs) j 0 ≡ get_or xs j 0
moved-last p q n [] j e = absurd (omega arith)
moved-last p q n (x ∷ []) zero e = last (x == p)
  where
    last : (b : Bool) → (if b && false then n else x) ≡ x
    last true = refl
    last false = refl
moved-last p q n (x ∷ []) (suc j) e = absurd (omega arith)
moved-last p q n (x ∷ y ∷ xs) zero e = absurd (omega arith)
moved-last p q n (x ∷ y ∷ xs) (suc j) e = moved-last p q n (y ∷ xs) j (omega arith)

moved-rec : (P : ℕ → Type 0) (p q n : ℕ) (xs : List ℕ) → P n → AllByRecursion P xs → AllByRecursion P (moved p q n xs)
moved-rec P p q n [] a b = tt
moved-rec P p q n (x ∷ xs) a b = (one (x == p && begins_with q xs), moved-rec P p q n xs a b.1)
  where
    one : (t : Bool) → P (if t then n else x)
    one true = a
    one false = b.0

-- what holds of each id and of the new one holds of each id after a move
pub moved-within : (P : ℕ → Type 0) (p q n : ℕ) (xs : List ℕ) → P n → All P xs → All P (moved p q n xs)
moved-within P p q n xs a b = All-from_recursion P (moved p q n xs) (moved-rec P p q n xs a (recursion_from_All P xs b))
