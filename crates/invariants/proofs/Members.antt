-- The elements of the lists of candidates and of mined invariants.
use Rattle.std.proofs.Common.{◌≡◌, ◌↔◌, ℕ, suc, ◌+◌, ◌*◌, ◌-◌, ◌≤◌, ◌<◌, inl, inr, Bool, true, false, cond, List, [], ◌∷◌, filter, All, Contains, slice_get, Some, None, IsNone, refl, ap, ◌∙◌, subst, arith, ⊎_elim}
use Rattle.std.proofs.lemmas.Option.{none-some, slice_get-get_or, slice_get_within, get_or_from_slice_get}
use Rattle.std.proofs.lemmas.List.Elements.{All-contains, All-contains_itself, All-filter, All-head, All-tail, All-nil, All-cons, All-weaker, filter_passes}
use Rattle.std.proofs.lemmas.Bool.{and_parts, cases_lt, cases_eq}
use Rattle.invariants.specs.declared.Kind.{Kind}
use Rattle.invariants.specs.declared.Kind.TheVariants.{AF, NF, AP, IB}
use Rattle.invariants.specs.declared.Kinds.{Kinds}
use Rattle.invariants.specs.declared.Kinds.TheVariants.{Three, Four}
use Rattle.invariants.specs.declared.Invariant.{Invariant}
use Rattle.invariants.specs.Candidates.{candidates_for, kind_at, IsFirst, IsPair, CandidatesTell}
use Rattle.invariants.specs.Holds.{Holds, holds}
use Rattle.invariants.specs.Mined.{holds_of_all, MinedTells}
use Rattle.invariants.proofs.ByPlaces.{holds-Holds}
use Rattle.invariants.proofs.CandidatePlaces.{first-at, three-at, place_of}
use Rattle.invariants.proofs.FourPlaces.{IsColumn, four-by_types}
use Rattle.invariants.proofs.EachKinds.{candidates-differ, candidate-shape}

-- what stands at a place is an element
pub Contains-from_place : {X : Type 0} (xs : List X) (k : ℕ) (x : X) → slice_get xs k ≡ Some x → Contains xs x
Contains-from_place xs k x at = (k, slice_get_within xs k x at, get_or_from_slice_get xs k x x at)

-- an element stands at its place
pub place-from_Contains : {X : Type 0} (xs : List X) (x : X) (h : Contains xs x) → slice_get xs h.0 ≡ Some x
place-from_Contains xs x h = slice_get-get_or xs h.0 x h.1 ∙ ap Some h.2

-- the place of a candidate is its only one
pub found : (kinds : Kinds) (count index : ℕ) (inv : Invariant) → slice_get (candidates_for kinds count) index ≡ Some inv
    → (k : ℕ) → (Some index ≡ Some k) ↔ (slice_get (candidates_for kinds count) k ≡ Some inv)
found kinds count index inv at k = (
  λ e. let same : index ≡ k = cc in subst (λ n. slice_get (candidates_for kinds count) n ≡ Some inv) same at,
  λ other. ap Some (candidates-differ kinds count index k inv at other),
)

-- what stands at no place has none
pub absent : (kinds : Kinds) (count : ℕ) (inv : Invariant) → ((k : ℕ) → slice_get (candidates_for kinds count) k ≡ Some inv → ⊥)
    → (k : ℕ) → (None ≡ Some k) ↔ (slice_get (candidates_for kinds count) k ≡ Some inv)
absent kinds count inv none k = (λ e. absurd (none-some k e), λ at. absurd (none k at))

-- a candidate that is found is an element
pub found-none : (kinds : Kinds) (count index : ℕ) (inv : Invariant) → slice_get (candidates_for kinds count) index ≡ Some inv → IsNone (Some index) ↔ (¬ Contains (candidates_for kinds count) inv)
found-none kinds count index inv at = (λ e. cc, λ no. absurd (no (Contains-from_place (candidates_for kinds count) index inv at)))

-- what stands at no place is no element
pub absent-none : (kinds : Kinds) (count : ℕ) (inv : Invariant) → ((k : ℕ) → slice_get (candidates_for kinds count) k ≡ Some inv → ⊥) → IsNone {T = ℕ} None ↔ (¬ Contains (candidates_for kinds count) inv)
absent-none kinds count inv none = (λ _ h. none h.0 (place-from_Contains (candidates_for kinds count) inv h), λ _. refl)

-- at the place of a kind stands the kind
kind_at-place_of : (kind : Kind) → kind_at (place_of kind) ≡ kind
kind_at-place_of AF = refl
kind_at-place_of NF = refl
kind_at-place_of AP = refl
kind_at-place_of IB = refl

-- the place of a kind is less than 4
place_of-lt : (kind : Kind) → place_of kind < 4
place_of-lt AF = omega arith
place_of-lt NF = omega arith
place_of-lt AP = omega arith
place_of-lt IB = omega arith

-- each other kind than IB has one of the first three places
place_of-three : (kind : Kind) → (kind ≡ IB → ⊥) → place_of kind < 3
place_of-three AF n = omega arith
place_of-three NF n = omega arith
place_of-three AP n = omega arith
place_of-three IB n = absurd (n refl)

-- the kind with the last place is IB
place_of-last : (kind : Kind) → place_of kind ≡ 3 → kind ≡ IB
place_of-last AF e = absurd (omega arith)
place_of-last NF e = absurd (omega arith)
place_of-last AP e = absurd (omega arith)
place_of-last IB e = refl

-- where only other types interrupt a type, its place in the row is not the one that is missing
in_column : (inv : Invariant) → 2 ≤ inv.a → 2 ≤ inv.b → (inv.kind ≡ IB → inv.a ≡ inv.b → ⊥)
    → (column : ℕ) × IsColumn (inv.a - 2) (4 * (inv.b - 2) + place_of inv.kind) column
in_column inv a_low b_low asked =
    let whole = 4 * (inv.b - 2) + place_of inv.kind in
    let hole = 4 * (inv.a - 2) + 3 in
    let small : place_of inv.kind < 4 = place_of-lt inv.kind in
    ⊎_elim
    (λ (low : whole < hole). (whole, inl (low, refl)))
    (λ (high : hole ≤ whole). ⊎_elim
    (λ (same : hole ≡ whole).
    let last : place_of inv.kind ≡ 3 = omega arith in
    absurd (asked (place_of-last inv.kind last) (omega arith)))
    (λ (past : hole ≡ whole → ⊥). (whole - 1, inr (nat_above hole whole high past, omega (arith, nat_above hole whole high past))))
    (cases_eq hole whole))
    (cases_lt whole hole)
  where
    nat_above : (m n : ℕ) → m ≤ n → (m ≡ n → ⊥) → m < n
    nat_above m n le ne = ⊎_elim (λ (lt : m < n). lt) (λ (ge : n ≤ m). absurd (ne (omega arith))) (cases_lt m n)

-- a candidate of two types has a place
pair-place : (kinds : Kinds) (count : ℕ) (inv : Invariant) → IsPair kinds count inv → (index : ℕ) × (slice_get (candidates_for kinds count) index ≡ Some inv)
pair-place Three count inv pair =
    (_, three-at count inv inv.a inv.b (place_of inv.kind) refl refl (kind_at-place_of inv.kind) (place_of-three inv.kind pair.asked) pair.a_low pair.a_high pair.b_low pair.b_high)
pair-place Four count inv pair =
    let at = in_column inv pair.a_low pair.b_low pair.asked in
    (_, four-by_types count inv inv.a inv.b (place_of inv.kind) at.0 refl refl (kind_at-place_of inv.kind) (place_of-lt inv.kind) pair.a_low pair.a_high pair.b_low pair.b_high at.1)

-- the candidates are the two forms and no others
pub candidates_tell : CandidatesTell
candidates_tell kinds count inv = (
  λ h. candidate-shape kinds count h.0 inv (place-from_Contains (candidates_for kinds count) inv h),
  λ h. ⊎_elim
      (λ (first : IsFirst count inv). Contains-from_place (candidates_for kinds count) _ inv (first-at kinds count inv inv.b refl first.kind first.a first.b_low first.b_high))
      (λ (pair : IsPair kinds count inv). let at = pair-place kinds count inv pair in Contains-from_place (candidates_for kinds count) at.0 inv at.1) h,
)

-- an element of a list is one of a longer list
Contains-cons : {X : Type 0} (y : X) (xs : List X) (x : X) → Contains xs x → Contains (y ∷ xs) x
Contains-cons y xs x h = (suc h.0, omega (arith, h.1), h.2)

-- the first is an element
Contains-first : {X : Type 0} (y : X) (xs : List X) → Contains (y ∷ xs) y
Contains-first y xs = (0, omega arith, refl)

-- an element stays one, whether another is put before it or not
Contains-cond : {X : Type 0} (b : Bool) (y : X) (xs : List X) (x : X) → Contains xs x → Contains (cond b (y ∷ xs) xs) x
Contains-cond true y xs x h = Contains-cons y xs x h
Contains-cond false y xs x h = h

-- what passes is kept
Contains-kept : {X : Type 0} (b : Bool) (y : X) (xs : List X) → b ≡ true → Contains (cond b (y ∷ xs) xs) y
Contains-kept true y xs e = Contains-first y xs
Contains-kept false y xs e = cc

-- each element that passes is in the filtered list
All-kept : {X : Type 0} (p : X → Bool) (xs : List X) → All (λ x. p x ≡ true → Contains (filter p xs) x) xs
All-kept p [] = All-nil (λ x. p x ≡ true → Contains [] x)
All-kept p (y ∷ xs) =
    All-cons (λ x. p x ≡ true → Contains (filter p (y ∷ xs)) x) y xs
    (λ e. Contains-kept (p y) y (filter p xs) e)
    (All-weaker (λ x. p x ≡ true → Contains (filter p xs) x) (λ x. p x ≡ true → Contains (filter p (y ∷ xs)) x) (λ x h e. Contains-cond (p y) y (filter p xs) x (h e)) xs (All-kept p xs))

-- the filtered list has the elements that pass and no others
pub Contains-filter : {X : Type 0} (p : X → Bool) (xs : List X) (x : X) → Contains (filter p xs) x ↔ (Contains xs x × (p x ≡ true))
Contains-filter p xs x = (
  λ h. (All-contains (Contains xs) (filter p xs) x (All-filter p (Contains xs) xs (All-contains_itself xs)) h, All-contains (λ y. p y ≡ true) (filter p xs) x (filter_passes p xs) h),
  λ h. All-contains (λ y. p y ≡ true → Contains (filter p xs) y) xs x (All-kept p xs) h.0 h.1,
)

-- the test of all words passes exactly where the invariant holds, by places, of each
of_every : (words : List (List ℕ)) (inv : Invariant) → (holds_of_all words inv ≡ true) ↔ All (λ word. Holds inv word) words
of_every [] inv = (λ _. All-nil (λ word. Holds inv word), λ _. refl)
of_every (word ∷ words) inv = (
  λ h. All-cons (λ w. Holds inv w) word words ((holds-Holds inv word).0 (and_parts (holds inv word) (holds_of_all words inv) h).0) ((of_every words inv).0 (and_parts (holds inv word) (holds_of_all words inv) h).1),
  λ h.
      let first : holds inv word ≡ true = (holds-Holds inv word).1 (All-head (λ w. Holds inv w) word words h) in
      let rest : holds_of_all words inv ≡ true = (of_every words inv).1 (All-tail (λ w. Holds inv w) word words h) in
      rw (first, rest),
)

-- the mined list has the candidates that hold of every word and no others
pub mined_tells : MinedTells
mined_tells kinds count words inv =
    let parts = Contains-filter (holds_of_all words) (candidates_for kinds count) inv in
    let test = of_every words inv in
    (λ h. record { candidate = (parts.0 h).0; of_every = test.0 (parts.0 h).1 }, λ h. parts.1 (h.candidate, test.1 h.of_every))
