-- A filtered list keeps the order of its elements.
use Rattle.std.proofs.Common.{◌≡◌, ℕ, zero, suc, ◌<◌, Bool, true, false, cond, List, [], ◌∷◌, filter, Contains, slice_get, Some, arith, suc-le-suc}
use Rattle.std.proofs.lemmas.Option.{none-some}
use Rattle.invariants.specs.Candidates.{candidates_for}
use Rattle.invariants.specs.Mined.{holds_of_all, MinedKeepsOrder}
use Rattle.invariants.proofs.EachKinds.{candidates-differ}
use Rattle.invariants.proofs.Members.{Contains-filter, Contains-from_place, place-from_Contains}

-- x stands before y in the list
record IsBefore {X : Type 0} (xs : List X) (x y : X) : Type 0 where
  first : ℕ
  second : ℕ
  at_first : slice_get xs first ≡ Some x
  at_second : slice_get xs second ≡ Some y
  order : first < second

-- two elements stand in the same order in a longer list
before-cons : {X : Type 0} (z : X) (xs : List X) (x y : X) → IsBefore xs x y → IsBefore (z ∷ xs) x y
before-cons z xs x y h = record { first = suc h.first; second = suc h.second; at_first = h.at_first; at_second = h.at_second; order = suc-le-suc h.order }

-- the first element stands before all others
before-first : {X : Type 0} (z : X) (xs : List X) (x y : X) → Some z ≡ Some x → Contains xs y → IsBefore (z ∷ xs) x y
before-first z xs x y e h = record { first = 0; second = suc h.0; at_first = e; at_second = place-from_Contains xs y h; order = omega arith }

-- at the head of a filtered list, which is kept or not
before-cond : {X : Type 0} (b : Bool) (z : X) (xs kept : List X) (x y : X)
    → ((j k : ℕ) → slice_get kept j ≡ Some x → slice_get kept k ≡ Some y → j < k → IsBefore xs x y)
    → (Contains kept y → Contains xs y)
    → (j k : ℕ) → slice_get (cond b (z ∷ kept) kept) j ≡ Some x → slice_get (cond b (z ∷ kept) kept) k ≡ Some y → j < k → IsBefore (z ∷ xs) x y
before-cond false z xs kept x y rest inside j k at_j at_k order = before-cons z xs x y (rest j k at_j at_k order)
before-cond true z xs kept x y rest inside j zero at_j at_k order = absurd (omega arith)
before-cond true z xs kept x y rest inside zero (suc k) at_j at_k order = before-first z xs x y at_j (inside (Contains-from_place kept k y at_k))
before-cond true z xs kept x y rest inside (suc j) (suc k) at_j at_k order = before-cons z xs x y (rest j k at_j at_k (omega arith))

-- two elements of a filtered list stand in that order in the list
before-filter : {X : Type 0} (p : X → Bool) (xs : List X) (x y : X) (j k : ℕ)
    → slice_get (filter p xs) j ≡ Some x → slice_get (filter p xs) k ≡ Some y → j < k → IsBefore xs x y
before-filter p [] x y j k at_j at_k order = absurd (none-some x at_j)
before-filter p (z ∷ xs) x y j k at_j at_k order =
    before-cond (p z) z xs (filter p xs) x y (before-filter p xs x y) (λ h. ((Contains-filter p xs y).0 h).0) j k at_j at_k order

-- two mined invariants stand in the order of the candidates
pub mined_keeps_order : MinedKeepsOrder
mined_keeps_order kinds count words j k m n first second at_j at_k at_m at_n order =
    let h = before-filter (holds_of_all words) (candidates_for kinds count) first second j k at_j at_k order in
    let same_m : m ≡ h.first = candidates-differ kinds count m h.first first at_m h.at_first in
    let same_n : n ≡ h.second = candidates-differ kinds count n h.second second at_n h.at_second in
    omega (arith, h.order)
