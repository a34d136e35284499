-- Where each candidate stands where four kinds are asked for: in the row of each type one is missing.
use Rattle.std.proofs.Common.{◌≡◌, ℕ, zero, suc, ◌+◌, ◌*◌, ◌-◌, ◌/◌, ◌%◌, ◌<◌, ◌≤◌, List, [], ◌∷◌, ◌++◌, map, length, get_or, Some, refl, sym, ap, ◌∙◌, subst, arith, inl, inr, ⊎_elim, ◌⊎◌, length-append, eq-eqb, ne_eqb, append_assoc}
use Rattle.std.proofs.lemmas.List.{get_or-append-add}
use Rattle.std.proofs.Math.ListN.{get_or-append}
use Rattle.std.proofs.Math.Nat.{mod-lt, div-add-mod, div-lt_iff_lt-mul}
use Rattle.std.proofs.lemmas.List.FromFn.{length-map-range_with_len}
use Rattle.std.proofs.lemmas.Option.{slice_get-get_or, slice_get_within, same_Some}
use Rattle.std.proofs.lemmas.Bool.{cases_lt}
use Rattle.std.specs.List.{flat_map, range_with_len, slice_get}
use Rattle.invariants.specs.declared.Kind.TheVariants.{AF, NF, AP, IB}
use Rattle.invariants.specs.declared.Kinds.TheVariants.{Four}
use Rattle.invariants.specs.declared.Invariant.{Invariant}
use Rattle.invariants.specs.Candidates.{invariant, types, of_pair, of_first, candidates_for, kind_at, IsFirst, IsPair}
use Rattle.invariants.proofs.CandidatePlaces.{even-length, even-get, none, row-below, shape, kind_at-same, same-invariant, candidate-first, length-candidates_for}

-- all four kinds between two types
abbrev full : ℕ → ℕ → List Invariant
full a b = invariant AF a b ∷ invariant NF a b ∷ invariant AP a b ∷ invariant IB a b ∷ []

-- the three that a type has with itself
abbrev own : ℕ → List Invariant
own a = invariant AF a a ∷ invariant NF a a ∷ invariant AP a a ∷ []

-- different types have all four
pair-other : (a b : ℕ) → (a ≡ b → ⊥) → of_pair Four a b ≡ full a b
pair-other a b n = rw (ne_eqb a b n) refl

-- a type has three with itself
pair-own : (a : ℕ) → of_pair Four a a ≡ own a
pair-own a = rw (eq-eqb a a refl) refl

-- what types of which none is this one have
others : (a s m : ℕ) → ((x : ℕ) → s ≤ x → x < s + m → a ≡ x → ⊥) → flat_map (of_pair Four a) (range_with_len s m) ≡ flat_map (full a) (range_with_len s m)
others a s zero n = refl
others a s (suc m) n =
    ap (λ xs. xs ++ flat_map (of_pair Four a) (range_with_len (s + 1) m)) (pair-other a s (n s (omega arith) (omega arith)))
    ∙ ap (λ ys. full a s ++ ys) (others a (s + 1) m (λ x low high. n x (omega arith) (omega arith)))

-- numbers in a row, in two parts
range-split : (s m n : ℕ) → range_with_len s (m + n) ≡ range_with_len s m ++ range_with_len (s + m) n
range-split s zero n =
    let same : 0 + n ≡ n = omega arith in
    let e : s ≡ s + 0 = omega arith in
    ap (λ k. range_with_len s k) same ∙ ap (λ k. range_with_len k n) e
range-split s (suc m) n =
    let next : suc m + n ≡ suc (m + n) = omega arith in
    let e : s + 1 + m ≡ s + suc m = omega arith in
    ap (λ k. range_with_len s k) next ∙ ap (λ xs. s ∷ xs) (range-split (s + 1) m n ∙ ap (λ k. range_with_len (s + 1) m ++ range_with_len k n) e)

-- the pieces of two lists
flat-append : {A : Type 0} (f : ℕ → List A) (xs ys : List ℕ) → flat_map f (xs ++ ys) ≡ flat_map f xs ++ flat_map f ys
flat-append f [] ys = refl
flat-append f (x ∷ xs) ys = ap (λ zs. f x ++ zs) (flat-append f xs ys) ∙ sym (append_assoc (f x) (flat_map f xs) (flat_map f ys))

-- the row of the type at place i: all four with those before it, three with itself, and all four with those behind it
row-parts : (i rest : ℕ) → of_first Four (i + suc rest) (2 + i)
    ≡ flat_map (full (2 + i)) (range_with_len 2 i) ++ (own (2 + i) ++ flat_map (full (2 + i)) (range_with_len (2 + i + 1) rest))
row-parts i rest =
    let f = of_pair Four (2 + i) in
    let behind = range_with_len (2 + i + 1) rest in
    ap (flat_map f) (range-split 2 i (suc rest))
    ∙ (flat-append f (range_with_len 2 i) ((2 + i) ∷ behind)
    ∙ (ap (λ xs. xs ++ (f (2 + i) ++ flat_map f behind)) (others (2 + i) 2 i (λ x low high e. omega arith))
    ∙ ap (λ ys. flat_map (full (2 + i)) (range_with_len 2 i) ++ ys)
    (ap (λ xs. xs ++ flat_map f behind) (pair-own (2 + i))
    ∙ ap (λ ys. own (2 + i) ++ ys) (others (2 + i) (2 + i + 1) rest (λ x low high e. omega arith)))))

-- all four with so many types
full-length : (a s m : ℕ) → length (flat_map (full a) (range_with_len s m)) ≡ m * 4
full-length a s m = even-length (full a) 4 s m (λ b low high. refl)

-- the length of a row, one less than four for each type
row-length_parts : (i rest : ℕ) → length (of_first Four (i + suc rest) (2 + i)) ≡ 4 * (i + suc rest) - 1
row-length_parts i rest =
    let front = flat_map (full (2 + i)) (range_with_len 2 i) in
    let behind = flat_map (full (2 + i)) (range_with_len (2 + i + 1) rest) in
    ap length (row-parts i rest)
    ∙ omega (arith, length-append front (own (2 + i) ++ behind), length-append (own (2 + i)) behind, full-length (2 + i) 2 i, full-length (2 + i) (2 + i + 1) rest)

-- the same by the number of types
row-length : (count i : ℕ) → i < count → length (of_first Four count (2 + i)) ≡ 4 * count - 1
row-length count i under =
    let e : i + suc (count - i - 1) ≡ count = omega arith in
    subst (λ n. length (of_first Four n (2 + i)) ≡ 4 * n - 1) e (row-length_parts i (count - i - 1))

-- each row is as long
rows-even : (count x : ℕ) → 2 ≤ x → x < 2 + count → length (of_first Four count x) ≡ 4 * count - 1
rows-even count x low high =
    let e : 2 + (x - 2) ≡ x = omega arith in
    subst (λ n. length (of_first Four count n) ≡ 4 * count - 1) e (row-length count (x - 2) (omega arith))

-- how many candidates there are of four kinds
pub length-four : (count : ℕ) → length (candidates_for Four count) ≡ 4 * (count * count)
length-four zero = refl
length-four (suc count) =
    let row = 4 * suc count - 1 in
    let more : row + 1 ≡ 4 * suc count = omega arith in
    let product : suc count * (row + 1) ≡ suc count * (4 * suc count) = ap (λ n. suc count * n) more in
    length-candidates_for Four (suc count)
    ∙ omega (arith, product, even-length (of_first Four (suc count)) row 2 (suc count) (rows-even (suc count)))

-- the four invariants of two types stand in the order of the kinds
full-get : (a b k : ℕ) → k < 4 → get_or (full a b) k none ≡ invariant (kind_at k) a b
full-get a b zero under = refl
full-get a b (suc zero) under = refl
full-get a b (suc (suc zero)) under = refl
full-get a b (suc (suc (suc zero))) under = refl
full-get a b (suc (suc (suc (suc k)))) under = absurd (omega arith)

-- so do the three of a type with itself
own-get : (a k : ℕ) → k < 3 → get_or (own a) k none ≡ invariant (kind_at k) a a
own-get a zero under = refl
own-get a (suc zero) under = refl
own-get a (suc (suc zero)) under = refl
own-get a (suc (suc (suc k))) under = absurd (omega arith)

-- a type in a row before that of the row
get_before : (i rest j k : ℕ) → j < i → k < 4
    → get_or (of_first Four (i + suc rest) (2 + i)) (j * 4 + k) none ≡ invariant (kind_at k) (2 + i) (2 + j)
get_before i rest j k low small =
    let front = flat_map (full (2 + i)) (range_with_len 2 i) in
    let more = own (2 + i) ++ flat_map (full (2 + i)) (range_with_len (2 + i + 1) rest) in
    ap (λ xs. get_or xs (j * 4 + k) none) (row-parts i rest)
    ∙ (get_or-append front more none (j * 4 + k) (omega (arith, full-length (2 + i) 2 i))
    ∙ (even-get (full (2 + i)) 4 2 i (λ b l h. refl) j k none low small ∙ full-get (2 + i) (2 + j) k small))

-- the type of the row itself
get_own : (i rest k : ℕ) → k < 3 → get_or (of_first Four (i + suc rest) (2 + i)) (i * 4 + k) none ≡ invariant (kind_at k) (2 + i) (2 + i)
get_own i rest k small =
    let front = flat_map (full (2 + i)) (range_with_len 2 i) in
    let behind = flat_map (full (2 + i)) (range_with_len (2 + i + 1) rest) in
    let place : i * 4 + k ≡ length front + k = omega (arith, full-length (2 + i) 2 i) in
    ap (λ xs. get_or xs (i * 4 + k) none) (row-parts i rest)
    ∙ (ap (λ n. get_or (front ++ (own (2 + i) ++ behind)) n none) place
    ∙ (get_or-append-add front (own (2 + i) ++ behind) k none
    ∙ (get_or-append (own (2 + i)) behind none k small ∙ own-get (2 + i) k small)))

-- a type behind that of the row, one place earlier than if none were missing
get_behind : (i rest j k : ℕ) → j < rest → k < 4
    → get_or (of_first Four (i + suc rest) (2 + i)) (i * 4 + (3 + (j * 4 + k))) none ≡ invariant (kind_at k) (2 + i) (2 + i + 1 + j)
get_behind i rest j k low small =
    let front = flat_map (full (2 + i)) (range_with_len 2 i) in
    let behind = flat_map (full (2 + i)) (range_with_len (2 + i + 1) rest) in
    let place : i * 4 + (3 + (j * 4 + k)) ≡ length front + (3 + (j * 4 + k)) = omega (arith, full-length (2 + i) 2 i) in
    ap (λ xs. get_or xs (i * 4 + (3 + (j * 4 + k))) none) (row-parts i rest)
    ∙ (ap (λ n. get_or (front ++ (own (2 + i) ++ behind)) n none) place
    ∙ (get_or-append-add front (own (2 + i) ++ behind) (3 + (j * 4 + k)) none
    ∙ (get_or-append-add (own (2 + i)) behind (j * 4 + k) none
    ∙ (even-get (full (2 + i)) 4 (2 + i + 1) rest (λ b l h. refl) j k none low small ∙ full-get (2 + i) (2 + i + 1 + j) k small))))

-- the place in the row of the type at place i that a number has which counts four for each type
abbrev pub IsColumn : ℕ → ℕ → ℕ → Type 0
IsColumn i whole column = ((whole < 4 * i + 3) × (column ≡ whole)) ⊎ ((4 * i + 3 < whole) × (column + 1 ≡ whole))

-- what stands at this place
in_row : (i rest whole column : ℕ) → whole < 4 * (i + suc rest) → IsColumn i whole column
    → get_or (of_first Four (i + suc rest) (2 + i)) column none ≡ invariant (kind_at (whole % 4)) (2 + i) (2 + whole / 4)
in_row i rest whole column inside is =
    let j = whole / 4 in
    let k = whole % 4 in
    let parts : 4 * j + k ≡ whole = div-add-mod whole 4 in
    let small : k < 4 = mod-lt whole {m = 4} (omega arith) in
    ⊎_elim
    (λ (low : (whole < 4 * i + 3) × (column ≡ whole)).
    ⊎_elim
    (λ (before : j < i).
    let place : j * 4 + k ≡ column = omega (arith, low.1) in
    subst (λ n. get_or (of_first Four (i + suc rest) (2 + i)) n none ≡ invariant (kind_at k) (2 + i) (2 + j)) place (get_before i rest j k before small))
    (λ (not_before : i ≤ j).
    let same : i ≡ j = omega (arith, low.0) in
    let three : k < 3 = omega (arith, low.0) in
    let place : i * 4 + k ≡ column = omega (arith, low.1) in
    subst (λ m. get_or (of_first Four (i + suc rest) (2 + i)) column none ≡ invariant (kind_at k) (2 + i) (2 + m)) same
    (subst (λ n. get_or (of_first Four (i + suc rest) (2 + i)) n none ≡ invariant (kind_at k) (2 + i) (2 + i)) place (get_own i rest k three)))
    (cases_lt j i))
    (λ (high : (4 * i + 3 < whole) × (column + 1 ≡ whole)).
    let place : i * 4 + (3 + ((j - i - 1) * 4 + k)) ≡ column = omega (arith, high.0, high.1) in
    let type : 2 + i + 1 + (j - i - 1) ≡ 2 + j = omega (arith, high.0) in
    subst (λ m. get_or (of_first Four (i + suc rest) (2 + i)) column none ≡ invariant (kind_at k) (2 + i) m) type
    (subst (λ n. get_or (of_first Four (i + suc rest) (2 + i)) n none ≡ invariant (kind_at k) (2 + i) (2 + i + 1 + (j - i - 1))) place
    (get_behind i rest (j - i - 1) k (omega (arith, high.0)) small)))
    is

-- a place of a row is within it
column-below : (count i whole column : ℕ) → i < count → whole < 4 * count → IsColumn i whole column → column < 4 * count - 1
column-below count i whole column under inside is =
    ⊎_elim
    (λ (low : (whole < 4 * i + 3) × (column ≡ whole)). omega (arith, low.0, low.1))
    (λ (high : (4 * i + 3 < whole) × (column + 1 ≡ whole)). omega (arith, high.0, high.1))
    is

-- the candidate of a row and a place in it
pub four-at : (count i whole column : ℕ) → i < count → whole < 4 * count → IsColumn i whole column
    → slice_get (candidates_for Four count) (count + (i * (4 * count - 1) + column)) ≡ Some (invariant (kind_at (whole % 4)) (i + 2) (whole / 4 + 2))
four-at count i whole column under inside is =
    let row = 4 * count - 1 in
    let first = map (invariant AF 0) (types count) in
    let pairs = flat_map (of_first Four count) (types count) in
    let long : length first ≡ count = length-map-range_with_len (invariant AF 0) 2 count in
    let low : column < row = column-below count i whole column under inside is in
    let within : i * row + column < count * row = row-below i column count row under low in
    let total : length pairs ≡ count * row = even-length (of_first Four count) row 2 count (rows-even count) in
    let at_row : get_or pairs (i * row + column) none ≡ get_or (of_first Four count (2 + i)) column none =
    even-get (of_first Four count) row 2 count (rows-even count) i column none under low in
    let size : i + suc (count - i - 1) ≡ count = omega arith in
    let found : get_or (of_first Four count (2 + i)) column none ≡ invariant (kind_at (whole % 4)) (2 + i) (2 + whole / 4) =
    subst (λ n. get_or (of_first Four n (2 + i)) column none ≡ invariant (kind_at (whole % 4)) (2 + i) (2 + whole / 4)) size
    (in_row i (count - i - 1) whole column (omega arith) is) in
    let at_end : get_or (candidates_for Four count) (count + (i * row + column)) none ≡ get_or pairs (i * row + column) none =
    subst (λ n. get_or (candidates_for Four count) (n + (i * row + column)) none ≡ get_or pairs (i * row + column) none) long
    (get_or-append-add first pairs (i * row + column) none) in
    slice_get-get_or (candidates_for Four count) (count + (i * row + column)) none (omega (arith, length-candidates_for Four count, total, within))
    ∙ ap Some (at_end ∙ (at_row ∙ (found ∙ shape (kind_at (whole % 4)) i (whole / 4))))

-- a number past the first candidates, as a row, a number that counts four for each type, and a place in the row
pub record IsPlaced (count place : ℕ) : Type 0 where
  pub row : ℕ
  pub whole : ℕ
  pub column : ℕ
  pub under : row < count
  pub inside : whole < 4 * count
  pub is : IsColumn row whole column
  pub whole_place : place ≡ row * (4 * count - 1) + column

-- a row is not empty
row-positive : (count place : ℕ) → count + place < 4 * (count * count) → 0 < 4 * count - 1
row-positive zero place inside = absurd (omega arith)
row-positive (suc count) place inside = omega arith

-- the rows together
rows-total : (count : ℕ) → 0 < count → count + count * (4 * count - 1) ≡ 4 * (count * count)
rows-total count some =
    let more : 4 * count - 1 + 1 ≡ 4 * count = omega arith in
    let product : count * (4 * count - 1 + 1) ≡ count * (4 * count) = ap (λ n. count * n) more in
    omega (arith, product)

-- the row of a number and the place in it
pub row-of : (count place : ℕ) → count + place < 4 * (count * count) → (place / (4 * count - 1) < count) × (place % (4 * count - 1) < 4 * count - 1)
row-of count place inside =
    let some : 0 < 4 * count - 1 = row-positive count place inside in
    let total : count + count * (4 * count - 1) ≡ 4 * (count * count) = rows-total count (omega arith) in
    ((div-lt_iff_lt-mul {k = 4 * count - 1} {x = place} {y = count} some).1 (omega (arith, total)), mod-lt place some)

-- each number has them
pub placed : (count place : ℕ) → count + place < 4 * (count * count) → IsPlaced count place
placed count place inside =
    let row = 4 * count - 1 in
    let some : 0 < row = row-positive count place inside in
    let at : (place / row < count) × (place % row < row) = row-of count place inside in
    let whole : row * (place / row) + place % row ≡ place = div-add-mod place row in
    let product : place / row * row ≡ row * (place / row) = omega arith in
    ⊎_elim
    (λ (low : place % row < 4 * (place / row) + 3). record {
      row = place / row;
      whole = place % row;
      column = place % row;
      under = at.0;
      inside = omega (arith, at.1);
      is = inl (low, refl);
      whole_place = omega (arith, whole, product);
    })
    (λ (high : 4 * (place / row) + 3 ≤ place % row). record {
      row = place / row;
      whole = place % row + 1;
      column = place % row;
      under = at.0;
      inside = omega (arith, at.1);
      is = inr (omega arith, refl);
      whole_place = omega (arith, whole, product);
    })
    (cases_lt (place % row) (4 * (place / row) + 3))

-- the candidate at a number past the first ones
pub four-placed : (count place : ℕ) (p : IsPlaced count place)
    → slice_get (candidates_for Four count) (count + place) ≡ Some (invariant (kind_at (p.whole % 4)) (p.row + 2) (p.whole / 4 + 2))
four-placed count place p =
    subst (λ n. slice_get (candidates_for Four count) (count + n) ≡ Some (invariant (kind_at (p.whole % 4)) (p.row + 2) (p.whole / 4 + 2))) (sym p.whole_place)
    (four-at count p.row p.whole p.column p.under p.inside p.is)

-- no type is interrupted by itself
asked-four : (i whole column : ℕ) → IsColumn i whole column → kind_at (whole % 4) ≡ IB → (i + 2 ≡ whole / 4 + 2) → ⊥
asked-four i whole column is kind same =
    let k : whole % 4 ≡ 3 = kind_at-same (whole % 4) 3 (mod-lt whole {m = 4} (omega arith)) (omega arith) kind in
    let parts : 4 * (whole / 4) + whole % 4 ≡ whole = div-add-mod whole 4 in
    ⊎_elim
    (λ (low : (whole < 4 * i + 3) × (column ≡ whole)). omega (arith, low.0))
    (λ (high : (4 * i + 3 < whole) × (column + 1 ≡ whole)). omega (arith, high.0))
    is

-- a candidate of four kinds says that each trace has a type, or is of two types
pub four-shape : (count index : ℕ) (inv : Invariant) → slice_get (candidates_for Four count) index ≡ Some inv → IsFirst count inv ⊎ IsPair Four count inv
four-shape count index inv at =
    ⊎_elim
    (λ (low : index < count).
    subst (λ x. IsFirst count x ⊎ IsPair Four count x) (same_Some _ inv (sym (candidate-first Four count index low) ∙ at))
    (inl (record { kind = refl; a = refl; b_low = omega arith; b_high = omega arith })))
    (λ (past : count ≤ index).
    let inside : index < 4 * (count * count) = omega (arith, slice_get_within (candidates_for Four count) index inv at, length-four count) in
    let same : count + (index - count) ≡ index = omega arith in
    let p : IsPlaced count (index - count) = placed count (index - count) (omega arith) in
    let found : slice_get (candidates_for Four count) index ≡ Some (invariant (kind_at (p.whole % 4)) (p.row + 2) (p.whole / 4 + 2)) =
    subst (λ n. slice_get (candidates_for Four count) n ≡ Some (invariant (kind_at (p.whole % 4)) (p.row + 2) (p.whole / 4 + 2))) same (four-placed count (index - count) p) in
    subst (λ x. IsFirst count x ⊎ IsPair Four count x) (same_Some _ inv (sym found ∙ at))
    (inr (record {
      a_low = omega arith;
      a_high = omega (arith, p.under);
      b_low = omega arith;
      b_high = omega (arith, p.inside, div-add-mod p.whole 4);
      asked = asked-four p.row p.whole p.column p.is;
    })))
    (cases_lt index count)

-- a number that counts four for each type, by its parts
whole-parts : (j k : ℕ) → k < 4 → ((4 * j + k) / 4 ≡ j) × ((4 * j + k) % 4 ≡ k)
whole-parts j k small =
    let parts : 4 * ((4 * j + k) / 4) + (4 * j + k) % 4 ≡ 4 * j + k = div-add-mod (4 * j + k) 4 in
    let low : (4 * j + k) % 4 < 4 = mod-lt (4 * j + k) {m = 4} (omega arith) in
    (omega arith, omega arith)

-- the place of an invariant of two types
pub four-by_types : (count : ℕ) (inv : Invariant) (a b k column : ℕ) → a ≡ inv.a → b ≡ inv.b → kind_at k ≡ inv.kind → k < 4
    → 2 ≤ a → a < count + 2 → 2 ≤ b → b < count + 2 → IsColumn (a - 2) (4 * (b - 2) + k) column
    → slice_get (candidates_for Four count) (count + ((a - 2) * (4 * count - 1) + column)) ≡ Some inv
four-by_types count inv a b k column same_a same_b kind small a_low a_high b_low b_high is =
    let whole = 4 * (b - 2) + k in
    let parts = whole-parts (b - 2) k small in
    let found = four-at count (a - 2) whole column (omega arith) (omega arith) is in
    let first : a - 2 + 2 ≡ a = omega arith in
    let second : whole / 4 + 2 ≡ b = omega (arith, parts.0) in
    found
    ∙ (ap (λ n. Some (invariant (kind_at n) (a - 2 + 2) (whole / 4 + 2))) parts.1
    ∙ (ap (λ x. Some (invariant (kind_at k) x (whole / 4 + 2))) first
    ∙ (ap (λ x. Some (invariant (kind_at k) a x)) second ∙ same-invariant inv (kind_at k) a b kind same_a same_b)))

-- one place in a row has one number
column-same : (i m n column other : ℕ) → IsColumn i m column → IsColumn i n other → m ≡ n → column ≡ other
column-same i m n column other is also same =
    ⊎_elim
    (λ (low : (m < 4 * i + 3) × (column ≡ m)).
    ⊎_elim
    (λ (low_n : (n < 4 * i + 3) × (other ≡ n)). omega (arith, low.1, low_n.1))
    (λ (high_n : (4 * i + 3 < n) × (other + 1 ≡ n)). absurd (omega (arith, low.0, high_n.0)))
    also)
    (λ (high : (4 * i + 3 < m) × (column + 1 ≡ m)).
    ⊎_elim
    (λ (low_n : (n < 4 * i + 3) × (other ≡ n)). absurd (omega (arith, high.0, low_n.0)))
    (λ (high_n : (4 * i + 3 < n) × (other + 1 ≡ n)). omega (arith, high.1, high_n.1))
    also)
    is

-- two numbers past the first candidates at which one invariant stands
placed-same : (count m n : ℕ) (p : IsPlaced count m) (q : IsPlaced count n)
    → invariant (kind_at (p.whole % 4)) (p.row + 2) (p.whole / 4 + 2) ≡ invariant (kind_at (q.whole % 4)) (q.row + 2) (q.whole / 4 + 2) → m ≡ n
placed-same count m n p q e =
    let kind : p.whole % 4 ≡ q.whole % 4 =
    kind_at-same (p.whole % 4) (q.whole % 4) (mod-lt p.whole {m = 4} (omega arith)) (mod-lt q.whole {m = 4} (omega arith)) (ap (λ x. x.kind) e) in
    let row_2 : p.row + 2 ≡ q.row + 2 = ap (λ x. x.a) e in
    let row : p.row ≡ q.row = omega arith in
    let column_2 : p.whole / 4 + 2 ≡ q.whole / 4 + 2 = ap (λ x. x.b) e in
    let whole : p.whole ≡ q.whole = omega (arith, div-add-mod p.whole 4, div-add-mod q.whole 4) in
    let column : p.column ≡ q.column =
    column-same p.row p.whole q.whole p.column q.column p.is (subst (λ i. IsColumn i q.whole q.column) (sym row) q.is) whole in
    let rows : p.row * (4 * count - 1) ≡ q.row * (4 * count - 1) = ap (λ x. x * (4 * count - 1)) row in
    omega (arith, p.whole_place, q.whole_place)

-- no invariant stands at two places among the candidates of four kinds
pub four-differ : (count j k : ℕ) (inv : Invariant) → slice_get (candidates_for Four count) j ≡ Some inv → slice_get (candidates_for Four count) k ≡ Some inv → j ≡ k
four-differ count j k inv at_j at_k =
    let inside : (n : ℕ) → slice_get (candidates_for Four count) n ≡ Some inv → n < 4 * (count * count) =
    λ n at. omega (arith, slice_get_within (candidates_for Four count) n inv at, length-four count) in
    let first : (n : ℕ) → n < count → slice_get (candidates_for Four count) n ≡ Some inv → invariant AF 0 (n + 2) ≡ inv =
    λ n low at. same_Some _ inv (sym (candidate-first Four count n low) ∙ at) in
    let place : (n : ℕ) → count ≤ n → slice_get (candidates_for Four count) n ≡ Some inv → IsPlaced count (n - count) =
    λ n past at. placed count (n - count) (let l : n < 4 * (count * count) = inside n at in omega arith) in
    let parts : (n : ℕ) (past : count ≤ n) (at : slice_get (candidates_for Four count) n ≡ Some inv)
    → invariant (kind_at ((place n past at).whole % 4)) ((place n past at).row + 2) ((place n past at).whole / 4 + 2) ≡ inv =
    λ n past at.
    let same : count + (n - count) ≡ n = omega arith in
    same_Some _ inv (sym (four-placed count (n - count) (place n past at)) ∙ (ap (λ m. slice_get (candidates_for Four count) m) same ∙ at)) in
    ⊎_elim
    (λ (low_j : j < count).
    ⊎_elim
    (λ (low_k : k < count). let e : j + 2 ≡ k + 2 = ap (λ x. x.b) (first j low_j at_j ∙ sym (first k low_k at_k)) in omega arith)
    (λ (past_k : count ≤ k). let e : 0 ≡ (place k past_k at_k).row + 2 = ap (λ x. x.a) (first j low_j at_j ∙ sym (parts k past_k at_k)) in absurd (omega arith))
    (cases_lt k count))
    (λ (past_j : count ≤ j).
    ⊎_elim
    (λ (low_k : k < count). let e : 0 ≡ (place j past_j at_j).row + 2 = ap (λ x. x.a) (first k low_k at_k ∙ sym (parts j past_j at_j)) in absurd (omega arith))
    (λ (past_k : count ≤ k).
    let same : j - count ≡ k - count = placed-same count (j - count) (k - count) (place j past_j at_j) (place k past_k at_k) (parts j past_j at_j ∙ sym (parts k past_k at_k)) in
    omega arith)
    (cases_lt k count))
    (cases_lt j count)
