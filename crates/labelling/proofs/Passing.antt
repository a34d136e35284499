-- What goes from row to row.
use Rattle.std.proofs.Common.{◌≡◌, ◌≢◌, ◌↔◌, ℕ, ◌+◌, ◌<◌, ◌≤◌, Bool, true, false, not, ◌&&◌, ◌||◌, cond, List, [], ◌∷◌, length, set, sum_by, count_by, refl, sym, ap, ◌∙◌, subst₂, replicate, arith, inl, inr}
use Rattle.std.specs.Bool.{OnTrue, OnFalse}
use Rattle.std.proofs.lemmas.List.{get_or-set_same, get_or-set_other, set-get_or, get_or-replicate, length-replicate, get_or_past}
use Rattle.std.proofs.lemmas.List.Sums.{sum_by-set, sum_by-cons}
use Rattle.std.proofs.lemmas.Bool.{cases_eq, cases_lt, OnTrue_at, OnFalse_at, false≢true, or_cases, and_parts, or_left, or_right, and_from}
use Rattle.std.proofs.lemmas.Simd.{length-zip2}
use Rattle.bit_rows.specs.Tables.{row_at, is_set, HasShape, KeepsShape, either, both, without}
use Rattle.bit_rows.proofs.Done.{is_set-zip2}
use Rattle.labelling.specs.Carried.{off_count, IsPassed}
use Rattle.limits.specs.declared.TheConstants.{TERMINAL}
use Rattle.labelling.specs.declared.layout.TheConstants.{STATES, BROKEN_ROW}
use Rattle.labelling.specs.Layout.{is_on, label_row, bad_row}

-- how many truth values of a row are false
abbrev pub offs : List Bool → ℕ
offs row = count_by (λ b. not b) row

-- what goes from a row through a mask
abbrev pub through : Bool → List Bool → List Bool → List Bool
through true = without
through false = both

-- a truth value gets nothing new from itself
pub absorbed : (b x : Bool) → b ≡ (b || (b && x))
absorbed true x = refl
absorbed false x = refl

offs_cons : (x : Bool) (xs : List Bool) → offs (x ∷ xs) ≡ cond (not x) 1 0 + offs xs
offs_cons x xs = sum_by-cons (λ b. cond (not b) 1 0) x xs

-- a row with more of its values true has fewer that are false, or is the same
either_fewer : (xs ys : List Bool) → length xs ≡ length ys → (offs (either xs ys) ≤ offs xs) × (offs xs ≤ offs (either xs ys) → either xs ys ≡ xs)
either_fewer [] ys e = (omega arith, λ _. refl)
either_fewer (x ∷ xs) [] e = absurd (omega arith)
either_fewer (true ∷ xs) (y ∷ ys) e =
    let h = either_fewer xs ys (omega arith) in
    let a : offs (true ∷ xs) ≡ 0 + offs xs = offs_cons true xs in
    let b : offs (either (true ∷ xs) (y ∷ ys)) ≡ 0 + offs (either xs ys) = offs_cons true (either xs ys) in
    (omega (arith, h.0, a, b), λ le. ap (λ (t : List Bool). true ∷ t) (h.1 (omega (arith, le, a, b))))
either_fewer (false ∷ xs) (true ∷ ys) e =
    let h = either_fewer xs ys (omega arith) in
    let a : offs (false ∷ xs) ≡ 1 + offs xs = offs_cons false xs in
    let b : offs (either (false ∷ xs) (true ∷ ys)) ≡ 0 + offs (either xs ys) = offs_cons true (either xs ys) in
    (omega (arith, h.0, a, b), λ le. absurd (omega (arith, le, h.0, a, b)))
either_fewer (false ∷ xs) (false ∷ ys) e =
    let h = either_fewer xs ys (omega arith) in
    let a : offs (false ∷ xs) ≡ 1 + offs xs = offs_cons false xs in
    let b : offs (either (false ∷ xs) (false ∷ ys)) ≡ 1 + offs (either xs ys) = offs_cons false (either xs ys) in
    (omega (arith, h.0, a, b), λ le. ap (λ (t : List Bool). false ∷ t) (h.1 (omega (arith, le, a, b))))

-- a row in its own place
set_same : (table : List (List Bool)) (r : ℕ) (row : List Bool) → row ≡ row_at table r → set table r row ≡ table
set_same table r row e = ap (λ (x : List Bool). set table r x) e ∙ set-get_or table r []

through_at : (back : Bool) (xs ys : List Bool) (k : ℕ) → length xs ≡ length ys → is_set (through back xs ys) k ≡ (is_set xs k && cond back (not (is_set ys k)) (is_set ys k))
through_at true xs ys k e = is_set-zip2 (λ x y. x && not y) refl xs ys k e
through_at false xs ys k e = is_set-zip2 (λ x y. x && y) refl xs ys k e

length-through : (back : Bool) (xs ys : List Bool) → length xs ≡ length ys → length (through back xs ys) ≡ length xs
length-through true xs ys e = length-zip2 (λ x y. x && not y) xs ys e
length-through false xs ys e = length-zip2 (λ x y. x && y) xs ys e

-- a row passes to itself nothing
pub passed_none : (table : List (List Bool)) (from to mask : ℕ) (back : Bool) → from ≡ to → IsPassed table table from to mask back false
passed_none table from to mask back same = record {
  shape = λ rows bits h. h;
  others = λ r ne. refl;
  here = λ k.
      absorbed (is_on table to k) (cond back (not (is_on table mask k)) (is_on table mask k))
      ∙ ap (λ (r : ℕ). is_on table to k || (is_on table r k && cond back (not (is_on table mask k)) (is_on table mask k))) (sym same);
  fewer = omega arith;
  still = λ _. refl;
  falls = λ e. absurd (false≢true e);
}

-- a row that takes up what another passes has got it, and the flag says whether that is more
pub passed : (old new : List (List Bool)) (from to mask : ℕ) (back changed : Bool)
    → HasShape old (length old) (length (row_at old to)) → from < length old → to < length old → mask < length old
    → new ≡ set old to (either (row_at old to) (through back (row_at old from) (row_at old mask)))
    → KeepsShape old new → OnFalse changed (new ≡ old) → OnTrue changed (new ≢ old) → IsPassed old new from to mask back changed
passed old new from to mask back changed shape in_from in_to in_mask is keeps stays changes =
    let a : List Bool = row_at old to in
    let b : List Bool = row_at old from in
    let m : List Bool = row_at old mask in
    let long : length b ≡ length m = shape.long from in_from ∙ sym (shape.long mask in_mask) in
    let long_a : length a ≡ length (through back b m) = sym (length-through back b m long ∙ shape.long from in_from) in
    let row : List Bool = either a (through back b m) in
    let h : (offs row ≤ offs a) × (offs a ≤ offs row → row ≡ a) = either_fewer a (through back b m) long_a in
    let sums : sum_by offs (set old to row) + offs a ≡ sum_by offs old + offs row = sum_by-set offs old to row [] in_to in
    let e : off_count new ≡ sum_by offs (set old to row) = ap off_count is in
    record {
      shape = keeps;
      others = λ r ne. ap (λ (t : List (List Bool)). row_at t r) is ∙ get_or-set_other old to r row [] ne;
      here = λ k.
          ap (λ (t : List (List Bool)). is_on t to k) is ∙ ap (λ (r : List Bool). is_set r k) (get_or-set_same old to row [] in_to)
          ∙ is_set-zip2 (λ x y. x || y) refl a (through back b m) k long_a
          ∙ ap (λ (x : Bool). is_set a k || x) (through_at back b m k long);
      fewer = omega (arith, h.0, sums, e);
      still = λ off. OnFalse_at off stays;
      falls = λ on. elim (cases_lt (offs row) (offs a)) [
        | inl less ↦ omega (arith, less, sums, e)
        | inr more ↦ absurd (OnTrue_at on changes (is ∙ set_same old to row (h.1 more)))
      ];
    }

-- what a row has in common with itself is the row
both_same : (xs : List Bool) → both xs xs ≡ xs
both_same [] = refl
both_same (true ∷ xs) = ap (λ (t : List Bool). true ∷ t) (both_same xs)
both_same (false ∷ xs) = ap (λ (t : List Bool). false ∷ t) (both_same xs)

-- a row that takes up another one has got what that one passes through itself
pub taken_up : (old new : List (List Bool)) (from to : ℕ) (changed : Bool)
    → HasShape old (length old) (length (row_at old to)) → from < length old → to < length old → new ≡ set old to (either (row_at old to) (row_at old from))
    → KeepsShape old new → OnFalse changed (new ≡ old) → OnTrue changed (new ≢ old) → IsPassed old new from to from false changed
taken_up old new from to changed shape in_from in_to is keeps stays changes =
    passed old new from to from false changed shape in_from in_to in_from
    (is ∙ ap (λ (row : List Bool). set old to (either (row_at old to) row)) (sym (both_same (row_at old from)))) keeps stays changes

-- a row of nothing but false has nothing on
pub blank : (n k : ℕ) → is_set (replicate n false) k ≡ false
blank n k = elim (cases_lt k n) [
  | inl below ↦ get_or-replicate n k false false below
  | inr past ↦ get_or_past (replicate n false) k false (omega (arith, length-replicate n false))
]

-- nothing is on in the row that is cleared
pub cleared_here : (old new : List (List Bool)) (r k : ℕ) → r < length old → new ≡ set old r (replicate (length (row_at old r)) false) → is_on new r k ≡ false
cleared_here old new r k within is =
    ap (λ (t : List (List Bool)). is_on t r k) is ∙ ap (λ (x : List Bool). is_set x k) (get_or-set_same old r (replicate (length (row_at old r)) false) [] within)
    ∙ blank (length (row_at old r)) k

-- a row that is not cleared stays
pub cleared_other : (old new : List (List Bool)) (row r : ℕ) → new ≡ set old row (replicate (length (row_at old row)) false) → r ≢ row → row_at new r ≡ row_at old r
cleared_other old new row r is ne = ap (λ (t : List (List Bool)). row_at t r) is ∙ get_or-set_other old row r (replicate (length (row_at old row)) false) [] ne

-- with one more row cleared, the rows from the first on are blank
pub cleared_blank : (old new : List (List Bool)) (first row : ℕ) → row < length old → new ≡ set old row (replicate (length (row_at old row)) false)
    → ((r k : ℕ) → first ≤ r → r < row → is_on old r k ≡ false) → (r k : ℕ) → first ≤ r → r < row + 1 → is_on new r k ≡ false
cleared_blank old new first row within is before r k from below = elim (cases_eq r row) [
  | inl same ↦ ap (λ (x : ℕ). is_on new x k) same ∙ cleared_here old new row k within is
  | inr ne ↦ ap (λ (x : List Bool). is_set x k) (cleared_other old new row r is ne) ∙ before r k from (omega (arith, below, ne))
]

-- a table has the shape that its own numbers of rows and places give
pub own_shape : (table : List (List Bool)) (n m r : ℕ) → HasShape table n m → r < n → HasShape table (length table) (length (row_at table r))
own_shape table n m r h below = subst₂ (λ (x y : ℕ). HasShape table x y) (sym h.count) (sym (h.long r below)) h

-- some state below a bound is found at TERMINAL, and bad
abbrev pub IsBadBelow : ℕ → List (List Bool) → ℕ → ℕ → Type 0
IsBadBelow bound table k low =
    (s : ℕ) × (s < low) × (is_on table (label_row bound TERMINAL s) k ≡ true) × (is_on table (bad_row s) k ≡ true)

-- before any state is looked at, nothing is noted
pub bad_none : (bound : ℕ) (old new : List (List Bool)) (k : ℕ) → is_on new BROKEN_ROW k ≡ false → (is_on new BROKEN_ROW k ≡ true) ↔ IsBadBelow bound old k 0
bad_none bound old new k off = (λ on. absurd (false≢true (sym off ∙ on)), λ h. absurd (omega (arith, h.1)))

-- with one more state looked at, those are noted for which one so far is found at TERMINAL, and bad
pub bad_more : (bound : ℕ) (first old new : List (List Bool)) (s k : ℕ) (changed : Bool) → s < STATES
    → ((r : ℕ) → r ≢ BROKEN_ROW → row_at old r ≡ row_at first r) → IsPassed old new (label_row bound TERMINAL s) BROKEN_ROW (bad_row s) false changed
    → ((is_on old BROKEN_ROW k ≡ true) ↔ IsBadBelow bound first k s) → (is_on new BROKEN_ROW k ≡ true) ↔ IsBadBelow bound first k (s + 1)
bad_more bound first old new s k changed low others h before =
    let label : is_on old (label_row bound TERMINAL s) k ≡ is_on first (label_row bound TERMINAL s) k = ap (λ (x : List Bool). is_set x k) (others (label_row bound TERMINAL s) (λ e. absurd (omega (arith, e)))) in
    let bad : is_on old (bad_row s) k ≡ is_on first (bad_row s) k = ap (λ (x : List Bool). is_set x k) (others (bad_row s) (λ e. absurd (omega (arith, e, low)))) in (
      λ on. elim (or_cases (is_on old BROKEN_ROW k) (is_on old (label_row bound TERMINAL s) k && is_on old (bad_row s) k) (sym (h.here k) ∙ on)) [
        | inl was ↦ let w = before.0 was in (w.0, (let l : w.0 < s = w.1 in omega arith), w.2, w.3)
        | inr now ↦
            let b = and_parts (is_on old (label_row bound TERMINAL s) k) (is_on old (bad_row s) k) now in
            (s, omega arith, sym label ∙ b.0, sym bad ∙ b.1)
      ],
      λ w. h.here k ∙ elim (cases_eq w.0 s) [
        | inl same ↦
            or_right (is_on old BROKEN_ROW k) (is_on old (label_row bound TERMINAL s) k && is_on old (bad_row s) k)
            (and_from (is_on old (label_row bound TERMINAL s) k) (is_on old (bad_row s) k)
            (label ∙ ap (λ (x : ℕ). is_on first (label_row bound TERMINAL x) k) (sym same) ∙ w.2) (bad ∙ ap (λ (x : ℕ). is_on first (bad_row x) k) (sym same) ∙ w.3))
        | inr ne ↦
            or_left (is_on old BROKEN_ROW k) (is_on old (label_row bound TERMINAL s) k && is_on old (bad_row s) k)
            (before.1 (w.0, (let l : w.0 < s + 1 = w.1 in omega (arith, l, ne)), w.2, w.3))
      ],
    )
