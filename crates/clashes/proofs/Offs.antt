-- How many bits are off, and that bits that are added make these fewer.
use Rattle.std.proofs.Common.{◌≡◌, ◌≢◌, ℕ, suc, zero, ◌+◌, ◌-◌, ◌<◌, ◌≤◌, ◌⊎◌, Bool, true, false, ◌||◌, List, [], ◌∷◌, length, set, drop, refl, sym, ap, ◌∙◌, arith, inl, inr}
use Rattle.std.proofs.lemmas.List.{set-get_or, drop-set-add, length-drop, get_or-drop}
use Rattle.std.proofs.lemmas.Bool.{cases_Bool, OnTrue_at, OnFalse_at}
use Rattle.std.specs.Bool.{OnTrue, OnFalse}
use Rattle.bit_rows.specs.Tables.{row_at, either}
use Rattle.clashes.specs.Changes.{off_in_row, off}
use Rattle.clashes.specs.Layout.{evens, odds}

-- a row with bits added is the same or has fewer off
pub either_cases : (xs ys : List Bool) → length xs ≡ length ys → (either xs ys ≡ xs) ⊎ (off_in_row (either xs ys) < off_in_row xs)
either_cases [] ys e = inl refl
either_cases (x ∷ xs) [] e = absurd (omega arith)
either_cases (true ∷ xs) (y ∷ ys) e =
    elim (either_cases xs ys (omega arith)) [
      | inl same ↦ inl (ap (λ (r : List Bool). true ∷ r) same)
      | inr less ↦ inr (omega arith)
    ]
either_cases (false ∷ xs) (false ∷ ys) e =
    elim (either_cases xs ys (omega arith)) [
      | inl same ↦ inl (ap (λ (r : List Bool). false ∷ r) same)
      | inr less ↦ inr (omega arith)
    ]
either_cases (false ∷ xs) (true ∷ ys) e =
    elim (either_cases xs ys (omega arith)) [
      | inl same ↦ inr (let k : off_in_row (either xs ys) ≡ off_in_row xs = ap off_in_row same in omega arith)
      | inr less ↦ inr (omega arith)
    ]

-- how many bits are off where one row is another
pub off_set : (T : List (List Bool)) (to : ℕ) (row : List Bool) → to < length T → off (set T to row) + off_in_row (row_at T to) ≡ off T + off_in_row row
off_set [] to row l = absurd (omega arith)
off_set (r ∷ T) zero row l = omega arith
off_set (r ∷ T) (suc to) row l =
    let k : off (set T to row) + off_in_row (row_at T to) ≡ off T + off_in_row row = off_set T to row (omega arith) in
    omega arith

-- how many bits are off in every other row, and in the others
pub off_split : (rows : List (List Bool)) → off (evens rows) + off (odds rows) ≡ off rows
off_split [] = refl
off_split (x ∷ []) = omega arith
off_split (x ∷ y ∷ rows) = let k : off (evens rows) + off (odds rows) ≡ off rows = off_split rows in omega arith

-- what one addition of bits tells: the number of bits that are off from row n on
pub record IsTold (n : ℕ) (old new : List (List Bool)) (changed : Bool) : Type 0 where
  pub same : changed ≡ false → new ≡ old
  pub fewer : changed ≡ true → off (drop n new) < off (drop n old)

-- where bits are added, no more of them are off than before
pub told_most : (n : ℕ) (old new : List (List Bool)) (changed : Bool) → IsTold n old new changed → off (drop n new) ≤ off (drop n old)
told_most n old new changed t =
    elim (cases_Bool changed) [
      | inl hit ↦ let f : off (drop n new) < off (drop n old) = t.fewer hit in omega arith
      | inr miss ↦ let e : off (drop n new) ≡ off (drop n old) = ap (λ (x : List (List Bool)). off (drop n x)) (t.same miss) in omega arith
    ]

-- two additions of bits tell, one after the other, whether either changed any
pub told_join : (n : ℕ) (a b c : List (List Bool)) (x y : Bool) → IsTold n a b x → IsTold n b c y → IsTold n a c (x || y)
told_join n a b c true y t u =
    record {
      same = λ e. absurd (let z : true ≡ false = e in cc);
      fewer = λ e. let f : off (drop n b) < off (drop n a) = t.fewer refl in
          let m : off (drop n c) ≤ off (drop n b) = told_most n b c y u in omega arith;
    }
told_join n a b c false y t u =
    record {
      same = λ e. u.same e ∙ t.same refl;
      fewer = λ e. let f : off (drop n c) < off (drop n b) = u.fewer e in
          let m : off (drop n b) ≤ off (drop n a) = told_most n a b false t in omega arith;
    }

-- an addition to a row from n on tells whether fewer bits are off
pub told_behind : (n : ℕ) (T new : List (List Bool)) (to : ℕ) (xs : List Bool) (changed : Bool) → n ≤ to → to < length T
    → new ≡ set T to (either (row_at T to) xs) → length (row_at T to) ≡ length xs → OnFalse changed (new ≡ T) → OnTrue changed (new ≢ T) → IsTold n T new changed
told_behind n T new to xs changed l m e long f t =
    let row : List Bool = either (row_at T to) xs in
    let i : ℕ = to - n in
    let at : n + i ≡ to = omega arith in
    record {
      same = λ miss. OnFalse_at miss f;
      fewer = λ hit.
          let d : off_in_row row < off_in_row (row_at T to) = elim (either_cases (row_at T to) xs long) [
            | inl same ↦ absurd (OnTrue_at hit t (e ∙ ap (λ (r : List Bool). set T to r) same ∙ set-get_or T to []))
            | inr less ↦ less
          ] in
          let a : off (drop n new) ≡ off (set (drop n T) i row) = ap (λ (x : List (List Bool)). off (drop n x)) e ∙ ap (λ (x : ℕ). off (drop n (set T x row))) (sym at) ∙ ap off (drop-set-add n T i row) in
          let b : off (set (drop n T) i row) + off_in_row (row_at (drop n T) i) ≡ off (drop n T) + off_in_row row = off_set (drop n T) i row (omega (arith, length-drop n T)) in
          let c : off_in_row (row_at (drop n T) i) ≡ off_in_row (row_at T to) = ap off_in_row (get_or-drop n T i [] ∙ ap (row_at T) at) in
          omega arith;
    }
