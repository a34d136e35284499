-- A table whose masks are written late.
use Rattle.std.proofs.Common.{◌≡◌, ℕ, ◌+◌, ◌<◌, ◌≤◌, Bool, true, false, ◌||◌, List, [], length, drop, replicate, ap, ap₂, ◌∙◌, sym, arith, inl, inr}
use Rattle.std.proofs.lemmas.Bool.{cases_eq, cases_lt}
use Rattle.std.proofs.lemmas.List.{ext_get_or, get_or-drop, get_or-replicate, get_or_past, length-drop, length-replicate}
use Rattle.bit_rows.specs.Tables.{row_at, is_set, HasShape}
use Rattle.invariants.specs.declared.Invariant.{Invariant}
use Rattle.clashes.specs.Marks.{Marks, on}
use Rattle.clashes.specs.Layout.{ids_from, row_count, marks_in, evens, odds, IsKept, IsLaid}
use Rattle.clashes.proofs.Bits.{IsPropagated, IsCleared, none_set}
use Rattle.clashes.proofs.Laid.{KeepsMasks, laid_kept}

-- where the masks are written, the table is laid out
pub laid_of : (invs : List Invariant) (others : ℕ) (masked : Bool) (T : List (List Bool)) → masked ≡ true → IsKept invs others masked T → IsLaid invs others T
laid_of invs others masked T e k =
    record { shape = k.shape; few = k.few; low = k.low; named = k.named; columns = k.columns e }

-- a table that is laid out has its masks
pub kept_of : (invs : List Invariant) (others : ℕ) (masked : Bool) (T : List (List Bool)) → masked ≡ true → IsLaid invs others T → IsKept invs others masked T
kept_of invs others masked T e l =
    record {
      shape = l.shape;
      few = l.few;
      low = l.low;
      named = l.named;
      columns = λ hit. l.columns;
      blank = λ miss. absurd (let z : true ≡ false = sym e ∙ miss in cc);
    }

-- nothing is on in the table
abbrev pub IsBlankTable : List (List Bool) → Type 0
IsBlankTable T = (r k : ℕ) → on T r k ≡ false

-- nothing is on in a table of rows of nothing but false
pub nothing_on : (T : List (List Bool)) (n bits r k : ℕ) → T ≡ replicate n (replicate bits false) → on T r k ≡ false
nothing_on T n bits r k e =
    ap (λ (t : List (List Bool)). on t r k) e ∙ elim (cases_lt r n) [
      | inl below ↦ ap (λ (row : List Bool). is_set row k) (get_or-replicate n r (replicate bits false) [] below) ∙ none_set bits k
      | inr past ↦ ap (λ (row : List Bool). is_set row k) (get_or_past (replicate n (replicate bits false)) r [] (omega (arith, past, length-replicate n (replicate bits false))))
    ]

-- where the masks stay, and nothing comes on in a table in which nothing is on, the table is kept
pub kept_more : (invs : List Invariant) (others : ℕ) (masked : Bool) (T new : List (List Bool)) → KeepsMasks others T new → (IsBlankTable T → IsBlankTable new) → IsKept invs others masked T → IsKept invs others masked new
kept_more invs others masked T new h off k =
    record {
      shape = h.shape (row_count others) (length invs) k.shape;
      few = k.few;
      low = k.low;
      named = k.named;
      columns = λ hit. (laid_kept invs others T new h (laid_of invs others masked T hit k)).columns;
      blank = λ miss. off (k.blank miss);
    }

-- nothing comes on where a row is cleared
pub cleared_blank : (T new : List (List Bool)) (r : ℕ) → IsCleared T new r → IsBlankTable T → IsBlankTable new
cleared_blank T new r c blank s k =
    elim (cases_eq s r) [
      | inl e ↦ ap (λ (x : ℕ). on new x k) e ∙ c.here k
      | inr ne ↦ c.others s k ne ∙ blank s k
    ]

-- nothing comes on where a row takes up another, if nothing is on in that one
pub taken_blank : (T new : List (List Bool)) (to from : ℕ) → IsPropagated T new to (on T from) → IsBlankTable T → IsBlankTable new
taken_blank T new to from p blank s k =
    elim (cases_eq s to) [
      | inl e ↦ ap (λ (x : ℕ). on new x k) e ∙ p.here k ∙ ap₂ (λ (x y : Bool). x || y) (blank to k) (blank from k)
      | inr ne ↦ p.others s k ne ∙ blank s k
    ]

-- rows from one on that have the same bits are the same
pub same_from : (T new : List (List Bool)) (n bits from : ℕ) → HasShape T n bits → HasShape new n bits → ((r k : ℕ) → from ≤ r → on new r k ≡ on T r k) → drop from new ≡ drop from T
same_from T new n bits from s t h =
    let long : length (drop from new) ≡ length (drop from T) = omega (arith, length-drop from new, length-drop from T, s.count, t.count) in
    ext_get_or [] (drop from new) (drop from T) long
    (λ i l.
    let low : from + i < n = omega (arith, l, length-drop from new, t.count) in
    let row : row_at new (from + i) ≡ row_at T (from + i) =
    ext_get_or false (row_at new (from + i)) (row_at T (from + i)) (t.long (from + i) low ∙ sym (s.long (from + i) low)) (λ k m. h (from + i) k (omega arith)) in
    get_or-drop from new i [] ∙ row ∙ sym (get_or-drop from T i []))

-- the marks are those of the rows of ids
pub same_marks : (invs : List Invariant) (others : ℕ) (T new : List (List Bool)) → drop (ids_from others) new ≡ drop (ids_from others) T → marks_in invs others new ≡ marks_in invs others T
same_marks invs others T new e =
    ap (λ (rows : List (List Bool)). let marks : Marks = record { invs = invs; fores = evens rows; backs = odds rows } in marks) e
