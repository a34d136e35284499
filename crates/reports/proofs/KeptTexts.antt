-- What is kept of the texts of events, as the table and its bytes grow.
use Rattle.std.proofs.Common.{◌≡◌, ℕ, zero, suc, ◌+◌, ◌-◌, ◌<◌, ◌≤◌, List, [], ◌∷◌, ◌++◌, length, length-append, length-drop, take, drop, set, slice_get, slice_index_or, slice_range, Option, Some, None, IfSome, sym, refl, ap, ◌∙◌, subst, arith}
use Rattle.std.proofs.lemmas.List.{take-append-le, drop-append-le, drop_at, take_all}
use Rattle.std.proofs.lemmas.Option.{slice_get_read}
use Rattle.reports.specs.declared.steps.Kept.{Kept}
use Rattle.reports.specs.Paths.{step_text}
use Rattle.reports.specs.Steps.{IsKept, AreKept}

-- what the table has at a place is kept
pub kept-here : (types : List (List ℕ)) (kept : List (Option Kept)) (bytes : List ℕ) (table : List (Option Kept)) (id : ℕ) (entry : Option Kept) (k : Kept)
    → AreKept types kept bytes → table ≡ kept → id < length table → entry ≡ slice_index_or table id entry → entry ≡ Some k → IsKept types bytes id (Some k)
kept-here types kept bytes table id entry k all same inside here is =
    subst (IsKept types bytes id) is (all id entry (ap (λ (xs : List (Option Kept)). slice_get xs id) (sym same) ∙ slice_get_read table (length table) id entry refl inside here))

-- a part of a list is the same part of a longer one
range-more : (xs ys : List ℕ) (start end : ℕ) → start ≤ end → end ≤ length xs → slice_range (xs ++ ys) start end ≡ slice_range xs start end
range-more xs ys start end order inside =
    ap (take (end - start)) (drop-append-le start xs ys (omega (arith, order, inside)))
    ∙ take-append-le (end - start) (drop start xs) ys (omega (arith, length-drop start xs))

-- what is put at the end of a list is its last part
range-last : (xs ys : List ℕ) (start end : ℕ) → start ≡ length xs → end ≡ length (xs ++ ys) → slice_range (xs ++ ys) start end ≡ ys
range-last xs ys start end at till =
    ap (take (end - start)) (drop_at xs ys start (sym at)) ∙ take_all (end - start) ys (omega (arith, length-append xs ys))

-- what is kept stays where bytes are put at the end
kept-more : (types : List (List ℕ)) (bytes more : List ℕ) (id : ℕ) (entry : Option Kept) → IsKept types bytes id entry → IsKept types (bytes ++ more) id entry
kept-more types bytes more id None held = held
kept-more types bytes more id (Some k) held = (
  omega (arith, length-append bytes more, held.0),
  range-more bytes more k.start (k.start + k.count) (omega arith) held.0 ∙ held.1,
  held.2,
)

-- what holds of all entries holds of all after one is set to another of which it holds
set-all : (P : ℕ → Option Kept → Type 0) (xs : List (Option Kept)) (at : ℕ) (new : Option Kept) → ((i : ℕ) (x : Option Kept) → slice_get xs i ≡ Some x → P i x) → P at new
    → (i : ℕ) (x : Option Kept) → slice_get (set xs at new) i ≡ Some x → P i x
set-all P [] at new all here i x is = all i x is
set-all P (y ∷ ys) zero new all here zero x is = subst (λ (o : Option (Option Kept)). IfSome o (P 0)) is here
set-all P (y ∷ ys) zero new all here (suc i) x is = all (suc i) x is
set-all P (y ∷ ys) (suc at) new all here zero x is = all zero x is
set-all P (y ∷ ys) (suc at) new all here (suc i) x is = set-all (λ k. P (suc k)) ys at new (λ k z at_k. all (suc k) z at_k) here i x is

-- one text more is kept where its bytes are put at the end, and in its entry if it is short
pub keep-more : (types : List (List ℕ)) (kept : List (Option Kept)) (bytes text new short : List ℕ) (at number start count : ℕ) → AreKept types kept bytes → new ≡ bytes ++ text
    → start ≡ length bytes → count ≡ length text → text ≡ step_text types (number, at) → (length text ≤ 16 → take (length text) short ≡ text)
    → AreKept types (set kept at (Some record { number = number; short = short; start = start; count = count })) new
keep-more types kept bytes text new short at number start count all put from size is in_place =
    let long : start + count ≡ length new = omega (arith, from, size, ap length put, length-append bytes text) in
    let last : slice_range new start (start + count) ≡ text = ap (λ (xs : List ℕ). slice_range xs start (start + count)) put ∙ range-last bytes text start (start + count) from (long ∙ ap length put) in
    set-all (IsKept types new) kept at (Some record { number = number; short = short; start = start; count = count })
    (λ i x at_i. subst (λ (xs : List ℕ). IsKept types xs i x) (sym put) (kept-more types bytes text i x (all i x at_i))) (
      omega (arith, long),
      last ∙ is,
      λ few. ap (λ n. take n short) size ∙ (in_place (omega (arith, few, size)) ∙ is),
    )
