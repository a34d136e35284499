-- The labels of digits, tested all at once and then put in place.
use Rattle.std.proofs.Common.{◌≡◌, ℕ, ◌-◌, ◌≤◌, List, [], ◌∷◌, Some, None, true, nat_le, map, refl, inl, inr}
use Rattle.std.proofs.lemmas.Bool.{le-leb}
use Rattle.std.proofs.lemmas.Bool.Decides.{leb_tells}
use Rattle.std.proofs.lemmas.List.Elements.{recursion_from_All, All-from_recursion}
use Rattle.std.specs.List.{All, AllByRecursion, list_all}
use Rattle.invariants.specs.Labels.{IsDigit, IsLabel}
use Rattle.model_file.specs.Entries.{label_of, labels_of}

label-is : (byte : ℕ) → IsDigit byte → label_of byte ≡ Some (byte - 48)
label-is byte d =
    let l : 48 ≤ byte = d.0 in
    let h : byte ≤ 55 = d.1 in
    rw (le-leb 48 byte l, le-leb byte 55 h) refl

all-labels : (bytes : List ℕ) → AllByRecursion IsDigit bytes → labels_of bytes ≡ Some (map (λ byte. byte - 48) bytes)
all-labels [] a = refl
all-labels (byte ∷ bytes) a = rw (label-is byte a.0, all-labels bytes a.1) refl

-- digits that all are labels
pub labels_are : (bytes : List ℕ) → All IsDigit bytes → labels_of bytes ≡ Some (map (λ byte. byte - 48) bytes)
labels_are bytes a = all-labels bytes (recursion_from_All IsDigit bytes a)

no-labels : (bytes : List ℕ) → (AllByRecursion IsDigit bytes → ⊥) → labels_of bytes ≡ None
no-labels [] n = absurd (n tt)
no-labels (byte ∷ bytes) n =
    elim (leb_tells 48 byte) [
      | inl l ↦ elim (leb_tells byte 55) [
        | inl m ↦ rw (label-is byte (l.1, m.1), no-labels bytes (λ a. n ((l.1, m.1), a))) refl
        | inr m ↦ rw (l.0, m.0) refl
      ]
      | inr l ↦ rw l.0 refl
    ]

-- and other bytes
pub labels_none : (bytes : List ℕ) → (All IsDigit bytes → ⊥) → labels_of bytes ≡ None
labels_none bytes n = no-labels bytes (λ a. n (All-from_recursion IsDigit bytes a))

small-labels : (numbers : List ℕ) → AllByRecursion IsLabel numbers → list_all (λ label. nat_le label 7) numbers ≡ true
small-labels [] a = refl
small-labels (x ∷ xs) a =
    let low : x ≤ 7 = a.0 in
    rw (le-leb x 7 low, small-labels xs a.1) refl

-- labels are at most 7
pub small_labels : (numbers : List ℕ) → All IsLabel numbers → list_all (λ label. nat_le label 7) numbers ≡ true
small_labels numbers a = small-labels numbers (recursion_from_All IsLabel numbers a)
