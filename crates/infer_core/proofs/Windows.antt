-- Steps of the loops that read labels.
use Rattle.std.proofs.Common.{◌≡◌, ℕ, zero, suc, ◌+◌, ◌*◌, ◌/◌, ◌%◌, ◌^◌, ◌<◌, ◌≤◌, Bool, cond, eqb, List, [], ◌∷◌, ◌++◌, length, map, take, drop, get_or, slice_get, Some, refl, sym, ap, ap₂, ◌∙◌, subst, subst₂, max, arith, inl, inr}
use Rattle.std.proofs.lemmas.Nat.{shr-shr}
use Rattle.std.proofs.lemmas.Nat.Bits.{bit_at-lt, bit_at_or, bit_at_xor}
use Rattle.std.proofs.lemmas.Grind.{elements}
use Rattle.std.specs.Int.{bit_at}
use Rattle.std.specs.Int.Bits.{bit_or, bit_xor}
use Rattle.invariants.specs.Labels.{digit_of}
use Rattle.invariants.specs.declared.records.Partition.{Partition}
use Rattle.labelling.specs.Labelled.{Labelling, digit, is_found, number_of, AreStatesAt}
use Rattle.infer_core.specs.declared.labels.Bytes.{Bytes}
use Rattle.infer_core.specs.Windows.{label_at, row_of, AreColumnsOf, AreSame, HasRows, HaveNumber}
use Rattle.std.proofs.lemmas.List.{drop-append-le, drop_all, get_or_default, length-append, length-drop, length-map, get_or-map, same_lists, take-append-le, take_all}
use Rattle.std.proofs.lemmas.Bool.{cases_eq}

-- a bit of a byte of a word
bit-of-byte : (x number k : ℕ) → k < 8 → bit_at (x / 2 ^ (8 * number) % 256) k ≡ bit_at x (8 * number + k)
bit-of-byte x number k l = low (x / 2 ^ (8 * number)) k l ∙ ap (λ y. y % 2) (shr-shr x (8 * number) k)
  where
    low : (y j : ℕ) → j < 8 → bit_at (y % 256) j ≡ bit_at y j
    low y zero l = omega arith
    low y (suc zero) l = omega arith
    low y (suc (suc zero)) l = omega arith
    low y (suc (suc (suc zero))) l = omega arith
    low y (suc (suc (suc (suc zero)))) l = omega arith
    low y (suc (suc (suc (suc (suc zero))))) l = omega arith
    low y (suc (suc (suc (suc (suc (suc zero)))))) l = omega arith
    low y (suc (suc (suc (suc (suc (suc (suc zero))))))) l = omega arith
    low y (suc (suc (suc (suc (suc (suc (suc (suc j)))))))) l = absurd (omega (arith, l))

-- what is written for a bit of the bytes is a row of digits
pub row-written : (found : List (List ℕ)) (number k : ℕ) (bytes : Bytes) (row : List ℕ) → k < 8 → length row ≡ length found
    → AreColumnsOf found bytes.columns → HaveNumber number bytes
    → ((j : ℕ) → j < length row → get_or row j 0 ≡ digit_of (bit_at (get_or bytes.zeroth.items j 0) k + 2 * bit_at (get_or bytes.first.items j 0) k + 4 * bit_at (get_or bytes.second.items j 0) k))
    → row ≡ row_of found (8 * number + k)
row-written found number k bytes row l size c b h =
    let f : List ℕ → ℕ = λ words. digit_of (label_at (get_or words 0 0) (get_or words 1 0) (get_or words 2 0) (8 * number + k)) in
    same_lists row (map f found) (size ∙ sym (length-map found f)) (λ j d m.
    let inside : j < length found = omega (arith, size, m) in
    let of : (x y word : ℕ) → x ≡ y / 2 ^ (8 * number) % 256 → y ≡ word → bit_at x k ≡ bit_at word (8 * number + k) =
    λ x y word taken same. ap (λ (z : ℕ). bit_at z k) taken ∙ bit-of-byte y number k l ∙ ap (λ (z : ℕ). bit_at z (8 * number + k)) same in
    get_or_default row j d 0 m ∙ h j m
    ∙ ap digit_of (ap₂ (λ (x y : ℕ). x + y)
    (ap₂ (λ (x y : ℕ). x + 2 * y)
    (of (get_or bytes.zeroth.items j 0) (get_or bytes.columns.zeroth.items j 0) (get_or (get_or found j []) 0 0) (b.zeroth j (omega (arith, inside, c.zeroth_size))) (c.zeroth j inside))
    (of (get_or bytes.first.items j 0) (get_or bytes.columns.first.items j 0) (get_or (get_or found j []) 1 0) (b.first j (omega (arith, inside, c.first_size))) (c.first j inside)))
    (ap (λ (x : ℕ). 4 * x)
    (of (get_or bytes.second.items j 0) (get_or bytes.columns.second.items j 0) (get_or (get_or found j []) 2 0) (b.second j (omega (arith, inside, c.second_size))) (c.second j inside))))
    ∙ sym (get_or-map f found j [] d inside))

-- a digit more at the end leaves those before it
read-before : (xs : List ℕ) (x k : ℕ) → k < length xs → get_or (xs ++ x ∷ []) k 0 ≡ get_or xs k 0
read-before xs x k l = grind (arith, elements)

read-last : (xs : List ℕ) (x k : ℕ) → k ≡ length xs → get_or (xs ++ x ∷ []) k 0 ≡ x
read-last xs x k e = grind (arith, elements)

-- the next invariant shares the digits of one before it
pub rows-share : (found : List (List ℕ)) (text starts starts' : List ℕ) (i : ℕ) → HasRows found text starts → i < length starts
    → row_of found i ≡ row_of found (length starts) → starts' ≡ starts ++ get_or starts i 0 ∷ [] → HasRows found text starts'
rows-share found text starts starts' i h l e is = subst (λ (ss : List ℕ). HasRows found text ss) (sym is) (λ k m.
    elim (cases_eq k (length starts)) [
      | inl same ↦ (
          let at : get_or (starts ++ get_or starts i 0 ∷ []) k 0 ≡ get_or starts i 0 = read-last starts (get_or starts i 0) k same in
          subst (λ (s : ℕ). (s + length found ≤ length text) × (take (length found) (drop s text) ≡ row_of found k)) (sym at) ((h i l).0, (h i l).1 ∙ e ∙ ap (row_of found) (sym same)))
      | inr other ↦ (
          let less : k < length starts = omega (arith, m, other, length-append starts (get_or starts i 0 ∷ [])) in
          let at : get_or (starts ++ get_or starts i 0 ∷ []) k 0 ≡ get_or starts k 0 = read-before starts (get_or starts i 0) k less in
          subst (λ (s : ℕ). (s + length found ≤ length text) × (take (length found) (drop s text) ≡ row_of found k)) (sym at) (h k less))
    ])

-- the digits of the next invariant are appended
pub rows-append : (found : List (List ℕ)) (text row text' starts starts' : List ℕ) → HasRows found text starts → row ≡ row_of found (length starts)
    → text' ≡ text ++ row → starts' ≡ starts ++ length text ∷ [] → HasRows found text' starts'
rows-append found text row text' starts starts' h e is-text is-starts =
    subst₂ (λ (t ss : List ℕ). HasRows found t ss) (sym is-text) (sym is-starts) (λ k m.
    elim (cases_eq k (length starts)) [
      | inl same ↦ (
          let at : get_or (starts ++ length text ∷ []) k 0 ≡ length text = read-last starts (length text) k same in
          subst (λ (s : ℕ). (s + length found ≤ length (text ++ row)) × (take (length found) (drop s (text ++ row)) ≡ row_of found k)) (sym at) (
            omega (arith, whole, row-size),
            ap (take (length found)) (drop-append-le (length text) text row (omega arith) ∙ ap (λ (xs : List ℕ). xs ++ row) (drop_all (length text) text (omega arith)))
                ∙ take_all (length found) row (omega (arith, row-size)) ∙ e ∙ ap (row_of found) (sym same),
          ))
      | inr other ↦ (
          let less : k < length starts = omega (arith, m, other, length-append starts (length text ∷ [])) in
          let at : get_or (starts ++ length text ∷ []) k 0 ≡ get_or starts k 0 = read-before starts (length text) k less in
          let before = h k less in
          let low : get_or starts k 0 ≤ length text = omega (arith, before.0) in
          let left : length found ≤ length (drop (get_or starts k 0) text) = omega (arith, before.0, length-drop (get_or starts k 0) text) in
          subst (λ (s : ℕ). (s + length found ≤ length (text ++ row)) × (take (length found) (drop s (text ++ row)) ≡ row_of found k)) (sym at)
          (omega (arith, before.0, whole), ap (take (length found)) (drop-append-le (get_or starts k 0) text row low) ∙ take-append-le (length found) (drop (get_or starts k 0) text) row left ∙ before.1))
    ])
  where
    row-size : length row ≡ length found
    row-size = ap length e ∙ length-map found (λ words. digit_of (label_at (get_or words 0 0) (get_or words 1 0) (get_or words 2 0) (length starts)))

    whole : length (text ++ row) ≡ length text + length row
    whole = length-append text row

-- bits of a word that are the same
pub bits-same : (word distance k : ℕ) → bit_at (bit_xor word (word / 2 ^ distance)) k ≡ 0 → bit_at word k ≡ bit_at word (distance + k)
bits-same word distance k off =
    let shifted : bit_at (word / 2 ^ distance) k ≡ bit_at word (distance + k) = ap (λ y. y % 2) (shr-shr word distance k) in
    let sum : bit_at (bit_xor word (word / 2 ^ distance)) k ≡ (bit_at word k + bit_at (word / 2 ^ distance) k) % 2 = bit_at_xor word (word / 2 ^ distance) k in
    omega (arith, off, sum, shifted, bit_at-lt word k, bit_at-lt (word / 2 ^ distance) k)

-- a bit is off in a word made of others
off-both : (a b k : ℕ) → bit_at (bit_or a b) k ≡ 0 → (bit_at a k ≡ 0) × (bit_at b k ≡ 0)
off-both a b k off =
    let most : max (bit_at a k) (bit_at b k) ≡ 0 = sym (bit_at_or a b k) ∙ off in
    (omega (arith, most), omega (arith, most))

-- a bit is off in a word made of three
pub off-all : (a b c k : ℕ) → bit_at (bit_or (bit_or a b) c) k ≡ 0 → (bit_at a k ≡ 0) × (bit_at b k ≡ 0) × (bit_at c k ≡ 0)
off-all a b c k off =
    let two = off-both (bit_or a b) c k off in
    let one = off-both a b k two.0 in
    (one.0, one.1, two.1)

-- a bit that is off in the word means that the bits at this distance are the same in the words of the first partitions
abbrev pub AreSameBefore : List (List ℕ) → ℕ → ℕ → ℕ → Type 0
AreSameBefore found count distance word =
    (k : ℕ) → bit_at word k ≡ 0 → (j : ℕ) → j < count → AreSame (get_or found j []) k (distance + k)

-- the words of one partition more
pub same-after : (found : List (List ℕ)) (count distance word more : ℕ) → AreSameBefore found count distance word
    → ((k : ℕ) → bit_at more k ≡ 0 → AreSame (get_or found count []) k (distance + k)) → AreSameBefore found (count + 1) distance (bit_or word more)
same-after found count distance word more before one k off j low =
    let both = off-both word more k off in
    elim (cases_eq j count) [
      | inl same ↦ subst (λ (i : ℕ). AreSame (get_or found i []) k (distance + k)) (sym same) (one k both.1)
      | inr other ↦ before k both.0 j (let less : j < count = omega (arith, low, other) in less)
    ]

-- if they are the same in the words of each partition, so are the digits
pub rows-same : (found : List (List ℕ)) (k l : ℕ) → ((j : ℕ) → j < length found → AreSame (get_or found j []) k l) → row_of found k ≡ row_of found l
rows-same [] k l h = refl
rows-same (w ∷ ws) k l h =
    let one = h 0 (omega arith) in
    ap₂ (λ (y : ℕ) (ys : List ℕ). y ∷ ys)
    (ap digit_of (ap₂ (λ (x y : ℕ). x + y) (ap₂ (λ (x y : ℕ). x + 2 * y) one.zeroth one.first) (ap (λ (x : ℕ). 4 * x) one.second)))
    (rows-same ws k l (λ j m. h (suc j) (omega (arith, m))))

-- a digit that is 0 or 1, times a number
weighed : (d n : ℕ) → d < 2 → cond (eqb d 1) n 0 ≡ n * d
weighed d n small = elim (cases_eq d 0) [
  | inl none ↦ rw none (omega arith)
  | inr some ↦ (let one : d ≡ 1 = omega (arith, small, some) in rw one (omega arith))
]

-- the bits of the words of the states are a label
pub digit-of-bits : (labels : Labelling) (place p k : ℕ) (words : List ℕ) → AreStatesAt labels place p words → k < 64 → place * 64 + k < length labels.invs
    → bit_at (get_or words 0 0) k + 2 * bit_at (get_or words 1 0) k + 4 * bit_at (get_or words 2 0) k ≡ digit labels (place * 64 + k) p
digit-of-bits labels place p k words h below inside =
    let low : ℕ = bit_at (get_or words 0 0) k in
    let middle : ℕ = bit_at (get_or words 1 0) k in
    let high : ℕ = bit_at (get_or words 2 0) k in
    let is_low : cond (eqb low 1) 1 0 ≡ 1 * low = weighed low 1 (bit_at-lt (get_or words 0 0) k) in
    let is_middle : cond (eqb middle 1) 2 0 ≡ 2 * middle = weighed middle 2 (bit_at-lt (get_or words 1 0) k) in
    let is_high : cond (eqb high 1) 4 0 ≡ 4 * high = weighed high 4 (bit_at-lt (get_or words 2 0) k) in
    let sum : low + 2 * middle + 4 * high ≡ number_of (eqb low 1) (eqb middle 1) (eqb high 1) = omega (arith, is_low, is_middle, is_high) in
    sum
    ∙ ap₂ (λ (x y : Bool). number_of x y (eqb high 1)) (h k 0 below inside (omega arith)) (h k 1 below inside (omega arith))
    ∙ ap (λ (x : Bool). number_of (is_found labels (place * 64 + k) p 0) (is_found labels (place * 64 + k) p 1) x) (h k 2 below inside (omega arith))

-- a row has the digits of the labels, if the words have the states
pub row-is : (labels : Labelling) (place k : ℕ) (found : List (List ℕ)) (partitions : List Partition) → length found ≡ length partitions → k < 64 → place * 64 + k < length labels.invs
    → ((j : ℕ) (x : Partition) → slice_get partitions j ≡ Some x → AreStatesAt labels place x.id (get_or found j []))
    → row_of found k ≡ map digit_of (map (λ x. digit labels (place * 64 + k) x.id) partitions)
row-is labels place k [] [] size l inside h = refl
row-is labels place k [] (x ∷ xs) size l inside h = absurd cc
row-is labels place k (w ∷ ws) [] size l inside h = absurd cc
row-is labels place k (w ∷ ws) (x ∷ xs) size l inside h =
    ap₂ (λ (y : ℕ) (ys : List ℕ). y ∷ ys) (ap digit_of (digit-of-bits labels place x.id k w (h 0 x refl) l inside))
    (row-is labels place k ws xs (omega (arith, size)) l inside (λ j y e. h (suc j) y e))
