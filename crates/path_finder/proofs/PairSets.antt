-- Sets of pairs: which pairs are in them.
use Rattle.std.proofs.Common.{◌≡◌, ◌≢◌, ◌⊎◌, ◌==◌, ◌||◌, ◌<◌, ◌≤◌, ◌+◌, ◌*◌, ◌/◌, ◌%◌, ◌^◌, ℕ, zero, suc, Bool, true, false, List, length, set, slice_index, replicate, eq-eqb, eqb-true, ne_eqb, w64, get_or-set_same, get_or-set_other, refl, sym, ap, subst, ◌∙◌, inl, inr, arith}
use Rattle.std.proofs.lemmas.Bool.{cases_Bool, cases_eq, cases_lt, true≢false}
use Rattle.std.proofs.lemmas.Nat.{div-add-mod', mod_below, one_shl}
use Rattle.std.proofs.lemmas.Nat.Bits.{bit_at-zero, bit_at-pow_same, bit_at-pow_other, bit_at-trailing_zeros}
use Rattle.std.specs.Int.{bit_at, trailing_zeros}
use Rattle.std.specs.Int.Bits.{bit_or}
use Rattle.bit_rows.proofs.Bitwise.{or_bit}
use Rattle.limits.specs.declared.TheConstants.{MAX_PARTITIONS}
use Rattle.partition_graph.specs.NeighbourWords.{ArePlaces, IsWordOf}
use Rattle.partition_graph.specs.Nexts.{IsNext}
use Rattle.path_finder.specs.declared.pair.Pair.{Pair}
use Rattle.path_finder.specs.declared.pair_set.PairSet.{PairSet}
use Rattle.path_finder.specs.declared.pair_set.Part.{Part}
use Rattle.path_finder.specs.PairSets.{word_of, has_pair, IsMarked, IsEmptySet, IsAmong, IsAdded, IsTaken}
use Rattle.path_finder.proofs.WordSets.{past-end}

-- whether the bit is on
abbrev pub on : ℕ → ℕ → Bool
on x i = bit_at x i == 1

pub off-zero : (x i : ℕ) → x ≡ 0 → on x i ≡ false
off-zero x i z = ap (λ (w : ℕ). bit_at w i == 1) z ∙ ap (λ (b : ℕ). b == 1) (bit_at-zero i)

pub blank-word : (n k : ℕ) → slice_index (replicate n 0) k ≡ 0
blank-word zero k = refl
blank-word (suc n) zero = refl
blank-word (suc n) (suc k) = blank-word n k

-- a set whose words are all 0
pub empty-words : (s : PairSet) → ((w : ℕ) → slice_index s.words w ≡ 0) → IsEmptySet s
empty-words s z =
    record {
      marked = λ w l e. z w;
      none = λ r a b. off-zero (slice_index s.words (word_of r)) (r.id % 64) (z (word_of r));
    }

-- a set without marks
pub empty-marks : (s : PairSet) → length s.words ≡ 48 → IsMarked s → ((w : ℕ) → w < 48 → on s.marks w ≡ false) → IsEmptySet s
empty-marks s long m off = empty-words s (λ w. elim (cases_lt w 48) [ inl l ↦ m w l (off w l) | inr h ↦ past-end s.words w (omega (arith, long, h)) ])

low-id : (id : ℕ) → id < MAX_PARTITIONS → id / 64 < 16
low-id id l = omega (arith, l, div-add-mod' id 64)

pub id-low : (id place : ℕ) → id / 64 ≡ place → place < 16 → id < MAX_PARTITIONS
id-low id place here l = omega (arith, here, l, div-add-mod' id 64, mod_below id 64 (omega arith))

-- the id of a pair of a part is below the bound
pub among-low : (part : Part) (r : Pair) → part.place < 16 → IsAmong part r → r.id < MAX_PARTITIONS
among-low part r l a = id-low r.id part.place a.place l

-- the bit of one place
one-bit : (w k : ℕ) → w < 64 → on (1 * 2 ^ w % 2 ^ 64) k ≡ (k == w)
one-bit w k l =
    ap (λ (x : ℕ). on x k) (one_shl w 64 l) ∙ elim (cases_eq k w) [
      | inl same ↦ ap (λ (j : ℕ). on (2 ^ w) j) same ∙ ap (λ (b : ℕ). b == 1) (bit_at-pow_same w) ∙ sym (eq-eqb k w same)
      | inr other ↦ ap (λ (b : ℕ). b == 1) (bit_at-pow_other w k other) ∙ sym (ne_eqb k w other)
    ]

pub either : (x y : Bool) → (x || y) ≡ true → (x ≡ true) ⊎ (y ≡ true)
either true y e = inl refl
either false y e = inr e

or-left : (x y : Bool) → x ≡ true → (x || y) ≡ true
or-left true y e = refl
or-left false y e = absurd (true≢false (sym e))

or-right : (x y : Bool) → y ≡ true → (x || y) ≡ true
or-right true y e = refl
or-right false y e = e

pub neither-left : (x y : Bool) → (x || y) ≡ false → x ≡ false
neither-left true y e = absurd (true≢false e)
neither-left false y e = refl

pub neither-right : (x y : Bool) → (x || y) ≡ false → y ≡ false
neither-right true y e = absurd (true≢false e)
neither-right false y e = e

-- a set to which a part was added keeps its marks
pub added-marked : (words : List ℕ) (marks w x : ℕ) → w < 48 → length words ≡ 48
    → ((k : ℕ) → k < 48 → on marks k ≡ false → slice_index words k ≡ 0)
    → (k : ℕ) → k < 48 → on (bit_or marks (1 * 2 ^ w % 2 ^ 64)) k ≡ false → slice_index (set words w x) k ≡ 0
added-marked words marks w x l long m k low off =
    let both : (on marks k || on (1 * 2 ^ w % 2 ^ 64) k) ≡ false = sym (or_bit marks (1 * 2 ^ w % 2 ^ 64) k) ∙ off in
    let other : k ≢ w = λ same. true≢false (sym (one-bit w k (omega (arith, l)) ∙ eq-eqb k w same) ∙ neither-right (on marks k) (on (1 * 2 ^ w % 2 ^ 64) k) both) in
    get_or-set_other words w k x 0 other ∙ m k low (neither-left (on marks k) (on (1 * 2 ^ w % 2 ^ 64) k) both)

-- what is in the set to which a part was added
pub added-pairs : (old new : PairSet) (part : Part) → part.state < 3 → part.place < 16 → length old.words ≡ 48
    → new.words ≡ set old.words (part.state * 16 + part.place) (bit_or (slice_index old.words (part.state * 16 + part.place)) part.word) → IsAdded old new part
added-pairs old new part sl pl long is =
    record {
      kept = λ r h. elim (cases_eq (word_of r) at) [
        | inl same ↦ here r same ∙ or-left (on (slice_index old.words at) (r.id % 64)) (on part.word (r.id % 64)) (ap (λ (w : ℕ). on (slice_index old.words w) (r.id % 64)) (sym same) ∙ h)
        | inr other ↦ there r other ∙ h
      ];
      added = λ r a.
          let same : word_of r ≡ at = omega (arith, a.state, a.place) in
          here r same ∙ or-right (on (slice_index old.words at) (r.id % 64)) (on part.word (r.id % 64)) a.bit;
      others = λ r low h. elim (cases_eq (word_of r) at) [
        | inl same ↦ elim (either (on (slice_index old.words at) (r.id % 64)) (on part.word (r.id % 64)) (sym (here r same) ∙ h)) [
          | inl o ↦ inl (ap (λ (w : ℕ). on (slice_index old.words w) (r.id % 64)) same ∙ o)
          | inr n ↦ inr (record { state = omega (arith, same, low-id r.id low, pl); place = omega (arith, same, low-id r.id low, pl); bit = n })
        ]
        | inr other ↦ inl (sym (there r other) ∙ h)
      ];
    }
  where
    at : ℕ
    at = part.state * 16 + part.place

    here : (r : Pair) → word_of r ≡ at → has_pair new r ≡ (on (slice_index old.words at) (r.id % 64) || on part.word (r.id % 64))
    here r same =
        ap (λ (ws : List ℕ). on (slice_index ws (word_of r)) (r.id % 64)) is
        ∙ ap (λ (w : ℕ). on (slice_index (set old.words at (bit_or (slice_index old.words at) part.word)) w) (r.id % 64)) same
        ∙ ap (λ (x : ℕ). on x (r.id % 64)) (get_or-set_same old.words at (bit_or (slice_index old.words at) part.word) 0 (omega (arith, sl, pl, long)))
        ∙ or_bit (slice_index old.words at) part.word (r.id % 64)

    there : (r : Pair) → word_of r ≢ at → has_pair new r ≡ has_pair old r
    there r other =
        ap (λ (ws : List ℕ). on (slice_index ws (word_of r)) (r.id % 64)) is
        ∙ ap (λ (x : ℕ). on x (r.id % 64)) (get_or-set_other old.words at (word_of r) (bit_or (slice_index old.words at) part.word) 0 other)

-- what is in the set from which a word was taken
pub taken-pairs : (old new : PairSet) (part : Part) (at : ℕ) → at < 48 → length old.words ≡ 48 → new.words ≡ set old.words at 0 → new.marks < old.marks
    → part.state ≡ at / 16 → part.place ≡ at % 16 → part.word ≡ slice_index old.words at → IsTaken old new part
taken-pairs old new part at l long is fewer st pl wd =
    record {
      state = omega (arith, st, l, split);
      place = omega (arith, pl, small);
      had = λ r a.
          let same : word_of r ≡ at = omega (arith, a.state, a.place, st, pl, split) in
          ap (λ (w : ℕ). on (slice_index old.words w) (r.id % 64)) same ∙ ap (λ (x : ℕ). on x (r.id % 64)) (sym wd) ∙ a.bit;
      kept = λ r h. elim (cases_eq (word_of r) at) [
        | inl same ↦ absurd (true≢false (sym h ∙ gone r same))
        | inr other ↦ sym (there r other) ∙ h
      ];
      left = λ r low below h. elim (cases_eq (word_of r) at) [
        | inl same ↦ inr (record {
          state = omega (arith, same, low-id r.id below, st, split, small);
          place = omega (arith, same, low-id r.id below, pl, split, small);
          bit = ap (λ (x : ℕ). on x (r.id % 64)) wd ∙ ap (λ (w : ℕ). on (slice_index old.words w) (r.id % 64)) (sym same) ∙ h;
        })
        | inr other ↦ inl (there r other ∙ h)
      ];
      fewer = fewer;
    }
  where
    split : at / 16 * 16 + at % 16 ≡ at
    split = div-add-mod' at 16

    small : at % 16 < 16
    small = mod_below at 16 (omega arith)

    gone : (r : Pair) → word_of r ≡ at → has_pair new r ≡ false
    gone r same =
        off-zero (slice_index new.words (word_of r)) (r.id % 64)
        (ap (λ (ws : List ℕ). slice_index ws (word_of r)) is ∙ ap (λ (w : ℕ). slice_index (set old.words at 0) w) same ∙ get_or-set_same old.words at 0 0 (omega (arith, l, long)))

    there : (r : Pair) → word_of r ≢ at → has_pair new r ≡ has_pair old r
    there r other =
        ap (λ (ws : List ℕ). on (slice_index ws (word_of r)) (r.id % 64)) is
        ∙ ap (λ (x : ℕ). on x (r.id % 64)) (get_or-set_other old.words at (word_of r) 0 0 other)

-- the numbers of a word by its bits
pub own-bits : (place x : ℕ) → IsWordOf (λ n. on x (n % 64)) place x
own-bits place x i below =
    let same : i ≡ (place * 64 + i) % 64 = omega (arith, below, div-add-mod' (place * 64 + i) 64, mod_below (place * 64 + i) 64 (omega arith)) in
    ap (λ (k : ℕ). on x k) same

-- where no number of a word is next, all its bits are off
pub none-of-word : (place x : ℕ)
    → ((h : ℕ → Bool) → IsWordOf h (place * 64 / 64) x → (n : ℕ) → place * 64 ≤ n → n < place * 64 / 64 * 64 + 64 → h n ≡ false)
    → (id : ℕ) → id / 64 ≡ place → on x (id % 64) ≡ false
none-of-word place x none id here =
    let same : place ≡ place * 64 / 64 = omega (arith, div-add-mod' (place * 64) 64, mod_below (place * 64) 64 (omega arith)) in
    none (λ n. on x (n % 64)) (subst (λ (w : ℕ). IsWordOf (λ n. on x (n % 64)) w x) same (own-bits place x)) id
    (omega (arith, here, div-add-mod' id 64))
    (omega (arith, here, same, div-add-mod' id 64, mod_below id 64 (omega arith)))

-- a word one of whose bits is turned off is a smaller number, and not the same
pub bit-on : (x i : ℕ) → on x i ≡ true → bit_at x i ≡ 1
bit-on x i e = eqb-true (bit_at x i) 1 e

-- a bit that is left is one of before
pub left-bit : (x y p i : ℕ) → i < 64 → bit_at y p ≡ 0 → ((k : ℕ) → k < 64 → k ≢ p → bit_at y k ≡ bit_at x k) → on y i ≡ true → (i ≢ p) × (on x i ≡ true)
left-bit x y p i l off others e =
    let other : i ≢ p = λ same. true≢false (sym e ∙ ap (λ (k : ℕ). on y k) same ∙ ap (λ (b : ℕ). b == 1) off) in
    (other, ap (λ (b : ℕ). b == 1) (sym (others i l other)) ∙ e)

-- a bit of before is left, or it is the one that was turned off
pub bit-left : (x y p i : ℕ) → i < 64 → ((k : ℕ) → k < 64 → k ≢ p → bit_at y k ≡ bit_at x k) → on x i ≡ true → (on y i ≡ true) ⊎ (i ≡ p)
bit-left x y p i l others e = elim (cases_eq i p) [ inl same ↦ inr same | inr other ↦ inl (ap (λ (b : ℕ). b == 1) (others i l other) ∙ e) ]

-- two ids of a word with one bit are one
pub same-id : (place r id : ℕ) → r / 64 ≡ place → id / 64 ≡ place → r % 64 ≡ id % 64 → r ≡ id
same-id place r id a b c = omega (arith, a, b, c, div-add-mod' r 64, div-add-mod' id 64)

-- a word that is not 0 has a pair
pub some-among : (part : Part) → 0 < part.word → part.word < 2 ^ 64 → (r : Pair) × IsAmong part r
some-among part some fits =
    let low = bit_at-trailing_zeros w64 part.word some fits in
    let t : ℕ = trailing_zeros w64 part.word in
    let id : ℕ = part.place * 64 + t in
    let here : id / 64 ≡ part.place = omega (arith, low.0, div-add-mod' id 64, mod_below id 64 (omega arith)) in
    let bit : id % 64 ≡ t = omega (arith, low.0, here, div-add-mod' id 64) in
    (record { id = id; state = part.state }, record { state = refl; place = here; bit = ap (λ (k : ℕ). on part.word k) bit ∙ ap (λ (b : ℕ). b == 1) low.1 })

-- the marks of places, as bits of one word
mark-bits : (x : ℕ) → IsWordOf (λ n. on x n) 0 x
mark-bits x i below =
    let same : i ≡ 0 * 64 + i = omega arith in
    ap (λ (k : ℕ). on x k) same

-- the first mark of a word is on, and none before it is
pub first-mark : (x place : ℕ) → ((h : ℕ → Bool) → IsWordOf h 0 x → IsNext h 0 place) → IsNext (λ n. on x n) 0 place
first-mark x place next = next (λ n. on x n) (mark-bits x)

-- where no number of a word is next, no mark is on
pub no-mark : (x place : ℕ) → place < 64 → ((h : ℕ → Bool) → IsWordOf h 0 x → (n : ℕ) → 0 ≤ n → n < 64 → h n ≡ false) → on x place ≡ false
no-mark x place low none = none (λ n. on x n) (mark-bits x) place (omega arith) low

pub low-place : (id : ℕ) → id / 64 * 64 ≤ id
low-place id = omega (arith, div-add-mod' id 64)

-- the place of a number with the property is marked
pub place-marked : (has : ℕ → Bool) (places id : ℕ) → ArePlaces has places → id < MAX_PARTITIONS → has id ≡ true → on places (id / 64) ≡ true
place-marked has places id are low there =
    elim (cases_Bool (are.marks (id / 64))) [
      | inl yes_marked ↦
          let same : id / 64 ≡ 0 * 64 + id / 64 = omega arith in
          are.bits (id / 64) (omega (arith, low-place id, low)) ∙ sym (ap (λ (k : ℕ). are.marks k) same) ∙ yes_marked
      | inr gone ↦
          let split : id / 64 * 64 + id % 64 ≡ id = div-add-mod' id 64 in
          absurd (true≢false (sym there ∙ sym (ap (λ (k : ℕ). has k) split) ∙ are.others (id / 64) (id % 64) (mod_below id 64 (omega arith)) gone))
    ]
