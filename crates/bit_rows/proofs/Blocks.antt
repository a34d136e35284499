-- Steps of the loops over blocks of eight words.
use Rattle.std.proofs.Common.{◌≡◌, ℕ, ◌+◌, ◌-◌, ◌*◌, ◌<◌, ◌≤◌, zero, suc, Bool, not, ◌||◌, eqb, List, [], ◌∷◌, length, get_or, sym, ap, ap₂, ◌∙◌, subst, arith, ◌⊎◌, inl, inr}
use Rattle.std.proofs.lemmas.Bool.{cases_lt, or_parts, or_cases, eqb-true, eqb-false, not-true, not-false}
use Rattle.std.proofs.lemmas.Nat.{le_or_l, le_or_r}
use Rattle.std.proofs.lemmas.Simd.{length-zip2, get_or-zip2, get_or-chunk, length-chunk, length-put_chunk, get_or-put_chunk_below, get_or-put_chunk_at, get_or-put_chunk_above}
use Rattle.std.specs.Int.Bits.{bit_or, bit_xor, xor_self, or_zero_l}
use lib.Bits.{bit_and}
use lib.Lanes.{zip2, chunk, put_chunk, fold_l}
use Rattle.bit_rows.specs.Written.{word, IsApart, IsWritten, HasSeen, TellsChange}

-- after one more block of eight words is written, eight words more are the given ones
pub next_block : (old now : List ℕ) (to i : ℕ) (given : ℕ → ℕ) (ys : List ℕ) → length ys ≡ 8 → to + i + 8 ≤ length old → ((j : ℕ) → j < 8 → get_or ys j 0 ≡ given (i + j)) → IsWritten old now to i given
    → IsWritten old (put_chunk (to + i) now ys) to (i + 8) given
next_block old now to i given ys eight room is h =
    let size = h.size in
    record {
      size = length-put_chunk (to + i) now ys ∙ size;
      inside = λ k below. elim (cases_lt k i) [
        | inl early ↦ get_or-put_chunk_below (to + i) now ys (to + k) 0 (omega arith) ∙ h.inside k early
        | inr late ↦
            let back : i + (k - i) ≡ k = omega arith in
            let place : to + i + (k - i) ≡ to + k = omega arith in
            ap (λ m. get_or (put_chunk (to + i) now ys) m 0) (sym place) ∙ get_or-put_chunk_at (to + i) now ys (k - i) 0 (omega arith) (omega arith) ∙ is (k - i) (omega arith) ∙ ap given back
      ];
      before = λ k below. get_or-put_chunk_below (to + i) now ys k 0 (omega arith) ∙ h.before k below;
      behind = λ k above. get_or-put_chunk_above (to + i) now ys k 0 (omega arith) ∙ h.behind k (omega arith);
    }

-- a block of the run that is written has not changed
pub here_block : (old now : List ℕ) (to i j : ℕ) (given : ℕ → ℕ) → IsWritten old now to i given → j < 8 → get_or (chunk (to + i) 8 now) j 0 ≡ word old to (i + j)
here_block old now to i j given h below =
    let place : to + i + j ≡ to + (i + j) = omega arith in
    get_or-chunk (to + i) 8 now j 0 below ∙ ap (λ m. get_or now m 0) place ∙ h.behind (to + (i + j)) (omega arith)

-- a block of a run that lies apart has not changed
pub apart_block : (old now : List ℕ) (to from i j n : ℕ) (given : ℕ → ℕ) → IsApart to from n → i + 8 ≤ n → IsWritten old now to i given → j < 8 → get_or (chunk (from + i) 8 now) j 0 ≡ word old from (i + j)
apart_block old now to from i j n given apart few h below =
    let place : from + i + j ≡ from + (i + j) = omega arith in
    get_or-chunk (from + i) 8 now j 0 below ∙ ap (λ m. get_or now m 0) place ∙ elim apart [
      | inl after ↦ h.behind (from + (i + j)) (omega arith)
      | inr ahead ↦ h.before (from + (i + j)) (omega arith)
    ]

-- where the or over a list and a first word is 0, all of these words are 0
pub fold_none : (a : ℕ) (xs : List ℕ) → fold_l bit_or a xs ≡ 0 → (a ≡ 0) × ((j : ℕ) → j < length xs → get_or xs j 0 ≡ 0)
fold_none a [] e = (e, λ j below. absurd (omega arith))
fold_none a (x ∷ xs) e =
    let rest = fold_none (bit_or a x) xs e in
    let left = le_or_l a x in
    let right = le_or_r a x in
    (omega (arith, rest.0), none_at a x xs (omega (arith, rest.0)) rest.1)
  where
    none_at : (a x : ℕ) (xs : List ℕ) → x ≡ 0 → ((j : ℕ) → j < length xs → get_or xs j 0 ≡ 0) → (j : ℕ) → j < length (x ∷ xs) → get_or (x ∷ xs) j 0 ≡ 0
    none_at a x xs first others zero below = first
    none_at a x xs first others (suc j) below = others j (omega arith)

-- where the or over a list and a first word is not 0, one of these words is not 0
pub fold_some : (a : ℕ) (xs : List ℕ) → 0 < fold_l bit_or a xs → (0 < a) ⊎ ((j : ℕ) × (j < length xs) × (0 < get_or xs j 0))
fold_some a [] some = inl some
fold_some a (x ∷ xs) some = elim (fold_some (bit_or a x) xs some) [
  | inl here ↦ elim (cases_lt 0 a) [
    | inl was ↦ inl was
    | inr zero_a ↦
        let nothing : a ≡ 0 = omega arith in
        let is : bit_or a x ≡ x = ap (λ m. bit_or m x) nothing ∙ or_zero_l x in
        inr (0, omega arith, subst (λ m. 0 < m) is here)
  ]
  | inr later ↦ inr (suc later.0, omega (arith, later.1), later.2)
]

-- lanes that take up a block of differences tell of eight words more whether they agree
pub next_seen_block : (i : ℕ) (one other : ℕ → ℕ) (more ds : List ℕ) → length more ≡ 8 → length ds ≡ 8 → ((j : ℕ) → j < 8 → get_or ds j 0 ≡ bit_xor (one (i + j)) (other (i + j)))
    → ((a b : ℕ) → bit_xor a b ≡ 0 → a ≡ b) → HasSeen i one other (fold_l bit_or 0 more) → HasSeen (i + 8) one other (fold_l bit_or 0 (zip2 bit_or more ds))
next_seen_block i one other more ds eight eight_ds is same_from_xor h =
    let long = length-zip2 bit_or more ds (eight ∙ sym eight_ds) in
    record {
      none = λ e k below.
          let zeros = (fold_none 0 (zip2 bit_or more ds) e).1 in
          let lane : (j : ℕ) → j < 8 → bit_or (get_or more j 0) (get_or ds j 0) ≡ 0 =
          λ j hj. sym (get_or-zip2 bit_or more ds j 0 0 0 (omega arith) (omega arith)) ∙ zeros j (omega (arith, long)) in
          elim (cases_lt k i) [
            | inl early ↦ elim (cases_lt 0 (fold_l bit_or 0 more)) [
              | inl positive ↦
                  elim (fold_some 0 more positive) [
                    | inl never ↦ absurd (omega arith)
                    | inr p ↦ absurd (omega (arith, p.1, p.2, lane p.0 (omega (arith, p.1)), le_or_l (get_or more p.0 0) (get_or ds p.0 0)))
                  ]
              | inr nothing ↦ h.none (omega arith) k early
            ]
            | inr late ↦
                let j : ℕ = k - i in
                let hj : j < 8 = omega arith in
                let back : i + j ≡ k = omega arith in
                let gone : get_or ds j 0 ≡ 0 = omega (arith, lane j hj, le_or_r (get_or more j 0) (get_or ds j 0)) in
                subst (λ m. one m ≡ other m) back (same_from_xor (one (i + j)) (other (i + j)) (sym (is j hj) ∙ gone))
          ];
      some = λ positive. elim (cases_lt 0 (fold_l bit_or 0 more)) [
        | inl earlier ↦ let p = h.some earlier in (p.0, omega (arith, p.1), p.2)
        | inr nothing ↦ elim (fold_some 0 (zip2 bit_or more ds) positive) [
          | inl never ↦ absurd (omega arith)
          | inr p ↦
              let j : ℕ = p.0 in
              let hj : j < 8 = omega (arith, p.1, long) in
              let blank : get_or more j 0 ≡ 0 = (fold_none 0 more (omega arith)).1 j (omega arith) in
              let lane : get_or (zip2 bit_or more ds) j 0 ≡ get_or ds j 0 =
              get_or-zip2 bit_or more ds j 0 0 0 (omega arith) (omega arith) ∙ ap (λ m. bit_or m (get_or ds j 0)) blank ∙ or_zero_l (get_or ds j 0) in (
                i + j,
                omega arith,
                λ same.
                    let gone : get_or ds j 0 ≡ 0 = is j hj ∙ ap (λ m. bit_xor m (other (i + j))) same ∙ xor_self (other (i + j)) in
                    (let no : ⊥ = omega (arith, p.2, lane, gone) in no),
              )
        ]
      ];
    }

-- words that are written behind others make one run with them
pub join_written : (old mid new : List ℕ) (to n m : ℕ) (given given' : ℕ → ℕ) → IsWritten old mid to n given → IsWritten mid new (to + n) m given' → ((k : ℕ) → k < m → given' k ≡ given (n + k)) → IsWritten old new to (n + m) given
join_written old mid new to n m given given' h h' is = record {
  size = h'.size ∙ h.size;
  inside = λ k below. elim (cases_lt k n) [
    | inl early ↦ h'.before (to + k) (omega arith) ∙ h.inside k early
    | inr late ↦
        let back : n + (k - n) ≡ k = omega arith in
        let place : to + n + (k - n) ≡ to + k = omega arith in
        ap (λ p. get_or new p 0) (sym place) ∙ h'.inside (k - n) (omega arith) ∙ is (k - n) (omega arith) ∙ ap given back
  ];
  before = λ k below. h'.before k (omega arith) ∙ h.before k below;
  behind = λ k above. h'.behind k (omega arith) ∙ h.behind k (omega arith);
}

-- two runs, one behind the other, changed where one of them changed
pub join_tells : (n m : ℕ) (one other one' other' : ℕ → ℕ) (a b : Bool) → TellsChange n one other a → TellsChange m one' other' b → ((k : ℕ) → k < m → one' k ≡ one (n + k)) → ((k : ℕ) → k < m → other' k ≡ other (n + k))
    → TellsChange (n + m) one other (a || b)
join_tells n m one other one' other' a b h h' is is' = record {
  none = λ off k below.
      let both = or_parts a b off in
      elim (cases_lt k n) [
        | inl early ↦ h.none both.0 k early
        | inr late ↦
            let back : n + (k - n) ≡ k = omega arith in
            let inside : k - n < m = omega arith in
            subst (λ p. one p ≡ other p) back (sym (is (k - n) inside) ∙ h'.none both.1 (k - n) inside ∙ is' (k - n) inside)
      ];
  some = λ on. elim (or_cases a b on) [
    | inl first ↦ let p = h.some first in (p.0, omega (arith, p.1), p.2)
    | inr second ↦ let p = h'.some second in (n + p.0, omega (arith, p.1), λ same. p.2 (is p.0 p.1 ∙ same ∙ sym (is' p.0 p.1)))
  ];
}

-- the test of the number against 0 says whether the words differ
pub tells_from_seen : (n : ℕ) (one other : ℕ → ℕ) (more : ℕ) → HasSeen n one other more → TellsChange n one other (not (eqb more 0))
tells_from_seen n one other more h = record {
  none = λ off. h.none (eqb-true more 0 (not-false (eqb more 0) off));
  some = λ on. h.some (let ne = eqb-false more 0 (not-true (eqb more 0) on) in elim (cases_lt 0 more) [ inl p ↦ p | inr z ↦ absurd (ne (omega arith)) ]);
}

-- the words behind the blocks have not changed
pub rest_kept : (old mid : List ℕ) (to n k : ℕ) (given : ℕ → ℕ) → IsWritten old mid to n given → word mid (to + n) k ≡ word old to (n + k)
rest_kept old mid to n k given h =
    let place : to + n + k ≡ to + (n + k) = omega arith in
    ap (λ p. get_or mid p 0) place ∙ h.behind (to + (n + k)) (omega arith)

-- the words behind the blocks of a run that lies apart have not changed
pub rest_apart : (old mid : List ℕ) (to from n count k : ℕ) (given : ℕ → ℕ) → IsApart to from count → n + k < count → IsWritten old mid to n given → word mid (from + n) k ≡ word old from (n + k)
rest_apart old mid to from n count k given apart below h =
    let place : from + n + k ≡ from + (n + k) = omega arith in
    ap (λ p. get_or mid p 0) place ∙ elim apart [
      | inl after ↦ h.behind (from + (n + k)) (omega arith)
      | inr ahead ↦ h.before (from + (n + k)) (omega arith)
    ]

-- one block more is 0
pub next_zero_block : (ws : List ℕ) (at b : ℕ) → at + b * 8 + 8 ≤ length ws → fold_l bit_or 0 (chunk (at + b * 8) 8 ws) ≡ 0 → ((k : ℕ) → k < b * 8 → word ws at k ≡ 0) → (k : ℕ) → k < (b + 1) * 8 → word ws at k ≡ 0
next_zero_block ws at b room none before k below = elim (cases_lt k (b * 8)) [
  | inl early ↦ before k early
  | inr late ↦
      let j : ℕ = k - b * 8 in
      let inside : j < 8 = omega arith in
      let place : at + b * 8 + j ≡ at + k = omega arith in
      ap (λ p. get_or ws p 0) (sym place) ∙ sym (get_or-chunk (at + b * 8) 8 ws j 0 inside) ∙ (fold_none 0 (chunk (at + b * 8) 8 ws) none).1 j (omega (arith, length-chunk (at + b * 8) 8 ws room))
]

-- one block more of four runs of words has no bit in common
pub next_apart_block : (ws : List ℕ) (a b c d i : ℕ) → a + i * 8 + 8 ≤ length ws → b + i * 8 + 8 ≤ length ws → c + i * 8 + 8 ≤ length ws → d + i * 8 + 8 ≤ length ws
    → fold_l bit_or 0 (zip2 bit_or (zip2 bit_and (chunk (a + i * 8) 8 ws) (chunk (b + i * 8) 8 ws)) (zip2 bit_and (chunk (c + i * 8) 8 ws) (chunk (d + i * 8) 8 ws))) ≡ 0
    → ((k : ℕ) → k < i * 8 → bit_or (bit_and (word ws a k) (word ws b k)) (bit_and (word ws c k) (word ws d k)) ≡ 0)
    → (k : ℕ) → k < (i + 1) * 8 → bit_or (bit_and (word ws a k) (word ws b k)) (bit_and (word ws c k) (word ws d k)) ≡ 0
next_apart_block ws a b c d i room_a room_b room_c room_d none before k below = elim (cases_lt k (i * 8)) [
  | inl early ↦ before k early
  | inr late ↦
      let j : ℕ = k - i * 8 in
      let inside : j < 8 = omega arith in
      let long : (r : ℕ) → r + i * 8 + 8 ≤ length ws → length (chunk (r + i * 8) 8 ws) ≡ 8 = λ r room. length-chunk (r + i * 8) 8 ws room in
      let lane : (r : ℕ) → get_or (chunk (r + i * 8) 8 ws) j 0 ≡ word ws r k =
      λ r. get_or-chunk (r + i * 8) 8 ws j 0 inside ∙ ap (λ p. get_or ws p 0) (let place : r + i * 8 + j ≡ r + k = omega arith in place) in
      let pair : (r s : ℕ) → r + i * 8 + 8 ≤ length ws → s + i * 8 + 8 ≤ length ws → get_or (zip2 bit_and (chunk (r + i * 8) 8 ws) (chunk (s + i * 8) 8 ws)) j 0 ≡ bit_and (word ws r k) (word ws s k) =
      λ r s room_r room_s. get_or-zip2 bit_and (chunk (r + i * 8) 8 ws) (chunk (s + i * 8) 8 ws) j 0 0 0 (omega (arith, inside, long r room_r)) (omega (arith, inside, long s room_s)) ∙ ap₂ bit_and (lane r) (lane s) in
      let long_pair : (r s : ℕ) → r + i * 8 + 8 ≤ length ws → s + i * 8 + 8 ≤ length ws → length (zip2 bit_and (chunk (r + i * 8) 8 ws) (chunk (s + i * 8) 8 ws)) ≡ 8 =
      λ r s room_r room_s. length-zip2 bit_and (chunk (r + i * 8) 8 ws) (chunk (s + i * 8) 8 ws) (long r room_r ∙ sym (long s room_s)) ∙ long r room_r in
      let one : List ℕ = zip2 bit_and (chunk (a + i * 8) 8 ws) (chunk (b + i * 8) 8 ws) in
      let other : List ℕ = zip2 bit_and (chunk (c + i * 8) 8 ws) (chunk (d + i * 8) 8 ws) in
      let long_one : length one ≡ 8 = long_pair a b room_a room_b in
      let long_other : length other ≡ 8 = long_pair c d room_c room_d in
      let long_all : length (zip2 bit_or one other) ≡ 8 = length-zip2 bit_or one other (long_one ∙ sym long_other) ∙ long_one in
      sym (get_or-zip2 bit_or one other j 0 0 0 (omega (arith, inside, long_one)) (omega (arith, inside, long_other)) ∙ ap₂ bit_or (pair a b room_a room_b) (pair c d room_c room_d))
      ∙ (fold_none 0 (zip2 bit_or one other) none).1 j (omega (arith, inside, long_all))
]
