-- Steps of the loops over words.
use Rattle.std.proofs.Common.{◌≡◌, ◌≢◌, ℕ, ◌+◌, ◌^◌, ◌<◌, List, length, get_or, set, refl, sym, ap, ◌∙◌, subst, arith, inl, inr}
use Rattle.std.proofs.lemmas.List.{length-set, set_past, get_or-set_same, get_or-set_other}
use Rattle.std.proofs.lemmas.Bool.{cases_eq, cases_lt}
use Rattle.std.proofs.lemmas.Nat.{le_or_l, le_or_r, and_le_l}
use Rattle.std.specs.Int.Bits.{bit_or, bit_xor, xor_self, or_zero_l}
use lib.Bits.{bit_and}
use Rattle.bit_rows.specs.Written.{word, AllFit, IsApart, IsWritten, HasSeen}
use Rattle.bit_rows.proofs.Bitwise.{same_from_xor}

-- before the loop no word is written
pub none_written : (ws : List ℕ) (at : ℕ) (given : ℕ → ℕ) → IsWritten ws ws at 0 given
none_written ws at given = record { size = refl; inside = λ k h. absurd (omega arith); before = λ k h. refl; behind = λ k h. refl }

-- after one more write one word more is the given one
pub next_written : (old new : List ℕ) (at i v : ℕ) (given : ℕ → ℕ) → at + i < length old → v ≡ given i → IsWritten old new at i given → IsWritten old (set new (at + i) v) at (i + 1) given
next_written old new at i v given room is h =
    let fits : at + i < length new = omega (arith, h.size) in
    record {
      size = length-set new (at + i) v ∙ h.size;
      inside = λ k below. elim (cases_eq k i) [
        | inl same ↦ subst (λ j. get_or (set new (at + i) v) (at + j) 0 ≡ given j) (sym same) (get_or-set_same new (at + i) v 0 fits ∙ is)
        | inr other ↦
            let apart : at + k ≢ at + i = λ e. other (omega arith) in
            get_or-set_other new (at + i) (at + k) v 0 apart ∙ h.inside k (let below_i : k < i = grind arith in below_i)
      ];
      before = λ k below.
          let apart : k ≢ at + i = λ e. (let no : ⊥ = omega arith in no) in
          get_or-set_other new (at + i) k v 0 apart ∙ h.before k below;
      behind = λ k above.
          let apart : k ≢ at + i = λ e. (let no : ⊥ = omega arith in no) in
          get_or-set_other new (at + i) k v 0 apart ∙ h.behind k (omega arith);
    }

-- of no words none differ
pub none_seen : (one other : ℕ → ℕ) → HasSeen 0 one other 0
none_seen one other = record { none = λ e k h. absurd (omega arith); some = λ h. absurd (omega arith) }

-- the difference of one word more is taken up
pub next_seen : (i : ℕ) (one other : ℕ → ℕ) (more : ℕ) → HasSeen i one other more → HasSeen (i + 1) one other (bit_or more (bit_xor (one i) (other i)))
next_seen i one other more h =
    let left = le_or_l more (bit_xor (one i) (other i)) in
    let right = le_or_r more (bit_xor (one i) (other i)) in
    record {
      none = λ e k below. elim (cases_eq k i) [
        | inl same ↦ subst (λ j. one j ≡ other j) (sym same) (same_from_xor (one i) (other i) (omega arith))
        | inr not_last ↦ h.none (omega arith) k (let below_i : k < i = grind arith in below_i)
      ];
      some = λ positive. elim (cases_lt 0 more) [
        | inl earlier ↦ let p = h.some earlier in (p.0, omega (arith, p.1), p.2)
        | inr zero_more ↦ (
          i,
          omega arith,
          λ same.
              let nothing : more ≡ 0 = omega arith in
              let gone : bit_or more (bit_xor (one i) (other i)) ≡ 0 =
              ap (λ m. bit_or m (bit_xor (one i) (other i))) nothing ∙ or_zero_l (bit_xor (one i) (other i)) ∙ ap (λ x. bit_xor x (other i)) same ∙ xor_self (other i) in
              (let no : ⊥ = omega arith in no),
        )
      ];
    }

-- the word that is written next has not changed
pub here_kept : (old new : List ℕ) (to i : ℕ) (given : ℕ → ℕ) → IsWritten old new to i given → word new to i ≡ word old to i
here_kept old new to i given h = h.behind (to + i) (omega arith)

-- a run that lies apart has not changed
pub apart_kept : (old new : List ℕ) (to from i n : ℕ) (given : ℕ → ℕ) → IsApart to from n → i < n → IsWritten old new to i given → word new from i ≡ word old from i
apart_kept old new to from i n given apart below h = elim apart [
  | inl after ↦ h.behind (from + i) (omega arith)
  | inr ahead ↦ h.before (from + i) (omega arith)
]

-- after a write each word still has 64 bits
pub next_fits : (ws : List ℕ) (place v : ℕ) → AllFit ws → v < 2 ^ 64 → AllFit (set ws place v)
next_fits ws place v fits small k = elim (cases_eq k place) [
  | inl same ↦ elim (cases_lt place (length ws)) [
    | inl inside ↦ subst (λ x. x < 2 ^ 64) (sym (ap (λ j. get_or (set ws place v) j 0) same ∙ get_or-set_same ws place v 0 inside)) small
    | inr past ↦ subst (λ l. get_or l k 0 < 2 ^ 64) (sym (set_past ws place v past)) (fits k)
  ]
  | inr other ↦ subst (λ x. x < 2 ^ 64) (sym (get_or-set_other ws place k v 0 other)) (fits k)
]

-- what two words have in common has 64 bits
pub and_fits : (a b : ℕ) → a < 2 ^ 64 → bit_and a b < 2 ^ 64
and_fits a b small = omega (arith, and_le_l a b)
