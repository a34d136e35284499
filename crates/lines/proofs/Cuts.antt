-- The first piece of some bytes.
use Rattle.std.proofs.Common.{◌≡◌, ℕ, Some, None, sym, zero, suc, ◌+◌, ◌-◌, ◌<◌, ◌≤◌, true, false, List, [], ◌∷◌, ◌==◌, length, take, drop, ap, ◌∙◌, ⊎_elim, arith, take_all, length-drop}
use Rattle.std.proofs.lemmas.Bool.{cases_Bool, cond-true, cond-false, false_from_ne_true, not_from_true, not_from_false}
use Rattle.std.proofs.lemmas.List.Sums.{position_or_len_is}
use Rattle.memchr.specs.Find.{IsFirstByte, is_byte}
use Rattle.std.specs.List.{position_or_len}
use Rattle.lines.specs.Lines.{pieces, on_first, is_feed}

position-hit : (b : ℕ) (bytes : List ℕ) → is_feed b ≡ true → position_or_len is_feed (b ∷ bytes) ≡ 0
position-hit b bytes feed = cond-false _ _ _ (not_from_true _ feed)

position-miss : (b : ℕ) (bytes : List ℕ) → is_feed b ≡ false → position_or_len is_feed (b ∷ bytes) ≡ position_or_len is_feed bytes + 1
position-miss b bytes other = cond-true _ _ _ (not_from_false _ other) ∙ omega arith

same : (n : ℕ) → suc (n + 1) ≡ suc n + 1
same n = omega arith

-- bytes with a line feed: the first piece stands before it, and the others are those of what stands behind it
pub pieces-cut : (bytes : List ℕ) (n : ℕ) → n ≡ position_or_len is_feed bytes → n < length bytes → pieces bytes ≡ take n bytes ∷ pieces (drop (n + 1) bytes)
pieces-cut [] n at inside = absurd (omega arith)
pieces-cut (b ∷ bytes) zero at inside = ⊎_elim
    (λ feed. cond-true _ _ _ feed)
    (λ other. absurd (omega (arith, position-miss b bytes other)))
    (cases_Bool (b == 10))
pieces-cut (b ∷ bytes) (suc n) at inside = ⊎_elim
    (λ feed. absurd (omega (arith, position-hit b bytes feed)))
    (λ other. cond-false _ _ _ other ∙ (ap (on_first b) (pieces-cut bytes n (omega (arith, position-miss b bytes other)) (omega arith)) ∙ ap (λ k. (b ∷ take n bytes) ∷ pieces (drop k (b ∷ bytes))) (same n)))
    (cases_Bool (b == 10))

-- bytes with none are one piece
pub pieces-last : (bytes : List ℕ) → length bytes ≤ position_or_len is_feed bytes → 0 < length bytes → pieces bytes ≡ bytes ∷ []
pieces-last [] past some = absurd (omega arith)
pieces-last (b ∷ []) past some = ⊎_elim
    (λ feed. absurd (omega (arith, position-hit b [] feed)))
    (λ other. cond-false _ _ _ other)
    (cases_Bool (b == 10))
pieces-last (b ∷ a ∷ bytes) past some = ⊎_elim
    (λ feed. absurd (omega (arith, position-hit b (a ∷ bytes) feed)))
    (λ other. cond-false (b == 10) _ _ other ∙ ap (on_first b) (pieces-last (a ∷ bytes) (omega (arith, position-miss b (a ∷ bytes) other)) (omega arith)))
    (cases_Bool (b == 10))

-- what stands from a place on, as a slice up to the end
pub rest_is : (n : ℕ) (t : List ℕ) → take (length t - n) (drop n t) ≡ drop n t
rest_is n t = take_all _ _ (omega (arith, length-drop n t))

-- what a search for a line feed finds
pub first-feed : (bytes : List ℕ) (n : ℕ) → IsFirstByte (is_byte 10) bytes (Some n) → n ≡ position_or_len is_feed bytes
first-feed bytes n first =
    sym (position_or_len_is is_feed bytes n 0 (omega (arith, first.0.high)) (λ k below. false_from_ne_true _ (first.0.before k (omega arith) below)) (λ inside. first.1))

-- where the search finds none, there is none
pub no-feed : (bytes : List ℕ) → IsFirstByte (is_byte 10) bytes None → length bytes ≤ position_or_len is_feed bytes
no-feed bytes none =
    omega (arith, position_or_len_is is_feed bytes (length bytes) 0 (omega arith) (λ k below. false_from_ne_true _ (none k (omega arith) below)) (λ inside. absurd (omega arith)))
