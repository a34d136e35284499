-- Where the first line feed stands.
use Rattle.std.proofs.Common.{◌≡◌, ℕ, zero, suc, ◌+◌, ◌-◌, ◌<◌, ◌≤◌, ◌==◌, true, false, List, [], ◌∷◌, ◌++◌, length, take, drop, Some, None, refl, sym, ap, ◌∙◌, subst, arith, ⊎_elim, length-drop, take_all}
use Rattle.std.proofs.lemmas.Bool.{cases_Bool, cond-true, cond-false, false_from_ne_true, not_from_true, not_from_false, or_from, or_parts}
use Rattle.std.proofs.lemmas.List.Sums.{position_or_len_is}
use Rattle.std.specs.List.{list_any, position_or_len}
use Rattle.memchr.specs.Find.{IsFirstByte, is_byte}
use Rattle.lines.specs.Lines.{is_feed, on_first, pieces}

hit : (b : ℕ) (bytes : List ℕ) → is_feed b ≡ true → position_or_len is_feed (b ∷ bytes) ≡ 0
hit b bytes feed = cond-false _ _ _ (not_from_true _ feed)

miss : (b : ℕ) (bytes : List ℕ) → is_feed b ≡ false → position_or_len is_feed (b ∷ bytes) ≡ position_or_len is_feed bytes + 1
miss b bytes other = cond-true _ _ _ (not_from_false _ other) ∙ omega arith

skipped : (n : ℕ) (bytes : List ℕ) → n ≤ length bytes → n ≤ position_or_len is_feed bytes → position_or_len is_feed bytes ≡ n + position_or_len is_feed (drop n bytes)
skipped zero bytes inside before = omega arith
skipped (suc n) [] inside before = absurd (omega arith)
skipped (suc n) (b ∷ bytes) inside before = ⊎_elim
    (λ feed. absurd (omega (arith, hit b bytes feed)))
    (λ other. omega (arith, miss b bytes other, skipped n bytes (omega arith) (omega (arith, miss b bytes other))))
    (cases_Bool (b == 10))

found-at : (bytes : List ℕ) (n : ℕ) → IsFirstByte (is_byte 10) bytes (Some n) → position_or_len is_feed bytes ≡ n
found-at bytes n first =
    position_or_len_is is_feed bytes n 0 (omega (arith, first.0.high)) (λ k below. false_from_ne_true _ (first.0.before k (omega arith) below)) (λ inside. first.1)

found-none : (bytes : List ℕ) → IsFirstByte (is_byte 10) bytes None → position_or_len is_feed bytes ≡ length bytes
found-none bytes none =
    position_or_len_is is_feed bytes (length bytes) 0 (omega arith) (λ k below. false_from_ne_true _ (none k (omega arith) below)) (λ inside. absurd (omega arith))

-- where a search behind bytes without a line feed finds one, that is the first line feed of all
pub search-found : (searched n : ℕ) (bytes : List ℕ) → searched ≤ length bytes → searched ≤ position_or_len is_feed bytes
    → IsFirstByte (is_byte 10) (take (length bytes - searched) (drop searched bytes)) (Some n) → searched + n ≡ position_or_len is_feed bytes
search-found searched n bytes inside before first =
    let rest : take (length bytes - searched) (drop searched bytes) ≡ drop searched bytes = take_all _ _ (omega (arith, length-drop searched bytes)) in
    omega (arith, skipped searched bytes inside before, found-at (drop searched bytes) n (subst (λ bs. IsFirstByte (is_byte 10) bs (Some n)) rest first))

-- where a search behind bytes without a line feed finds none, the bytes have none
pub search-none : (searched : ℕ) (bytes : List ℕ) → searched ≤ length bytes → searched ≤ position_or_len is_feed bytes
    → IsFirstByte (is_byte 10) (take (length bytes - searched) (drop searched bytes)) None → position_or_len is_feed bytes ≡ length bytes
search-none searched bytes inside before none =
    let rest : take (length bytes - searched) (drop searched bytes) ≡ drop searched bytes = take_all _ _ (omega (arith, length-drop searched bytes)) in
    omega (arith, skipped searched bytes inside before, found-none (drop searched bytes) (subst (λ bs. IsFirstByte (is_byte 10) bs None) rest none), length-drop searched bytes)

-- the first line feed of a front is the first of all
look-is : (n : ℕ) (bytes : List ℕ) → position_or_len is_feed (take n bytes) < n → position_or_len is_feed bytes ≡ position_or_len is_feed (take n bytes)
look-is zero bytes below = absurd (omega arith)
look-is (suc n) [] below = refl
look-is (suc n) (b ∷ bytes) below = ⊎_elim
    (λ feed. hit b bytes feed ∙ sym (hit b (take n bytes) feed))
    (λ other. miss b bytes other ∙ (ap (λ k. k + 1) (look-is n bytes (omega (arith, miss b (take n bytes) other))) ∙ sym (miss b (take n bytes) other)))
    (cases_Bool (b == 10))

-- where a front has no line feed, none stands within as many bytes
look-past : (n : ℕ) (bytes : List ℕ) → n ≤ length bytes → n ≤ position_or_len is_feed (take n bytes) → n ≤ position_or_len is_feed bytes
look-past zero bytes long none = omega arith
look-past (suc n) [] long none = absurd (omega arith)
look-past (suc n) (b ∷ bytes) long none = ⊎_elim
    (λ feed. absurd (omega (arith, hit b (take n bytes) feed)))
    (λ other. omega (arith, miss b bytes other, look-past n bytes (omega arith) (omega (arith, miss b (take n bytes) other))))
    (cases_Bool (b == 10))

-- where a look at bytes behind others without a line feed finds one, that is the first line feed of all
pub look-found : (searched n before : ℕ) (bytes : List ℕ) → searched ≤ length bytes → searched ≤ position_or_len is_feed bytes
    → before ≡ position_or_len is_feed (take n (drop searched bytes)) → before < n → searched + before ≡ position_or_len is_feed bytes
look-found searched n before bytes inside none is below =
    omega (arith, is, skipped searched bytes inside none, look-is n (drop searched bytes) (omega (arith, is)))

-- where it finds none, none stands before the bytes behind it
pub look-none : (searched n before : ℕ) (bytes : List ℕ) → searched + n ≤ length bytes → searched ≤ position_or_len is_feed bytes
    → before ≡ position_or_len is_feed (take n (drop searched bytes)) → n ≤ before → searched + n ≤ position_or_len is_feed bytes
look-none searched n before bytes inside none is past =
    omega (arith, skipped searched bytes (omega arith) none, look-past n (drop searched bytes) (omega (arith, length-drop searched bytes)) (omega (arith, is)))

-- before the first line feed there is none
pub none-before : (bytes : List ℕ) (n : ℕ) → n ≤ position_or_len is_feed bytes → list_any is_feed (take n bytes) ≡ false
none-before bytes zero before = refl
none-before [] (suc n) before = refl
none-before (b ∷ bytes) (suc n) before = ⊎_elim
    (λ feed. absurd (omega (arith, hit b bytes feed)))
    (λ other. or_from _ _ other (none-before bytes n (omega (arith, miss b bytes other))))
    (cases_Bool (b == 10))

same : (n : ℕ) → suc (n + 1) ≡ suc n + 1
same n = omega arith

-- at the place of the first line feed stands one
pub feed-at : (bytes : List ℕ) (n : ℕ) → n ≡ position_or_len is_feed bytes → n < length bytes → drop n bytes ≡ 10 ∷ drop (n + 1) bytes
feed-at [] n at inside = absurd (omega arith)
feed-at (b ∷ bytes) zero at inside = ⊎_elim
    (λ feed. ap (λ x. x ∷ bytes) (feed-is b feed))
    (λ other. absurd (omega (arith, miss b bytes other)))
    (cases_Bool (b == 10))
  where
    feed-is : (b : ℕ) → (b == 10) ≡ true → b ≡ 10
    feed-is b feed = grind (arith, Rattle.std.proofs.lemmas.Bool.Decides.nat_tests)
feed-at (b ∷ bytes) (suc n) at inside = ⊎_elim
    (λ feed. absurd (omega (arith, hit b bytes feed)))
    (λ other. feed-at bytes n (omega (arith, miss b bytes other)) (omega arith) ∙ ap (λ k. 10 ∷ drop k (b ∷ bytes)) (same n))
    (cases_Bool (b == 10))

-- what was searched stays searched where more follows
pub reached-more : (bytes more : List ℕ) → position_or_len is_feed bytes ≡ length bytes → length bytes ≤ position_or_len is_feed (bytes ++ more)
reached-more [] more none = omega arith
reached-more (b ∷ bytes) more none = ⊎_elim
    (λ feed. absurd (omega (arith, hit b bytes feed)))
    (λ other. omega (arith, miss b (bytes ++ more) other, reached-more bytes more (omega (arith, miss b bytes other))))
    (cases_Bool (b == 10))

-- bytes up to a line feed are a piece
pub piece-first : (part rest : List ℕ) → list_any is_feed part ≡ false → pieces (part ++ 10 ∷ rest) ≡ part ∷ pieces rest
piece-first [] rest none = refl
piece-first (b ∷ part) rest none =
    let parts = or_parts (is_feed b) (list_any is_feed part) none in
    cond-false _ _ _ parts.0 ∙ ap (on_first b) (piece-first part rest parts.1)

-- bytes without a line feed are one piece
pub piece-alone : (part : List ℕ) → list_any is_feed part ≡ false → 0 < length part → pieces part ≡ part ∷ []
piece-alone [] none some = absurd (omega arith)
piece-alone (b ∷ []) none some = cond-false _ _ _ (or_parts (is_feed b) false none).0
piece-alone (b ∷ a ∷ part) none some =
    let parts = or_parts (is_feed b) (list_any is_feed (a ∷ part)) none in
    cond-false _ _ _ parts.0 ∙ ap (on_first b) (piece-alone (a ∷ part) parts.1 (omega arith))

-- the first of these pieces has at least so many bytes
pub record IsLong (n : ℕ) (ps : List (List ℕ)) : Type 0 where
  pub piece : List ℕ
  pub rest : List (List ℕ)
  pub is : ps ≡ piece ∷ rest
  pub long : n ≤ length piece

long-on : (b n : ℕ) (ps : List (List ℕ)) → IsLong n ps → IsLong (suc n) (on_first b ps)
long-on b n ps first = record { piece = b ∷ first.piece; rest = first.rest; is = ap (on_first b) first.is; long = omega (arith, first.long) }

long-one : (b : ℕ) (ps : List (List ℕ)) → IsLong 1 (on_first b ps)
long-one b [] = record { piece = b ∷ []; rest = []; is = refl; long = omega arith }
long-one b (p ∷ ps) = record { piece = b ∷ p; rest = ps; is = refl; long = omega arith }

-- bytes without a line feed stand in one piece
pub first-long : (part rest : List ℕ) → list_any is_feed part ≡ false → 0 < length part → IsLong (length part) (pieces (part ++ rest))
first-long [] rest none some = absurd (omega arith)
first-long (b ∷ []) rest none some =
    subst (IsLong 1) (sym (cond-false (b == 10) ([] ∷ pieces rest) (on_first b (pieces rest)) (or_parts (is_feed b) false none).0)) (long-one b (pieces rest))
first-long (b ∷ a ∷ part) rest none some =
    let parts = or_parts (is_feed b) (list_any is_feed (a ∷ part)) none in
    subst (IsLong (suc (suc (length part)))) (sym (cond-false (b == 10) ([] ∷ pieces ((a ∷ part) ++ rest)) (on_first b (pieces ((a ∷ part) ++ rest))) parts.0))
    (long-on b (suc (length part)) (pieces ((a ∷ part) ++ rest)) (first-long (a ∷ part) rest parts.1 (omega arith)))
