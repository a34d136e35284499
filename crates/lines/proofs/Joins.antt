-- Pieces, and the bytes that they give back.
use Rattle.std.proofs.Common.{◌≡◌, ℕ, true, false, List, [], ◌∷◌, ◌++◌, ◌==◌, refl, sym, ap, subst, cond, ◌∙◌, ⊎_elim, arith}
use Rattle.std.proofs.lemmas.Bool.{cases_Bool, cond-true, cond-false, or_parts, or_from}
use Rattle.std.proofs.lemmas.Bool.Decides.{nat_tests}
use Rattle.std.specs.List.{list_any}
use Rattle.lines.specs.Lines.{pieces, on_first, is_feed, with_feeds, ended, HaveNoFeed}

first-no-feed : (b : ℕ) (parts : List (List ℕ)) → is_feed b ≡ false → HaveNoFeed parts → HaveNoFeed (on_first b parts)
first-no-feed b [] other none = (or_from _ _ other refl, tt)
first-no-feed b (part ∷ parts) other none = (or_from _ _ other none.0, none.1)

-- no piece has a line feed
pub pieces-no-feed : (bytes : List ℕ) → HaveNoFeed (pieces bytes)
pieces-no-feed [] = tt
pieces-no-feed (b ∷ bytes) = ⊎_elim
    (λ feed. subst HaveNoFeed (sym (cond-true (b == 10) ([] ∷ pieces bytes) (on_first b (pieces bytes)) feed)) (refl, pieces-no-feed bytes))
    (λ other. subst HaveNoFeed (sym (cond-false (b == 10) ([] ∷ pieces bytes) (on_first b (pieces bytes)) other)) (first-no-feed b (pieces bytes) other (pieces-no-feed bytes)))
    (cases_Bool (b == 10))

-- bytes up to a line feed are a piece
piece-first : (part rest : List ℕ) → list_any is_feed part ≡ false → pieces (part ++ 10 ∷ rest) ≡ part ∷ pieces rest
piece-first [] rest none = refl
piece-first (b ∷ part) rest none =
    let parts = or_parts (is_feed b) (list_any is_feed part) none in
    cond-false _ _ _ parts.0 ∙ ap (on_first b) (piece-first part rest parts.1)

-- parts without a line feed are the pieces of what they give back
parts-back : (parts : List (List ℕ)) → HaveNoFeed parts → pieces (with_feeds parts) ≡ parts
parts-back [] none = refl
parts-back (part ∷ parts) none = piece-first part (with_feeds parts) none.0 ∙ ap (λ ps. part ∷ ps) (parts-back parts none.1)

-- a line feed at the end makes no piece more
pub ended-same : (bytes : List ℕ) → pieces (ended bytes) ≡ pieces bytes
ended-same [] = refl
ended-same (b ∷ []) = ⊎_elim
    (λ feed. ap pieces (cond-true (b == 10) (b ∷ []) (b ∷ 10 ∷ []) feed))
    (λ other. ap pieces (cond-false (b == 10) (b ∷ []) (b ∷ 10 ∷ []) other) ∙ (cond-false (b == 10) ([] ∷ pieces (10 ∷ [])) (on_first b (pieces (10 ∷ []))) other ∙ sym (cond-false (b == 10) ([] ∷ []) (on_first b []) other)))
    (cases_Bool (b == 10))
ended-same (b ∷ c ∷ bytes) = ap (λ ps. cond (b == 10) ([] ∷ ps) (on_first b ps)) (ended-same (c ∷ bytes))

feed-is : (b : ℕ) → (b == 10) ≡ true → b ≡ 10
feed-is b feed = grind (arith, nat_tests)

back-more : (b c : ℕ) (bytes : List ℕ) → with_feeds (on_first b (pieces (c ∷ bytes))) ≡ b ∷ with_feeds (pieces (c ∷ bytes))
back-more b c bytes = ⊎_elim
    (λ feed. rw (cond-true (c == 10) ([] ∷ pieces bytes) (on_first c (pieces bytes)) feed) refl)
    (λ other. rw (cond-false (c == 10) ([] ∷ pieces bytes) (on_first c (pieces bytes)) other) (later (pieces bytes)))
    (cases_Bool (c == 10))
  where
    later : (parts : List (List ℕ)) → with_feeds (on_first b (on_first c parts)) ≡ b ∷ with_feeds (on_first c parts)
    later [] = refl
    later (part ∷ parts) = refl

-- the pieces give the bytes back
pub pieces-back : (bytes : List ℕ) → with_feeds (pieces bytes) ≡ ended bytes
pieces-back [] = refl
pieces-back (b ∷ []) = ⊎_elim
    (λ feed. ap with_feeds (cond-true (b == 10) ([] ∷ []) (on_first b []) feed) ∙ (ap (λ n. n ∷ []) (sym (feed-is b feed)) ∙ sym (cond-true (b == 10) (b ∷ []) (b ∷ 10 ∷ []) feed)))
    (λ other. ap with_feeds (cond-false (b == 10) ([] ∷ []) (on_first b []) other) ∙ sym (cond-false (b == 10) (b ∷ []) (b ∷ 10 ∷ []) other))
    (cases_Bool (b == 10))
pieces-back (b ∷ c ∷ bytes) = ⊎_elim
    (λ feed. ap with_feeds (cond-true (b == 10) ([] ∷ pieces (c ∷ bytes)) (on_first b (pieces (c ∷ bytes))) feed) ∙ (ap (λ n. n ∷ with_feeds (pieces (c ∷ bytes))) (sym (feed-is b feed)) ∙ ap (λ bs. b ∷ bs) (pieces-back (c ∷ bytes))))
    (λ other. ap with_feeds (cond-false (b == 10) ([] ∷ pieces (c ∷ bytes)) (on_first b (pieces (c ∷ bytes))) other) ∙ (back-more b c bytes ∙ ap (λ bs. b ∷ bs) (pieces-back (c ∷ bytes))))
    (cases_Bool (b == 10))

-- parts without a line feed that give the bytes back are the pieces
pub pieces-unique : (bytes : List ℕ) (parts : List (List ℕ)) → HaveNoFeed parts → with_feeds parts ≡ ended bytes → parts ≡ pieces bytes
pieces-unique bytes parts none back = sym (parts-back parts none) ∙ (ap pieces back ∙ ended-same bytes)
