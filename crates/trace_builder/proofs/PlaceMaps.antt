-- Maps that give the places of texts.
use Rattle.std.proofs.Common.{◌≡◌, ℕ, ◌-◌, ◌<◌, ◌≤◌, Bool, true, false, List, [], ◌∷◌, ◌++◌, length, take, cond, refl, sym, ap, ◌∙◌, subst, ⊎_elim, arith, true≢false, nat_lt, length-append, Option, Some, None, String, IfSome}
use Rattle.std.proofs.lemmas.Bool.{cases_Bool, cond-true, cond-false, false_from_ne_true, or_left, or_right, or_from}
use Rattle.std.proofs.lemmas.Bool.Decides.{nat_tests}
use Rattle.std.proofs.lemmas.List.Folds.{list_any-append}
use Rattle.std.proofs.lemmas.Option.{same_Some, none-some, slice_get_within}
use Rattle.std.proofs.lemmas.Slice.Eq.{bytes_eq-Decides}
use Rattle.std.proofs.Math.Seq.{take-append_seam}
use Rattle.std.specs.BTreeMap.{BTreeMap, get_by_text}
use Rattle.std.specs.List.{slice_get, list_any, position, position_or_len}
use Rattle.std.specs.Str.{bytes_eq}
use Rattle.std.specs.declared.alloc.Global.{Global}
use Rattle.trace_builder.specs.PlaceMaps.{AreTextPlaces, AreTextsPlaced}
use Rattle.traces.specs.Words.{AreApart}
use Rattle.traces.proofs.Grown.{position-within, position-kept, position-end}
use Rattle.trace_keys.proofs.Positions.{position-all}
use Rattle.trace_keys.proofs.Apart.{apart-push, apart-front, apart-place}

-- a place as an option and as a number

lt-true : (n m : ℕ) → n < m → nat_lt n m ≡ true
lt-true n m below = grind (arith, nat_tests)

lt-false : (n m : ℕ) → m ≤ n → nat_lt n m ≡ false
lt-false n m above = grind (arith, nat_tests)

found : {X : Type 0} (p : X → Bool) (xs : List X) → list_any p xs ≡ true → position p xs ≡ Some (position_or_len p xs)
found p xs any = cond-true _ _ _ (lt-true (position_or_len p xs) (length xs) (position-within p xs any))

missing : {X : Type 0} (p : X → Bool) (xs : List X) → list_any p xs ≡ false → position p xs ≡ None
missing p xs none = cond-false _ _ _ (lt-false (position_or_len p xs) (length xs) (omega (arith, (position-all p xs).0 none)))

-- a place that is told is the first one that passes
pub place-is : {X : Type 0} (p : X → Bool) (xs : List X) (i : ℕ) → Some i ≡ position p xs → (i ≡ position_or_len p xs) × (list_any p xs ≡ true)
place-is p xs i at = ⊎_elim
    (λ any. (same_Some i (position_or_len p xs) (at ∙ found p xs any), any))
    (λ none. absurd (none-some i (sym (missing p xs none) ∙ sym at)))
    (cases_Bool (list_any p xs))

-- where none is told, none passes
pub place-none : {X : Type 0} (p : X → Bool) (xs : List X) → None ≡ position p xs → list_any p xs ≡ false
place-none p xs at = ⊎_elim
    (λ any. absurd (none-some (position_or_len p xs) (at ∙ found p xs any)))
    (λ none. none)
    (cases_Bool (list_any p xs))

position-new : {X : Type 0} (p : X → Bool) (xs : List X) (x : X) → list_any p xs ≡ false → p x ≡ true → position p (xs ++ x ∷ []) ≡ Some (length xs)
position-new p xs x none hit =
    found p (xs ++ x ∷ []) (list_any-append p xs (x ∷ []) ∙ or_right _ _ (or_left _ _ hit)) ∙ ap (λ n. Some n) (position-end p xs x none hit)

position-other : {X : Type 0} (p : X → Bool) (xs : List X) (x : X) → p x ≡ false → position p (xs ++ x ∷ []) ≡ position p xs
position-other p xs x miss = ⊎_elim
    (λ any. found p (xs ++ x ∷ []) (list_any-append p xs (x ∷ []) ∙ or_left _ _ any) ∙ (ap (λ n. Some n) (position-kept p xs x any) ∙ sym (found p xs any)))
    (λ none. missing p (xs ++ x ∷ []) (list_any-append p xs (x ∷ []) ∙ or_from _ _ none (or_from _ _ miss refl)) ∙ sym (missing p xs none))
    (cases_Bool (list_any p xs))

-- one text more, and one less

other-text : (t cs : List ℕ) → bytes_eq t cs ≡ false → bytes_eq cs t ≡ false
other-text t cs differ = false_from_ne_true (bytes_eq cs t) (λ same. true≢false (sym ((bytes_eq-Decides t cs).1 (sym ((bytes_eq-Decides cs t).0 same))) ∙ differ))

-- the places after a new text
pub text-places-grow : (old new : BTreeMap (String Global) ℕ) (texts : List (List ℕ)) (t : List ℕ) → AreTextPlaces old texts → list_any (bytes_eq t) texts ≡ false
    → ((cs : List ℕ) → get_by_text new cs ≡ cond (bytes_eq t cs) (Some (length texts)) (get_by_text old cs)) → AreTextPlaces new (texts ++ t ∷ [])
text-places-grow old new texts t so_far none grown cs = ⊎_elim
    (λ same.
    let is : t ≡ cs = (bytes_eq-Decides t cs).0 same in
    grown cs ∙ (cond-true _ _ _ same
    ∙ sym (position-new (bytes_eq cs) texts t (subst (λ x. list_any (bytes_eq x) texts ≡ false) is none) ((bytes_eq-Decides cs t).1 (sym is)))))
    (λ differ. grown cs ∙ (cond-false _ _ _ differ ∙ (so_far cs ∙ sym (position-other (bytes_eq cs) texts t (other-text t cs differ)))))
    (cases_Bool (bytes_eq t cs))

-- the places without the last text
pub text-places-shrink : (old new : BTreeMap (String Global) ℕ) (texts : List (List ℕ)) (t : List ℕ) → AreTextPlaces old (texts ++ t ∷ []) → list_any (bytes_eq t) texts ≡ false
    → ((cs : List ℕ) → get_by_text new cs ≡ cond (bytes_eq t cs) None (get_by_text old cs)) → AreTextPlaces new texts
text-places-shrink old new texts t so_far none shrunk cs = ⊎_elim
    (λ same. shrunk cs ∙ (cond-true _ _ _ same ∙ sym (missing (bytes_eq cs) texts (subst (λ x. list_any (bytes_eq x) texts ≡ false) ((bytes_eq-Decides t cs).0 same) none))))
    (λ differ. shrunk cs ∙ (cond-false _ _ _ differ ∙ (so_far cs ∙ position-other (bytes_eq cs) texts t (other-text t cs differ))))
    (cases_Bool (bytes_eq t cs))

-- what is kept after a new text
pub texts-placed-grow : (old new : BTreeMap (String Global) ℕ) (texts : List (List ℕ)) (t : List ℕ) → AreTextsPlaced old texts → list_any (bytes_eq t) texts ≡ false
    → ((cs : List ℕ) → get_by_text new cs ≡ cond (bytes_eq t cs) (Some (length texts)) (get_by_text old cs)) → AreTextsPlaced new (texts ++ t ∷ [])
texts-placed-grow old new texts t placed none grown = record {
  found = text-places-grow old new texts t placed.found none grown;
  apart = apart-push bytes_eq texts t other-text placed.apart none;
}

-- what is kept where the entries of the map stay
pub texts-placed-stay : (old new : BTreeMap (String Global) ℕ) (texts : List (List ℕ)) → AreTextsPlaced old texts → new.entries ≡ old.entries → AreTextsPlaced new texts
texts-placed-stay old new texts placed same = record {
  found = λ text. rw same (placed.found text);
  apart = placed.apart;
}

-- what is kept without the last text
pub texts-placed-shrink : (old new : BTreeMap (String Global) ℕ) (texts : List (List ℕ)) (t : List ℕ) → AreTextsPlaced old (texts ++ t ∷ []) → list_any (bytes_eq t) texts ≡ false
    → ((cs : List ℕ) → get_by_text new cs ≡ cond (bytes_eq t cs) None (get_by_text old cs)) → AreTextsPlaced new texts
texts-placed-shrink old new texts t placed none shrunk = record {
  found = text-places-shrink old new texts t placed.found none shrunk;
  apart = apart-front bytes_eq texts t placed.apart;
}

-- a text that stands at a place stands first there
pub text-at : (texts : List (List ℕ)) (i : ℕ) (t : List ℕ) → AreApart bytes_eq texts → slice_get texts i ≡ Some t → position_or_len (bytes_eq t) texts ≡ i
text-at texts i t apart at = apart-place bytes_eq bytes_eq-Decides texts i t apart at

-- all but the last
pub front : (xs : List (List ℕ)) (x : List ℕ) → take (length (xs ++ x ∷ []) - 1) (xs ++ x ∷ []) ≡ xs
front xs x =
    let long : length (xs ++ x ∷ []) - 1 ≡ length xs = omega (arith, length-append xs (x ∷ [])) in
    ap (λ n. take n (xs ++ x ∷ [])) long ∙ take-append_seam xs (x ∷ [])

-- a test of a place against a length

-- the test passed
pub inside : (i n : ℕ) → true ≡ nat_lt i n → i < n
inside i n below = grind (arith, nat_tests)

-- the test failed
pub outside : (i n : ℕ) → false ≡ nat_lt i n → n ≤ i
outside i n above = grind (arith, nat_tests)

-- a text that stands at a place is known, and that is its place
pub known-at : (texts : List (List ℕ)) (t : List ℕ) (found : Option ℕ) → AreApart bytes_eq texts → IfSome found (λ i. slice_get texts i ≡ Some t)
    → IfSome found (λ i. i ≡ position_or_len (bytes_eq t) texts) × IfSome found (λ _. list_any (bytes_eq t) texts ≡ true)
known-at texts t None apart stands = (tt, tt)
known-at texts t (Some i) apart stands =
    let at = text-at texts i t apart stands in (
      sym at,
      ⊎_elim
          (λ yes. yes)
          (λ no. absurd (omega (arith, at, slice_get_within texts i t stands, (position-all (bytes_eq t) texts).0 no)))
          (cases_Bool (list_any (bytes_eq t) texts)),
    )
