-- What stands in a list in the order first met.
use Rattle.std.proofs.Common.{◌≡◌, ℕ, Bool, true, false, ◌||◌, List, [], ◌∷◌, ◌++◌, length, take, refl, sym, ap, ◌∙◌, subst, ⊎_elim, true≢false, append-nil, append_assoc}
use Rattle.std.proofs.Math.Seq.{take-append_seam}
use Rattle.std.proofs.lemmas.Bool.{cases_Bool, cond-true, cond-false, false_from_ne_true}
use Rattle.std.proofs.lemmas.List.Folds.{list_any-append}
use Rattle.std.proofs.lemmas.List.Sums.{fold-append}
use Rattle.std.proofs.lemmas.Slice.Eq.{bytes_eq-Decides}
use Rattle.std.specs.Bool.{Decides}
use Rattle.std.specs.List.{fold, list_any}
use Rattle.std.specs.Str.{bytes_eq}
use Rattle.traces.specs.Words.{same_key, with_new, first_met, AreApart, TellsFirstMet}
use Rattle.trace_keys.specs.Keys.{Key}
use Rattle.trace_keys.proofs.Apart.{apart-push}
use Rattle.trace_keys.proofs.Keys.{same_key-Decides}

or-false : (a : Bool) → (a || false) ≡ a
or-false true = refl
or-false false = refl

or-assoc : (a b c : Bool) → ((a || b) || c) ≡ (a || (b || c))
or-assoc true b c = refl
or-assoc false b c = refl

swap : {X : Type 0} (same : X → X → Bool) → ((a b : X) → Decides (same a b) (a ≡ b)) → (a b : X) → same a b ≡ false → same b a ≡ false
swap same decides a b differ = false_from_ne_true (same b a) (λ is. true≢false (sym ((decides a b).1 (sym ((decides b a).0 is))) ∙ differ))

apart-met : {X : Type 0} (same : X → X → Bool) → ((a b : X) → Decides (same a b) (a ≡ b)) → (met xs : List X) → AreApart same met → AreApart same (fold (with_new same) met xs)
apart-met same decides met [] apart = apart
apart-met same decides met (x ∷ xs) apart = apart-met same decides (with_new same met x) xs
    (⊎_elim
    (λ old. subst (AreApart same) (sym (cond-true _ _ _ old)) apart)
    (λ new. subst (AreApart same) (sym (cond-false _ _ _ new)) (apart-push same met x (swap same decides) apart new))
    (cases_Bool (list_any (same x) met)))

member-new : {X : Type 0} (same : X → X → Bool) → ((a b : X) → Decides (same a b) (a ≡ b)) → (x y : X) (met : List X) → list_any (same x) (with_new same met y) ≡ (list_any (same x) met || same x y)
member-new same decides x y met = ⊎_elim
    (λ old. ap (list_any (same x)) (cond-true _ _ _ old)
    ∙ ⊎_elim
    (λ is. let there : list_any (same x) met ≡ true = subst (λ z. list_any (same z) met ≡ true) (sym ((decides x y).0 is)) old in there ∙ sym (ap (λ b. b || same x y) there))
    (λ differ. sym (ap (λ b. list_any (same x) met || b) differ ∙ or-false (list_any (same x) met)))
    (cases_Bool (same x y)))
    (λ new. ap (list_any (same x)) (cond-false _ _ _ new) ∙ (list_any-append (same x) met (y ∷ []) ∙ ap (λ b. list_any (same x) met || b) (or-false (same x y))))
    (cases_Bool (list_any (same y) met))

members-met : {X : Type 0} (same : X → X → Bool) → ((a b : X) → Decides (same a b) (a ≡ b)) → (x : X) (met xs : List X) → list_any (same x) (fold (with_new same) met xs) ≡ (list_any (same x) met || list_any (same x) xs)
members-met same decides x met [] = sym (or-false (list_any (same x) met))
members-met same decides x met (y ∷ xs) =
    members-met same decides x (with_new same met y) xs
    ∙ (ap (λ b. b || list_any (same x) xs) (member-new same decides x y met) ∙ or-assoc (list_any (same x) met) (same x y) (list_any (same x) xs))

more-behind : {X : Type 0} (same : X → X → Bool) (met ys : List X) → (rest : List X) × (fold (with_new same) met ys ≡ met ++ rest)
more-behind same met [] = ([], sym (append-nil met))
more-behind same met (y ∷ ys) =
    let more = more-behind same (with_new same met y) ys in
    ⊎_elim
    (λ old. (more.0, more.1 ∙ ap (λ ms. ms ++ more.0) (cond-true _ _ _ old)))
    (λ new. (y ∷ more.0, more.1 ∙ (ap (λ ms. ms ++ more.0) (cond-false _ _ _ new) ∙ append_assoc met (y ∷ []) more.0)))
    (cases_Bool (list_any (same y) met))

first-met : {X : Type 0} (same : X → X → Bool) → ((a b : X) → Decides (same a b) (a ≡ b)) → (xs ys : List X) → TellsFirstMet same xs ys
first-met same decides xs ys =
    let more = more-behind same (first_met same xs) ys in record {
      apart = apart-met same decides [] xs tt;
      members = λ x. members-met same decides x [] xs;
      later = ap (take (length (first_met same xs))) (fold-append (with_new same) [] xs ys ∙ more.1) ∙ take-append_seam (first_met same xs) more.0;
    }

-- so of texts
pub types-first_met : (xs ys : List (List ℕ)) → TellsFirstMet bytes_eq xs ys
types-first_met xs ys = first-met bytes_eq bytes_eq-Decides xs ys

-- so of keys
pub keys-first_met : (xs ys : List Key) → TellsFirstMet same_key xs ys
keys-first_met xs ys = first-met same_key same_key-Decides xs ys
