-- Paths noted one after the other are the distinct ones in the order first met, each counted.
use Rattle.std.proofs.Common.{◌≡◌, ℕ, ◌+◌, Bool, true, false, cond, ◌||◌, List, [], ◌∷◌, ◌++◌, map, length, fold, count_by, Contains, refl, sym, ap, ◌∙◌, subst, arith, ⊎_elim, true≢false, append-nil, append_assoc}
use Rattle.std.specs.List.{list_any}
use Rattle.std.specs.Str.{bytes_eq}
use Rattle.std.proofs.lemmas.Bool.{cases_Bool, cond-true, cond-false, false_from_ne_true}
use Rattle.std.proofs.lemmas.List.{map-append}
use Rattle.std.proofs.lemmas.List.Folds.{list_any-from_Any}
use Rattle.std.proofs.lemmas.List.Sums.{sum_by-cons, sum_by_push, fold_push}
use Rattle.std.proofs.lemmas.Slice.Eq.{bytes_eq-Decides}
use Rattle.traces.specs.Words.{first_met, with_new, AreApart}
use Rattle.traces.proofs.FirstMet.{types-first_met}
use Rattle.reports.specs.Paths.{TracePath, Taken, same_ids, taken, taken_by, total, trace_path, with_path, PathsTell}
use Rattle.reports.proofs.Noted.{list_any-map, neither, absent}

-- one path more adds one to all
pub total-with : (ts : List Taken) (p : TracePath) → total (with_path ts p) ≡ total ts + 1
total-with [] p = refl
total-with (t ∷ ts) p =
    let count = λ (u : Taken). u.count in
    let more : Taken = record { path = t.path; count = t.count + 1 } in
    ⊎_elim
    (λ is. ap total (cond-true _ _ _ is) ∙ omega (arith, sum_by-cons count more ts, sum_by-cons count t ts))
    (λ differ. ap total (cond-false _ _ _ differ) ∙ omega (arith, sum_by-cons count t (with_path ts p), sum_by-cons count t ts, total-with ts p))
    (cases_Bool (same_ids p t.path))

-- paths noted one after the other add as many as they are
total-fold : (ts : List Taken) (ps : List TracePath) → total (fold with_path ts ps) ≡ total ts + length ps
total-fold ts [] = omega arith
total-fold ts (p ∷ ps) = omega (arith, total-fold (with_path ts p) ps, total-with ts p)

-- paths that pass the test have the same ids
ids-same : (p q : TracePath) → same_ids p q ≡ true → p.ids ≡ q.ids
ids-same p q is = (bytes_eq-Decides p.ids q.ids).0 is

-- where a path has the ids of another, that one has its ids
same-back : (p q : TracePath) → same_ids p q ≡ true → same_ids q p ≡ true
same-back p q is = (bytes_eq-Decides q.ids p.ids).1 (sym (ids-same p q is))

-- where a path has other ids than another, that one has other ids than it
differ-back : (p q : TracePath) → same_ids p q ≡ false → same_ids q p ≡ false
differ-back p q differ = false_from_ne_true (same_ids q p) (λ is. true≢false (sym (same-back q p is) ∙ differ))

-- paths of the same ids are met alike
met-alike : (p q : TracePath) (ps : List TracePath) → same_ids p q ≡ true → list_any (same_ids p) ps ≡ list_any (same_ids q) ps
met-alike p q ps is = ap (λ ids. list_any (λ (r : TracePath). bytes_eq ids r.ids) ps) (ids-same p q is)

-- one path more changes no count of other ids
unchanged : (ys : List TracePath) (x p : TracePath) → same_ids p x ≡ false → taken_by (ys ++ x ∷ []) p ≡ taken_by ys p
unchanged ys x p differ =
    let n : count_by (same_ids p) (ys ++ x ∷ []) ≡ count_by (same_ids p) ys =
    sum_by_push (λ y. cond (same_ids p y) 1 0) ys x ∙ (ap (λ b. count_by (same_ids p) ys + cond b 1 0) differ ∙ omega arith) in
    ap (λ (n : ℕ). record { path = p; count = n }) n

-- one path more is counted where the ids are its own
once : (ys : List TracePath) (x p : TracePath) → same_ids p x ≡ true → taken_by (ys ++ x ∷ []) p ≡ record { path = p; count = count_by (same_ids p) ys + 1 }
once ys x p is =
    let n : count_by (same_ids p) (ys ++ x ∷ []) ≡ count_by (same_ids p) ys + 1 =
    sum_by_push (λ y. cond (same_ids p y) 1 0) ys x ∙ ap (λ b. count_by (same_ids p) ys + cond b 1 0) is in
    ap (λ (n : ℕ). record { path = p; count = n }) n

-- one path more changes none of the counts, where none of them is of its ids
all-unchanged : (ys ps : List TracePath) (x : TracePath) → list_any (same_ids x) ps ≡ false → map (taken_by (ys ++ x ∷ [])) ps ≡ map (taken_by ys) ps
all-unchanged ys [] x none = refl
all-unchanged ys (p ∷ ps) x none =
    let both = neither (same_ids x p) (list_any (same_ids x) ps) none in
    ap (λ t. t ∷ map (taken_by (ys ++ x ∷ [])) ps) (unchanged ys x p (differ-back x p both.0))
    ∙ ap (λ ts. taken_by ys p ∷ ts) (all-unchanged ys ps x both.1)

-- a path that was met is counted once more
again : (ys ps : List TracePath) (x : TracePath) → AreApart same_ids ps → list_any (same_ids x) ps ≡ true
    → with_path (map (taken_by ys) ps) x ≡ map (taken_by (ys ++ x ∷ [])) ps
again ys [] x apart met = absurd (true≢false (sym met))
again ys (p ∷ ps) x apart met = ⊎_elim
    (λ is.
    cond-true _ _ _ is
    ∙ (ap (λ t. t ∷ map (taken_by ys) ps) (sym (once ys x p (same-back x p is)))
    ∙ ap (λ ts. taken_by (ys ++ x ∷ []) p ∷ ts) (sym (all-unchanged ys ps x (met-alike x p ps is ∙ apart.0)))))
    (λ differ.
    cond-false _ _ _ differ
    ∙ (ap (λ t. t ∷ with_path (map (taken_by ys) ps) x) (sym (unchanged ys x p (differ-back x p differ)))
    ∙ ap (λ ts. taken_by (ys ++ x ∷ []) p ∷ ts) (again ys ps x apart.1 (ap (λ b. b || list_any (same_ids x) ps) (sym differ) ∙ met))))
    (cases_Bool (same_ids x p))

-- the ids of the paths met, with one more, are the lists met with one more
ids-new : (met : List TracePath) (x : TracePath) → map (λ (p : TracePath). p.ids) (with_new same_ids met x) ≡ with_new bytes_eq (map (λ (p : TracePath). p.ids) met) x.ids
ids-new met x = ⊎_elim
    (λ old. ap (map (λ (p : TracePath). p.ids)) (cond-true _ _ _ old) ∙ sym (cond-true _ _ _ (list_any-map (λ (p : TracePath). p.ids) (bytes_eq x.ids) met ∙ old)))
    (λ new. ap (map (λ (p : TracePath). p.ids)) (cond-false _ _ _ new) ∙ (map-append (λ (p : TracePath). p.ids) met (x ∷ []) ∙ sym (cond-false _ _ _ (list_any-map (λ (p : TracePath). p.ids) (bytes_eq x.ids) met ∙ new))))
    (cases_Bool (list_any (same_ids x) met))

-- the ids of the paths first met are the lists first met
ids-met : (met xs : List TracePath) → map (λ (p : TracePath). p.ids) (fold (with_new same_ids) met xs) ≡ fold (with_new bytes_eq) (map (λ (p : TracePath). p.ids) met) (map (λ (p : TracePath). p.ids) xs)
ids-met met [] = refl
ids-met met (x ∷ xs) = ids-met (with_new same_ids met x) xs ∙ ap (λ lists. fold (with_new bytes_eq) lists (map (λ (p : TracePath). p.ids) xs)) (ids-new met x)

-- paths whose lists of ids are apart are apart
apart-ids : (ps : List TracePath) → AreApart bytes_eq (map (λ (p : TracePath). p.ids) ps) → AreApart same_ids ps
apart-ids [] apart = tt
apart-ids (p ∷ ps) apart = (sym (list_any-map (λ (q : TracePath). q.ids) (bytes_eq p.ids) ps) ∙ apart.0, apart-ids ps apart.1)

-- no two that are first met have the same ids
apart-met : (ys : List TracePath) → AreApart same_ids (first_met same_ids ys)
apart-met ys =
    apart-ids (first_met same_ids ys) (subst (AreApart bytes_eq) (sym (ids-met [] ys)) (types-first_met (map (λ (p : TracePath). p.ids) ys) []).apart)

-- a path is met exactly where its ids are first met
members-met : (x : TracePath) (ys : List TracePath) → list_any (same_ids x) (first_met same_ids ys) ≡ list_any (same_ids x) ys
members-met x ys =
    sym (list_any-map (λ (p : TracePath). p.ids) (bytes_eq x.ids) (first_met same_ids ys))
    ∙ (ap (list_any (bytes_eq x.ids)) (ids-met [] ys)
    ∙ ((types-first_met (map (λ (p : TracePath). p.ids) ys) []).members x.ids
    ∙ list_any-map (λ (p : TracePath). p.ids) (bytes_eq x.ids) ys))

-- a path that was not met was not counted
none-counted : (ys : List TracePath) (x : TracePath) → list_any (same_ids x) ys ≡ false → count_by (same_ids x) ys ≡ 0
none-counted [] x none = refl
none-counted (y ∷ ys) x none =
    let both = neither (same_ids x y) (list_any (same_ids x) ys) none in
    sum_by-cons (λ y. cond (same_ids x y) 1 0) y ys
    ∙ (ap (λ b. cond b 1 0 + count_by (same_ids x) ys) both.0 ∙ omega (arith, none-counted ys x both.1))

-- a path has its own ids
same-self : (x : TracePath) → same_ids x x ≡ true
same-self x = (bytes_eq-Decides x.ids x.ids).1 refl

-- a path that was not met comes behind the others, counted once
new-path : (ys ps : List TracePath) (x : TracePath) → list_any (same_ids x) ps ≡ false → list_any (same_ids x) ys ≡ false
    → with_path (map (taken_by ys) ps) x ≡ map (taken_by (ys ++ x ∷ [])) (ps ++ x ∷ [])
new-path ys ps x none-met none =
    absent (map (taken_by ys) ps) x (list_any-map (taken_by ys) (λ (t : Taken). same_ids x t.path) ps ∙ none-met)
    ∙ (ap (λ ts. ts ++ record { path = x; count = 1 } ∷ []) (sym (all-unchanged ys ps x none-met))
    ∙ (ap (λ (t : Taken). map (taken_by (ys ++ x ∷ [])) ps ++ t ∷ []) (sym (once ys x x (same-self x) ∙ ap (λ (n : ℕ). record { path = x; count = n + 1 }) (none-counted ys x none)))
    ∙ sym (map-append (taken_by (ys ++ x ∷ [])) ps (x ∷ []))))

-- the distinct paths with one more are those before it, with this one noted
taken-more : (ys : List TracePath) (x : TracePath) → taken (ys ++ x ∷ []) ≡ with_path (taken ys) x
unfolding taken
taken-more ys x =
    ap (map (taken_by (ys ++ x ∷ []))) (fold_push (with_new same_ids) [] ys x)
    ∙ ⊎_elim
    (λ old. ap (map (taken_by (ys ++ x ∷ []))) (cond-true _ _ _ old) ∙ sym (again ys (first_met same_ids ys) x (apart-met ys) old))
    (λ new. ap (map (taken_by (ys ++ x ∷ []))) (cond-false _ _ _ new) ∙ sym (new-path ys (first_met same_ids ys) x new (sym (members-met x ys) ∙ new)))
    (cases_Bool (list_any (same_ids x) (first_met same_ids ys)))

-- the distinct paths with some more are those before them, with each of these noted
taken-from : (ys xs : List TracePath) → taken (ys ++ xs) ≡ fold with_path (taken ys) xs
taken-from ys [] = ap taken (append-nil ys)
taken-from ys (x ∷ xs) =
    ap taken (sym (append_assoc ys (x ∷ []) xs))
    ∙ (taken-from (ys ++ x ∷ []) xs ∙ ap (λ ts. fold with_path ts xs) (taken-more ys x))

-- without a path there is none
taken-none : taken [] ≡ []
unfolding taken
taken-none = refl

-- the distinct paths are those that are noted one after the other
pub taken-fold : (xs : List TracePath) → taken xs ≡ fold with_path [] xs
taken-fold xs = taken-from [] xs ∙ ap (λ ts. fold with_path ts xs) taken-none

-- where no path has the ids, none is counted that has them
none-back : (ps : List TracePath) (p : TracePath) → list_any (same_ids p) ps ≡ false → count_by (λ (r : TracePath). same_ids r p) ps ≡ 0
none-back [] p none = refl
none-back (q ∷ ps) p none =
    let both = neither (same_ids p q) (list_any (same_ids p) ps) none in
    sum_by-cons (λ (r : TracePath). cond (same_ids r p) 1 0) q ps
    ∙ (ap (λ b. cond b 1 0 + count_by (λ (r : TracePath). same_ids r p) ps) (differ-back p q both.0) ∙ omega (arith, none-back ps p both.1))

-- what is made of each is counted as the things it is made of
count-map : {X Y : Type 0} (f : X → Y) (test : Y → Bool) (xs : List X) → count_by test (map f xs) ≡ count_by (λ x. test (f x)) xs
count-map f test [] = refl
count-map f test (x ∷ xs) =
    sum_by-cons (λ y. cond (test y) 1 0) (f x) (map f xs)
    ∙ (ap (λ n. cond (test (f x)) 1 0 + n) (count-map f test xs) ∙ sym (sum_by-cons (λ x. cond (test (f x)) 1 0) x xs))

-- of paths apart one has the ids
one-of : (ps : List TracePath) (p : TracePath) → AreApart same_ids ps → list_any (same_ids p) ps ≡ true → count_by (λ q. same_ids q p) ps ≡ 1
one-of [] p apart met = absurd (true≢false (sym met))
one-of (q ∷ ps) p apart met = ⊎_elim
    (λ is.
    sum_by-cons (λ (r : TracePath). cond (same_ids r p) 1 0) q ps
    ∙ (ap (λ b. cond b 1 0 + count_by (λ (r : TracePath). same_ids r p) ps) (same-back p q is)
    ∙ ap (λ n. 1 + n) (none-back ps p (met-alike p q ps is ∙ apart.0))))
    (λ differ.
    sum_by-cons (λ (r : TracePath). cond (same_ids r p) 1 0) q ps
    ∙ (ap (λ b. cond b 1 0 + count_by (λ (r : TracePath). same_ids r p) ps) (differ-back p q differ)
    ∙ ap (λ n. 0 + n) (one-of ps p apart.1 (ap (λ b. b || list_any (same_ids p) ps) (sym differ) ∙ met))))
    (cases_Bool (same_ids p q))

-- a path in the list has its ids there
contained : (ps : List TracePath) (p : TracePath) → Contains ps p → list_any (same_ids p) ps ≡ true
contained ps p there = list_any-from_Any (same_ids p) ps (there.0, p, there.1, there.2, same-self p)

-- the path of each trace has one line
one-line : (paths : List TracePath) (p : TracePath) → Contains paths p → count_by (λ (t : Taken). same_ids t.path p) (taken paths) ≡ 1
unfolding taken
one-line paths p there =
    count-map (taken_by paths) (λ (t : Taken). same_ids t.path p) (first_met same_ids paths)
    ∙ one-of (first_met same_ids paths) p (apart-met paths) (members-met p paths ∙ contained paths p there)

-- where events of one id have one type, paths with the same ids have the same types
same-types : (type_of : ℕ → ℕ) (p q : TracePath) → p.types ≡ map type_of p.ids → q.types ≡ map type_of q.ids → same_ids p q ≡ true → p ≡ q
same-types type_of p q of-p of-q is =
    let ids = ids-same p q is in
    let types : p.types ≡ q.types = of-p ∙ (ap (map type_of) ids ∙ sym of-q) in
    ap (λ (t : List ℕ). trace_path t p.ids) types ∙ ap (trace_path q.types) ids

-- the lines tell of each trace, and of each once
pub tell : PathsTell
tell = record {
  all = λ paths. ap total (taken-fold paths) ∙ (total-fold [] paths ∙ omega arith);
  once = one-line;
  same = same-types;
}
