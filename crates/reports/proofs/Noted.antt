-- A path that one more trace takes.
use Rattle.std.proofs.Common.{◌≡◌, ℕ, zero, suc, ◌+◌, ◌<◌, ◌≤◌, Bool, true, false, not, cond, ◌||◌, List, [], ◌∷◌, ◌++◌, map, length, get_or, set, refl, sym, ap, ◌∙◌, arith, ⊎_elim, true≢false}
use Rattle.std.specs.List.{list_any, position_or_len}
use Rattle.std.specs.Str.{bytes_eq}
use Rattle.std.proofs.Math.ListN.{get_or-map}
use Rattle.std.proofs.lemmas.Bool.{cases_Bool, cond-true, cond-false, not_from_true, not_from_false, true_from_ne_false, or_from}
use Rattle.std.proofs.lemmas.List.{length-map, map-append}
use Rattle.std.proofs.lemmas.List.Sums.{get_or-le-sum_by}
use Rattle.traces.specs.Words.{with_new}
use Rattle.reports.specs.declared.taken.TakenPath.{TakenPath}
use Rattle.reports.specs.Paths.{TracePath, Taken, shown, same_ids, total, with_path, AreIdsOf}
use Rattle.reports.proofs.Placing.{none-length}

-- whether a test holds of something that is made of the members is asked of the members
pub list_any-map : {X Y : Type 0} (f : X → Y) (p : Y → Bool) (xs : List X) → list_any p (map f xs) ≡ list_any (λ x. p (f x)) xs
list_any-map f p [] = refl
list_any-map f p (x ∷ xs) = ap (λ b. p (f x) || b) (list_any-map f p xs)

-- the first thing made of the members that passes stands at the place of its member
position-map : {X Y : Type 0} (f : X → Y) (p : Y → Bool) (xs : List X) → position_or_len p (map f xs) ≡ position_or_len (λ x. p (f x)) xs
position-map f p [] = refl
position-map f p (x ∷ xs) = ap (λ n. cond (not (p (f x))) (1 + n) 0) (position-map f p xs)

-- some path has the ids exactly where some list is the ids
pub any-list : (lists : List (List ℕ)) (gs : List TakenPath) (p : TracePath) → AreIdsOf lists gs
    → list_any (λ (t : Taken). same_ids p t.path) (map shown gs) ≡ list_any (bytes_eq p.ids) lists
any-list lists gs p same =
    list_any-map shown (λ (t : Taken). same_ids p t.path) gs
    ∙ (sym (list_any-map (λ (g : TakenPath). g.ids.now) (bytes_eq p.ids) gs) ∙ ap (list_any (bytes_eq p.ids)) (sym same))

-- the first list that is the ids stands at the place of the first path with them
pub position-list : (lists : List (List ℕ)) (gs : List TakenPath) (ids : List ℕ) → AreIdsOf lists gs
    → position_or_len (bytes_eq ids) lists ≡ position_or_len (λ (g : TakenPath). bytes_eq ids g.ids.now) gs
position-list lists gs ids same = ap (position_or_len (bytes_eq ids)) same ∙ position-map (λ (g : TakenPath). g.ids.now) (bytes_eq ids) gs

-- of two truth values of which none holds, each is false
pub neither : (a b : Bool) → (a || b) ≡ false → (a ≡ false) × (b ≡ false)
neither true b h = absurd (true≢false h)
neither false b h = (refl, h)

-- where no path has the ids, a new one comes at the end
pub absent : (ts : List Taken) (p : TracePath) → list_any (λ (t : Taken). same_ids p t.path) ts ≡ false
    → with_path ts p ≡ ts ++ record { path = p; count = 1 } ∷ []
absent [] p none = refl
absent (t ∷ ts) p none =
    let both = neither (same_ids p t.path) (list_any (λ (u : Taken). same_ids p u.path) ts) none in
    cond-false _ _ _ both.0 ∙ ap (λ us. t ∷ us) (absent ts p both.1)

-- the path with one trace more
abbrev pub once_more : TakenPath → Taken
once_more g = record { path = (shown g).path; count = g.count + 1 }

-- where a path has the ids, it is taken once more
pub present : (gs : List TakenPath) (p : TracePath) (i : ℕ) (d : TakenPath) → i ≡ position_or_len (λ (g : TakenPath). bytes_eq p.ids g.ids.now) gs → i < length gs
    → with_path (map shown gs) p ≡ set (map shown gs) i (once_more (get_or gs i d))
present [] p i d place inside = absurd (omega arith)
present (g ∷ gs) p zero d place inside = ⊎_elim
    (λ is. cond-true _ _ _ is)
    (λ differ. absurd (let far : 0 ≡ 1 + position_or_len (λ (h : TakenPath). bytes_eq p.ids h.ids.now) gs = place ∙ ap (λ b. cond (not b) (1 + position_or_len (λ (h : TakenPath). bytes_eq p.ids h.ids.now) gs) 0) differ in omega arith))
    (cases_Bool (bytes_eq p.ids g.ids.now))
present (g ∷ gs) p (suc i) d place inside = ⊎_elim
    (λ is. absurd (let near : suc i ≡ 0 = place ∙ ap (λ b. cond (not b) (1 + position_or_len (λ (h : TakenPath). bytes_eq p.ids h.ids.now) gs) 0) is in omega arith))
    (λ differ.
    let far : suc i ≡ 1 + position_or_len (λ (h : TakenPath). bytes_eq p.ids h.ids.now) gs = place ∙ ap (λ b. cond (not b) (1 + position_or_len (λ (h : TakenPath). bytes_eq p.ids h.ids.now) gs) 0) differ in
    cond-false _ _ _ differ ∙ ap (λ ts. shown g ∷ ts) (present gs p i d (omega arith) (omega arith)))
    (cases_Bool (bytes_eq p.ids g.ids.now))

-- the first list that is the ids stands at most at the end
position-le : (lists : List (List ℕ)) (ids : List ℕ) → position_or_len (bytes_eq ids) lists ≤ length lists
position-le [] ids = omega arith
position-le (l ∷ lists) ids = ⊎_elim
    (λ hit. let here : position_or_len (bytes_eq ids) (l ∷ lists) ≡ 0 = cond-false _ _ _ (not_from_true _ hit) in omega (arith, here))
    (λ miss. let later : position_or_len (bytes_eq ids) (l ∷ lists) ≡ 1 + position_or_len (bytes_eq ids) lists = cond-true _ _ _ (not_from_false _ miss) in omega (arith, later, position-le lists ids))
    (cases_Bool (bytes_eq ids l))

-- where it would stand at the end, no list is the ids
none-any : (lists : List (List ℕ)) (ids : List ℕ) → position_or_len (bytes_eq ids) lists ≡ length lists → list_any (bytes_eq ids) lists ≡ false
none-any [] ids end = refl
none-any (l ∷ lists) ids end = ⊎_elim
    (λ hit. absurd (let here : position_or_len (bytes_eq ids) (l ∷ lists) ≡ 0 = cond-false _ _ _ (not_from_true _ hit) in omega (arith, here, end)))
    (λ miss.
    let later : position_or_len (bytes_eq ids) (l ∷ lists) ≡ 1 + position_or_len (bytes_eq ids) lists = cond-true _ _ _ (not_from_false _ miss) in
    or_from _ _ miss (none-any lists ids (omega (arith, later, end))))
    (cases_Bool (bytes_eq ids l))

-- there are as many lists as paths
pub many-lists : (lists : List (List ℕ)) (gs : List TakenPath) → AreIdsOf lists gs → length lists ≡ length gs
many-lists lists gs same = ap length same ∙ length-map gs (λ (g : TakenPath). g.ids.now)

-- where the place is the end, no list is the ids
pub new-place : (lists : List (List ℕ)) (gs : List TakenPath) (ids : List ℕ) (place end : ℕ) → AreIdsOf lists gs → place ≡ position_or_len (bytes_eq ids) lists → end ≡ length gs
    → place ≡ end → list_any (bytes_eq ids) lists ≡ false
new-place lists gs ids place end same is all at_end = none-any lists ids (omega (arith, is, all, at_end, many-lists lists gs same))

-- where it is not, some list is, and the place is that of a path
pub taken-place : (lists : List (List ℕ)) (gs : List TakenPath) (ids : List ℕ) (place end : ℕ) → AreIdsOf lists gs → place ≡ position_or_len (bytes_eq ids) lists → end ≡ length gs
    → (place ≡ end → ⊥) → (list_any (bytes_eq ids) lists ≡ true) × (place < length gs)
taken-place lists gs ids place end same is all other =
    let many = many-lists lists gs same in
    let before : place < length gs = omega (arith, is, all, other, position-le lists ids, many) in
    (true_from_ne_false (list_any (bytes_eq ids) lists) (λ none. absurd (omega (arith, before, is, none-length lists ids none, many))), before)

-- with a new list, the lists are the ids of the paths with a new one
pub lists-more : (lists after : List (List ℕ)) (gs : List TakenPath) (g : TakenPath) → AreIdsOf lists gs → after ≡ with_new bytes_eq lists g.ids.now
    → list_any (bytes_eq g.ids.now) lists ≡ false → AreIdsOf after (gs ++ g ∷ [])
lists-more lists after gs g same is none =
    is
    ∙ (cond-false _ _ _ none
    ∙ (ap (λ (ls : List (List ℕ)). ls ++ g.ids.now ∷ []) same ∙ sym (map-append (λ (t : TakenPath). t.ids.now) gs (g ∷ []))))

-- one trace more adds at most one path
pub length-with : (ts : List Taken) (p : TracePath) → length (with_path ts p) ≤ length ts + 1
length-with [] p = omega arith
length-with (t ∷ ts) p = ⊎_elim
    (λ is. omega (arith, ap length (cond-true {A = List Taken} _ (record { path = t.path; count = t.count + 1 } ∷ ts) (t ∷ with_path ts p) is)))
    (λ differ. omega (arith, length-with ts p, ap length (cond-false {A = List Taken} _ (record { path = t.path; count = t.count + 1 } ∷ ts) (t ∷ with_path ts p) differ)))
    (cases_Bool (same_ids p t.path))

-- one path is taken no more often than all are
pub counted-le : (gs : List TakenPath) (i : ℕ) (r : TakenPath) → i < length gs → r ≡ get_or gs i r → r.count ≤ total (map shown gs)
counted-le gs i r inside at =
    let here : get_or (map shown gs) i (shown r) ≡ shown r = get_or-map shown gs i r ∙ ap shown (sym at) in
    let within : i < length (map shown gs) = omega (arith, length-map gs shown) in
    omega (arith, get_or-le-sum_by (λ (t : Taken). t.count) (map shown gs) i (shown r) within, ap (λ (t : Taken). t.count) here)
