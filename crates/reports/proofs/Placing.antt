-- Lists of ids in slots and among the rest.
use Rattle.std.proofs.Common.{◌≡◌, ◌⊎◌, ℕ, zero, suc, ◌+◌, ◌<◌, Bool, true, false, ◌||◌, ◌==◌, List, [], ◌∷◌, ◌++◌, length, set, refl, sym, ap, ◌∙◌, subst, inl, inr, ⊎_elim, arith, true≢false, Option, Some, None, Result, Ok, Err, IfOk, OnOk, OnErr}
use Rattle.std.proofs.lemmas.Bool.{cases_Bool, cases_lt, cond-true, cond-false, false_from_ne_true, not_from_true, not_from_false, or_left, or_right, or_parts, or_from}
use Rattle.std.proofs.lemmas.Bool.Decides.{nat_tests}
use Rattle.std.proofs.lemmas.List.{length-map, map-append}
use Rattle.std.proofs.lemmas.List.Folds.{list_any-append}
use Rattle.std.proofs.lemmas.Option.{same_Some, none-some, slice_get-map}
use Rattle.std.proofs.lemmas.Slice.Eq.{bytes_eq-Decides}
use Rattle.std.specs.Bool.{IsTrue}
use Rattle.std.specs.Borrow.{Bor}
use Rattle.std.specs.List.{slice_get, list_any, position_or_len}
use Rattle.std.specs.Option.{option_map, option_map_or}
use Rattle.std.specs.Str.{bytes_eq}
use Rattle.traces.specs.Words.{AreApart, with_new}
use Rattle.reports.specs.Lists.{shown_lists, home_of, is_empty_at, HaveOthers, Finds, Stands, rest_place, RestGrows, IsInRest, IsPlaced, AreListsPlaced}
use Rattle.reports.specs.declared.slots.Found.{Found}
use Rattle.reports.specs.declared.slots.Found.TheVariants.{Free, Full}
use Rattle.reports.specs.declared.slots.TheConstants.{WINDOW, EMPTY}

-- a list stands where its reference does
pub shown-at : (lists : List (Bor (List ℕ))) (place : ℕ) (list : Bor (List ℕ)) → slice_get lists place ≡ Some list → slice_get (shown_lists lists) place ≡ Some list.now
shown-at lists place list at = slice_get-map (λ (l : Bor (List ℕ)). l.now) lists place ∙ ap (option_map (λ (l : Bor (List ℕ)). l.now)) at

-- nothing stands where no reference does
pub shown-past : (lists : List (Bor (List ℕ))) (place : ℕ) → slice_get lists place ≡ None → slice_get (shown_lists lists) place ≡ None
shown-past lists place at = slice_get-map (λ (l : Bor (List ℕ)). l.now) lists place ∙ ap (option_map (λ (l : Bor (List ℕ)). l.now)) at

-- there are as many lists as references
pub shown-length : (lists : List (Bor (List ℕ))) → length (shown_lists lists) ≡ length lists
shown-length lists = length-map lists (λ (l : Bor (List ℕ)). l.now)

-- with one reference more, there is one list more
pub shown-push : (lists : List (Bor (List ℕ))) (list : Bor (List ℕ)) → shown_lists (lists ++ list ∷ []) ≡ shown_lists lists ++ list.now ∷ []
shown-push lists list = map-append (λ (l : Bor (List ℕ)). l.now) lists (list ∷ [])

-- the test of two lists tells whether one stands where the other does
pub told-list : (found : Option (List ℕ)) (list ids : List ℕ) (same : Bool) → found ≡ Some list → same ≡ bytes_eq list ids
    → (IsTrue same → found ≡ Some ids) × (found ≡ Some ids → IsTrue same)
told-list found list ids same at is = (
  λ passes. at ∙ ap (λ l. Some l) ((bytes_eq-Decides list ids).0 (sym is ∙ passes)),
  λ there. is ∙ (bytes_eq-Decides list ids).1 (same_Some list ids (sym at ∙ there)),
)

-- lists at their places

same-self : (ids : List ℕ) → bytes_eq ids ids ≡ true
same-self ids = (bytes_eq-Decides ids ids).1 refl

same-≡ : (xs ys : List ℕ) → bytes_eq xs ys ≡ true → xs ≡ ys
same-≡ xs ys same = (bytes_eq-Decides xs ys).0 same

same-swap : (xs ys : List ℕ) → bytes_eq xs ys ≡ false → bytes_eq ys xs ≡ false
same-swap xs ys differ = false_from_ne_true (bytes_eq ys xs) (λ same. true≢false (sym ((bytes_eq-Decides xs ys).1 (sym (same-≡ ys xs same))) ∙ differ))

-- the last list stands at the end
last-stands : (lists : List (List ℕ)) (ids : List ℕ) → slice_get (lists ++ ids ∷ []) (length lists) ≡ Some ids
last-stands [] ids = refl
last-stands (l ∷ lists) ids = last-stands lists ids

-- what stood at a place still does with one list more
still-stands : (lists : List (List ℕ)) (ids : List ℕ) (i : ℕ) (q : List ℕ) → slice_get lists i ≡ Some q → slice_get (lists ++ ids ∷ []) i ≡ Some q
still-stands [] ids i q at = absurd (none-some q at)
still-stands (l ∷ lists) ids zero q at = at
still-stands (l ∷ lists) ids (suc i) q at = still-stands lists ids i q at

-- what stands at a place with one list more: one that stood there, or that list
stands-before : (lists : List (List ℕ)) (ids : List ℕ) (i : ℕ) (q : List ℕ) → slice_get (lists ++ ids ∷ []) i ≡ Some q → (slice_get lists i ≡ Some q) ⊎ ((i ≡ length lists) × (q ≡ ids))
stands-before [] ids zero q at = inr (refl, sym (same_Some ids q at))
stands-before [] ids (suc i) q at = absurd (none-some q at)
stands-before (l ∷ lists) ids zero q at = inl at
stands-before (l ∷ lists) ids (suc i) q at = ⊎_elim
    (λ here. inl here)
    (λ last. inr (omega (arith, last.0), last.1))
    (stands-before lists ids i q at)

-- a list that stands somewhere is one of the lists
stands-any : (lists : List (List ℕ)) (i : ℕ) (ids : List ℕ) → slice_get lists i ≡ Some ids → list_any (bytes_eq ids) lists ≡ true
stands-any [] i ids at = absurd (none-some ids at)
stands-any (l ∷ lists) zero ids at = or_left _ _ (ap (bytes_eq ids) (same_Some l ids at) ∙ same-self ids)
stands-any (l ∷ lists) (suc i) ids at = or_right _ _ (stands-any lists i ids at)

-- one of the lists stands somewhere
any-stands : (lists : List (List ℕ)) (ids : List ℕ) → list_any (bytes_eq ids) lists ≡ true → (i : ℕ) × (slice_get lists i ≡ Some ids)
any-stands [] ids any = absurd (true≢false (sym any))
any-stands (l ∷ lists) ids any = ⊎_elim
    (λ hit. (zero, ap (λ xs. Some xs) (sym (same-≡ ids l hit))))
    (λ miss.
    let rest = any-stands lists ids (sym (ap (λ b. b || list_any (bytes_eq ids) lists) miss) ∙ any) in
    (suc rest.0, rest.1))
    (cases_Bool (bytes_eq ids l))

-- no two are the same after a new one at the end
apart-push : (lists : List (List ℕ)) (ids : List ℕ) → AreApart bytes_eq lists → list_any (bytes_eq ids) lists ≡ false → AreApart bytes_eq (lists ++ ids ∷ [])
apart-push [] ids apart none = (refl, tt)
apart-push (l ∷ lists) ids apart none =
    let parts = or_parts (bytes_eq ids l) (list_any (bytes_eq ids) lists) none in (
      list_any-append (bytes_eq l) lists (ids ∷ []) ∙ or_from _ _ apart.0 (or_from _ _ (same-swap ids l parts.0) refl),
      apart-push lists ids apart.1 parts.1,
    )

-- what stands at a place is first met there
apart-place : (lists : List (List ℕ)) (i : ℕ) (ids : List ℕ) → AreApart bytes_eq lists → slice_get lists i ≡ Some ids → position_or_len (bytes_eq ids) lists ≡ i
apart-place [] i ids apart at = absurd (none-some ids at)
apart-place (l ∷ lists) zero ids apart at = cond-false _ _ _ (not_from_true _ (ap (bytes_eq ids) (same_Some l ids at) ∙ same-self ids))
apart-place (l ∷ lists) (suc i) ids apart at =
    let miss : bytes_eq ids l ≡ false =
    false_from_ne_true (bytes_eq ids l) (λ hit. true≢false (sym (stands-any lists i l (at ∙ ap (λ (k : List ℕ). Some k) (same-≡ ids l hit))) ∙ apart.0)) in
    cond-true _ _ _ (not_from_false _ miss) ∙ omega (arith, apart-place lists i ids apart.1 at)

-- a list that is not there would stand at the end
pub none-length : (lists : List (List ℕ)) (ids : List ℕ) → list_any (bytes_eq ids) lists ≡ false → position_or_len (bytes_eq ids) lists ≡ length lists
none-length [] ids none = refl
none-length (l ∷ lists) ids none =
    let parts = or_parts (bytes_eq ids l) (list_any (bytes_eq ids) lists) none in
    cond-true _ _ _ (not_from_false _ parts.0) ∙ omega (arith, none-length lists ids parts.1)

-- slots that are set

get-set-same : (slots : List ℕ) (at new slot : ℕ) → slice_get slots at ≡ Some slot → slice_get (set slots at new) at ≡ Some new
get-set-same [] at new slot is = absurd (none-some slot is)
get-set-same (s ∷ slots) zero new slot is = refl
get-set-same (s ∷ slots) (suc at) new slot is = get-set-same slots at new slot is

get-set-other : (slots : List ℕ) (at new i : ℕ) → (i ≡ at → ⊥) → slice_get (set slots at new) i ≡ slice_get slots i
get-set-other [] at new i other = refl
get-set-other (s ∷ slots) zero new zero other = absurd (other refl)
get-set-other (s ∷ slots) zero new (suc i) other = refl
get-set-other (s ∷ slots) (suc at) new zero other = refl
get-set-other (s ∷ slots) (suc at) new (suc i) other = get-set-other slots at new i (λ e. other (omega (arith, e)))

-- a slot that is empty is there
empty-there : (slots : List ℕ) (at : ℕ) → is_empty_at slots at ≡ true → (slot : ℕ) × (slice_get slots at ≡ Some slot)
empty-there slots at empty = by (slice_get slots at) refl
  where
    by : (found : Option ℕ) → slice_get slots at ≡ found → (slot : ℕ) × (slice_get slots at ≡ Some slot)
    by None is = absurd (true≢false (sym empty ∙ ap (λ f. option_map_or (λ (s : ℕ). s == EMPTY) f false) is))
    by (Some slot) is = (slot, is)

-- a slot that is taken is another than one that is empty
another : (slots : List ℕ) (at i : ℕ) → is_empty_at slots at ≡ true → is_empty_at slots i ≡ false → i ≡ at → ⊥
another slots at i empty taken same = true≢false (sym empty ∙ (ap (λ k. is_empty_at slots k) (sym same) ∙ taken))

-- a slot that is taken still is when an empty one is set
taken-kept : (slots : List ℕ) (at new i : ℕ) → is_empty_at slots at ≡ true → is_empty_at slots i ≡ false → is_empty_at (set slots at new) i ≡ false
taken-kept slots at new i empty taken =
    ap (λ f. option_map_or (λ (s : ℕ). s == EMPTY) f false) (get-set-other slots at new i (another slots at i empty taken)) ∙ taken

-- a slot that is set to a small place is taken
taken-set : (slots : List ℕ) (at place : ℕ) → place < 4294967295 → is_empty_at slots at ≡ true → is_empty_at (set slots at place) at ≡ false
taken-set slots at place few empty =
    let there = empty-there slots at empty in
    let small : (place == EMPTY) ≡ false = grind (arith, nat_tests) in
    ap (λ f. option_map_or (λ (s : ℕ). s == EMPTY) f false) (get-set-same slots at place there.0 there.1) ∙ small

-- what stands in a slot still does when an empty one is set
stands-kept : (slots : List ℕ) (at new home place : ℕ) → is_empty_at slots at ≡ true → Stands slots home place → Stands (set slots at new) home place
stands-kept slots at new home place empty stands =
    let i : ℕ = stands.0 in
    let taken : is_empty_at slots (home + i) ≡ false = stands.1.2 i (omega arith) in (
      i,
      (
        stands.1.0,
        get-set-other slots at new (home + i) (another slots at (home + i) empty taken) ∙ stands.1.1,
        λ k before. taken-kept slots at new (home + k) empty (stands.1.2 k before),
      ),
    )

-- a list that is placed still is when another gets a slot
placed-by-slot : (slots : List ℕ) (shift : ℕ) (rest : List (Bor (List ℕ) × ℕ)) (at new : ℕ) (q : List ℕ) (p : ℕ)
    → is_empty_at slots at ≡ true → IsPlaced slots shift rest q p → IsPlaced (set slots at new) shift rest q p
placed-by-slot slots shift rest at new q p empty placed = ⊎_elim
    (λ stands. inl (stands-kept slots at new (home_of shift q) p empty stands))
    (λ elsewhere. inr (λ k before. taken-kept slots at new (home_of shift q + k) empty (elsewhere.0 k before), elsewhere.1))
    placed

-- the list that gets a slot is placed
placed-in-slot : (lists : List (List ℕ)) (slots : List ℕ) (ids : List ℕ) (home i place : ℕ) → place < 4294967295 → i < WINDOW → is_empty_at slots (home + i) ≡ true
    → HaveOthers lists slots ids home i → Stands (set slots (home + i) place) home place
placed-in-slot lists slots ids home i place few near empty others =
    let there = empty-there slots (home + i) empty in (
      i,
      (
        near,
        get-set-same slots (home + i) place there.0 there.1,
        λ k before. elim (cases_lt k i) [
          | inl below ↦ taken-kept slots (home + i) place (home + k) empty (others k below).0
          | inr last ↦
              let here : i ≡ k = omega (arith, before, last) in
              subst (λ (m : ℕ). is_empty_at (set slots (home + i) place) (home + m) ≡ false) here (taken-set slots (home + i) place few empty)
        ],
      ),
    )

-- a list to which no slot leads

-- is not there where a slot is empty
pub new-by-slot : (slots : List ℕ) (shift : ℕ) (rest : List (Bor (List ℕ) × ℕ)) (lists : List (List ℕ)) (ids : List ℕ) (i : ℕ) → AreListsPlaced slots shift rest lists → i < WINDOW
    → is_empty_at slots (home_of shift ids + i) ≡ true → HaveOthers lists slots ids (home_of shift ids) i → list_any (bytes_eq ids) lists ≡ false
new-by-slot slots shift rest lists ids i placed near empty others = false_from_ne_true (list_any (bytes_eq ids) lists) (λ any.
    let there = any-stands lists ids any in
    ⊎_elim
    (λ (slot : Stands slots (home_of shift ids) there.0). elim (cases_lt slot.0 i) [
      | inl before ↦ (others slot.0 before).1 there.0 slot.1.1 there.1
      | inr late ↦ true≢false (sym empty ∙ slot.1.2 i (omega (arith, late)))
    ])
    (λ elsewhere. true≢false (sym empty ∙ elsewhere.0 i near))
    (placed.placed there.0 ids there.1))

-- nor where the rest have no place for it
pub new-by-rest : (slots : List ℕ) (shift : ℕ) (rest : List (Bor (List ℕ) × ℕ)) (lists : List (List ℕ)) (ids : List ℕ) → AreListsPlaced slots shift rest lists
    → HaveOthers lists slots ids (home_of shift ids) WINDOW → rest_place rest ids ≡ None → list_any (bytes_eq ids) lists ≡ false
new-by-rest slots shift rest lists ids placed others none = false_from_ne_true (list_any (bytes_eq ids) lists) (λ any.
    let there = any-stands lists ids any in
    ⊎_elim
    (λ (slot : Stands slots (home_of shift ids) there.0). (others slot.0 slot.1.0).1 there.0 slot.1.1 there.1)
    (λ elsewhere. none-some there.0 (sym none ∙ elsewhere.1))
    (placed.placed there.0 ids there.1))

-- one list more

-- in a slot
pub begun-in-slot : (slots : List ℕ) (shift : ℕ) (rest : List (Bor (List ℕ) × ℕ)) (lists : List (List ℕ)) (ids : List ℕ) (i : ℕ) → length lists < 4294967295
    → AreListsPlaced slots shift rest lists → i < WINDOW → is_empty_at slots (home_of shift ids + i) ≡ true → HaveOthers lists slots ids (home_of shift ids) i
    → AreListsPlaced (set slots (home_of shift ids + i) (length lists)) shift rest (lists ++ ids ∷ [])
begun-in-slot slots shift rest lists ids i few placed near empty others =
    let after : List ℕ = set slots (home_of shift ids + i) (length lists) in
    record {
      placed = λ p q at. ⊎_elim
          (λ before. placed-by-slot slots shift rest (home_of shift ids + i) (length lists) q p empty (placed.placed p q before))
          (λ last. subst (λ (k : List ℕ). IsPlaced after shift rest k p) (sym last.1)
          (subst (λ (n : ℕ). IsPlaced after shift rest ids n) (sym last.0) (inl (placed-in-slot lists slots ids (home_of shift ids) i (length lists) few near empty others))))
          (stands-before lists ids p q at);
      known = λ q p is. still-stands lists ids p q (placed.known q p is);
      apart = apart-push lists ids placed.apart (new-by-slot slots shift rest lists ids i placed near empty others);
    }

-- a list that is there is another than a new one
other-list : (lists : List (List ℕ)) (ids q : List ℕ) (p : ℕ) → list_any (bytes_eq ids) lists ≡ false → slice_get lists p ≡ Some q → bytes_eq q ids ≡ false
other-list lists ids q p none at = false_from_ne_true (bytes_eq q ids) (λ same.
    true≢false (sym (stands-any lists p ids (at ∙ ap (λ (k : List ℕ). Some k) (same-≡ q ids same))) ∙ none))

-- among the rest
pub begun-in-rest : (slots : List ℕ) (shift : ℕ) (old new : List (Bor (List ℕ) × ℕ)) (lists : List (List ℕ)) (ids : List ℕ) → AreListsPlaced slots shift old lists
    → HaveOthers lists slots ids (home_of shift ids) WINDOW → rest_place old ids ≡ None → RestGrows old new ids (length lists) → AreListsPlaced slots shift new (lists ++ ids ∷ [])
begun-in-rest slots shift old new lists ids placed others none grows =
    let is-new = new-by-rest slots shift old lists ids placed others none in
    record {
      placed = λ p q at. ⊎_elim
          (λ before. ⊎_elim
          (λ stands. inl stands)
          (λ elsewhere. inr (elsewhere.0, grows q ∙ (cond-false _ _ _ (other-list lists ids q p is-new before) ∙ elsewhere.1)))
          (placed.placed p q before))
          (λ last. subst (λ (k : List ℕ). IsPlaced slots shift new k p) (sym last.1)
          (subst (λ (n : ℕ). IsPlaced slots shift new ids n) (sym last.0) (inr (λ k before. (others k before).0, grows ids ∙ cond-true _ _ _ (same-self ids)))))
          (stands-before lists ids p q at);
      known = λ q p is. ⊎_elim
          (λ same.
          let here : length lists ≡ p = same_Some (length lists) p (sym (cond-true _ _ _ same) ∙ (sym (grows q) ∙ is)) in
          subst (λ (n : ℕ). slice_get (lists ++ ids ∷ []) n ≡ Some q) here (last-stands lists ids ∙ ap (λ (k : List ℕ). Some k) (sym (same-≡ q ids same))))
          (λ differ. still-stands lists ids p q (placed.known q p (sym (cond-false _ _ _ differ) ∙ (sym (grows q) ∙ is))))
          (cases_Bool (bytes_eq q ids));
      apart = apart-push lists ids placed.apart is-new;
    }

-- what the code has computed

-- what is found from the home that was computed
pub found-home : (ls lists : List (Bor (List ℕ))) (ss slots : List ℕ) (ids : List ℕ) (home shift : ℕ) (found : Found)
    → ls ≡ lists → ss ≡ slots → home ≡ home_of shift ids → Finds (shown_lists ls) ss ids home found
    → Finds (shown_lists lists) slots ids (home_of shift ids) found
found-home ls lists ss slots ids home shift found same-lists same-slots is finds =
    subst (λ (h : ℕ). Finds (shown_lists lists) slots ids h found) is
    (subst (λ (xs : List ℕ). Finds (shown_lists lists) xs ids home found) same-slots
    (subst (λ (xs : List (Bor (List ℕ))). Finds (shown_lists xs) ss ids home found) same-lists finds))

-- the place that is answered, and the lists after
abbrev pub IsDone : List (List ℕ) → List ℕ → ℕ → List (List ℕ) → Type 0
IsDone lists ids place after = (place ≡ position_or_len (bytes_eq ids) lists) × (after ≡ with_new bytes_eq lists ids)

-- of a list that is there
pub known-list : (lists : List (List ℕ)) (i : ℕ) (ids : List ℕ) → AreApart bytes_eq lists → slice_get lists i ≡ Some ids → IsDone lists ids i lists
known-list lists i ids apart at = (sym (apart-place lists i ids apart at), sym (cond-true _ _ _ (stands-any lists i ids at)))

-- of a new one
new-list : (lists : List (List ℕ)) (ids : List ℕ) → list_any (bytes_eq ids) lists ≡ false → IsDone lists ids (length lists) (lists ++ ids ∷ [])
new-list lists ids none = (sym (none-length lists ids none), sym (cond-false _ _ _ none))

-- of one that is put in a slot
pub put-in-slot : (slots : List ℕ) (shift : ℕ) (rest : List (Bor (List ℕ) × ℕ)) (lists after : List (List ℕ)) (ids : List ℕ) (at place : ℕ) → length lists < 4294967295
    → AreListsPlaced slots shift rest lists → Finds lists slots ids (home_of shift ids) (Free at) → place ≡ length lists → after ≡ lists ++ ids ∷ []
    → AreListsPlaced (set slots at place) shift rest after × IsDone lists ids place after
put-in-slot slots shift rest lists after ids at place few placed found last grown =
    let home : ℕ = home_of shift ids in
    let empty : is_empty_at slots (home + found.0) ≡ true = subst (λ (n : ℕ). is_empty_at slots n ≡ true) found.1.1 found.1.2 in
    let begun = begun-in-slot slots shift rest lists ids found.0 few placed found.1.0 empty found.1.3 in
    let done = new-list lists ids (new-by-slot slots shift rest lists ids found.0 placed found.1.0 empty found.1.3) in
    subst (λ (xs : List (List ℕ)). AreListsPlaced (set slots at place) shift rest xs × IsDone lists ids place xs) (sym grown)
    (subst (λ (n : ℕ). AreListsPlaced (set slots at n) shift rest (lists ++ ids ∷ []) × IsDone lists ids n (lists ++ ids ∷ [])) (sym last)
    (subst (λ (n : ℕ). AreListsPlaced (set slots n (length lists)) shift rest (lists ++ ids ∷ []) × IsDone lists ids (length lists) (lists ++ ids ∷ [])) (sym found.1.1)
    (begun, done)))

-- of one whose slots all have others
pub put-in-rest : {E : Type 0} (r : Result ℕ E) (slots : List ℕ) (shift : ℕ) (old new : List (Bor (List ℕ) × ℕ)) (lists after : List (List ℕ)) (ids : List ℕ)
    → AreListsPlaced slots shift old lists → Finds lists slots ids (home_of shift ids) Full
    → IfOk r (λ place. IsInRest lists old ids place after new) → OnErr r ((after ≡ lists) × (new ≡ old))
    → AreListsPlaced slots shift new after × IfOk r (λ place. IsDone lists ids place after)
put-in-rest (Err e) slots shift old new lists after ids placed full done kept =
    (subst (λ (xs : List (List ℕ)). AreListsPlaced slots shift new xs) (sym kept.0) (subst (λ (es : List (Bor (List ℕ) × ℕ)). AreListsPlaced slots shift es lists) (sym kept.1) placed), tt)
put-in-rest (Ok place) slots shift old new lists after ids placed full done kept = by done
  where
    by : IsInRest lists old ids place after new → AreListsPlaced slots shift new after × IsDone lists ids place after
    by (inl there) =
        subst (λ (xs : List (List ℕ)). AreListsPlaced slots shift new xs × IsDone lists ids place xs) (sym there.1)
        (subst (λ (es : List (Bor (List ℕ) × ℕ)). AreListsPlaced slots shift es lists) (sym there.2) placed, known-list lists place ids placed.apart (placed.known ids place there.0))
    by (inr new-one) =
        subst (λ (xs : List (List ℕ)). AreListsPlaced slots shift new xs × IsDone lists ids place xs) (sym new-one.2) (
          begun-in-rest slots shift old new lists ids placed full new-one.0 (subst (λ (n : ℕ). RestGrows old new ids n) new-one.1 new-one.3),
          subst (λ (n : ℕ). IsDone lists ids n (lists ++ ids ∷ [])) (sym new-one.1) (new-list lists ids (new-by-rest slots shift old lists ids placed full new-one.0)),
        )

-- the place alone, and the lists alone
pub done-place : {E : Type 0} (r : Result ℕ E) (lists view after : List (List ℕ)) (ids : List ℕ) → lists ≡ view → IfOk r (λ place. IsDone lists ids place after)
    → IfOk r (λ place. place ≡ position_or_len (bytes_eq ids) view)
done-place (Ok place) lists view after ids same done = done.0 ∙ ap (position_or_len (bytes_eq ids)) same
done-place (Err e) lists view after ids same done = tt

pub done-lists : {E : Type 0} (r : Result ℕ E) (lists view after : List (List ℕ)) (ids : List ℕ) → lists ≡ view → IfOk r (λ place. IsDone lists ids place after)
    → OnOk r (after ≡ with_new bytes_eq view ids)
done-lists (Ok place) lists view after ids same done = done.1 ∙ ap (λ (xs : List (List ℕ)). with_new bytes_eq xs ids) same
done-lists (Err e) lists view after ids same done = tt
