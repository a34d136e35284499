-- Keys in slots and among the rest.
use Rattle.std.proofs.Common.{◌≡◌, ℕ, zero, suc, ◌+◌, ◌-◌, ◌<◌, ◌≤◌, true, false, List, [], ◌∷◌, ◌++◌, length, set, refl, sym, ap, ◌∙◌, subst, inl, inr, ⊎_elim, arith, true≢false, nat_lt, Option, Some, None, String, Result, Ok, Err, OnOk, OnErr}
use Rattle.std.proofs.lemmas.Bool.{cases_Bool, cases_eq, cond-true, cond-false, false_from_ne_true}
use Rattle.std.proofs.lemmas.Bool.Decides.{nat_tests}
use Rattle.std.proofs.lemmas.Option.{same_Some, none-some, slice_get_within}
use Rattle.std.specs.List.{slice_get, list_any}
use Rattle.std.specs.Option.{option_map_or}
use Rattle.std.specs.declared.alloc.Global.{Global}
use Rattle.trace_keys.specs.Keys.{Key, same_key, AreApart}
use Rattle.key_table.specs.Placed.{home_of, tag_of, is_empty, is_empty_at, IsFull, slot_of, Stands, key_home, StandsNowhere, rest_place, RestGrows, IsPlaced, ArePlaced, GrowsAt, KeepsPlaced, AreKeysPlaced}
use Rattle.trace_keys.specs.Fingerprints.{fingerprint_of, mix_of}
use Rattle.trace_keys.specs.declared.fingerprint.Fingerprint.{Fingerprint}
use Rattle.key_table.specs.declared.slots.Slot.{Slot}
use Rattle.key_table.specs.declared.slots.TheConstants.{WINDOW}
use Rattle.trace_keys.proofs.Apart.{apart-push}
use Rattle.trace_keys.proofs.Keys.{same_key-refl, same_key-≡, same_key-swap, stands-before, stands-any, any-stands, one-place}

-- slots that are set

get-set-same : (slots : List Slot) (at : ℕ) (new slot : Slot) → slice_get slots at ≡ Some slot → slice_get (set slots at new) at ≡ Some new
get-set-same [] at new slot is = absurd (none-some slot is)
get-set-same (s ∷ slots) zero new slot is = refl
get-set-same (s ∷ slots) (suc at) new slot is = get-set-same slots at new slot is

get-set-other : (slots : List Slot) (at : ℕ) (new : Slot) (i : ℕ) → (i ≡ at → ⊥) → slice_get (set slots at new) i ≡ slice_get slots i
get-set-other [] at new i other = refl
get-set-other (s ∷ slots) zero new zero other = absurd (other refl)
get-set-other (s ∷ slots) zero new (suc i) other = refl
get-set-other (s ∷ slots) (suc at) new zero other = refl
get-set-other (s ∷ slots) (suc at) new (suc i) other = get-set-other slots at new i (λ e. other (omega (arith, e)))

-- a slot that is empty is there
pub empty-there : (slots : List Slot) (at : ℕ) → is_empty_at slots at ≡ true → (slot : Slot) × ((slice_get slots at ≡ Some slot) × (is_empty slot ≡ true))
empty-there slots at empty = by (slice_get slots at) refl
  where
    by : (found : Option Slot) → slice_get slots at ≡ found → (slot : Slot) × ((slice_get slots at ≡ Some slot) × (is_empty slot ≡ true))
    by None is = absurd (true≢false (sym empty ∙ ap (λ f. option_map_or is_empty f false) is))
    by (Some slot) is = (slot, (is, sym (ap (λ f. option_map_or is_empty f false) is) ∙ empty))

-- the slot of a key with a small place is not empty
not-empty : (key : Key) (place : ℕ) → place < 4294967295 → is_empty (slot_of key place) ≡ false
not-empty key place few = grind (arith, nat_tests)

-- what stands in a slot still does when one without a place is set
slot-kept : (slots : List Slot) (at : ℕ) (new : Slot) (i : ℕ) (slot : Slot) → is_empty_at slots at ≡ true → is_empty slot ≡ false → slice_get slots i ≡ Some slot → slice_get (set slots at new) i ≡ Some slot
slot-kept slots at new i slot empty taken is = elim (cases_eq i at) [
  | inl same ↦ absurd (true≢false (sym empty ∙ (ap (λ k. is_empty_at slots k) (sym same) ∙ (ap (λ f. option_map_or is_empty f false) is ∙ taken))))
  | inr other ↦ get-set-other slots at new i other ∙ is
]

-- a slot that has a place still does when one without is set
taken-kept : (slots : List Slot) (at : ℕ) (new : Slot) (i : ℕ) → is_empty_at slots at ≡ true → is_empty_at slots i ≡ false → is_empty_at (set slots at new) i ≡ false
taken-kept slots at new i empty taken = elim (cases_eq i at) [
  | inl same ↦ absurd (true≢false (sym empty ∙ (ap (λ k. is_empty_at slots k) (sym same) ∙ taken)))
  | inr other ↦ ap (λ f. option_map_or is_empty f false) (get-set-other slots at new i other) ∙ taken
]

stands-kept : (slots : List Slot) (at : ℕ) (new : Slot) (home : ℕ) (slot : Slot) → is_empty_at slots at ≡ true → is_empty slot ≡ false → Stands slots home slot → Stands (set slots at new) home slot
stands-kept slots at new home slot empty taken stands =
    (stands.0, (stands.1.0, slot-kept slots at new (home + stands.0) slot empty taken stands.1.1, λ k before. taken-kept slots at new (home + k) empty (stands.1.2 k before)))

full-kept : (slots : List Slot) (at : ℕ) (new : Slot) (home : ℕ) → is_empty_at slots at ≡ true → is_empty new ≡ false → IsFull slots home → IsFull (set slots at new) home
full-kept slots at new home empty taken full i within = elim (cases_eq (home + i) at) [
  | inl same ↦
      let there = empty-there slots at empty in
      ap (λ k. is_empty_at (set slots at new) k) same ∙ (ap (λ f. option_map_or is_empty f false) (get-set-same slots at new there.0 there.1.0) ∙ taken)
  | inr other ↦ ap (λ f. option_map_or is_empty f false) (get-set-other slots at new (home + i) other) ∙ full i within
]

-- a key that is placed still is when another gets a slot
pub placed-by-slot : (slots : List Slot) (shift : ℕ) (rest : List ((ℕ × ℕ × ℕ × ℕ × String Global) × ℕ)) (at : ℕ) (key : Key) (place : ℕ) (q : Key) (p : ℕ)
    → is_empty_at slots at ≡ true → place < 4294967295 → p < 4294967295 → IsPlaced slots shift rest q p → IsPlaced (set slots at (slot_of key place)) shift rest q p
placed-by-slot slots shift rest at key place q p empty few few_p placed = ⊎_elim
    (λ stands. inl (stands-kept slots at (slot_of key place) (key_home shift q) (slot_of q p) empty (not-empty q p few_p) stands))
    (λ elsewhere. inr (full-kept slots at (slot_of key place) (key_home shift q) empty (not-empty key place few) elsewhere.0, elsewhere.1))
    placed

-- the key that gets a slot is placed
pub placed-in-slot : (slots : List Slot) (shift : ℕ) (rest : List ((ℕ × ℕ × ℕ × ℕ × String Global) × ℕ)) (at : ℕ) (key : Key) (place : ℕ)
    → key_home shift key ≤ at → at < key_home shift key + WINDOW → is_empty_at slots at ≡ true → ((k : ℕ) → key_home shift key + k < at → is_empty_at slots (key_home shift key + k) ≡ false)
    → IsPlaced (set slots at (slot_of key place)) shift rest key place
placed-in-slot slots shift rest at key place low high empty first =
    let home = key_home shift key in
    let there = empty-there slots at empty in
    let here : home + (at - home) ≡ at = omega arith in
    inl (
      at - home,
      (
        omega arith,
        ap (λ k. slice_get (set slots at (slot_of key place)) k) here ∙ get-set-same slots at (slot_of key place) there.0 there.1.0,
        λ k before. taken-kept slots at (slot_of key place) (home + k) empty (first k (omega (arith, low, before))),
      ),
    )

-- a key that is placed still is with other rest that have its place
pub placed-by-rest : (slots : List Slot) (shift : ℕ) (old new : List ((ℕ × ℕ × ℕ × ℕ × String Global) × ℕ)) (q : Key) (p : ℕ)
    → (rest_place old q ≡ Some p → rest_place new q ≡ Some p) → IsPlaced slots shift old q p → IsPlaced slots shift new q p
placed-by-rest slots shift old new q p kept placed = ⊎_elim
    (λ stands. inl stands)
    (λ elsewhere. inr (elsewhere.0, kept elsewhere.1))
    placed

-- a key whose slots are all taken is placed by the rest
pub placed-in-rest : (slots : List Slot) (shift : ℕ) (old new : List ((ℕ × ℕ × ℕ × ℕ × String Global) × ℕ)) (key : Key) (place : ℕ)
    → IsFull slots (key_home shift key) → RestGrows old new key place → IsPlaced slots shift new key place
placed-in-rest slots shift old new key place full grows = inr (full, grows key ∙ cond-true _ _ _ (same_key-refl key))

-- one key more

-- a key that is there is another than a new one
other-key : (keys : List Key) (key q : Key) (i : ℕ) → list_any (same_key key) keys ≡ false → slice_get keys i ≡ Some q → same_key q key ≡ false
other-key keys key q i none at = false_from_ne_true (same_key q key) (λ same.
    true≢false (sym (stands-any keys i key (at ∙ ap (λ k. Some k) (same_key-≡ q key same))) ∙ none))

-- the rest of those that are there are as before
rest-others : (old new : List ((ℕ × ℕ × ℕ × ℕ × String Global) × ℕ)) (keys : List Key) (key : Key) (place : ℕ) (q : Key) (i : ℕ) → list_any (same_key key) keys ≡ false
    → RestGrows old new key place → slice_get keys i ≡ Some q → rest_place old q ≡ Some i → rest_place new q ≡ Some i
rest-others old new keys key place q i none grows at was = grows q ∙ (cond-false _ _ _ (other-key keys key q i none at) ∙ was)

-- in a slot
pub begun-in-slot : (slots : List Slot) (shift : ℕ) (rest : List ((ℕ × ℕ × ℕ × ℕ × String Global) × ℕ)) (keys : List Key) (at : ℕ) (key : Key)
    → length keys < 4294967295 → key_home shift key ≤ at → at < key_home shift key + WINDOW → is_empty_at slots at ≡ true
    → ((k : ℕ) → key_home shift key + k < at → is_empty_at slots (key_home shift key + k) ≡ false) → list_any (same_key key) keys ≡ false
    → AreKeysPlaced slots shift rest keys → AreKeysPlaced (set slots at (slot_of key (length keys))) shift rest (keys ++ key ∷ [])
begun-in-slot slots shift rest keys at key few low high empty first none placed = record {
  placed = λ i q at_q. ⊎_elim
      (λ before. placed-by-slot slots shift rest at key (length keys) q i empty few (let within = slice_get_within keys i q before in omega arith) (placed.placed i q before))
      (λ last. subst (λ k. IsPlaced (set slots at (slot_of key (length keys))) shift rest k i) (sym last.1)
      (subst (λ n. IsPlaced (set slots at (slot_of key (length keys))) shift rest key n) (sym last.0) (placed-in-slot slots shift rest at key (length keys) low high empty first)))
      (stands-before keys key i q at_q);
  apart = apart-push same_key keys key same_key-swap placed.apart none;
}

-- among the rest
pub begun-in-rest : (slots : List Slot) (shift : ℕ) (old new : List ((ℕ × ℕ × ℕ × ℕ × String Global) × ℕ)) (keys : List Key) (key : Key)
    → IsFull slots (key_home shift key) → RestGrows old new key (length keys) → list_any (same_key key) keys ≡ false
    → AreKeysPlaced slots shift old keys → AreKeysPlaced slots shift new (keys ++ key ∷ [])
begun-in-rest slots shift old new keys key full grows none placed = record {
  placed = λ i q at_q. ⊎_elim
      (λ before. placed-by-rest slots shift old new q i (rest-others old new keys key (length keys) q i none grows before) (placed.placed i q before))
      (λ last. subst (λ k. IsPlaced slots shift new k i) (sym last.1)
      (subst (λ n. IsPlaced slots shift new key n) (sym last.0) (placed-in-rest slots shift old new key (length keys) full grows)))
      (stands-before keys key i q at_q);
  apart = apart-push same_key keys key same_key-swap placed.apart none;
}

-- among the rest, where the key itself was not put
pub kept-by-rest : (slots : List Slot) (shift : ℕ) (old new : List ((ℕ × ℕ × ℕ × ℕ × String Global) × ℕ)) (keys : List Key) (key : Key) (place : ℕ)
    → RestGrows old new key place → list_any (same_key key) keys ≡ false → AreKeysPlaced slots shift old keys → AreKeysPlaced slots shift new keys
kept-by-rest slots shift old new keys key place grows none placed = record {
  placed = λ i q at_q. placed-by-rest slots shift old new q i (rest-others old new keys key place q i none grows at_q) (placed.placed i q at_q);
  apart = placed.apart;
}

-- a key to which no slot leads

-- is not there where a slot is empty
pub new-by-slot : (slots : List Slot) (shift : ℕ) (rest : List ((ℕ × ℕ × ℕ × ℕ × String Global) × ℕ)) (keys : List Key) (key : Key) (at : ℕ)
    → ArePlaced slots shift rest keys → StandsNowhere keys slots (key_home shift key) key → key_home shift key ≤ at → at < key_home shift key + WINDOW → is_empty_at slots at ≡ true
    → list_any (same_key key) keys ≡ false
new-by-slot slots shift rest keys key at placed nowhere low high empty = false_from_ne_true (list_any (same_key key) keys) (λ any.
    let stands = any-stands keys key any in
    ⊎_elim
    (λ slot. nowhere slot.0 slot.1.0 slot.1.2 stands.0 slot.1.1 stands.1)
    (λ elsewhere.
    let home = key_home shift key in
    let here : home + (at - home) ≡ at = omega arith in
    true≢false (sym empty ∙ (ap (λ k. is_empty_at slots k) (sym here) ∙ elsewhere.0 (at - home) (omega arith))))
    (placed stands.0 key stands.1))

-- nor where the rest have no place for it at which it stands
pub new-by-rest : (slots : List Slot) (shift : ℕ) (rest : List ((ℕ × ℕ × ℕ × ℕ × String Global) × ℕ)) (keys : List Key) (key : Key)
    → ArePlaced slots shift rest keys → StandsNowhere keys slots (key_home shift key) key
    → ((place : ℕ) → rest_place rest key ≡ Some place → slice_get keys place ≡ Some key → ⊥)
    → list_any (same_key key) keys ≡ false
new-by-rest slots shift rest keys key placed nowhere lost = false_from_ne_true (list_any (same_key key) keys) (λ any.
    let stands = any-stands keys key any in
    ⊎_elim
    (λ slot. nowhere slot.0 slot.1.0 slot.1.2 stands.0 slot.1.1 stands.1)
    (λ elsewhere. lost stands.0 elsewhere.1 stands.1)
    (placed stands.0 key stands.1))

-- other rest

-- the keys are placed as before once the place of one of them is among the rest
pub kept-at : (keys : List Key) (old new : List ((ℕ × ℕ × ℕ × ℕ × String Global) × ℕ)) (place : ℕ) (key : Key) → AreApart same_key keys → slice_get keys place ≡ Some key → GrowsAt keys old new place
    → KeepsPlaced keys old new
kept-at keys old new place key apart at grows = λ slots shift placed i q at_q. placed-by-rest slots shift old new q i
    (λ was. grows key at q ∙ ⊎_elim
    (λ same. cond-true _ _ _ same ∙ ap (λ n. Some n) (one-place keys place i key apart at (at_q ∙ ap (λ k. Some k) (same_key-≡ q key same))))
    (λ differ. cond-false _ _ _ differ ∙ was)
    (cases_Bool (same_key q key)))
    (placed i q at_q)

-- the first keys are placed
abbrev pub ArePlacedTo : ℕ → List Slot → ℕ → List ((ℕ × ℕ × ℕ × ℕ × String Global) × ℕ) → List Key → Type 0
ArePlacedTo n slots shift rest keys = (place : ℕ) (key : Key) → place < n → slice_get keys place ≡ Some key → IsPlaced slots shift rest key place

-- and one more, in a slot
pub more-in-slot : (slots : List Slot) (shift : ℕ) (rest : List ((ℕ × ℕ × ℕ × ℕ × String Global) × ℕ)) (keys : List Key) (n at : ℕ) (key : Key)
    → length keys < 4294967295 → slice_get keys n ≡ Some key → key_home shift key ≤ at → at < key_home shift key + WINDOW → is_empty_at slots at ≡ true
    → ((k : ℕ) → key_home shift key + k < at → is_empty_at slots (key_home shift key + k) ≡ false)
    → ArePlacedTo n slots shift rest keys → ArePlacedTo (n + 1) (set slots at (slot_of key n)) shift rest keys
more-in-slot slots shift rest keys n at key few at_n low high empty first placed i q below at_q =
    let n_few = slice_get_within keys n key at_n in
    let i_few = slice_get_within keys i q at_q in
    elim (cases_eq i n) [
      | inl same ↦
          let is : key ≡ q = same_Some key q (sym at_n ∙ (ap (λ k. slice_get keys k) (sym same) ∙ at_q)) in
          subst (λ k. IsPlaced (set slots at (slot_of key n)) shift rest k i) is
          (subst (λ m. IsPlaced (set slots at (slot_of key n)) shift rest key m) (sym same) (placed-in-slot slots shift rest at key n low high empty first))
      | inr other ↦ placed-by-slot slots shift rest at key n q i empty (omega arith) (omega arith) (placed i q (omega (arith, other)) at_q)
    ]

-- or among the rest
pub more-in-rest : (slots : List Slot) (shift : ℕ) (old new : List ((ℕ × ℕ × ℕ × ℕ × String Global) × ℕ)) (keys : List Key) (n : ℕ) (key : Key)
    → AreApart same_key keys → slice_get keys n ≡ Some key → IsFull slots (key_home shift key) → GrowsAt keys old new n
    → ArePlacedTo n slots shift old keys → ArePlacedTo (n + 1) slots shift new keys
more-in-rest slots shift old new keys n key apart at_n full grows placed i q below at_q = elim (cases_eq i n) [
  | inl same ↦
      let is : key ≡ q = same_Some key q (sym at_n ∙ (ap (λ k. slice_get keys k) (sym same) ∙ at_q)) in
      subst (λ k. IsPlaced slots shift new k i) is
      (subst (λ m. IsPlaced slots shift new key m) (sym same) (placed-in-rest slots shift old new key n full (grows key at_n)))
  | inr other ↦
      placed-by-rest slots shift old new q i
      (λ was. grows key at_n q ∙ ⊎_elim
      (λ same. cond-true _ _ _ same ∙ ap (λ m. Some m) (one-place keys n i key apart at_n (at_q ∙ ap (λ k. Some k) (same_key-≡ q key same))))
      (λ differ. cond-false _ _ _ differ ∙ was)
      (cases_Bool (same_key q key)))
      (placed i q (omega (arith, other)) at_q)
]

-- what the code has computed of a key

-- the home of a key, by what its fingerprint is mixed to
pub home-is : (key : Key) (fingerprint : Fingerprint) (mix shift home : ℕ) → fingerprint ≡ fingerprint_of key → mix ≡ mix_of fingerprint → home ≡ home_of shift mix → home ≡ key_home shift key
home-is key fingerprint mix shift home hashed mixed is = is ∙ ap (home_of shift) (mixed ∙ ap mix_of hashed)

-- and its slot
pub slot-is : (key : Key) (fingerprint : Fingerprint) (mix tag place : ℕ) → fingerprint ≡ fingerprint_of key → mix ≡ mix_of fingerprint → tag ≡ tag_of mix → record { tag = tag; place = place } ≡ slot_of key place
slot-is key fingerprint mix tag place hashed mixed is = ap (λ (m : ℕ). record { tag = m; place = place }) (is ∙ ap tag_of (mixed ∙ ap mix_of hashed))

-- a slot that leads to no key at its place, or has another tag, is not the key's
pub other-slot : (slots : List Slot) (keys : List Key) (at : ℕ) (slot : Slot) (key : Key) (place : ℕ) → slice_get slots at ≡ Some slot
    → (slot.tag ≡ tag_of (mix_of (fingerprint_of key)) → slice_get keys slot.place ≡ Some key → ⊥)
    → slice_get slots at ≡ Some (slot_of key place) → slice_get keys place ≡ Some key → ⊥
other-slot slots keys at slot key place stands other is there =
    let same : slot ≡ slot_of key place = same_Some slot (slot_of key place) (sym stands ∙ is) in
    other (ap (λ (s : Slot). s.tag) same) (ap (λ (s : Slot). slice_get keys s.place) same ∙ there)

-- what is kept where a key is put behind the rest, or memory is wanted
pub begun-by-rest : {E : Type 0} (r : Result (Unit {0}) E) (slots : List Slot) (shift : ℕ) (old new : List ((ℕ × ℕ × ℕ × ℕ × String Global) × ℕ)) (keys after : List Key) (key : Key)
    → IsFull slots (key_home shift key) → RestGrows old new key (length keys) → list_any (same_key key) keys ≡ false → AreKeysPlaced slots shift old keys
    → OnOk r (after ≡ keys ++ key ∷ []) → OnErr r (after ≡ keys) → AreKeysPlaced slots shift new after
begun-by-rest (Ok x) slots shift old new keys after key full grows none placed grown kept = subst (AreKeysPlaced slots shift new) (sym grown) (begun-in-rest slots shift old new keys key full grows none placed)
begun-by-rest (Err e) slots shift old new keys after key full grows none placed grown kept = subst (AreKeysPlaced slots shift new) (sym kept) (kept-by-rest slots shift old new keys key (length keys) grows none placed)

-- a test of a place against a length

-- the test passed
pub inside : (i n : ℕ) → true ≡ nat_lt i n → i < n
inside i n below = grind (arith, nat_tests)

-- the test failed
pub outside : (i n : ℕ) → false ≡ nat_lt i n → n ≤ i
outside i n above = grind (arith, nat_tests)

-- a key stands at each place below their number
pub key-there : (keys : List Key) (place : ℕ) → place < length keys → (key : Key) × (slice_get keys place ≡ Some key)
key-there [] place within = absurd (omega (arith, within))
key-there (k ∷ keys) zero within = (k, refl)
key-there (k ∷ keys) (suc place) within = key-there keys place (omega (arith, within))

-- all keys are placed
pub placed-all : (keys : List Key) (n : ℕ) (slots : List Slot) (shift : ℕ) (rest : List ((ℕ × ℕ × ℕ × ℕ × String Global) × ℕ)) → length keys ≤ n → ArePlacedTo n slots shift rest keys → ArePlaced slots shift rest keys
placed-all keys n slots shift rest all placed place key at = let within = slice_get_within keys place key at in placed place key (omega (arith, all, within)) at
