-- An invariant that says nothing of a graph is satisfied; the flags of the others, in their places.
use Rattle.std.proofs.Common.{◌≡◌, ◌↔◌, ℕ, zero, suc, ◌+◌, ◌<◌, ◌≤◌, Bool, true, false, not, List, [], ◌∷◌, ◌++◌, length, take, filter, cond, get_or, slice_get, Some, sym, ◌∙◌, ap, subst, refl, inl, inr, arith, Contains, append-nil, length-append, ◌-◌}
use Rattle.std.proofs.lemmas.Bool.{cases_Bool, cases_lt, cond-true, cond-false, and_parts}
use Rattle.std.proofs.lemmas.List.Sums.{length-filter, count_by-le-length}
use Rattle.std.proofs.lemmas.List.Elements.{filter_more}
use Rattle.std.proofs.lemmas.List.{get_or_append_left, get_or-append_right}
use Rattle.std.proofs.lemmas.Option.{same_Some, none-some, slice_get_within, get_or_from_slice_get}
use Rattle.invariants.specs.declared.Kind.{Kind}
use Rattle.invariants.specs.declared.Kind.TheVariants.{AF, NF, AP, IB}
use Rattle.invariants.specs.declared.Invariant.{Invariant}
use Rattle.invariants.specs.Candidates.{invariant}
use Rattle.invariants.specs.Holds.{HoldsAs}
use Rattle.invariants.proofs.Members.{Contains-filter, Contains-from_place, place-from_Contains}
use Rattle.path_finder.proofs.Reaching.{slice_get_last, slice_get_kept}
use Rattle.partition_model.specs.Graphs.{Graph, Satisfies, word}
use Rattle.labelling.specs.Labelled.{SaysSatisfied}
use Rattle.infer_core.specs.Portions.{AreNamed}
use Rattle.infer_core.specs.Vacuous.{for_gaps, is_asked, is_vacuous, AreMetOnce, AreOfEachType, TellsAll}

-- the kind of an invariant that is for gaps
pub gap-kind : (kind : Kind) → for_gaps kind ≡ true → kind ≡ IB
gap-kind AF e = absurd (cc e)
gap-kind NF e = absurd (cc e)
gap-kind AP e = absurd (cc e)
gap-kind IB e = refl

-- where no path has a type twice, nothing has to lie between two of its events
pub no-gaps : (g : Graph) (inv : Invariant) → for_gaps inv.kind ≡ true → Satisfies g (invariant NF inv.a inv.a) → Satisfies g inv
no-gaps g inv e once path is =
    subst (λ (kind : Kind). HoldsAs kind inv.a inv.b (word g path)) (sym (gap-kind inv.kind e))
    (λ i j first second later. absurd (once path is i first j later second))

-- what passes of a list, at the place where it comes
pub passed-place : {X : Type 0} (p : X → Bool) (xs : List X) (k : ℕ) (x : X) → slice_get xs k ≡ Some x → p x ≡ true → slice_get (filter p xs) (length (filter p (take k xs))) ≡ Some x
passed-place p [] k x at passes = absurd (none-some x at)
passed-place p (y ∷ xs) zero x at passes =
    let same : y ≡ x = same_Some y x at in
    rw (ap p same ∙ passes) at
passed-place p (y ∷ xs) (suc k) x at passes =
    elim (cases_Bool (p y)) [
      | inl t ↦ rw t (passed-place p xs k x at passes)
      | inr f ↦ rw f (passed-place p xs k x at passes)
    ]

-- those asked for are named
pub asked-named : (once : List Bool) (invs : List Invariant) → AreNamed invs → AreNamed (filter (is_asked once) invs)
asked-named once invs named k inv at =
    let listed : Contains invs inv = ((Contains-filter (is_asked once) invs inv).0 (Contains-from_place (filter (is_asked once) invs) k inv at)).0 in
    named listed.0 inv (place-from_Contains invs inv listed)

-- and not more than all
pub asked-few : (once : List Bool) (invs : List Invariant) → length (filter (is_asked once) invs) ≤ length invs
asked-few once invs = omega (arith, length-filter (is_asked once) invs, count_by-le-length (is_asked once) invs)

-- the flags of NeverFollowedBy of each type by itself say which types no path has twice
pub once-met : (g : Graph) (bound : ℕ) (invs : List Invariant) (flags : List Bool) → AreOfEachType bound invs → length flags ≡ length invs → SaysSatisfied g invs flags → AreMetOnce g flags
once-met g bound invs flags each same told a low = told a (invariant NF a a) (each.each a (omega (arith, low, same, each.count)))

-- a flag that is set has a place
pub flag-within : (flags : List Bool) (k : ℕ) → get_or flags k false ≡ true → k < length flags
flag-within [] k e = absurd (cc e)
flag-within (x ∷ flags) zero e = omega arith
flag-within (x ∷ flags) (suc k) e = omega (arith, flag-within flags k e)

-- a vacuous invariant is satisfied
pub vacuous-holds : (g : Graph) (once : List Bool) (inv : Invariant) → AreMetOnce g once → is_vacuous once inv ≡ true → Satisfies g inv
vacuous-holds g once inv met v =
    let parts : (for_gaps inv.kind ≡ true) × (get_or once inv.a false ≡ true) = and_parts (for_gaps inv.kind) (get_or once inv.a false) v in
    no-gaps g inv parts.0 ((met inv.a (flag-within once inv.a parts.1)).0 parts.1)

-- all flags, where those of the invariants asked for are told
pub all-told : (g : Graph) (once : List Bool) (invs : List Invariant) (told flags : List Bool) → AreMetOnce g once → SaysSatisfied g (filter (is_asked once) invs) told → TellsAll once invs told flags → SaysSatisfied g invs flags
all-told g once invs told flags met says tells k inv at =
    elim (cases_Bool (is_vacuous once inv)) [
      | inl v ↦
          let flag : get_or flags k false ≡ true = tells k inv at ∙ cond-true _ _ _ v in
          (λ e. vacuous-holds g once inv met v, λ s. flag)
      | inr f ↦
          let place : ℕ = length (filter (is_asked once) (take k invs)) in
          let flag : get_or flags k false ≡ get_or told place false = tells k inv at ∙ cond-false _ _ _ f in
          subst (λ (b : Bool). (b ≡ true) ↔ Satisfies g inv) (sym flag) (says place inv (passed-place (is_asked once) invs k inv at (ap not f)))
    ]

-- flags up to a place tell all before it
abbrev pub TellsBefore : ℕ → List Bool → List Invariant → List Bool → List Bool → Type 0
TellsBefore n once invs told flags =
    (k : ℕ) (inv : Invariant) → k < n → slice_get invs k ≡ Some inv
    → get_or flags k false ≡ cond (is_vacuous once inv) true (get_or told (length (filter (is_asked once) (take k invs))) false)

-- one flag more tells one invariant more
pub tells-more : (n : ℕ) (once : List Bool) (invs : List Invariant) (told flags more : List Bool) (x : Bool) (inv : Invariant) → length flags ≡ n → slice_get invs n ≡ Some inv
    → x ≡ cond (is_vacuous once inv) true (get_or told (length (filter (is_asked once) (take n invs))) false) → more ≡ flags ++ x ∷ [] → TellsBefore n once invs told flags → TellsBefore (n + 1) once invs told more
tells-more n once invs told flags more x inv long at says grown before k other low there =
    elim (cases_lt k n) [
      | inl l ↦ ap (λ (fs : List Bool). get_or fs k false) grown ∙ get_or_append_left flags (x ∷ []) false k (omega (arith, l, long)) ∙ before k other l there
      | inr l ↦
          let here : k ≡ n = omega (arith, l, low) in
          let place : get_or more k false ≡ x = ap (λ (fs : List Bool). get_or fs k false) grown ∙ (ap (λ (m : ℕ). get_or (flags ++ x ∷ []) m false) here ∙ get_or-append_right flags (x ∷ []) n n false long (omega arith) ∙ ap (λ (m : ℕ). get_or (x ∷ []) m false) (let z : n - n ≡ 0 = omega arith in z)) in
          let same : inv ≡ other = same_Some inv other (sym at ∙ (ap (λ (m : ℕ). slice_get invs m) (sym here) ∙ there)) in
          place ∙ (says ∙ (ap (λ (i : Invariant). cond (is_vacuous once i) true (get_or told (length (filter (is_asked once) (take n invs))) false)) same
          ∙ ap (λ (m : ℕ). cond (is_vacuous once other) true (get_or told (length (filter (is_asked once) (take m invs))) false)) (sym here)))
    ]

-- what passes of a front with one more
passed-more : {X : Type 0} (p : X → Bool) (xs : List X) (i : ℕ) (x : X) → slice_get xs i ≡ Some x → filter p (take (i + 1) xs) ≡ filter p (take i xs) ++ cond (p x) (x ∷ []) []
passed-more {X} p xs i x at =
    filter_more p xs i x (slice_get_within xs i x at) ∙ ap (λ (y : X). filter p (take i xs) ++ cond (p y) (y ∷ []) []) (get_or_from_slice_get xs i x x at)

-- how many of a front are asked for, with one more that is not
pub asked-same : (n : ℕ) (once : List Bool) (invs : List Invariant) (inv : Invariant) → slice_get invs n ≡ Some inv → is_vacuous once inv ≡ true
    → length (filter (is_asked once) (take (n + 1) invs)) ≡ length (filter (is_asked once) (take n invs))
asked-same n once invs inv at v =
    ap (λ (xs : List Invariant). length xs) (passed-more (is_asked once) invs n inv at ∙ (ap (λ (ys : List Invariant). filter (is_asked once) (take n invs) ++ ys) (cond-false _ _ _ (ap not v)) ∙ append-nil (filter (is_asked once) (take n invs))))

-- and with one more that is
pub asked-more : (n : ℕ) (once : List Bool) (invs : List Invariant) (inv : Invariant) → slice_get invs n ≡ Some inv → is_vacuous once inv ≡ false
    → length (filter (is_asked once) (take (n + 1) invs)) ≡ length (filter (is_asked once) (take n invs)) + 1
asked-more n once invs inv at v =
    ap (λ (xs : List Invariant). length xs) (passed-more (is_asked once) invs n inv at ∙ ap (λ (ys : List Invariant). filter (is_asked once) (take n invs) ++ ys) (cond-true _ _ _ (ap not v)))
    ∙ length-append (filter (is_asked once) (take n invs)) (inv ∷ [])

-- one that is asked for has its place among these
pub asked-within : (n : ℕ) (once : List Bool) (invs : List Invariant) (inv : Invariant) → slice_get invs n ≡ Some inv → is_vacuous once inv ≡ false
    → length (filter (is_asked once) (take n invs)) < length (filter (is_asked once) invs)
asked-within n once invs inv at v =
    slice_get_within (filter (is_asked once) invs) (length (filter (is_asked once) (take n invs))) inv (passed-place (is_asked once) invs n inv at (ap not v))

-- each place of a list of one type more
one-type-at : (n : ℕ) (invs more : List Invariant) → AreOfEachType n invs → more ≡ invs ++ invariant NF n n ∷ [] → (a : ℕ) → a < n + 1 → slice_get more a ≡ Some (invariant NF a a)
one-type-at n invs more each grown a low =
    elim (cases_lt a n) [
      | inl l ↦ ap (λ (xs : List Invariant). slice_get xs a) grown ∙ slice_get_kept invs (invariant NF n n ∷ []) a (invariant NF a a) (each.each a l)
      | inr l ↦
          let here : a ≡ length invs = omega (arith, l, low, each.count) in
          let same : n ≡ a = omega (arith, l, low) in
          ap (λ (xs : List Invariant). slice_get xs a) grown ∙ (ap (λ (m : ℕ). slice_get (invs ++ invariant NF n n ∷ []) m) here ∙ (slice_get_last invs (invariant NF n n) ∙ ap (λ (m : ℕ). Some (invariant NF m m)) same))
    ]

-- one type more
pub one-type-more : (n : ℕ) (invs more : List Invariant) → AreOfEachType n invs → more ≡ invs ++ invariant NF n n ∷ [] → AreOfEachType (n + 1) more
one-type-more n invs more each grown = record {
  count = omega (arith, ap (λ (xs : List Invariant). length xs) grown, length-append invs (invariant NF n n ∷ []), each.count);
  each = λ a low. one-type-at n invs more each grown a low;
}
