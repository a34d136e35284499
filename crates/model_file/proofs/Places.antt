-- The place of an invariant among the candidates.
use Rattle.std.proofs.Common.{◌≡◌, ℕ, zero, suc, ◌+◌, Bool, true, false, cond, List, [], ◌∷◌, ◌↔◌, Option, Some, None, option_map, is_some, refl, sym, ap, subst, ◌∙◌, add-one}
use Rattle.std.specs.List.{slice_get}
use Rattle.std.proofs.lemmas.Bool.{and_parts, and_from, eqb-true, eq-eqb, false≢true}
use Rattle.invariants.specs.Candidates.{candidates_for}
use Rattle.invariants.specs.declared.Kinds.{Kinds}
use Rattle.invariants.specs.declared.Kind.{Kind}
use Rattle.invariants.specs.declared.Kind.TheVariants.{AF, NF, AP, IB}
use Rattle.invariants.specs.declared.Invariant.{Invariant}
use Rattle.model_file.specs.Rules.{same_kind, same_invariant, place_in, place_of}

kinds-are : (i j : Kind) → same_kind i j ≡ true → i ≡ j
kinds-are AF AF h = refl
kinds-are NF NF h = refl
kinds-are AP AP h = refl
kinds-are IB IB h = refl
kinds-are AF NF h = absurd (false≢true h)
kinds-are AF AP h = absurd (false≢true h)
kinds-are AF IB h = absurd (false≢true h)
kinds-are NF AF h = absurd (false≢true h)
kinds-are NF AP h = absurd (false≢true h)
kinds-are NF IB h = absurd (false≢true h)
kinds-are AP AF h = absurd (false≢true h)
kinds-are AP NF h = absurd (false≢true h)
kinds-are AP IB h = absurd (false≢true h)
kinds-are IB AF h = absurd (false≢true h)
kinds-are IB NF h = absurd (false≢true h)
kinds-are IB AP h = absurd (false≢true h)

kind-itself : (k : Kind) → same_kind k k ≡ true
kind-itself AF = refl
kind-itself NF = refl
kind-itself AP = refl
kind-itself IB = refl

same-is : (i j : Invariant) → same_invariant i j ≡ true → i ≡ j
same-is i j h =
    let e = and_parts _ _ h in
    let f = and_parts _ _ e.1 in
    let kinds = kinds-are i.kind j.kind e.0 in
    let firsts : i.a ≡ j.a = eqb-true _ _ f.0 in
    let seconds : i.b ≡ j.b = eqb-true _ _ f.1 in
    let with_kind : i ≡ record i { kind = j.kind } = ap (λ k. record i { kind = k }) kinds in
    let with_first : record i { kind = j.kind } ≡ record { kind = j.kind; a = j.a; b = i.b } = ap (λ a. record { kind = j.kind; a = a; b = i.b }) firsts in
    let with_second : record { kind = j.kind; a = j.a; b = i.b } ≡ j = ap (λ b. record { kind = j.kind; a = j.a; b = b }) seconds in
    with_kind ∙ (with_first ∙ with_second)

same-itself : (i : Invariant) → same_invariant i i ≡ true
same-itself i = and_from _ _ (kind-itself i.kind) (and_from _ _ (eq-eqb i.a i.a refl) (eq-eqb i.b i.b refl))

later : (o : Option ℕ) (k : ℕ) → option_map (λ n. n + 1) o ≡ Some k → (n : ℕ) × (o ≡ Some n) × (k ≡ suc n)
later None k h = absurd cc
later (Some n) k h = let e : n + 1 ≡ k = cc in (n, refl, sym e ∙ add-one n)

place-is-at : (i c : Invariant) (cs : List Invariant) (k : ℕ) (b : Bool) → same_invariant i c ≡ b → ((n : ℕ) → place_in i cs ≡ Some n → slice_get cs n ≡ Some i)
    → cond b (Some 0) (option_map (λ n. n + 1) (place_in i cs)) ≡ Some k → slice_get (c ∷ cs) k ≡ Some i
place-is-at i c cs k true same rest h =
    let first : k ≡ 0 = cc in
    subst (λ n. slice_get (c ∷ cs) n ≡ Some i) (sym first) (ap Some (sym (same-is i c same)))
place-is-at i c cs k false same rest h = let n = later (place_in i cs) k h in subst (λ m. slice_get (c ∷ cs) m ≡ Some i) (sym n.2) (rest n.0 n.1)

-- what stands at the place that is found
pub place-is : (i : Invariant) (cs : List Invariant) (k : ℕ) → place_in i cs ≡ Some k → slice_get cs k ≡ Some i
place-is i [] k h = absurd cc
place-is i (c ∷ cs) k h = place-is-at i c cs k (same_invariant i c) refl (λ n e. place-is i cs n e) h

some-later : (b : Bool) (o : Option ℕ) → is_some o ≡ true → is_some (cond b (Some 0) (option_map (λ n. n + 1) o)) ≡ true
some-later true o h = refl
some-later false None h = absurd (false≢true h)
some-later false (Some n) h = refl

some-here : (b : Bool) (o : Option ℕ) → b ≡ true → is_some (cond b (Some 0) o) ≡ true
some-here true o h = refl
some-here false o h = absurd (false≢true h)

-- what stands in the list has a place
pub place-some : (i : Invariant) (cs : List Invariant) (k : ℕ) → slice_get cs k ≡ Some i → is_some (place_in i cs) ≡ true
place-some i [] k h = absurd cc
place-some i (c ∷ cs) zero h = let is : c ≡ i = cc in some-here (same_invariant i c) _ (subst (λ j. same_invariant i j ≡ true) (sym is) (same-itself i))
place-some i (c ∷ cs) (suc k) h = some-later (same_invariant i c) (place_in i cs) (place-some i cs k h)

agrees : (kinds : Kinds) (types : ℕ) (i : Invariant) (r o : Option ℕ) → ((k : ℕ) → r ≡ Some k → slice_get (candidates_for kinds types) k ≡ Some i) → ((k : ℕ) → slice_get (candidates_for kinds types) k ≡ Some i → r ≡ Some k)
    → place_in i (candidates_for kinds types) ≡ o → r ≡ o
agrees kinds types i None None to from e = refl
agrees kinds types i (Some k) None to from e = absurd (false≢true (subst (λ o. is_some o ≡ true) e (place-some i (candidates_for kinds types) k (to k refl))))
agrees kinds types i r (Some k) to from e = from k (place-is i (candidates_for kinds types) k e)

-- an answer that is a place exactly where the invariant stands there is the invariant's place
pub place-agrees : (kinds : Kinds) (types : ℕ) (i : Invariant) (r : Option ℕ) → ((k : ℕ) → (r ≡ Some k) ↔ (slice_get (candidates_for kinds types) k ≡ Some i)) → r ≡ place_of kinds types i
unfolding place_of
place-agrees kinds types i r h = agrees kinds types i r (place_in i (candidates_for kinds types)) (λ k. (h k).0) (λ k. (h k).1) refl
