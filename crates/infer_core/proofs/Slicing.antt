-- A portion of a list after those before it.
use Rattle.std.proofs.Common.{◌≡◌, ◌↔◌, ℕ, ◌+◌, ◌-◌, ◌*◌, ◌≤◌, ◌<◌, min, Bool, true, false, List, ◌++◌, length, length-append, take, drop, get_or, slice_get, Some, refl, sym, ◌∙◌, ap, subst, inl, inr, arith}
use Rattle.std.proofs.Math.Seq.{take-add}
use Rattle.std.proofs.lemmas.Bool.{cases_lt}
use Rattle.std.proofs.lemmas.Grind.{div_ceil_times}
use Rattle.std.proofs.lemmas.List.{take_all, take_min, get_or_append_left, get_or-append_right}
use Rattle.std.proofs.lemmas.Option.{slice_get_within, slice_get-get_or, get_or_from_slice_get}
use Rattle.std.specs.Int.{div_ceil}
use Rattle.invariants.specs.declared.Invariant.{Invariant}
use Rattle.partition_model.specs.Graphs.{Graph, Satisfies}
use Rattle.labelling.specs.Labelled.{SaysSatisfied}
use Rattle.infer_core.specs.declared.portions.TheConstants.{PORTION}

-- the portions before a place, and one more
pub portion-next : {X : Type 0} (xs : List X) (portion to : ℕ) → portion * PORTION ≤ length xs → to ≡ min (length xs) (portion * PORTION + PORTION)
    → take (portion * PORTION) xs ++ take (to - portion * PORTION) (drop (portion * PORTION) xs) ≡ take ((portion + 1) * PORTION) xs
portion-next xs portion to l e =
    sym (take-add (portion * PORTION) (to - portion * PORTION) xs)
    ∙ ap (λ (n : ℕ). take n xs) (let n : portion * PORTION + (to - portion * PORTION) ≡ min ((portion + 1) * PORTION) (length xs) = omega (arith, l, e) in n)
    ∙ take_min ((portion + 1) * PORTION) xs

-- a portion begins within the list
pub portion-within : {X : Type 0} (xs : List X) (portion : ℕ) → portion < div_ceil (length xs) PORTION → portion * PORTION ≤ length xs
portion-within xs portion l = omega (arith, l, (div_ceil_times (length xs) PORTION (omega arith)).1)

-- all portions
pub portions-all : {X : Type 0} (xs : List X) (portion : ℕ) → div_ceil (length xs) PORTION ≤ portion → take (portion * PORTION) xs ≡ xs
portions-all xs portion l = take_all (portion * PORTION) xs (omega (arith, l, (div_ceil_times (length xs) PORTION (omega arith)).0))

-- flags of two lists of invariants, one after the other
pub told-append : (g : Graph) (xs ys : List Invariant) (fs gs : List Bool) → length fs ≡ length xs → SaysSatisfied g xs fs → SaysSatisfied g ys gs → SaysSatisfied g (xs ++ ys) (fs ++ gs)
told-append g xs ys fs gs same a b k inv at =
    elim (cases_lt k (length xs)) [
      | inl l ↦
          let here : slice_get xs k ≡ Some inv = slice_get-get_or xs k inv l ∙ ap (λ (x : Invariant). Some x) (sym (get_or_append_left xs ys inv k l) ∙ get_or_from_slice_get (xs ++ ys) k inv inv at) in
          let flag : get_or (fs ++ gs) k false ≡ get_or fs k false = get_or_append_left fs gs false k (omega (arith, l, same)) in
          subst (λ (x : Bool). (x ≡ true) ↔ Satisfies g inv) (sym flag) (a k inv here)
      | inr l ↦
          let within : k < length (xs ++ ys) = slice_get_within (xs ++ ys) k inv at in
          let here : slice_get ys (k - length xs) ≡ Some inv =
          slice_get-get_or ys (k - length xs) inv (omega (arith, l, within, length-append xs ys)) ∙ ap (λ (x : Invariant). Some x) (sym (get_or-append_right xs ys (length xs) k inv refl l) ∙ get_or_from_slice_get (xs ++ ys) k inv inv at) in
          let flag : get_or (fs ++ gs) k false ≡ get_or gs (k - length xs) false = get_or-append_right fs gs (length xs) k false same l in
          subst (λ (x : Bool). (x ≡ true) ↔ Satisfies g inv) (sym flag) (b (k - length xs) inv here)
    ]
