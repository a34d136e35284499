use Rattle.std.proofs.Common.{◌≡◌, ◌≤◌, ◌<◌, ◌↔◌, ℕ, Some, slice_get, List, length, arith, sym, subst, false}
use Rattle.std.specs.List.{list_any, position_or_len}
use Rattle.std.proofs.lemmas.Option.{slice_get_within}
use Rattle.std.specs.Str.{bytes_eq}
use Rattle.trace_keys.proofs.Positions.{position-all}
use Rattle.trace_builder.proofs.PlaceMaps.{text-at}
use Rattle.trace_builder.proofs.type_table.TypeTable.place_of.Goals as goal

pub returns-in-Some-clause-place : goal.returns-in-Some-clause-place
returns-in-Some-clause-place c =
    let place : ℕ = c.in-Some.place in
    let texts : List (List ℕ) = c.self.inside.texts.items in
    subst (λ (ts : List (List ℕ)). place ≡ position_or_len (bytes_eq c.args.text.now) ts) c.self.view_is
    (sym (text-at texts place c.args.text.now c.self.invariant.0.apart (subst (λ (ts : List (List ℕ)). slice_get ts place ≡ Some c.args.text.now) c.deref-2.ensures.value c.in-Some.ensures)))

pub returns-in-Some-clause-within : goal.returns-in-Some-clause-within
returns-in-Some-clause-within c =
    let place : ℕ = c.in-Some.place in
    let texts : List (List ℕ) = c.self.inside.texts.items in
    let inside : place < length texts = slice_get_within texts place c.args.text.now (subst (λ (ts : List (List ℕ)). slice_get ts place ≡ Some c.args.text.now) c.deref-2.ensures.value c.in-Some.ensures) in
    subst (λ (ts : List (List ℕ)). place ≤ length ts) c.self.view_is (omega arith)

pub returns-in-Some-clause-new : goal.returns-in-Some-clause-new
returns-in-Some-clause-new c =
    let place : ℕ = c.in-Some.place in
    let p = bytes_eq c.args.text.now in
    let texts : List (List ℕ) = c.self.inside.texts.items in
    let stands : slice_get texts place ≡ Some c.args.text.now = subst (λ (ts : List (List ℕ)). slice_get ts place ≡ Some c.args.text.now) c.deref-2.ensures.value c.in-Some.ensures in
    let at : position_or_len p texts ≡ place = text-at texts place c.args.text.now c.self.invariant.0.apart stands in
    let inside : place < length texts = slice_get_within texts place c.args.text.now stands in
    subst (λ (ts : List (List ℕ)). (list_any p ts ≡ false) ↔ (place ≡ length ts)) c.self.view_is
    (λ none. absurd (omega (arith, at, inside, (position-all p texts).0 none)), λ same. absurd (omega (arith, same, inside)))
