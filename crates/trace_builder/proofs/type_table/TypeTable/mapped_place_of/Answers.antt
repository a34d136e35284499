use Rattle.std.proofs.Common.{◌≡◌, ◌≤◌, ◌↔◌, List, ℕ, length, arith, sym, ◌∙◌, subst, false, true≢false}
use Rattle.std.specs.List.{list_any, position_or_len}
use Rattle.std.specs.Str.{bytes_eq}
use Rattle.traces.proofs.Grown.{position-within}
use Rattle.trace_keys.proofs.Positions.{position-all}
use Rattle.trace_builder.proofs.PlaceMaps.{place-is, place-none}
use Rattle.trace_builder.proofs.type_table.TypeTable.mapped_place_of.Goals as goal

pub returns-in-Some-clause-within : goal.returns-in-Some-clause-within
returns-in-Some-clause-within c =
    let p = bytes_eq c.args.text.now in
    let texts : List (List ℕ) = c.self.inside.texts.items in
    let at = place-is p texts c.in-Some.place.now (c.in-Some.ensures.value ∙ c.self.invariant.0.found c.args.text.now) in
    subst (λ ts. c.in-Some.place.now ≤ length ts) c.self.view_is (omega (arith, at.0, position-within p texts at.1))

pub returns-in-Some-clause-new : goal.returns-in-Some-clause-new
returns-in-Some-clause-new c =
    let p = bytes_eq c.args.text.now in
    let texts : List (List ℕ) = c.self.inside.texts.items in
    let at = place-is p texts c.in-Some.place.now (c.in-Some.ensures.value ∙ c.self.invariant.0.found c.args.text.now) in
    subst (λ (ts : List (List ℕ)). (list_any p ts ≡ false) ↔ (c.in-Some.place.now ≡ length ts)) c.self.view_is
    (λ none. absurd (true≢false (sym at.1 ∙ none)), λ same. absurd (omega (arith, at.0, same, position-within p texts at.1)))

pub returns-in-None-clause-place : goal.returns-in-None-clause-place
returns-in-None-clause-place c =
    let p = bytes_eq c.args.text.now in
    let texts : List (List ℕ) = c.self.inside.texts.items in
    let none = place-none p texts (c.in-None.ensures.value ∙ c.self.invariant.0.found c.args.text.now) in
    subst (λ (ts : List (List ℕ)). c.len.result ≡ position_or_len p ts) c.self.view_is (omega (arith, c.len.ensures, c.self.inside.texts.ok.0, (position-all p texts).0 none))

pub returns-in-None-clause-new : goal.returns-in-None-clause-new
returns-in-None-clause-new c =
    let p = bytes_eq c.args.text.now in
    let texts : List (List ℕ) = c.self.inside.texts.items in
    let none = place-none p texts (c.in-None.ensures.value ∙ c.self.invariant.0.found c.args.text.now) in
    subst (λ (ts : List (List ℕ)). (list_any p ts ≡ false) ↔ (c.len.result ≡ length ts)) c.self.view_is
    (λ _. omega (arith, c.len.ensures, c.self.inside.texts.ok.0), λ _. none)
