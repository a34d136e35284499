use Rattle.std.proofs.Common.{◌≡◌, ◌++◌, ℕ, ◌+◌, List, OnOk, Some, length, slice_range, sym, ap, ◌∙◌, subst, arith}
use Rattle.reports.specs.Paths.{step_text}
use Rattle.reports.specs.Steps.{IsKept}
use Rattle.reports.proofs.KeptTexts.{kept-here}
use Rattle.reports.proofs.steps.Steps.push_known.Goals.{After-deref-2}
use Rattle.reports.proofs.steps.Steps.push_known.Goals as goal

-- what is kept of the text
held : (c : After-deref-2) → IsKept c.self.inside.names c.self.inside.bytes.items c.args.id (Some c.in-Some-Some.kept)
held c =
    kept-here c.self.inside.names c.self.inside.kept.items c.self.inside.bytes.items c.deref.result.now c.args.id c.in-Some-Some.field-0.now c.in-Some-Some.kept
    c.self.invariant c.deref.ensures.value c.in-Some-Some.ensures.lookup.3.0 c.in-Some-Some.ensures.lookup.1 c.in-Some-Some.field-0-is

-- the bytes of the text
there : (c : After-deref-2) → slice_range c.deref-2.result.now c.in-Some-Some.kept.start (c.in-Some-Some.kept.start + c.in-Some-Some.kept.count) ≡ step_text c.self.inside.names (c.in-Some-Some.kept.number, c.args.id)
there c = ap (λ (bytes : List ℕ). slice_range bytes c.in-Some-Some.kept.start (c.in-Some-Some.kept.start + c.in-Some-Some.kept.count)) c.deref-2.ensures.value ∙ (held c).1

pub push_kept-requires-clause-inside : goal.push_kept-requires-clause-inside
push_kept-requires-clause-inside c = let inside = (held c).0 in omega (arith, inside, ap (λ (bytes : List ℕ). length bytes) c.deref-2.ensures.value)

pub push_kept-requires-clause-short : goal.push_kept-requires-clause-short
push_kept-requires-clause-short c = λ few. (held c).2 few ∙ sym (there c)

pub returns : goal.returns
returns c =
    let held = kept-here c.self.inside.names c.self.inside.kept.items c.self.inside.bytes.items c.deref.result.now c.args.id c.in-Some-Some.field-0.now c.in-Some-Some.kept
    c.self.invariant c.deref.ensures.value c.in-Some-Some.ensures.lookup.3.0 c.in-Some-Some.ensures.lookup.1 c.in-Some-Some.field-0-is in
    subst (λ (added : List ℕ). OnOk c.push_kept.result (c.push_kept.new.text.items ≡ c.args.text.now.items ++ added))
    (ap (λ (bytes : List ℕ). slice_range bytes c.in-Some-Some.kept.start (c.in-Some-Some.kept.start + c.in-Some-Some.kept.count)) c.deref-2.ensures.value
    ∙ (held.1
    ∙ (ap (λ (number : ℕ). step_text c.self.inside.names (number, c.args.id)) c.if-kept-number.false
    ∙ ap (λ (types : List (List ℕ)). step_text types (c.args.number, c.args.id)) c.self.view_is)))
    c.push_kept.ensures
