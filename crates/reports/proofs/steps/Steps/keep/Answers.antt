use Rattle.std.proofs.Common.{ℕ, List, sym, ap, ◌∙◌, arith}
use Rattle.reports.specs.Paths.{step_text}
use Rattle.reports.proofs.KeptTexts.{keep-more}
use Rattle.reports.proofs.steps.Steps.keep.Goals as goal

pub invariant_of-self-2 : goal.invariant_of-self-2
invariant_of-self-2 c =
    keep-more c.self.inside.names c.self.inside.kept.items c.self.inside.bytes.items c.args.text.now c.extend_from_slice.new.self.items c.in_place.result c.args.id c.args.number _ _ c.self.invariant
    c.in_ok-extend_from_slice.ensures.items (c.len-start.ensures ∙ c.self.inside.bytes.ok.0) (omega arith)
    (c.requires ∙ ap (λ (types : List (List ℕ)). step_text types (c.args.number, c.args.id)) (sym c.self.view_is))
    c.in_place.ensures
