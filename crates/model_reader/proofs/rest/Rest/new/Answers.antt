use Rattle.std.proofs.Common.{ℕ, List, sym, ap, subst, ◌∙◌}
use Rattle.model_reader.specs.Tails.{IsTail}
use Rattle.model_reader.proofs.Tails.{all-left}
use Rattle.model_reader.proofs.rest.Rest.new.Goals as goal

pub invariant_of-result : goal.invariant_of-result
invariant_of-result c =
    let text : List ℕ = c.args.text.now.value.items in
    subst (λ (bytes : List ℕ). IsTail text bytes) (sym (c.as_slice.ensures.value ∙ ap (λ v. v.items) c.deref.ensures)) (all-left text)
