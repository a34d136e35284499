use Rattle.std.proofs.Common.{ap, sym, take, ◌++◌, ◌∙◌}
use Rattle.std.proofs.lemmas.List.{take-append-drop}
use Rattle.model_reader.proofs.Tails.{less-left}
use Rattle.model_reader.proofs.rest.Rest.up_to_quote.Goals as goal

pub invariant_of-self : goal.invariant_of-self
invariant_of-self c =
    let old = c.self.inside.bytes.now in
    less-left c.self.inside.text.now.value.items old (take c.args.end old) c.split_at.result.1.now c.self.invariant
    (sym (ap (λ xs. take c.args.end old ++ xs) c.split_at.ensures.back ∙ take-append-drop c.args.end old))
