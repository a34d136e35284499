use Rattle.std.proofs.Common.{◌∷◌, ◌++◌, [], sym, append_assoc, ◌∙◌}
use Rattle.std.specs.Fmt.{decimal}
use Rattle.model_reader.proofs.Tails.{less-left}
use Rattle.model_reader.proofs.rest.Rest.number_before.Goals as goal

pub invariant_of-self : goal.invariant_of-self
invariant_of-self c =
    less-left c.self.inside.text.now.value.items c.self.inside.bytes.now (decimal c.in_ok-number.number ++ c.args.end ∷ []) c.in_ok-number.others.now c.self.invariant
    (c.in_ok-number.ensures ∙ sym (append_assoc (decimal c.in_ok-number.number) (c.args.end ∷ []) c.in_ok-number.others.now))
