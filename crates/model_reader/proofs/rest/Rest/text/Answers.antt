use Rattle.std.proofs.Common.{◌≡◌, ◌++◌, Some, arith}
use Rattle.std.proofs.lemmas.Slice.Eq.{strip_prefix_is}
use Rattle.std.proofs.lemmas.Bool.Decides.{Decides-eqb}
use Rattle.model_reader.proofs.Tails.{less-left}
use Rattle.model_reader.proofs.rest.Rest.text.Goals as goal

pub invariant_of-self : goal.invariant_of-self
invariant_of-self c =
    less-left c.self.inside.text.now.value.items c.self.inside.bytes.now c.args.text.now c.in_ok-self-inside.field-0.now c.self.invariant
    (strip_prefix_is Decides-eqb c.self.inside.bytes.now c.args.text.now (Some c.in_ok-self-inside.field-0) c.in_ok-self-inside.ensures.cases)

pub returns : goal.returns
returns c =
    let begins : c.self.inside.bytes.now ≡ c.args.text.now ++ c.in_ok-self-inside.field-0.now =
    strip_prefix_is Decides-eqb c.self.inside.bytes.now c.args.text.now (Some c.in_ok-self-inside.field-0) c.in_ok-self-inside.ensures.cases in
    grind (arith, begins, c.self.view_is)
