use Rattle.std.proofs.Common.{◌≡◌, ◌≤◌, ◌∙◌, sym, subst, map, IsUtf8}
use Rattle.std.proofs.lemmas.List.Elements.{recursion_from_All}
use Rattle.serde_json.specs.Data.{string}
use Rattle.invariants.specs.Labels.{digit_of}
use Rattle.model_file.specs.Writing.{tokens_of, Appends}
use Rattle.model_file.proofs.Trees.{digits-ascii}
use Rattle.model_file.proofs.writing.write_labels.Goals as goal

pub unreachable-requires : goal.unreachable-requires
unreachable-requires c =
    c.in_default.ensures.cases.0 (subst IsUtf8 (sym c.as_digits.ensures.digits) (digits-ascii c.args.labels.now (recursion_from_All (λ label. label ≤ 7) c.args.labels.now c.as_digits.ensures.labels)))

pub returns : goal.returns
returns c =
    let text : c.in-Ok.text.now ≡ map digit_of c.args.labels.now = c.in-Ok.ensures.cases.0 ∙ c.as_digits.ensures.digits in
    subst (λ t. Appends c.write_text.result c.args.out.now c.write_text.new.out (tokens_of (string t))) text c.write_text.ensures
