use Rattle.std.proofs.Common.{ℕ, List, sym, ap, ◌∙◌, option_map}
use Rattle.line_rules.specs.Rules as spec
use Rattle.line_rules.proofs.Spelled.{word-spells}
use Rattle.line_rules.proofs.spelling.spelled_text.Goals as goal

pub returns-in-Some-form_word-clause-parts : goal.returns-in-Some-form_word-clause-parts
returns-in-Some-form_word-clause-parts c =
    let word = c.in-Some.word.now in
    let pattern = c.in-Some.pattern.now in
    let with : spec.RuleForm → spec.RuleForm × List ℕ = λ form. (form, pattern) in
    ap (option_map with) c.in-Some-form_word.ensures.form ∙ sym (word-spells c.args.text.now word pattern c.utf8.text c.in-Some.ensures.some)
