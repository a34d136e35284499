use Rattle.std.proofs.Common.{◌≡◌, ap, ap₂, subst}
use Rattle.std.specs.Prelude.{IfOk}
use Rattle.clap.specs.Words.{App, app_of, rule_of, with_rule}
use Rattle.command_line.specs.App.{app, bare}
use Rattle.command_line.proofs.command.command.Goals as goal

pub returns : goal.returns
unfolding app
returns c =
    let a1 : App = with_rule bare (rule_of c.command_word.result) in
    let a2 : App = with_rule a1 (rule_of c.value.result) in
    let a3 : App = with_rule a2 (rule_of c.flag.result) in
    let a4 : App = with_rule a3 (rule_of c.value-2.result) in
    let a5 : App = with_rule a4 (rule_of c.flag-2.result) in
    let a6 : App = with_rule a5 (rule_of c.flag-3.result) in
    let a7 : App = with_rule a6 (rule_of c.value-3.result) in
    let a8 : App = with_rule a7 (rule_of c.flag-4.result) in
    let last = c.add.ensures a8 (c.add-interrupted.ensures a7 (c.add-number.ensures a6 (c.add-join.ensures a5 (c.add-ignore.ensures a4 (c.add-model.ensures a3 (c.add-plain.ensures a2 (c.add-rules.ensures a1 (c.add-word.ensures bare c.bare_command.ensures)))))))) in
    let e1 = ap (λ r. with_rule bare r) c.command_word.ensures.rule in
    let e2 = ap₂ with_rule e1 c.value.ensures.rule in
    let e3 = ap₂ with_rule e2 c.flag.ensures.rule in
    let e4 = ap₂ with_rule e3 c.value-2.ensures.rule in
    let e5 = ap₂ with_rule e4 c.flag-2.ensures.rule in
    let e6 = ap₂ with_rule e5 c.flag-3.ensures.rule in
    let e7 = ap₂ with_rule e6 c.value-3.ensures.rule in
    let e8 = ap₂ with_rule e7 c.flag-4.ensures.rule in
    subst (λ a. IfOk c.add.result (λ k. app_of k ≡ a)) (ap₂ with_rule e8 c.files.ensures.rule) last
