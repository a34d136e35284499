use Rattle.std.proofs.Common.{rules}
use Rattle.regex.specs.Strings.{regex_names, regex_pattern}
use Rattle.line_rules.proofs.Lacking.{alike-needle}
use Rattle.line_rules.proofs.build.build_rule.Goals as goal

pub returns-in_err-regex-clause-count : goal.returns-in_err-regex-clause-count
returns-in_err-regex-clause-count g c = search rules

pub returns-in_err-regex-clause-large : goal.returns-in_err-regex-clause-large
returns-in_err-regex-clause-large g c = search rules

pub returns-clause-count : goal.returns-clause-count
returns-clause-count g c = search rules

pub new-requires : goal.new-requires
new-requires g c =
    let regex = c.in_ok-regex.regex in
    alike-needle c.args.text.now (regex_pattern regex) (regex_names regex) c.in-Ok.needle.items c.in_ok-regex.ensures.gives c.in-Ok.ensures
