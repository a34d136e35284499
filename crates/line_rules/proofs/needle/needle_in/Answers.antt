use Rattle.std.proofs.Common.{map, subst}
use Rattle.std.specs.Prelude.{option_map, string_bytes}
use Rattle.regex.specs.Patterns.{Config, Reads}
use Rattle.line_rules.proofs.Lacking.{found-needle}
use Rattle.line_rules.proofs.needle.needle_in.Goals as goal

pub returns-in-Ok : goal.returns-in-Ok
returns-in-Ok c =
    let tree = c.in-Ok.parsed.hir in
    let names = map (option_map string_bytes) c.in-Ok.parsed.names.items in
    found-needle c.args.text.now tree names c.only_needle-found.result
    (subst (λ (config : Config). Reads config c.args.text.now tree names) c.default.ensures c.in-Ok.ensures.ok) c.only_needle-found.ensures
