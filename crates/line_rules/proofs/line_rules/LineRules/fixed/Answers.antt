use Rattle.std.proofs.Common.{arith}
use Rattle.line_rules.specs.Views.{rules_in}
use Rattle.line_rules.proofs.Decided.{name-within, name-stands-at, name-is}
use Rattle.line_rules.proofs.line_rules.LineRules.fixed.Goals as goal

pub index-requires : goal.index-requires
unfolding rules_in
index-requires c = omega (arith, name-within c.args.self.now.rules.items c.args.rule c.requires)

pub unreachable-requires : goal.unreachable-requires
unfolding rules_in
unreachable-requires c = name-stands-at c.args.self.now.rules.items c.args.rule c.index.result.now c.requires c.index.ensures c.in-None.ensures.name

pub returns-clause-name : goal.returns-clause-name
unfolding rules_in
returns-clause-name c = name-is c.args.self.now.rules.items c.args.rule c.index.result.now c.in-Some.name.now c.requires c.index.ensures c.in-Some.ensures.name
