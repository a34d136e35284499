use Rattle.std.proofs.Common.{ℕ, Option, arith, subst}
use Rattle.std.specs.Prelude.{Vec, IfSome}
use Rattle.std.specs.declared.alloc.Global.{Global}
use Rattle.regex_extract.specs.Needles.{ContainsNeedle, needles_of}
use Rattle.regex_hir.specs.Meaning.{meaning}
use Rattle.line_rules.proofs.Lacking.{popped-stands}
use Rattle.line_rules.proofs.needle.only_needle.Goals as goal

pub returns : goal.returns
returns c =
    let contains = subst (λ (o : Option (Vec (Vec ℕ Global) Global)). IfSome o (λ v. ContainsNeedle (meaning c.args.tree.now) (needles_of v))) c.in-Some.is c.in_ok-needles.ensures.contains in
    popped-stands c.args.tree.now c.in-Some.needles.items c.pop.new.self.items c.pop.result contains (omega (arith, c.if-len-ne1.false, c.len.ensures)) c.pop.ensures.items
