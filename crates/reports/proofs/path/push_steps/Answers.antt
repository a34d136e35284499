use Rattle.std.proofs.Common.{ℕ, List, ◌≡◌, ◌++◌, length, min, get_or, ap, ◌∙◌, arith}
use Rattle.reports.specs.Paths.{step_text}
use Rattle.reports.proofs.Stepped.{steps-more, steps-all}
use Rattle.reports.proofs.path.push_steps.Goals as goal

pub loop-i-preserved : goal.loop-i-preserved
loop-i-preserved c =
    let ns = c.args.numbers.now in
    let is = c.args.ids.now in
    let i = c.loop-i.i in
    let short : c.min-count.result ≡ min (length ns) (length is) = c.min-count.ensures in
    let same = c.loop-i.invariant.same in
    let put = c.in_ok-push_step.ensures.text ∙ ap (λ (types : List (List ℕ)). c.loop-i.text.items ++ step_text types (get_or ns i 0, get_or is i 0)) same in
    record {
      within = omega (arith, c.loop-i-test.true);
      same = c.push_step.ensures.same ∙ same;
      text = steps-more c.args.steps.now ns is c.args.text.now.items c.loop-i.text.items _ i
          (omega (arith, short, c.loop-i-test.true)) (omega (arith, short, c.loop-i-test.true)) c.loop-i.invariant.text put;
    }

pub returns-clause-text : goal.returns-clause-text
returns-clause-text c =
    let ns = c.args.numbers.now in
    let is = c.args.ids.now in
    let short : c.min-count.result ≡ min (length ns) (length is) = c.min-count.ensures in
    steps-all c.args.steps.now ns is c.args.text.now.items c.loop-i.text.items c.loop-i.i
    (omega (arith, short, c.loop-i.invariant.within, c.loop-i-test.false)) c.loop-i.invariant.text
