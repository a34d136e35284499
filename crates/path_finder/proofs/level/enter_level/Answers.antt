use Rattle.std.proofs.lemmas.Bool.{true≢false}
use Rattle.std.proofs.Common.{refl, sym, ap, ◌∙◌, inl, inr, arith}
use Rattle.path_finder.specs.Asking.{asked}
use Rattle.path_finder.specs.Tables.{Entries, at}
use Rattle.path_finder.proofs.Levels.{enters, level-reached, split-begun}
use Rattle.path_finder.proofs.PairSets.{either, neither-left, neither-right}
use Rattle.path_finder.proofs.level.enter_level.Goals as goal

pub loop-part-init : goal.loop-part-init
loop-part-init c =
    record {
      entered = c.requires.entered;
      entering = c.requires.due.entering;
      passed = λ r p. inl refl;
      split = rw (c.len-first.ensures.len) (split-begun (asked c.args.question.now) c.args.distance c.args.table.now c.args.found.now c.requires.due c.len-first.ensures.listed);
      some = λ e. absurd (true≢false (sym e));
      none = λ e. c.requires.due.none;
    }

pub loop-part-preserved : goal.loop-part-preserved
loop-part-preserved c =
    let i = c.loop-part.invariant in
    let o = c.enter_open-any.ensures in
    record {
      entered = o.entered;
      entering = enters (asked c.args.question.now) c.in-Some.part c.args.distance c.loop-part.table c.enter_open-any.new.table c.loop-part.found c.take.new.self
          c.args.question.now.few i.entering c.in-Some.ensures.taken c.in-Some.ensures.marked o.opened;
      passed = λ r p. elim (o.opened.others r p) [
        | inl same ↦ elim (i.passed r p) [ inl old ↦ inl (same ∙ old) | inr here ↦ inr (same ∙ here) ]
        | inr new ↦ inr new.1
      ];
      split = o.opened.split c.len-first.result i.split;
      some = λ e. elim (either c.loop-part.any c.enter_open-any.result e) [
        | inl was ↦ omega (arith, i.some was, o.opened.count)
        | inr more ↦ omega (arith, o.some more, i.entering.room)
      ];
      none = λ e r p k.
          i.none (neither-left c.loop-part.any c.enter_open-any.result e) r p
          (ap (λ (x : Entries). at x r) (sym (o.none (neither-right c.loop-part.any c.enter_open-any.result e))) ∙ k);
    }

pub returns-then-not-any-clause-reached : goal.returns-then-not-any-clause-reached
returns-then-not-any-clause-reached c =
    level-reached (asked c.args.question.now) c.args.distance c.loop-part.table c.loop-part.found c.args.question.now.few c.loop-part.invariant.entering c.in_default.ensures.taken

pub returns-clause-reached : goal.returns-clause-reached
returns-clause-reached c =
    level-reached (asked c.args.question.now) c.args.distance c.loop-part.table c.loop-part.found c.args.question.now.few c.loop-part.invariant.entering c.in_default.ensures.taken
