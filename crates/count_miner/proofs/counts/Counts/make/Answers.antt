use Rattle.std.proofs.Common.{◌≡◌, ◌+◌, ◌*◌, refl, ◌∙◌}
use Rattle.invariants.specs.declared.Kinds.TheVariants.{Four}
use Rattle.count_miner.proofs.counts.Counts.make.Goals as goal

pub invariant_of-result : goal.invariant_of-result
invariant_of-result c = record {
  few = c.requires.few;
  followed_square = c.in_ok-no_counts.ensures.room;
  preceded_square = c.in_ok-no_counts-2.ensures.room;
  interrupted_square = λ (four : c.args.kinds ≡ Four). c.in_ok-no_counts-3.ensures.room ∙ c.gap_cells.ensures.four four;
  occurring_row = c.in_ok-no_counts-4.ensures.room;
  all_row = c.in_ok-no_counts-5.ensures.room;
  left_row = c.in_ok-no_counts-6.ensures.room;
}

pub returns-clause-counts : goal.returns-clause-counts
returns-clause-counts c = record {
  followed = λ b a in_b in_a. c.in_ok-no_counts.ensures.zero (b * c.args.types + a);
  preceded = λ b a in_b in_a. c.in_ok-no_counts-2.ensures.zero (b * c.args.types + a);
  interrupted = λ four a b in_a in_b. c.in_ok-no_counts-3.ensures.zero (a * c.args.types + b);
  occurring = λ a in_a. c.in_ok-no_counts-4.ensures.zero a;
  traces = refl;
  inner = refl;
}
