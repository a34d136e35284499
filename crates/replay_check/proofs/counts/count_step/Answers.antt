use Rattle.std.proofs.Common.{◌+◌, ◌*◌, get_or, eq-eqb, ne_eqb, refl, sym, zero-add}
use Rattle.replay_check.specs.Shown.{count_at}
use Rattle.limits.specs.declared.TheConstants.{MAX_PARTITIONS}
use Rattle.replay_check.proofs.Counting.{count-more}
use Rattle.replay_check.proofs.counts.count_step.Goals as goal

pub returns-then-id-clause-counts : goal.returns-then-id-clause-counts
returns-then-id-clause-counts c = λ p q m. rw (eq-eqb c.args.id 0 c.if-id.true) (sym (zero-add (count_at c.args.counts.now p q)))

pub returns-clause-counts : goal.returns-clause-counts
returns-clause-counts c = λ p q m. rw (ne_eqb c.args.id 0 c.if-id.false) (count-more c.args.counts.now c.args.before c.args.id (get_or c.args.counts.now (c.args.before * MAX_PARTITIONS + c.args.id) 0 + 1) c.requires.from c.requires.to refl p q m)
