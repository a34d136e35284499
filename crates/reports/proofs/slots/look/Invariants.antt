use Rattle.reports.specs.Lists.{shown_lists, HaveOthers}
use Rattle.reports.proofs.slots.look.Given as goal

abbrev pub invariant-loop-i : goal.invariant-loop-i
invariant-loop-i l = HaveOthers (shown_lists l.lists) l.slots l.ids l.home l.i
