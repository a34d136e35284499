use Rattle.std.proofs.Common.{ℕ, arith, subst, sym}
use Rattle.labelling.proofs.Finding.{blank_nothing, cleared_all, kept_marked, kept_table}
use Rattle.labelling.specs.Layout.{labels_from, IsBlankFrom}
use Rattle.labelling.proofs.phase_rows.PhaseRows.clear.Goals as goal
use Rattle.labelling.proofs.phase_rows.PhaseRows.clear.Goals.{After-clear_between}

all-blank : (c : After-clear_between) → IsBlankFrom c.mark_once.new.self.bound (labels_from c.mark_once.new.self.bound) c.clear_between.new.rows
all-blank c = cleared_all c.mark_once.new.self.bound c.mark_once.new.self.used c.mark_once.new.self.rows c.clear_between.new.rows
    (λ r k above below. c.clear_between.ensures.blank r k (omega (arith, above, c.labels_from-first.ensures)) below) c.clear_between.ensures.behind c.mark_once.new.self.blank

pub invariant_of-self : goal.invariant_of-self
invariant_of-self c =
    let b = c.mark_once.new.self in
    record {
      table = kept_table b.bound b.invs.items b.rows c.clear_between.new.rows c.clear_between.ensures.shape b.table;
      state = kept_marked b.marked b.bound b.invs.items b.rows c.clear_between.new.rows c.mark_once.ensures.marked
          (λ r low other. c.clear_between.ensures.before r (omega (arith, low, c.labels_from-first.ensures))) b.state;
      blank = subst (λ (x : ℕ). IsBlankFrom b.bound x c.clear_between.new.rows) (sym c.labels_from-first.ensures) (all-blank (goal.at.invariant_of-self c).After-clear_between);
    }

pub returns : goal.returns
returns c = record {
  same = c.mark_once.ensures.same;
  nothing = blank_nothing c.mark_once.new.self.bound c.mark_once.new.self.invs.items c.clear_between.new.rows (all-blank (goal.at.returns c).After-clear_between);
  marked = c.mark_once.ensures.marked;
}
