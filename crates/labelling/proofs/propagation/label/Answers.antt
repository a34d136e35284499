use Rattle.std.proofs.Common.{true, refl, ◌∙◌, arith}
use Rattle.std.proofs.lemmas.List.{length-set}
use Rattle.limits.specs.declared.TheConstants.{INITIAL}
use Rattle.partition_graph.specs.Seen.{seen}
use Rattle.labelling.specs.PhaseRows.{found}
use Rattle.labelling.proofs.Growing.{initial_typ, exact, exact_same, first_propagated, starts_on}
use Rattle.labelling.proofs.propagation.label.Goals as goal

pub labels-init : goal.labels-init
labels-init c =
    let g = seen c.args.view.now in
    let e = c.start.ensures in
    record {
      marked = e.marked;
      same = e.same ∙ c.clear.ensures.same;
      sound = e.sound g (initial_typ c.args.view.now);
      start = λ t low. e.start t low;
      recent_room = length-set c.no_marks-recent.result INITIAL true ∙ c.no_marks-recent.ensures.room;
      now_room = c.no_marks-now.ensures.room;
      none = c.no_marks-now.ensures.none;
      propagated = first_propagated c.args.links.now g (found c.clear.new.self) (found c.start.new.phase_rows) c.no_marks-recent.result c.requires c.clear.ensures.nothing e.same e.others (omega (arith, c.no_marks-recent.ensures.room));
    }

pub labels-preserved : goal.labels-preserved
labels-preserved c =
    let e = c.labels-test.ensures in
    record {
      marked = e.marked;
      same = e.grows.same ∙ c.labels.invariant.same;
      sound = e.sound c.labels.invariant.sound;
      start = λ t low. starts_on t (found c.labels.phase_rows) (found c.follow_all.new.phase_rows) e.grows.same e.grows.keeps (c.labels.invariant.start t low);
      recent_room = c.follow_all.auto.now ∙ c.labels.invariant.now_room;
      now_room = c.no_marks-now-in-labels.ensures.room;
      none = c.no_marks-now-in-labels.ensures.none;
      propagated = e.after;
    }

pub returns : goal.returns
returns c =
    let g = seen c.args.view.now in
    let old = found c.labels.phase_rows in
    let new = found c.follow_all.new.phase_rows in
    let e = c.labels-test.ensures in
    let i = c.labels.invariant in
    record {
      same = c.note.ensures.same ∙ e.grows.same ∙ i.same;
      exact = exact_same g new (found c.note.new.self) c.note.ensures.same c.note.ensures.labels
          (exact g c.args.links.now new c.requires (e.sound i.sound) (λ link there. e.after link there (e.quiet refl link.from)) (initial_typ c.args.view.now)
          (λ t low. starts_on t old new e.grows.same e.grows.keeps (i.start t low)));
      noted = c.note.ensures.noted;
    }
