use Rattle.std.proofs.Common.{◌≡◌, ◌<◌, ℕ, List, Bool, false, true, length, get_or, subst, sym, ◌∙◌, arith}
use Rattle.std.proofs.lemmas.Bool.{or_parts}
use Rattle.partition_graph.specs.declared.links.Link.{Link}
use Rattle.partition_graph.specs.Seen.{seen}
use Rattle.clashes.specs.Growing.{as_passed}
use Rattle.clashes.proofs.Passing.{edges_passed, link_edge, passed_size}
use Rattle.labelling.specs.PhaseRows.{found}
use Rattle.labelling.specs.Found.{IsFollowed, IsStill}
use Rattle.labelling.proofs.Growing.{grows_none, grows_if, grows_if_more, links_begin, links_more, links_all, passed_order}
use Rattle.labelling.proofs.propagation.follow_all.Goals as goal

pub loop-done-init : goal.loop-done-init
loop-done-init c = record {
  marked = c.requires.marked;
  recent_room = c.requires.recent_room;
  now_room = c.requires.now_room;
  grows = grows_if (found c.args.phase_rows.now) (found c.args.phase_rows.now) false (grows_none (found c.args.phase_rows.now));
  sound = λ h. h;
  propagated = links_begin c.args.from_end c.args.links.now (seen c.args.view.now) c.args.recent.now c.args.now.now (found c.args.phase_rows.now) c.requires.links c.requires.before;
  quiet = λ _. c.requires.none;
}

pub loop-done-preserved : goal.loop-done-preserved
loop-done-preserved c =
    let i = c.loop-done.invariant in
    let e = c.follow-more.ensures in
    let g = seen c.args.view.now in
    let links : List Link = as_passed c.args.from_end c.args.links.now in
    let link : Link = c.link_after-link.result in
    let size : length links ≡ length c.args.links.now = passed_size c.args.from_end c.args.links.now in
    let inside : c.loop-done.done < length links = omega (arith, size, c.loop-done-test.true) in
    let is : link ≡ get_or links c.loop-done.done link = c.link_after-link.ensures.link link in
    let edge : g.edge link.from link.to ≡ true =
    subst (λ (x : Link). g.edge x.from x.to ≡ true) (sym is) (link_edge links g c.loop-done.done link (edges_passed c.args.from_end c.args.links.now g c.requires.links) inside) in
    record {
      marked = e.marked;
      recent_room = c.follow-more.auto.recent ∙ i.recent_room;
      now_room = c.follow-more.auto.now ∙ i.now_room;
      grows = grows_if_more (found c.args.phase_rows.now) (found c.loop-done.phase_rows) (found c.follow-more.new.phase_rows) c.loop-done.again c.follow-more.result i.grows e.grows;
      sound = λ h. e.sound g edge (sym c.type_of.ensures) (i.sound h);
      propagated = links_more c.args.from_end links g c.loop-done.done link link c.loop-done.recent c.follow-more.new.recent c.loop-done.now c.follow-more.new.now (found c.loop-done.phase_rows) (found c.follow-more.new.phase_rows)
          inside is (λ j other le at. passed_order c.args.from_end c.args.links.now j c.loop-done.done other link c.requires.links.order le (omega (arith, c.loop-done-test.true)) at (sym is))
          e.ahead e.behind
          (subst (λ (x : ℕ). IsFollowed link.from x link.to c.loop-done.recent c.loop-done.now c.follow-more.new.now (found c.loop-done.phase_rows) (found c.follow-more.new.phase_rows)) c.type_of.ensures e.followed) i.propagated;
      quiet = λ off p.
          let h = or_parts c.loop-done.again c.follow-more.result off in
          subst (λ (x : List Bool). IsStill x p) (sym (e.quiet h.1)) (i.quiet h.0 p);
    }

pub returns : goal.returns
returns c = record {
  marked = c.loop-done.invariant.marked;
  grows = c.loop-done.invariant.grows;
  sound = c.loop-done.invariant.sound;
  after = links_all c.args.from_end c.args.links.now (seen c.args.view.now) c.loop-done.done c.loop-done.recent c.loop-done.now (found c.loop-done.phase_rows) c.requires.links (omega (arith, c.loop-done-test.false)) c.loop-done.invariant.propagated;
  quiet = c.loop-done.invariant.quiet;
}
