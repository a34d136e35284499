use Rattle.std.proofs.Common.{◌<◌, length, false, true, refl, arith}
use Rattle.std.proofs.lemmas.Bool.{true≢false}
use Rattle.labelling.specs.PhaseRows.{found}
use Rattle.labelling.proofs.Growing.{grows_none, grows_if, grows_quiet, skipped, skipped_ahead, skipped_behind, followed_still, still_ahead, still_behind, followed_more, more_ahead, more_behind, followed_on, on_ahead, on_behind}
use Rattle.labelling.proofs.propagation.follow.Goals as goal

pub returns-then-not-recent-from : goal.returns-then-not-recent-from
returns-then-not-recent-from c =
    let recent = c.args.recent.now in
    let was = c.args.now.now in
    let old = found c.args.phase_rows.now in
    record {
      marked = c.requires.marked;
      grows = grows_if old old false (grows_none old);
      sound = λ g edge is h. h;
      followed = skipped c.args.link.from c.args.link.to c.args.typ recent was c.args.from_end old old c.if-not-recent-from.true;
      ahead = skipped_ahead c.args.link.from c.args.link.to c.args.typ recent was c.args.from_end old old;
      behind = skipped_behind c.args.link.from c.args.link.to c.args.typ recent was c.args.from_end old old;
      quiet = λ _. refl;
    }

pub returns-then-not-propagate : goal.returns-then-not-propagate
returns-then-not-propagate c =
    let recent = c.args.recent.now in
    let was = c.args.now.now in
    let old = found c.args.phase_rows.now in
    let new = found c.propagate.new.phase_rows in
    let e = c.if-not-propagate.ensures in
    record {
      marked = e.marked;
      grows = grows_if old new false e.grows;
      sound = e.sound;
      followed = followed_still c.args.link.from c.args.link.to c.args.typ recent was c.args.from_end old new (e.grows.still refl) e.propagated;
      ahead = still_ahead c.args.link.from c.args.link.to c.args.typ recent was c.args.from_end old new (e.grows.still refl);
      behind = still_behind c.args.link.from c.args.link.to c.args.typ recent was c.args.from_end old new (e.grows.still refl);
      quiet = λ _. refl;
    }

pub returns-then-leads_ahead : goal.returns-then-leads_ahead
returns-then-leads_ahead c =
    let recent = c.args.recent.now in
    let was = c.args.now.now in
    let old = found c.args.phase_rows.now in
    let new = found c.propagate.new.phase_rows in
    let e = c.if-not-propagate.ensures in
    let inside : c.args.link.to < length recent = omega (arith, c.requires.ids, c.requires.recent_room) in
    let ahead = c.if-leads_ahead.ensures.0 refl in
    record {
      marked = e.marked;
      grows = grows_quiet old new true e.grows;
      sound = e.sound;
      followed = followed_on c.args.link.from c.args.link.to c.args.typ recent was c.args.from_end old new true ahead e.grows e.others e.propagated;
      ahead = on_ahead c.args.link.from c.args.link.to c.args.typ recent was c.args.from_end old new true inside e.grows e.others;
      behind = on_behind c.args.link.from c.args.link.to c.args.typ recent was c.args.from_end old new true ahead e.grows e.others;
      quiet = λ _. refl;
    }

pub returns : goal.returns
returns c =
    let recent = c.args.recent.now in
    let was = c.args.now.now in
    let old = found c.args.phase_rows.now in
    let new = found c.propagate.new.phase_rows in
    let e = c.if-not-propagate.ensures in
    let inside : c.args.link.to < length was = omega (arith, c.requires.ids, c.requires.now_room) in
    record {
      marked = e.marked;
      grows = grows_if old new true e.grows;
      sound = e.sound;
      followed = followed_more c.args.link.from c.args.link.to c.args.typ recent was c.args.from_end old new true inside e.grows e.others e.propagated;
      ahead = more_ahead c.args.link.from c.args.link.to c.args.typ recent was c.args.from_end old new true inside e.grows e.others;
      behind = more_behind c.args.link.from c.args.link.to c.args.typ recent was c.args.from_end old new true inside e.grows e.others;
      quiet = λ on. absurd (true≢false on);
    }
