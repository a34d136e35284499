use Rattle.std.proofs.Common.{ℕ, List, length, sym, ap, ◌∙◌, arith}
use Rattle.std.specs.List.{position_or_len}
use Rattle.std.specs.Str.{bytes_eq}
use Rattle.traces.specs.Words.{with_new}
use Rattle.reports.specs.Lists.{shown_lists}
use Rattle.reports.specs.declared.slots.Found.TheVariants.{Place, Free, Full}
use Rattle.reports.proofs.Placing.{shown-length, shown-push, found-home, known-list, put-in-slot, put-in-rest, done-place, done-lists}
use Rattle.reports.proofs.lists.IdLists.place_or_put.Goals as goal

pub invariant_of-self-in-Free : goal.invariant_of-self-in-Free
invariant_of-self-in-Free c =
    let found = found-home _ c.self.inside.lists.items _ c.self.inside.slots.items c.args.ids.now _ c.self.inside.shift (Free c.in-Free.at) c.as_slice.ensures.value c.as_slice-2.ensures.value
    c.home_of-home.ensures.value c.in-Free.ensures in (
      (put-in-slot _ _ _ (shown_lists c.self.inside.lists.items) _ _ _ _ (omega (arith, c.requires, ap length c.self.view_is)) c.self.invariant.0 found
          (c.len-place.ensures ∙ (c.self.inside.lists.ok.0 ∙ sym (shown-length c.self.inside.lists.items)))
          (ap shown_lists c.in_ok-push-in-Free.ensures.items ∙ shown-push c.self.inside.lists.items c.args.ids)).0,
      c.self.invariant.1,
    )

pub invariant_of-self-in-Full : goal.invariant_of-self-in-Full
invariant_of-self-in-Full c =
    let found = found-home _ c.self.inside.lists.items _ c.self.inside.slots.items c.args.ids.now _ c.self.inside.shift Full c.as_slice.ensures.value c.as_slice-2.ensures.value
    c.home_of-home.ensures.value c.in-Full.ensures in
    ((put-in-rest c.place_or_put_in_rest.result _ _ _ _ (shown_lists c.self.inside.lists.items) _ _ c.self.invariant.0 found c.place_or_put_in_rest.ensures.ok c.place_or_put_in_rest.ensures.err).0, c.self.invariant.1)

pub returns-in-Place-clause-place : goal.returns-in-Place-clause-place
returns-in-Place-clause-place c =
    let found = found-home _ c.self.inside.lists.items _ c.self.inside.slots.items c.args.ids.now _ c.self.inside.shift (Place c.in-Place.place) c.as_slice.ensures.value c.as_slice-2.ensures.value
    c.home_of-home.ensures.value c.in-Place.ensures in
    (known-list (shown_lists c.self.inside.lists.items) c.in-Place.place c.args.ids.now c.self.invariant.0.apart found).0
    ∙ ap (position_or_len (bytes_eq c.args.ids.now)) c.self.view_is

pub returns-in-Place-clause-ok : goal.returns-in-Place-clause-ok
returns-in-Place-clause-ok c =
    let found = found-home _ c.self.inside.lists.items _ c.self.inside.slots.items c.args.ids.now _ c.self.inside.shift (Place c.in-Place.place) c.as_slice.ensures.value c.as_slice-2.ensures.value
    c.home_of-home.ensures.value c.in-Place.ensures in
    sym c.self.view_is
    ∙ ((known-list (shown_lists c.self.inside.lists.items) c.in-Place.place c.args.ids.now c.self.invariant.0.apart found).1
    ∙ ap (λ (xs : List (List ℕ)). with_new bytes_eq xs c.args.ids.now) c.self.view_is)

pub returns-in_ok-push-in-Free-clause-place : goal.returns-in_ok-push-in-Free-clause-place
returns-in_ok-push-in-Free-clause-place c =
    let found = found-home _ c.self.inside.lists.items _ c.self.inside.slots.items c.args.ids.now _ c.self.inside.shift (Free c.in-Free.at) c.as_slice.ensures.value c.as_slice-2.ensures.value
    c.home_of-home.ensures.value c.in-Free.ensures in
    (put-in-slot _ _ _ (shown_lists c.self.inside.lists.items) _ _ _ _ (omega (arith, c.requires, ap length c.self.view_is)) c.self.invariant.0 found
    (c.len-place.ensures ∙ (c.self.inside.lists.ok.0 ∙ sym (shown-length c.self.inside.lists.items)))
    (ap shown_lists c.in_ok-push-in-Free.ensures.items ∙ shown-push c.self.inside.lists.items c.args.ids)).1.0
    ∙ ap (position_or_len (bytes_eq c.args.ids.now)) c.self.view_is

pub returns-in_ok-push-in-Free-clause-ok : goal.returns-in_ok-push-in-Free-clause-ok
returns-in_ok-push-in-Free-clause-ok c =
    let found = found-home _ c.self.inside.lists.items _ c.self.inside.slots.items c.args.ids.now _ c.self.inside.shift (Free c.in-Free.at) c.as_slice.ensures.value c.as_slice-2.ensures.value
    c.home_of-home.ensures.value c.in-Free.ensures in
    (put-in-slot _ _ _ (shown_lists c.self.inside.lists.items) _ _ _ _ (omega (arith, c.requires, ap length c.self.view_is)) c.self.invariant.0 found
    (c.len-place.ensures ∙ (c.self.inside.lists.ok.0 ∙ sym (shown-length c.self.inside.lists.items)))
    (ap shown_lists c.in_ok-push-in-Free.ensures.items ∙ shown-push c.self.inside.lists.items c.args.ids)).1.1
    ∙ ap (λ (xs : List (List ℕ)). with_new bytes_eq xs c.args.ids.now) c.self.view_is

pub returns-in-Full-clause-place : goal.returns-in-Full-clause-place
returns-in-Full-clause-place c =
    let found = found-home _ c.self.inside.lists.items _ c.self.inside.slots.items c.args.ids.now _ c.self.inside.shift Full c.as_slice.ensures.value c.as_slice-2.ensures.value
    c.home_of-home.ensures.value c.in-Full.ensures in
    done-place c.place_or_put_in_rest.result _ _ _ _ c.self.view_is (put-in-rest c.place_or_put_in_rest.result _ _ _ _ (shown_lists c.self.inside.lists.items) _ _ c.self.invariant.0 found c.place_or_put_in_rest.ensures.ok c.place_or_put_in_rest.ensures.err).1

pub returns-in-Full-clause-ok : goal.returns-in-Full-clause-ok
returns-in-Full-clause-ok c =
    let found = found-home _ c.self.inside.lists.items _ c.self.inside.slots.items c.args.ids.now _ c.self.inside.shift Full c.as_slice.ensures.value c.as_slice-2.ensures.value
    c.home_of-home.ensures.value c.in-Full.ensures in
    done-lists c.place_or_put_in_rest.result _ _ _ _ c.self.view_is (put-in-rest c.place_or_put_in_rest.result _ _ _ _ (shown_lists c.self.inside.lists.items) _ _ c.self.invariant.0 found c.place_or_put_in_rest.ensures.ok c.place_or_put_in_rest.ensures.err).1
