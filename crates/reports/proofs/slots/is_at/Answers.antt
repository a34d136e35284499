use Rattle.std.proofs.Common.{refl, sym, ◌∙◌, true≢false}
use Rattle.std.proofs.lemmas.Option.{slice_get_read, slice_get_past, none-some}
use Rattle.reports.proofs.Placing.{shown-at, shown-past, told-list}
use Rattle.reports.proofs.slots.is_at.Goals as goal

pub returns-in-Some : goal.returns-in-Some
returns-in-Some c =
    let found = c.in-Some.ensures.lookup in
    let at = slice_get_read c.args.lists.now _ c.args.place c.in-Some.list.now refl found.3.0 found.1 in
    told-list _ c.in-Some.list.now.now c.args.ids.now c.eq.result (shown-at c.args.lists.now c.args.place c.in-Some.list.now at) c.eq.ensures

pub returns-in-None : goal.returns-in-None
returns-in-None c =
    let past = shown-past c.args.lists.now c.args.place (slice_get_past c.args.lists.now c.args.place c.in-None.ensures.lookup.3) in
    (λ passes. absurd (true≢false (sym passes)), λ there. absurd (none-some c.args.ids.now (sym past ∙ there)))
