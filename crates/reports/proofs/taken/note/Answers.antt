use Rattle.std.proofs.Common.{map, set, sym, ap, ◌∙◌, arith}
use Rattle.std.proofs.lemmas.Bool.{cond-true}
use Rattle.std.proofs.lemmas.List.{map-set, map-append}
use Rattle.std.proofs.Math.Seq.{map-set_same}
use Rattle.reports.specs.declared.taken.TakenPath.{TakenPath}
use Rattle.reports.specs.Paths.{shown, trace_path}
use Rattle.reports.proofs.Noted.{any-list, position-list, new-place, taken-place, lists-more, absent, present, once_more, counted-le}
use Rattle.reports.proofs.taken.note.Goals as goal

pub returns-then-place-len-clause-lists : goal.returns-then-place-len-clause-lists
returns-then-place-len-clause-lists c =
    let end = c.len.ensures ∙ c.args.paths.now.ok.0 in
    let none = new-place c.args.lists.now c.args.paths.now.items c.args.ids.now c.in_ok-place.place _ c.requires.lists c.in_ok-place.ensures.place end c.if-place-len.true in
    lists-more c.args.lists.now c.place_or_put.new.self c.args.paths.now.items _ c.requires.lists c.in_ok-place.ensures.ok none
    ∙ ap (map (λ (g : TakenPath). g.ids.now)) (sym c.in_ok-push.ensures.items)

pub returns-then-place-len-clause-noted : goal.returns-then-place-len-clause-noted
returns-then-place-len-clause-noted c =
    let gs = c.args.paths.now.items in
    let path = trace_path c.args.types.now c.args.ids.now in
    let end = c.len.ensures ∙ c.args.paths.now.ok.0 in
    let none = new-place c.args.lists.now gs c.args.ids.now c.in_ok-place.place _ c.requires.lists c.in_ok-place.ensures.place end c.if-place-len.true in
    ap (map shown) c.in_ok-push.ensures.items
    ∙ (map-append shown gs _ ∙ sym (absent (map shown gs) path (any-list c.args.lists.now gs path c.requires.lists ∙ none)))

pub index_mut-requires : goal.index_mut-requires
index_mut-requires c =
    let end = c.len.ensures ∙ c.args.paths.now.ok.0 in
    let there = taken-place c.args.lists.now c.args.paths.now.items c.args.ids.now c.in_ok-place.place _ c.requires.lists c.in_ok-place.ensures.place end c.if-place-len.false in
    omega (arith, there.1, c.args.paths.now.ok.0)

pub overflow_add-index_mut : goal.overflow_add-index_mut
overflow_add-index_mut c =
    let gs = c.args.paths.now.items in
    let end = c.len.ensures ∙ c.args.paths.now.ok.0 in
    let there = taken-place c.args.lists.now gs c.args.ids.now c.in_ok-place.place _ c.requires.lists c.in_ok-place.ensures.place end c.if-place-len.false in
    omega (arith, counted-le gs c.in_ok-place.place c.index_mut.result.now there.1 c.index_mut.ensures.value, c.requires.count)

pub returns-clause-lists : goal.returns-clause-lists
returns-clause-lists c =
    let gs = c.args.paths.now.items in
    let end = c.len.ensures ∙ c.args.paths.now.ok.0 in
    let there = taken-place c.args.lists.now gs c.args.ids.now c.in_ok-place.place _ c.requires.lists c.in_ok-place.ensures.place end c.if-place-len.false in
    c.in_ok-place.ensures.ok
    ∙ (cond-true _ _ _ there.0
    ∙ (c.requires.lists
    ∙ sym (map-set_same (λ (g : TakenPath). g.ids.now) gs c.in_ok-place.place _ c.index_mut.result.now (ap (λ (g : TakenPath). g.ids.now) c.index_mut.ensures.value))))

pub returns-clause-noted : goal.returns-clause-noted
returns-clause-noted c =
    let gs = c.args.paths.now.items in
    let end = c.len.ensures ∙ c.args.paths.now.ok.0 in
    let there = taken-place c.args.lists.now gs c.args.ids.now c.in_ok-place.place _ c.requires.lists c.in_ok-place.ensures.place end c.if-place-len.false in
    let first = c.in_ok-place.ensures.place ∙ position-list c.args.lists.now gs c.args.ids.now c.requires.lists in
    map-set shown gs c.in_ok-place.place _
    ∙ (ap (λ (g : TakenPath). set (map shown gs) c.in_ok-place.place (once_more g)) c.index_mut.ensures.value
    ∙ sym (present gs (trace_path c.args.types.now c.args.ids.now) c.in_ok-place.place c.index_mut.result.now first there.1))
