use Rattle.std.proofs.Common.{◌+◌, length, set, ap, ◌∙◌, arith}
use Rattle.std.proofs.lemmas.List.{length-set}
use Rattle.cell_pool.proofs.Done.{splice_none, first_in, last_in, last_to_in, splice_done}
use Rattle.cell_pool.proofs.cells.Cells.splice.Goals as goal

pub returns-then-first-source-clause-lists : goal.returns-then-first-source-clause-lists
returns-then-first-source-clause-lists c = splice_none c.args.self.now c.self.inside.next.items c.self.inside.prev.items c.self.inside.cells c.self.inside.lists c.self.view_is c.self.invariant c.args.from c.args.to c.requires.from_list c.requires.to_list c.requires.apart c.index-first.result.now c.index-first.ensures c.if-first-source.true

pub join-requires-clause-a_in : goal.join-requires-clause-a_in
join-requires-clause-a_in c = last_to_in c.args.self.now c.self.inside.next.items c.self.inside.prev.items c.self.inside.cells c.self.inside.lists c.self.view_is c.self.invariant c.args.from c.args.to c.requires.from_list c.requires.to_list c.requires.apart c.index-first.result.now c.index-first.ensures c.index-last.result.now c.index-end.result.now c.index-last.ensures c.index-end.ensures

pub join-requires-clause-b_in : goal.join-requires-clause-b_in
join-requires-clause-b_in c = first_in c.args.self.now c.self.inside.next.items c.self.inside.prev.items c.self.inside.cells c.self.inside.lists c.self.view_is c.self.invariant c.args.from c.args.to c.requires.from_list c.requires.to_list c.requires.apart c.index-first.result.now c.index-first.ensures

pub join-requires-2-clause-a_in : goal.join-requires-2-clause-a_in
join-requires-2-clause-a_in c = omega (arith, last_in c.args.self.now c.self.inside.next.items c.self.inside.prev.items c.self.inside.cells c.self.inside.lists c.self.view_is c.self.invariant c.args.from c.args.to c.requires.from_list c.requires.to_list c.requires.apart c.index-first.result.now c.index-first.ensures c.index-last.result.now c.index-end.result.now c.index-last.ensures c.index-end.ensures, ap length c.join.ensures.next, length-set c.self.inside.next.items c.index-end.result.now c.index-first.result.now)

pub invariant_of-self : goal.invariant_of-self
invariant_of-self c = (splice_done c.args.self.now c.self.inside.next.items c.self.inside.prev.items c.self.inside.cells c.self.inside.lists c.self.view_is c.self.invariant c.args.from c.args.to c.requires.from_list c.requires.to_list c.requires.apart c.index-first.result.now c.index-first.ensures c.index-last.result.now c.index-end.result.now c.index-last.ensures c.index-end.ensures
    c.join-3.new.next.items c.join-3.new.prev.items c.if-first-source.false
    (c.join-3.ensures.next ∙ ap (λ l. set l (c.self.inside.cells + c.args.from) (c.self.inside.cells + c.args.from)) (c.join-2.ensures.next ∙ ap (λ l. set l c.index-last.result.now (c.self.inside.cells + c.args.to)) c.join.ensures.next))
    (c.join-3.ensures.prev ∙ ap (λ l. set l (c.self.inside.cells + c.args.from) (c.self.inside.cells + c.args.from)) (c.join-2.ensures.prev ∙ ap (λ l. set l (c.self.inside.cells + c.args.to) c.index-last.result.now) c.join.ensures.prev))).table

pub returns-clause-lists : goal.returns-clause-lists
returns-clause-lists c = (splice_done c.args.self.now c.self.inside.next.items c.self.inside.prev.items c.self.inside.cells c.self.inside.lists c.self.view_is c.self.invariant c.args.from c.args.to c.requires.from_list c.requires.to_list c.requires.apart c.index-first.result.now c.index-first.ensures c.index-last.result.now c.index-end.result.now c.index-last.ensures c.index-end.ensures
    c.join-3.new.next.items c.join-3.new.prev.items c.if-first-source.false
    (c.join-3.ensures.next ∙ ap (λ l. set l (c.self.inside.cells + c.args.from) (c.self.inside.cells + c.args.from)) (c.join-2.ensures.next ∙ ap (λ l. set l c.index-last.result.now (c.self.inside.cells + c.args.to)) c.join.ensures.next))
    (c.join-3.ensures.prev ∙ ap (λ l. set l (c.self.inside.cells + c.args.from) (c.self.inside.cells + c.args.from)) (c.join-2.ensures.prev ∙ ap (λ l. set l (c.self.inside.cells + c.args.to) c.index-last.result.now) c.join.ensures.prev))).shows

pub returns-clause-cells : goal.returns-clause-cells
returns-clause-cells c = (splice_done c.args.self.now c.self.inside.next.items c.self.inside.prev.items c.self.inside.cells c.self.inside.lists c.self.view_is c.self.invariant c.args.from c.args.to c.requires.from_list c.requires.to_list c.requires.apart c.index-first.result.now c.index-first.ensures c.index-last.result.now c.index-end.result.now c.index-last.ensures c.index-end.ensures
    c.join-3.new.next.items c.join-3.new.prev.items c.if-first-source.false
    (c.join-3.ensures.next ∙ ap (λ l. set l (c.self.inside.cells + c.args.from) (c.self.inside.cells + c.args.from)) (c.join-2.ensures.next ∙ ap (λ l. set l c.index-last.result.now (c.self.inside.cells + c.args.to)) c.join.ensures.next))
    (c.join-3.ensures.prev ∙ ap (λ l. set l (c.self.inside.cells + c.args.from) (c.self.inside.cells + c.args.from)) (c.join-2.ensures.prev ∙ ap (λ l. set l (c.self.inside.cells + c.args.to) c.index-last.result.now) c.join.ensures.prev))).keeps
