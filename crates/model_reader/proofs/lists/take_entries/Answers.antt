use Rattle.std.proofs.Common.{sym, ◌∙◌}
use Rattle.model_reader.proofs.Listing.{taken_last, taken_more}
use Rattle.model_reader.proofs.lists.take_entries.Goals as goal

pub returns-then-takes-2 : goal.returns-then-takes-2
returns-then-takes-2 g c =
    taken_last g.T.Spelled.data_of c.entries.entries.items c.in_ok-entry.entry c.push.new.self.items c.args.rest.now c.entries.rest c.take.new.rest c.takes-in-entries.new.self
    c.in-Ok.ensures.items c.entries.invariant c.in_ok-entry.ensures c.if-takes-2.ensures.yes

pub entries-preserved : goal.entries-preserved
entries-preserved g c =
    taken_more g.T.Spelled.data_of c.entries.entries.items c.in_ok-entry.entry c.push.new.self.items c.args.rest.now c.entries.rest c.take.new.rest c.byte.new.self
    c.in-Ok.ensures.items c.entries.invariant c.in_ok-entry.ensures (sym c.if-takes-2.ensures.no ∙ c.in_ok-byte.ensures)
