use Rattle.std.proofs.Common.{length, ◌-◌, Ok, true, false}
use Rattle.model_file.specs.Streams.{data_at, items_at, Opens}
use Rattle.model_file.proofs.Listing.{list-inside, no-list}
use Rattle.model_file.proofs.lists.list.Goals as goal

pub returns-in-Ok-true-clause-value : goal.returns-in-Ok-true-clause-value
returns-in-Ok-true-clause-value g c =
    let opened : Opens c.args.depth (Ok true) c.args.reader.now c.open.new.reader = rw c.in-Ok-true.field-0-test at c.in-Ok-true.ensures.value in
    list-inside g.B.Bound.over g.T.Entry.read_as c.entries.result (items_at (length c.open.new.reader) (c.args.depth - 1) c.open.new.reader) (data_at c.args.depth c.args.reader.now) c.entries.new.reader
    opened.1 c.entries.ensures.value

pub returns-in-Ok-false-clause-value : goal.returns-in-Ok-false-clause-value
returns-in-Ok-false-clause-value g c =
    let d : Opens c.args.depth (Ok false) c.args.reader.now c.open.new.reader = rw c.in-Ok-false.field-0-test at c.in-Ok-false.ensures.value in
    no-list g.B.Bound.over g.T.Entry.read_as (data_at c.args.depth c.args.reader.now) d.0 c.open.new.reader d.1 d.2
