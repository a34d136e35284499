use Rattle.std.proofs.Common.{◌≡◌, ◌<◌, length, None, ap, arith}
use Rattle.json.specs.Json.{parse_map, after_end_array, value}
use Rattle.model_file.specs.Lists.{one_more}
use Rattle.model_file.proofs.Grammar.{items_over}
use Rattle.model_file.proofs.Listing.{first-stopped, others-stopped, row-read}
use Rattle.model_file.proofs.lists.Tuple2Row.fields.Goals as goal

pub returns-then-take_end_array-clause-value : goal.returns-then-take_end_array-clause-value
returns-then-take_end_array-clause-value g c n some = ap (parse_map (one_more g.A.Entry.read_as g.R.Row.fields_as)) (items_over (value c.args.depth) n c.args.reader.now c.take_end_array.new.self some (grind arith))

pub returns-in-Err-clause-value : goal.returns-in-Err-clause-value
returns-in-Err-clause-value g c n some =
    let going : (after_end_array c.args.reader.now ≡ None) × (c.take_end_array.new.self ≡ c.args.reader.now) = grind arith in
    first-stopped g.A.Entry.read_as g.R.Row.fields_as c.args.depth n c.args.reader.now some going.0 c.in-Err.e (rw (← going.1) c.in-Err.ensures.value)

pub returns-in-Ok-fields-clause-value : goal.returns-in-Ok-fields-clause-value
returns-in-Ok-fields-clause-value g c n some =
    let going : (after_end_array c.args.reader.now ≡ None) × (c.take_end_array.new.self ≡ c.args.reader.now) = grind arith in
    let less : length c.read.new.reader < length c.args.reader.now = rw (← going.1) c.in-Ok.ensures.shorter in
    row-read g.A.Entry.read_as g.R.Row.fields_as c.args.depth n c.args.reader.now some going.0 c.read.new.reader less c.in-Ok.first (rw (← going.1) c.in-Ok.ensures.value)
    c.in-Ok-fields.others c.fields.new.reader c.both.result c.both.ensures c.in-Ok-fields.ensures.value

pub returns-in-Err-fields-clause-value : goal.returns-in-Err-fields-clause-value
returns-in-Err-fields-clause-value g c n some =
    let going : (after_end_array c.args.reader.now ≡ None) × (c.take_end_array.new.self ≡ c.args.reader.now) = grind arith in
    let less : length c.read.new.reader < length c.args.reader.now = rw (← going.1) c.in-Ok.ensures.shorter in
    others-stopped g.A.Entry.read_as g.R.Row.fields_as c.args.depth n c.args.reader.now some going.0 c.read.new.reader less c.in-Ok.first (rw (← going.1) c.in-Ok.ensures.value)
    c.in-Err-fields.e c.in-Err-fields.ensures.value
