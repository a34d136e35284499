use Rattle.std.proofs.Common.{◌≡◌, ◌<◌, length, None, ap, arith}
use Rattle.json.specs.Json.{parse_map, after_end_array, value}
use Rattle.model_file.specs.Lists.{no_fields}
use Rattle.model_file.proofs.Grammar.{item_refused, items_over}
use Rattle.model_file.proofs.Listing.{too-many, too-many-stopped}
use Rattle.model_file.proofs.lists.UnitRow.fields.Goals as goal

pub returns-then-take_end_array-clause-value : goal.returns-then-take_end_array-clause-value
returns-then-take_end_array-clause-value c n some = ap (parse_map no_fields) (items_over (value c.args.depth) n c.args.reader.now c.take_end_array.new.self some (grind arith))

pub returns-in-Err-clause-value : goal.returns-in-Err-clause-value
returns-in-Err-clause-value c n some =
    let going : (after_end_array c.args.reader.now ≡ None) × (c.take_end_array.new.self ≡ c.args.reader.now) = grind arith in
    ap (parse_map no_fields) (item_refused (value c.args.depth) n c.args.reader.now going.0 (rw (← going.1) c.in-Err.ensures.value))

pub returns-in-Ok-pass_items-clause-value : goal.returns-in-Ok-pass_items-clause-value
returns-in-Ok-pass_items-clause-value c n some =
    let going : (after_end_array c.args.reader.now ≡ None) × (c.take_end_array.new.self ≡ c.args.reader.now) = grind arith in
    let less : length c.pass_value.new.reader < length c.args.reader.now = rw (← going.1) c.in-Ok.ensures.shorter in
    too-many c.args.depth n c.args.reader.now c.pass_value.new.reader some less going.0 (rw (← going.1) c.in-Ok.ensures.value) c.pass_items.new.reader c.in-Ok-pass_items.ensures.value

pub returns-in-Err-pass_items-clause-value : goal.returns-in-Err-pass_items-clause-value
returns-in-Err-pass_items-clause-value c n some =
    let going : (after_end_array c.args.reader.now ≡ None) × (c.take_end_array.new.self ≡ c.args.reader.now) = grind arith in
    let less : length c.pass_value.new.reader < length c.args.reader.now = rw (← going.1) c.in-Ok.ensures.shorter in
    too-many-stopped c.args.depth n c.args.reader.now c.pass_value.new.reader some less going.0 (rw (← going.1) c.in-Ok.ensures.value) c.in-Err-pass_items.ensures.value
