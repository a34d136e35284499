use Rattle.std.proofs.Common.{◌≡◌, ◌-◌, ◌<◌, length, Some, None, ap, ◌∙◌, arith}
use Rattle.json.specs.Json.{after_end_array}
use Rattle.model_file.specs.Lists.{gathered}
use Rattle.model_file.specs.Streams.{items_at}
use Rattle.model_file.proofs.Listing.{list-begins, list-goes-on, list-ends, list-stopped}
use Rattle.model_file.proofs.lists.entries.Goals as goal

pub items-init : goal.items-init
items-init g c =
    let ts = c.args.reader.now in
    (length ts, omega arith, list-begins g.B.Bound.over g.T.Entry.read_as (items_at (length ts) c.args.depth ts) _ (ap Some c.new.ensures.items), omega arith)

pub returns-in-Err-clause-value : goal.returns-in-Err-clause-value
returns-in-Err-clause-value g c =
    let l = c.items in
    let going : (after_end_array l.reader ≡ None) × (c.take_end_array.new.self ≡ l.reader) = grind arith in
    list-stopped g.B.Bound.over g.T.Entry.read_as c.args.depth l.invariant.0 l.reader l.invariant.1 (gathered l.found) c.in-Err.e _ going.0 (rw (← going.1) c.in-Err.ensures.value) l.invariant.2

pub items-preserved : goal.items-preserved
items-preserved g c =
    let l = c.items in
    let n = l.invariant.0 in
    let r = c.read.new.reader in
    let going : (after_end_array l.reader ≡ None) × (c.take_end_array.new.self ≡ l.reader) = grind arith in
    let less : length r < length l.reader = rw (← going.1) c.in-Ok.ensures.shorter in (
      n - 1,
      omega (arith, l.invariant.1, less),
      l.invariant.2 ∙ list-goes-on g.B.Bound.over g.T.Entry.read_as c.args.depth n l.reader l.invariant.1 (gathered l.found) r c.in-Ok.entry _ less going.0 (rw (← going.1) c.in-Ok.ensures.value) c.in-Ok-add.ensures,
      omega (arith, l.invariant.3, less),
    )

pub returns-clause-value : goal.returns-clause-value
returns-clause-value g c =
    let l = c.items in
    l.invariant.2 ∙ list-ends g.B.Bound.over g.T.Entry.read_as c.args.depth l.invariant.0 l.reader l.invariant.1 (gathered l.found) c.take_end_array.new.self c.list.result (grind arith) c.list.ensures
