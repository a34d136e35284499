use Rattle.std.proofs.Common.{◌≡◌, List, Some, slice_get, length, get_or, sym, ◌∙◌, ap, arith}
use Rattle.std.proofs.lemmas.Option.{slice_get-get_or}
use Rattle.invariants.specs.declared.records.Partition.{Partition}
use Rattle.model_check.proofs.Opening.{kept_more, kept_all, kept_some}
use Rattle.model_check.proofs.blocks.first_open.Goals as goal
use Rattle.model_check.proofs.blocks.first_open.Goals.{In-loop-i}

-- the partition in hand
there : (c : In-loop-i) → slice_get c.args.model.now.partitions c.loop-i.i ≡ Some (get_or c.as_slice-x-items.result.now c.loop-i.i (record { id = 0; typ = 0; count = 0 }))
there c =
    ap (λ (xs : List Partition). slice_get xs c.loop-i.i) (sym c.as_slice-x-items.ensures)
    ∙ slice_get-get_or c.as_slice-x-items.result.now c.loop-i.i (record { id = 0; typ = 0; count = 0 }) c.loop-i-test.true

pub returns-in-Some : goal.returns-in-Some
returns-in-Some c =
    kept_some c.args.model.now c.requires.shaped c.loop-i.i c.in-Some.q (get_or c.as_slice-x-items.result.now c.loop-i.i (record { id = 0; typ = 0; count = 0 }))
    (there ((goal.at.returns-in-Some c).In-loop-i)) c.loop-i.invariant.held c.in-Some.ensures.first

pub loop-i-preserved : goal.loop-i-preserved
loop-i-preserved c =
    record {
      reached = c.in_default.ensures.reached;
      held =
          kept_more c.args.model.now c.loop-i.i (get_or c.as_slice-x-items.result.now c.loop-i.i (record { id = 0; typ = 0; count = 0 }))
          (there ((goal.at.loop-i-preserved c).In-loop-i)) c.in_default.ensures.first c.loop-i.invariant.held;
    }

pub returns : goal.returns
returns c = kept_all c.args.model.now c.loop-i.i (omega (arith, c.loop-i-test.false, ap length c.as_slice-x-items.ensures)) c.loop-i.invariant.held
