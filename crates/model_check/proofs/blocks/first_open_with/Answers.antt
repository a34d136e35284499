use Rattle.std.proofs.Common.{◌≡◌, ◌+◌, ℕ, List, Some, slice_get, length, get_or, true≢false, sym, ◌∙◌, ap, subst, arith}
use Rattle.std.proofs.lemmas.Option.{slice_get-get_or}
use Rattle.invariants.specs.declared.records.Partition.{Partition}
use Rattle.model_check.proofs.Opening.{IsScanned, before-low, low-reached, scan_start, scan_skip, scan_more, scan_none, scan_some}
use Rattle.model_check.proofs.blocks.first_open_with.Goals as goal
use Rattle.model_check.proofs.blocks.first_open_with.Goals.{In-loop-j, else-y-x-via-then-y-x+else-not-is_blocked, else-y-x-via-else-y-x}

-- the partition in hand
there : (c : In-loop-j) → slice_get c.args.model.now.partitions c.loop-j.j ≡ Some (get_or c.as_slice-partitions.result.now c.loop-j.j (record { id = 0; typ = 0; count = 0 }))
there c =
    ap (λ (xs : List Partition). slice_get xs c.loop-j.j) (sym c.as_slice-partitions.ensures)
    ∙ slice_get-get_or c.as_slice-partitions.result.now c.loop-j.j (record { id = 0; typ = 0; count = 0 }) c.loop-j-test.true

pub loop-j-init : goal.loop-j-init
loop-j-init c = scan_start c.args.model.now c.requires.shaped c.args.i c.args.x.now c.requires.there c.args.next.now c.requires.reached

pub is_blocked-requires-clause-before : goal.is_blocked-requires-clause-before
is_blocked-requires-clause-before c = c.loop-j.invariant.reached c.loop-j.j _ (there ((goal.at.is_blocked-requires-clause-before c).In-loop-j)) (omega arith)

pub returns-then-not-is_blocked-clause-first : goal.returns-then-not-is_blocked-clause-first
returns-then-not-is_blocked-clause-first c =
    let d : In-loop-j = (goal.at.returns-then-not-is_blocked-clause-first c).In-loop-j in
    scan_some c.args.model.now c.requires.shaped c.args.i c.args.x.now c.requires.there c.loop-j.j c.loop-j.next (get_or c.as_slice-partitions.result.now c.loop-j.j (record { id = 0; typ = 0; count = 0 })) (there d) c.if-x-lt-FIRST_TYPE.false
    (omega (arith, c.loop-j.auto.j)) c.if-y-x.true (λ b. true≢false (sym (c.is_blocked.ensures.blocked.1 b) ∙ c.if-not-is_blocked.true)) c.loop-j.invariant

pub returns-then-not-is_blocked-clause-reached : goal.returns-then-not-is_blocked-clause-reached
returns-then-not-is_blocked-clause-reached c =
    low-reached c.args.model.now c.requires.shaped c.args.i c.args.x.now c.requires.there c.is_blocked.new.next (before-low c.args.model.now.blocks c.is_blocked.new.next c.args.x.now.id _ c.is_blocked.ensures.before)

pub loop-j-preserved : goal.loop-j-preserved
loop-j-preserved c =
    let d : In-loop-j = (goal.at.loop-j-preserved c).In-loop-j in
    let y : Partition = get_or c.as_slice-partitions.result.now c.loop-j.j (record { id = 0; typ = 0; count = 0 }) in
    elim c.else-y-x.branch [
      | else-y-x-via-then-y-x+else-not-is_blocked w ↦
          subst (λ (n : ℕ). IsScanned c.args.model.now c.args.i (c.loop-j.j + 1) n c.args.x.now) (sym w.next-is)
          (scan_more c.args.model.now c.requires.shaped c.args.i c.args.x.now c.requires.there c.loop-j.j c.loop-j.next w.is_blocked.new.next y (there d) (w.is_blocked.ensures.blocked.0 w.if-not-is_blocked.false)
          w.is_blocked.ensures.before c.loop-j.invariant)
      | else-y-x-via-else-y-x w ↦
          subst (λ (n : ℕ). IsScanned c.args.model.now c.args.i (c.loop-j.j + 1) n c.args.x.now) (sym w.next-is)
          (scan_skip c.args.model.now c.requires.shaped c.args.i c.args.x.now c.requires.there c.loop-j.j c.loop-j.next y (there d) w.if-y-x.false c.loop-j.invariant)
    ]

pub returns-clause-first : goal.returns-clause-first
returns-clause-first c =
    scan_none c.args.model.now c.requires.shaped c.args.i c.args.x.now c.requires.there c.loop-j.j c.loop-j.next (omega (arith, c.loop-j-test.false, ap length c.as_slice-partitions.ensures)) c.loop-j.invariant

pub returns-clause-reached : goal.returns-clause-reached
returns-clause-reached c = low-reached c.args.model.now c.requires.shaped c.args.i c.args.x.now c.requires.there c.loop-j.next c.loop-j.invariant.low
