use Rattle.std.proofs.Common.{◌≡◌, ◌<◌, ◌+◌, ℕ, List, get_or, set, length, sym, ap, subst, arith}
use Rattle.std.specs.List.{All}
use Rattle.limits.specs.declared.TheConstants.{MAX_PARTITIONS}
use Rattle.partition_model.specs.Assignments.{Assignment}
use Rattle.partition_model.specs.Refinement.{after_split}
use Rattle.replay_check.specs.Laid.{moved}
use Rattle.replay_check.specs.Shown.{Shows}
use Rattle.replay_check.proofs.Same.{moved-within}
use Rattle.replay_check.proofs.Showing.{shows-split, shows-still}
use Rattle.replay_check.proofs.splits.divide.Goals as goal

pub returns-then-p-lt-FIRST_TYPE-clause-shows : goal.returns-then-p-lt-FIRST_TYPE-clause-shows
returns-then-p-lt-FIRST_TYPE-clause-shows c = λ h s.
    let path : List ℕ = c.args.split.now.path in
    let place : ℕ = c.args.split.now.place in
    let e : get_or c.as_slice-path.result.now place 0 ≡ get_or path place 0 = ap (λ (xs : List ℕ). get_or xs place 0) c.as_slice-path.ensures in
    shows-still (get_or path place 0) (get_or path (place + 1) 0) c.args.n h c.args.ids.now c.args.types.now (omega (arith, c.if-p-lt-FIRST_TYPE.true)) s

pub returns-clause-shows : goal.returns-clause-shows
returns-clause-shows c = λ h s.
    let path : List ℕ = c.args.split.now.path in
    let place : ℕ = c.args.split.now.place in
    let n : ℕ = c.args.n in
    let ids : List ℕ = c.args.ids.now in
    let types : List ℕ = c.args.types.now in
    let after : Assignment = after_split n c.args.split.now h in
    let e : get_or c.as_slice-path.result.now place 0 ≡ get_or path place 0 = ap (λ (xs : List ℕ). get_or xs place 0) c.as_slice-path.ensures in
    let size : length types ≡ MAX_PARTITIONS = c.requires.size in
    let room : n < MAX_PARTITIONS = c.requires.room in
    let made : Shows after (n + 1) (moved (get_or path place 0) (get_or path (place + 1) 0) n ids) (set types n (get_or types (get_or path place 0) 0)) =
    shows-split (get_or path place 0) (get_or path (place + 1) 0) n h ids types (omega (arith, c.if-p-lt-FIRST_TYPE.false)) (omega arith) s in
    let here : Shows after (n + 1) (moved (get_or c.as_slice-path.result.now place 0) (get_or c.as_slice-path.result.now (place + 1) 0) n ids) (set types n (get_or types (get_or c.as_slice-path.result.now place 0) 0)) =
    subst (λ (xs : List ℕ). Shows after (n + 1) (moved (get_or xs place 0) (get_or xs (place + 1) 0) n ids) (set types n (get_or types (get_or xs place 0) 0))) (sym c.as_slice-path.ensures) made in
    subst (λ (xs : List ℕ). Shows after (n + 1) xs (set types n (get_or types (get_or c.as_slice-path.result.now place 0) 0))) (sym c.move_events.ensures) here

pub returns-clause-within : goal.returns-clause-within
returns-clause-within c =
    let xs : List ℕ = c.as_slice-path.result.now in
    let place : ℕ = c.args.split.now.place in
    subst (λ (ys : List ℕ). All (λ p. p < MAX_PARTITIONS) ys) (sym c.move_events.ensures)
    (moved-within (λ p. p < MAX_PARTITIONS) (get_or xs place 0) (get_or xs (place + 1) 0) c.args.n c.args.ids.now c.requires.room c.requires.within)
