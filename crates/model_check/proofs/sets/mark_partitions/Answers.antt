use Rattle.std.proofs.Common.{◌≡◌, ◌+◌, ◌||◌, ◌&&◌, ◌==◌, ◌∷◌, ℕ, List, drop, get_or, ap, sym, ◌∙◌}
use Rattle.std.proofs.lemmas.List.{drop_more}
use Rattle.invariants.specs.declared.records.Partition.{Partition}
use Rattle.model_check.specs.declared.sets.TheConstants.{LISTED, MEMBERS}
use Rattle.model_check.specs.Rows.{bit, marked}
use Rattle.model_check.proofs.Tabling.{mark_more}
use Rattle.model_check.proofs.sets.mark_partitions.Goals as goal

pub loop-partition-preserved : goal.loop-partition-preserved
loop-partition-preserved c =
    let xs : List Partition = c.args.partitions.now in
    let i : ℕ = c.loop-partition.partition-index in
    let x : Partition = get_or xs i (record { id = 0; typ = 0; count = 0 }) in
    let from : c.from.result ≡ x.typ = c.from.ensures in
    let rows = c.loop-partition.rows in
    let mid = c.put.new.self in
    let step : drop i xs ≡ x ∷ drop (i + 1) xs = drop_more xs i (record { id = 0; typ = 0; count = 0 }) c.loop-partition-test.true in
    λ r k. mark_more (LISTED == r && x.id == k) (MEMBERS + x.typ == r && x.id == k) (bit rows r k) (bit mid r k) (bit c.put-in-loop-partition.new.self r k) (marked r k (drop (i + 1) xs)) (bit c.args.rows.now r k || marked r k xs)
    (c.put.ensures r k)
    (c.put-in-loop-partition.ensures r k ∙ ap (λ y. bit mid r k || (MEMBERS + y == r && x.id == k)) from)
    (sym (ap (λ ys. bit rows r k || marked r k ys) step) ∙ c.loop-partition.invariant r k)
