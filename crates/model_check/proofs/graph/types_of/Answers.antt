use Rattle.std.proofs.Common.{◌≡◌, ◌<◌, ◌+◌, ◌∷◌, ℕ, List, length, drop, get_or, ap, sym, ◌∙◌, subst, arith}
use Rattle.std.proofs.lemmas.List.{drop_more, length-set}
use Rattle.invariants.specs.declared.records.Partition.{Partition}
use Rattle.model_shape.specs.Shapes.{listed_type, is_listed}
use Rattle.limits.specs.declared.TheConstants.{MAX_PARTITIONS}
use Rattle.model_check.specs.Rows.{AreApart, IsMarkable}
use Rattle.model_check.proofs.Tabling.{zeros, with_table, table_more, table_none, unlisted-type}
use Rattle.model_check.proofs.graph.types_of.Goals as goal

pub loop-partition-init : goal.loop-partition-init
loop-partition-init c = record {
  size = omega (arith, c.in_ok-types.ensures.len);
  apart = c.requires.apart;
  types = λ p. table_none (λ q. is_listed q c.args.partitions.now) (λ q. listed_type q c.args.partitions.now) c.in_ok-types.types.items p (ap (λ xs. get_or xs p 0) (c.in_ok-types.ensures.items_if_clones_equal (λ y same. same)) ∙ zeros MAX_PARTITIONS p) (unlisted-type p c.args.partitions.now);
}

pub loop-partition-preserved : goal.loop-partition-preserved
loop-partition-preserved c =
    let xs : List Partition = c.args.partitions.now in
    let i : ℕ = c.loop-partition.partition-index in
    let x : Partition = get_or xs i (record { id = 0; typ = 0; count = 0 }) in
    let mark : IsMarkable x = c.requires.markable i (record { id = 0; typ = 0; count = 0 }) c.loop-partition-test.true in
    let id : x.id < MAX_PARTITIONS = mark.0 in
    let step : drop i xs ≡ x ∷ drop (i + 1) xs = drop_more xs i (record { id = 0; typ = 0; count = 0 }) c.loop-partition-test.true in
    let apart : AreApart (x ∷ drop (i + 1) xs) = subst AreApart step c.loop-partition.invariant.apart in
    let size : length c.loop-partition.types.items ≡ MAX_PARTITIONS = c.loop-partition.invariant.size in
    record {
      size = length-set c.loop-partition.types.items x.id x.typ ∙ size;
      apart = apart.1;
      types = λ p.
          table_more x.id x.typ (λ q. is_listed q (drop (i + 1) xs)) (λ q. listed_type q (drop (i + 1) xs)) c.loop-partition.types.items p apart.0 (omega arith)
          ∙ sym (ap (λ ys. with_table (λ q. is_listed q ys) (λ q. listed_type q ys) c.loop-partition.types.items p) step)
          ∙ c.loop-partition.invariant.types p;
    }
