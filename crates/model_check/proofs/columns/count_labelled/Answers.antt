use Rattle.std.proofs.Common.{◌≤◌, ◌+◌, length, List, refl, sym, ap, subst, arith}
use Rattle.std.specs.List.{All}
use Rattle.std.proofs.lemmas.List.Elements.{All-from_recursion}
use Rattle.invariants.specs.declared.records.Edge.{Edge}
use Rattle.model_check.specs.Rows.{IsEdgeWithin}
use Rattle.model_check.specs.Columns.{AreWithin}
use Rattle.model_check.specs.declared.columns.TheConstants.{TOGETHER}
use Rattle.model_check.proofs.Building.{edges-within}
use Rattle.model_check.proofs.Together.{group-labelled}
use Rattle.model_check.proofs.columns.count_labelled.Goals as goal

pub keep_all_along-requires : goal.keep_all_along-requires
keep_all_along-requires c =
    record {
      within = subst (λ (xs : List Edge). All IsEdgeWithin xs) (sym c.as_slice-in-loop-count.ensures) (All-from_recursion IsEdgeWithin c.args.model.now.edges (edges-within c.args.model.now c.requires.shaped));
    }

pub loop-count-preserved : goal.loop-count-preserved
loop-count-preserved c =
    let m = c.args.model.now in
    let labels = c.lay_columns.new.columns.labels.items in
    let sources = c.lay_columns.new.columns.sources.items in
    let few : c.min-count.result ≤ length m.invariants = omega (arith, c.min-count.ensures, ap length c.as_slice-in-loop-count-2.ensures) in
    let next : c.min-count.result ≤ c.loop-count.count + TOGETHER = omega (arith, c.min-count.ensures) in
    record {
      within = few;
      labelled =
          group-labelled m labels sources c.loop-count.count c.min-count.result c.requires.shaped next (c.if-not-lay_columns.ensures refl)
          (subst (λ (es : List Edge). All (λ (e : Edge). AreWithin labels sources TOGETHER e.from e.to) es) c.as_slice-in-loop-count.ensures (c.keep_all_along.ensures.0 c.if-not-keep_all_along.false)) c.loop-count.invariant.labelled;
    }
