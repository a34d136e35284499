use Rattle.std.proofs.Common.{◌≡◌, List, Some, IfOk, Ok, slice_get, map, refl, sym, ◌∙◌, subst}
use Rattle.std.specs.List.{AllByRecursion}
use Rattle.invariants.specs.declared.records.Partition.{Partition}
use Rattle.invariants.specs.declared.records.Listed.{Listed}
use Rattle.invariants.specs.declared.records.Split.{Split}
use Rattle.invariants.specs.declared.records.Merge.{Merge}
use Rattle.invariants.specs.declared.records.Block.{Block}
use Rattle.run_history.specs.Records.{splits_of, merges_of, blocks_of}
use Rattle.partition_model.specs.Assignments.{Assignment, G}
use Rattle.partition_model.specs.Listings.{ArePartitions}
use Rattle.models.specs.Models.{AreReached}
use Rattle.infer_core.proofs.model.model_of.Goals as goal

pub listed-listing-requires-clause-ids : goal.listed-listing-requires-clause-ids
listed-listing-requires-clause-ids c k x at = c.requires.ids k x (subst (λ (xs : List Partition). slice_get xs k ≡ Some x) c.as_slice.ensures at)

pub returns : goal.returns
returns c graph lists same =
    let h : Assignment = graph.traces in
    let named = c.in_ok-types.ensures.first in
    let told = c.in_ok-types.ensures.second in
    let joins = subst (λ r. IfOk r (λ pair. c.both-joins.result ≡ Ok pair.1)) told c.both-told.ensures.second in
    let types : c.in_ok-types.types ≡ c.types.result.now =
    subst (λ r. IfOk r (λ list. list ≡ c.types.result.now)) (subst (λ r. IfOk r (λ pair. c.copy_of.result ≡ Ok pair.0)) named c.both-named.ensures.first) c.copy_of.ensures in
    let listing_is = subst (λ r. IfOk r (λ pair. c.listed-listing.result ≡ Ok pair.1)) named c.both-named.ensures.second in
    let listing : map (λ (l : Listed). l.inv) c.in_ok-types.invariants ≡ c.args.invs.now =
    subst (λ r. IfOk r (λ (list : List Listed). map (λ (l : Listed). l.inv) list ≡ c.args.invs.now)) listing_is c.listed-listing.ensures.listing in
    let labels = subst (λ r. IfOk r (λ (list : List Listed). (g : Assignment) → ArePartitions c.as_slice.result.now g → G g ≡ G c.args.first.now.traces
    → AllByRecursion (λ l. AreReached l.inv g c.as_slice.result.now l.labels) list)) listing_is c.listed-listing.ensures.labels in
    record {
      types = types ∙ c.types.ensures.value;
      kinds = refl;
      partitions = lists.partitions_are;
      edges = lists.edges_are;
      listing = listing;
      labels = subst (λ (xs : List Partition). AllByRecursion (λ l. AreReached l.inv h xs l.labels) c.in_ok-types.invariants) c.as_slice.ensures
          (labels h (subst (λ (xs : List Partition). ArePartitions xs h) (sym c.as_slice.ensures) lists.partitions_are) same);
      splits = subst (λ r. IfOk r (λ (list : List Split). list ≡ splits_of c.args.tools.now.run_log c.args.tools.now.spans)) (subst (λ r. IfOk r (λ pair. c.splits.result ≡ Ok pair.0)) told c.both-told.ensures.first) c.splits.ensures;
      merges = subst (λ r. IfOk r (λ (list : List Merge). list ≡ merges_of c.args.tools.now.run_log)) (subst (λ r. IfOk r (λ pair. c.merges.result ≡ Ok pair.0)) joins c.both-joins.ensures.first) c.merges.ensures;
      blocks = subst (λ r. IfOk r (λ (list : List Block). list ≡ blocks_of c.args.tools.now.run_log c.args.tools.now.spans)) (subst (λ r. IfOk r (λ pair. c.blocks-2.result ≡ Ok pair.1)) joins c.both-joins.ensures.second) c.blocks-2.ensures;
    }
