use Rattle.std.proofs.Common.{◌≡◌, ℕ, ◌<◌, ◌≤◌, List, length, All, ◌∙◌, sym, ap, subst}
use Rattle.std.proofs.lemmas.Result.{IfOk-weaker}
use Rattle.limits.specs.declared.TheConstants.{MAX_EVENTS}
use Rattle.partition_model.specs.Assignments.{events}
use Rattle.partition_model.specs.Listings.{parts_of}
use Rattle.models.specs.Models.{TypedWords, typed_words}
use Rattle.partition_graph.specs.Spread.{spread}
use Rattle.infer_core.specs.Workbenches.{whole_of, WorkbenchView, IsAtPlaces}
use Rattle.infer_core.specs.Runs.{AreFinal}
use Rattle.infer_core.proofs.Stages.{stands-placed}
use Rattle.infer_core.proofs.Telling.{told-final}
use Rattle.infer_core.proofs.workbench.Workbench.parts.Goals as goal

pub spread_parts-requires-clause-within : goal.spread_parts-requires-clause-within
spread_parts-requires-clause-within c =
    let b = c.self.inside in
    let s : IsAtPlaces b.kinds b.traces b.graph b.numbers.items =
    stands-placed c.args.self.now b.stage b.kinds b.traces b.invs b.graph b.numbers.items b.tools.stitcher b.tools.planes b.tools.spans b.tools.run_log c.self.view_is c.requires c.self.invariant.0 in
    subst (λ (ks : List ℕ). All (λ k. k < length b.graph.traces) ks) (sym c.as_slice.ensures.value) s.all.within

pub spread_parts-requires-clause-few : goal.spread_parts-requires-clause-few
spread_parts-requires-clause-few c =
    let b = c.self.inside in
    let s : IsAtPlaces b.kinds b.traces b.graph b.numbers.items =
    stands-placed c.args.self.now b.stage b.kinds b.traces b.invs b.graph b.numbers.items b.tools.stitcher b.tools.planes b.tools.spans b.tools.run_log c.self.view_is c.requires c.self.invariant.0 in
    subst (λ (ks : List ℕ). length (events (spread ks b.graph.traces)) ≤ MAX_EVENTS) (sym c.as_slice.ensures.value) s.few

pub returns : goal.returns
returns c =
    let b = c.self.inside in
    let s : IsAtPlaces b.kinds b.traces b.graph b.numbers.items =
    stands-placed c.args.self.now b.stage b.kinds b.traces b.invs b.graph b.numbers.items b.tools.stitcher b.tools.planes b.tools.spans b.tools.run_log c.self.view_is c.requires c.self.invariant.0 in
    let words-are : typed_words b.kinds b.traces ≡ typed_words c.args.self.now.kinds c.args.self.now.log = ap (λ (x : WorkbenchView). typed_words x.kinds x.log) c.self.view_is in
    IfOk-weaker c.spread_parts.result _ _
    (λ ids e. subst (λ (words : TypedWords). AreFinal words ids) words-are (told-final b.kinds b.traces ids (whole_of b.numbers.items b.graph) s.placed
    (e ∙ ap (λ (ks : List ℕ). parts_of (spread ks b.graph.traces)) c.as_slice.ensures.value)))
    c.spread_parts.ensures
