use Rattle.std.proofs.Common.{◌≡◌, ℕ, ◌≤◌, List, length, ◌∙◌, sym, ap, subst, arith}
use Rattle.std.proofs.lemmas.Result.{IfOk-weaker}
use Rattle.limits.specs.declared.TheConstants.{MAX_EVENTS}
use Rattle.invariants.specs.declared.Invariant.{Invariant}
use Rattle.partition_model.specs.Assignments.{events}
use Rattle.models.specs.Models.{TypedWords, typed_words, IsModelOf}
use Rattle.traces.specs.Words.{words_of}
use Rattle.partition_graph.specs.Spread.{spread, AreAllOf}
use Rattle.infer_core.specs.Workbenches.{whole_of, WorkbenchView, AreListsOf, IsAtEnd, Tells}
use Rattle.infer_core.specs.Portions.{AreNamed}
use Rattle.infer_core.proofs.Opening.{mined-again, mined-few, mined-named}
use Rattle.infer_core.proofs.Stages.{stands-inferred}
use Rattle.infer_core.proofs.Telling.{told-keeps, told-model}
use Rattle.infer_core.proofs.workbench.Workbench.model.Goals as goal

pub whole_lists-requires-clause-all : goal.whole_lists-requires-clause-all
whole_lists-requires-clause-all c =
    let b = c.self.inside in
    let s : IsAtEnd b.kinds b.traces b.invs b.graph b.numbers.items b.tools.spans b.tools.run_log =
    stands-inferred c.args.self.now b.stage b.kinds b.traces b.invs b.graph b.numbers.items b.tools.stitcher b.tools.planes b.tools.spans b.tools.run_log c.self.view_is c.requires c.self.invariant.0 in
    subst (λ (ks : List ℕ). AreAllOf ks b.graph.traces) (sym c.as_slice.ensures.value) s.all

pub whole_lists-requires-clause-few : goal.whole_lists-requires-clause-few
whole_lists-requires-clause-few c =
    let b = c.self.inside in
    let s : IsAtEnd b.kinds b.traces b.invs b.graph b.numbers.items b.tools.spans b.tools.run_log =
    stands-inferred c.args.self.now b.stage b.kinds b.traces b.invs b.graph b.numbers.items b.tools.stitcher b.tools.planes b.tools.spans b.tools.run_log c.self.view_is c.requires c.self.invariant.0 in
    subst (λ (ks : List ℕ). length (events (spread ks b.graph.traces)) ≤ MAX_EVENTS) (sym c.as_slice.ensures.value) s.few

pub model_of-requires-clause-few : goal.model_of-requires-clause-few
model_of-requires-clause-few c =
    let b = c.self.inside in
    let s : IsAtEnd b.kinds b.traces b.invs b.graph b.numbers.items b.tools.spans b.tools.run_log =
    stands-inferred c.args.self.now b.stage b.kinds b.traces b.invs b.graph b.numbers.items b.tools.stitcher b.tools.planes b.tools.spans b.tools.run_log c.self.view_is c.requires c.self.invariant.0 in
    omega (arith, ap (λ (xs : List Invariant). length xs) (c.as_slice-2.ensures ∙ s.mined ∙ sym (mined-again b.kinds b.traces)), mined-few b.kinds (length b.traces.types) (words_of b.traces) s.within.types.few)

pub model_of-requires-clause-named : goal.model_of-requires-clause-named
model_of-requires-clause-named c =
    let b = c.self.inside in
    let s : IsAtEnd b.kinds b.traces b.invs b.graph b.numbers.items b.tools.spans b.tools.run_log =
    stands-inferred c.args.self.now b.stage b.kinds b.traces b.invs b.graph b.numbers.items b.tools.stitcher b.tools.planes b.tools.spans b.tools.run_log c.self.view_is c.requires c.self.invariant.0 in
    subst (λ (xs : List Invariant). AreNamed xs) (sym (c.as_slice-2.ensures ∙ s.mined ∙ sym (mined-again b.kinds b.traces))) (mined-named b.kinds (length b.traces.types) (words_of b.traces) s.within.types.few)

pub model_of-requires-clause-ids : goal.model_of-requires-clause-ids
model_of-requires-clause-ids c = c.in_ok-lists.ensures.ids

pub model_of-requires-clause-paths : goal.model_of-requires-clause-paths
model_of-requires-clause-paths c =
    let b = c.self.inside in
    let s : IsAtEnd b.kinds b.traces b.invs b.graph b.numbers.items b.tools.spans b.tools.run_log =
    stands-inferred c.args.self.now b.stage b.kinds b.traces b.invs b.graph b.numbers.items b.tools.stitcher b.tools.planes b.tools.spans b.tools.run_log c.self.view_is c.requires c.self.invariant.0 in
    s.ended.paths

pub returns-clause-value : goal.returns-clause-value
returns-clause-value c =
    let b = c.self.inside in
    let s : IsAtEnd b.kinds b.traces b.invs b.graph b.numbers.items b.tools.spans b.tools.run_log =
    stands-inferred c.args.self.now b.stage b.kinds b.traces b.invs b.graph b.numbers.items b.tools.stitcher b.tools.planes b.tools.spans b.tools.run_log c.self.view_is c.requires c.self.invariant.0 in
    let lists = subst (λ (ks : List ℕ). AreListsOf (whole_of ks b.graph) c.in_ok-lists.lists.0 c.in_ok-lists.lists.1) c.as_slice.ensures.value c.in_ok-lists.ensures in
    let words-are : typed_words b.kinds b.traces ≡ typed_words c.args.self.now.kinds c.args.self.now.log = ap (λ (x : WorkbenchView). typed_words x.kinds x.log) c.self.view_is in
    IfOk-weaker c.model_of.result _ _
    (λ m t. subst (λ (words : TypedWords). IsModelOf m words) words-are (told-model m b.kinds b.traces b.invs (whole_of b.numbers.items b.graph) b.tools.spans b.tools.run_log s.mined s.ended
    (subst (λ (invs : List Invariant). Tells m b.kinds b.traces invs (whole_of b.numbers.items b.graph) b.tools.spans b.tools.run_log) c.as_slice-2.ensures t)))
    (c.model_of.ensures (whole_of b.numbers.items b.graph) lists s.same)

pub returns-clause-within : goal.returns-clause-within
returns-clause-within c =
    let b = c.self.inside in
    let s : IsAtEnd b.kinds b.traces b.invs b.graph b.numbers.items b.tools.spans b.tools.run_log =
    stands-inferred c.args.self.now b.stage b.kinds b.traces b.invs b.graph b.numbers.items b.tools.stitcher b.tools.planes b.tools.spans b.tools.run_log c.self.view_is c.requires c.self.invariant.0 in
    let lists = subst (λ (ks : List ℕ). AreListsOf (whole_of ks b.graph) c.in_ok-lists.lists.0 c.in_ok-lists.lists.1) c.as_slice.ensures.value c.in_ok-lists.ensures in
    IfOk-weaker c.model_of.result _ _
    (λ m t. told-keeps m b.kinds b.traces c.as_slice-2.result.now (whole_of b.numbers.items b.graph) b.tools.spans b.tools.run_log s.ended t)
    (c.model_of.ensures (whole_of b.numbers.items b.graph) lists s.same)
