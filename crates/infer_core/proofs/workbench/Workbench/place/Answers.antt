use Rattle.std.proofs.Common.{◌≡◌, ◌↔◌, Bool, List, Result, Err, length, ◌∙◌, sym, ap, subst, subst₂, rules}
use Rattle.invariants.specs.declared.Invariant.{Invariant}
use Rattle.partition_model.specs.Assignments.{G}
use Rattle.labelling.specs.Labelled.{SaysSatisfied}
use Rattle.infer_core.specs.declared.workbench.InferLimit.{InferLimit}
use Rattle.infer_core.specs.declared.workbench.InferLimit.TheVariants.{Partitions, Evidence}
use Rattle.infer_core.specs.Workbenches.{whole_of, WorkbenchView, IsAtPlaces, IsAtStart}
use Rattle.infer_core.specs.Ends.{BeginsWith, IsPlaced, IsReady, PlaceGives}
use Rattle.models.specs.Models.{TypedWords, typed_words}
use Rattle.infer_core.specs.Runs.{CountsAtMost, PassesNumbers, PassesPartitions}
use Rattle.infer_core.proofs.Distinct.{distinct, start-begins, start-counts, start-placed, start-places}
use Rattle.infer_core.proofs.Stages.{knows-opened, stands-opened, partitions-told, evidence-told}
use Rattle.infer_core.proofs.workbench.Workbench.place.Goals as goal

pub place-end-requires-clause-ready : goal.place-end-requires-clause-ready
place-end-requires-clause-ready g c =
    let b = c.self.inside in
    let s : IsAtStart b.kinds b.traces b.invs b.graph b.numbers.items b.tools.stitcher b.tools.planes b.tools.spans b.tools.run_log =
    stands-opened c.args.self.now b.stage b.kinds b.traces b.invs b.graph b.numbers.items b.tools.stitcher b.tools.planes b.tools.spans b.tools.run_log c.self.view_is c.requires c.self.invariant.0 in
    subst (λ (invs : List Invariant). IsReady invs b.graph b.tools.stitcher b.tools.planes b.tools.spans b.tools.run_log) (sym c.as_slice-2.ensures) s.ready

pub place-end-requires-clause-flags : goal.place-end-requires-clause-flags
place-end-requires-clause-flags g c =
    let b = c.self.inside in
    let known = knows-opened c.args.self.now b.stage b.kinds b.traces b.invs b.graph b.flags.items c.self.view_is c.requires c.self.invariant.1 in
    ap (λ (flags : List Bool). length flags) c.as_slice.ensures.value ∙ known.0 ∙ ap (λ (invs : List Invariant). length invs) (sym c.as_slice-2.ensures)

pub place-end-requires-clause-told : goal.place-end-requires-clause-told
place-end-requires-clause-told g c =
    let b = c.self.inside in
    let known = knows-opened c.args.self.now b.stage b.kinds b.traces b.invs b.graph b.flags.items c.self.view_is c.requires c.self.invariant.1 in
    subst₂ (λ (invs : List Invariant) (flags : List Bool). SaysSatisfied (G b.graph.traces) invs flags) (sym c.as_slice-2.ensures) (sym c.as_slice.ensures.value) known.1

pub invariant_of-self : goal.invariant_of-self
invariant_of-self g c =
    let b = c.self.inside in
    let s : IsAtStart b.kinds b.traces b.invs b.graph b.numbers.items b.tools.stitcher b.tools.planes b.tools.spans b.tools.run_log =
    stands-opened c.args.self.now b.stage b.kinds b.traces b.invs b.graph b.numbers.items b.tools.stitcher b.tools.planes b.tools.spans b.tools.run_log c.self.view_is c.requires c.self.invariant.0 in
    let begins : BeginsWith (distinct b.kinds b.traces b.graph) c.as_slice-2.result.now b.graph = subst (λ (invs : List Invariant). BeginsWith (distinct b.kinds b.traces b.graph) invs b.graph) (sym c.as_slice-2.ensures) (start-begins b.kinds b.traces b.invs b.graph b.numbers.items b.tools.stitcher b.tools.planes b.tools.spans b.tools.run_log s) in
    let few : PlaceGives c.place-end.result (distinct b.kinds b.traces b.graph) c.place-end.new.graph = c.place-end.ensures.gives (distinct b.kinds b.traces b.graph) begins in
    let placed : IsPlaced (distinct b.kinds b.traces b.graph) c.place-end.new.graph =
    subst (λ (r : Result (Unit {0}) InferLimit). PlaceGives r (distinct b.kinds b.traces b.graph) c.place-end.new.graph) c.in-Ok.is few in
    let stands : IsAtPlaces b.kinds b.traces c.place-end.new.graph b.numbers.items =
    start-placed b.kinds b.traces b.invs b.graph b.numbers.items b.tools.stitcher b.tools.planes b.tools.spans b.tools.run_log s c.place-end.new.graph placed in
    (stands, tt)

pub returns-in-Ok-clause-partitions : goal.returns-in-Ok-clause-partitions
returns-in-Ok-clause-partitions g c =
    let b = c.self.inside in
    let s : IsAtStart b.kinds b.traces b.invs b.graph b.numbers.items b.tools.stitcher b.tools.planes b.tools.spans b.tools.run_log =
    stands-opened c.args.self.now b.stage b.kinds b.traces b.invs b.graph b.numbers.items b.tools.stitcher b.tools.planes b.tools.spans b.tools.run_log c.self.view_is c.requires c.self.invariant.0 in
    let same : typed_words b.kinds b.traces ≡ typed_words c.args.self.now.kinds c.args.self.now.log = ap (λ (x : WorkbenchView). typed_words x.kinds x.log) c.self.view_is in
    let begins : BeginsWith (distinct b.kinds b.traces b.graph) c.as_slice-2.result.now b.graph = subst (λ (invs : List Invariant). BeginsWith (distinct b.kinds b.traces b.graph) invs b.graph) (sym c.as_slice-2.ensures) (start-begins b.kinds b.traces b.invs b.graph b.numbers.items b.tools.stitcher b.tools.planes b.tools.spans b.tools.run_log s) in
    let few : PlaceGives c.place-end.result (distinct b.kinds b.traces b.graph) c.place-end.new.graph = c.place-end.ensures.gives (distinct b.kinds b.traces b.graph) begins in
    let gives : PlaceGives c.place-end.result (typed_words b.kinds b.traces) (whole_of b.numbers.items c.place-end.new.graph) =
    start-places b.kinds b.traces b.invs b.graph b.numbers.items b.tools.stitcher b.tools.planes b.tools.spans b.tools.run_log s c.place-end.result c.place-end.new.graph few in
    subst₂ (λ (r : Result (Unit {0}) InferLimit) (words : TypedWords). (r ≡ Err Partitions) ↔ PassesPartitions words) c.in-Ok.is same
    (partitions-told c.place-end.result (typed_words b.kinds b.traces) (whole_of b.numbers.items c.place-end.new.graph) gives)

pub returns-in-Ok-clause-evidence : goal.returns-in-Ok-clause-evidence
returns-in-Ok-clause-evidence g c =
    let b = c.self.inside in
    let s : IsAtStart b.kinds b.traces b.invs b.graph b.numbers.items b.tools.stitcher b.tools.planes b.tools.spans b.tools.run_log =
    stands-opened c.args.self.now b.stage b.kinds b.traces b.invs b.graph b.numbers.items b.tools.stitcher b.tools.planes b.tools.spans b.tools.run_log c.self.view_is c.requires c.self.invariant.0 in
    let same : typed_words b.kinds b.traces ≡ typed_words c.args.self.now.kinds c.args.self.now.log = ap (λ (x : WorkbenchView). typed_words x.kinds x.log) c.self.view_is in
    let begins : BeginsWith (distinct b.kinds b.traces b.graph) c.as_slice-2.result.now b.graph = subst (λ (invs : List Invariant). BeginsWith (distinct b.kinds b.traces b.graph) invs b.graph) (sym c.as_slice-2.ensures) (start-begins b.kinds b.traces b.invs b.graph b.numbers.items b.tools.stitcher b.tools.planes b.tools.spans b.tools.run_log s) in
    let few : PlaceGives c.place-end.result (distinct b.kinds b.traces b.graph) c.place-end.new.graph = c.place-end.ensures.gives (distinct b.kinds b.traces b.graph) begins in
    let gives : PlaceGives c.place-end.result (typed_words b.kinds b.traces) (whole_of b.numbers.items c.place-end.new.graph) =
    start-places b.kinds b.traces b.invs b.graph b.numbers.items b.tools.stitcher b.tools.planes b.tools.spans b.tools.run_log s c.place-end.result c.place-end.new.graph few in
    subst₂ (λ (r : Result (Unit {0}) InferLimit) (words : TypedWords). (r ≡ Err Evidence) ↔ PassesNumbers words) c.in-Ok.is same
    (evidence-told c.place-end.result (typed_words b.kinds b.traces) (whole_of b.numbers.items c.place-end.new.graph) gives)

pub returns-in-Err-clause-partitions : goal.returns-in-Err-clause-partitions
returns-in-Err-clause-partitions g c =
    let b = c.self.inside in
    let s : IsAtStart b.kinds b.traces b.invs b.graph b.numbers.items b.tools.stitcher b.tools.planes b.tools.spans b.tools.run_log =
    stands-opened c.args.self.now b.stage b.kinds b.traces b.invs b.graph b.numbers.items b.tools.stitcher b.tools.planes b.tools.spans b.tools.run_log c.self.view_is c.requires c.self.invariant.0 in
    let same : typed_words b.kinds b.traces ≡ typed_words c.args.self.now.kinds c.args.self.now.log = ap (λ (x : WorkbenchView). typed_words x.kinds x.log) c.self.view_is in
    let begins : BeginsWith (distinct b.kinds b.traces b.graph) c.as_slice-2.result.now b.graph = subst (λ (invs : List Invariant). BeginsWith (distinct b.kinds b.traces b.graph) invs b.graph) (sym c.as_slice-2.ensures) (start-begins b.kinds b.traces b.invs b.graph b.numbers.items b.tools.stitcher b.tools.planes b.tools.spans b.tools.run_log s) in
    let few : PlaceGives c.place-end.result (distinct b.kinds b.traces b.graph) c.place-end.new.graph = c.place-end.ensures.gives (distinct b.kinds b.traces b.graph) begins in
    let gives : PlaceGives c.place-end.result (typed_words b.kinds b.traces) (whole_of b.numbers.items c.place-end.new.graph) =
    start-places b.kinds b.traces b.invs b.graph b.numbers.items b.tools.stitcher b.tools.planes b.tools.spans b.tools.run_log s c.place-end.result c.place-end.new.graph few in
    subst₂ (λ (r : Result (Unit {0}) InferLimit) (words : TypedWords). (r ≡ Err Partitions) ↔ PassesPartitions words) c.in-Err.is same
    (partitions-told c.place-end.result (typed_words b.kinds b.traces) (whole_of b.numbers.items c.place-end.new.graph) gives)

pub returns-in-Err-clause-evidence : goal.returns-in-Err-clause-evidence
returns-in-Err-clause-evidence g c =
    let b = c.self.inside in
    let s : IsAtStart b.kinds b.traces b.invs b.graph b.numbers.items b.tools.stitcher b.tools.planes b.tools.spans b.tools.run_log =
    stands-opened c.args.self.now b.stage b.kinds b.traces b.invs b.graph b.numbers.items b.tools.stitcher b.tools.planes b.tools.spans b.tools.run_log c.self.view_is c.requires c.self.invariant.0 in
    let same : typed_words b.kinds b.traces ≡ typed_words c.args.self.now.kinds c.args.self.now.log = ap (λ (x : WorkbenchView). typed_words x.kinds x.log) c.self.view_is in
    let begins : BeginsWith (distinct b.kinds b.traces b.graph) c.as_slice-2.result.now b.graph = subst (λ (invs : List Invariant). BeginsWith (distinct b.kinds b.traces b.graph) invs b.graph) (sym c.as_slice-2.ensures) (start-begins b.kinds b.traces b.invs b.graph b.numbers.items b.tools.stitcher b.tools.planes b.tools.spans b.tools.run_log s) in
    let few : PlaceGives c.place-end.result (distinct b.kinds b.traces b.graph) c.place-end.new.graph = c.place-end.ensures.gives (distinct b.kinds b.traces b.graph) begins in
    let gives : PlaceGives c.place-end.result (typed_words b.kinds b.traces) (whole_of b.numbers.items c.place-end.new.graph) =
    start-places b.kinds b.traces b.invs b.graph b.numbers.items b.tools.stitcher b.tools.planes b.tools.spans b.tools.run_log s c.place-end.result c.place-end.new.graph few in
    subst₂ (λ (r : Result (Unit {0}) InferLimit) (words : TypedWords). (r ≡ Err Evidence) ↔ PassesNumbers words) c.in-Err.is same
    (evidence-told c.place-end.result (typed_words b.kinds b.traces) (whole_of b.numbers.items c.place-end.new.graph) gives)

pub returns-in-Ok-clause-counted : goal.returns-in-Ok-clause-counted
returns-in-Ok-clause-counted g c =
    let b = c.self.inside in
    let s : IsAtStart b.kinds b.traces b.invs b.graph b.numbers.items b.tools.stitcher b.tools.planes b.tools.spans b.tools.run_log =
    stands-opened c.args.self.now b.stage b.kinds b.traces b.invs b.graph b.numbers.items b.tools.stitcher b.tools.planes b.tools.spans b.tools.run_log c.self.view_is c.requires c.self.invariant.0 in
    let same : typed_words b.kinds b.traces ≡ typed_words c.args.self.now.kinds c.args.self.now.log = ap (λ (x : WorkbenchView). typed_words x.kinds x.log) c.self.view_is in
    let begins : BeginsWith (distinct b.kinds b.traces b.graph) c.as_slice-2.result.now b.graph = subst (λ (invs : List Invariant). BeginsWith (distinct b.kinds b.traces b.graph) invs b.graph) (sym c.as_slice-2.ensures) (start-begins b.kinds b.traces b.invs b.graph b.numbers.items b.tools.stitcher b.tools.planes b.tools.spans b.tools.run_log s) in
    subst (λ (words : TypedWords). CountsAtMost words c.args.steps.now c.place-end.new.steps) same
    (start-counts b.kinds b.traces b.invs b.graph b.numbers.items b.tools.stitcher b.tools.planes b.tools.spans b.tools.run_log s c.args.steps.now c.place-end.new.steps (c.in-Ok.ensures.counted (distinct b.kinds b.traces b.graph) begins))

pub returns-in-Err-clause-stage : goal.returns-in-Err-clause-stage
returns-in-Err-clause-stage g c = search rules

pub returns-in-Err-clause-counted : goal.returns-in-Err-clause-counted
returns-in-Err-clause-counted g c = search rules
