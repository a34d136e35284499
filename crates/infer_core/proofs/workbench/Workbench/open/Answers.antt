use Rattle.std.proofs.Common.{◌≡◌, ◌≤◌, List, length, slice_get, Result, Ok, Err, Some, refl, ap, sym, subst, arith, IfOk, []}
use Rattle.invariants.specs.declared.Invariant.{Invariant}
use Rattle.invariants.specs.Mined.{mined_for}
use Rattle.limits.specs.declared.TheConstants.{MAX_INVARIANTS, MAX_PAIRS, MAX_PATH_NUMBERS, MAX_STEPS}
use Rattle.traces.specs.Words.{Log, words_of}
use Rattle.partition_model.specs.Assignments.{G, events}
use Rattle.labelling.specs.Labelled.{SaysSatisfied}
use Rattle.partition_graph.specs.Spread.{SharesWords}
use Rattle.infer_core.proofs.Opening.{at-start, mined-few, mined-named}
use Rattle.infer_core.specs.declared.workbench.Stage.{Stage}
use Rattle.infer_core.specs.Portions.{AreNamed}
use Rattle.infer_core.specs.Workbenches.{WorkbenchView}
use Rattle.infer_core.proofs.workbench.Workbench.open.Goals as goal
use Rattle.infer_core.proofs.workbench.Workbench.open.Goals.{In_ok-traces}

-- what is made of both is what the second one made
second-made : {G E : Type 0} (r : Result (G × List Invariant) E) (m : Result (List Invariant) E) (P : List Invariant → Type 0) → IfOk r (λ pair. m ≡ Ok pair.1) → IfOk m P → IfOk r (λ pair. P pair.1)
second-made (Ok pair) m P e p = subst (λ x. IfOk x P) e p
second-made (Err e) m P _ _ = tt

-- so it is where something else follows from what was made
made-so : {A E : Type 0} (r : Result A E) (P Q : A → Type 0) → ((x : A) → P x → Q x) → IfOk r P → IfOk r Q
made-so (Ok x) P Q f p = f x p
made-so (Err e) P Q f p = tt

pub equip-equipped-requires-clause-few : goal.equip-equipped-requires-clause-few
equip-equipped-requires-clause-few c =
    second-made c.both-opened.result c.mine_words-mined.result (λ invs. length invs ≤ MAX_INVARIANTS) c.both-opened.ensures.second
    (made-so c.mine_words-mined.result (λ invs. invs ≡ mined_for c.args.kinds (length c.args.traces.types) (words_of c.args.traces)) (λ invs. length invs ≤ MAX_INVARIANTS)
    (λ invs e. omega (arith, ap (λ (xs : List Invariant). length xs) e, mined-few c.args.kinds (length c.args.traces.types) (words_of c.args.traces) (c.log_is_typed.ensures.within c.args.kinds).types.few))
    c.mine_words-mined.ensures)

pub equip-equipped-requires-clause-named : goal.equip-equipped-requires-clause-named
equip-equipped-requires-clause-named c =
    second-made c.both-opened.result c.mine_words-mined.result AreNamed c.both-opened.ensures.second
    (made-so c.mine_words-mined.result (λ invs. invs ≡ mined_for c.args.kinds (length c.args.traces.types) (words_of c.args.traces)) AreNamed
    (λ invs e k inv at.
    mined-named c.args.kinds (length c.args.traces.types) (words_of c.args.traces) (c.log_is_typed.ensures.within c.args.kinds).types.few k inv
    (subst (λ (xs : List Invariant). slice_get xs k ≡ Some inv) e at))
    c.mine_words-mined.ensures)

ok-same : {A E : Type 0} (x y : A) → (let a : Result A E = Ok x in let b : Result A E = Ok y in a ≡ b) → x ≡ y
ok-same x y e = subst (λ r. IfOk r (λ z. x ≡ z)) e refl

-- what was handed in comes out
kept-log : {A B E : Type 0} (x : A) (r : Result (A × B) E) (pair : A × B) → r ≡ Ok pair → IfOk r (λ p. (let a : Result A E = Ok x in let b : Result A E = Ok p.0 in a ≡ b)) → x ≡ pair.0
kept-log {A} {B} {E} x r pair e f = ok-same x pair.0 (subst (λ (q : Result (A × B) E). IfOk q (λ p. (let a : Result A E = Ok x in let b : Result A E = Ok p.0 in a ≡ b))) e f)

-- what was opened, and the log beside it
made-second : (c : In_ok-traces) → c.both-opened.result ≡ Ok ((c.in_ok-traces.graph, c.in_ok-traces.numbers), c.in_ok-traces.invs)
made-second c = subst (λ r. IfOk r (λ pair. c.both-opened.result ≡ Ok pair.1)) c.in_ok-traces.ensures.first c.both.ensures.second

log-stays : (c : In_ok-traces) → c.args.traces ≡ c.in_ok-traces.traces
log-stays c = kept-log c.args.traces c.both.result (c.in_ok-traces.traces, ((c.in_ok-traces.graph, c.in_ok-traces.numbers), c.in_ok-traces.invs)) c.in_ok-traces.ensures.first c.both.ensures.first

pub invariant_of-result : goal.invariant_of-result
invariant_of-result c =
    let t = c.in_ok-traces in
    let opened : c.both-opened.result ≡ Ok ((t.graph, t.numbers), t.invs) = made-second c in
    let same : c.args.traces ≡ t.traces = log-stays c in
    let are_mined : t.invs ≡ mined_for c.args.kinds (length c.args.traces.types) (words_of c.args.traces) =
    subst (λ r. IfOk r (λ (list : List Invariant). list ≡ mined_for c.args.kinds (length c.args.traces.types) (words_of c.args.traces))) (subst (λ r. IfOk r (λ pair. c.mine_words-mined.result ≡ Ok pair.1)) opened c.both-opened.ensures.second)
    c.mine_words-mined.ensures in
    let shares : SharesWords c.args.traces t.graph t.numbers.items =
    subst (λ r. IfOk r (λ pair. SharesWords c.args.traces pair.0 pair.1.items)) (subst (λ r. IfOk r (λ pair. c.open_shared-shared.result ≡ Ok pair.0)) opened c.both-opened.ensures.first) c.open_shared-shared.ensures in
    let made = t.ensures.second in
    rw (sym same) (
      at-start c.args.kinds c.args.traces t.invs t.graph t.numbers.items t.tools.stitcher t.tools.planes t.tools.spans t.tools.run_log
          c.start_is_opened.ensures (c.log_is_typed.ensures.within c.args.kinds) shares are_mined
          (subst (λ r. IfOk r (λ o. t.tools.stitcher ≡ length (events o.0.0.traces))) opened (subst (λ r. IfOk r (λ pair. IfOk c.both-opened.result (λ o. pair.0.stitcher ≡ length (events o.0.0.traces)))) made c.equip-equipped.ensures.stitcher))
          (subst (λ r. IfOk r (λ o. t.tools.planes.invs ≡ o.1)) opened (subst (λ r. IfOk r (λ pair. IfOk c.both-opened.result (λ o. pair.0.planes.invs ≡ o.1))) made c.equip-equipped.ensures.planes))
          (subst (λ r. IfOk r (λ pair. pair.0.spans ≡ record { numbers = []; room = MAX_PATH_NUMBERS })) made c.equip-equipped.ensures.spans)
          (subst (λ r. IfOk r (λ pair. pair.0.run_log ≡ record { splits = []; merges = []; blocks = []; split_room = MAX_STEPS; merge_room = MAX_STEPS; block_room = MAX_PAIRS })) made c.equip-equipped.ensures.run_log),
      (
        subst (λ r. IfOk r (λ o. length t.flags.items ≡ length o.1)) opened (subst (λ r. IfOk r (λ pair. IfOk c.both-opened.result (λ o. length pair.1.items ≡ length o.1))) made c.equip-equipped.ensures.flags),
        subst (λ r. IfOk r (λ o. SaysSatisfied (G o.0.0.traces) o.1 t.flags.items)) opened (subst (λ r. IfOk r (λ pair. IfOk c.both-opened.result (λ o. SaysSatisfied (G o.0.0.traces) o.1 pair.1.items))) made c.equip-equipped.ensures.told),
      ),
    )

pub returns : goal.returns
returns c =
    ap (λ (log : Log). let b : WorkbenchView = record { kinds = c.args.kinds; log = log; stage = Stage.Opened } in b) (sym (log-stays c))
