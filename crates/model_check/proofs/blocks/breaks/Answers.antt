use Rattle.std.proofs.Common.{◌≡◌, ◌-◌, ◌+◌, ◌∷◌, [], ℕ, List, true, length, take, drop, get_or, sym, ◌∙◌, ap, ap₂, subst, subst₂, eqb-true}
use Rattle.std.proofs.lemmas.List.{drop_more, drop_all}
use Rattle.limits.specs.declared.TheConstants.{INITIAL}
use Rattle.invariants.specs.Monitors.{step}
use Rattle.partition_model.specs.Graphs.{Graph, Merged}
use Rattle.model_check.specs.Rows.{shown}
use Rattle.partition_model.proofs.Breaking.{IsFollowing, begins, following_start, following_more}
use Rattle.model_check.proofs.blocks.breaks.Goals as goal

pub loop-id-init : goal.loop-id-init
loop-id-init c =
    let g : Graph = Merged (shown c.args.graph.now) c.args.p c.args.q in
    let path : List ℕ = c.args.path.now in
    let rest : List ℕ = take (length path - 1) (drop 1 path) in
    let whole : path ≡ INITIAL ∷ rest = begins path (sym c.is_empty.ensures ∙ c.if-is_empty.false) c.if-path-ne-INITIAL.false in
    let state : c.step-state.result ≡ step c.args.inv 0 (g.typ INITIAL) = c.step-state.ensures.value ∙ ap₂ (λ (s t : ℕ). step c.args.inv s t) c.start.ensures c.type_of.ensures in
    record {
      bound = c.step-state.ensures.bound;
      follows = subst₂ (λ (w : List ℕ) (s : ℕ). IsFollowing g c.args.inv w rest INITIAL s) (sym whole) (sym state) (following_start g c.args.inv rest);
    }

pub loop-id-preserved : goal.loop-id-preserved
loop-id-preserved c =
    let g : Graph = Merged (shown c.args.graph.now) c.args.p c.args.q in
    let path : List ℕ = c.args.path.now in
    let rest : List ℕ = take (length path - 1) (drop 1 path) in
    let i : ℕ = c.loop-id.id-index in
    let id : ℕ = get_or rest i 0 in
    let here : IsFollowing g c.args.inv path (id ∷ drop (i + 1) rest) c.loop-id.before c.loop-id.state =
    subst (λ (ts : List ℕ). IsFollowing g c.args.inv path ts c.loop-id.before c.loop-id.state) (drop_more rest i 0 c.loop-id-test.true) c.loop-id.invariant.follows in
    let edge : g.edge c.loop-id.before id ≡ true = sym c.has_merged_edge.ensures ∙ c.if-not-has_merged_edge.false in
    let state : c.step-state-in-loop-id.result ≡ step c.args.inv c.loop-id.state (g.typ id) = c.step-state-in-loop-id.ensures.value ∙ ap (λ (t : ℕ). step c.args.inv c.loop-id.state t) c.type_of-in-loop-id.ensures in
    record {
      bound = c.step-state-in-loop-id.ensures.bound;
      follows = subst (λ (s : ℕ). IsFollowing g c.args.inv path (drop (i + 1) rest) id s) (sym state) (following_more g c.args.inv path (drop (i + 1) rest) c.loop-id.before id c.loop-id.state edge here);
    }

pub returns-then-before-eq-TERMINAL : goal.returns-then-before-eq-TERMINAL
returns-then-before-eq-TERMINAL c =
    let g : Graph = Merged (shown c.args.graph.now) c.args.p c.args.q in
    let path : List ℕ = c.args.path.now in
    let rest : List ℕ = take (length path - 1) (drop 1 path) in
    let end : IsFollowing g c.args.inv path [] c.loop-id.before c.loop-id.state =
    subst (λ (ts : List ℕ). IsFollowing g c.args.inv path ts c.loop-id.before c.loop-id.state) (drop_all c.loop-id.id-index rest c.loop-id-test.false) c.loop-id.invariant.follows in
    (λ t. end.back (c.if-before-eq-TERMINAL.true, sym c.bad.ensures ∙ t), λ b. c.bad.ensures ∙ (end.forth b).1)

pub returns-else-before-eq-TERMINAL : goal.returns-else-before-eq-TERMINAL
returns-else-before-eq-TERMINAL c =
    let g : Graph = Merged (shown c.args.graph.now) c.args.p c.args.q in
    let path : List ℕ = c.args.path.now in
    let rest : List ℕ = take (length path - 1) (drop 1 path) in
    let end : IsFollowing g c.args.inv path [] c.loop-id.before c.loop-id.state =
    subst (λ (ts : List ℕ). IsFollowing g c.args.inv path ts c.loop-id.before c.loop-id.state) (drop_all c.loop-id.id-index rest c.loop-id-test.false) c.loop-id.invariant.follows in
    (λ t. absurd (c.if-before-eq-TERMINAL.false (eqb-true c.loop-id.before 1 t)), λ b. absurd (c.if-before-eq-TERMINAL.false (end.forth b).0))
