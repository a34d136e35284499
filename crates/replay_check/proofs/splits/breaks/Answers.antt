use Rattle.std.proofs.Common.{◌≡◌, ◌<◌, ◌-◌, ◌+◌, ◌∷◌, [], ℕ, List, true, length, take, drop, get_or, sym, ◌∙◌, ap, subst, subst₂, true≢false, eqb-true, arith}
use Rattle.std.proofs.lemmas.List.{drop_more, drop_all}
use Rattle.std.proofs.lemmas.List.Elements.{All-take, All-drop}
use Rattle.std.specs.List.{All}
use Rattle.limits.specs.declared.TheConstants.{INITIAL, MAX_PARTITIONS}
use Rattle.invariants.specs.Monitors.{step}
use Rattle.partition_model.specs.Graphs.{Graph}
use Rattle.replay_check.specs.Shown.{graph_in}
use Rattle.partition_model.proofs.Breaking.{IsFollowing, begins, following_start, following_more}
use Rattle.replay_check.proofs.splits.breaks.Goals as goal

pub loop-id-init : goal.loop-id-init
loop-id-init c =
    let g : Graph = graph_in c.args.edges.now.rows c.args.types.now in
    let path : List ℕ = c.args.path.now in
    let rest : List ℕ = take (length path - 1) (drop 1 path) in
    let whole : path ≡ INITIAL ∷ rest = begins path (sym c.is_empty.ensures ∙ c.if-is_empty.false) c.if-path-ne-INITIAL.false in
    let state : c.step-state.result ≡ step c.args.inv 0 (g.typ INITIAL) = c.step-state.ensures.value ∙ ap (λ (s : ℕ). step c.args.inv s (g.typ INITIAL)) c.start.ensures in
    record {
      bound = c.step-state.ensures.bound;
      within = omega arith;
      follows = subst₂ (λ (w : List ℕ) (s : ℕ). IsFollowing g c.args.inv w rest INITIAL s) (sym whole) (sym state) (following_start g c.args.inv rest);
    }

rest-within : (path : List ℕ) → All (λ p. p < MAX_PARTITIONS) path → All (λ p. p < MAX_PARTITIONS) (take (length path - 1) (drop 1 path))
rest-within path a = All-take (λ p. p < MAX_PARTITIONS) (length path - 1) (drop 1 path) (All-drop (λ p. p < MAX_PARTITIONS) 1 path a)

pub has-requires-clause-to : goal.has-requires-clause-to
has-requires-clause-to c = rest-within c.args.path.now c.requires.within c.loop-id.id-index 0 c.loop-id-test.true

pub loop-id-preserved : goal.loop-id-preserved
loop-id-preserved c =
    let g : Graph = graph_in c.args.edges.now.rows c.args.types.now in
    let path : List ℕ = c.args.path.now in
    let rest : List ℕ = take (length path - 1) (drop 1 path) in
    let i : ℕ = c.loop-id.id-index in
    let id : ℕ = get_or rest i 0 in
    let here : IsFollowing g c.args.inv path (id ∷ drop (i + 1) rest) c.loop-id.before c.loop-id.state =
    subst (λ (ts : List ℕ). IsFollowing g c.args.inv path ts c.loop-id.before c.loop-id.state) (drop_more rest i 0 c.loop-id-test.true) c.loop-id.invariant.follows in
    let edge : g.edge c.loop-id.before id ≡ true = sym c.has.ensures ∙ c.if-not-has.false in
    let state : c.step-state-in-loop-id.result ≡ step c.args.inv c.loop-id.state (g.typ id) = c.step-state-in-loop-id.ensures.value in
    record {
      bound = c.step-state-in-loop-id.ensures.bound;
      within = rest-within path c.requires.within i 0 c.loop-id-test.true;
      follows = subst (λ (s : ℕ). IsFollowing g c.args.inv path (drop (i + 1) rest) id s) (sym state) (following_more g c.args.inv path (drop (i + 1) rest) c.loop-id.before id c.loop-id.state edge here);
    }

pub returns-then-not-has : goal.returns-then-not-has
returns-then-not-has c =
    let g : Graph = graph_in c.args.edges.now.rows c.args.types.now in
    let path : List ℕ = c.args.path.now in
    let rest : List ℕ = take (length path - 1) (drop 1 path) in
    let i : ℕ = c.loop-id.id-index in
    let id : ℕ = get_or rest i 0 in
    let here : IsFollowing g c.args.inv path (id ∷ drop (i + 1) rest) c.loop-id.before c.loop-id.state =
    subst (λ (ts : List ℕ). IsFollowing g c.args.inv path ts c.loop-id.before c.loop-id.state) (drop_more rest i 0 c.loop-id-test.true) c.loop-id.invariant.follows in (
      λ t. absurd (true≢false (sym t)),
      λ b. absurd (true≢false (sym (here.forth b).0.0 ∙ sym c.has.ensures ∙ c.if-not-has.true)),
    )

pub returns-then-before-eq-TERMINAL : goal.returns-then-before-eq-TERMINAL
returns-then-before-eq-TERMINAL c =
    let g : Graph = graph_in c.args.edges.now.rows c.args.types.now in
    let path : List ℕ = c.args.path.now in
    let rest : List ℕ = take (length path - 1) (drop 1 path) in
    let end : IsFollowing g c.args.inv path [] c.loop-id.before c.loop-id.state =
    subst (λ (ts : List ℕ). IsFollowing g c.args.inv path ts c.loop-id.before c.loop-id.state) (drop_all c.loop-id.id-index rest c.loop-id-test.false) c.loop-id.invariant.follows in
    (λ t. end.back (c.if-before-eq-TERMINAL.true, sym c.bad.ensures ∙ t), λ b. c.bad.ensures ∙ (end.forth b).1)

pub returns-else-before-eq-TERMINAL : goal.returns-else-before-eq-TERMINAL
returns-else-before-eq-TERMINAL c =
    let g : Graph = graph_in c.args.edges.now.rows c.args.types.now in
    let path : List ℕ = c.args.path.now in
    let rest : List ℕ = take (length path - 1) (drop 1 path) in
    let end : IsFollowing g c.args.inv path [] c.loop-id.before c.loop-id.state =
    subst (λ (ts : List ℕ). IsFollowing g c.args.inv path ts c.loop-id.before c.loop-id.state) (drop_all c.loop-id.id-index rest c.loop-id-test.false) c.loop-id.invariant.follows in
    (λ t. absurd (c.if-before-eq-TERMINAL.false (eqb-true c.loop-id.before 1 t)), λ b. absurd (c.if-before-eq-TERMINAL.false (end.forth b).0))
