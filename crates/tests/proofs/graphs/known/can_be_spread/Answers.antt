use Rattle.std.proofs.Common.{ℕ, ◌*◌, ◌<◌, ◌≤◌, List, [], ◌∷◌, length, get_or, All, arith, subst, length-append}
use Rattle.std.proofs.lemmas.Bool.{OnTrue_at, OnTrue_from}
use Rattle.std.proofs.lemmas.List.Elements.{All-head, All-tail}
use Rattle.std.proofs.lemmas.List.Folds.{length-flat_map-take}
use Rattle.partition_model.specs.Assignments.{Assignment, events}
use Rattle.partition_graph.specs.Spread.{spread}
use Rattle.tests.proofs.graphs.known.can_be_spread.Goals as goal

-- so many traces of a graph of few events have few events
spread_is_few : (ks : List ℕ) (h : Assignment) → length (events h) ≤ 100 → All (λ k. k < length h) ks → length (events (spread ks h)) ≤ 100 * length ks
spread_is_few [] h few a = omega arith
spread_is_few (k ∷ ks) h few a =
    omega (arith, few, length-append (get_or h k []) (events (spread ks h)), length-flat_map-take (λ t. t) h k [] (All-head (λ (x : ℕ). x < length h) k ks a), spread_is_few ks h few (All-tail (λ (x : ℕ). x < length h) k ks a))

pub returns : goal.returns
returns c =
    OnTrue_from c.are_below.result _ (λ e.
    let below : All (λ (k : ℕ). k < c.trace_count.result) c.args.numbers.now = OnTrue_at e c.are_below.ensures in
    let within : All (λ (k : ℕ). k < length c.args.graph.now.traces) c.args.numbers.now =
    subst (λ (n : ℕ). All (λ (k : ℕ). k < n) c.args.numbers.now) c.trace_count.ensures below in
    let few : length (events c.args.graph.now.traces) ≤ 100 = omega (arith, c.event_count.ensures, c.if-event_count-gt100.false) in
    (within, omega (arith, c.if-numbers-gt100.false, spread_is_few c.args.numbers.now c.args.graph.now.traces few within)))
