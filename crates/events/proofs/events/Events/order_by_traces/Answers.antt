use Rattle.std.proofs.Common.{◌≡◌, ℕ, ap, ◌∙◌, rules}
use Rattle.std.proofs.lemmas.List.Sorted.{answers_always, IsNonDecreasingBy-from_sort}
use Rattle.traces.specs.Words.{ordered_by}
use Rattle.events.specs.declared.located.Located.{Located}
use Rattle.events.proofs.Ordering.{sorted-by-time, sorted-by-trace}
use Rattle.events.proofs.events.Events.order_by_traces.Goals as goal

pub returns-clause-events : goal.returns-clause-events
returns-clause-events c =
    let time : Located → ℕ = λ event. event.time in
    let trace : Located → ℕ = λ event. event.trace in
    let times = answers_always _ _ _ (λ f a r g h. search rules) in
    let traces = answers_always _ _ _ (λ f a r g h. search rules) in
    let first : c.sort_by_key.new.self.items ≡ ordered_by time c.args.self.now.located.items =
    sorted-by-time c.args.self.now.located.items c.sort_by_key.new.self.items (IsNonDecreasingBy-from_sort time _ (c.in_ok-sort_by_key.ensures.sorted time times)) (c.sort_by_key.ensures.stable time times) in
    sorted-by-trace c.sort_by_key.new.self.items c.sort_by_key-2.new.self.items (IsNonDecreasingBy-from_sort trace _ (c.in_ok-sort_by_key-2.ensures.sorted trace traces)) (c.sort_by_key-2.ensures.stable trace traces)
    ∙ ap (ordered_by trace) first
