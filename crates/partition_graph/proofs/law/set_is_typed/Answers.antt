use Rattle.std.proofs.Common.{◌≡◌, ◌<◌, ◌≤◌, ℕ, List, [], ◌∷◌, sym, subst}
use Rattle.std.proofs.Props.{props}
use mathlib.Core.HLevel.{×_prop}
use Rattle.std.proofs.Math.Logic.{∥∥₁_elim}
use Rattle.std.specs.List.{AllByRecursion}
use Rattle.limits.specs.declared.TheConstants.{FIRST_TYPE}
use Rattle.traces.specs.Words.{Event as LogEvent, Log, log_of}
use Rattle.partition_model.specs.Assignments.{Event, by_type, events, inner_words}
use Rattle.partition_graph.specs.Parts.{start_of}
use Rattle.partition_graph.specs.Starts.{AreTypedParts}
use Rattle.partition_graph.proofs.Starting.{start-typed}
use Rattle.partition_graph.proofs.law.set_is_typed.Goals as goal

ranges-prop : (n : ℕ) (es : List Event) → IsProp (AllByRecursion (λ e. (FIRST_TYPE ≤ e.typ) × (e.typ < n)) es)
ranges-prop n [] = search props
ranges-prop n (e ∷ es) = ×_prop (hlevel props) (ranges-prop n es)

typed : (log : Log) (es : List LogEvent) → log ≡ log_of es → AreTypedParts (start_of log)
typed log es is = subst (λ (l : Log). AreTypedParts (start_of l)) (sym is) (start-typed es)

pub returns : goal.returns
returns c =
    let log = c.args.traces.now in
    let known = c.types.ensures.events in
    record {
      two = ∥∥₁_elim known (search props) (λ e. (typed log e.0 e.1).two);
      range = ∥∥₁_elim known (ranges-prop (start_of log).used (events (by_type (inner_words (start_of log).traces)))) (λ e. (typed log e.0 e.1).range);
      each = λ p from below. ∥∥₁_elim known (search props) (λ e. (typed log e.0 e.1).each p from below);
    }
