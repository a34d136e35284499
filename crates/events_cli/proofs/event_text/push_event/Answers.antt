use Rattle.std.proofs.Common.{◌∙◌, ◌++◌, List, ℕ, ap, append_assoc}
use Rattle.command_line.specs.Task.{task_held}
use Rattle.events_cli.specs.Texts.{what_part, where_part}
use Rattle.events_cli.proofs.event_text.push_event.Goals as goal

pub returns : goal.returns
returns c =
    let old = c.args.all.now.items in
    let first = where_part (task_held c.args.log.now.task.now) c.args.event.now in
    let last = λ (types : List (List ℕ)). what_part c.args.log.now.traces.now.traces types c.args.log.now.timed c.args.event.now in
    c.in_ok-push_what.ensures
    ∙ (ap (λ (t : List ℕ). t ++ last c.args.log.now.names.now) c.in_ok-push_where.ensures
    ∙ (append_assoc old first (last c.args.log.now.names.now) ∙ ap (λ (types : List (List ℕ)). old ++ (first ++ last types)) c.requires))
