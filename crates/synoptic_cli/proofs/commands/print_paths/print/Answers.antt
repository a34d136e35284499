use Rattle.std.proofs.Common.{◌∙◌, ℕ, List, ap, ap₂, sym, subst, length}
use Rattle.traces.specs.Words.{Log, event_count_of}
use Rattle.models.specs.Laws.{IsTypedLog}
use Rattle.models.specs.Models.{typed_words}
use Rattle.reports.specs.Paths.{path_report}
use Rattle.synoptic_cli.specs.Commands.Answered.{done}
use Rattle.synoptic_cli.proofs.Walked.{final-count, paths-shown}
use Rattle.synoptic_cli.proofs.commands.print_paths.print.Goals as goal

pub path_report-report-requires : goal.path_report-report-requires
path_report-report-requires c =
    ap length c.as_slice.ensures
    ∙ (final-count c.args.workbench.now.kinds c.args.workbench.now.log c.in_ok-ids.ids c.refinement_keeps.ensures c.coarsening_keeps.ensures
    (subst (λ (log : Log). IsTypedLog (typed_words c.args.workbench.now.kinds log)) c.traces-traces.ensures (c.log_is_typed.ensures.typed c.args.workbench.now.kinds)) c.in_ok-ids.ensures
    ∙ ap (λ (log : Log). event_count_of log.traces) (sym c.traces-traces.ensures))

pub returns : goal.returns
returns c =
    let log = c.args.workbench.now.log in
    let kinds = c.args.workbench.now.kinds in
    let typed : IsTypedLog (typed_words kinds log) = subst (λ (log : Log). IsTypedLog (typed_words kinds log)) c.traces-traces.ensures (c.log_is_typed.ensures.typed kinds) in
    let text = c.in_ok-text.ensures ∙ ap₂ (λ (l : Log) (ids : List ℕ). path_report l ids) c.traces-traces.ensures c.as_slice.ensures in
    record {
      ids = c.in_ok-ids.ids;
      final = c.in_ok-ids.ensures;
      value = ap done text;
      exact = paths-shown kinds log c.in_ok-ids.ids c.refinement_keeps.ensures c.coarsening_keeps.ensures c.accepts_traces.ensures c.paths_tell.ensures typed c.in_ok-ids.ensures;
    }
