-- Each line computes.
use Rattle.std.proofs.Common.{refl}
use Rattle.clap.proofs.OnLiterals.{clap_on_literals}
use Rattle.command_line.specs.App.{app}
use Rattle.command_line.proofs.law.lines_tell.Goals as goal

pub returns-clause-taken : goal.returns-clause-taken
unfolding app clap_on_literals
returns-clause-taken c = record { plain = refl; rules = refl; attached = refl; option_first = refl; bundle = refl; ends_options = refl; hyphen = refl; interrupted = refl; interrupted_first = refl; interrupted_bundle = refl; interrupted_as_file = refl; graph = refl; graph_of_files = refl; graph_model = refl; infer = refl; infer_interrupted = refl; check = refl; check_rules = refl; replay = refl; replay_rules = refl; paths = refl; paths_interrupted = refl; bench = refl; migrate = refl }

pub returns-clause-refused : goal.returns-clause-refused
unfolding app clap_on_literals
returns-clause-refused c = record { no_words = refl; no_form = refl; both_forms = refl; twice = refl; two_names = refl; no_name = refl; option_for_name = refl; empty_name = refl; empty_file = refl; model = refl; number = refl; unknown_option = refl; help = refl; help_letter = refl; version = refl; unknown_command = refl; graph_no_form = refl; graph_both_forms = refl; graph_model_and_file = refl; graph_no_model_name = refl; graph_model_skips = refl; graph_model_and_form = refl; graph_number = refl; infer_model = refl; infer_no_form = refl; check_no_model = refl; check_no_form = refl; check_both_forms = refl; check_number = refl; replay_no_model = refl; replay_no_form = refl; replay_both_forms = refl; replay_number = refl; paths_model = refl; bench_no_number = refl; bench_none = refl; bench_too_many = refl; bench_form = refl; bench_file = refl; migrate_no_model = refl; migrate_no_model_name = refl; migrate_form = refl; migrate_rules = refl; migrate_file = refl; migrate_skips = refl; migrate_joins = refl; migrate_number = refl; form_alone = refl; interrupted_twice = refl; interrupted_no_form = refl; interrupted_graph = refl; interrupted_graph_model = refl; interrupted_check = refl; interrupted_replay = refl; interrupted_bench = refl; interrupted_migrate = refl }
