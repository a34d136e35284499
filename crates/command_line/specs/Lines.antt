-- Examples of command lines.
use Rattle.std.specs.Prelude.{ℕ, ◌≡◌, Bool, true, false, List, [], ◌∷◌, Option, Some, None, codes, option_map, ◌⊎◌}
use Rattle.clap.specs.Words.{Text}
use Rattle.command_line.specs.Task.{LineForm, Plain, Rules, Task, task_of}
use Rattle.command_line.specs.declared.table.Command.{Command}
use Rattle.command_line.specs.declared.table.Command.TheVariants as commands

-- a task without a number or -r: how lines are read, the model's file, -i, -j, and the files
abbrev pub asks : Command → Option LineForm → Option Text → Bool → Bool → List Text → Option Task
asks command form model ignore join files =
    Some (record {
      command = command;
      form = form;
      model = model;
      ignore = ignore;
      join = join;
      number = None;
      interrupted = false;
      files = files;
    })

-- the task that prints the invariants of a log
abbrev pub invariants_of : LineForm → Bool → Bool → List Text → Option Task
invariants_of form ignore join files = asks commands.Invariants (Some form) None ignore join files

-- the task with -r, which adds InterruptedBy
abbrev pub with_interrupted : Task → Task
with_interrupted task = record task { interrupted = true }

-- the same, if there is a task
abbrev pub four_kinds : Option Task → Option Task
four_kinds task = option_map with_interrupted task

-- the task that prints the graph of a log
abbrev pub graph_of : LineForm → Bool → Bool → List Text → Option Task
graph_of form ignore join files = asks commands.Graph (Some form) None ignore join files

-- the task that prints the graph of the model in a file
abbrev pub graph_of_model : Text → Option Task
graph_of_model name = asks commands.GraphOfModel None (Some name) false false []

-- the task that infers the model of a log
abbrev pub model_of : LineForm → Bool → Bool → List Text → Option Task
model_of form ignore join files = asks commands.Infer (Some form) None ignore join files

-- the task that checks a file's model against a log
abbrev pub check_of : Text → LineForm → Bool → Bool → List Text → Option Task
check_of name form ignore join files = asks commands.Check (Some form) (Some name) ignore join files

-- the task that replays a file's model over a log
abbrev pub replay_of : Text → LineForm → Bool → Bool → List Text → Option Task
replay_of name form ignore join files = asks commands.Replay (Some form) (Some name) ignore join files

-- the task that prints the paths of a log
abbrev pub paths_of : LineForm → Bool → Bool → List Text → Option Task
paths_of form ignore join files = asks commands.Paths (Some form) None ignore join files

-- the task that benches a generated log of this many sessions
abbrev pub bench_of : ℕ → Option Task
bench_of sessions =
    Some (record {
      command = commands.Bench;
      form = None;
      model = None;
      ignore = false;
      join = false;
      number = Some sessions;
      interrupted = false;
      files = [];
    })

-- the task that migrates the model in a file
abbrev pub migration_of : Text → Option Task
migration_of name = asks commands.Migrate None (Some name) false false []

-- command lines with a task
pub record TakesLines : Type 0 where
  pub plain : task_of (codes "invariants" ∷ codes "-p" ∷ []) ≡ invariants_of Plain false false []
  pub rules : task_of (codes "invariants" ∷ codes "-e" ∷ codes "x" ∷ [])
      ≡ invariants_of (Rules (codes "x")) false false []
  pub attached : task_of (codes "invariants" ∷ codes "-e=x" ∷ [])
      ≡ invariants_of (Rules (codes "x")) false false []
  pub option_first : task_of (codes "-p" ∷ codes "invariants" ∷ []) ≡ invariants_of Plain false false []
  pub bundle : task_of (codes "invariants" ∷ codes "-pij" ∷ codes "a" ∷ codes "b" ∷ [])
      ≡ invariants_of Plain true true (codes "a" ∷ codes "b" ∷ [])
  pub ends_options :
      task_of (codes "invariants" ∷ codes "-ie" ∷ codes "x" ∷ codes "a" ∷ codes "-j"
      ∷ codes "--" ∷ codes "-p" ∷ [])
      ≡ invariants_of (Rules (codes "x")) true true (codes "a" ∷ codes "-p" ∷ [])
  pub hyphen : task_of (codes "invariants" ∷ codes "-p" ∷ codes "-" ∷ [])
      ≡ invariants_of Plain false false (codes "-" ∷ [])
  pub interrupted : task_of (codes "invariants" ∷ codes "-p" ∷ codes "-r" ∷ []) ≡ four_kinds (invariants_of Plain false false [])
  pub interrupted_first :
      task_of (codes "-r" ∷ codes "invariants" ∷ codes "-e" ∷ codes "x" ∷ codes "a" ∷ [])
      ≡ four_kinds (invariants_of (Rules (codes "x")) false false (codes "a" ∷ []))
  pub interrupted_bundle : task_of (codes "invariants" ∷ codes "-prij" ∷ codes "a" ∷ [])
      ≡ four_kinds (invariants_of Plain true true (codes "a" ∷ []))
  pub interrupted_as_file : task_of (codes "invariants" ∷ codes "-p" ∷ codes "--" ∷ codes "-r" ∷ [])
      ≡ invariants_of Plain false false (codes "-r" ∷ [])
  pub graph : task_of (codes "graph" ∷ codes "-p" ∷ []) ≡ graph_of Plain false false []
  pub graph_of_files :
      task_of (codes "-ij" ∷ codes "graph" ∷ codes "-e" ∷ codes "x" ∷ codes "a" ∷ codes "b" ∷ [])
      ≡ graph_of (Rules (codes "x")) true true (codes "a" ∷ codes "b" ∷ [])
  pub graph_model : task_of (codes "graph" ∷ codes "-m" ∷ codes "m" ∷ []) ≡ graph_of_model (codes "m")
  pub infer : task_of (codes "infer" ∷ codes "-p" ∷ []) ≡ model_of Plain false false []
  pub infer_interrupted : task_of (codes "infer" ∷ codes "-rp" ∷ codes "a" ∷ [])
      ≡ four_kinds (model_of Plain false false (codes "a" ∷ []))
  pub check : task_of (codes "check" ∷ codes "-m" ∷ codes "m" ∷ codes "-p" ∷ codes "a" ∷ [])
      ≡ check_of (codes "m") Plain false false (codes "a" ∷ [])
  pub check_rules : task_of (codes "check" ∷ codes "-ije" ∷ codes "x" ∷ codes "-m" ∷ codes "m" ∷ [])
      ≡ check_of (codes "m") (Rules (codes "x")) true true []
  pub replay : task_of (codes "replay" ∷ codes "-m" ∷ codes "m" ∷ codes "-p" ∷ codes "a" ∷ [])
      ≡ replay_of (codes "m") Plain false false (codes "a" ∷ [])
  pub replay_rules : task_of (codes "replay" ∷ codes "-ije" ∷ codes "x" ∷ codes "-m" ∷ codes "m" ∷ [])
      ≡ replay_of (codes "m") (Rules (codes "x")) true true []
  pub paths : task_of (codes "paths" ∷ codes "-e" ∷ codes "x" ∷ codes "-ij" ∷ codes "a" ∷ [])
      ≡ paths_of (Rules (codes "x")) true true (codes "a" ∷ [])
  pub paths_interrupted : task_of (codes "paths" ∷ codes "-e" ∷ codes "x" ∷ codes "-rj" ∷ [])
      ≡ four_kinds (paths_of (Rules (codes "x")) false true [])
  pub bench : task_of (codes "bench" ∷ codes "-n" ∷ codes "20000" ∷ []) ≡ bench_of 20000
  pub migrate : task_of (codes "migrate" ∷ codes "-m" ∷ codes "m" ∷ []) ≡ migration_of (codes "m")

-- command lines without a task
pub record RefusesLines : Type 0 where
  pub no_words : task_of [] ≡ None
  pub no_form : task_of (codes "invariants" ∷ []) ≡ None
  pub both_forms : task_of (codes "invariants" ∷ codes "-p" ∷ codes "-e" ∷ codes "x" ∷ []) ≡ None
  pub twice : task_of (codes "invariants" ∷ codes "-p" ∷ codes "-p" ∷ []) ≡ None
  pub two_names : task_of (codes "invariants" ∷ codes "-e" ∷ codes "x" ∷ codes "-e" ∷ codes "x" ∷ []) ≡ None
  pub no_name : task_of (codes "invariants" ∷ codes "-e" ∷ []) ≡ None
  pub option_for_name : task_of (codes "invariants" ∷ codes "-e" ∷ codes "-p" ∷ []) ≡ None
  pub empty_name : task_of (codes "invariants" ∷ codes "-e" ∷ codes "" ∷ []) ≡ None
  pub empty_file : task_of (codes "invariants" ∷ codes "-p" ∷ codes "" ∷ []) ≡ None
  pub model : task_of (codes "invariants" ∷ codes "-m" ∷ codes "m" ∷ codes "-p" ∷ []) ≡ None
  pub number : task_of (codes "invariants" ∷ codes "-n" ∷ codes "3" ∷ codes "-p" ∷ []) ≡ None
  pub unknown_option : task_of (codes "invariants" ∷ codes "-px" ∷ []) ≡ None
  pub help : task_of (codes "--help" ∷ []) ≡ None
  pub help_letter : task_of (codes "invariants" ∷ codes "-p" ∷ codes "-h" ∷ []) ≡ None
  pub version : task_of (codes "invariants" ∷ codes "-p" ∷ codes "--version" ∷ []) ≡ None
  pub unknown_command : task_of (codes "guess" ∷ codes "-p" ∷ []) ≡ None
  pub graph_no_form : task_of (codes "graph" ∷ []) ≡ None
  pub graph_both_forms : task_of (codes "graph" ∷ codes "-p" ∷ codes "-e" ∷ codes "x" ∷ []) ≡ None
  pub graph_model_and_file : task_of (codes "graph" ∷ codes "-m" ∷ codes "m" ∷ codes "a" ∷ []) ≡ None
  pub graph_no_model_name : task_of (codes "graph" ∷ codes "-m" ∷ codes "" ∷ []) ≡ None
  pub graph_model_skips : task_of (codes "graph" ∷ codes "-m" ∷ codes "m" ∷ codes "-i" ∷ []) ≡ None
  pub graph_model_and_form : task_of (codes "graph" ∷ codes "-m" ∷ codes "m" ∷ codes "-p" ∷ []) ≡ None
  pub graph_number : task_of (codes "graph" ∷ codes "-n" ∷ codes "3" ∷ codes "-p" ∷ []) ≡ None
  pub infer_model : task_of (codes "infer" ∷ codes "-m" ∷ codes "m" ∷ codes "-p" ∷ []) ≡ None
  pub infer_no_form : task_of (codes "infer" ∷ []) ≡ None
  pub check_no_model : task_of (codes "check" ∷ codes "-p" ∷ []) ≡ None
  pub check_no_form : task_of (codes "check" ∷ codes "-m" ∷ codes "m" ∷ []) ≡ None
  pub check_both_forms :
      task_of (codes "check" ∷ codes "-m" ∷ codes "m" ∷ codes "-p" ∷ codes "-e" ∷ codes "x" ∷ []) ≡ None
  pub check_number :
      task_of (codes "check" ∷ codes "-m" ∷ codes "m" ∷ codes "-p" ∷ codes "-n" ∷ codes "3" ∷ []) ≡ None
  pub replay_no_model : task_of (codes "replay" ∷ codes "-p" ∷ []) ≡ None
  pub replay_no_form : task_of (codes "replay" ∷ codes "-m" ∷ codes "m" ∷ []) ≡ None
  pub replay_both_forms :
      task_of (codes "replay" ∷ codes "-m" ∷ codes "m" ∷ codes "-p" ∷ codes "-e" ∷ codes "x" ∷ []) ≡ None
  pub replay_number :
      task_of (codes "replay" ∷ codes "-m" ∷ codes "m" ∷ codes "-p" ∷ codes "-n" ∷ codes "3" ∷ []) ≡ None
  pub paths_model : task_of (codes "paths" ∷ codes "-m" ∷ codes "m" ∷ codes "-p" ∷ []) ≡ None
  pub bench_no_number : task_of (codes "bench" ∷ []) ≡ None
  pub bench_none : task_of (codes "bench" ∷ codes "-n" ∷ codes "0" ∷ []) ≡ None
  pub bench_too_many : task_of (codes "bench" ∷ codes "-n" ∷ codes "20001" ∷ []) ≡ None
  pub bench_form : task_of (codes "bench" ∷ codes "-n" ∷ codes "3" ∷ codes "-p" ∷ []) ≡ None
  pub bench_file : task_of (codes "bench" ∷ codes "-n" ∷ codes "3" ∷ codes "a" ∷ []) ≡ None
  pub migrate_no_model : task_of (codes "migrate" ∷ []) ≡ None
  pub migrate_no_model_name : task_of (codes "migrate" ∷ codes "-m" ∷ codes "" ∷ []) ≡ None
  pub migrate_form : task_of (codes "migrate" ∷ codes "-m" ∷ codes "m" ∷ codes "-p" ∷ []) ≡ None
  pub migrate_rules :
      task_of (codes "migrate" ∷ codes "-m" ∷ codes "m" ∷ codes "-e" ∷ codes "x" ∷ []) ≡ None
  pub migrate_file : task_of (codes "migrate" ∷ codes "-m" ∷ codes "m" ∷ codes "a" ∷ []) ≡ None
  pub migrate_skips : task_of (codes "migrate" ∷ codes "-m" ∷ codes "m" ∷ codes "-i" ∷ []) ≡ None
  pub migrate_joins : task_of (codes "migrate" ∷ codes "-m" ∷ codes "m" ∷ codes "-j" ∷ []) ≡ None
  pub migrate_number :
      task_of (codes "migrate" ∷ codes "-m" ∷ codes "m" ∷ codes "-n" ∷ codes "3" ∷ []) ≡ None
  pub form_alone : task_of (codes "-p" ∷ []) ≡ None
  pub interrupted_twice : task_of (codes "invariants" ∷ codes "-p" ∷ codes "-r" ∷ codes "-r" ∷ []) ≡ None
  pub interrupted_no_form : task_of (codes "invariants" ∷ codes "-r" ∷ []) ≡ None
  pub interrupted_graph : task_of (codes "graph" ∷ codes "-p" ∷ codes "-r" ∷ []) ≡ None
  pub interrupted_graph_model : task_of (codes "graph" ∷ codes "-m" ∷ codes "m" ∷ codes "-r" ∷ []) ≡ None
  pub interrupted_check :
      task_of (codes "check" ∷ codes "-m" ∷ codes "m" ∷ codes "-p" ∷ codes "-r" ∷ []) ≡ None
  pub interrupted_replay :
      task_of (codes "replay" ∷ codes "-m" ∷ codes "m" ∷ codes "-p" ∷ codes "-r" ∷ []) ≡ None
  pub interrupted_bench : task_of (codes "bench" ∷ codes "-n" ∷ codes "3" ∷ codes "-r" ∷ []) ≡ None
  pub interrupted_migrate :
      task_of (codes "migrate" ∷ codes "-m" ∷ codes "m" ∷ codes "-r" ∷ []) ≡ None

-- the commands that take -r
abbrev pub TakesInterrupted : Command → Type 0
TakesInterrupted command =
    (command ≡ commands.Invariants) ⊎ ((command ≡ commands.Infer) ⊎ (command ≡ commands.Paths))

-- a task with -r has one of these three commands
abbrev pub InterruptedIsOfThreeCommands : Type 0
InterruptedIsOfThreeCommands =
    (words : List Text) (task : Task) → task_of words ≡ Some task → task.interrupted ≡ true
    → TakesInterrupted task.command
