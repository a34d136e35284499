-- What holds of each row of the table holds of the row that a task comes of.
use Rattle.std.proofs.Common.{◌≡◌, Bool, true, false, ◌&&◌, Option, Some, None, refl, subst, codes, option_and_then, if◌then◌else◌}
use Rattle.std.specs.Str.{bytes_eq}
use Rattle.std.proofs.lemmas.Bool.{and_parts}
use Rattle.clap.specs.Words.{Text}
use Rattle.command_line.specs.Given.{Use}
use Rattle.command_line.specs.Table.{graph_row, has_model, is_sound, kinds_row, log_and_model_row, log_row, model_row, number_row, passes, row_of}
use Rattle.command_line.specs.Task.{Task, allowed, asked, task_of_use}
use Rattle.command_line.specs.declared.table.Command.TheVariants as commands
use Rattle.command_line.specs.declared.table.Row.{Row}

some-is : {X : Type 0} (x y : X) → Some x ≡ Some y → x ≡ y
some-is x y is = cc

-- it holds of each row
pub record OfRows (P : Row → Type 0) : Type 0 where
  pub invariants : P (kinds_row commands.Invariants)
  pub graph : P (log_row commands.Graph)
  pub graph_of_model : P (model_row commands.GraphOfModel)
  pub infer : P (kinds_row commands.Infer)
  pub check : P (log_and_model_row commands.Check)
  pub replay : P (log_and_model_row commands.Replay)
  pub paths : P (kinds_row commands.Paths)
  pub bench : P (number_row commands.Bench)
  pub migrate : P (model_row commands.Migrate)

-- it holds of a row, where there is one
abbrev OfRow : (Row → Type 0) → Option Row → Type 0
OfRow P o = (row : Row) → o ≡ Some row → P row

step : (P : Row → Type 0) (test : Bool) (x : Row) (rest : Option Row) → P x → OfRow P rest → OfRow P (if test then Some x else rest)
step P true x rest own others row is = subst P (some-is x row is) own
step P false x rest own others row is = others row is

none : (P : Row → Type 0) → OfRow P None
none P row is = cc

of-graph : (P : Row → Type 0) → OfRows P → (given : Bool) → P (graph_row given)
of-graph P all true = all.graph_of_model
of-graph P all false = all.graph

of-word : (P : Row → Type 0) → OfRows P → (text : Text) (given : Bool) → OfRow P (row_of text given)
of-word P all text given =
    step P (bytes_eq text (codes "invariants")) (kinds_row commands.Invariants) _ all.invariants
    (step P (bytes_eq text (codes "graph")) (graph_row given) _ (of-graph P all given)
    (step P (bytes_eq text (codes "infer")) (kinds_row commands.Infer) _ all.infer
    (step P (bytes_eq text (codes "check")) (log_and_model_row commands.Check) _ all.check
    (step P (bytes_eq text (codes "replay")) (log_and_model_row commands.Replay) _ all.replay
    (step P (bytes_eq text (codes "paths")) (kinds_row commands.Paths) _ all.paths
    (step P (bytes_eq text (codes "bench")) (number_row commands.Bench) _ all.bench
    (step P (bytes_eq text (codes "migrate")) (model_row commands.Migrate) None all.migrate (none P))))))))

-- what a row tells of the task that it allows
abbrev pub Tells : (Row → Type 0) → (Task → Type 0) → Use → Type 0
Tells P Q u = (row : Row) → P row → passes row u ≡ true → is_sound u ≡ true → Q (asked row.command u)

allow : (Q : Task → Type 0) (test : Bool) (t task : Task) → (test ≡ true → Q t) → (if test then Some t else None) ≡ Some task → Q task
allow Q true t task own is = subst Q (some-is t task is) (own refl)
allow Q false t task own is = cc

from-row : (P : Row → Type 0) (Q : Task → Type 0) (u : Use) → Tells P Q u → (o : Option Row) → OfRow P o
    → (task : Task) → option_and_then (λ row. allowed row u) o ≡ Some task → Q task
from-row P Q u tells None of task is = cc
from-row P Q u tells (Some row) of task is =
    allow Q (passes row u && is_sound u) (asked row.command u) task
    (λ both. let parts = and_parts (passes row u) (is_sound u) both in tells row (of row refl) parts.0 parts.1) is

from-word : (P : Row → Type 0) (Q : Task → Type 0) (u : Use) → OfRows P → Tells P Q u → (o : Option Text) (task : Task)
    → option_and_then (λ row. allowed row u) (option_and_then (λ word. row_of word (has_model u)) o) ≡ Some task → Q task
from-word P Q u all tells None task is = cc
from-word P Q u all tells (Some word) task is =
    from-row P Q u tells (row_of word (has_model u)) (of-word P all word (has_model u)) task is

-- what each row tells of the task that it allows holds of each task
pub of-task : (P : Row → Type 0) (Q : Task → Type 0) (u : Use) → OfRows P → Tells P Q u
    → (task : Task) → task_of_use u ≡ Some task → Q task
of-task P Q u all tells task is = from-word P Q u all tells u.command task is
