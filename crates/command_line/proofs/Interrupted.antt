-- InterruptedBy is asked for beside three commands only.
use Rattle.std.proofs.Common.{◌≡◌, ◌∙◌, Bool, true, false, List, Some, None, refl, sym, ap, is_some, inl, inr, if◌then◌else◌}
use Rattle.std.proofs.lemmas.Bool.{and_parts}
use Rattle.clap.specs.Words.{Text}
use Rattle.command_line.specs.App.{is_taken, rows_for}
use Rattle.command_line.specs.Given.{Use, use_of}
use Rattle.command_line.specs.Lines.{InterruptedIsOfThreeCommands, TakesInterrupted}
use Rattle.command_line.specs.Table.{fits, is_sound, passes}
use Rattle.command_line.specs.Task.{Task, asked, task_of, task_of_use}
use Rattle.command_line.specs.declared.table.Row.{Row}
use Rattle.command_line.proofs.Rows.{OfRows, of-task}

-- a row that takes -r is that of one of the three
abbrev IfTaken : Row → Type 0
IfTaken row = fits row.interrupted true ≡ true → TakesInterrupted row.command

rows-keep : OfRows IfTaken
rows-keep = record {
  invariants = λ is. inl refl;
  graph = λ is. absurd cc;
  graph_of_model = λ is. absurd cc;
  infer = λ is. inr (inl refl);
  check = λ is. absurd cc;
  replay = λ is. absurd cc;
  paths = λ is. inr (inr refl);
  bench = λ is. absurd cc;
  migrate = λ is. absurd cc;
}

-- a task with InterruptedBy is one of the three
abbrev IsOfThree : Task → Type 0
IsOfThree task = task.interrupted ≡ true → TakesInterrupted task.command

asked-is : (row : Row) (u : Use) → IfTaken row → passes row u ≡ true → is_sound u ≡ true → IsOfThree (asked row.command u)
asked-is row u keeps fit sound = λ on.
    let front = (and_parts _ (fits row.number (is_some u.number)) fit).0 in
    keeps (ap (λ w. fits row.interrupted w) (sym on) ∙ (and_parts _ (fits row.interrupted u.interrupted) front).1)

of-taken : (taken : Bool) (u : Use) (task : Task) → (if taken then task_of_use u else None) ≡ Some task → IsOfThree task
of-taken true u task is = of-task IfTaken IsOfThree u rows-keep (λ row. asked-is row u) task is
of-taken false u task is = absurd cc

-- InterruptedBy is asked for beside the three commands only
pub is-of-three : InterruptedIsOfThreeCommands
is-of-three words task is = of-taken (is_taken words) (use_of (rows_for words)) task is
