-- A task that asks for a made log has its number, and no task has too many files.
use Rattle.std.proofs.Common.{◌≡◌, ◌<◌, ◌^◌, ℕ, length, Bool, true, false, ◌&&◌, Option, Some, None, refl, sym, ap, ◌∙◌, arith, nat_le, is_some, option_and_then, if◌then◌else◌}
use Rattle.std.specs.Option.{IsSomeAnd}
use Rattle.std.specs.Str.Parse.{digits_value}
use Rattle.std.proofs.lemmas.Bool.{and_parts}
use Rattle.std.proofs.lemmas.Bool.Decides.{nat_tests}
use Rattle.clap.specs.Words.{Text}
use Rattle.limits.specs.declared.TheConstants.{MAX_SESSIONS}
use Rattle.command_line.specs.Given.{Use}
use Rattle.command_line.specs.Numbers.{are_digits, is_number, number_of}
use Rattle.command_line.specs.Table.{are_few, fits, is_sound, option_is_number, passes}
use Rattle.command_line.specs.Task.{HasSessions, IsSessions, Task, asked, task_of_use}
use Rattle.command_line.specs.declared.table.Command.TheVariants as commands
use Rattle.command_line.specs.declared.table.Row.{Row}
use Rattle.command_line.specs.declared.table.Want.TheVariants.{Needs}
use Rattle.command_line.proofs.Rows.{OfRows, of-task}

-- the row asks for a number where its command makes a log
abbrev NeedsNumber : Row → Type 0
NeedsNumber row = row.command ≡ commands.Bench → row.number ≡ Needs

rows-need : OfRows NeedsNumber
rows-need = record {
  invariants = λ is. cc;
  graph = λ is. cc;
  graph_of_model = λ is. cc;
  infer = λ is. cc;
  check = λ is. cc;
  replay = λ is. cc;
  paths = λ is. cc;
  bench = λ is. refl;
  migrate = λ is. cc;
}

-- a text that says a number says one of sessions
pick : (test : Bool) (n : ℕ) → (test ≡ true → IsSessions n) → is_some (if test then Some n else None) ≡ true → IsSomeAnd (if test then Some n else None) IsSessions
pick true n is some = is refl
pick false n is some = cc

within : (n : ℕ) → is_number n ≡ true → IsSessions n
within n is =
    let parts = and_parts (nat_le 1 n) (nat_le n MAX_SESSIONS) is in
    (grind (arith, nat_tests, parts.0), grind (arith, nat_tests, parts.1))

number-at : (text : Text) → is_some (number_of text) ≡ true → IsSomeAnd (number_of text) IsSessions
number-at text some =
    pick (are_digits text && is_number (digits_value 10 text)) (digits_value 10 text)
    (λ both. within (digits_value 10 text) (and_parts (are_digits text) (is_number (digits_value 10 text)) both).1) some

number-is : (o : Option Text) → is_some o ≡ true → option_is_number o ≡ true → IsSomeAnd (option_and_then number_of o) IsSessions
number-is None some sound = cc
number-is (Some text) some sound = number-at text sound

-- so has the task that a row allows
asked-has : (row : Row) (u : Use) → NeedsNumber row → passes row u ≡ true → is_sound u ≡ true → HasSessions (asked row.command u)
asked-has row u needs fit sound = λ bench.
    let given = (and_parts _ (fits row.number (is_some u.number)) fit).1 in
    number-is u.number (sym (ap (λ w. fits w (is_some u.number)) (needs bench)) ∙ given) (and_parts _ (option_is_number u.number) sound).1

-- a task that asks for a made log has the number of its sessions
pub has-sessions : (u : Use) (task : Task) → task_of_use u ≡ Some task → HasSessions task
has-sessions u task is = of-task NeedsNumber HasSessions u rows-need (λ row. asked-has row u) task is

-- what holds of each row
abbrev AnyRow : Row → Type 0
AnyRow row = Unit {0}

any-row : OfRows AnyRow
any-row = record {
  invariants = tt;
  graph = tt;
  graph_of_model = tt;
  infer = tt;
  check = tt;
  replay = tt;
  paths = tt;
  bench = tt;
  migrate = tt;
}

-- the files are few
abbrev pub HasFew : Task → Type 0
HasFew task = length task.files < 2 ^ 32

asked-few : (row : Row) (u : Use) → AnyRow row → passes row u ≡ true → is_sound u ≡ true → HasFew (asked row.command u)
asked-few row u any fit sound =
    let front = (and_parts _ (option_is_number u.number) sound).0 in
    let few = (and_parts _ (are_few u.files) front).1 in
    grind (arith, nat_tests, few)

-- no task has too many files
pub has-few : (u : Use) (task : Task) → task_of_use u ≡ Some task → HasFew task
has-few u task is = of-task AnyRow HasFew u any-row (λ row. asked-few row u) task is
