-- What arguments ask for: few files, and one task or none.
use Rattle.std.proofs.Common.{◌≡◌, ◌∙◌, Bool, true, false, Option, Some, None, Ok, Err, refl, sym, ap, if◌then◌else◌}
use Rattle.command_line.specs.App.{is_taken, rows_for}
use Rattle.command_line.specs.Given.{Use, use_of}
use Rattle.command_line.specs.Laws.{AnswersAreOne, FilesAreFew}
use Rattle.command_line.specs.Task.{Task, task_of, task_of_use}
use Rattle.command_line.specs.declared.given.ParseError.TheVariants.{Usage, Memory}
use Rattle.command_line.proofs.Numbered.{HasFew, has-few}

few-of-taken : (taken : Bool) (u : Use) (task : Task) → (if taken then task_of_use u else None) ≡ Some task → HasFew task
few-of-taken true u task is = has-few u task is
few-of-taken false u task is = cc

-- no task has too many files
pub files-are-few : FilesAreFew
files-are-few words task is = few-of-taken (is_taken words) (use_of (rows_for words)) task is

one-task : (asked : Option Task) (s t : Task) → asked ≡ Some s → asked ≡ Some t → s ≡ t
one-task asked s t p q = let same : Some s ≡ Some t = sym p ∙ q in cc

no-task : {X : Type 0} (asked : Option Task) (t : Task) → asked ≡ Some t → asked ≡ None → X
no-task asked t p q = let same : Some t ≡ None = sym p ∙ q in cc

-- arguments have one answer
pub answers-are-one : AnswersAreOne
answers-are-one words (Ok s) (Ok t) a b p q = ap (λ (x : Task). Ok x) (one-task (task_of words) s t p q)
answers-are-one words (Ok s) (Err Usage) a b p q = no-task (task_of words) s p q
answers-are-one words (Err Usage) (Ok t) a b p q = no-task (task_of words) t q p
answers-are-one words (Err Usage) (Err Usage) a b p q = refl
answers-are-one words a (Err Memory) some other p q = absurd (other refl)
answers-are-one words (Err Memory) b some other p q = absurd (some refl)
