-- What some arguments ask for, and what is written for a small log.
use Rattle.std.specs.Prelude.{ℕ, ◌≡◌, true, false, List, [], ◌∷◌, Some, None, codes}
use Rattle.log_reader.specs.Reading as spec
use Rattle.log_reader.specs.Reading.{setting}
use Rattle.command_line.specs.Task as asked
use Rattle.command_line.specs.Task.{Task, task_of}
use Rattle.command_line.specs.declared.table.Command.TheVariants.{Graph}
use Rattle.events_cli.specs.Answers.{answer, log_answer}
use Rattle.events_cli.specs.Laws.{plainly}
use Rattle.events_cli.specs.Words.{given_words, mode_of, others, skips}
use Rattle.events_cli.specs.declared.ending.Ending.TheVariants as endings
use Rattle.events_cli.specs.declared.mode.Mode.{Mode}
use Rattle.events_cli.specs.declared.mode.Mode.TheVariants.{ByTraces, InOrder, Plain, Undecided}

-- the first argument gives this mode, and the others are left
pub record GivesMode (word : List ℕ) (mode : Mode) : Type 0 where
  pub gives : (words : List (List ℕ)) → mode_of (word ∷ words) ≡ mode
  pub leaves : (words : List (List ℕ)) → others (word ∷ words) ≡ words

-- what arguments ask for
pub record ArgumentsTell : Type 0 where
  -- each mode has its argument
  pub in_order : GivesMode (codes "--in-order") InOrder
  pub plain : GivesMode (codes "--plain") Plain
  pub undecided : GivesMode (codes "--undecided") Undecided
  -- without one, events are written trace after trace, and all arguments are left
  pub no_mode : (words : List (List ℕ)) → mode_of (codes "-p" ∷ words) ≡ ByTraces
  pub all : (words : List (List ℕ)) → others (codes "-p" ∷ words) ≡ codes "-p" ∷ words
  pub no_words : mode_of [] ≡ ByTraces
  -- the log is read as `synoptic graph` reads it with the other arguments
  pub read_in_order : (words : List (List ℕ)) → given_words (codes "--in-order" ∷ words) ≡ codes "graph" ∷ words
  pub read_plain : (words : List (List ℕ)) → given_words (codes "--plain" ∷ words) ≡ codes "graph" ∷ words
  -- undecided lines are listed only if they are skipped: -i is added unless it is given
  pub has_skip : (words : List (List ℕ)) → skips (task_of (codes "graph" ∷ words)) ≡ true
      → given_words (codes "--undecided" ∷ words) ≡ codes "graph" ∷ words
  pub no_skip : (words : List (List ℕ)) → skips (task_of (codes "graph" ∷ words)) ≡ false
      → given_words (codes "--undecided" ∷ words) ≡ codes "graph" ∷ codes "-i" ∷ words

-- the task that reads the file `log` in the plain form
abbrev pub plain_task : Task
plain_task = record {
  command = Graph;
  form = Some asked.Plain;
  model = None;
  ignore = false;
  join = false;
  number = None;
  interrupted = false;
  files = codes "log" ∷ [];
}

-- three events: the first and the last are of one trace
abbrev pub small_log : List (List ℕ)
small_log = codes "7 open\n8 open\n7 close\n" ∷ []

-- an event, two lines that nothing decides, and an empty line between them
abbrev pub undecided_log : List (List ℕ)
undecided_log = codes "7 open\nlogin\n\nread\n" ∷ []

-- what is written for the small logs
pub record SmallLogsTell : Type 0 where
  -- trace after trace: the number of the trace, the line, and the names of the trace and the type
  pub by_traces : log_answer ByTraces plain_task plainly small_log
      ≡ answer endings.Done
      (codes "0\tlog:1\t\"7\"\t\"open\"\n0\tlog:3\t\"7\"\t\"close\"\n1\tlog:2\t\"8\"\t\"open\"\n")
  -- in the order of the lines
  pub in_order : log_answer InOrder plain_task plainly small_log
      ≡ answer endings.Done
      (codes "0\tlog:1\t\"7\"\t\"open\"\n1\tlog:2\t\"8\"\t\"open\"\n0\tlog:3\t\"7\"\t\"close\"\n")
  -- in the plain form
  pub plain : log_answer Plain plain_task plainly small_log
      ≡ answer endings.Done (codes "0 open\n1 open\n0 close\n")
  -- the undecided lines, and how many they are
  pub undecided : log_answer Undecided plain_task (setting spec.Plain true false) undecided_log
      ≡ answer (endings.Undecided 2) (codes "log:2\t\"login\"\nlog:4\t\"read\"\n")
