-- What the arguments ask for: a mode, and the arguments for `synoptic`.
use Rattle.std.specs.Prelude.{ℕ, ◌≡◌, Bool, true, false, not, ◌&&◌, ◌||◌, List, [], ◌∷◌, Option, Some, None, is_some, is_none, codes, unwrap_or, if◌then◌else◌}
use Rattle.std.specs.Option.{option_map_or}
use Rattle.std.specs.Str.{bytes_eq}
use Rattle.command_line.specs.Task.{Task, task_of}
use Rattle.events_cli.specs.declared.mode.Mode.{Mode}
use Rattle.events_cli.specs.declared.mode.Mode.TheVariants.{ByTraces, InOrder, Plain, Undecided}

-- the mode that an argument names, if it names one
abbrev pub mode_word : List ℕ → Option Mode
mode_word word =
    if bytes_eq word (codes "--in-order") then Some InOrder
    else if bytes_eq word (codes "--plain") then Some Plain
    else if bytes_eq word (codes "--undecided") then Some Undecided
    else None

-- the mode that the first argument names, or else ByTraces
abbrev pub mode_of : List (List ℕ) → Mode
mode_of [] = ByTraces
mode_of (word ∷ words) = unwrap_or (mode_word word) ByTraces

-- all arguments, or those after the first if it names a mode
abbrev pub after_mode : Option Mode → (all rest : List (List ℕ)) → List (List ℕ)
after_mode None all rest = all
after_mode (Some mode) all rest = rest

-- the arguments without the one that names a mode
abbrev pub others : List (List ℕ) → List (List ℕ)
others [] = []
others (word ∷ words) = after_mode (mode_word word) (word ∷ words) words

-- the arguments that ask `synoptic` for the graph of a log
abbrev pub graph_words : List (List ℕ) → List (List ℕ)
graph_words words = codes "graph" ∷ words

-- whether undecided lines are to be listed
abbrev pub lists_undecided : Mode → Bool
lists_undecided Undecided = true
lists_undecided mode = false

-- whether the task, if any, skips undecided lines
abbrev pub skips : Option Task → Bool
skips task = option_map_or (λ t. t.ignore) task false

-- -i is added if undecided lines are to be listed and the arguments do not have it
abbrev pub with_skip : Mode → List (List ℕ) → List (List ℕ)
with_skip mode words =
    if lists_undecided mode && not (skips (task_of (graph_words words))) then codes "-i" ∷ words else words

-- the arguments for `synoptic`
abbrev pub given_words : List (List ℕ) → List (List ℕ)
given_words words = graph_words (with_skip (mode_of words) (others words))

-- the task reads a log and no model, and skips undecided lines if they are to be listed
abbrev pub fits : Mode → Task → Bool
fits mode task = is_some task.form && is_none task.model && (not (lists_undecided mode) || task.ignore)

-- the task, if it fits the mode
abbrev pub fitting : Mode → Option Task → Option Task
fitting mode None = None
fitting mode (Some task) = if fits mode task then Some task else None

-- the task that the arguments ask for
abbrev pub task_for : List (List ℕ) → Option Task
task_for words = fitting (mode_of words) (task_of (given_words words))

-- the arguments ask for a task, and P holds of it
abbrev pub IsAsked : List (List ℕ) → (Task → Type 0) → Type 0
IsAsked words P = (task : Task) × (task_for words ≡ Some task) × P task
