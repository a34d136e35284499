-- What a list of numbers is written as.
use Rattle.std.specs.Prelude.{ℕ, List}
use Rattle.serde_json.specs.Written.{compact_text}
use Rattle.model_file.specs.Tree.{path_data}

-- the numbers in brackets, with commas between them
abbrev pub list_text : List ℕ → List ℕ
list_text numbers = compact_text (path_data numbers)
