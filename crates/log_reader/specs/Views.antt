-- Forms and names as contracts see them.
use Rattle.std.specs.Prelude.{ℕ, List, String, map}
use Rattle.std.specs.String.{string_bytes}
use Rattle.std.specs.declared.alloc.Global.{Global}
use Rattle.log_reader.specs.Inputs.{inputs_of}
use Rattle.log_reader.specs.Reading as spec
use Rattle.log_reader.specs.declared.form.Form.{Form}
use Rattle.log_reader.specs.declared.form.Form.TheVariants.{Plain, Rules}
use Rattle.line_rules.specs.Views.{rules_in}

-- what decides the lines
abbrev pub form_view : Form → spec.Form
form_view Plain = spec.Plain
form_view (Rules rules) = spec.Rules (rules_in rules.now)

-- the names of the inputs, as bytes: without any name, standard input
abbrev pub names_in : List (String Global) → List (List ℕ)
names_in names = inputs_of (map string_bytes names)
