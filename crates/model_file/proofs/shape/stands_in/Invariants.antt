use Rattle.std.proofs.Common.{◌≡◌, drop}
use Rattle.std.specs.List.{list_any}
use Rattle.std.specs.Str.{bytes_eq}
use Rattle.model_file.proofs.shape.stands_in.Given as goal

abbrev pub invariant-later : goal.invariant-later
invariant-later l = list_any (bytes_eq l.text) (drop l.other-index l.types) ≡ list_any (bytes_eq l.text) l.types
