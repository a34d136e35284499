use Rattle.std.proofs.Common.{◌<◌, ℕ, List, IsUtf8, get_or}
use Rattle.model_reader.proofs.reading.texts_are_utf8.Given as goal

abbrev pub invariant-texts : goal.invariant-texts
invariant-texts l = (k : ℕ) (d : List ℕ) → k < l.text-index → IsUtf8 (get_or l.texts k d)
