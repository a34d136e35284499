use Rattle.std.proofs.Common.{◌≡◌, drop}
use Rattle.outside.specs.Inputs.{bytes_of}
use Rattle.outside.specs.Told.{told}
use Rattle.outside.proofs.mem_inputs.place_of.Given as goal

abbrev pub invariant-loop-place : goal.invariant-loop-place
invariant-loop-place l = bytes_of (told l.files) l.name ≡ bytes_of (told (drop l.place l.files)) l.name
