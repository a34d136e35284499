-- What is there before the first stage.
use Rattle.std.proofs.Common.{◌≡◌, [], None, refl, sym, ap₂, subst, arith}
use Rattle.traces.specs.Words.{Log, log_of}
use Rattle.invariants.specs.declared.records.Model.{Model}
use Rattle.model_shape.specs.Shapes.{IsWellShaped}
use Rattle.model_file.specs.declared.version.Version.{Version}
use Rattle.model_file.specs.declared.version.Version.TheVariants.{One, Two}
use Rattle.synoptic_cli.specs.declared.material.Material.{Material}
use Rattle.synoptic_cli.specs.Stages.{at_start, no_model}
use Rattle.synoptic_cli.specs.Halts.{FitsVersion, IsHeld}

-- a model of no types and of no traces is well shaped
no_model-shaped : IsWellShaped no_model
no_model-shaped = record {
  types = record { few = omega arith; each = tt; apart = λ j k text one two. cc };
  partitions = record { traces = 0; inner = []; ends = refl; few = omega arith; few_traces = omega arith; order = (omega arith, (tt, tt)); each = tt };
  edges = record { order = tt; each = tt };
  invariants = record { order = tt; each = tt };
  merges = record { few = omega arith; each = tt };
  splits = record { few = omega arith; each = tt; numbers = omega arith };
  blocks = record { order = tt; each = tt; numbers = omega arith };
}

-- and one of a file of each version
no_model-fits : (version : Version) → FitsVersion version no_model
no_model-fits One = (no_model-shaped, record { kinds = refl; types = omega arith })
no_model-fits Two = no_model-shaped

-- what the program begins with is what is there before the first stage
pub begun : (log : Log) (model : Model) → log ≡ log_of [] → model ≡ no_model → (version : Version) → IsHeld version (record { rules = None; material = record { log = log; model = model } }) at_start
begun log model same empty version = record {
  form = tt;
  material = sym (ap₂ (λ (l : Log) (m : Model). let n : Material = record { log = l; model = m } in n) same empty);
  shaped = subst (FitsVersion version) (sym empty) (no_model-fits version);
}
