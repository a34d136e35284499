-- What each asks for computes.
use Rattle.std.proofs.Common.{refl, ap, Bool, List, ℕ, ◌∷◌, codes, not}
use Rattle.std.specs.Prelude.{if◌then◌else◌}
use Rattle.events_cli.proofs.law.arguments_tell.Goals as goal

-- the arguments of `synoptic`, by whether -i is given
abbrev given : List (List ℕ) → Bool → List (List ℕ)
given words has = codes "graph" ∷ (if not has then codes "-i" ∷ words else words)

pub returns : goal.returns
returns c = record {
  in_order = record { gives = λ words. refl; leaves = λ words. refl };
  plain = record { gives = λ words. refl; leaves = λ words. refl };
  undecided = record { gives = λ words. refl; leaves = λ words. refl };
  no_mode = λ words. refl;
  all = λ words. refl;
  no_words = refl;
  read_in_order = λ words. refl;
  read_plain = λ words. refl;
  has_skip = λ words is. ap (given words) is;
  no_skip = λ words is. ap (given words) is;
}
