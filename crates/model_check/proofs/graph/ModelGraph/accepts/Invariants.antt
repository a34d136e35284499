use Rattle.std.proofs.Common.{◌++◌, ◌∷◌, [], drop}
use Rattle.limits.specs.declared.TheConstants.{TERMINAL}
use Rattle.model_check.specs.Rows.{shown}
use Rattle.model_check.specs.Successors.{AreSuccessors}
use Rattle.model_check.proofs.Following.{IsFollowed}
use Rattle.model_check.proofs.graph.ModelGraph.accepts.Given as goal

abbrev pub invariant-loop-typ : goal.invariant-loop-typ
invariant-loop-typ l =
    record {
      followed : IsFollowed (shown l.fn.self) l.events l.self-inside.types.items l.self-inside.rows l.self-inside.successors.kept l.set (drop l.typ-index l.events ++ TERMINAL ∷ []);
      successors : AreSuccessors l.self-inside.rows l.self-inside.successors.numbers.items l.self-inside.successors.kept;
    }
