use Rattle.std.proofs.Common.{◌≡◌, ◌≤◌, ◌<◌, ◌+◌, ◌-◌, ◌*◌, ◌^◌, length}
use Rattle.limits.specs.declared.TheConstants.{FIRST_TYPE, MAX_PARTITIONS, MAX_PATH_NUMBERS}
use Rattle.partition_model.specs.Assignments.{G}
use Rattle.path_finder.specs.Surveys.{IsSurveyOf}
use Rattle.coarsener.specs.Blocking.{pair_count}
use Rattle.coarsener.specs.Telling.{TellsLosses}
use Rattle.coarsener.proofs.BlockingTurns.{IsBlocking}
use Rattle.coarsener.proofs.blocking.blocks_told.Given as goal

abbrev pub invariant-loop-pair : goal.invariant-loop-pair
invariant-loop-pair g l =
    record {
      low : FIRST_TYPE ≤ l.at.p;
      order : l.at.p ≤ l.at.q;
      limit : l.at.q < MAX_PARTITIONS;
      list : l.planes.invs ≡ l.fn.planes.invs;
      listed : l.planes.invs ≡ l.apart.invs.now;
      told : TellsLosses l.apart.told l.planes (G l.apart.graph.now.traces);
      few : length l.apart.invs.now < 2 ^ 32;
      some : 0 < pair_count l.apart.graph.now;
      surveyed : IsSurveyOf l.finder.survey (G l.apart.graph.now.traces);
      counted : l.steps ≡ l.fn.steps + length l.run_log.blocks;
      within : length l.spans.numbers ≤ MAX_PATH_NUMBERS;
      run : IsBlocking l.apart.invs.now l.apart.graph.now l.fn.run_log l.run_log l.fn.spans l.spans l.at.p l.at.q;
    }

abbrev pub decreases-loop-pair : goal.decreases-loop-pair
decreases-loop-pair g l = (MAX_PARTITIONS - l.at.p) * MAX_PARTITIONS + (MAX_PARTITIONS - l.at.q)
