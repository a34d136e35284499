use Rattle.std.proofs.Common.{◌≡◌, filter, length, take}
use Rattle.infer_core.specs.Vacuous.{is_asked}
use Rattle.infer_core.proofs.Vacuous.{TellsBefore}
use Rattle.infer_core.proofs.flags.with_vacuous.Given as goal

abbrev pub invariant-loop-k : goal.invariant-loop-k
invariant-loop-k l =
    record {
      count : length l.flags.items ≡ l.k;
      next : l.next ≡ length (filter (is_asked l.once) (take l.k l.invs));
      told : TellsBefore l.k l.once l.invs l.told l.flags.items;
    }
