use Rattle.std.proofs.Common.{◌≡◌, ◌≤◌, length, take}
use Rattle.infer_core.specs.Portions.{AreNamed}
use Rattle.infer_core.specs.Vacuous.{Covers}
use Rattle.infer_core.proofs.alike.asked_for.Given as goal

abbrev pub invariant-loop-k : goal.invariant-loop-k
invariant-loop-k l =
    record {
      few : length l.asked.items ≤ l.k;
      named : AreNamed l.invs → AreNamed l.asked.items;
      count : length l.numbers.items ≡ l.k;
      covers : Covers l.once (take l.k l.invs) l.asked.items l.numbers.items;
    }
