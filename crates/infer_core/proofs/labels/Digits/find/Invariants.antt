use Rattle.std.proofs.Common.{◌≡◌, ◌*◌, length}
use Rattle.infer_core.specs.declared.labels.TheConstants.{AT_ONCE}
use Rattle.infer_core.specs.Windows.{AreColumnsOf, AreTaken, HasRows}
use Rattle.infer_core.proofs.labels.Digits.find.Given as goal

abbrev pub invariant-loop-number : goal.invariant-loop-number
invariant-loop-number l =
    record {
      columns : AreColumnsOf l.words l.bytes.columns;
      taken : AreTaken l.bytes;
      row : length l.row ≡ length l.words;
      rows : HasRows l.words l.self.text.items l.self.from.items;
      count : length l.self.from.items ≡ AT_ONCE * l.number;
    }
