use Rattle.std.proofs.Common.{rules, ◌≡◌, Some}
use Rattle.infer_core.proofs.labels.Bytes.take.Goals as goal

pub returns-then-eq-clause-bytes : goal.returns-then-eq-clause-bytes
returns-then-eq-clause-bytes c =
    let is : c.args.self.now.number ≡ Some c.args.number = search rules in
    c.requires.taken.taken c.args.number is
