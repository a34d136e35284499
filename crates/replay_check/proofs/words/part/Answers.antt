use Rattle.std.proofs.Common.{◌≡◌, ◌+◌, ◌-◌, take, drop, ap, arith}
use Rattle.replay_check.proofs.words.part.Goals as goal

pub returns : goal.returns
returns c = let e : (c.args.from + c.args.count) - c.args.from ≡ c.args.count = omega arith in ap (λ n. take n (drop c.args.from c.args.ids.now)) e
