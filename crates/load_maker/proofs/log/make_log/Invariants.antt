use Rattle.std.proofs.Common.{◌≡◌}
use Rattle.load_maker.specs.Sessions.{log_text, state_after}
use Rattle.load_maker.proofs.log.make_log.Given as goal

abbrev pub invariant-loop-k : goal.invariant-loop-k
invariant-loop-k l = record { text : l.text.items ≡ log_text l.k; state : l.generator.state ≡ state_after l.k }
