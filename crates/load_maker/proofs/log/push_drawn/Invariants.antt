use Rattle.std.proofs.Common.{◌≡◌, ◌++◌, ◌-◌, ◌||◌, flat_map}
use Rattle.std.specs.List.{list_any}
use Rattle.load_maker.specs.Sessions.{most_draws, calls_within, is_write, line, state_within}
use Rattle.load_maker.proofs.log.push_drawn.Given as goal

-- with what is still drawn, all is as it is to be
abbrev pub invariant-loop : goal.invariant-loop
invariant-loop l = record {
  lines :
      l.text.items ++ flat_map (line l.session) (calls_within (most_draws - l.counter) l.generator.state)
      ≡ l.initial.text.items ++ flat_map (line l.session) (calls_within most_draws l.initial.generator.state);
  state : state_within (most_draws - l.counter) l.generator.state ≡ state_within most_draws l.initial.generator.state;
  wrote :
      (l.wrote || list_any is_write (calls_within (most_draws - l.counter) l.generator.state))
      ≡ list_any is_write (calls_within most_draws l.initial.generator.state);
}
