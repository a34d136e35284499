use Rattle.std.proofs.Common.{◌≡◌, ◌≤◌, ◌-◌, ◌++◌, flat_map, take}
use Rattle.std.specs.List.{zip}
use Rattle.reports.specs.Paths.{step_text}
use Rattle.reports.proofs.path.push_steps.Given as goal

abbrev pub invariant-loop-i : goal.invariant-loop-i
invariant-loop-i l = record {
  within : l.i ≤ l.count;
  same : l.steps ≡ l.initial.steps;
  text : l.text.items ≡ l.initial.text.items ++ flat_map (step_text l.initial.steps) (take l.i (zip l.numbers l.ids));
}

abbrev pub decreases-loop-i : goal.decreases-loop-i
decreases-loop-i l = l.count - l.i
