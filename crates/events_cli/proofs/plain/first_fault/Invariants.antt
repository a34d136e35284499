use Rattle.std.proofs.Common.{◌≡◌, ℕ, drop, get_or, take}
use Rattle.events_cli.specs.Plain.{faults_after, first_fault}
use Rattle.events_cli.proofs.Latest.{latest_in}
use Rattle.events_cli.proofs.plain.first_fault.Given as goal

abbrev pub invariant-loop-event : goal.invariant-loop-event
invariant-loop-event l = record {
  faults : first_fault l.traces.types l.events ≡ faults_after l.traces.types (take l.event-index l.events) (drop l.event-index l.events);
  latest : (k : ℕ) → get_or l.latest.items k 0 ≡ latest_in k (take l.event-index l.events);
}
