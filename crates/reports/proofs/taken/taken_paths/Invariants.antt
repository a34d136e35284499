use Rattle.std.proofs.Common.{◌≡◌, ◌≤◌, [], length, map, drop, fold}
use Rattle.traces.specs.Words.{event_count_of}
use Rattle.reports.specs.Paths.{paths_of, shown, total, with_path, AreIdsOf}
use Rattle.reports.proofs.taken.taken_paths.Given as goal

-- with the paths that are left, all are noted
abbrev pub invariant-loop-t : goal.invariant-loop-t
invariant-loop-t l = record {
  lists : AreIdsOf l.lists l.paths.items;
  all :
      fold with_path (map shown l.paths.items) (paths_of (drop l.t (l.traces).traces) l.rest)
      ≡ fold with_path [] (paths_of (l.traces).traces l.parts);
  left : length l.rest ≡ event_count_of (drop l.t (l.traces).traces);
  few : length l.paths.items ≤ l.t;
  count : total (map shown l.paths.items) ≡ l.t;
}
