use Rattle.std.proofs.Common.{◌≤◌, ◌*◌}
use Rattle.std.specs.List.{position_or_len}
use Rattle.lines.specs.Lines.{is_feed}
use Rattle.log_reader.proofs.line_reader.feed_search.further_feed.Given as goal

abbrev pub invariant-loop-look : goal.invariant-loop-look
invariant-loop-look l = l.look * 16 ≤ position_or_len is_feed l.bytes
