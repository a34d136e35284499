-- A made log as it is read: in the plain form, each line an event.
use Rattle.std.specs.Prelude.{ℕ, ◌≡◌, ◌≤◌, ◌+◌, ◌*◌, List, [], ◌∷◌, map, length, decimal, None, false}
use Rattle.std.specs.List.{flat_map, range_with_len}
use Rattle.limits.specs.declared.TheConstants.{MAX_SESSIONS}
use Rattle.traces.specs.Words.{Event, Key, Log, event_of, keys_of, log_of, types_of}
use Rattle.log_reader.specs.Reading.{Plain, Setting, events_of, first_refusal, setting}
use Rattle.load_maker.specs.Sessions.{log_text, session_calls, state_after, word_of}
use Rattle.load_maker.specs.declared.call.Call.{Call}

-- a made log is read in the plain form, undecided lines are not skipped, and files are not joined
abbrev pub plainly : Setting
plainly = setting Plain false false

-- the calls of the sessions from 1 to n, each with the number of its session
abbrev pub calls_of : ℕ → List (ℕ × Call)
calls_of n =
    flat_map (λ k. map (λ (call : Call). (k + 1, call)) (session_calls (state_after k))) (range_with_len 0 n)

-- the event of a call: its session's number names the trace, and its word the type
abbrev pub call_event : ℕ × Call → Event
call_event c = event_of 0 0 (decimal c.0) (word_of c.1) 0

-- the events of the sessions from 1 to n
abbrev pub session_events : ℕ → List Event
session_events n = map call_event (calls_of n)

-- the key of the trace of a session
abbrev pub session_key : ℕ → Key
session_key number = record { file = 0; section = 0; text = decimal number }

-- the log of n sessions, as it is read
abbrev pub made_log : ℕ → Log
made_log n = log_of (events_of plainly (log_text n ∷ []))

-- what the text of n sessions is as a log
pub record IsDecided (n : ℕ) : Type 0 where
  -- nothing in it is refused: each line is decided, and no limit is passed
  pub taken : first_refusal plainly (log_text n ∷ []) ≡ None
  -- each line is the event of a call, in the order of the sessions and of their calls
  pub events : events_of plainly (log_text n ∷ []) ≡ session_events n
  -- each session is one trace, in their order
  pub traces : keys_of (session_events n) ≡ map (λ k. session_key (k + 1)) (range_with_len 0 n)
  -- a session has at most 7 events
  pub few : length (session_events n) ≤ 7 * n
  -- there are at most as many types as kinds of calls
  pub types : length (types_of (session_events n)) ≤ 6
  -- a session has at most 84 bytes
  pub short : length (log_text n) ≤ 84 * n

-- each log that can be made is decided
abbrev pub MadeLogsAreDecided : Type 0
MadeLogsAreDecided = (n : ℕ) → n ≤ MAX_SESSIONS → IsDecided n
