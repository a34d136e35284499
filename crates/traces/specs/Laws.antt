-- Laws on the traces of a log, and a small log.
use Rattle.std.specs.Prelude.{ℕ, ◌≡◌, ◌==◌, ◌&&◌, List, [], ◌∷◌, codes, filter, length, slice_get, Some}
use Rattle.traces.specs.Words.{Event, Key, Trace, event_count_of, event_of, keys_of, log_of, number_of, same_key, types_of}

-- the trace has its key's events and no others: of each type as many as there are with its key
pub record HasItsOwn (events : List Event) (k : ℕ) (trace : Trace) : Type 0 where
  pub named : slice_get (keys_of events) k ≡ Some trace.key
  pub own : (n : ℕ) → length (filter (λ m. m == n) trace.events)
      ≡ length (filter (λ e. same_key trace.key e.key && number_of (types_of events) e.typ == n) events)

-- this holds of each trace of each log
abbrev pub TracesHaveTheirOwn : Type 0
TracesHaveTheirOwn =
    (events : List Event) (k : ℕ) (trace : Trace) → slice_get (log_of events).traces k ≡ Some trace
    → HasItsOwn events k trace

-- all traces together have as many events as were gathered
abbrev pub NoEventIsLost : Type 0
NoEventIsLost = (events : List Event) → event_count_of (log_of events).traces ≡ length events

-- the key of a trace with this name in the first file
abbrev pub key_named : List ℕ → Key
key_named name = record { file = 0; section = 0; text = name }

-- five events of two traces; the last one has an earlier time than the one before it in its trace
abbrev pub small_log : List Event
small_log =
    event_of 0 0 (codes "7") (codes "open") 1 ∷ event_of 0 0 (codes "8") (codes "open") 2
    ∷ event_of 0 0 (codes "8") (codes "read") 4 ∷ event_of 0 0 (codes "7") (codes "close") 9
    ∷ event_of 0 0 (codes "7") (codes "read") 5 ∷ []

-- its log: trace after trace, and each in the order of its times
abbrev pub SmallLogTells : Type 0
SmallLogTells =
    log_of small_log ≡ record {
      types = codes "open" ∷ codes "read" ∷ codes "close" ∷ [];
      traces =
          record { key = key_named (codes "7"); events = 2 ∷ 3 ∷ 4 ∷ []; times = 1 ∷ 5 ∷ 9 ∷ [] }
          ∷ record { key = key_named (codes "8"); events = 2 ∷ 3 ∷ []; times = 2 ∷ 4 ∷ [] } ∷ [];
    }
