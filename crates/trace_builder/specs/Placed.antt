-- Where an event is put: the place of its trace, and the number of its type.
use Rattle.std.specs.Prelude.{ℕ, List, map}
use Rattle.std.specs.List.{position_or_len}
use Rattle.trace_keys.specs.Keys.{Key, same_key}
use Rattle.traces.specs.Words.{Gathering, Trace, number_of}
use Rattle.trace_builder.specs.declared.placing.Placed.{Placed}
use Rattle.trace_builder.specs.declared.trace_table.PackedKey.{PackedKey}

-- the key that has these parts
abbrev pub key_packed : PackedKey → Key
key_packed key = record { file = key.file; section = key.section; text = key.text.now }

-- the place of the trace with this key, counted from 0; a new trace comes after all others
abbrev pub trace_place : List Trace → Key → ℕ
trace_place traces key = position_or_len (same_key key) (map (λ trace. trace.key) traces)

-- where an event with this key and type is put, after what was gathered
abbrev pub placed_in : Gathering → Key → List ℕ → Placed
placed_in gathering key typ = record { trace = trace_place gathering.traces key; number = number_of gathering.types typ }
