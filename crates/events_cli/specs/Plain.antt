-- Which logs can be written in the plain form.
use Rattle.std.specs.Prelude.{ℕ, ◌==◌, ◌-◌, ◌&&◌, Bool, not, List, [], ◌∷◌, ◌++◌, length, nat_lt, slice_index, Option, Some, None, if◌then◌else◌}
use Rattle.std.specs.List.{list_any}
use Rattle.std.specs.Option.{option_or}
use Rattle.lines.specs.Lines.{is_feed}
use Rattle.events.specs.declared.located.Located.{Located}
use Rattle.events_cli.specs.declared.ending.PlainFault.{PlainFault}
use Rattle.events_cli.specs.declared.ending.PlainFault.TheVariants.{Kind, Time}
use Rattle.events_cli.specs.Texts.{type_text}

-- whether a line in the plain form can have this type: no line feed, and no carriage return at its end
abbrev pub is_plain_type : List ℕ → Bool
is_plain_type text = not (list_any is_feed text) && not (slice_index text (length text - 1) == 13)

-- whether its time is before that of one of these events of its trace
abbrev pub is_late : List Located → Located → Bool
is_late before e = list_any (λ d. (d.trace == e.trace) && nat_lt e.time d.time) before

-- why no line in the plain form can have this event after these, if none can
abbrev pub plain_fault : List (List ℕ) → List Located → Located → Option PlainFault
plain_fault types before e =
    if not (is_plain_type (type_text types e.number)) then Some (Kind e.at)
    else if is_late before e then Some (Time e.at)
    else None

-- the first such fault of these events, after the earlier ones
abbrev pub faults_after : List (List ℕ) → List Located → List Located → Option PlainFault
faults_after types before [] = None
faults_after types before (e ∷ events) =
    option_or (plain_fault types before e) (faults_after types (before ++ e ∷ []) events)

-- the first of these events that no line in the plain form can have
abbrev pub first_fault : List (List ℕ) → List Located → Option PlainFault
first_fault types events = faults_after types [] events
