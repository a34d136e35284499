-- Events with the ids of their partitions, and the graph that these give.
use Rattle.std.specs.Prelude.{◌≡◌, ◌==◌, ◌&&◌, ◌||◌, ℕ, ◌+◌, ◌≤◌, Bool, false, nat_lt, if◌then◌else◌, List, [], ◌∷◌, ◌++◌, map, length, sum_by, count_by}
use Rattle.std.specs.List.{AllByRecursion, flat_map}
use Rattle.limits.specs.declared.TheConstants.{INITIAL, TERMINAL, FIRST_TYPE}
use Rattle.partition_model.specs.Graphs.{Graph}

-- an event: its type, and the id of its partition
pub record Event : Type 0 where
  pub typ : ℕ
  pub id : ℕ

-- the traces, each without its two ends
abbrev pub Assignment : Type 0
Assignment = List (List Event)

-- the list between INITIAL and TERMINAL
abbrev pub with_ends : List ℕ → List ℕ
with_ends xs = INITIAL ∷ xs ++ TERMINAL ∷ []

-- the id of each event
abbrev pub ids_of : List Event → List ℕ
ids_of trace = map (λ e. e.id) trace

-- the type of each event
abbrev pub types_of : List Event → List ℕ
types_of trace = map (λ e. e.typ) trace

-- the ids of a trace, with its ends
abbrev pub id_list : List Event → List ℕ
id_list trace = with_ends (ids_of trace)

-- the word of a trace: its types, with its ends
abbrev pub word_of : List Event → List ℕ
word_of trace = with_ends (types_of trace)

-- the words of the traces, without their ends
abbrev pub inner_words : Assignment → List (List ℕ)
inner_words h = map types_of h

-- whether q is the first of the list
abbrev pub begins_with : ℕ → List ℕ → Bool
begins_with q [] = false
begins_with q (x ∷ xs) = x == q

-- the number of places in the list at which q directly follows p
abbrev pub pairs : ℕ → ℕ → List ℕ → ℕ
pairs p q [] = 0
pairs p q (x ∷ xs) = (if x == p && begins_with q xs then 1 else 0) + pairs p q xs

-- the number of places in all traces, with their ends, at which q directly follows p
abbrev pub edge_count : Assignment → ℕ → ℕ → ℕ
edge_count h p q = sum_by (λ trace. pairs p q (id_list trace)) h

-- the events, trace after trace
abbrev pub events : Assignment → List Event
events h = flat_map (λ trace. trace) h

-- how many events have the id
abbrev pub members : Assignment → ℕ → ℕ
members h p = count_by (λ e. e.id == p) (events h)

-- the number of events of an id; of the two ends, the number of traces
abbrev pub size : Assignment → ℕ → ℕ
size h p = if nat_lt p FIRST_TYPE then length h else members h p

-- the type of the first event of the id
abbrev pub first_type : ℕ → List Event → ℕ
first_type p [] = 0
first_type p (e ∷ es) = if e.id == p then e.typ else first_type p es

-- the type of an id; the two ends are their own types
abbrev pub type_of : Assignment → ℕ → ℕ
type_of h p = if nat_lt p FIRST_TYPE then p else first_type p (events h)

-- whether the id is that of an end or of some event
abbrev pub is_live : Assignment → ℕ → Bool
is_live h p = nat_lt p FIRST_TYPE || nat_lt 0 (members h p)

-- the graph of an assignment: the live ids, with an edge from p to q if q directly follows p somewhere
abbrev pub G : Assignment → Graph
G h =
    record {
      typ = λ p. type_of h p;
      edge = λ p q. nat_lt 0 (edge_count h p q);
      listed = λ p. is_live h p;
    }

-- each event has the property
abbrev pub AllEvents : (Event → Type 0) → Assignment → Type 0
AllEvents P h = AllByRecursion P (events h)

-- no event has the id of an end, and all events of one id have one type
abbrev pub IsTyped : Assignment → Type 0
IsTyped h = AllEvents (λ e. (FIRST_TYPE ≤ e.id) × (e.typ ≡ type_of h e.id)) h

-- the event with another id
abbrev pub renamed_event : (ℕ → ℕ) → Event → Event
renamed_event f e = record { typ = e.typ; id = f e.id }

-- each event in its place, with another id
abbrev pub renamed : (ℕ → ℕ) → Assignment → Assignment
renamed f h = map (λ trace. map (renamed_event f) trace) h

-- the first assignment: the id of each event is its type
abbrev pub by_type : List (List ℕ) → Assignment
by_type inner = map (λ w. map (λ t. record { typ = t; id = t }) w) inner
