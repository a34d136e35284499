-- The places of traces, as columns have them.
use Rattle.std.proofs.Common.{◌≡◌, ℕ, suc, ◌+◌, List, [], ◌∷◌, map, Option, Some, IfSome, refl, sym, ap, ◌∙◌, subst}
use Rattle.std.specs.List.{position_or_len}
use Rattle.std.specs.Str.{bytes_eq}
use Rattle.limits.specs.declared.TheConstants.{FIRST_TYPE}
use Rattle.trace_keys.specs.Keys.{Key, same_key}
use Rattle.traces.specs.Columns.{at_place, columned, times_beside, traces_from}
use Rattle.traces.specs.Words.{Gathering, Trace}
use Rattle.trace_builder.specs.Placed.{placed_in, trace_place}
use Rattle.trace_builder.specs.declared.placing.Placed.{Placed}

keys-from : (events times : ℕ → List ℕ) (k : ℕ) (keys : List Key) → map (λ (trace : Trace). trace.key) (traces_from events times k keys) ≡ keys
keys-from events times k [] = refl
keys-from events times k (key ∷ keys) = ap (λ (ks : List Key). key ∷ ks) (keys-from events times (suc k) keys)

-- the place of a key is that of its trace
pub place-told : (keys : List Key) (ps ns ts : List ℕ) (traces : List Trace) (key : Key) (place : ℕ) → columned keys ps ns ts ≡ traces
    → place ≡ position_or_len (same_key key) keys → place ≡ trace_place traces key
place-told keys ps ns ts traces key place shown is =
    is
    ∙ (ap (position_or_len (same_key key)) (sym (keys-from (λ k. at_place k ps ns) (λ k. at_place k ps (times_beside ns ts)) 0 keys))
    ∙ ap (λ (all : List Trace). trace_place all key) shown)

abbrev placed : ℕ → ℕ → Placed
placed trace number = record { trace = trace; number = number }

-- an event is put where its two places say
pub placed-is : (gathering : Gathering) (key : Key) (typ : List ℕ) (trace place : ℕ) → trace ≡ trace_place gathering.traces key
    → place ≡ position_or_len (bytes_eq typ) gathering.types → placed trace (place + FIRST_TYPE) ≡ placed_in gathering key typ
placed-is gathering key typ trace place trace_is place_is =
    ap (λ t. placed t (place + FIRST_TYPE)) trace_is ∙ ap (λ n. placed (trace_place gathering.traces key) (n + FIRST_TYPE)) place_is

-- what holds if there is a place holds at this one
pub if-some : (P : Type 0) (found : Option Placed) (at : Placed) → found ≡ Some at → IfSome found (λ _. P) → P
if-some P found at is holds = subst (λ (found : Option Placed). IfSome found (λ _. P)) is holds
