-- The events of traces have the numbers of types.
use Rattle.std.proofs.Common.{◌≡◌, ℕ, zero, suc, ◌<◌, ◌≤◌, List, [], ◌∷◌, ◌++◌, length, slice_get, Some, refl, sym, subst, ⊎_elim, arith, length-append}
use Rattle.std.proofs.lemmas.Bool.{cases_Bool, cond-true, cond-false}
use Rattle.std.proofs.lemmas.Option.{same_Some, none-some}
use Rattle.std.specs.List.{All, AllByRecursion, list_any}
use Rattle.std.specs.Str.{bytes_eq}
use Rattle.std.proofs.lemmas.List.Elements.{All-push}
use Rattle.limits.specs.declared.TheConstants.{MAX_TYPE_BYTES}
use Rattle.traces.specs.Kept.{IsTypeNumber, AreNumbered, AreShort, HaveBytes, HaveTimes, HaveEvents}
use Rattle.traces.specs.Words.{Trace, same_key, trace_with, with_event, with_new}
use Rattle.trace_keys.specs.Keys.{Key}

numbers-more : (n m : ℕ) (numbers : List ℕ) → n ≤ m → AllByRecursion (IsTypeNumber n) numbers → AllByRecursion (IsTypeNumber m) numbers
numbers-more n m [] more all = tt
numbers-more n m (x ∷ numbers) more all = ((all.0.0, omega (arith, all.0.1)), numbers-more n m numbers more all.1)

numbers-push : (n x : ℕ) (numbers : List ℕ) → IsTypeNumber n x → AllByRecursion (IsTypeNumber n) numbers → AllByRecursion (IsTypeNumber n) (numbers ++ x ∷ [])
numbers-push n x [] is all = (is, tt)
numbers-push n x (y ∷ numbers) is all = (all.0, numbers-push n x numbers is all.1)

numbered-more : (n m : ℕ) (traces : List Trace) → n ≤ m → AreNumbered n traces → AreNumbered m traces
numbered-more n m [] more all = tt
numbered-more n m (trace ∷ traces) more all = (numbers-more n m trace.events more all.0, numbered-more n m traces more all.1)

-- after one event more
pub numbered-with_event : (n m x time : ℕ) (traces : List Trace) (key : Key) → n ≤ m → IsTypeNumber m x → AreNumbered n traces → AreNumbered m (with_event traces key x time)
numbered-with_event n m x time [] key more is all = ((is, tt), tt)
numbered-with_event n m x time (trace ∷ traces) key more is all = ⊎_elim
    (λ same. subst (AreNumbered m) (sym (cond-true (same_key key trace.key) (trace_with trace x time ∷ traces) (trace ∷ with_event traces key x time) same))
    (numbers-push m x trace.events is (numbers-more n m trace.events more all.0), numbered-more n m traces more all.1))
    (λ differ. subst (AreNumbered m) (sym (cond-false (same_key key trace.key) (trace_with trace x time ∷ traces) (trace ∷ with_event traces key x time) differ))
    (numbers-more n m trace.events more all.0, numbered-with_event n m x time traces key more is all.1))
    (cases_Bool (same_key key trace.key))

-- a time for each event, after one event more
pub timed-with_event : (number time : ℕ) (traces : List Trace) (key : Key) → HaveTimes traces → HaveTimes (with_event traces key number time)
timed-with_event number time [] key all = (refl, tt)
timed-with_event number time (trace ∷ traces) key all = ⊎_elim
    (λ same. subst HaveTimes (sym (cond-true (same_key key trace.key) (trace_with trace number time ∷ traces) (trace ∷ with_event traces key number time) same))
    (omega (arith, all.0, length-append trace.times (time ∷ []), length-append trace.events (number ∷ [])), all.1))
    (λ differ. subst HaveTimes (sym (cond-false (same_key key trace.key) (trace_with trace number time ∷ traces) (trace ∷ with_event traces key number time) differ))
    (all.0, timed-with_event number time traces key all.1))
    (cases_Bool (same_key key trace.key))

-- an event in each trace, after one event more
pub begun-with_event : (number time : ℕ) (traces : List Trace) (key : Key) → HaveEvents traces → HaveEvents (with_event traces key number time)
begun-with_event number time [] key all = (omega arith, tt)
begun-with_event number time (trace ∷ traces) key all = ⊎_elim
    (λ same. subst HaveEvents (sym (cond-true (same_key key trace.key) (trace_with trace number time ∷ traces) (trace ∷ with_event traces key number time) same))
    (omega (arith, length-append trace.events (number ∷ [])), all.1))
    (λ differ. subst HaveEvents (sym (cond-false (same_key key trace.key) (trace_with trace number time ∷ traces) (trace ∷ with_event traces key number time) differ))
    (all.0, begun-with_event number time traces key all.1))
    (cases_Bool (same_key key trace.key))

each : {X : Type 0} (P : X → Type 0) (xs : List X) → AllByRecursion P xs → All P xs
each P [] all k d inside = absurd (omega arith)
each P (x ∷ xs) all zero d inside = all.0
each P (x ∷ xs) all (suc k) d inside = each P xs all.1 k d (omega arith)

-- of the trace at a place
pub numbers-at : (n : ℕ) (traces : List Trace) (t : ℕ) (trace : Trace) → AreNumbered n traces → slice_get traces t ≡ Some trace → All (IsTypeNumber n) trace.events
numbers-at n [] t trace all at = absurd (none-some trace at)
numbers-at n (first ∷ traces) zero trace all at = subst (λ (x : Trace). All (IsTypeNumber n) x.events) (same_Some first trace at) (each (IsTypeNumber n) first.events all.0)
numbers-at n (first ∷ traces) (suc t) trace all at = numbers-at n traces t trace all.1 at

-- the trace at a place has an event
pub begun-at : (traces : List Trace) (t : ℕ) (trace : Trace) → HaveEvents traces → slice_get traces t ≡ Some trace → 0 < length trace.events
begun-at [] t trace all at = absurd (none-some trace at)
begun-at (first ∷ traces) zero trace all at = subst (λ (x : Trace). 0 < length x.events) (same_Some first trace at) all.0
begun-at (first ∷ traces) (suc t) trace all at = begun-at traces t trace all.1 at

-- the texts of types after one more
texts-more : (P : List ℕ → Type 0) (types : List (List ℕ)) (typ : List ℕ) → All P types → P typ → All P (with_new bytes_eq types typ)
texts-more P types typ all one = ⊎_elim
    (λ known. subst (All P) (sym (cond-true _ _ _ known)) all)
    (λ new. subst (All P) (sym (cond-false _ _ _ new)) (All-push P types typ all one))
    (cases_Bool (list_any (bytes_eq typ) types))

-- so of having bytes
pub have-bytes : (types : List (List ℕ)) (typ : List ℕ) → HaveBytes types → 0 < length typ → HaveBytes (with_new bytes_eq types typ)
have-bytes types typ all one = texts-more (λ text. 0 < length text) types typ all one

-- so of the length
pub are-short : (types : List (List ℕ)) (typ : List ℕ) → AreShort types → length typ ≤ MAX_TYPE_BYTES → AreShort (with_new bytes_eq types typ)
are-short types typ all one = texts-more (λ text. length text ≤ MAX_TYPE_BYTES) types typ all one
