-- What traces that are laid one behind another show.
use Rattle.std.proofs.Common.{◌≡◌, ℕ, zero, suc, ◌+◌, ◌-◌, ◌<◌, ◌≤◌, List, [], ◌∷◌, length, get_or, take, drop, slice_get, slice_index, Some, IfSome, sym, ap, ◌∙◌, subst, arith}
use Rattle.std.specs.List.{All}
use Rattle.traces.specs.Columns.{times_beside, part_at, traces_from, laid, AreBeside, AreStarts, Suffice}
use Rattle.traces.specs.Kept.{IsTypeNumber, IsKept}
use Rattle.traces.specs.Words.{Trace, Log}
use Rattle.trace_keys.specs.Keys.{Key}
use Rattle.std.proofs.lemmas.List.{length-take-le, length-drop, take-map, drop-map}
use Rattle.traces.proofs.Columned.{length-traces_from}
use Rattle.traces.proofs.Numbered.{numbers-at, begun-at}
use Rattle.traces.proofs.TracesInTime.{times-kept}
use Rattle.traces.proofs.Zeros.{take-zeros}

traces-at : (e s : ℕ → List ℕ) (i t : ℕ) (keys : List Key) (d : Key) → t < length keys → slice_get (traces_from e s i keys) t ≡ Some (record { key = get_or keys t d; events = e (i + t); times = s (i + t) })
traces-at e s i t [] d inside = absurd (omega arith)
traces-at e s i zero (key ∷ keys) d inside = ap (λ n. Some (record { key = key; events = e n; times = s n })) (omega arith)
traces-at e s i (suc t) (key ∷ keys) d inside =
    traces-at e s (suc i) t keys d (omega arith) ∙ ap (λ n. Some (record { key = get_or keys t d; events = e n; times = s n })) (omega arith)

-- the log that types and parts show
abbrev pub log_from : List (List ℕ) → List Key → List ℕ → List ℕ → List ℕ → Log
log_from types keys starts numbers times = record { types = types; traces = laid keys starts numbers times }

-- the trace of a part
abbrev pub trace_laid : Key → List ℕ → List ℕ → List ℕ → ℕ → Trace
trace_laid key starts numbers times t = record { key = key; events = part_at starts t numbers; times = part_at starts t (times_beside numbers times) }

-- as many traces as keys
pub length-laid : (keys : List Key) (starts numbers times : List ℕ) → length (laid keys starts numbers times) ≡ length keys
length-laid keys starts numbers times = length-traces_from (λ k. part_at starts k numbers) (λ k. part_at starts k (times_beside numbers times)) 0 keys

-- as many traces are shown as there are keys
pub count-shown : (log : Log) (types : List (List ℕ)) (keys : List Key) (starts numbers times : List ℕ) → log_from types keys starts numbers times ≡ log → length keys ≡ length log.traces
count-shown log types keys starts numbers times view = sym (length-laid keys starts numbers times) ∙ ap (λ (l : Log). length l.traces) view

-- the trace at a place

-- it is that of the part
pub laid-at : (keys : List Key) (starts numbers times : List ℕ) (t : ℕ) (d : Key) → t < length keys → slice_get (laid keys starts numbers times) t ≡ Some (trace_laid (get_or keys t d) starts numbers times t)
laid-at keys starts numbers times t d inside =
    traces-at (λ k. part_at starts k numbers) (λ k. part_at starts k (times_beside numbers times)) 0 t keys d inside ∙ ap (λ n. Some (trace_laid (get_or keys t d) starts numbers times n)) (omega arith)

-- it is the one that is shown
pub trace-shown : (log : Log) (types : List (List ℕ)) (keys : List Key) (starts numbers times : List ℕ) (t : ℕ) (d : Key) → log_from types keys starts numbers times ≡ log → t < length log.traces
    → slice_get log.traces t ≡ Some (trace_laid (get_or keys t d) starts numbers times t)
trace-shown log types keys starts numbers times t d view inside =
    ap (λ (l : Log). slice_get l.traces t) (sym view) ∙ laid-at keys starts numbers times t d (omega (arith, inside, count-shown log types keys starts numbers times view))

-- so what holds of it holds of the one that is shown
pub shown : (P : Trace → Type 0) (log : Log) (types : List (List ℕ)) (keys : List Key) (starts numbers times : List ℕ) (t : ℕ) (d : Key) → log_from types keys starts numbers times ≡ log → t < length log.traces
    → P (trace_laid (get_or keys t d) starts numbers times t) → IfSome (slice_get log.traces t) P
shown P log types keys starts numbers times t d view inside holds = subst (λ found. IfSome found P) (sym (trace-shown log types keys starts numbers times t d view inside)) holds

-- how much a part has

-- from one place up to another
pub length-part : {X : Type 0} (from to : ℕ) (xs : List X) → from ≤ to → to ≤ length xs → length (take (to - from) (drop from xs)) ≡ to - from
length-part from to xs rise within = length-take-le (to - from) (drop from xs) (omega (arith, length-drop from xs))

-- from a start up to the next
pub part-long : {X : Type 0} (starts : List ℕ) (parts t : ℕ) (xs : List X) → AreStarts parts (length xs) starts → t < parts → length (part_at starts t xs) ≡ slice_index starts (suc t) - slice_index starts t
part-long starts parts t xs are inside = length-part (slice_index starts t) (slice_index starts (suc t)) xs (are.rise t inside) (are.within (suc t) inside)

-- a time for each event of a part
pub times-each : (starts numbers times : List ℕ) (parts t : ℕ) → AreStarts parts (length numbers) starts → AreBeside numbers times → t < parts
    → length (part_at starts t (times_beside numbers times)) ≡ length (part_at starts t numbers)
times-each starts numbers times parts t are beside inside =
    part-long starts parts t (times_beside numbers times) (subst (λ n. AreStarts parts n starts) (sym beside) are) inside ∙ sym (part-long starts parts t numbers are inside)

-- zeros serve as the times of a part, where none are kept
pub zeros-serve : (zeros starts numbers times : List ℕ) (parts t : ℕ) → AreStarts parts (length numbers) starts → Suffice zeros parts starts times → times ≡ [] → t < parts
    → take (slice_index starts (suc t) - slice_index starts t) zeros ≡ part_at starts t (times_beside numbers times)
zeros-serve zeros starts numbers times parts t are suffice none inside =
    let from = slice_index starts t in
    let count = slice_index starts (suc t) - from in
    let zero : ℕ → ℕ = λ _. 0 in
    let events = part_at starts t numbers in
    let long : length events ≡ count = part-long starts parts t numbers are inside in
    let enough = suffice.enough none t inside in
    ap (λ n. take n zeros) (sym long)
    ∙ (ap (take (length events)) suffice.zero
    ∙ (take-zeros (length zeros) events (omega (arith, long, enough))
    ∙ (sym (take-map zero count (drop from numbers))
    ∙ (ap (take count) (sym (drop-map zero from numbers))
    ∙ ap (λ ts. part_at starts t (times_beside numbers ts)) (sym none)))))

-- times that are kept
pub times-serve : (starts numbers times : List ℕ) (t : ℕ) → 0 < length times → part_at starts t times ≡ part_at starts t (times_beside numbers times)
times-serve starts numbers times t some = ap (part_at starts t) (sym (times-kept numbers times some))

-- one time for each event, where times are kept
pub beside-kept : (numbers times : List ℕ) → 0 < length times → AreBeside numbers times → length times ≡ length numbers
beside-kept numbers times some beside = sym (ap length (times-kept numbers times some)) ∙ beside

-- what is known of the events of a part

-- each has the number of a type
pub part-numbered : (types : ℕ) (events : ℕ) (keys : List Key) (starts numbers times : List ℕ) (t : ℕ) (d : Key) → IsKept types (laid keys starts numbers times) events → t < length keys
    → All (IsTypeNumber types) (part_at starts t numbers)
part-numbered types events keys starts numbers times t d kept inside =
    numbers-at types (laid keys starts numbers times) t (trace_laid (get_or keys t d) starts numbers times t) kept.numbered (laid-at keys starts numbers times t d inside)

-- there is one
pub part-begun : (types : ℕ) (events : ℕ) (keys : List Key) (starts numbers times : List ℕ) (t : ℕ) (d : Key) → IsKept types (laid keys starts numbers times) events → t < length keys
    → 0 < length (part_at starts t numbers)
part-begun types events keys starts numbers times t d kept inside =
    begun-at (laid keys starts numbers times) t (trace_laid (get_or keys t d) starts numbers times t) kept.begun (laid-at keys starts numbers times t d inside)

-- what a slice from where a part starts to where it ends is
pub part-is : (starts xs : List ℕ) (t : ℕ) (bounds : ℕ × ℕ) (now part : List ℕ) → bounds ≡ (slice_index starts t, slice_index starts (suc t)) → now ≡ xs → part ≡ take (bounds.1 - bounds.0) (drop bounds.0 now)
    → part ≡ part_at starts t xs
part-is starts xs t bounds now part at same is = is ∙ (ap (λ (ys : List ℕ). take (bounds.1 - bounds.0) (drop bounds.0 ys)) same ∙ ap (λ (b : ℕ × ℕ). take (b.1 - b.0) (drop b.0 xs)) at)

-- and one of as many zeros
pub front-is : (starts zeros : List ℕ) (t : ℕ) (bounds : ℕ × ℕ) (now part : List ℕ) → bounds ≡ (slice_index starts t, slice_index starts (suc t)) → now ≡ zeros → part ≡ take (bounds.1 - bounds.0 - 0) (drop 0 now)
    → part ≡ take (slice_index starts (suc t) - slice_index starts t) zeros
front-is starts zeros t bounds now part at same is =
    let none : bounds.1 - bounds.0 - 0 ≡ bounds.1 - bounds.0 = omega arith in
    is ∙ (ap (λ n. take n (drop 0 now)) none ∙ (ap (λ (ys : List ℕ). take (bounds.1 - bounds.0) ys) same ∙ ap (λ (b : ℕ × ℕ). take (b.1 - b.0) zeros) at))

-- a key to read places by
pub no-key : Key
no-key = record { file = 0; section = 0; text = [] }
