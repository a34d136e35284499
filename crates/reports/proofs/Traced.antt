-- The paths of traces, one after the other.
use Rattle.std.proofs.Common.{◌≡◌, ℕ, zero, suc, ◌+◌, ◌<◌, List, [], ◌∷◌, length, take, drop, length-drop, add-one, fold, refl, sym, ap, ◌∙◌, arith, IfSome, slice_get}
use Rattle.std.proofs.lemmas.List.Sums.{sum_by-cons}
use Rattle.traces.specs.Words.{Trace, event_count_of}
use Rattle.reports.specs.Paths.{Taken, trace_path, paths_of, with_path}

-- of the traces from a place on, the path of the first is noted first
pub next-noted : (traces : List Trace) (t : ℕ) (events rest : List ℕ) (ts : List Taken) → t < length traces
    → IfSome (slice_get traces t) (λ (trace : Trace). events ≡ trace.events)
    → fold with_path ts (paths_of (drop t traces) rest)
    ≡ fold with_path (with_path ts (trace_path events (take (length events) rest))) (paths_of (drop (suc t) traces) (drop (length events) rest))
next-noted [] t events rest ts inside here = absurd (omega arith)
next-noted (x ∷ xs) zero events rest ts inside here =
    ap (λ (es : List ℕ). fold with_path (with_path ts (trace_path es (take (length es) rest))) (paths_of xs (drop (length es) rest))) (sym here)
next-noted (x ∷ xs) (suc t) events rest ts inside here = next-noted xs t events rest ts (omega arith) here

-- the events of the next trace are the first of those that are left
pub next-left : (traces : List Trace) (t : ℕ) (events : List ℕ) → t < length traces
    → IfSome (slice_get traces t) (λ (trace : Trace). events ≡ trace.events)
    → event_count_of (drop t traces) ≡ length events + event_count_of (drop (suc t) traces)
next-left [] t events inside here = absurd (omega arith)
next-left (x ∷ xs) zero events inside here =
    sum_by-cons (λ (trace : Trace). length trace.events) x xs ∙ ap (λ (es : List ℕ). length es + event_count_of xs) (sym here)
next-left (x ∷ xs) (suc t) events inside here = next-left xs t events (omega arith) here

-- where no trace is left, nothing more is noted
pub all-noted : (traces : List Trace) (t : ℕ) (rest : List ℕ) (ts : List Taken) → length traces ≡ t → fold with_path ts (paths_of (drop t traces) rest) ≡ ts
all-noted [] zero rest ts all = refl
all-noted [] (suc t) rest ts all = refl
all-noted (x ∷ xs) zero rest ts all = absurd (omega arith)
all-noted (x ∷ xs) (suc t) rest ts all = all-noted xs t rest ts (omega arith)

-- noting the next path leaves the same paths in the end
pub noted-step : (traces : List Trace) (t : ℕ) (events rest ids others : List ℕ) (ts us all : List Taken) → t < length traces
    → IfSome (slice_get traces t) (λ (trace : Trace). events ≡ trace.events)
    → ids ≡ take (length events) rest → others ≡ drop (length events) rest → us ≡ with_path ts (trace_path events ids)
    → fold with_path ts (paths_of (drop t traces) rest) ≡ all
    → fold with_path us (paths_of (drop (t + 1) traces) others) ≡ all
noted-step traces t events rest ids others ts us all inside here front back noted whole =
    rw (noted, front, back, add-one t) (sym (next-noted traces t events rest ts inside here) ∙ whole)

-- the ids that are left are as many as the events that are left
pub left-step : (traces : List Trace) (t : ℕ) (events rest others : List ℕ) → t < length traces
    → IfSome (slice_get traces t) (λ (trace : Trace). events ≡ trace.events)
    → others ≡ drop (length events) rest → length rest ≡ event_count_of (drop t traces)
    → length others ≡ event_count_of (drop (t + 1) traces)
left-step traces t events rest others inside here back left =
    let next : event_count_of (drop t traces) ≡ length events + event_count_of (drop (t + 1) traces) = next-left traces t events inside here ∙ ap (λ u. length events + event_count_of (drop u traces)) (sym (add-one t)) in
    ap length back ∙ omega (arith, length-drop (length events) rest)
