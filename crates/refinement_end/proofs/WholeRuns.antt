-- Each state of refinement has a whole run.
use Rattle.std.proofs.Common.{◌≡◌, ℕ, zero, suc, ◌+◌, ◌-◌, ◌<◌, ◌≤◌, List, [], ◌∷◌, ◌++◌, length, sym, ◌∙◌, refl, ap, subst, inl, inr, arith, add-zero, length-append}
use Rattle.std.specs.List.{flat_map}
use Rattle.invariants.specs.declared.Invariant.{Invariant}
use Rattle.invariants.specs.declared.records.Split.{Split}
use Rattle.partition_model.specs.Assignments.{Event, Assignment, events, types_of, inner_words, by_type}
use Rattle.partition_model.specs.Refinement.{Splits, Refines, after_split}
use Rattle.partition_model.specs.Laws.{AreTyped, HoldAll, IsRun}
use Rattle.partition_model.proofs.Lists.{member-of}
use Rattle.partition_model.proofs.Counting.{places}
use Rattle.partition_model.proofs.Runs.{start-run, runs_keep, ids_within_rests}
use Rattle.partition_model.proofs.Unique.{one_refinement}
use Rattle.partition_model.proofs.Keeping.{refinement_keeps}
use Rattle.partition_bounds.proofs.FirstSplits.{steps_exclude}
use Rattle.refinement_end.specs.Laws.{HasNext, HasRun, RunsEnd, IsWholeRun, RefinementEnds, SplitsGoOn, EachNeedsMore, RunNeedsMore, StopsFull, RefusalsTell, StopsTell}
use Rattle.refinement_end.proofs.NextSplits.{satisfied_or_split, next_split_divides}

-- how many events the words have
abbrev event_total : List (List ℕ) → ℕ
event_total words = length (flat_map (λ (w : List ℕ). w) words)

-- a trace has as many types as events
types-long : (t : List Event) → length (types_of t) ≡ length t
types-long [] = refl
types-long (e ∷ es) = ap suc (types-long es)

-- an assignment has as many events as its words
events-long : (h : Assignment) → length (events h) ≡ event_total (inner_words h)
events-long [] = refl
events-long (t ∷ h) =
    omega (arith, events-long h, length-append t (events h), length-append (types_of t) (flat_map (λ (w : List ℕ). w) (inner_words h)), types-long t)

-- a state of refinement has no more ids than events, besides the two ends
run-few : (words : List (List ℕ)) (h : Assignment) (n : ℕ) → IsRun words h n → n ≤ length (events h) + 2
run-few words h n r =
    let m : n - 2 ≤ length (events h) = places (λ k e. e.id ≡ k + 2)
    (λ j k e p q. (let f : j + 2 ≡ k + 2 = sym p ∙ q in omega arith))
    (n - 2) (events h)
    (λ k b. member-of (k + 2) (events h) (r.each_live (k + 2) (omega arith) (omega arith))) in
    omega arith

-- and so no more than the words have
run-within : (words : List (List ℕ)) (h : Assignment) (n : ℕ) → IsRun words h n → n ≤ event_total words + 2
run-within words h n r =
    let a : n ≤ length (events h) + 2 = run-few words h n r in
    let b : length (events h) ≡ event_total (inner_words h) = events-long h in
    let c : event_total (inner_words h) ≡ event_total words = ap event_total r.words_are in
    omega arith

-- the next split leads to a state with one id more
next-state : (invs : List Invariant) (words : List (List ℕ)) (h : Assignment) (n : ℕ) (o : HasNext invs h) → IsRun words h n → 2 ≤ n → HoldAll words invs → IsRun words (after_split n o.0 h) (suc n)
next-state invs words h n o r l a =
    let e : n + 1 ≡ suc n = omega arith in
    subst (λ (m : ℕ). IsRun words (after_split n o.0 h) m) e (next_split_divides invs words h n o.0 r l a o.1).1

-- while fewer than so many ids are left, there is a whole run
run-from : (invs : List Invariant) (words : List (List ℕ)) (left : ℕ) (h : Assignment) (n : ℕ) → IsRun words h n → 2 ≤ n → HoldAll words invs → event_total words + 2 ≤ n + left → HasRun invs h n
run-from invs words zero h n r l a few =
    elim (satisfied_or_split invs h r.typed) [
      | inl s ↦ ([], h, (s, refl))
      | inr o ↦ absurd (let m : suc n ≤ event_total words + 2 = run-within words (after_split n o.0 h) (suc n) (next-state invs words h n o r l a) in omega arith)
    ]
run-from invs words (suc left) h n r l a few =
    elim (satisfied_or_split invs h r.typed) [
      | inl s ↦ ([], h, (s, refl))
      | inr o ↦
          let i : HasRun invs (after_split n o.0 h) (suc n) =
          run-from invs words left (after_split n o.0 h) (suc n) (next-state invs words h n o r l a) (omega arith) a (omega arith) in
          (o.0 ∷ i.0, i.1, (o.1, i.2))
    ]

-- each state of refinement has a whole run
pub runs_end : RunsEnd
runs_end invs words h n r l a = run-from invs words (event_total words + 2) h n r l a (omega arith)

-- a whole run is a run of splits
whole-splits : (invs : List Invariant) (ss : List Split) (h : Assignment) (n : ℕ) (end : Assignment) → Refines invs h n ss end → Splits invs h n ss end
whole-splits invs [] h n end w = w.1
whole-splits invs (s ∷ ss) h n end w = (w.0, whole-splits invs ss (after_split n s h) (suc n) end w.1)

-- first splits, and a whole run from where they lead, are a whole run
joined : (invs : List Invariant) (ss rest : List Split) (h mid end : Assignment) (n : ℕ) → Splits invs h n ss mid → Refines invs mid (n + length ss) rest end → Refines invs h n (ss ++ rest) end
joined invs [] rest h mid end n w v =
    subst (λ (k : Assignment). Refines invs k n rest end) w (subst (λ (m : ℕ). Refines invs mid m rest end) (add-zero n) v)
joined invs (s ∷ ss) rest h mid end n w v =
    let e : n + suc (length ss) ≡ suc n + length ss = omega arith in
    (w.0, joined invs ss rest (after_split n s h) mid end (suc n) w.1 (subst (λ (m : ℕ). Refines invs mid m rest end) e v))

-- a whole run of the words is the only one, has few ids, and its end keeps what refinement is for
whole-run : (invs : List Invariant) (words : List (List ℕ)) (n : ℕ) (ss : List Split) (end : Assignment) → AreTyped words n → HoldAll words invs → Refines invs (by_type words) n ss end → IsWholeRun invs words n ss end
whole-run invs words n ss end t a w =
    record {
      run = w;
      alone = λ others other v. one_refinement invs (by_type words) n ss others end other w v;
      few = run-few words end (n + length ss) (runs_keep invs words n ss end t a (whole-splits invs ss (by_type words) n end w));
      rests = λ names r. ids_within_rests invs words n ss end names t a (whole-splits invs ss (by_type words) n end w) r;
      keeps = refinement_keeps invs words n ss end t a w;
    }

-- the words of each log have a whole run
pub refinement_ends : RefinementEnds
refinement_ends invs words n t a =
    let o : HasRun invs (by_type words) n = runs_end invs words (by_type words) n (start-run words n t) t.two a in
    (o.0, o.1, whole-run invs words n o.0 o.1 t a o.2)

-- whatever splits were made, the whole run begins with them
pub splits_go_on : SplitsGoOn
splits_go_on invs words n ss mid t a w =
    let two : 2 ≤ n = t.two in
    let o : HasRun invs mid (n + length ss) = runs_end invs words mid (n + length ss) (runs_keep invs words n ss mid t a w) (omega arith) a in
    (o.0, o.1, whole-run invs words n (ss ++ o.0) o.1 t a (joined invs ss o.0 (by_type words) mid o.1 n w o.2))

-- the first splits of a run, with a next one
abbrev HasFirsts : List Invariant → Assignment → ℕ → ℕ → Type 0
HasFirsts invs h n m = (ss : List Split) × (mid : Assignment) × Splits invs h n ss mid × (length ss ≡ m) × HasNext invs mid

-- a run with more than m splits has m first ones
firsts : (invs : List Invariant) (m : ℕ) (ss : List Split) (h : Assignment) (n : ℕ) (end : Assignment) → Refines invs h n ss end → m < length ss → HasFirsts invs h n m
firsts invs m [] h n end w l = absurd (omega arith)
firsts invs zero (s ∷ ss) h n end w l = ([], h, refl, refl, (s, w.0))
firsts invs (suc m) (s ∷ ss) h n end w l =
    let o : HasFirsts invs (after_split n s h) (suc n) m = firsts invs m ss (after_split n s h) (suc n) end w.1 (omega arith) in
    (s ∷ o.0, o.1, (w.0, o.2), ap suc o.3, o.4)

-- what each whole run needs, the one that there is needs
each-one : (limit : ℕ) (invs : List Invariant) (words : List (List ℕ)) (n : ℕ) → AreTyped words n → HoldAll words invs → EachNeedsMore limit invs words n → RunNeedsMore limit invs words n
each-one limit invs words n t a f =
    let o : (ss : List Split) × (end : Assignment) × IsWholeRun invs words n ss end = refinement_ends invs words n t a in
    (o.0, o.1, o.2, f o.0 o.1 o.2.run)

-- and what it needs, each needs, since there is no other
one-each : (limit : ℕ) (invs : List Invariant) (words : List (List ℕ)) (n : ℕ) → RunNeedsMore limit invs words n → EachNeedsMore limit invs words n
one-each limit invs words n o ss end w =
    let e : length o.0 ≡ length ss = ap length (o.2.alone ss end w).0 in
    let l : limit < n + length o.0 = o.3 in
    omega arith

-- a run that stops with all ids used goes on, and needs more
stops-one : (limit : ℕ) (invs : List Invariant) (words : List (List ℕ)) (n : ℕ) → AreTyped words n → HoldAll words invs → StopsFull limit invs words n → RunNeedsMore limit invs words n
stops-one limit invs words n t a o =
    let r : (ss : List Split) × (end : Assignment) × IsWholeRun invs words n ss end = refinement_ends invs words n t a in
    let l : length o.0 < length r.0 = steps_exclude invs (by_type words) o.1 r.1 n o.0 r.0 o.4.0 o.2 o.4.1 r.2.run in
    let e : n + length o.0 ≡ limit = o.3 in
    (r.0, r.1, r.2, omega arith)

-- a run that needs more stops with all ids used
one-stops : (limit : ℕ) (invs : List Invariant) (words : List (List ℕ)) (n : ℕ) → n ≤ limit → RunNeedsMore limit invs words n → StopsFull limit invs words n
one-stops limit invs words n k o =
    let l : limit < n + length o.0 = o.3 in
    let f : HasFirsts invs (by_type words) n (limit - n) = firsts invs (limit - n) o.0 (by_type words) n o.1 o.2.run (omega arith) in
    let e : length f.0 ≡ limit - n = f.3 in
    (f.0, f.1, f.2, omega arith, f.4)

-- that each whole run needs more ids says that there is one and that it does
pub refusals_tell : RefusalsTell
refusals_tell limit invs words n t a = (each-one limit invs words n t a, one-each limit invs words n)

-- so does that the run stops at the limit
pub stops_tell : StopsTell
stops_tell limit invs words n t a k = (stops-one limit invs words n t a, one-stops limit invs words n k)
