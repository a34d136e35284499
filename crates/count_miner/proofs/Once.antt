-- Each word counted once.
use Rattle.std.proofs.Common.{◌≡◌, ◌≢◌, ℕ, zero, suc, ◌+◌, ◌<◌, ◌≤◌, Bool, true, false, ◌&&◌, List, [], ◌∷◌, ◌++◌, map, length, take, get_or, drop, cond, eqb, refl, sym, ap, subst, ◌∙◌, ⊎_elim, arith, Some, length-append, length-take}
use Rattle.std.proofs.lemmas.Bool.{cases_eq, ne_eqb}
use Rattle.std.proofs.lemmas.Bool.Decides.{Decides-eqb}
use Rattle.std.proofs.lemmas.List.{get_or-take, map-append, take-append-drop, take-map}
use Rattle.std.proofs.lemmas.List.Folds.{list_all-append}
use Rattle.std.proofs.lemmas.List.{length-map}
use Rattle.std.proofs.lemmas.Option.{get_or_from_slice_get}
use Rattle.std.specs.List.{list_all, slice_get}
use Rattle.std.specs.Option.{IfSome}
use Rattle.invariants.specs.declared.Invariant.{Invariant}
use Rattle.invariants.specs.Holds.{holds}
use Rattle.invariants.specs.Mined.{holds_of_all}
use Rattle.traces.specs.Words.{Trace, word_of}
use Rattle.count_miner.specs.Counts.{inner_words, total_length, AreCounts}
use Rattle.count_miner.specs.Distinct.{NoneHolds, NumberWords, Suffice}
use Rattle.count_miner.specs.declared.counts.Counts.{Counts}
use Rattle.count_miner.proofs.Lengths.{events-at, events-more}
use Rattle.count_miner.proofs.Sums.{all-traces, sum-more}

-- an invariant holds of all words exactly where it holds of those that tell the same
pub same-all : (some all : List Trace) → ((test : List ℕ → Bool) → list_all test (inner_words some) ≡ list_all test (inner_words all)) → (inv : Invariant)
    → holds_of_all (map word_of some) inv ≡ holds_of_all (map word_of all) inv
same-all some all same inv =
    let test : List ℕ → Bool = λ w. holds inv (0 ∷ w ++ 1 ∷ []) in
    sym (all-traces test (holds inv) (λ w. refl) some) ∙ (same test ∙ all-traces test (holds inv) (λ w. refl) all)

-- the traces before t are told by counts, and each number below next is that of one of them
pub record Once (counts : Counts) (traces : List Trace) (numbers : List ℕ) (t next : ℕ) : Type 0 where
  pub some : List Trace
  pub counted : AreCounts counts (inner_words some)
  pub same : (test : List ℕ → Bool) → list_all test (inner_words some) ≡ list_all test (inner_words (take t traces))
  pub few : length some ≤ t
  pub short : total_length (inner_words some) ≤ total_length (inner_words (take t traces))
  pub low : next ≤ t
  pub met : (k : ℕ) → k < next → (s : ℕ) × (s < t) × (get_or numbers s 0 ≡ k)

-- before the first trace
pub once-begin : (counts : Counts) (traces : List Trace) (numbers : List ℕ) → AreCounts counts [] → Once counts traces numbers 0 0
once-begin counts traces numbers none = record {
  some = [];
  counted = none;
  same = λ test. refl;
  few = omega arith;
  short = omega arith;
  low = omega arith;
  met = λ k below. absurd (omega (arith, below));
}

-- the trace at a place
trace-at : (traces : List Trace) (t : ℕ) → t < length traces → (trace : Trace) × (slice_get traces t ≡ Some trace)
trace-at [] t inside = absurd (omega arith)
trace-at (trace ∷ traces) zero inside = (trace, refl)
trace-at (trace ∷ traces) (suc t) inside = trace-at traces t (omega (arith, inside))

-- its events
events-are : (traces : List Trace) (t : ℕ) (trace : Trace) (events : List ℕ) → slice_get traces t ≡ Some trace → IfSome (slice_get traces t) (λ trace. events ≡ trace.events) → events ≡ trace.events
events-are traces t trace events at is = subst (λ o. IfSome o (λ trace. events ≡ trace.events)) at is

-- one word more
more-all : (test : List ℕ → Bool) (traces : List Trace) (t : ℕ) (events : List ℕ) → t < length traces → IfSome (slice_get traces t) (λ trace. events ≡ trace.events)
    → list_all test (inner_words (take (t + 1) traces)) ≡ (list_all test (inner_words (take t traces)) && list_all test (events ∷ []))
more-all test traces t events inside at = ap (list_all test) (events-more traces t events inside at) ∙ list_all-append test (inner_words (take t traces)) (events ∷ [])

-- a number that was met, and the one that is met now
met-more : (numbers : List ℕ) (t next number k : ℕ) → get_or numbers t 0 ≡ number → ((k : ℕ) → k < next → (s : ℕ) × (s < t) × (get_or numbers s 0 ≡ k)) → k < next + cond (eqb number next) 1 0
    → (s : ℕ) × (s < t + 1) × (get_or numbers s 0 ≡ k)
met-more numbers t next number k here met below =
    let one : Bool → ℕ = λ b. cond b 1 0 in
    let before : k < next → (s : ℕ) × (s < t + 1) × (get_or numbers s 0 ≡ k) = λ low. let m = met k low in (m.0, omega (arith, m.1), m.2) in
    ⊎_elim
    (λ (hit : number ≡ next). ⊎_elim
    (λ (this : k ≡ next). (t, omega arith, here ∙ (hit ∙ sym this)))
    (λ (other : k ≢ next). before (omega (arith, other, below, ap one ((Decides-eqb number next).1 hit))))
    (cases_eq k next))
    (λ (miss : number ≢ next). before (omega (arith, below, ap one (ne_eqb number next miss))))
    (cases_eq number next)

-- a flag is at most 1
flag-le : (t : Bool) → cond t 1 0 ≤ 1
flag-le true = omega arith
flag-le false = omega arith

-- a trace that is counted
pub once-counted : (old new : Counts) (traces : List Trace) (numbers : List ℕ) (t next number : ℕ) (events : List ℕ) → t < length traces → IfSome (slice_get traces t) (λ trace. events ≡ trace.events)
    → get_or numbers t 0 ≡ number → ((words : List (List ℕ)) → AreCounts old words → AreCounts new (words ++ events ∷ [])) → Once old traces numbers t next
    → Once new traces numbers (t + 1) (next + cond (eqb number next) 1 0)
once-counted old new traces numbers t next number events inside at here adds o =
    let found = trace-at traces t inside in
    let grown : inner_words (o.some ++ found.0 ∷ []) ≡ inner_words o.some ++ events ∷ [] =
    map-append (λ (trace : Trace). trace.events) o.some (found.0 ∷ []) ∙ ap (λ (es : List ℕ). inner_words o.some ++ es ∷ []) (sym (events-are traces t found.0 events found.1 at)) in
    record {
      some = o.some ++ found.0 ∷ [];
      counted = subst (AreCounts new) (sym grown) (adds (inner_words o.some) o.counted);
      same = λ test.
          ap (list_all test) grown
          ∙ (list_all-append test (inner_words o.some) (events ∷ []) ∙ (ap (λ b. b && list_all test (events ∷ [])) (o.same test) ∙ sym (more-all test traces t events inside at)));
      few = omega (arith, length-append o.some (found.0 ∷ []), o.few);
      short = omega (
        arith,
        ap total_length grown,
        sum-more (λ (w : List ℕ). length w) (inner_words o.some) events,
        ap total_length (events-more traces t events inside at),
        sum-more (λ (w : List ℕ). length w) (inner_words (take t traces)) events,
        o.short,
      );
      low = omega (arith, o.low, flag-le (eqb number next));
      met = λ k below. met-more numbers t next number k here o.met below;
    }

-- what is true of all is true of one of them
one-of-all : (test : List ℕ → Bool) (words : List (List ℕ)) (s : ℕ) → s < length words → (list_all test words && list_all test (get_or words s [] ∷ [])) ≡ list_all test words
one-of-all test [] s inside = absurd (omega arith)
one-of-all test (w ∷ words) zero inside = twice (test w) (list_all test words)
  where
    twice : (p q : Bool) → ((p && q) && (p && true)) ≡ (p && q)
    twice true true = refl
    twice true false = refl
    twice false q = refl
one-of-all test (w ∷ words) (suc s) inside = behind (test w) (list_all test words) (list_all test (get_or words s [] ∷ [])) (one-of-all test words s (omega (arith, inside)))
  where
    behind : (p q r : Bool) → (q && r) ≡ q → ((p && q) && r) ≡ (p && q)
    behind true q r e = e
    behind false q r e = refl

-- a trace that is passed over
pub once-passed : (counts : Counts) (traces : List Trace) (numbers : List ℕ) (t next : ℕ) → t < length traces → get_or numbers t 0 < next → NumberWords numbers traces
    → Once counts traces numbers t next → Once counts traces numbers (t + 1) next
once-passed counts traces numbers t next inside below words o =
    let number : ℕ = get_or numbers t 0 in
    let found = trace-at traces t inside in
    let events : List ℕ = found.0.events in
    let at : IfSome (slice_get traces t) (λ trace. events ≡ trace.events) = subst (λ o. IfSome o (λ trace. events ≡ trace.events)) (sym found.1) refl in
    let earlier = o.met number below in
    let s : ℕ = earlier.0 in
    let first : get_or (inner_words (take t traces)) s [] ≡ get_or (inner_words traces) s [] =
    ap (λ (ws : List (List ℕ)). get_or ws s []) (sym (take-map (λ (trace : Trace). trace.events) t traces)) ∙ get_or-take t (inner_words traces) s [] earlier.1 in
    let own : get_or (inner_words traces) t [] ≡ events = get_or_from_slice_get (inner_words traces) t events [] (events-at traces t events inside at) in
    let is : get_or (inner_words (take t traces)) s [] ≡ events = first ∙ (words s t (omega (arith, earlier.1, inside)) inside earlier.2 ∙ own) in
    let long : s < length (inner_words (take t traces)) = omega (arith, length-map (take t traces) (λ (trace : Trace). trace.events), length-take t traces, earlier.1, inside) in
    record {
      some = o.some;
      counted = o.counted;
      same = λ test.
          o.same test
          ∙ (sym (one-of-all test (inner_words (take t traces)) s long)
          ∙ (ap (λ (w : List ℕ). list_all test (inner_words (take t traces)) && list_all test (w ∷ [])) is ∙ sym (more-all test traces t events inside at)));
      few = omega (arith, o.few);
      short = omega (
        arith,
        ap total_length (events-more traces t events inside at),
        sum-more (λ (w : List ℕ). length w) (inner_words (take t traces)) events,
        o.short,
      );
      low = omega (arith, o.low);
      met = λ k low. let m = o.met k low in (m.0, omega (arith, m.1), m.2);
    }

-- after the last trace
pub once-end : (counts : Counts) (traces : List Trace) (numbers : List ℕ) (t next : ℕ) → take t traces ≡ traces → Once counts traces numbers t next → Suffice counts traces
once-end counts traces numbers t next all o = record {
  some = o.some;
  counted = o.counted;
  same = λ k inv at. same-all o.some traces (λ test. o.same test ∙ ap (λ (ts : List Trace). list_all test (inner_words ts)) all) inv;
}

-- what some of the first traces break is broken
broken-early : (test : List ℕ → Bool) (words : List (List ℕ)) (t : ℕ) → list_all test (take t words) ≡ false → list_all test words ≡ false
broken-early test words t broken =
    ap (list_all test) (sym (take-append-drop t words)) ∙ (list_all-append test (take t words) (drop t words) ∙ ap (λ b. b && list_all test (drop t words)) broken)

-- where the first traces break all candidates
pub once-broken : (counts : Counts) (traces : List Trace) (numbers : List ℕ) (t next : ℕ) → Once counts traces numbers t next → NoneHolds counts → Suffice counts traces
once-broken counts traces numbers t next o none = record {
  some = o.some;
  counted = o.counted;
  same = λ k inv at.
      let broken : holds_of_all (map word_of o.some) inv ≡ false = none o.some o.counted k inv at in
      let early : holds_of_all (take t (map word_of traces)) inv ≡ false =
      ap (λ (ws : List (List ℕ)). holds_of_all ws inv) (take-map word_of t traces) ∙ (sym (same-all o.some (take t traces) o.same inv) ∙ broken) in
      broken ∙ sym (broken-early (holds inv) (map word_of traces) t early);
}
