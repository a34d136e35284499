-- One trace more.
use Rattle.std.proofs.Common.{◌≡◌, ℕ, zero, suc, ◌+◌, ◌<◌, ◌≤◌, Bool, true, false, not, ◌&&◌, List, [], ◌∷◌, ◌++◌, All, map, length, take, replicate, Some, nat_lt, sym, ap, ◌∙◌, arith}
use Rattle.std.proofs.lemmas.List.{take-map}
use Rattle.std.proofs.lemmas.List.Sums.{sum_by-cons}
use Rattle.std.proofs.lemmas.Bool.{lt-ltb}
use Rattle.std.specs.List.{slice_get}
use Rattle.std.specs.Option.{IfSome}
use Rattle.invariants.specs.declared.Kind.TheVariants.{AF, NF, AP, IB}
use Rattle.invariants.specs.declared.Kinds.TheVariants.{Four}
use Rattle.invariants.specs.Candidates.{invariant}
use Rattle.invariants.specs.Holds.{occurs, always_followed, never_followed, always_preceded, interrupted}
use Rattle.traces.specs.Kept.{IsTypeNumber}
use Rattle.traces.specs.Words.{Trace, event_count_of, word_of}
use Rattle.closure_miner.specs.declared.standing.Standing.{Standing}
use Rattle.closure_miner.specs.Rows.{in_row}
use Rattle.closure_miner.specs.Sets.{has_at}
use Rattle.closure_miner.specs.Standing.{word_with, Stands}
use Rattle.closure_miner.proofs.Rows.{at-same}
use Rattle.closure_miner.proofs.Events.{followed-word, never-word, preceded-word, between-word, first-word, one-more}
use Rattle.invariants.proofs.Fronts.{take-snoc}

-- the word at the place of a trace has the events of this trace between the two ends
word-at : (traces : List Trace) (t : ℕ) (events : List ℕ) → t < length traces → IfSome (slice_get traces t) (λ trace. events ≡ trace.events) → slice_get (map word_of traces) t ≡ Some (word_with events)
word-at [] t events inside at = absurd (omega arith)
word-at (trace ∷ traces) zero events inside at = ap (λ (es : List ℕ). Some (word_with es)) (sym at)
word-at (trace ∷ traces) (suc t) events inside at = word-at traces t events (omega arith) at

-- the words up to a trace, and that of it
pub words-more : (traces : List Trace) (t : ℕ) (events : List ℕ) → t < length traces → IfSome (slice_get traces t) (λ trace. events ≡ trace.events)
    → map word_of (take (t + 1) traces) ≡ map word_of (take t traces) ++ word_with events ∷ []
words-more traces t events inside at =
    sym (take-map word_of (t + 1) traces) ∙ (take-snoc (map word_of traces) t (word_with events) (word-at traces t events inside at) ∙ ap (λ ws. ws ++ word_with events ∷ []) (take-map word_of t traces))

-- no trace has more events than all of them
pub events-le : (traces : List Trace) (t : ℕ) (events : List ℕ) → t < length traces → IfSome (slice_get traces t) (λ trace. events ≡ trace.events) → length events ≤ event_count_of traces
events-le [] t events inside at = absurd (omega arith)
events-le (trace ∷ traces) zero events inside at = omega (arith, sum_by-cons (λ (x : Trace). length x.events) trace traces, ap (λ (xs : List ℕ). length xs) at)
events-le (trace ∷ traces) (suc t) events inside at = omega (arith, sum_by-cons (λ (x : Trace). length x.events) trace traces, events-le traces t events (omega arith) at)

-- before any trace all candidates stand
pub stands-first : {S : Type 0} (has : S → ℕ → Bool) (new : Standing S) (all none : S) → ((p : ℕ) → has all p ≡ nat_lt p new.types) → ((p : ℕ) → has none p ≡ false)
    → new.followed.items ≡ replicate new.types all → new.met.items ≡ replicate new.types none → new.preceded.items ≡ replicate new.types all → new.everywhere ≡ all
    → (new.kinds ≡ Four → (a b : ℕ) → a < new.types → b < new.types → has_at in_row new.between.rows.items a b ≡ true) → Stands has new []
stands-first has new all none every lacks followed met preceded everywhere between =
    let each : (b : ℕ) → b < new.types → has all b ≡ true = λ b in_b. every b ∙ lt-ltb b new.types in_b in
    record {
      followed = λ a b in_a in_b. ap (λ t. has_at has t a b) followed ∙ at-same has new.types all a b in_a ∙ each b in_b;
      never = λ a b in_a in_b. ap (λ t. not (has_at has t a b)) met ∙ ap not (at-same has new.types none a b in_a ∙ lacks b);
      preceded = λ a b in_a in_b. ap (λ t. has_at has t b a) preceded ∙ at-same has new.types all b a in_b ∙ each a in_a;
      everywhere = λ b in_b. ap (λ s. has s b) everywhere ∙ each b in_b;
      between = between;
    }

-- what a trace leaves standing, read from its end and from its start
pub stands-more : {S : Type 0} (has : S → ℕ → Bool) (old new : Standing S) (words : List (List ℕ)) (events : List ℕ) → All (IsTypeNumber old.types) events → new.types ≡ old.types → new.kinds ≡ old.kinds
    → ((b : ℕ) → b < old.types → has new.everywhere b ≡ (has old.everywhere b && occurs (b + 2) events))
    → ((a b : ℕ) → a < old.types → b < old.types → has_at has new.followed.items a b ≡ (has_at has old.followed.items a b && always_followed (a + 2) (b + 2) events))
    → ((a b : ℕ) → a < old.types → b < old.types → not (has_at has new.met.items a b) ≡ (not (has_at has old.met.items a b) && never_followed (a + 2) (b + 2) events))
    → ((a b : ℕ) → a < old.types → b < old.types → has_at has new.preceded.items b a ≡ (has_at has old.preceded.items b a && always_preceded (a + 2) (b + 2) events))
    → (new.kinds ≡ Four → (a b : ℕ) → a < old.types → b < old.types → has_at in_row new.between.rows.items a b ≡ (has_at in_row old.between.rows.items a b && interrupted (a + 2) (b + 2) events))
    → Stands has old words → Stands has new (words ++ word_with events ∷ [])
stands-more has old new words events numbers same kinds everywhere followed never preceded between st =
    let word : List ℕ = word_with events in
    let was : (a : ℕ) → a < new.types → a < old.types = λ a h. omega (arith, same) in
    record {
      followed = λ a b in_a in_b.
          one-more (invariant AF (a + 2) (b + 2)) words word (has_at has old.followed.items a b) (always_followed (a + 2) (b + 2) events) (has_at has new.followed.items a b)
          (followed a b (was a in_a) (was b in_b)) (st.followed a b (was a in_a) (was b in_b)) (followed-word a b events);
      never = λ a b in_a in_b.
          one-more (invariant NF (a + 2) (b + 2)) words word (not (has_at has old.met.items a b)) (never_followed (a + 2) (b + 2) events) (not (has_at has new.met.items a b))
          (never a b (was a in_a) (was b in_b)) (st.never a b (was a in_a) (was b in_b)) (never-word a b events);
      preceded = λ a b in_a in_b.
          one-more (invariant AP (a + 2) (b + 2)) words word (has_at has old.preceded.items b a) (always_preceded (a + 2) (b + 2) events) (has_at has new.preceded.items b a)
          (preceded a b (was a in_a) (was b in_b)) (st.preceded a b (was a in_a) (was b in_b)) (preceded-word a b events);
      everywhere = λ b in_b.
          one-more (invariant AF 0 (b + 2)) words word (has old.everywhere b) (occurs (b + 2) events) (has new.everywhere b)
          (everywhere b (was b in_b)) (st.everywhere b (was b in_b)) (first-word old.types b events numbers);
      between = λ four a b in_a in_b.
          one-more (invariant IB (a + 2) (b + 2)) words word (has_at in_row old.between.rows.items a b) (interrupted (a + 2) (b + 2) events) (has_at in_row new.between.rows.items a b)
          (between four a b (was a in_a) (was b in_b)) (st.between (sym kinds ∙ four) a b (was a in_a) (was b in_b)) (between-word a b events);
    }
