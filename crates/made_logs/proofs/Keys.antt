-- The traces of a made log: one for each session.
use Rattle.std.proofs.Common.{◌≡◌, ℕ, zero, suc, ◌+◌, ◌<◌, ◌≤◌, ◌^◌, true, false, Bool, ◌||◌, List, [], ◌∷◌, ◌++◌, drop, map, decimal, refl, sym, ap, ◌∙◌, arith, append_assoc, append-nil}
use Rattle.std.proofs.lemmas.Bool.{cond-true, cond-false, false_from_ne_true, or_from}
use Rattle.std.proofs.lemmas.Fmt.{decimal_injective}
use Rattle.std.proofs.lemmas.List.Folds.{list_any-append}
use Rattle.std.proofs.lemmas.List.Sums.{fold-append}
use Rattle.std.proofs.lemmas.Slice.Eq.{bytes_eq-Decides}
use Rattle.std.specs.List.{fold, list_any, range_with_len}
use Rattle.std.specs.Str.{bytes_eq}
use Rattle.limits.specs.declared.TheConstants.{MAX_SESSIONS}
use Rattle.traces.specs.Words.{Event, Key, keys_of, same_key, with_new}
use Rattle.load_maker.specs.Sessions.{session_calls, state_after}
use Rattle.load_maker.specs.declared.call.Call.{Call}
use Rattle.made_logs.specs.MadeLogs.{call_event, session_events, session_key}
use Rattle.made_logs.proofs.Sessions.{calls_from}

-- the keys of calls
abbrev keys_in : List (ℕ × Call) → List Key
keys_in cs = map (λ (e : Event). e.key) (map call_event cs)

-- the keys met so far, and those of these
abbrev met_with : List Key → List Key → List Key
met_with met keys = fold (with_new same_key) met keys

-- calls behind one another have their keys behind one another
keys-append : (cs ds : List (ℕ × Call)) → keys_in (cs ++ ds) ≡ keys_in cs ++ keys_in ds
keys-append [] ds = refl
keys-append (c ∷ cs) ds = ap (λ (ks : List Key). (call_event c).key ∷ ks) (keys-append cs ds)

-- the calls of one session
abbrev calls_in : ℕ → List Call → List (ℕ × Call)
calls_in number calls = map (λ (call : Call). (number, call)) calls

-- no session from this place on is among the keys met
abbrev AreNew : ℕ → List Key → Type 0
AreNew a met = (k : ℕ) → a ≤ k → k < MAX_SESSIONS → list_any (same_key (session_key (k + 1))) met ≡ false

-- a text is the same as itself
same-own : (text : List ℕ) → bytes_eq text text ≡ true
same-own text = (bytes_eq-Decides text text).1 refl

-- different numbers have different digits
others-differ : (j k : ℕ) → j < 2 ^ 64 → k < 2 ^ 64 → (j ≡ k → ⊥) → bytes_eq (decimal j) (decimal k) ≡ false
others-differ j k jf kf differ =
    false_from_ne_true (bytes_eq (decimal j) (decimal k)) (λ is. differ (decimal_injective j k jf kf ((bytes_eq-Decides (decimal j) (decimal k)).0 is)))

-- a key that was met is met again
again : (met : List Key) (number : ℕ) (calls : List Call) → list_any (same_key (session_key number)) met ≡ true → met_with met (keys_in (calls_in number calls)) ≡ met
again met number [] there = refl
again met number (call ∷ calls) there =
    ap (λ (m : List Key). met_with m (keys_in (calls_in number calls))) (cond-true (list_any (same_key (session_key number)) met) met (met ++ session_key number ∷ []) there) ∙ again met number calls there

-- a truth value or true is true
or-true : (b : Bool) → (b || true) ≡ true
or-true true = refl
or-true false = refl

-- a key that is put at the end is among the keys met
there-now : (met : List Key) (number : ℕ) → list_any (same_key (session_key number)) (met ++ session_key number ∷ []) ≡ true
there-now met number =
    list_any-append (same_key (session_key number)) met (session_key number ∷ [])
    ∙ (ap (λ (b : Bool). list_any (same_key (session_key number)) met || (b || false)) (same-own (decimal number)) ∙ or-true (list_any (same_key (session_key number)) met))

-- a session puts its key behind those that were met
session-met : (met : List Key) (a : ℕ) → list_any (same_key (session_key (a + 1))) met ≡ false
    → met_with met (keys_in (calls_in (a + 1) (session_calls (state_after a)))) ≡ met ++ session_key (a + 1) ∷ []
session-met met a new =
    let rest = drop 1 (session_calls (state_after a)) in
    ap (λ (m : List Key). met_with m (keys_in (calls_in (a + 1) rest))) (cond-false (list_any (same_key (session_key (a + 1))) met) met (met ++ session_key (a + 1) ∷ []) new)
    ∙ again (met ++ session_key (a + 1) ∷ []) (a + 1) rest (there-now met (a + 1))

-- a session that comes later is still not among the keys met, once this one is
still-new : (met : List Key) (a : ℕ) → AreNew a met → AreNew (a + 1) (met ++ session_key (a + 1) ∷ [])
still-new met a new k from few =
    list_any-append (same_key (session_key (k + 1))) met (session_key (a + 1) ∷ [])
    ∙ or_from _ _ (new k (omega arith) few) (or_from _ _ (others-differ (k + 1) (a + 1) (omega arith) (omega arith) (λ is. omega arith)) refl)

-- sessions from a place on put their keys behind those that were met, in their order
traces-from : (a n : ℕ) (met : List Key) → a + n ≤ MAX_SESSIONS → AreNew a met
    → met_with met (keys_in (calls_from a n)) ≡ met ++ map (λ k. session_key (k + 1)) (range_with_len a n)
traces-from a zero met few new = sym (append-nil met)
traces-from a (suc n) met few new =
    let own = calls_in (a + 1) (session_calls (state_after a)) in
    let later = keys_in (calls_from (a + 1) n) in
    ap (met_with met) (keys-append own (calls_from (a + 1) n))
    ∙ (fold-append (with_new same_key) met (keys_in own) later
    ∙ (ap (λ (m : List Key). met_with m later) (session-met met a (new a (omega arith) (omega arith)))
    ∙ (traces-from (a + 1) n (met ++ session_key (a + 1) ∷ []) (omega arith) (still-new met a new)
    ∙ append_assoc met (session_key (a + 1) ∷ []) (map (λ k. session_key (k + 1)) (range_with_len (a + 1) n)))))

-- each session is one trace, in their order
pub traces-are : (n : ℕ) → n ≤ MAX_SESSIONS → keys_of (session_events n) ≡ map (λ k. session_key (k + 1)) (range_with_len 0 n)
traces-are n few = traces-from 0 n [] (omega arith) (λ k from small. refl)
