-- The calls of all sessions: their text, and how many there are.
use Rattle.std.proofs.Common.{◌≡◌, ℕ, zero, suc, ◌+◌, ◌*◌, ◌<◌, ◌≤◌, true, false, Bool, List, [], ◌∷◌, ◌++◌, length, map, take, decimal, refl, sym, ap, ◌∙◌, arith, length-append, flat_map, not, ◌==◌}
use Rattle.std.proofs.lemmas.Fmt.{length-decimal-le}
use Rattle.std.proofs.lemmas.List.{length-map}
use Rattle.std.proofs.lemmas.List.Concat.{flat_map-append}
use Rattle.std.proofs.lemmas.List.{length-take}
use Rattle.std.specs.List.{AllByRecursion, list_any, range_with_len, prefix_len}
use Rattle.limits.specs.declared.TheConstants.{MAX_SESSIONS}
use Rattle.load_maker.specs.Sessions.{call_of, calls_within, draws, is_write, line, log_text, most_draws, no_call, session_calls, session_text, state_after, sync_where, word_of}
use Rattle.load_maker.specs.declared.call.Call.{Call}
use Rattle.load_maker.specs.declared.call.Call.TheVariants.{Open, Close}
use Rattle.made_logs.specs.MadeLogs.{calls_of}
use Rattle.made_logs.proofs.PlainLines.{word-length}

-- the number of a call is that of a session
abbrev pub AreNumbered : List (ℕ × Call) → Type 0
AreNumbered cs = AllByRecursion (λ c. (0 < c.0) × (c.0 ≤ MAX_SESSIONS)) cs

-- the lines of calls
abbrev pub lines_of : List (ℕ × Call) → List ℕ
lines_of cs = flat_map (λ c. line c.0 c.1) cs

-- calls behind others are numbered where both are
numbered-append : (cs ds : List (ℕ × Call)) → AreNumbered cs → AreNumbered ds → AreNumbered (cs ++ ds)
numbered-append [] ds first later = later
numbered-append (c ∷ cs) ds first later = (first.0, numbered-append cs ds first.1 later)

-- the calls of a session have its number
numbered-session : (number : ℕ) (calls : List Call) → 0 < number → number ≤ MAX_SESSIONS → AreNumbered (map (λ (call : Call). (number, call)) calls)
numbered-session number [] some few = tt
numbered-session number (call ∷ calls) some few = ((some, few), numbered-session number calls some few)

-- the calls of the sessions from a on
abbrev pub calls_from : ℕ → ℕ → List (ℕ × Call)
calls_from a n = flat_map (λ k. map (λ (call : Call). (k + 1, call)) (session_calls (state_after k))) (range_with_len a n)

-- the calls of the sessions from a on are numbered
numbered-from : (a n : ℕ) → a + n ≤ MAX_SESSIONS → AreNumbered (calls_from a n)
numbered-from a zero few = tt
numbered-from a (suc n) few =
    numbered-append (map (λ (call : Call). (a + 1, call)) (session_calls (state_after a))) (calls_from (a + 1) n)
    (numbered-session (a + 1) (session_calls (state_after a)) (omega arith) (omega arith))
    (numbered-from (a + 1) n (omega arith))

-- all calls are numbered
pub numbered : (n : ℕ) → n ≤ MAX_SESSIONS → AreNumbered (calls_of n)
numbered n few = numbered-from 0 n (omega (arith, few))

-- the lines of the calls of a session are those of its calls with its number
session-lines : (number : ℕ) (calls : List Call) → lines_of (map (λ (call : Call). (number, call)) calls) ≡ flat_map (line number) calls
session-lines number [] = refl
session-lines number (call ∷ calls) = ap (λ (t : List ℕ). line number call ++ t) (session-lines number calls)

-- the text of a session is the lines of its calls
text-of-session : (number x : ℕ) → session_text number x ≡ flat_map (line number) (session_calls x)
unfolding session_text
text-of-session number x = refl

-- the text of the sessions from a on is the lines of their calls
text-from : (a n : ℕ) → flat_map (λ k. session_text (k + 1) (state_after k)) (range_with_len a n) ≡ lines_of (calls_from a n)
text-from a zero = refl
text-from a (suc n) =
    let calls = map (λ (call : Call). (a + 1, call)) (session_calls (state_after a)) in
    ap (λ (t : List ℕ). t ++ flat_map (λ k. session_text (k + 1) (state_after k)) (range_with_len (a + 1) n)) (text-of-session (a + 1) (state_after a) ∙ sym (session-lines (a + 1) (session_calls (state_after a))))
    ∙ (ap (λ (t : List ℕ). lines_of calls ++ t) (text-from (a + 1) n)
    ∙ sym (flat_map-append (λ c. line c.0 c.1) calls (calls_from (a + 1) n)))

-- the text of n sessions is the lines of their calls
pub text-lines : (n : ℕ) → log_text n ≡ lines_of (calls_of n)
unfolding log_text
text-lines n = text-from 0 n

-- n draws are n
draws-length : (n x : ℕ) → length (draws n x) ≡ n
draws-length zero x = refl
draws-length (suc n) x = ap suc (draws-length n _)

-- of n draws at most n are calls
drawn-length : (n x : ℕ) → length (calls_within n x) ≤ n
unfolding calls_within
drawn-length n x =
    let ds = draws n x in
    let kept = prefix_len (λ draw. not (draw == no_call)) ds in
    omega (arith, length-map (take kept ds) call_of, length-take kept ds, draws-length n x)

-- a session has at most one sync
sync-length : (wrote : Bool) → length (sync_where wrote) ≤ 1
sync-length true = omega arith
sync-length false = omega arith

-- a session has at most seven calls
session-length : (x : ℕ) → length (session_calls x) ≤ 7
session-length x =
    let drawn = calls_within most_draws x in
    let wrote = list_any is_write drawn in
    let closes : List Call = Close ∷ [] in
    omega (arith, drawn-length most_draws x, sync-length wrote, length-append (Open ∷ drawn ++ sync_where wrote) closes, length-append (Open ∷ drawn) (sync_where wrote))

-- the calls of a session that begins at this state, with its number
abbrev calls_in : ℕ → ℕ → List (ℕ × Call)
calls_in number x = map (λ (call : Call). (number, call)) (session_calls x)

in-length : (number x : ℕ) → length (calls_in number x) ≡ length (session_calls x)
in-length number x = length-map (session_calls x) (λ (call : Call). let c : ℕ × Call = (number, call) in c)

from-length : (a n : ℕ) → length (calls_from a n) ≤ 7 * n
from-length a zero = omega arith
from-length a (suc n) =
    omega (arith, length-append (calls_in (a + 1) (state_after a)) (calls_from (a + 1) n), in-length (a + 1) (state_after a), session-length (state_after a), from-length (a + 1) n)

-- n sessions have at most 7 calls each
pub calls-few : (n : ℕ) → length (calls_of n) ≤ 7 * n
calls-few n = from-length 0 n

-- the number of a session has at most five digits
pub digits-few : (n : ℕ) → n ≤ MAX_SESSIONS → length (decimal n) ≤ 5
digits-few n few = length-decimal-le 5 n (omega arith) (omega arith) (omega arith)

-- a line has at most twelve bytes
line-length : (number : ℕ) (call : Call) → number ≤ MAX_SESSIONS → length (line number call) ≤ 12
line-length number call few =
    let digits = decimal number in
    let word = word_of call in
    omega (arith, digits-few number few, (word-length call).1, length-append (digits ++ 32 ∷ word) (10 ∷ []), length-append digits (32 ∷ word))

-- lines have at most twelve bytes each
lines-length : (cs : List (ℕ × Call)) → AreNumbered cs → length (lines_of cs) ≤ 12 * length cs
lines-length [] are = omega arith
lines-length (c ∷ cs) are = omega (arith, length-append (line c.0 c.1) (lines_of cs), line-length c.0 c.1 are.0.1, lines-length cs are.1)

-- n sessions have at most 84 bytes each
pub text-short : (n : ℕ) → n ≤ MAX_SESSIONS → length (log_text n) ≤ 84 * n
text-short n few = omega (arith, ap length (text-lines n), lines-length (calls_of n) (numbered n few), calls-few n)
