-- The text of a made log: sessions of calls on a file, as a generator of numbers draws them.
use Rattle.std.specs.Prelude.{ℕ, ◌≡◌, zero, suc, ◌+◌, ◌*◌, ◌/◌, ◌%◌, ◌==◌, List, [], ◌∷◌, ◌++◌, map, length, min, Bool, true, false, not, codes, decimal, if◌then◌else◌, flat_map}
use Rattle.std.specs.Fn.{iterate}
use Rattle.std.specs.List.{list_any, range_with_len, take_while}
use Rattle.load_maker.specs.declared.call.Call.{Call}
use Rattle.load_maker.specs.declared.call.Call.TheVariants.{Open, Read, Write, Seek, Sync, Close}

-- the state of the generator in which a log begins
abbrev pub first_state : ℕ
first_state = 1

-- how many numbers a session draws at most
abbrev pub most_draws : ℕ
most_draws = 4

-- the number that gives no call
abbrev pub no_call : ℕ
no_call = 3

-- the state of the generator after one more draw
unfoldable pub next_state : ℕ → ℕ
next_state x = (25173 * x + 13849) % 65536

-- the number that is drawn when the generator comes to this state, from 0 to 3
unfoldable pub draw_of : ℕ → ℕ
draw_of x = (x / 4096) % 4

-- the numbers of n draws from a state
abbrev pub draws : ℕ → ℕ → List ℕ
draws zero x = []
draws (suc n) x = draw_of (next_state x) ∷ draws n (next_state x)

-- the numbers of n draws from a state, before the first that gives no call
abbrev pub giving : ℕ → ℕ → List ℕ
giving n x = take_while (λ draw. not (draw == no_call)) (draws n x)

-- the call that such a number gives
abbrev pub call_of : ℕ → Call
call_of draw = if draw == 0 then Read else if draw == 1 then Write else Seek

-- the calls that at most n draws from a state give
unfoldable pub calls_within : ℕ → ℕ → List Call
calls_within n x = map call_of (giving n x)

-- the state after these draws, including the first that gives no call if it is one of the n
unfoldable pub state_within : ℕ → ℕ → ℕ
state_within n x = iterate next_state (min n (length (giving n x) + 1)) x

-- whether the call writes
abbrev pub is_write : Call → Bool
is_write Write = true
is_write _ = false

-- a sync if the session wrote
abbrev pub sync_where : Bool → List Call
sync_where true = Sync ∷ []
sync_where false = []

-- the calls of a session that begins at this state: it opens, makes the calls drawn, syncs if it
-- wrote, and closes
abbrev pub session_calls : ℕ → List Call
session_calls x =
    let drawn = calls_within most_draws x in
    Open ∷ drawn ++ sync_where (list_any is_write drawn) ++ Close ∷ []

-- the state after the session
abbrev pub session_end : ℕ → ℕ
session_end x = state_within most_draws x

-- the word for a call
abbrev pub word_of : Call → List ℕ
word_of Open = codes "open"
word_of Read = codes "read"
word_of Write = codes "write"
word_of Seek = codes "seek"
word_of Sync = codes "sync"
word_of Close = codes "close"

-- the line of a call in the session with this number
abbrev pub line : ℕ → Call → List ℕ
line session call = decimal session ++ 32 ∷ word_of call ++ 10 ∷ []

-- the lines of the session with this number that begins at this state
unfoldable pub session_text : ℕ → ℕ → List ℕ
session_text session x = flat_map (line session) (session_calls x)

-- the state after k sessions
unfoldable pub state_after : ℕ → ℕ
state_after k = iterate session_end k first_state

-- the sessions from 1 to n, each from the state after those before it
unfoldable pub log_text : ℕ → List ℕ
log_text n = flat_map (λ k. session_text (k + 1) (state_after k)) (range_with_len 0 n)

-- what one more session adds to the text and the state
pub record SessionsStandInOrder : Type 0 where
  -- a log without a session is empty
  pub none : log_text 0 ≡ []
  -- each further session follows the others
  pub more : (n : ℕ) → log_text (n + 1) ≡ log_text n ++ session_text (n + 1) (state_after n)
  -- the first begins at the first state
  pub first : state_after 0 ≡ first_state
  -- each further one begins where the one before it ended
  pub next : (n : ℕ) → state_after (n + 1) ≡ session_end (state_after n)
