-- The log of all sessions: nothing in it is refused.
use Rattle.std.proofs.Common.{◌≡◌, ℕ, ◌+◌, ◌*◌, ◌<◌, ◌≤◌, ◌^◌, true, false, Bool, List, [], ◌∷◌, ◌++◌, length, map, decimal, nat_lt, nat_le, not, ◌&&◌, Option, None, refl, sym, ap, ap₂, subst, ◌∙◌, arith, append-nil, length-append, take_all, ◌||◌, ⊎_elim, true≢false}
use Rattle.std.proofs.lemmas.Bool.{cases_Bool, cond-false, or_parts}
use Rattle.std.proofs.lemmas.Bool.Decides.{nat_tests}
use Rattle.std.proofs.lemmas.Cmp.{nat_list_eq_equiv}
use Rattle.std.proofs.lemmas.List.{length-map}
use Rattle.std.proofs.lemmas.Map.Made.{length-le_from_is_member}
use Rattle.std.proofs.lemmas.Slice.Eq.{bytes_eq-Decides}
use Rattle.std.specs.List.{AllByRecursion, IsDistinct, list_any}
use Rattle.std.specs.Str.{bytes_eq}
use Rattle.limits.specs.declared.TheConstants.{MAX_EVENTS, MAX_INPUT_BYTES, MAX_LINE_BYTES, MAX_SESSIONS, MAX_TRACE_BYTES, MAX_TYPE_BYTES, MAX_TYPES}
use Rattle.lines.specs.Lines.{pieces}
use Rattle.traces.specs.Words.{Event as KeyedEvent, AreApart, types_of}
use Rattle.traces.proofs.FirstMet.{types-first_met}
use Rattle.log_reader.specs.Reading.{Plain, Decided, Setting, at_line, bytes_refusal, decided_piece, event_refusal, first_of, first_refusal, events_of, line_events, line_refusal, piece_events, piece_refusal, pieces_refusal, section_after}
use Rattle.log_reader.specs.Reading as spec
use Rattle.log_reader.specs.declared.refusal.At.{At}
use Rattle.log_reader.specs.declared.refusal.ReadError.{ReadError}
use Rattle.load_maker.specs.Sessions.{log_text, word_of}
use Rattle.load_maker.specs.declared.call.Call.{Call}
use Rattle.load_maker.specs.declared.call.Call.TheVariants.{Open, Read, Write, Seek, Sync, Close}
use Rattle.made_logs.specs.MadeLogs.{plainly, calls_of, call_event, session_events}
use Rattle.made_logs.proofs.PlainLines.{piece_of, line-first, decided-is, word-length}
use Rattle.made_logs.proofs.Sessions.{AreNumbered, lines_of, calls-few, digits-few, numbered, text-lines, text-short}

-- the pieces of calls
abbrev pieces_for : List (ℕ × Call) → List (List ℕ)
pieces_for cs = map (λ c. piece_of c.0 c.1) cs

small : (number : ℕ) → number ≤ MAX_SESSIONS → number < 2 ^ 64
small number few = omega arith

pieces-lines : (cs : List (ℕ × Call)) → AreNumbered cs → pieces (lines_of cs) ≡ pieces_for cs
pieces-lines [] are = refl
pieces-lines (c ∷ cs) are =
    line-first c.0 c.1 (lines_of cs) are.0.0 (small c.0 are.0.1) ∙ ap (λ ps. piece_of c.0 c.1 ∷ ps) (pieces-lines cs are.1)

-- each line is the event of its call
decided-call : (c : ℕ × Call) → (0 < c.0) × (c.0 ≤ MAX_SESSIONS) → decided_piece Plain (piece_of c.0 c.1) ≡ spec.Event (word_of c.1) (decimal c.0) 0
decided-call c is = decided-is c.0 c.1 is.0 (small c.0 is.1)

events-calls : (cs : List (ℕ × Call)) → AreNumbered cs → piece_events Plain 0 0 (pieces_for cs) ≡ map call_event cs
events-calls [] are = refl
events-calls (c ∷ cs) are =
    ap (λ (d : Decided). line_events 0 0 d ++ piece_events Plain 0 (section_after 0 d) (pieces_for cs)) (decided-call c are.0)
    ∙ ap (λ (es : List KeyedEvent). call_event c ∷ es) (events-calls cs are.1)

-- the words of all calls
abbrev call_words : List (List ℕ)
call_words = word_of Open ∷ word_of Read ∷ word_of Write ∷ word_of Seek ∷ word_of Sync ∷ word_of Close ∷ []

word-there : (call : Call) → list_any (bytes_eq (word_of call)) call_words ≡ true
word-there Open = refl
word-there Read = refl
word-there Write = refl
word-there Seek = refl
word-there Sync = refl
word-there Close = refl

distinct-apart : (xs : List (List ℕ)) → AreApart bytes_eq xs → IsDistinct bytes_eq xs
unfolding IsDistinct
distinct-apart [] apart = tt
distinct-apart (x ∷ xs) apart = (others xs apart.0, distinct-apart xs apart.1)
  where
    others : (ys : List (List ℕ)) → list_any (bytes_eq x) ys ≡ false → AllByRecursion (λ y. bytes_eq x y ≡ false) ys
    others [] none = tt
    others (y ∷ ys) none = let parts = or_parts (bytes_eq x y) (list_any (bytes_eq x) ys) none in (parts.0, others ys parts.1)

member-word : (cs : List (ℕ × Call)) (q : List ℕ) → list_any (bytes_eq q) (map (λ e. e.typ) (map call_event cs)) ≡ true → list_any (bytes_eq q) call_words ≡ true
member-word [] q there = absurd (true≢false (sym there))
member-word (c ∷ cs) q there = ⊎_elim
    (λ (is : bytes_eq q (word_of c.1) ≡ true). subst (λ (w : List ℕ). list_any (bytes_eq w) call_words ≡ true) (sym ((bytes_eq-Decides q (word_of c.1)).0 is)) (word-there c.1))
    (λ other. member-word cs q (sym (ap (λ (b : Bool). b || list_any (bytes_eq q) (map (λ e. e.typ) (map call_event cs))) other) ∙ there))
    (cases_Bool (bytes_eq q (word_of c.1)))

-- calls have at most six types
pub types-few : (cs : List (ℕ × Call)) → length (types_of (map call_event cs)) ≤ 6
types-few cs =
    let texts = map (λ (e : KeyedEvent). e.typ) (map call_event cs) in
    let met = types-first_met texts [] in
    length-le_from_is_member nat_list_eq_equiv (types_of (map call_event cs)) call_words (distinct-apart (types_of (map call_event cs)) met.apart)
    (λ q there. member-word cs q (sym (met.members q) ∙ there))

-- a number is not below one that is no higher
not-below : (a b : ℕ) → b ≤ a → nat_lt a b ≡ false
not-below a b high = grind (arith, nat_tests)

-- a number is not at most one that is lower
not-most : (a b : ℕ) → b < a → nat_le a b ≡ false
not-most a b low = grind (arith, nat_tests)

-- of two truth values of which the second does not hold, not both hold
and-false : (a b : Bool) → b ≡ false → (a && b) ≡ false
and-false true b h = h
and-false false b h = refl

-- an event within the limits is not refused
event-taken : (at : At) (types : List (List ℕ)) (count : ℕ) (typ trace : List ℕ) → length typ ≤ MAX_TYPE_BYTES → length trace ≤ MAX_TRACE_BYTES → length types < MAX_TYPES → count < MAX_EVENTS
    → event_refusal at types count typ trace ≡ None
event-taken at types count typ trace t k few room =
    cond-false _ _ _ (not-below MAX_TYPE_BYTES (length typ) t)
    ∙ (cond-false _ _ _ (not-below MAX_TRACE_BYTES (length trace) k)
    ∙ (cond-false _ _ _ (and-false (not (list_any (bytes_eq typ) types)) _ (not-most MAX_TYPES (length types) few))
    ∙ cond-false _ _ _ (not-most MAX_EVENTS count room)))

piece-length : (c : ℕ × Call) → c.0 ≤ MAX_SESSIONS → length (piece_of c.0 c.1) ≤ MAX_LINE_BYTES
piece-length c few = omega (arith, length-append (decimal c.0) (32 ∷ word_of c.1), digits-few c.0 few, (word-length c.1).1)

piece-taken : (at : At) (before : List (ℕ × Call)) (c : ℕ × Call) → (0 < c.0) × (c.0 ≤ MAX_SESSIONS) → length before < MAX_EVENTS
    → piece_refusal plainly at (map call_event before) (piece_of c.0 c.1) ≡ None
piece-taken at before c is room =
    cond-false _ _ _ (not-below MAX_LINE_BYTES (length (piece_of c.0 c.1)) (piece-length c is.1))
    ∙ (ap (line_refusal false at (map call_event before)) (decided-call c is)
    ∙ event-taken at (types_of (map call_event before)) (length (map call_event before)) (word_of c.1) (decimal c.0)
    (omega (arith, (word-length c.1).1)) (omega (arith, digits-few c.0 is.1)) (omega (arith, types-few before)) (omega (arith, length-map before call_event)))

map-more : (before : List (ℕ × Call)) (c : ℕ × Call) → map call_event before ++ call_event c ∷ [] ≡ map call_event (before ++ c ∷ [])
map-more [] c = refl
map-more (b ∷ before) c = ap (λ (es : List KeyedEvent). call_event b ∷ es) (map-more before c)

pieces-taken : (before cs : List (ℕ × Call)) (number : ℕ) → AreNumbered cs → length before + length cs ≤ MAX_EVENTS
    → pieces_refusal plainly 0 false 0 (map call_event before) number (pieces_for cs) ≡ None
pieces-taken before [] number are room = refl
pieces-taken before (c ∷ cs) number are room =
    ap (λ (r : Option ReadError). first_of r (pieces_refusal plainly 0 false (section_after 0 (decided_piece Plain (piece_of c.0 c.1))) (map call_event before ++ line_events 0 0 (decided_piece Plain (piece_of c.0 c.1))) (number + 1) (pieces_for cs)))
    (piece-taken (at_line 0 number) before c are.0 (omega arith))
    ∙ (ap (λ (d : Decided). pieces_refusal plainly 0 false (section_after 0 d) (map call_event before ++ line_events 0 0 d) (number + 1) (pieces_for cs)) (decided-call c are.0)
    ∙ (ap (λ (es : List KeyedEvent). pieces_refusal plainly 0 false 0 es (number + 1) (pieces_for cs)) (map-more before c)
    ∙ pieces-taken (before ++ c ∷ []) cs (number + 1) are.1 (omega (arith, length-append before (c ∷ [])))))

-- a file within the room is read whole
whole : (s : Setting) (room : ℕ) (bytes : List ℕ) → length bytes ≤ room → bytes_refusal s 0 0 [] room bytes ≡ pieces_refusal s 0 false 0 [] 1 (pieces bytes)
whole s room bytes short =
    ap₂ (λ (cut : Bool) (bs : List ℕ). pieces_refusal s 0 cut 0 [] 1 (pieces bs)) (not-below room (length bytes) short) (take_all (room + 1) bytes (omega arith))

first-of-none : (r : Option ReadError) → r ≡ None → first_of r None ≡ None
first-of-none r none = ap (λ (x : Option ReadError). first_of x None) none

-- nothing in a made log is refused
pub taken : (n : ℕ) → n ≤ MAX_SESSIONS → first_refusal plainly (log_text n ∷ []) ≡ None
taken n few =
    let cs = calls_of n in
    let room : length (log_text n) ≤ MAX_INPUT_BYTES = omega (arith, text-short n few) in
    first-of-none (bytes_refusal plainly 0 0 [] MAX_INPUT_BYTES (log_text n))
    (whole plainly MAX_INPUT_BYTES (log_text n) room
    ∙ (ap (λ (ps : List (List ℕ)). pieces_refusal plainly 0 false 0 [] 1 ps) (ap pieces (text-lines n) ∙ pieces-lines cs (numbered n few))
    ∙ pieces-taken [] cs 1 (numbered n few) (omega (arith, calls-few n))))

-- the events of a made log are its calls
pub events-are : (n : ℕ) → n ≤ MAX_SESSIONS → events_of plainly (log_text n ∷ []) ≡ session_events n
events-are n few =
    append-nil (piece_events Plain 0 0 (pieces (log_text n)))
    ∙ (ap (piece_events Plain 0 0) (ap pieces (text-lines n) ∙ pieces-lines (calls_of n) (numbered n few))
    ∙ events-calls (calls_of n) (numbered n few))

-- n sessions have at most 7 events each
pub events-few : (n : ℕ) → length (session_events n) ≤ 7 * n
events-few n = omega (arith, length-map (calls_of n) call_event, calls-few n)
