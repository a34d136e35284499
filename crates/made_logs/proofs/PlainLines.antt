-- One line of a made log, as it is read.
use Rattle.std.proofs.Common.{◌≡◌, ℕ, zero, suc, ◌+◌, ◌-◌, ◌<◌, ◌≤◌, ◌^◌, ◌==◌, true, false, List, [], ◌∷◌, ◌++◌, length, take, drop, map, slice_index, nat_lt, Some, None, refl, sym, ap, subst, ◌∙◌, arith, append_assoc, length-append, decimal}
use Rattle.std.proofs.lemmas.Bool.{cond-true, cond-false, not_from_false, or_parts, or_from}
use Rattle.std.proofs.lemmas.Bool.Decides.{nat_tests}
use Rattle.std.proofs.lemmas.Fmt.{decimal-digits_of, IsAscii-decimal}
use Rattle.std.proofs.lemmas.List.Folds.{list_any-append}
use Rattle.std.proofs.lemmas.Str.{IsAscii-append, IsUtf8-from_ascii, utf8_lossy-IsUtf8}
use Rattle.std.proofs.lemmas.Str.Ascii.{IsAscii-cons, IsAscii-nil}
use Rattle.std.specs.Int.Digits.{digits_of}
use Rattle.std.specs.List.{AllByRecursion, list_any, position_or_len}
use Rattle.std.specs.Str.{IsAscii}
use Rattle.std.specs.Str.Lossy.{utf8_lossy}
use Rattle.lines.specs.Lines.{pieces, on_first, is_feed, line_of, text_of, plain_fields_of}
use Rattle.log_reader.specs.Reading.{Plain, Event, by_fields, decided_piece}
use Rattle.load_maker.specs.Sessions.{line, word_of}
use Rattle.load_maker.specs.declared.call.Call.{Call}
use Rattle.load_maker.specs.declared.call.Call.TheVariants.{Open, Read, Write, Seek, Sync, Close}

-- the piece of a call in the session with this number: its line without the line feed
abbrev pub piece_of : ℕ → Call → List ℕ
piece_of session call = decimal session ++ 32 ∷ word_of call

-- the bytes of digits stand behind those that have a meaning of their own
abbrev AreHigh : List ℕ → Type 0
AreHigh ds = AllByRecursion (λ b. 48 ≤ b) ds

high-map : (ds : List ℕ) → AreHigh (map (λ d. 48 + d) ds)
high-map [] = tt
high-map (d ∷ ds) = (omega arith, high-map ds)

high-decimal : (n : ℕ) → 0 < n → n < 2 ^ 64 → AreHigh (decimal n)
high-decimal n some small = subst AreHigh (sym (decimal-digits_of n some small)) (high-map (digits_of 10 n))

differs : (b t : ℕ) → 48 ≤ b → t < 48 → (b == t) ≡ false
differs b t high low = grind (arith, nat_tests)

high-none : (t : ℕ) → t < 48 → (ds : List ℕ) → AreHigh ds → list_any (λ b. b == t) ds ≡ false
high-none t low [] high = refl
high-none t low (b ∷ ds) high = or_from _ _ (differs b t high.0 low) (high-none t low ds high.1)

-- a word has no line feed
word-feed : (call : Call) → list_any is_feed (32 ∷ word_of call) ≡ false
word-feed Open = refl
word-feed Read = refl
word-feed Write = refl
word-feed Seek = refl
word-feed Sync = refl
word-feed Close = refl

-- a word has no carriage return
word-return : (call : Call) → list_any (λ b. b == 13) (32 ∷ word_of call) ≡ false
word-return Open = refl
word-return Read = refl
word-return Write = refl
word-return Seek = refl
word-return Sync = refl
word-return Close = refl

-- a word has one byte or more, and at most five
pub word-length : (call : Call) → (0 < length (word_of call)) × (length (word_of call) ≤ 5)
word-length Open = (omega arith, omega arith)
word-length Read = (omega arith, omega arith)
word-length Write = (omega arith, omega arith)
word-length Seek = (omega arith, omega arith)
word-length Sync = (omega arith, omega arith)
word-length Close = (omega arith, omega arith)

four : (a b c d : ℕ) → a < 128 → b < 128 → c < 128 → d < 128 → IsAscii (a ∷ b ∷ c ∷ d ∷ [])
four a b c d ha hb hc hd = IsAscii-cons a (b ∷ c ∷ d ∷ []) ha (IsAscii-cons b (c ∷ d ∷ []) hb (IsAscii-cons c (d ∷ []) hc (IsAscii-cons d [] hd IsAscii-nil)))

five : (a b c d e : ℕ) → a < 128 → b < 128 → c < 128 → d < 128 → e < 128 → IsAscii (a ∷ b ∷ c ∷ d ∷ e ∷ [])
five a b c d e ha hb hc hd he = IsAscii-cons a (b ∷ c ∷ d ∷ e ∷ []) ha (four b c d e hb hc hd he)

word-ascii : (call : Call) → IsAscii (word_of call)
word-ascii Open = four 111 112 101 110 (omega arith) (omega arith) (omega arith) (omega arith)
word-ascii Read = four 114 101 97 100 (omega arith) (omega arith) (omega arith) (omega arith)
word-ascii Write = five 119 114 105 116 101 (omega arith) (omega arith) (omega arith) (omega arith) (omega arith)
word-ascii Seek = four 115 101 101 107 (omega arith) (omega arith) (omega arith) (omega arith)
word-ascii Sync = four 115 121 110 99 (omega arith) (omega arith) (omega arith) (omega arith)
word-ascii Close = five 99 108 111 115 101 (omega arith) (omega arith) (omega arith) (omega arith) (omega arith)

none-of : (t : ℕ) (ds ws : List ℕ) → list_any (λ b. b == t) ds ≡ false → list_any (λ b. b == t) ws ≡ false → list_any (λ b. b == t) (ds ++ ws) ≡ false
none-of t ds ws digits word = list_any-append (λ b. b == t) ds ws ∙ or_from _ _ digits word

-- bytes up to a line feed are a piece
piece-first : (part rest : List ℕ) → list_any is_feed part ≡ false → pieces (part ++ 10 ∷ rest) ≡ part ∷ pieces rest
piece-first [] rest none = refl
piece-first (b ∷ part) rest none =
    let parts = or_parts (is_feed b) (list_any is_feed part) none in
    cond-false _ _ _ parts.0 ∙ ap (on_first b) (piece-first part rest parts.1)

-- the first line is the first piece
pub line-first : (session : ℕ) (call : Call) (rest : List ℕ) → 0 < session → session < 2 ^ 64
    → pieces (line session call ++ rest) ≡ piece_of session call ∷ pieces rest
line-first session call rest some small =
    ap pieces (append_assoc (piece_of session call) (10 ∷ []) rest)
    ∙ piece-first (piece_of session call) rest
    (none-of 10 (decimal session) (32 ∷ word_of call) (high-none 10 (omega arith) (decimal session) (high-decimal session some small)) (word-feed call))

none-at : (t : ℕ) (xs : List ℕ) (i : ℕ) → (0 == t) ≡ false → list_any (λ b. b == t) xs ≡ false → (slice_index xs i == t) ≡ false
none-at t [] i other none = other
none-at t (x ∷ xs) zero other none = (or_parts (x == t) (list_any (λ b. b == t) xs) none).0
none-at t (x ∷ xs) (suc i) other none = none-at t xs i other (or_parts (x == t) (list_any (λ b. b == t) xs) none).1

-- the piece of a line has no carriage return at its end
line-is : (session : ℕ) (call : Call) → 0 < session → session < 2 ^ 64 → line_of (piece_of session call) ≡ piece_of session call
line-is session call some small =
    cond-false _ _ _
    (none-at 13 (piece_of session call) (length (piece_of session call) - 1) refl
    (none-of 13 (decimal session) (32 ∷ word_of call) (high-none 13 (omega arith) (decimal session) (high-decimal session some small)) (word-return call)))

-- the piece of a line is text
text-is : (session : ℕ) (call : Call) → 0 < session → session < 2 ^ 64 → text_of (piece_of session call) ≡ piece_of session call
text-is session call some small =
    ap utf8_lossy (line-is session call some small)
    ∙ utf8_lossy-IsUtf8 (piece_of session call)
    (IsUtf8-from_ascii (piece_of session call) (IsAscii-append (decimal session) (32 ∷ word_of call) (IsAscii-decimal session small) (IsAscii-cons 32 (word_of call) (omega arith) (word-ascii call))))

-- the first space stands behind the digits
space-at : (ds w : List ℕ) → AreHigh ds → position_or_len (λ b. b == 32) (ds ++ 32 ∷ w) ≡ length ds
space-at [] w high = refl
space-at (b ∷ ds) w high = cond-true _ _ _ (not_from_false _ (differs b 32 high.0 (omega arith))) ∙ omega (arith, space-at ds w high.1)

take-front : (xs ys : List ℕ) → take (length xs) (xs ++ ys) ≡ xs
take-front [] ys = refl
take-front (x ∷ xs) ys = ap (λ zs. x ∷ zs) (take-front xs ys)

more : (n : ℕ) → suc n + 1 ≡ suc (n + 1)
more n = omega arith

drop-front : (xs : List ℕ) (y : ℕ) (ys : List ℕ) → drop (length xs + 1) (xs ++ y ∷ ys) ≡ ys
drop-front [] y ys = refl
drop-front (x ∷ xs) y ys = ap (λ n. drop n (x ∷ (xs ++ y ∷ ys))) (more (length xs)) ∙ drop-front xs y ys

is-below : (a b : ℕ) → a < b → nat_lt a b ≡ true
is-below a b low = grind (arith, nat_tests)

not-zero : (n : ℕ) → 0 < n → (n == 0) ≡ false
not-zero n some = grind (arith, nat_tests)

fields : (ds w : List ℕ) → AreHigh ds → 0 < length w → plain_fields_of (ds ++ 32 ∷ w) ≡ Some (ds, w)
fields ds w high some =
    rw (space-at ds w high, drop-front ds 32 w, take-front ds (32 ∷ w)) (cond-true (nat_lt 0 (length w)) (Some (ds, w)) None (is-below 0 (length w) some))

-- a line is the event of its call
pub decided-is : (session : ℕ) (call : Call) → 0 < session → session < 2 ^ 64
    → decided_piece Plain (piece_of session call) ≡ Event (word_of call) (decimal session) 0
decided-is session call some small =
    let long : (length (line_of (piece_of session call)) == 0) ≡ false =
    ap (λ (bs : List ℕ). length bs == 0) (line-is session call some small)
    ∙ not-zero (length (piece_of session call)) (omega (arith, length-append (decimal session) (32 ∷ word_of call))) in
    cond-false _ _ _ long
    ∙ (ap (λ (t : List ℕ). by_fields (plain_fields_of t)) (text-is session call some small)
    ∙ ap by_fields (fields (decimal session) (word_of call) (high-decimal session some small) (word-length call).0))
