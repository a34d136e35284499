-- A log in the plain form, as it is read.
use Rattle.std.proofs.Common.{◌≡◌, ℕ, zero, suc, ◌+◌, ◌-◌, ◌<◌, ◌≤◌, ◌^◌, ◌==◌, true, false, Bool, ◌&&◌, not, List, [], ◌∷◌, ◌++◌, length, take, drop, map, slice_index, nat_lt, Some, None, refl, sym, ap, subst, ◌∙◌, arith, append_assoc, append-nil, length-append, decimal, flat_map}
use Rattle.std.proofs.lemmas.Bool.{cond-true, cond-false, not_from_false, or_parts, or_from}
use Rattle.std.proofs.lemmas.Bool.Decides.{nat_tests}
use Rattle.std.proofs.lemmas.Fmt.{decimal-digits_of, decimal_digit, IsAscii-decimal}
use Rattle.std.proofs.lemmas.List.Folds.{list_any-append}
use Rattle.std.proofs.lemmas.Str.{IsUtf8-append, IsUtf8-from_ascii, utf8_lossy-IsUtf8}
use Rattle.std.proofs.lemmas.Str.Ascii.{IsAscii-cons, IsAscii-nil}
use Rattle.std.specs.Int.Digits.{digits_of}
use Rattle.std.specs.List.{AllByRecursion, list_any, position_or_len}
use Rattle.std.specs.Str.{IsUtf8}
use Rattle.std.specs.Str.Lossy.{utf8_lossy}
use Rattle.lines.specs.Lines.{HaveNoFeed, pieces, on_first, is_feed, line_of, text_of, plain_fields_of}
use Rattle.traces.specs.Words.{Event as KeyedEvent, event_of}
use Rattle.log_reader.specs.Reading.{Plain, Event, Decided, by_fields, decided_piece, events_of, line_events, piece_events, section_after}
use Rattle.events_cli.specs.Laws.{plainly}
use Rattle.events_cli.specs.Plain.{is_plain_type}

-- ---- one line

-- the piece of a line: a number, a space, and a type
abbrev pub body : ℕ → List ℕ → List ℕ
body n typ = decimal n ++ 32 ∷ typ

-- digits stand behind the bytes that have a meaning of their own
abbrev AreHigh : List ℕ → Type 0
AreHigh ds = AllByRecursion (λ b. 48 ≤ b) ds

high-map : (ds : List ℕ) → AreHigh (map (λ d. 48 + d) ds)
high-map [] = tt
high-map (d ∷ ds) = (omega arith, high-map ds)

high-decimal : (n : ℕ) → n < 2 ^ 64 → AreHigh (decimal n)
high-decimal zero small = subst AreHigh (sym (decimal_digit 0 (omega arith))) (omega arith, tt)
high-decimal (suc n) small = subst AreHigh (sym (decimal-digits_of (suc n) (omega arith) small)) (high-map (digits_of 10 (suc n)))

differs : (b t : ℕ) → 48 ≤ b → t < 48 → (b == t) ≡ false
differs b t high low = grind (arith, nat_tests)

high-none : (t : ℕ) → t < 48 → (ds : List ℕ) → AreHigh ds → list_any (λ b. b == t) ds ≡ false
high-none t low [] high = refl
high-none t low (b ∷ ds) high = or_from _ _ (differs b t high.0 low) (high-none t low ds high.1)

-- what a type that fits has: no line feed, and no carriage return at its end
plain-parts : (feed : Bool) (return : Bool) → (not feed && not return) ≡ true → (feed ≡ false) × (return ≡ false)
plain-parts false false is = (refl, refl)
plain-parts true return is = cc
plain-parts false true is = cc

-- a piece has no line feed
pub no-feed : (n : ℕ) (typ : List ℕ) → n < 2 ^ 64 → is_plain_type typ ≡ true → list_any is_feed (body n typ) ≡ false
no-feed n typ small fits =
    let feed = (plain-parts (list_any is_feed typ) (slice_index typ (length typ - 1) == 13) fits).0 in
    list_any-append is_feed (decimal n) (32 ∷ typ) ∙ or_from _ _ (high-none 10 (omega arith) (decimal n) (high-decimal n small)) feed

-- the last byte of two texts, of which the second has one
last-of : (xs ys : List ℕ) → 0 < length ys → slice_index (xs ++ ys) (length (xs ++ ys) - 1) ≡ slice_index ys (length ys - 1)
last-of [] ys some = refl
last-of (x ∷ xs) ys some =
    let at : suc (length (xs ++ ys)) - 1 ≡ suc (length (xs ++ ys) - 1) = omega (arith, some, length-append xs ys) in
    ap (slice_index (x ∷ (xs ++ ys))) at ∙ last-of xs ys some

-- it has no carriage return at its end
line-is : (n : ℕ) (typ : List ℕ) → 0 < length typ → is_plain_type typ ≡ true → line_of (body n typ) ≡ body n typ
line-is n typ some fits =
    let return = (plain-parts (list_any is_feed typ) (slice_index typ (length typ - 1) == 13) fits).1 in
    let last = last-of (decimal n) (32 ∷ typ) (omega arith) ∙ last-of (32 ∷ []) typ some in
    cond-false _ _ _ (ap (λ (b : ℕ). b == 13) last ∙ return)

-- it is text
text-is : (n : ℕ) (typ : List ℕ) → n < 2 ^ 64 → 0 < length typ → IsUtf8 typ → is_plain_type typ ≡ true → text_of (body n typ) ≡ body n typ
text-is n typ small some utf8 fits =
    ap utf8_lossy (line-is n typ some fits)
    ∙ utf8_lossy-IsUtf8 (body n typ)
    (IsUtf8-append (decimal n) (32 ∷ typ) (IsUtf8-from_ascii (decimal n) (IsAscii-decimal n small))
    (IsUtf8-append (32 ∷ []) typ (IsUtf8-from_ascii (32 ∷ []) (IsAscii-cons 32 [] (omega arith) IsAscii-nil)) utf8))

-- the first space stands behind the digits
space-at : (ds w : List ℕ) → AreHigh ds → position_or_len (λ b. b == 32) (ds ++ 32 ∷ w) ≡ length ds
space-at [] w high = refl
space-at (b ∷ ds) w high = cond-true _ _ _ (not_from_false _ (differs b 32 high.0 (omega arith))) ∙ omega (arith, space-at ds w high.1)

take-front : (xs ys : List ℕ) → take (length xs) (xs ++ ys) ≡ xs
take-front [] ys = refl
take-front (x ∷ xs) ys = ap (λ zs. x ∷ zs) (take-front xs ys)

more : (n : ℕ) → suc n + 1 ≡ suc (n + 1)
more n = omega arith

drop-front : (xs : List ℕ) (y : ℕ) (ys : List ℕ) → drop (length xs + 1) (xs ++ y ∷ ys) ≡ ys
drop-front [] y ys = refl
drop-front (x ∷ xs) y ys = ap (λ n. drop n (x ∷ (xs ++ y ∷ ys))) (more (length xs)) ∙ drop-front xs y ys

is-below : (a b : ℕ) → a < b → nat_lt a b ≡ true
is-below a b low = grind (arith, nat_tests)

not-zero : (n : ℕ) → 0 < n → (n == 0) ≡ false
not-zero n some = grind (arith, nat_tests)

fields : (ds w : List ℕ) → AreHigh ds → 0 < length w → plain_fields_of (ds ++ 32 ∷ w) ≡ Some (ds, w)
fields ds w high some =
    rw (space-at ds w high, drop-front ds 32 w, take-front ds (32 ∷ w)) (cond-true (nat_lt 0 (length w)) (Some (ds, w)) None (is-below 0 (length w) some))

-- it is the event of its type, in the trace that the number names
pub decided-is : (n : ℕ) (typ : List ℕ) → n < 2 ^ 64 → 0 < length typ → IsUtf8 typ → is_plain_type typ ≡ true → decided_piece Plain (body n typ) ≡ Event typ (decimal n) 0
decided-is n typ small some utf8 fits =
    let long : (length (line_of (body n typ)) == 0) ≡ false =
    ap (λ (bs : List ℕ). length bs == 0) (line-is n typ some fits) ∙ not-zero (length (body n typ)) (omega (arith, length-append (decimal n) (32 ∷ typ))) in
    cond-false _ _ _ long
    ∙ (ap (λ (t : List ℕ). by_fields (plain_fields_of t)) (text-is n typ small some utf8 fits) ∙ ap by_fields (fields (decimal n) typ (high-decimal n small) some))

-- ---- all lines

-- bytes up to a line feed are a piece
piece-first : (part rest : List ℕ) → list_any is_feed part ≡ false → pieces (part ++ 10 ∷ rest) ≡ part ∷ pieces rest
piece-first [] rest none = refl
piece-first (b ∷ part) rest none =
    let parts = or_parts (is_feed b) (list_any is_feed part) none in
    cond-false _ _ _ parts.0 ∙ ap (on_first b) (piece-first part rest parts.1)

-- lines are cut where they end
pieces-of : (bodies : List (List ℕ)) → HaveNoFeed bodies → pieces (flat_map (λ (b : List ℕ). b ++ 10 ∷ []) bodies) ≡ bodies
pieces-of [] none = refl
pieces-of (b ∷ bodies) none =
    ap pieces (append_assoc b (10 ∷ []) (flat_map (λ (c : List ℕ). c ++ 10 ∷ []) bodies))
    ∙ (piece-first b (flat_map (λ (c : List ℕ). c ++ 10 ∷ []) bodies) none.0 ∙ ap (λ (ps : List (List ℕ)). b ∷ ps) (pieces-of bodies none.1))

module _ (n : KeyedEvent → ℕ) where
  -- the piece of an event
  abbrev pub body_of : KeyedEvent → List ℕ
  body_of e = body (n e) e.typ

  -- the event that it is read as
  abbrev pub again : KeyedEvent → KeyedEvent
  again e = event_of 0 0 (decimal (n e)) e.typ 0

  -- an event that a line in the plain form can have
  pub record IsPlain (e : KeyedEvent) : Type 0 where
    pub small : n e < 2 ^ 64
    pub some : 0 < length e.typ
    pub utf8 : IsUtf8 e.typ
    pub fits : is_plain_type e.typ ≡ true

  have-no-feed : (es : List KeyedEvent) → AllByRecursion IsPlain es → HaveNoFeed (map body_of es)
  have-no-feed [] all = tt
  have-no-feed (e ∷ es) all = (no-feed (n e) e.typ all.0.small all.0.fits, have-no-feed es all.1)

  pieces-read : (es : List KeyedEvent) → AllByRecursion IsPlain es → piece_events Plain 0 0 (map body_of es) ≡ map again es
  pieces-read [] all = refl
  pieces-read (e ∷ es) all =
      ap (λ (d : Decided). line_events 0 0 d ++ piece_events Plain 0 (section_after 0 d) (map body_of es)) (decided-is (n e) e.typ all.0.small all.0.some all.0.utf8 all.0.fits)
      ∙ ap (λ (rest : List KeyedEvent). again e ∷ rest) (pieces-read es all.1)

  -- the lines of events are read as these events again, each in the trace that its number names
  pub lines-read : (es : List KeyedEvent) → AllByRecursion IsPlain es → events_of plainly (flat_map (λ (b : List ℕ). b ++ 10 ∷ []) (map body_of es) ∷ []) ≡ map again es
  lines-read es all =
      append-nil _
      ∙ (ap (piece_events Plain 0 0) (pieces-of (map body_of es) (have-no-feed es all)) ∙ pieces-read es all)
