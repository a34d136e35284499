-- The lines of an input, as a reader of lines gives them.
use Rattle.std.proofs.Common.{◌≡◌, ℕ, suc, ◌+◌, ◌-◌, ◌<◌, ◌≤◌, ◌&&◌, ◌==◌, Bool, true, false, List, [], ◌∷◌, ◌++◌, length, take, nat_lt, cond, Option, Some, None, Result, Ok, Err, refl, sym, ap, ap₂, ◌∙◌, subst, arith, inr, ⊎_elim, append_assoc, append-nil, length-append, take_all, length-take, IsTrue}
use Rattle.std.proofs.lemmas.Bool.{cases_lt, cond-false}
use Rattle.std.proofs.lemmas.Bool.Decides.{nat_tests}
use Rattle.std.proofs.lemmas.Option.{none-some, same_Some}
use Rattle.std.proofs.Math.Seq.{take-append-add}
use Rattle.std.proofs.KnownBytes.{Consumes-trans, Consumes-nil}
use Rattle.std.specs.Io.KnownBytes.{Consumes, IsAtEnd}
use Rattle.std.specs.List.{list_any}
use Rattle.limits.specs.declared.TheConstants.{MAX_INPUT_BYTES, MAX_LINE_BYTES}
use Rattle.outside.specs.Counts.{Rose}
use Rattle.outside.specs.Inputs.{InputState, Stays}
use Rattle.outside.specs.Reading.{LosesFront}
use Rattle.lines.specs.Lines.{pieces, is_feed, line_of, with_feeds, HaveNoFeed}
use Rattle.log_reader.specs.Reading.{decided_piece, line_events, section_after, key_file, first_of, line_refusal, piece_refusal, at_line, pieces_refusal}
use Rattle.log_reader.specs.LineReader.{SeenLines, TellsLine, GivesLine, GivesNone, RefusesPiece, FailsToRead, NextGives, feed_if, feed_bytes, first_piece_refusal, refusal_to_come}
use Rattle.log_reader.specs.Files.{ReadsLines, RefusesLines, FailsWithin, known_rest}
use Rattle.log_reader.specs.SoFar.{IsRefusal}
use Rattle.log_reader.specs.LogLines.{Line, events_at}
use Rattle.log_reader.specs.Taking.{IsPiecesRefusal, RefusesLineOf, Taker, TakesLineOf, TakesPieces, piece_lines}
use Rattle.log_reader.specs.declared.line_error.LineError.{LineError}
use Rattle.log_reader.specs.declared.line_error.LineError.TheVariants.{ReadFault, TooLong, InputLimit}
use Rattle.log_reader.specs.declared.refusal.At.{At}
use Rattle.log_reader.specs.declared.refusal.ReadError.{ReadError}
use Rattle.log_reader.specs.declared.refusal.ReadError.TheVariants as refused
use Rattle.log_reader.proofs.Feeds.{piece-first, piece-alone}
use Rattle.log_reader.proofs.PieceByPiece.{IsPartWay, ReadsPiece, way-more, way-refused, reads-piece, piece-fits, few-more, some-pieces}

-- pieces with their line feeds stand before those of what follows
front-pieces : (front : List (List ℕ)) (rest : List ℕ) → HaveNoFeed front → pieces (with_feeds front ++ rest) ≡ front ++ pieces rest
front-pieces [] rest none = refl
front-pieces (part ∷ front) rest none =
    ap pieces (append_assoc part (10 ∷ with_feeds front) rest)
    ∙ (piece-first part (with_feeds front ++ rest) none.0 ∙ ap (λ ps. part ∷ ps) (front-pieces front rest none.1))

feeds-more : (front : List (List ℕ)) (part : List ℕ) → with_feeds (front ++ part ∷ []) ≡ with_feeds front ++ (part ++ 10 ∷ [])
feeds-more [] part = refl
feeds-more (p ∷ front) part =
    ap (λ bs. p ++ 10 ∷ bs) (feeds-more front part) ∙ sym (append_assoc p (10 ∷ with_feeds front) (part ++ 10 ∷ []))

no-feed-more : (front : List (List ℕ)) (part : List ℕ) → HaveNoFeed front → list_any is_feed part ≡ false → HaveNoFeed (front ++ part ∷ [])
no-feed-more [] part none last = (last, tt)
no-feed-more (p ∷ front) part none last = (none.0, no-feed-more front part none.1 last)

plus-one : (n : ℕ) → n + 1 ≡ suc n
plus-one n = omega arith

no-length : (n : ℕ) → 0 < n → (n == 0) ≡ false
no-length n some = grind (arith, nat_tests)

and-no : (a b : Bool) → (a ≡ true → b ≡ false) → (a && b) ≡ false
and-no true b rule = rule refl
and-no false b rule = refl

-- where a piece is left, it is not the last that a cut file has behind it
more-left : (cut : Bool) (piece : List ℕ) (rest : List (List ℕ)) → (cut && length (piece ∷ rest) == 0) ≡ false
more-left cut piece rest = and-no cut (length (piece ∷ rest) == 0) (λ is. no-length (length (piece ∷ rest)) (omega arith))

-- the lines before the next one were taken in
pub record IsReading (number : ℕ) (start now : InputState) (first lines : SeenLines) (old reader : Taker) : Type 0 where
  pub stays : Stays start now
  pub opens : now.opens ≡ start.opens
  pub turn : now.followed ≡ start.followed
  pub mark : now.mark ≡ start.mark
  pub faults : now.faults ≡ start.faults
  pub front : List (List ℕ)
  pub no_feed : HaveNoFeed front
  pub read : Consumes start.rest now.rest (with_feeds front ++ lines.buffered)
  pub taken : lines.taken ≡ first.taken + length (with_feeds front)
  pub within : lines.taken ≤ MAX_INPUT_BYTES
  pub refused : lines.refused ≡ false
  pub few : reader.section + (MAX_INPUT_BYTES - lines.taken) ≤ old.section + (MAX_INPUT_BYTES - first.taken)
  pub way : (cut : Bool) (rest : List (List ℕ)) → (cut && length rest == 0) ≡ false → IsPartWay number cut (front ++ rest) old reader (lines.number + 1) rest

way-begins : (number : ℕ) (old : Taker) (line : ℕ) → line ≡ 0 → old.ready → (cut : Bool) (rest : List (List ℕ)) → IsPartWay number cut rest old old (line + 1) rest
way-begins number old line zero_is ready cut rest =
    let s = old.setting in
    let first : line + 1 ≡ 1 = omega arith in
    record {
      ready = ready;
      setting = refl;
      section = refl;
      has = λ lines so_far. record {
        more = [];
        is = subst old.has (sym (append-nil lines)) so_far;
        refusal = ap₂ (λ ls n. pieces_refusal s number cut old.section (events_at s ls) n rest) (sym (append-nil lines)) (sym first);
        parts = ap (λ n. piece_lines s.form number old.section n rest) (sym first);
      };
    }

-- before the first line
pub reading-begins : (number : ℕ) (start : InputState) (first : SeenLines) (old : Taker) → old.ready → first.buffered ≡ [] → first.number ≡ 0 → first.refused ≡ false → first.taken ≤ MAX_INPUT_BYTES
    → IsReading number start start first first old old
reading-begins number start first old ready nothing zero_is unrefused within = record {
  stays = record { files = refl; may_fail = refl; faults = omega arith };
  opens = refl;
  turn = refl;
  mark = refl;
  faults = refl;
  front = [];
  no_feed = tt;
  read = subst (Consumes start.rest start.rest) (sym nothing) (Consumes-nil start.rest);
  taken = omega arith;
  within = within;
  refused = unrefused;
  few = omega arith;
  way = λ cut rest uncut. way-begins number old first.number zero_is ready cut rest;
}

-- a line that was read is a piece that was
line-piece : (number line : ℕ) (piece bytes : List ℕ) (old new : Taker) → bytes ≡ line_of piece → length piece ≤ MAX_LINE_BYTES
    → TakesLineOf (at_line number line) bytes old new → ReadsPiece (at_line number line) piece old new
line-piece number line piece bytes old new is short takes = reads-piece (at_line number line) piece old new short (takes piece (sym is))

-- one piece more, with the line feed that ends it or without
way-further : (number : ℕ) (front : List (List ℕ)) (old reader new : Taker) (line next : ℕ) (piece : List ℕ) → next ≡ line + 1
    → ((cut : Bool) (rest : List (List ℕ)) → (cut && length rest == 0) ≡ false → IsPartWay number cut (front ++ rest) old reader line rest)
    → ReadsPiece (at_line number line) piece reader new
    → (cut : Bool) (rest : List (List ℕ)) → (cut && length rest == 0) ≡ false → IsPartWay number cut ((front ++ piece ∷ []) ++ rest) old new next rest
way-further number front old reader new line next piece is way reads cut rest uncut =
    subst (λ n. IsPartWay number cut ((front ++ piece ∷ []) ++ rest) old new n rest) (sym is)
    (subst (λ all. IsPartWay number cut all old new (line + 1) rest) (sym (append_assoc front (piece ∷ []) rest))
    (way-more number cut (front ++ piece ∷ rest) old reader new line piece (piece ∷ rest) rest (way cut (piece ∷ rest) (more-left cut piece rest)) refl uncut reads))

-- all that was read, with the bytes of the line behind those before it
line-read : (start before after : InputState) (front : List (List ℕ)) (held got taken : List ℕ)
    → Consumes start.rest before.rest (with_feeds front ++ held) → Consumes before.rest after.rest got → held ++ got ≡ taken
    → Consumes start.rest after.rest (with_feeds front ++ taken)
line-read start before after front held got taken so_far read is =
    subst (Consumes start.rest after.rest) (append_assoc (with_feeds front) held got ∙ ap (λ bs. with_feeds front ++ bs) is)
    (Consumes-trans _ _ _ (with_feeds front ++ held) got so_far read)

with-feed : (front : List (List ℕ)) (piece rest : List ℕ) → with_feeds front ++ (piece ++ (10 ∷ [] ++ rest)) ≡ with_feeds (front ++ piece ∷ []) ++ rest
with-feed front piece rest =
    ap (λ bs. with_feeds front ++ bs) (sym (append_assoc piece (10 ∷ []) rest))
    ∙ (sym (append_assoc (with_feeds front) (piece ++ 10 ∷ []) rest) ∙ ap (λ bs. bs ++ rest) (sym (feeds-more front piece)))

feeds-length : (front : List (List ℕ)) (piece : List ℕ) → length (with_feeds (front ++ piece ∷ [])) ≡ length (with_feeds front) + (length piece + 1)
feeds-length front piece =
    ap length (feeds-more front piece) ∙ (length-append (with_feeds front) (piece ++ 10 ∷ []) ∙ ap (λ n. length (with_feeds front) + n) (length-append piece (10 ∷ [])))

-- a line with its line feed was taken in
pub reading-more : (number : ℕ) (start before after : InputState) (first lines next : SeenLines) (old reader new : Taker) (bytes : List ℕ)
    → IsReading number start before first lines old reader → Stays before after → after.opens ≡ before.opens → after.followed ≡ before.followed → after.mark ≡ before.mark
    → GivesLine lines next before after → next.taken ≤ MAX_INPUT_BYTES → next.line ≡ Some bytes → next.fed ≡ true
    → TakesLineOf (at_line number next.number) bytes reader new
    → IsReading number start after first next old new
reading-more number start before after first lines next old reader new bytes way stays opens turn mark gives within line fed reads =
    let piece = gives.piece in
    let is_line : bytes ≡ line_of piece = same_Some bytes (line_of piece) (sym line ∙ gives.line) in
    let at : TakesLineOf (at_line number (lines.number + 1)) bytes reader new =
    subst (λ n. TakesLineOf (at_line number n) bytes reader new) gives.number reads in
    let as_piece : ReadsPiece (at_line number (lines.number + 1)) piece reader new = line-piece number (lines.number + 1) piece bytes reader new is_line gives.short at in
    let feed : feed_if next.fed ≡ 10 ∷ [] = ap feed_if fed in
    let one : feed_bytes next.fed ≡ 1 = ap feed_bytes fed in
    record {
      stays = record { files = stays.files ∙ way.stays.files; may_fail = stays.may_fail ∙ way.stays.may_fail; faults = omega (arith, way.stays.faults, stays.faults) };
      opens = opens ∙ way.opens;
      turn = turn ∙ way.turn;
      mark = mark ∙ way.mark;
      faults = gives.faults ∙ way.faults;
      front = way.front ++ piece ∷ [];
      no_feed = no-feed-more way.front piece way.no_feed gives.no_feed;
      read = subst (Consumes start.rest after.rest) (with-feed way.front piece next.buffered)
          (line-read start before after way.front lines.buffered gives.got (piece ++ (10 ∷ [] ++ next.buffered)) way.read gives.read (gives.is ∙ ap (λ f. piece ++ (f ++ next.buffered)) feed));
      taken = omega (arith, gives.taken, way.taken, one, feeds-length way.front piece);
      within = within;
      refused = gives.refused;
      few = omega (
        arith,
        way.few,
        few-more reader new (at_line number (lines.number + 1)) piece as_piece (MAX_INPUT_BYTES - next.taken) (MAX_INPUT_BYTES - lines.taken) (old.section + (MAX_INPUT_BYTES - first.taken))
            (omega (arith, gives.taken, one, within)) way.few,
      );
      way = way-further number way.front old reader new (lines.number + 1) (next.number + 1) piece (ap (λ n. n + 1) gives.number) way.way as_piece;
    }

-- all pieces were taken in
all-read : (number : ℕ) (old new : Taker) (line : ℕ) (all : List (List ℕ)) → IsPartWay number false (all ++ []) old new line [] → TakesPieces number false all old new
all-read number old new line all way =
    let same : all ++ [] ≡ all = append-nil all in
    let at : IsPartWay number false all old new line [] = subst (λ ps. IsPartWay number false ps old new line []) same way in
    let s = old.setting in
    record {
      ready = at.ready;
      setting = at.setting;
      section = sym at.section;
      has = λ lines so_far.
          let part = at.has lines so_far in
          record {
            refusal = part.refusal;
            taken = subst (λ ls. new.has (lines ++ ls)) (sym (part.parts ∙ append-nil part.more)) part.is;
          };
    }

-- the input ends behind a line feed, or has no byte
pub reading-ends : (number : ℕ) (start before after : InputState) (first lines last : SeenLines) (old reader : Taker)
    → IsReading number start before first lines old reader → GivesNone lines last before after
    → ReadsLines start after number first last old reader
reading-ends number start before after first lines last old reader way none =
    let bytes = with_feeds way.front in
    let all : Consumes start.rest before.rest bytes = subst (Consumes start.rest before.rest) (ap (λ bs. bytes ++ bs) none.nothing ∙ append-nil bytes) way.read in
    let pieces_are : pieces bytes ≡ way.front = ap pieces (sym (append-nil bytes)) ∙ (front-pieces way.front [] way.no_feed ∙ append-nil way.front) in
    let taken : last.taken ≡ lines.taken = ap (λ (s : SeenLines). s.taken) none.same in
    record {
      bytes = bytes;
      read = subst (Consumes start.rest after.rest) (append-nil bytes) (Consumes-trans start.rest before.rest after.rest bytes [] all none.read);
      at_end = none.at_end;
      faults = none.faults ∙ way.faults;
      nothing = ap (λ (s : SeenLines). s.buffered) none.same ∙ none.nothing;
      refused = ap (λ (s : SeenLines). s.refused) none.same ∙ way.refused;
      taken = taken ∙ way.taken;
      within = omega (arith, taken, way.within);
      few = omega (arith, taken, way.few);
      pieces = subst (λ ps. TakesPieces number false ps old reader) (sym pieces_are) (all-read number old reader (lines.number + 1) way.front (way.way false [] refl));
    }

-- the input ends behind a line that no line feed ends
pub reading-ends-in-line : (number : ℕ) (start before after : InputState) (first lines next : SeenLines) (old reader new : Taker) (bytes : List ℕ)
    → IsReading number start before first lines old reader
    → GivesLine lines next before after → next.taken ≤ MAX_INPUT_BYTES → next.line ≡ Some bytes → next.fed ≡ false
    → TakesLineOf (at_line number next.number) bytes reader new
    → ReadsLines start after number first next old new
reading-ends-in-line number start before after first lines next old reader new bytes way gives within line unfed reads =
    let piece = gives.piece in
    let last = gives.last unfed in
    let is_line : bytes ≡ line_of piece = same_Some bytes (line_of piece) (sym line ∙ gives.line) in
    let at : TakesLineOf (at_line number (lines.number + 1)) bytes reader new =
    subst (λ n. TakesLineOf (at_line number n) bytes reader new) gives.number reads in
    let as_piece : ReadsPiece (at_line number (lines.number + 1)) piece reader new = line-piece number (lines.number + 1) piece bytes reader new is_line gives.short at in
    let all = way.front ++ piece ∷ [] in
    let whole : lines.buffered ++ gives.got ≡ piece = gives.is ∙ (ap₂ (λ f b. piece ++ (f ++ b)) (ap feed_if unfed) last.1 ∙ append-nil piece) in
    let none : feed_bytes next.fed ≡ 0 = ap feed_bytes unfed in
    let pieces_are : pieces (with_feeds way.front ++ piece) ≡ all = front-pieces way.front piece way.no_feed ∙ ap (λ ps. way.front ++ ps) (piece-alone piece gives.no_feed last.0) in
    record {
      bytes = with_feeds way.front ++ piece;
      read = line-read start before after way.front lines.buffered gives.got piece way.read gives.read whole;
      at_end = last.2;
      faults = gives.faults ∙ way.faults;
      nothing = last.1;
      refused = gives.refused;
      taken = omega (arith, gives.taken, way.taken, none, length-append (with_feeds way.front) piece);
      within = within;
      few = omega (
        arith,
        way.few,
        few-more reader new (at_line number (lines.number + 1)) piece as_piece (MAX_INPUT_BYTES - next.taken) (MAX_INPUT_BYTES - lines.taken) (old.section + (MAX_INPUT_BYTES - first.taken))
            (omega (arith, gives.taken, none, within, last.0)) way.few,
      );
      pieces = subst (λ ps. TakesPieces number false ps old new) (sym pieces_are)
          (all-read number old new (lines.number + 1 + 1) all (way-further number way.front old reader new (lines.number + 1) (lines.number + 1 + 1) piece refl way.way as_piece false [] refl));
    }

-- the pieces up to the limit, behind those that were taken in
cut-front : (front : List (List ℕ)) (room left : ℕ) (rest : List ℕ) → HaveNoFeed front → length (with_feeds front) + left ≡ room
    → pieces (take (room + 1) (with_feeds front ++ rest)) ≡ front ++ pieces (take (left + 1) rest)
cut-front front room left rest none is =
    let size : room + 1 ≡ length (with_feeds front) + (left + 1) = omega (arith, is) in
    ap (λ n. pieces (take n (with_feeds front ++ rest))) size
    ∙ (ap pieces (take-append-add (with_feeds front) rest (left + 1)) ∙ front-pieces front (take (left + 1) rest) none)

same-past : (front : List (List ℕ)) (room left : ℕ) (rest : List ℕ) → length (with_feeds front) + left ≡ room
    → nat_lt room (length (with_feeds front ++ rest)) ≡ nat_lt left (length rest)
same-past front room left rest is =
    ⊎_elim
    (λ (over : left < length rest). let past : room < length (with_feeds front ++ rest) = omega (arith, length-append (with_feeds front) rest, is) in grind (arith, nat_tests))
    (λ (within : length rest ≤ left). let inside : length (with_feeds front ++ rest) ≤ room = omega (arith, length-append (with_feeds front) rest, is) in grind (arith, nat_tests))
    (cases_lt left (length rest))

-- so a refusal behind the pieces that were taken in is one of the input
refusal-behind : (number : ℕ) (front : List (List ℕ)) (room left : ℕ) (content rest : List ℕ) (old : Taker) (e : ReadError) → HaveNoFeed front → length (with_feeds front) + left ≡ room
    → content ≡ with_feeds front ++ rest → IsPiecesRefusal number (nat_lt left (length rest)) (front ++ pieces (take (left + 1) rest)) old e
    → IsPiecesRefusal number (nat_lt room (length content)) (pieces (take (room + 1) content)) old e
refusal-behind number front room left content rest old e none is content_is refusal =
    subst (λ c. IsPiecesRefusal number (nat_lt room (length c)) (pieces (take (room + 1) c)) old e) (sym content_is)
    (subst (λ cut. IsPiecesRefusal number cut (pieces (take (room + 1) (with_feeds front ++ rest))) old e) (sym (same-past front room left rest is))
    (subst (λ ps. IsPiecesRefusal number (nat_lt left (length rest)) ps old e) (sym (cut-front front room left rest none is)) refusal))

-- a refusal of the first piece to come, as one of the line there
abbrev pub read_error : At → LineError → ReadError
read_error at TooLong = refused.LineTooLong at
read_error at InputLimit = refused.InputLimit
read_error at ReadFault = refused.InputLimit

either-refused : (long last : Bool) (at : At) (why : LineError) (other next : Option ReadError) → cond long (Some TooLong) (cond last (Some InputLimit) None) ≡ Some why
    → cond last (Some (cond long (refused.LineTooLong at) refused.InputLimit)) (first_of (cond long (Some (refused.LineTooLong at)) other) next) ≡ Some (read_error at why)
either-refused true true at why other next is = ap (λ w. Some (read_error at w)) (same_Some TooLong why is)
either-refused true false at why other next is = ap (λ w. Some (read_error at w)) (same_Some TooLong why is)
either-refused false true at why other next is = ap (λ w. Some (read_error at w)) (same_Some InputLimit why is)
either-refused false false at why other next is = absurd (none-some why is)

-- the bytes to come are pieces of which the first is refused
next-refused : (number : ℕ) (cut : Bool) (front ps : List (List ℕ)) (old reader : Taker) (line : ℕ) (why : LineError) (e : ReadError)
    → ((cut : Bool) (rest : List (List ℕ)) → (cut && length rest == 0) ≡ false → IsPartWay number cut (front ++ rest) old reader line rest)
    → first_piece_refusal cut ps ≡ Some why → e ≡ read_error (at_line number line) why
    → IsPiecesRefusal number cut (front ++ ps) old e
next-refused number cut front [] old reader line why e way is e_is = absurd (none-some why is)
next-refused number cut front (piece ∷ rest) old reader line why e way is e_is = λ lines so_far.
    let s = old.setting in
    let at = at_line number line in
    let d = decided_piece s.form piece in
    let part = (way cut (piece ∷ rest) (more-left cut piece rest)).has lines so_far in
    let es = events_at s (lines ++ part.more) in
    let next : Option ReadError = pieces_refusal s number cut (section_after reader.section d) (es ++ line_events (key_file s number) reader.section d) (line + 1) rest in
    let here : Option ReadError = line_refusal s.ignore at es d in
    inr (part.refusal ∙ (either-refused (nat_lt MAX_LINE_BYTES (length piece)) (cut && length rest == 0) at why here next is ∙ ap (λ (x : ReadError). Some x) (sym e_is)))

-- the bytes to come of an input, behind those that a call read
behind : (front : List (List ℕ)) (held got rest : List ℕ) → ((with_feeds front ++ held) ++ got) ++ rest ≡ with_feeds front ++ ((held ++ got) ++ rest)
behind front held got rest =
    ap (λ bs. bs ++ rest) (append_assoc (with_feeds front) held got) ∙ append_assoc (with_feeds front) (held ++ got) rest

room-left : (first taken front : ℕ) → taken ≡ first + front → taken ≤ MAX_INPUT_BYTES → front + (MAX_INPUT_BYTES - taken) ≡ MAX_INPUT_BYTES - first
room-left first taken front is within = omega arith

-- the next piece is refused
pub reading-refused : (number : ℕ) (start before after : InputState) (first lines last : SeenLines) (old reader : Taker) (why : LineError) (e : ReadError)
    → IsReading number start before first lines old reader → RefusesPiece lines last before after why → e ≡ read_error (at_line number (lines.number + 1)) why
    → RefusesLines start after number first old e
reading-refused number start before after first lines last old reader why e way refuses e_is =
    let rest = (lines.buffered ++ refuses.got) ++ known_rest after.rest in
    record {
      bytes = (with_feeds way.front ++ lines.buffered) ++ refuses.got;
      read = Consumes-trans start.rest before.rest after.rest (with_feeds way.front ++ lines.buffered) refuses.got way.read refuses.read;
      faults = refuses.faults ∙ way.faults;
      refusal = refusal-behind number way.front (MAX_INPUT_BYTES - first.taken) (MAX_INPUT_BYTES - lines.taken) _ rest old e way.no_feed
          (room-left first.taken lines.taken (length (with_feeds way.front)) way.taken way.within)
          (behind way.front lines.buffered refuses.got (known_rest after.rest))
          (next-refused number (nat_lt (MAX_INPUT_BYTES - lines.taken) (length rest)) way.front (pieces (take (MAX_INPUT_BYTES - lines.taken + 1) rest)) old reader (lines.number + 1) why e way.way
          (refuses.refusal (known_rest after.rest)) e_is);
    }

-- no bytes are known behind an end
rest-at-end : (rest : Option (List ℕ)) → IsAtEnd rest → known_rest rest ≡ []
rest-at-end None at_end = refl
rest-at-end (Some rest) at_end = at_end

past-is : (a b : ℕ) → nat_lt a b ≡ true → a < b
past-is a b is = grind (arith, nat_tests)

within-is : (a b : ℕ) → b ≤ a → nat_lt a b ≡ false
within-is a b within = grind (arith, nat_tests)

-- the first piece of bytes, where a limit on them lies behind it and its line feed: it is not the one with the byte past the limit
pub record StandsFirst (left : ℕ) (piece bytes : List ℕ) : Type 0 where
  pub after : List (List ℕ)
  pub are : pieces (take (left + 1) bytes) ≡ piece ∷ after
  pub uncut : (nat_lt left (length bytes) && length after == 0) ≡ false

-- a piece that fits the limit with its line feed stands so, whatever stands behind it
pub stands-first : (left : ℕ) (piece rest : List ℕ) (fed : Bool) → list_any is_feed piece ≡ false → length piece + feed_bytes fed ≤ left → (fed ≡ false → (0 < length piece) × (rest ≡ []))
    → StandsFirst left piece (piece ++ (feed_if fed ++ rest))
stands-first left piece rest true none fits last =
    let bytes = piece ++ 10 ∷ rest in
    let k = left - length piece in
    let later = take k rest in
    let size : left + 1 ≡ length piece + (k + 1) = omega arith in
    let step : take (k + 1) (10 ∷ rest) ≡ 10 ∷ later = ap (λ n. take n (10 ∷ rest)) (plus-one k) in
    record {
      after = pieces later;
      are = ap (λ n. pieces (take n bytes)) size ∙ (ap pieces (take-append-add piece (10 ∷ rest) (k + 1) ∙ ap (λ bs. piece ++ bs) step) ∙ piece-first piece later none);
      uncut = and-no (nat_lt left (length bytes)) _ (λ past.
          no-length (length (pieces later)) (some-pieces later (omega (arith, past-is left (length bytes) past, length-append piece (10 ∷ rest), length-take k rest))));
    }
stands-first left piece rest false none fits last =
    let parts = last refl in
    let same : piece ++ rest ≡ piece = ap (λ bs. piece ++ bs) parts.1 ∙ append-nil piece in
    subst (StandsFirst left piece) (sym same) (record {
      after = [];
      are = ap pieces (take_all (left + 1) piece (omega arith)) ∙ piece-alone piece none parts.0;
      uncut = ap (λ c. c && true) (within-is left (length piece) (omega arith));
    })

-- a piece is refused, and what follows it does not matter
refused-piece : (number left line : ℕ) (front : List (List ℕ)) (piece bytes : List ℕ) (old reader : Taker) (e : ReadError) → StandsFirst left piece bytes
    → ((cut : Bool) (rest : List (List ℕ)) → (cut && length rest == 0) ≡ false → IsPartWay number cut (front ++ rest) old reader line rest)
    → ((ls : List Line) → reader.has ls → IsRefusal (piece_refusal reader.setting (at_line number line) (events_at reader.setting ls) piece) e)
    → IsPiecesRefusal number (nat_lt left (length bytes)) (front ++ pieces (take (left + 1) bytes)) old e
refused-piece number left line front piece bytes old reader e first way refusal =
    let cut = nat_lt left (length bytes) in
    subst (λ ps. IsPiecesRefusal number cut (front ++ ps) old e) (sym first.are)
    (way-refused number cut (front ++ piece ∷ first.after) old reader line piece (piece ∷ first.after) first.after e (way cut (piece ∷ first.after) (more-left cut piece first.after)) refl first.uncut refusal)

-- the line that was given is refused, or memory was wanted
pub reading-refused-at : (number : ℕ) (start before after : InputState) (first lines next : SeenLines) (old reader : Taker) (bytes : List ℕ) (e : ReadError)
    → IsReading number start before first lines old reader → GivesLine lines next before after → next.taken ≤ MAX_INPUT_BYTES → next.line ≡ Some bytes
    → RefusesLineOf (at_line number next.number) bytes reader e
    → RefusesLines start after number first old e
reading-refused-at number start before after first lines next old reader bytes e way gives within line refusal =
    let piece = gives.piece in
    let s = reader.setting in
    let rest = next.buffered ++ known_rest after.rest in
    let is_line : bytes ≡ line_of piece = same_Some bytes (line_of piece) (sym line ∙ gives.line) in
    let here : (ls : List Line) → reader.has ls → IsRefusal (piece_refusal s (at_line number (lines.number + 1)) (events_at s ls) piece) e = λ ls has.
    subst (λ n. IsRefusal (piece_refusal s (at_line number n) (events_at s ls) piece) e) gives.number
    (subst (λ o. IsRefusal o e) (sym (piece-fits s (at_line number next.number) (events_at s ls) piece gives.short)) (refusal piece (sym is_line) ls has)) in
    let to_come : (lines.buffered ++ gives.got) ++ known_rest after.rest ≡ piece ++ (feed_if next.fed ++ rest) =
    ap (λ bs. bs ++ known_rest after.rest) gives.is
    ∙ (append_assoc piece (feed_if next.fed ++ next.buffered) (known_rest after.rest) ∙ ap (λ bs. piece ++ bs) (append_assoc (feed_if next.fed) next.buffered (known_rest after.rest))) in
    record {
      bytes = (with_feeds way.front ++ lines.buffered) ++ gives.got;
      read = Consumes-trans start.rest before.rest after.rest (with_feeds way.front ++ lines.buffered) gives.got way.read gives.read;
      faults = gives.faults ∙ way.faults;
      refusal = refusal-behind number way.front (MAX_INPUT_BYTES - first.taken) (MAX_INPUT_BYTES - lines.taken) _ (piece ++ (feed_if next.fed ++ rest)) old e way.no_feed
          (room-left first.taken lines.taken (length (with_feeds way.front)) way.taken way.within)
          (behind way.front lines.buffered gives.got (known_rest after.rest) ∙ ap (λ bs. with_feeds way.front ++ bs) to_come)
          (refused-piece number (MAX_INPUT_BYTES - lines.taken) (lines.number + 1) way.front piece (piece ++ (feed_if next.fed ++ rest)) old reader e
          (stands-first (MAX_INPUT_BYTES - lines.taken) piece rest next.fed gives.no_feed (omega (arith, gives.taken, within))
          (λ unfed. ((gives.last unfed).0, ap₂ (λ (xs ys : List ℕ). xs ++ ys) (gives.last unfed).1 (rest-at-end after.rest (gives.last unfed).2))))
          way.way here);
    }

-- a read failed
pub reading-fails : (number : ℕ) (start before after : InputState) (first lines last : SeenLines) (old reader : Taker) (e : ReadError)
    → IsReading number start before first lines old reader → FailsToRead lines last before after → e ≡ refused.ReadFault number
    → FailsWithin start after number first e
reading-fails number start before after first lines last old reader e way fails e_is =
    let bytes = (with_feeds way.front ++ lines.buffered) ++ fails.got in
    record {
      answer = e_is;
      rose = subst (λ n. Rose n after.faults) way.faults fails.rose;
      mark = subst IsTrue way.mark fails.mark;
      left = (
        bytes,
        omega (arith, ap length (append_assoc (with_feeds way.front) lines.buffered fails.got), length-append (with_feeds way.front) (lines.buffered ++ fails.got), fails.few, way.taken, way.within),
        Consumes-trans start.rest before.rest after.rest (with_feeds way.front ++ lines.buffered) fails.got way.read fails.read,
      );
    }

-- what a call read, and that it is within the limit on all input, or has one byte past it
pub record ReadsSome (lines : SeenLines) (before after : InputState) : Type 0 where
  pub got : List ℕ
  pub read : Consumes before.rest after.rest got
  pub few : lines.taken + length (lines.buffered ++ got) ≤ MAX_INPUT_BYTES + 1

feed-size : (fed : Bool) → length (feed_if fed) ≡ feed_bytes fed
feed-size true = refl
feed-size false = refl

refused-some : (lines next : SeenLines) (before after : InputState) (e : LineError) → next.taken + length next.buffered ≤ MAX_INPUT_BYTES + 1 → RefusesPiece lines next before after e
    → ReadsSome lines before after
refused-some lines next before after e within refuses =
    let taken : next.taken ≡ lines.taken = ap (λ (s : SeenLines). s.taken) refuses.leaves in
    let bytes : next.buffered ≡ lines.buffered ++ refuses.got = ap (λ (s : SeenLines). s.buffered) refuses.leaves in
    record { got = refuses.got; read = refuses.read; few = omega (arith, within, taken, ap length bytes) }

-- so it is at each answer of a call
pub reads-some : (lines next : SeenLines) (before after : InputState) (result : Result Bool LineError) → next.taken + length next.buffered ≤ MAX_INPUT_BYTES + 1
    → NextGives lines before result next after → ReadsSome lines before after
reads-some lines next before after (Ok true) within gives =
    let all : length (lines.buffered ++ gives.got) ≡ length gives.piece + (feed_bytes next.fed + length next.buffered) =
    ap length gives.is
    ∙ (length-append gives.piece (feed_if next.fed ++ next.buffered)
    ∙ ap (λ n. length gives.piece + n) (length-append (feed_if next.fed) next.buffered ∙ ap (λ n. n + length next.buffered) (feed-size next.fed))) in
    record { got = gives.got; read = gives.read; few = omega (arith, within, gives.taken, all) }
reads-some lines next before after (Ok false) within none =
    let taken : next.taken ≡ lines.taken = ap (λ (s : SeenLines). s.taken) none.same in
    let bytes : lines.buffered ++ [] ≡ [] = ap (λ bs. bs ++ []) none.nothing in
    record { got = []; read = none.read; few = omega (arith, within, taken, ap length bytes) }
reads-some lines next before after (Err ReadFault) within fails = record { got = fails.got; read = fails.read; few = fails.few }
reads-some lines next before after (Err TooLong) within refuses = refused-some lines next before after TooLong within refuses
reads-some lines next before after (Err InputLimit) within refuses = refused-some lines next before after InputLimit within refuses

-- a front of the input is gone, from its first line on
pub front-lost : (number : ℕ) (start before after : InputState) (first lines next : SeenLines) (old reader : Taker) (result : Result Bool LineError)
    → IsReading number start before first lines old reader → next.taken + length next.buffered ≤ MAX_INPUT_BYTES + 1 → NextGives lines before result next after
    → LosesFront start.rest after.rest (MAX_INPUT_BYTES - first.taken)
front-lost number start before after first lines next old reader result way within gives =
    let some = reads-some lines next before after result within gives in (
      (with_feeds way.front ++ lines.buffered) ++ some.got,
      omega (arith, ap length (append_assoc (with_feeds way.front) lines.buffered some.got), length-append (with_feeds way.front) (lines.buffered ++ some.got), some.few, way.taken, way.within),
      Consumes-trans start.rest before.rest after.rest (with_feeds way.front ++ lines.buffered) some.got way.read some.read,
    )

left-of : (before after : Option (List ℕ)) (rest got : List ℕ) → before ≡ Some rest → Consumes before after got → (left : List ℕ) × (after ≡ Some left) × (rest ≡ got ++ left)
left-of before after rest got told read = by after (subst (λ o. Consumes o after got) told read)
  where
    by : (after : Option (List ℕ)) → Consumes (Some rest) after got → (left : List ℕ) × (after ≡ Some left) × (rest ≡ got ++ left)
    by None read = absurd read
    by (Some left) read = (left, refl, read)

allowed : (left : ℕ) (piece bytes : List ℕ) → length piece ≤ MAX_LINE_BYTES → StandsFirst left piece bytes → first_piece_refusal (nat_lt left (length bytes)) (pieces (take (left + 1) bytes)) ≡ None
allowed left piece bytes short first =
    let cut = nat_lt left (length bytes) in
    ap (first_piece_refusal cut) first.are
    ∙ (cond-false (nat_lt MAX_LINE_BYTES (length piece)) _ _ (within-is MAX_LINE_BYTES (length piece) short) ∙ cond-false (cut && length first.after == 0) _ _ first.uncut)

cut-pieces : (piece rest : List ℕ) (fed : Bool) → list_any is_feed piece ≡ false → (fed ≡ false → (0 < length piece) × (rest ≡ [])) → pieces (piece ++ (feed_if fed ++ rest)) ≡ piece ∷ pieces rest
cut-pieces piece rest true none last = piece-first piece rest none
cut-pieces piece rest false none last =
    let parts = last refl in
    ap (λ bs. pieces (piece ++ bs)) parts.1 ∙ (ap pieces (append-nil piece) ∙ (piece-alone piece none parts.0 ∙ ap (λ bs. piece ∷ pieces bs) (sym parts.1)))

end-is : (rest left : List ℕ) (after : Option (List ℕ)) → after ≡ Some left → IsAtEnd after → left ≡ []
end-is rest left after is at_end = subst IsAtEnd is at_end

-- a line that is given is the first of the bytes to come, and those behind it are still to come
pub tells-line : (old new : SeenLines) (before after : InputState) (rest : List ℕ) → before.rest ≡ Some rest → GivesLine old new before after → TellsLine old new rest after.rest
tells-line old new before after rest told gives =
    let piece = gives.piece in
    let parts = left-of before.rest after.rest rest gives.got told gives.read in
    let left = parts.0 in
    let behind = new.buffered ++ left in
    let to_come : old.buffered ++ rest ≡ piece ++ (feed_if new.fed ++ behind) =
    ap (λ bs. old.buffered ++ bs) parts.2 ∙ (sym (append_assoc old.buffered gives.got left) ∙ (ap (λ bs. bs ++ left) gives.is
    ∙ (append_assoc piece (feed_if new.fed ++ new.buffered) left ∙ ap (λ bs. piece ++ bs) (append_assoc (feed_if new.fed) new.buffered left)))) in
    let last : new.fed ≡ false → (0 < length piece) × (behind ≡ []) = λ unfed.
    let ends = gives.last unfed in (ends.0, ap₂ (λ (xs ys : List ℕ). xs ++ ys) ends.1 (end-is rest left after.rest parts.1 ends.2)) in
    record {
      left = left;
      is_left = parts.1;
      piece = piece;
      first = ap pieces to_come ∙ cut-pieces piece behind new.fed gives.no_feed last;
      line = gives.line;
      taken = omega (arith, gives.taken, ap length to_come, length-append piece (feed_if new.fed ++ behind), length-append (feed_if new.fed) behind, feed-size new.fed);
      allowed = ap (refusal_to_come old.taken) to_come
          ∙ allowed (MAX_INPUT_BYTES - old.taken) piece (piece ++ (feed_if new.fed ++ behind)) gives.short
          (stands-first (MAX_INPUT_BYTES - old.taken) piece behind new.fed gives.no_feed (omega (arith, gives.taken, gives.within)) last);
    }

-- where no line is given no byte is to come
pub tells-none : (old new : SeenLines) (before after : InputState) (rest : List ℕ) → before.rest ≡ Some rest → GivesNone old new before after → old.buffered ++ rest ≡ []
tells-none old new before after rest told none =
    let parts = left-of before.rest after.rest rest [] told none.read in
    ap₂ (λ (xs ys : List ℕ). xs ++ ys) none.nothing (parts.2 ∙ end-is rest parts.0 after.rest parts.1 none.at_end)

-- a refusal is the first in the bytes to come
pub tells-refusal : (old new : SeenLines) (before after : InputState) (rest : List ℕ) (e : LineError) → before.rest ≡ Some rest → RefusesPiece old new before after e
    → refusal_to_come old.taken (old.buffered ++ rest) ≡ Some e
tells-refusal old new before after rest e told refuses =
    let parts = left-of before.rest after.rest rest refuses.got told refuses.read in
    ap (refusal_to_come old.taken) (ap (λ bs. old.buffered ++ bs) parts.2 ∙ sym (append_assoc old.buffered refuses.got parts.0)) ∙ refuses.refusal parts.0
