-- The buffer of a reader of lines.
use Rattle.std.proofs.Common.{◌≡◌, ℕ, ◌+◌, ◌-◌, ◌<◌, ◌≤◌, ◌==◌, Bool, true, false, nat_lt, List, [], ◌∷◌, ◌++◌, length, take, drop, Option, Some, None, refl, sym, ap, ap₂, ◌∙◌, subst, arith, ⊎_elim, length-take, length-drop, length-append, length-take-le, take_all, append-nil, append_assoc, take-append-drop, true≢false, Err}
use Rattle.std.proofs.lemmas.Bool.{cases_Bool, cases_lt, cond-true, cond-false}
use Rattle.std.proofs.lemmas.Bool.Decides.{nat_tests}
use Rattle.std.proofs.lemmas.List.{take-take, drop-drop, drop-take, drop_all, get_or-take, get_or-drop}
use Rattle.std.proofs.lemmas.Option.{none-some}
use Rattle.std.proofs.Math.Seq.{take-add, take-append-add}
use Rattle.std.proofs.KnownBytes.{Consumes-trans}
use Rattle.std.specs.Io.KnownBytes.{Consumes, IsAtEnd}
use Rattle.std.specs.List.{list_any, slice_index, position_or_len}
use Rattle.limits.specs.declared.TheConstants.{MAX_INPUT_BYTES, MAX_LINE_BYTES}
use Rattle.outside.specs.Inputs.{InputState, Stays}
use Rattle.lines.specs.Lines.{is_feed, line_of, pieces}
use Rattle.log_reader.specs.LineReader.{SeenLines, with_more, without_line, feed_if, feed_bytes, first_piece_refusal, refusal_to_come, GivesLine, NextGives}
use Rattle.log_reader.specs.Buffers.{part_of, line_in, IsClean, IsLineWithin, IsSound, ReadsMore, FindsEnd, IsWithinLimits, PassesLimit}
use Rattle.log_reader.specs.declared.line_reader.buffer.TheConstants.{BUFFER_BYTES}
use Rattle.log_reader.specs.declared.cut.Cut.{Cut}
use Rattle.log_reader.specs.declared.line_error.LineError.{LineError}
use Rattle.log_reader.specs.declared.line_error.LineError.TheVariants.{ReadFault, TooLong, InputLimit}
use Rattle.log_reader.specs.declared.cut.Extent.{Extent}
use Rattle.log_reader.proofs.Feeds.{IsLong, none-before, feed-at, reached-more, piece-first, piece-alone, first-long}

-- what contracts see of the fields
abbrev pub seen : List ℕ → ℕ → ℕ → Option Extent → Bool → ℕ → ℕ → Bool → SeenLines
seen buf from to line fed number taken refused = record {
  buffered = part_of buf from to;
  line = line_in buf line;
  fed = fed;
  number = number;
  taken = taken;
  refused = refused;
}

same-none : (buf other : List ℕ) (line : Option Extent) → line_in buf line ≡ None → line_in other line ≡ line_in buf line
same-none buf other None none = refl
same-none buf other (Some part) none = absurd (none-some _ (sym none))

-- bytes were read behind those at the front
pub filled : (buf a b : List ℕ) (from to held count : ℕ) (line : Option Extent) (fed : Bool) (number taken : ℕ) (refused : Bool) → held ≡ to - from
    → take held a ≡ part_of buf from to → take held b ≡ take held a → line_in buf line ≡ None
    → seen b 0 (held + count) line fed number taken refused ≡ with_more (seen buf from to line fed number taken refused) (take count (drop held b))
filled buf a b from to held count line fed number taken refused is front stays none =
    let whole : held + count - 0 ≡ held + count = omega arith in
    let bytes : part_of b 0 (held + count) ≡ part_of buf from to ++ take count (drop held b) =
    ap (λ n. take n b) whole ∙ (take-add held count b ∙ ap (λ bs. bs ++ take count (drop held b)) (stays ∙ front)) in
    ap₂ (λ (bs : List ℕ) (l : Option (List ℕ)). record { buffered = bs; line = l; fed = fed; number = number; taken = taken; refused = refused }) bytes (same-none buf b line none)

some-got : (b : List ℕ) (held count : ℕ) → held + count ≤ length b → nat_lt 0 count ≡ true → 0 < length (take count (drop held b))
some-got b held count inside some =
    let more : 0 < count = grind (arith, nat_tests) in
    omega (arith, length-take count (drop held b), length-drop held b)

none-got : (count : ℕ) → nat_lt 0 count ≡ false → count ≡ 0
none-got count none = grind (arith, nat_tests)

-- what a read behind what is buffered makes of the reader
pub reads-more : (old new : SeenLines) (before after : InputState) (b : List ℕ) (held count : ℕ)
    → new ≡ with_more old (take count (drop held b)) → held + count ≤ length b
    → Consumes before.rest after.rest (take count (drop held b)) → (count ≡ 0 → IsAtEnd after.rest) → after.faults ≡ before.faults
    → ReadsMore old new before after (nat_lt 0 count)
reads-more old new before after b held count is inside read at_end faults = record {
  got = take count (drop held b);
  read = read;
  faults = faults;
  leaves = is;
  some = some-got b held count inside;
  none = λ none. let zero_is = none-got count none in (ap (λ n. take n (drop held b)) zero_is, at_end zero_is);
}

-- bytes behind clean ones are clean
pub clean-more : (buf part : List ℕ) (clean_from held to : ℕ) → part ≡ take (to - held) (drop held buf) → IsClean clean_from held buf → ((i : ℕ) → slice_index part i < 128) → IsClean clean_from to buf
clean-more buf part clean_from held to is before new i from below = ⊎_elim
    (λ (old : i < held). before i from old)
    (λ (after : held ≤ i).
    let at : i - held < to - held = omega arith in
    let place : held + (i - held) ≡ i = omega arith in
    omega (arith, new (i - held), ap (λ (xs : List ℕ). slice_index xs (i - held)) is, get_or-take (to - held) (drop held buf) (i - held) 0 at, get_or-drop held buf (i - held) 0, ap (λ n. slice_index buf n) place))
    (cases_lt i held)

-- bytes that were moved to the front are as clean as they were, also after a read behind them
pub moved-clean : (buf a b now : List ℕ) (from to clean_from clean : ℕ) → clean ≡ clean_from - from → take (to - from) a ≡ part_of buf from to → take (to - from) b ≡ take (to - from) a → now ≡ b → IsClean clean_from to buf
    → IsClean clean (to - from) now
moved-clean buf a b now from to clean_from clean is front stays same before i low below =
    let at : slice_index now i ≡ slice_index b i = ap (λ (xs : List ℕ). slice_index xs i) same in
    omega (arith, at, before (from + i) (omega arith) (omega arith), ap (λ (xs : List ℕ). slice_index xs i) (stays ∙ front), get_or-take (to - from) b i 0 below, get_or-take (to - from) (drop from buf) i 0 below, get_or-drop from buf i 0)

no-line : (buf : List ℕ) (line : Option Extent) (size : ℕ) → line_in buf line ≡ None → IsLineWithin size line
no-line buf None size none = tt
no-line buf (Some part) size none = absurd (none-some _ (sym none))

-- a buffer whose bytes stand at the front is sound
pub sound-at-front : (buf now : List ℕ) (from to end : ℕ) (line : Option Extent) (number taken : ℕ) → IsSound buf from to line number taken → length now ≡ length buf → line_in buf line ≡ None
    → end ≤ BUFFER_BYTES → taken + end ≤ MAX_INPUT_BYTES + 1 → IsSound now 0 end line number taken
sound-at-front buf now from to end line number taken sound same none inside within = record {
  size = same ∙ sound.size;
  order = omega arith;
  inside = inside;
  placed = no-line buf line end none;
  counted = sound.counted;
  limit = sound.limit;
  within = omega (arith, within);
}

-- a line at the front of some bytes
pub line-at-front : (n : ℕ) (bytes : List ℕ) → take (length (line_of (take n bytes))) bytes ≡ line_of (take n bytes)
line-at-front n bytes =
    let piece = take n bytes in
    let few : length piece ≤ n = omega (arith, length-take n bytes) in
    let alone : take (length piece) bytes ≡ piece = short n bytes in
    ⊎_elim
    (λ (back : (slice_index piece (length piece - 1) == 13) ≡ true).
    let is : line_of piece ≡ take (length piece - 1) piece = cond-true (slice_index piece (length piece - 1) == 13) (take (length piece - 1) piece) piece back in
    let size : length (take (length piece - 1) piece) ≡ length piece - 1 = length-take-le (length piece - 1) piece (omega arith) in
    ap (λ l. take (length l) bytes) is ∙ (ap (λ k. take k bytes) size ∙ (sym (take-take (length piece - 1) n bytes (omega (arith, few))) ∙ sym is)))
    (λ (none : (slice_index piece (length piece - 1) == 13) ≡ false).
    let is : line_of piece ≡ piece = cond-false (slice_index piece (length piece - 1) == 13) (take (length piece - 1) piece) piece none in
    ap (λ l. take (length l) bytes) is ∙ (alone ∙ sym is))
    (cases_Bool (slice_index piece (length piece - 1) == 13))
  where
    short : (n : ℕ) (bytes : List ℕ) → take (length (take n bytes)) bytes ≡ take n bytes
    short n bytes = ⊎_elim
        (λ (below : n < length bytes). ap (λ k. take k bytes) (length-take-le n bytes (omega arith)))
        (λ (past : length bytes ≤ n). ap (λ l. take (length l) bytes) (take_all n bytes past) ∙ (take_all (length bytes) bytes (omega arith) ∙ sym (take_all n bytes past)))
        (cases_lt n (length bytes))

-- what is left of a part behind its first bytes
pub part-behind : (buf : List ℕ) (from to used : ℕ) → used ≤ to - from → part_of buf (from + used) to ≡ drop used (part_of buf from to)
part-behind buf from to used within =
    let size : to - from ≡ used + (to - (from + used)) = omega arith in
    ap (λ bs. take (to - (from + used)) bs) (sym (drop-drop used from buf))
    ∙ (sym (drop-take used (to - (from + used)) (drop from buf)) ∙ ap (λ n. drop used (take n (drop from buf))) (sym size))

-- the line of a piece at the front of a part
pub line-in-part : (buf line : List ℕ) (from to length_is : ℕ) → length_is ≤ to - from → line ≡ line_of (take (from + length_is - from) (drop from buf))
    → part_of buf from (from + length line) ≡ line_of (take length_is (part_of buf from to))
line-in-part buf line from to n within is =
    let rest = drop from buf in
    let size : from + n - from ≡ n = omega arith in
    let whole : from + length line - from ≡ length line = omega arith in
    let is_line : line ≡ line_of (take n rest) = is ∙ ap (λ k. line_of (take k rest)) size in
    ap (λ k. take k rest) whole ∙ (ap (λ l. take (length l) rest) is_line ∙ (line-at-front n rest ∙ ap line_of (sym (take-take n (to - from) rest within))))

-- what is left, and the line, where a piece is taken from the front
pub took : (buf line : List ℕ) (from to used number taken : ℕ) (kept : Option Extent) (old_fed refused : Bool) (cut : Cut) (old : SeenLines)
    → seen buf from to kept old_fed number taken refused ≡ old → used ≡ cut.length + feed_bytes cut.fed → used ≤ to - from
    → line ≡ line_of (take (from + cut.length - from) (drop from buf))
    → ◌≡◌ {A = SeenLines}
    (record { buffered = part_of buf (from + used) to; line = Some (part_of buf from (from + length line)); fed = cut.fed; number = number + 1; taken = taken + used; refused = refused })
    (record {
      buffered = drop (cut.length + feed_bytes cut.fed) old.buffered;
      line = Some (line_of (take cut.length old.buffered));
      fed = cut.fed;
      number = old.number + 1;
      taken = old.taken + (cut.length + feed_bytes cut.fed);
      refused = old.refused;
    })
took buf line from to used number taken kept old_fed refused cut old is size within line_is =
    let F : List ℕ → List ℕ → ℕ → SeenLines = λ b l t. record { buffered = b; line = Some l; fed = cut.fed; number = number + 1; taken = t; refused = refused } in
    let after : SeenLines → SeenLines = λ s. record {
      buffered = drop (cut.length + feed_bytes cut.fed) s.buffered;
      line = Some (line_of (take cut.length s.buffered));
      fed = cut.fed;
      number = s.number + 1;
      taken = s.taken + (cut.length + feed_bytes cut.fed);
      refused = s.refused;
    } in
    let left : part_of buf (from + used) to ≡ drop (cut.length + feed_bytes cut.fed) (part_of buf from to) = part-behind buf from to used within ∙ ap (λ n. drop n (part_of buf from to)) size in
    let line_at : part_of buf from (from + length line) ≡ line_of (take cut.length (part_of buf from to)) = line-in-part buf line from to cut.length (omega arith) line_is in
    ap (λ b. F b (part_of buf from (from + length line)) (taken + used)) left
    ∙ (ap (λ l. F (drop (cut.length + feed_bytes cut.fed) (part_of buf from to)) l (taken + used)) line_at
    ∙ (ap (λ n. F (drop (cut.length + feed_bytes cut.fed) (part_of buf from to)) (line_of (take cut.length (part_of buf from to))) (taken + n)) size
    ∙ ap after is))

-- a reader that searches for the end of the first piece to come: no line feed stands before the place that was reached
pub record IsSearching (first now : SeenLines) (before after : InputState) (searched : ℕ) : Type 0 where
  pub stays : Stays before after
  pub mark : after.mark ≡ before.mark
  pub opens : after.opens ≡ before.opens
  pub turn : after.followed ≡ before.followed
  pub faults : after.faults ≡ before.faults
  pub got : List ℕ
  pub read : Consumes before.rest after.rest got
  pub leaves : now ≡ with_more first got
  pub inside : searched ≤ length now.buffered
  pub reached : searched ≤ position_or_len is_feed now.buffered

consumes-none : (bytes : Option (List ℕ)) → Consumes bytes bytes []
consumes-none None = tt
consumes-none (Some bytes) = refl

-- the end of a short line is found without a read
pub finds-near : (s : SeenLines) (state : InputState) (n : ℕ) → n ≡ position_or_len is_feed s.buffered → n < length s.buffered
    → IsWithinLimits s.taken (record { length = n; fed = true }) → FindsEnd s s state state (record { length = n; fed = true })
finds-near s state n first inside limits = record {
  got = [];
  read = consumes-none state.rest;
  faults = refl;
  leaves = ap (λ (bs : List ℕ). record s { buffered = bs }) (sym (append-nil s.buffered));
  first = first;
  inside = omega (arith, inside);
  at_end = λ unfed. absurd (true≢false unfed);
  limits = limits;
}

-- the search ends where a line feed was found
pub finds-feed : (first now : SeenLines) (before after : InputState) (searched n taken : ℕ) (cut : Cut) → IsSearching first now before after searched → taken ≡ now.taken
    → (cut ≡ record { length = n; fed = true }) × IsWithinLimits taken (record { length = n; fed = true }) → n ≡ position_or_len is_feed now.buffered → n < length now.buffered
    → FindsEnd first now before after cut
finds-feed first now before after searched n taken cut way same ok at inside =
    subst (λ (k : Cut). FindsEnd first now before after k) (sym ok.0) (record {
      got = way.got;
      read = way.read;
      faults = way.faults;
      leaves = way.leaves;
      first = at;
      inside = omega (arith, inside);
      at_end = λ unfed. absurd (true≢false unfed);
      limits = subst (λ (t : ℕ). IsWithinLimits t (record { length = n; fed = true })) (same ∙ ap (λ (s : SeenLines). s.taken) way.leaves) ok.1;
    })

-- a reader that searches has no line
pub searches-without-line : (first now : SeenLines) (before after : InputState) (searched : ℕ) → first ≡ without_line first → IsSearching first now before after searched → now ≡ without_line now
searches-without-line first now before after searched line way =
    subst (λ (s : SeenLines). s ≡ without_line s) (sym way.leaves) (ap (λ s. with_more s way.got) line)

-- where no line feed was found and bytes were read, the search goes on behind those that were searched
pub searches-on : (first now next : SeenLines) (before mid after : InputState) (searched length_is : ℕ) (some : Bool) → IsSearching first now before mid searched
    → Stays mid after → after.mark ≡ mid.mark → after.opens ≡ mid.opens → after.followed ≡ mid.followed → ReadsMore now next mid after some
    → length_is ≡ length now.buffered → position_or_len is_feed now.buffered ≡ length now.buffered
    → IsSearching first next before after length_is
searches-on first now next before mid after searched n some way stays mark opens turn more is none =
    let bytes : next.buffered ≡ now.buffered ++ more.got = ap (λ (s : SeenLines). s.buffered) more.leaves in
    record {
      stays = record { files = stays.files ∙ way.stays.files; may_fail = stays.may_fail ∙ way.stays.may_fail; faults = omega (arith, way.stays.faults, stays.faults) };
      mark = mark ∙ way.mark;
      opens = opens ∙ way.opens;
      turn = turn ∙ way.turn;
      faults = more.faults ∙ way.faults;
      got = way.got ++ more.got;
      read = Consumes-trans before.rest mid.rest after.rest way.got more.got way.read more.read;
      leaves = more.leaves ∙ (ap (λ s. with_more s more.got) way.leaves
          ∙ ap (λ (bs : List ℕ). record first { buffered = bs }) (append_assoc first.buffered way.got more.got));
      inside = omega (arith, ap length bytes, length-append now.buffered more.got);
      reached = omega (arith, ap (position_or_len is_feed) bytes, reached-more now.buffered more.got none);
    }

past : (a b : ℕ) → a < b → nat_lt a b ≡ true
past a b over = grind (arith, nat_tests)

not-past : (a b : ℕ) → b ≤ a → nat_lt a b ≡ false
not-past a b within = grind (arith, nat_tests)

-- the bytes up to the limit begin with those that were read
up-to-limit : (bytes more : List ℕ) (taken : ℕ) → taken + length bytes ≤ MAX_INPUT_BYTES + 1
    → take (MAX_INPUT_BYTES - taken + 1) (bytes ++ more) ≡ bytes ++ take (MAX_INPUT_BYTES - taken + 1 - length bytes) more
up-to-limit bytes more taken within =
    let size : MAX_INPUT_BYTES - taken + 1 ≡ length bytes + (MAX_INPUT_BYTES - taken + 1 - length bytes) = omega arith in
    ap (λ n. take n (bytes ++ more)) size ∙ take-append-add bytes more (MAX_INPUT_BYTES - taken + 1 - length bytes)

refused-long : (cut : Bool) (n : ℕ) (ps : List (List ℕ)) → MAX_LINE_BYTES < n → IsLong n ps → first_piece_refusal cut ps ≡ Some TooLong
refused-long cut n ps over first =
    ap (first_piece_refusal cut) first.is ∙ cond-true (nat_lt MAX_LINE_BYTES (length first.piece)) _ _ (past MAX_LINE_BYTES (length first.piece) (omega (arith, first.long)))

-- a piece that is longer than a line may be is refused as too long
too-long : (bytes more : List ℕ) (taken n : ℕ) → taken + length bytes ≤ MAX_INPUT_BYTES + 1 → n ≡ position_or_len is_feed bytes → n ≤ length bytes → MAX_LINE_BYTES < n
    → refusal_to_come taken (bytes ++ more) ≡ Some TooLong
too-long bytes more taken n within first inside over =
    let rest = take (MAX_INPUT_BYTES - taken + 1 - length bytes) more in
    let none : list_any is_feed (take n bytes) ≡ false = none-before bytes n (omega arith) in
    let size : length (take n bytes) ≡ n = length-take-le n bytes inside in
    let parts : (take n bytes ++ (drop n bytes ++ rest)) ≡ bytes ++ rest = sym (append_assoc (take n bytes) (drop n bytes) rest) ∙ ap (λ bs. bs ++ rest) (take-append-drop n bytes) in
    let long : IsLong (length (take n bytes)) (pieces (take (MAX_INPUT_BYTES - taken + 1) (bytes ++ more))) =
    subst (λ bs. IsLong (length (take n bytes)) (pieces bs)) (parts ∙ sym (up-to-limit bytes more taken within)) (first-long (take n bytes) (drop n bytes ++ rest) none (omega (arith, size))) in
    refused-long (nat_lt (MAX_INPUT_BYTES - taken) (length (bytes ++ more))) (length (take n bytes)) (pieces (take (MAX_INPUT_BYTES - taken + 1) (bytes ++ more))) (omega (arith, size)) long

refused-last : (cut : Bool) (piece : List ℕ) (ps : List (List ℕ)) → cut ≡ true → length piece ≤ MAX_LINE_BYTES → ps ≡ piece ∷ [] → first_piece_refusal cut ps ≡ Some InputLimit
refused-last cut piece ps is short are =
    ap₂ first_piece_refusal is are ∙ cond-false (nat_lt MAX_LINE_BYTES (length piece)) _ _ (not-past MAX_LINE_BYTES (length piece) short)

-- the bytes that end with a line feed, or have none
last-piece : (bytes : List ℕ) (n : ℕ) (fed : Bool) → n ≡ position_or_len is_feed bytes → n + feed_bytes fed ≡ length bytes → 0 < length bytes → pieces bytes ≡ take n bytes ∷ []
last-piece bytes n true first whole some =
    let none : list_any is_feed (take n bytes) ≡ false = none-before bytes n (omega arith) in
    let nothing : drop (n + 1) bytes ≡ [] = drop_all (n + 1) bytes (omega arith) in
    let is : bytes ≡ take n bytes ++ 10 ∷ [] = sym (take-append-drop n bytes) ∙ ap (λ bs. take n bytes ++ bs) (feed-at bytes n first (omega arith) ∙ ap (λ bs. 10 ∷ bs) nothing) in
    ap pieces is ∙ piece-first (take n bytes) [] none
last-piece bytes n false first whole some =
    let all : take n bytes ≡ bytes = take_all n bytes (omega arith) in
    let none : list_any is_feed bytes ≡ false = subst (λ bs. list_any is_feed bs ≡ false) all (none-before bytes n (omega arith)) in
    piece-alone bytes none some ∙ ap (λ bs. bs ∷ []) (sym all)

-- a piece with the byte past the limit on all input is refused for the limit
past-limit : (bytes more : List ℕ) (taken n : ℕ) (fed : Bool) → taken ≤ MAX_INPUT_BYTES → taken + length bytes ≤ MAX_INPUT_BYTES + 1 → n ≡ position_or_len is_feed bytes → n + feed_bytes fed ≤ length bytes
    → n ≤ MAX_LINE_BYTES → MAX_INPUT_BYTES < taken + n + feed_bytes fed → refusal_to_come taken (bytes ++ more) ≡ Some InputLimit
past-limit bytes more taken n fed limit within first inside short over =
    let room = MAX_INPUT_BYTES - taken in
    let size : room + 1 - length bytes ≡ 0 = omega arith in
    let are : take (room + 1) (bytes ++ more) ≡ bytes = up-to-limit bytes more taken within ∙ (ap (λ k. bytes ++ take k more) size ∙ append-nil bytes) in
    let cut : nat_lt room (length (bytes ++ more)) ≡ true = past room (length (bytes ++ more)) (omega (arith, length-append bytes more)) in
    refused-last (nat_lt room (length (bytes ++ more))) (take n bytes) (pieces (take (room + 1) (bytes ++ more))) cut (omega (arith, length-take n bytes))
    (ap pieces are ∙ last-piece bytes n fed first (omega arith) (omega arith))

-- the search ends with a refusal
pub misses-end : (first now : SeenLines) (before after : InputState) (searched taken : ℕ) (cut : Cut) (e : LineError)
    → first ≡ without_line first → IsSearching first now before after searched → taken ≡ now.taken → taken ≤ MAX_INPUT_BYTES → taken + length now.buffered ≤ MAX_INPUT_BYTES + 1
    → cut.length ≡ position_or_len is_feed now.buffered → cut.length + feed_bytes cut.fed ≤ length now.buffered → PassesLimit taken cut e
    → NextGives first before (Err e) (record now { refused = true }) after
misses-end first now before after searched taken cut ReadFault line way same limit within at inside passes = absurd passes
misses-end first now before after searched taken cut TooLong line way same limit within at inside passes =
    let bytes : now.buffered ≡ first.buffered ++ way.got = ap (λ (s : SeenLines). s.buffered) way.leaves in
    let old_taken : taken ≡ first.taken = same ∙ ap (λ (s : SeenLines). s.taken) way.leaves in
    record {
      got = way.got;
      read = way.read;
      faults = way.faults;
      refusal = λ more. ap₂ (λ (t : ℕ) (bs : List ℕ). refusal_to_come t (bs ++ more)) (sym old_taken) (sym bytes)
          ∙ too-long now.buffered more taken cut.length within at (omega arith) passes;
      leaves = ap (λ (s : SeenLines). record s { refused = true }) (way.leaves ∙ ap (λ s. with_more s way.got) line);
    }
misses-end first now before after searched taken cut InputLimit line way same limit within at inside passes =
    let bytes : now.buffered ≡ first.buffered ++ way.got = ap (λ (s : SeenLines). s.buffered) way.leaves in
    let old_taken : taken ≡ first.taken = same ∙ ap (λ (s : SeenLines). s.taken) way.leaves in
    record {
      got = way.got;
      read = way.read;
      faults = way.faults;
      refusal = λ more. ap₂ (λ (t : ℕ) (bs : List ℕ). refusal_to_come t (bs ++ more)) (sym old_taken) (sym bytes)
          ∙ past-limit now.buffered more taken cut.length cut.fed limit within at inside passes.0 passes.1;
      leaves = ap (λ (s : SeenLines). record s { refused = true }) (way.leaves ∙ ap (λ s. with_more s way.got) line);
    }

-- the piece and the line feed that ends it are the front of what is buffered
cut-is : (bytes : List ℕ) (n : ℕ) (fed : Bool) → n ≡ position_or_len is_feed bytes → n + feed_bytes fed ≤ length bytes
    → bytes ≡ take n bytes ++ (feed_if fed ++ drop (n + feed_bytes fed) bytes)
cut-is bytes n true first inside = sym (take-append-drop n bytes) ∙ ap (λ bs. take n bytes ++ bs) (feed-at bytes n first (omega arith))
cut-is bytes n false first inside =
    let same : n ≡ n + 0 = omega arith in
    sym (take-append-drop n bytes) ∙ ap (λ k. take n bytes ++ drop k bytes) same

no-less : (n : ℕ) (fed : Bool) → 0 < n + feed_bytes fed → fed ≡ false → 0 < n
no-less n true some unfed = absurd (true≢false unfed)
no-less n false some unfed = omega arith

-- a line is given where the end of its piece was found
pub gives-line : (old mid new : SeenLines) (before after : InputState) (cut : Cut) → old.refused ≡ false → FindsEnd (without_line old) mid before after cut
    → new ≡ record {
      buffered = drop (cut.length + feed_bytes cut.fed) mid.buffered;
      line = Some (line_of (take cut.length mid.buffered));
      fed = cut.fed;
      number = mid.number + 1;
      taken = mid.taken + (cut.length + feed_bytes cut.fed);
      refused = mid.refused;
    }
    → 0 < cut.length + feed_bytes cut.fed → GivesLine old new before after
gives-line old mid new before after cut unrefused found is some =
    let n = cut.length in
    let bytes : mid.buffered ≡ old.buffered ++ found.got = ap (λ (s : SeenLines). s.buffered) found.leaves in
    let number : mid.number ≡ old.number = ap (λ (s : SeenLines). s.number) found.leaves in
    let taken : mid.taken ≡ old.taken = ap (λ (s : SeenLines). s.taken) found.leaves in
    let size : length (take n mid.buffered) ≡ n = length-take-le n mid.buffered (omega (arith, found.inside)) in
    subst (λ s. GivesLine old s before after) (sym is) (record {
      got = found.got;
      read = found.read;
      faults = found.faults;
      piece = take n mid.buffered;
      is = sym bytes ∙ cut-is mid.buffered n cut.fed found.first found.inside;
      no_feed = none-before mid.buffered n (omega (arith, found.first));
      last = λ unfed. (
        omega (arith, size, no-less n cut.fed some unfed),
        drop_all (n + feed_bytes cut.fed) mid.buffered (omega (arith, (found.at_end unfed).0)),
        (found.at_end unfed).1,
      );
      line = refl;
      short = omega (arith, size, found.limits.short);
      number = ap (λ k. k + 1) number;
      taken = omega (arith, taken, size);
      within = omega (arith, taken, found.limits.within);
      refused = ap (λ (s : SeenLines). s.refused) found.leaves ∙ unrefused;
    })
