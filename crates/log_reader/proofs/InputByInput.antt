-- The inputs of a log, one by one.
use Rattle.std.proofs.Common.{◌≡◌, ℕ, zero, suc, ◌+◌, ◌-◌, ◌^◌, ◌<◌, ◌≤◌, min, max, nat_lt, Bool, false, List, [], ◌∷◌, ◌++◌, length, map, take, drop, inr, ⊎_elim, Option, Some, None, option_map, refl, sym, ap, ap₂, ◌∙◌, subst, arith, append-nil, append_assoc, length-append}
use Rattle.std.proofs.lemmas.Bool.{cond-false}
use Rattle.std.proofs.lemmas.Bool.Decides.{nat_tests}
use Rattle.std.proofs.lemmas.Option.{none-some, same_Some, slice_get_within}
use Rattle.std.specs.Io.KnownBytes.{IsAtEnd}
use Rattle.std.specs.List.{slice_get}
use Rattle.std.proofs.lemmas.List.{length-map, take_all}
use Rattle.std.proofs.lemmas.List.Sums.{sum_by_push}
use Rattle.std.proofs.Math.Seq.{take-append_seam}
use Rattle.std.specs.Prelude.{IsSomeAnd}
use Rattle.outside.specs.Counts.{next_call}
use Rattle.outside.specs.Inputs.{Files, InputState, Stays, bytes_of}
use Rattle.outside.specs.Reading.{IfTold, LosesFront, OpensNamed, OpensNone}
use Rattle.outside.specs.Turns.{in_turn, all_in_turn, followed_to_end, OpensInTurn, OpensFirst}
use Rattle.outside.proofs.Turns.{all_in_turn-append, closes}
use Rattle.limits.specs.declared.TheConstants.{MAX_INPUT_BYTES}
use Rattle.lines.specs.Lines.{pieces}
use Rattle.traces.specs.Words.{Event as KeyedEvent, Gathering, Log, gathered_of, in_order, log_of}
use Rattle.log_reader.specs.Reading.{Setting, piece_events, section_at_end, key_file, next_section, first_of, files_refusal, first_refusal}
use Rattle.log_reader.specs.Inputs.{inputs_of, with_content, told_contents, lacking, first_lacking, SomeContents, ReadsLog, LeavesRoom, StopsWithin, file_past, opens_after}
use Rattle.log_reader.specs.SoFar.{IsGatheredOf}
use Rattle.log_reader.specs.LogLines.{Line, events_at, lines_of, total_bytes}
use Rattle.log_reader.specs.Taking.{Taker, files_lines, piece_lines}
use Rattle.log_reader.proofs.LinesOfLog.{events-behind, events-own, met-lines}
use Rattle.log_reader.specs.Files.{HasContent, FileIsRead, OpensFile, OpensOne, ReadsFile, ReadsInputs}
use Rattle.log_reader.specs.declared.refusal.ReadError.{ReadError}

-- where files are told, the first ones of the named have these bytes
abbrev pub HasContents : Option Files → List (List ℕ) → ℕ → List (List ℕ) → Type 0
HasContents None names count contents = Unit {0}
HasContents (Some files) names count contents =
    (told_contents files names ≡ contents ++ told_contents files (drop count names)) × (first_lacking files names ≡ option_map (λ n. n + count) (first_lacking files (drop count names)))

-- so many of the named inputs were read
pub record IsUpTo (s : Setting) (names : List (List ℕ)) (count : ℕ) (old now : InputState) (reader : Taker) (room : ℕ) : Type 0 where
  pub stays : Stays old now
  pub faults : now.faults ≡ old.faults
  pub none : count ≡ 0 → now.opens ≡ old.opens
  pub some : 0 < count → now.opens ≡ min (old.opens + count) (2 ^ 64 - 1)
  pub at_end : 0 < count → IsAtEnd now.rest
  pub turn : followed_to_end now ≡ all_in_turn old.files (followed_to_end old) (take count names)
  pub last : 0 < count → IsSomeAnd (slice_get names (count - 1)) (StopsWithin names (count - 1) old now)
  pub ready : reader.ready
  pub setting : reader.setting ≡ s
  pub few : reader.section + room ≤ MAX_INPUT_BYTES
  pub contents : List (List ℕ)
  pub many : length contents ≡ count
  pub before : total_bytes contents + room ≡ MAX_INPUT_BYTES
  pub told : HasContents old.files names count contents
  pub lines : List Line
  pub has : reader.has lines
  pub past : (rest : List (List ℕ)) → file_past MAX_INPUT_BYTES (contents ++ rest) ≡ option_map (λ n. n + count) (file_past room rest)
  pub refusal : (rest : List (List ℕ)) → first_refusal s (contents ++ rest) ≡ files_refusal s count reader.section (events_at s lines) room rest
  pub parts : (rest : List (List ℕ)) → files_lines s 0 0 (contents ++ rest) ≡ lines ++ files_lines s count reader.section rest

drop-at : (names : List (List ℕ)) (k : ℕ) (name : List ℕ) → slice_get names k ≡ Some name → drop k names ≡ name ∷ drop (suc k) names
drop-at [] k name at = absurd (none-some name at)
drop-at (x ∷ names) zero name at = ap (λ n. n ∷ names) (same_Some x name at)
drop-at (x ∷ names) (suc k) name at = drop-at names k name at

-- the named inputs from one on are it and those behind it
pub next-name : (names : List (List ℕ)) (k : ℕ) (name : List ℕ) → slice_get names k ≡ Some name → drop k names ≡ name ∷ drop (k + 1) names
next-name names k name at = let one : suc k ≡ k + 1 = omega arith in drop-at names k name at ∙ ap (λ n. name ∷ drop n names) one

at-end : (names : List (List ℕ)) → drop (length names) names ≡ []
at-end [] = refl
at-end (x ∷ names) = at-end names

plus-zero : (o : Option ℕ) → option_map (λ n. n + 0) o ≡ o
plus-zero None = refl
plus-zero (Some n) = ap (λ (k : ℕ). Some k) (omega arith)

contents-none : (told : Option Files) (names : List (List ℕ)) → HasContents told names 0 []
contents-none None names = tt
contents-none (Some files) names = (refl, sym (plus-zero (first_lacking files names)))

-- before the first input none was read
pub up-to-none : (s : Setting) (names : List (List ℕ)) (old : InputState) (reader : Taker) → reader.ready → reader.setting ≡ s → reader.section ≡ 0 → reader.has []
    → IsUpTo s names 0 old old reader MAX_INPUT_BYTES
up-to-none s names old reader ready setting section has = record {
  stays = record { files = refl; may_fail = refl; faults = omega arith };
  faults = refl;
  none = λ _. refl;
  some = λ some. absurd (omega arith);
  at_end = λ some. absurd (omega arith);
  turn = refl;
  last = λ some. absurd (omega arith);
  ready = ready;
  setting = setting;
  few = omega arith;
  contents = [];
  many = refl;
  before = omega arith;
  told = contents-none old.files names;
  lines = [];
  has = has;
  past = λ rest. sym (plus-zero (file_past MAX_INPUT_BYTES rest));
  refusal = λ rest. ap (λ n. files_refusal s 0 n [] MAX_INPUT_BYTES rest) (sym section);
  parts = λ rest. ap (λ n. files_lines s 0 n rest) (sym section);
}

plus-one : (k : ℕ) (o : Option ℕ) → option_map (λ n. n + k) (option_map (λ n. n + 1) o) ≡ option_map (λ n. n + (k + 1)) o
plus-one k None = refl
plus-one k (Some n) = ap (λ (k : ℕ). Some k) (omega arith)

contents-more : (told : Option Files) (names : List (List ℕ)) (k : ℕ) (contents : List (List ℕ)) (name content : List ℕ) → slice_get names k ≡ Some name
    → HasContents told names k contents → HasContent told name content → HasContents told names (k + 1) (contents ++ content ∷ [])
contents-more None names k contents name content at so_far has = tt
contents-more (Some files) names k contents name content at so_far has =
    let later = drop (k + 1) names in (
      so_far.0 ∙ (ap (λ ns. contents ++ told_contents files ns) (next-name names k name at) ∙ (ap (λ o. contents ++ with_content o (told_contents files later)) has ∙ sym (append_assoc contents (content ∷ []) (told_contents files later)))),
      so_far.1 ∙ (ap (λ ns. option_map (λ n. n + k) (first_lacking files ns)) (next-name names k name at) ∙ (ap (λ o. option_map (λ n. n + k) (lacking o (first_lacking files later))) has ∙ plus-one k (first_lacking files later))),
    )

-- a number that is within is not past
not-past : (room n : ℕ) → n ≤ room → nat_lt room n ≡ false
not-past room n within = grind (arith, nat_tests)

-- one more than so many were opened
pub opens-next : (a b c k : ℕ) → (k ≡ 0 → b ≡ a) → (0 < k → b ≡ min (a + k) (2 ^ 64 - 1)) → c ≡ next_call b → c ≡ min (a + (k + 1)) (2 ^ 64 - 1)
opens-next a b c zero none some next = let same : b ≡ a = none refl in omega arith
opens-next a b c (suc k) none some next = let sum : b ≡ min (a + suc k) (2 ^ 64 - 1) = some (omega arith) in omega arith

-- so many were opened, so no more opens are counted
pub opened-few : (a b k : ℕ) → (k ≡ 0 → b ≡ a) → (0 < k → b ≡ min (a + k) (2 ^ 64 - 1)) → b ≤ a + k
opened-few a b zero none some = let same : b ≡ a = none refl in omega arith
opened-few a b (suc k) none some = let sum : b ≡ min (a + suc k) (2 ^ 64 - 1) = some (omega arith) in omega arith

-- so many were opened, none among them
pub opened-so : (a b k : ℕ) → (k ≡ 0 → b ≡ a) → (0 < k → b ≡ min (a + k) (2 ^ 64 - 1)) → b ≡ opens_after a k
opened-so a b zero none some = none refl
opened-so a b (suc k) none some = some (omega arith)

-- so many inputs and one more were opened
pub opened-next : (a b c k : ℕ) → (k ≡ 0 → b ≡ a) → (0 < k → b ≡ min (a + k) (2 ^ 64 - 1)) → c ≡ next_call b → c ≡ opens_after a (k + 1)
opened-next a b c k none some next =
    let one : suc k ≡ k + 1 = omega arith in
    let sum : c ≡ min (a + suc k) (2 ^ 64 - 1) = opens-next a b c k none some next ∙ ap (λ n. min (a + n) (2 ^ 64 - 1)) (sym one) in
    subst (λ n. c ≡ opens_after a n) one sum

-- what stays from one state to the next stays over both
pub stays-on : (a b c : InputState) → Stays a b → Stays b c → Stays a c
stays-on a b c p q = record { files = q.files ∙ p.files; may_fail = q.may_fail ∙ p.may_fail; faults = omega (arith, p.faults, q.faults) }

take-content : (o : Option (List ℕ)) (all some : List (List ℕ)) (k : ℕ) → some ≡ take k all → with_content o some ≡ take (suc k) (with_content o all)
take-content None all some k is = refl
take-content (Some bytes) all some k is = ap (λ (l : List (List ℕ)). bytes ∷ l) is

-- the bytes of the first so many of the named files are the first so many of all
told-take : (files : Files) (names : List (List ℕ)) (k : ℕ) → told_contents files (take k names) ≡ take k (told_contents files names)
told-take files names zero = refl
told-take files [] (suc k) = refl
told-take files (name ∷ names) (suc k) = take-content (bytes_of files name) (told_contents files names) (told_contents files (take k names)) k (told-take files names k)

-- where files are told, the first so many of the named, which have these bytes, leave so much room
leaves-room : (told : Option Files) (names : List (List ℕ)) (k : ℕ) (contents : List (List ℕ)) (room : ℕ) → HasContents told names k contents → length contents ≡ k
    → total_bytes contents + room ≡ MAX_INPUT_BYTES → LeavesRoom told (take k names) room
leaves-room None names k contents room has many sum = tt
leaves-room (Some files) names k contents room has many sum =
    let later = told_contents files (drop k names) in
    let own : told_contents files (take k names) ≡ contents =
    told-take files names k ∙ (ap (take k) has.0 ∙ (ap (λ n. take n (contents ++ later)) (sym many) ∙ take-append_seam contents later)) in
    ap (λ (bytes : List (List ℕ)). total_bytes bytes + room) own ∙ sum

-- the inputs that were read leave so much room
pub room-before : (s : Setting) (names : List (List ℕ)) (k : ℕ) (old now : InputState) (reader : Taker) (room : ℕ) → IsUpTo s names k old now reader room → LeavesRoom old.files (take k names) room
room-before s names k old now reader room so_far = leaves-room old.files names k so_far.contents room so_far.told so_far.many so_far.before

-- the input that is open, from the first input on
pub stops-within : (s : Setting) (names : List (List ℕ)) (k : ℕ) (old before after : InputState) (reader : Taker) (room : ℕ) (name : List ℕ)
    → IsUpTo s names k old before reader room → slice_get names k ≡ Some name → OpensNamed before after name room → IsSomeAnd (slice_get names k) (StopsWithin names k old after)
stops-within s names k old before after reader room name so_far at named =
    subst (λ o. IsSomeAnd o (StopsWithin names k old after)) (sym at) (record {
      opens = opened-next old.opens before.opens after.opens k so_far.none so_far.some named.opens;
      mark = named.mark ∙ ap (λ (f : List ℕ → Bool). f name) so_far.stays.may_fail;
      room = room;
      before = room-before s names k old before reader room so_far;
      left = subst (λ f. IfTold f name (λ content. LosesFront (Some content) after.rest room)) so_far.stays.files named.left;
    })

take-at : (names : List (List ℕ)) (k : ℕ) (name : List ℕ) → slice_get names k ≡ Some name → take (suc k) names ≡ take k names ++ name ∷ []
take-at [] k name at = absurd (none-some name at)
take-at (x ∷ names) zero name at = ap (λ (n : List ℕ). n ∷ []) (same_Some x name at)
take-at (x ∷ names) (suc k) name at = ap (λ (ns : List (List ℕ)). x ∷ ns) (take-at names k name at)

-- one name more in turn
turn-next : (s : Setting) (names : List (List ℕ)) (k : ℕ) (old before after : InputState) (reader : Taker) (room : ℕ) (name : List ℕ)
    → IsUpTo s names k old before reader room → slice_get names k ≡ Some name → OpensInTurn (name ∷ []) before after → OpensInTurn (take (k + 1) names) old after
turn-next s names k old before after reader room name so_far at turn =
    let one : suc k ≡ k + 1 = omega arith in
    turn
    ∙ (ap (λ (f : Option Files). in_turn f name (followed_to_end before)) so_far.stays.files
    ∙ (ap (λ (n : Option ℕ). in_turn old.files name n) so_far.turn
    ∙ (sym (all_in_turn-append old.files (followed_to_end old) (take k names) (name ∷ []))
    ∙ ap (λ (ns : List (List ℕ)). all_in_turn old.files (followed_to_end old) ns) (sym (take-at names k name at) ∙ ap (λ n. take n names) one))))

-- one input more was read
pub up-to-more : (s : Setting) (names : List (List ℕ)) (k : ℕ) (old before after : InputState) (reader new : Taker) (room left : ℕ) (name : List ℕ)
    → IsUpTo s names k old before reader room → slice_get names k ≡ Some name → Stays before after → ReadsFile before after name k room left reader new
    → OpensOne name room before after → IsUpTo s names (k + 1) old after new left
up-to-more s names k old before after reader new room left name so_far at stays reads one =
    let content = reads.content in
    let section = reader.section in
    let lines = so_far.lines in
    let is_read : FileIsRead s k room section content lines new.has = subst (λ t. FileIsRead t k room section content lines new.has) so_far.setting (reads.has lines so_far.has) in
    let next : new.section ≡ next_section s (section_at_end s.form section (pieces content)) = subst (λ (t : Setting). new.section ≡ next_section t (section_at_end t.form section (pieces content))) so_far.setting reads.section in
    let more = piece_lines s.form k section 1 (pieces content) in
    let events : events_at s lines ++ piece_events s.form (key_file s k) section (pieces content) ≡ events_at s (lines ++ more) = sym (events-behind s k section lines (pieces content)) in
    let left_is : room - length content ≡ left = omega (arith, reads.room_left) in
    let within : length content ≤ room = omega (arith, reads.room_left) in
    let fits : nat_lt room (length content) ≡ false = not-past room (length content) within in
    let total : total_bytes (so_far.contents ++ content ∷ []) ≡ total_bytes so_far.contents + length content = sum_by_push length so_far.contents content in
    record {
      stays = stays-on old before after so_far.stays stays;
      faults = reads.faults ∙ so_far.faults;
      none = λ none. absurd (omega arith);
      some = λ some. opens-next old.opens before.opens after.opens k so_far.none so_far.some reads.opens;
      at_end = λ some. reads.at_end;
      turn = closes after reads.at_end ∙ turn-next s names k old before after reader room name so_far at one.1;
      last = λ some.
          let same : k ≡ k + 1 - 1 = omega arith in
          subst (λ n. IsSomeAnd (slice_get names n) (StopsWithin names n old after)) same (stops-within s names k old before after reader room name so_far at one.0);
      ready = reads.ready;
      setting = reads.setting ∙ so_far.setting;
      few = omega (arith, reads.few, so_far.few);
      contents = so_far.contents ++ content ∷ [];
      many = omega (arith, length-append so_far.contents (content ∷ []), so_far.many);
      before = omega (arith, total, so_far.before, reads.room_left);
      told = contents-more old.files names k so_far.contents name content at so_far.told (subst (λ f. HasContent f name content) so_far.stays.files reads.told);
      lines = lines ++ more;
      has = is_read.taken;
      past = λ rest.
          ap (file_past MAX_INPUT_BYTES) (append_assoc so_far.contents (content ∷ []) rest)
          ∙ (so_far.past (content ∷ rest)
          ∙ (ap (option_map (λ n. n + k)) (cond-false (nat_lt room (length content)) (Some 0) (option_map (λ n. n + 1) (file_past (room - length content) rest)) fits)
          ∙ (plus-one k (file_past (room - length content) rest) ∙ ap (λ r. option_map (λ n. n + (k + 1)) (file_past r rest)) left_is)));
      refusal = λ rest.
          let later : ℕ → ℕ → List KeyedEvent → Option ReadError = λ n r es. files_refusal s (k + 1) n es r rest in
          ap (first_refusal s) (append_assoc so_far.contents (content ∷ []) rest)
          ∙ (so_far.refusal (content ∷ rest)
          ∙ (ap (λ o. first_of o (later (next_section s (section_at_end s.form section (pieces content))) (room - length content) (events_at s lines ++ piece_events s.form (key_file s k) section (pieces content)))) is_read.refusal
          ∙ (ap₂ (λ n r. later n r (events_at s lines ++ piece_events s.form (key_file s k) section (pieces content))) (sym next) left_is ∙ ap (later new.section left) events)));
      parts = λ rest.
          ap (files_lines s 0 0) (append_assoc so_far.contents (content ∷ []) rest)
          ∙ (so_far.parts (content ∷ rest)
          ∙ (ap (λ n. lines ++ (more ++ files_lines s (k + 1) n rest)) (sym next) ∙ sym (append_assoc lines more (files_lines s (k + 1) new.section rest))));
    }

some-all : (told : Option Files) (names contents : List (List ℕ)) (P : List (List ℕ) → Type 0) → length contents ≡ length names → HasContents told names (length names) contents → P contents → SomeContents told names P
some-all None names contents P many has holds = (contents, omega arith, holds)
some-all (Some files) names contents P many has holds =
    subst P (sym (has.0 ∙ (ap (λ ns. contents ++ told_contents files ns) (at-end names) ∙ append-nil contents))) holds

all-names : (names : List (List ℕ)) → take (length names) names ≡ names
all-names names = take_all (length names) names (omega arith)

-- all inputs were opened in turn
up-to-turn : (s : Setting) (names : List (List ℕ)) (k : ℕ) (old now : InputState) (reader : Taker) (room : ℕ) → IsUpTo s names k old now reader room → k ≡ length names → 0 < k → OpensInTurn names old now
up-to-turn s names k old now reader room so_far all some =
    sym (closes now (so_far.at_end some))
    ∙ (so_far.turn ∙ ap (λ (ns : List (List ℕ)). all_in_turn old.files (followed_to_end old) ns) (ap (λ n. take n names) all ∙ all-names names))

-- the first so many were opened, and this one or no more
pub up-to-opens : (s : Setting) (names : List (List ℕ)) (k : ℕ) (old before after : InputState) (reader : Taker) (room : ℕ) (name : List ℕ)
    → IsUpTo s names k old before reader room → slice_get names k ≡ Some name → OpensFile name room before after → OpensFirst names old after
up-to-opens s names k old before after reader room name so_far at file =
    let below : k < length names = slice_get_within names k name at in
    inr (⊎_elim
    (λ (one : OpensOne name room before after).
    (k + 1, omega (arith, below), opened-next old.opens before.opens after.opens k so_far.none so_far.some one.0.opens, turn-next s names k old before after reader room name so_far at one.1))
    (λ (none : OpensNone before after × OpensInTurn [] before after).
    (k, omega (arith, below), none.0.opens ∙ opened-so old.opens before.opens k so_far.none so_far.some, none.1 ∙ so_far.turn))
    file)

-- all were
pub up-to-all : (s : Setting) (names : List (List ℕ)) (k : ℕ) (old now : InputState) (reader : Taker) (room : ℕ) → IsUpTo s names k old now reader room → k ≡ length names → 0 < k → OpensFirst names old now
up-to-all s names k old now reader room so_far all some =
    inr (k, omega (arith, all), opened-so old.opens now.opens k so_far.none so_far.some, sym (closes now (so_far.at_end some)) ∙ so_far.turn)

-- all inputs were read
pub up-to-end : (s : Setting) (names : List (List ℕ)) (k : ℕ) (old now : InputState) (reader : Taker) (room : ℕ) → IsUpTo s names k old now reader room → k ≡ length names → 0 < k
    → ReadsInputs s names old now reader.has
up-to-end s names k old now reader room so_far all some =
    let contents = so_far.contents in
    let nothing : first_refusal s contents ≡ None = ap (first_refusal s) (sym (append-nil contents)) ∙ so_far.refusal [] in
    let lines : lines_of s contents ≡ so_far.lines = sym (met-lines s contents) ∙ (ap (files_lines s 0 0) (sym (append-nil contents)) ∙ (so_far.parts [] ∙ append-nil so_far.lines)) in
    record {
      words = some-all old.files names contents _ (so_far.many ∙ all) (subst (λ n. HasContents old.files names n contents) all so_far.told)
          (so_far.many ∙ all, nothing, subst reader.has (sym lines) so_far.has);
      opened = record { opens = subst (λ n. now.opens ≡ min (old.opens + n) (2 ^ 64 - 1)) all (so_far.some some); faults = so_far.faults };
      at_end = so_far.at_end some;
      turn = up-to-turn s names k old now reader room so_far all some;
      last = inr (k - 1, so_far.last some);
    }

-- what holds of the bytes of inputs, and says more of them
some-more : (told : Option Files) (names : List (List ℕ)) (P Q : List (List ℕ) → Type 0) → ((contents : List (List ℕ)) → P contents → Q contents) → SomeContents told names P → SomeContents told names Q
some-more None names P Q more some = (some.0, some.1, more some.0 some.2)
some-more (Some files) names P Q more some = more (told_contents files names) some

-- the log of the inputs is what was gathered of their lines, put in order
pub gathered-log : (s : Setting) (names : List (List ℕ)) (old now : InputState) (gathering : Gathering) (log : Log)
    → ReadsInputs s names old now (λ lines. IsGatheredOf gathering (events_at s lines)) → log ≡ in_order gathering
    → ((events : List KeyedEvent) → in_order (gathered_of events) ≡ log_of events) → ReadsLog s names old now log
gathered-log s names old now gathering log reads is ordered = record {
  words = some-more old.files names _ _
      (λ contents holds. (holds.0, holds.1, is ∙ (ap in_order holds.2 ∙ (ordered (events_at s (lines_of s contents)) ∙ ap log_of (sym (events-own s contents)))))) reads.words;
  opened = reads.opened;
  at_end = reads.at_end;
  turn = reads.turn;
}

-- standard input alone, or the named inputs
pub count-inputs : (names : List (List ℕ)) → length (inputs_of names) ≡ max (length names) 1
count-inputs [] = refl
count-inputs (name ∷ names) = omega arith

-- there are as many inputs as names, and at least one
pub counted-inputs : {X : Type 0} (f : X → List ℕ) (names : List X) (count : ℕ) → count ≡ max (length names) 1 → count ≡ length (inputs_of (map f names))
counted-inputs f names count is = omega (arith, count-inputs (map f names), length-map names f)
