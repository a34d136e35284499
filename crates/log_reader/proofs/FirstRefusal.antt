-- The first refusal of a log, by its lines.
use Rattle.std.proofs.Common.{◌≡◌, ℕ, suc, ◌+◌, ◌-◌, ◌<◌, ◌≤◌, ◌==◌, ◌&&◌, Bool, true, false, cond, nat_lt, List, [], ◌∷◌, ◌++◌, length, take, Option, Some, None, option_map, refl, sym, ap, ap₂, ◌∙◌, subst, arith, ⊎_elim, append_assoc, append-nil, length-append, length-take, take_all}
use Rattle.std.proofs.lemmas.Bool.{cases_lt, cond-false, cond-true}
use Rattle.std.proofs.lemmas.Bool.Decides.{nat_tests}
use Rattle.std.proofs.lemmas.List.Sums.{sum_by-cons}
use Rattle.std.proofs.lemmas.Option.{none-some}
use Rattle.limits.specs.declared.TheConstants.{MAX_INPUT_BYTES, MAX_LINE_BYTES}
use Rattle.lines.specs.Lines.{pieces}
use Rattle.traces.specs.Words.{Event as KeyedEvent}
use Rattle.log_reader.specs.Inputs.{file_past}
use Rattle.log_reader.specs.Reading as spec
use Rattle.log_reader.specs.Reading.{Form, Setting, Decided, decided_piece, section_after, section_at_end, next_section, piece_events, key_file, at_line, line_events, first_of, piece_refusal, line_refusal, limit_refusal, pieces_refusal, files_refusal, first_refusal}
use Rattle.log_reader.specs.LogLines.{Line, lines_of, own_events, events_at, AreTaken, IsTaken, AllTaken, TellsRefusal, TellsPast, total_bytes, up_to}
use Rattle.log_reader.specs.declared.refusal.At.{At}
use Rattle.log_reader.specs.declared.refusal.ReadError.{ReadError}
use Rattle.log_reader.specs.declared.refusal.ReadError.TheVariants as refused
use Rattle.log_reader.specs.Taking.{files_lines, piece_lines}
use Rattle.log_reader.proofs.LinesOfLog.{met-lines}
use Rattle.log_reader.proofs.PieceByPiece.{some-pieces}

-- the first refusal of lines, one behind the other, after these events
abbrev lines_refusal : Setting → Bool → List KeyedEvent → List Line → Option ReadError
lines_refusal s over before [] = None
lines_refusal s over before (l ∷ ls) =
    cond (over && length ls == 0) (Some (limit_refusal l.at l.piece)) (first_of (piece_refusal s l.at before l.piece) (lines_refusal s over (before ++ own_events s l) ls))

many-lines : (form : Form) (number section line : ℕ) (ps : List (List ℕ)) → length (piece_lines form number section line ps) ≡ length ps
many-lines form number section line [] = refl
many-lines form number section line (p ∷ ps) = ap (λ n. suc n) (many-lines form number (section_after section (decided_piece form p)) (line + 1) ps)

-- the refusal of a file that the limit cuts is that of its lines
cut-file : (s : Setting) (number section : ℕ) (before : List KeyedEvent) (line : ℕ) (ps : List (List ℕ))
    → pieces_refusal s number true section before line ps ≡ lines_refusal s true before (piece_lines s.form number section line ps)
cut-file s number section before line [] = refl
cut-file s number section before line (p ∷ ps) =
    let d = decided_piece s.form p in
    ap₂ (λ (n : ℕ) (o : Option ReadError). cond (true && n == 0) (Some (limit_refusal (at_line number line) p)) (first_of (piece_refusal s (at_line number line) before p) o))
    (sym (many-lines s.form number (section_after section d) (line + 1) ps))
    (cut-file s number (section_after section d) (before ++ line_events (key_file s number) section d) (line + 1) ps)

settled-one : (b : Bool) (e : ReadError) (here rest next : Option ReadError) → first_of rest next ≡ rest → first_of (cond b (Some e) (first_of here rest)) next ≡ cond b (Some e) (first_of here rest)
settled-one true e here rest next is = refl
settled-one false e None rest next is = is
settled-one false e (Some x) rest next is = refl

-- lines of which the last has the byte past the limit are refused
settled : (s : Setting) (before : List KeyedEvent) (ls : List Line) (next : Option ReadError) → 0 < length ls → first_of (lines_refusal s true before ls) next ≡ lines_refusal s true before ls
settled s before [] next some = absurd (omega arith)
settled s before (l ∷ []) next some = refl
settled s before (l ∷ m ∷ ls) next some =
    settled-one (true && length (m ∷ ls) == 0) (limit_refusal l.at l.piece) (piece_refusal s l.at before l.piece) (lines_refusal s true (before ++ own_events s l) (m ∷ ls)) next
    (settled s (before ++ own_events s l) (m ∷ ls) next (omega arith))

first-assoc : (x y z : Option ReadError) → first_of (first_of x y) z ≡ first_of x (first_of y z)
first-assoc None y z = refl
first-assoc (Some e) y z = refl

not-last : (over : Bool) (n : ℕ) → (over ≡ true → 0 < n) → (over && n == 0) ≡ false
not-last false n some = refl
not-last true n some = let more : 0 < n = some refl in grind (arith, nat_tests)

-- the refusal of a file that the limit does not cut, and then of what follows, is that of the lines of both
whole-file : (s : Setting) (over : Bool) (number section : ℕ) (before : List KeyedEvent) (line : ℕ) (ps : List (List ℕ)) (rest : List Line) → (over ≡ true → 0 < length rest)
    → first_of (pieces_refusal s number false section before line ps) (lines_refusal s over (before ++ piece_events s.form (key_file s number) section ps) rest)
    ≡ lines_refusal s over before (piece_lines s.form number section line ps ++ rest)
whole-file s over number section before line [] rest some = ap (λ es. lines_refusal s over es rest) (append-nil before)
whole-file s over number section before line (p ∷ ps) rest some =
    let d = decided_piece s.form p in
    let more = line_events (key_file s number) section d in
    let later = section_after section d in
    let here : Option ReadError = piece_refusal s (at_line number line) before p in
    let next : Option ReadError = pieces_refusal s number false later (before ++ more) (line + 1) ps in
    let behind = piece_lines s.form number later (line + 1) ps ++ rest in
    let long : over ≡ true → 0 < length behind = λ is. omega (arith, some is, length-append (piece_lines s.form number later (line + 1) ps) rest) in
    first-assoc here next (lines_refusal s over (before ++ (more ++ piece_events s.form (key_file s number) later ps)) rest)
    ∙ (ap (λ es. first_of here (first_of next (lines_refusal s over es rest))) (sym (append_assoc before more (piece_events s.form (key_file s number) later ps)))
    ∙ (ap (first_of here) (whole-file s over number later (before ++ more) (line + 1) ps rest some)
    ∙ sym (cond-false (over && length behind == 0) (Some (limit_refusal (at_line number line) p)) (first_of here (lines_refusal s over (before ++ more) behind)) (not-last over (length behind) long))))

some-of-file : (form : Form) (number section line : ℕ) (bytes : List ℕ) → 0 < length bytes → 0 < length (piece_lines form number section line (pieces bytes))
some-of-file form number section line bytes some = omega (arith, many-lines form number section line (pieces bytes), some-pieces bytes some)

total-cons : (bytes : List ℕ) (files : List (List ℕ)) → total_bytes (bytes ∷ files) ≡ length bytes + total_bytes files
total-cons bytes files = sum_by-cons length bytes files

over-test : (room n : ℕ) → room < n → nat_lt room n ≡ true
over-test room n over = grind (arith, nat_tests)

within-test : (room n : ℕ) → n ≤ room → nat_lt room n ≡ false
within-test room n within = grind (arith, nat_tests)

same-test : (room n t : ℕ) → n ≤ room → nat_lt room (n + t) ≡ nat_lt (room - n) t
same-test room n t within = ⊎_elim
    (λ (over : room - n < t). over-test room (n + t) (omega arith) ∙ sym (over-test (room - n) t over))
    (λ (fits : t ≤ room - n). within-test room (n + t) (omega arith) ∙ sym (within-test (room - n) t fits))
    (cases_lt (room - n) t)

same-total : (room : ℕ) (bytes : List ℕ) (files : List (List ℕ)) → length bytes ≤ room → nat_lt room (total_bytes (bytes ∷ files)) ≡ nat_lt (room - length bytes) (total_bytes files)
same-total room bytes files within = ap (nat_lt room) (total-cons bytes files) ∙ same-test room (length bytes) (total_bytes files) within

some-front : (room : ℕ) (bytes : List ℕ) → room < length bytes → 0 < length (take (room + 1) bytes)
some-front room bytes over = omega (arith, length-take (room + 1) bytes)

cut-here : (room : ℕ) (bytes : List ℕ) (files : List (List ℕ)) → room < length bytes → up_to room (bytes ∷ files) ≡ take (room + 1) bytes ∷ []
cut-here room bytes files over = cond-true (nat_lt room (length bytes)) (take (room + 1) bytes ∷ []) (bytes ∷ up_to (room - length bytes) files) (over-test room (length bytes) over)

cut-later : (room : ℕ) (bytes : List ℕ) (files : List (List ℕ)) → length bytes ≤ room → up_to room (bytes ∷ files) ≡ bytes ∷ up_to (room - length bytes) files
cut-later room bytes files within = cond-false (nat_lt room (length bytes)) (take (room + 1) bytes ∷ []) (bytes ∷ up_to (room - length bytes) files) (within-test room (length bytes) within)

not-over-nothing : (room : ℕ) → nat_lt room 0 ≡ true → ⊥
not-over-nothing room is = grind (arith, nat_tests)

some-lines : (s : Setting) (number section room : ℕ) (files : List (List ℕ)) → nat_lt room (total_bytes files) ≡ true → 0 < length (files_lines s number section (up_to room files))
some-lines s number section room [] over = absurd (not-over-nothing room over)
some-lines s number section room (bytes ∷ files) over = ⊎_elim
    (λ (cut : room < length bytes).
    let front = take (room + 1) bytes in
    let ls = piece_lines s.form number section 1 (pieces front) in
    subst (λ fs. 0 < length (files_lines s number section fs)) (sym (cut-here room bytes files cut))
    (omega (arith, length-append ls [], some-of-file s.form number section 1 front (some-front room bytes cut))))
    (λ (fits : length bytes ≤ room).
    let ls = piece_lines s.form number section 1 (pieces bytes) in
    let later = next_section s (section_at_end s.form section (pieces bytes)) in
    let rest = files_lines s (number + 1) later (up_to (room - length bytes) files) in
    subst (λ fs. 0 < length (files_lines s number section fs)) (sym (cut-later room bytes files fits))
    (omega (arith, length-append ls rest, some-lines s (number + 1) later (room - length bytes) files (sym (same-total room bytes files fits) ∙ over))))
    (cases_lt room (length bytes))

-- the refusal of all files is that of their lines up to the limit
all-refused : (s : Setting) (number section : ℕ) (before : List KeyedEvent) (room : ℕ) (files : List (List ℕ))
    → files_refusal s number section before room files ≡ lines_refusal s (nat_lt room (total_bytes files)) before (files_lines s number section (up_to room files))
all-refused s number section before room [] = refl
all-refused s number section before room (bytes ∷ files) =
    let later = next_section s (section_at_end s.form section (pieces bytes)) in
    let more = piece_events s.form (key_file s number) section (pieces bytes) in
    let next : Option ReadError = files_refusal s (number + 1) later (before ++ more) (room - length bytes) files in
    ⊎_elim
    (λ (cut : room < length bytes).
    let front = take (room + 1) bytes in
    let ls = piece_lines s.form number section 1 (pieces front) in
    let passed : nat_lt room (total_bytes (bytes ∷ files)) ≡ true = over-test room (total_bytes (bytes ∷ files)) (omega (arith, total-cons bytes files)) in
    ap (λ b. first_of (pieces_refusal s number b section before 1 (pieces front)) next) (over-test room (length bytes) cut)
    ∙ (ap (λ o. first_of o next) (cut-file s number section before 1 (pieces front))
    ∙ (settled s before ls next (some-of-file s.form number section 1 front (some-front room bytes cut))
    ∙ ap₂ (λ (b : Bool) (xs : List Line). lines_refusal s b before xs) (sym passed)
    (sym (ap (files_lines s number section) (cut-here room bytes files cut) ∙ append-nil ls)))))
    (λ (fits : length bytes ≤ room).
    let ls = piece_lines s.form number section 1 (pieces bytes) in
    let over = nat_lt (room - length bytes) (total_bytes files) in
    let rest = files_lines s (number + 1) later (up_to (room - length bytes) files) in
    ap₂ (λ (b : Bool) (bs : List ℕ). first_of (pieces_refusal s number b section before 1 (pieces bs)) next) (within-test room (length bytes) fits) (take_all (room + 1) bytes (omega arith))
    ∙ (ap (first_of (pieces_refusal s number false section before 1 (pieces bytes))) (all-refused s (number + 1) later (before ++ more) (room - length bytes) files)
    ∙ (whole-file s over number section before 1 (pieces bytes) rest (some-lines s (number + 1) later (room - length bytes) files)
    ∙ ap₂ (λ (b : Bool) (xs : List Line). lines_refusal s b before xs) (sym (same-total room bytes files fits))
    (sym (ap (files_lines s number section) (cut-later room bytes files fits))))))
    (cases_lt room (length bytes))

abbrev AreTakenAfter : Setting → List KeyedEvent → List Line → Type 0
AreTakenAfter s before lines = (front : List Line) (l : Line) (rest : List Line) → lines ≡ front ++ l ∷ rest → piece_refusal s l.at (before ++ events_at s front) l.piece ≡ None

record First (s : Setting) (over : Bool) (before : List KeyedEvent) (lines : List Line) (e : ReadError) : Type 0 where
  front : List Line
  line : Line
  rest : List Line
  is : lines ≡ front ++ line ∷ rest
  nothing : AreTakenAfter s before front
  refused : cond (over && length rest == 0) (Some (limit_refusal line.at line.piece)) (piece_refusal s line.at (before ++ events_at s front) line.piece) ≡ Some e

taken-nil : (s : Setting) (before : List KeyedEvent) (front : List Line) (l : Line) (rest : List Line) → [] ≡ front ++ l ∷ rest → piece_refusal s l.at (before ++ events_at s front) l.piece ≡ None
taken-nil s before [] l rest is = absurd (cc)
taken-nil s before (f ∷ front) l rest is = absurd (cc)

taken-cons : (s : Setting) (before : List KeyedEvent) (x : Line) (xs : List Line) → piece_refusal s x.at before x.piece ≡ None → AreTakenAfter s (before ++ own_events s x) xs
    → (front : List Line) (l : Line) (rest : List Line) → x ∷ xs ≡ front ++ l ∷ rest → piece_refusal s l.at (before ++ events_at s front) l.piece ≡ None
taken-cons s before x xs here later [] l rest is =
    let same : x ≡ l = cc in
    subst (λ (y : Line). piece_refusal s y.at (before ++ []) y.piece ≡ None) same (subst (λ es. piece_refusal s x.at es x.piece ≡ None) (sym (append-nil before)) here)
taken-cons s before x xs here later (f ∷ front) l rest is =
    let same : x ≡ f = cc in
    let behind : xs ≡ front ++ l ∷ rest = cc in
    subst (λ es. piece_refusal s l.at es l.piece ≡ None)
    (append_assoc before (own_events s x) (events_at s front) ∙ ap (λ (y : Line). before ++ (own_events s y ++ events_at s front)) same)
    (later front l rest behind)

none-here : (b : Bool) (e : ReadError) (here next : Option ReadError) → cond b (Some e) (first_of here next) ≡ None → (here ≡ None) × (next ≡ None)
none-here true e here next is = absurd (none-some e (sym is))
none-here false e None next is = (refl, is)
none-here false e (Some x) next is = absurd (none-some x (sym is))

-- where lines are not refused, each of them is taken
none-taken : (s : Setting) (over : Bool) (before : List KeyedEvent) (lines : List Line) → lines_refusal s over before lines ≡ None → AreTakenAfter s before lines
none-taken s over before [] is = taken-nil s before
none-taken s over before (x ∷ xs) is =
    let parts = none-here (over && length xs == 0) (limit_refusal x.at x.piece) (piece_refusal s x.at before x.piece) (lines_refusal s over (before ++ own_events s x) xs) is in
    taken-cons s before x xs parts.0 (none-taken s over (before ++ own_events s x) xs parts.1)

first-here : (s : Setting) (over : Bool) (before : List KeyedEvent) (x : Line) (xs : List Line) (e : ReadError)
    → cond (over && length xs == 0) (Some (limit_refusal x.at x.piece)) (piece_refusal s x.at before x.piece) ≡ Some e → First s over before (x ∷ xs) e
first-here s over before x xs e is = record {
  front = [];
  line = x;
  rest = xs;
  is = refl;
  nothing = taken-nil s before;
  refused = ap (λ es. cond (over && length xs == 0) (Some (limit_refusal x.at x.piece)) (piece_refusal s x.at es x.piece)) (append-nil before) ∙ is;
}

first-later : (s : Setting) (over : Bool) (before : List KeyedEvent) (x : Line) (xs : List Line) (e : ReadError) → piece_refusal s x.at before x.piece ≡ None
    → First s over (before ++ own_events s x) xs e → First s over before (x ∷ xs) e
first-later s over before x xs e here later = record {
  front = x ∷ later.front;
  line = later.line;
  rest = later.rest;
  is = ap (λ (ls : List Line). x ∷ ls) later.is;
  nothing = taken-cons s before x later.front here later.nothing;
  refused = ap (λ es. cond (over && length later.rest == 0) (Some (limit_refusal later.line.at later.line.piece)) (piece_refusal s later.line.at es later.line.piece))
      (sym (append_assoc before (own_events s x) (events_at s later.front))) ∙ later.refused;
}

first-step : (s : Setting) (over : Bool) (before : List KeyedEvent) (x : Line) (xs : List Line) (e : ReadError) (b : Bool) (here : Option ReadError)
    → (over && length xs == 0) ≡ b → piece_refusal s x.at before x.piece ≡ here
    → cond b (Some (limit_refusal x.at x.piece)) (first_of here (lines_refusal s over (before ++ own_events s x) xs)) ≡ Some e
    → (lines_refusal s over (before ++ own_events s x) xs ≡ Some e → First s over (before ++ own_events s x) xs e) → First s over before (x ∷ xs) e
first-step s over before x xs e true here test own is later =
    first-here s over before x xs e (cond-true (over && length xs == 0) (Some (limit_refusal x.at x.piece)) (piece_refusal s x.at before x.piece) test ∙ is)
first-step s over before x xs e false None test own is later = first-later s over before x xs e own (later is)
first-step s over before x xs e false (Some y) test own is later =
    first-here s over before x xs e (cond-false (over && length xs == 0) (Some (limit_refusal x.at x.piece)) (piece_refusal s x.at before x.piece) test ∙ (own ∙ is))

-- the first refusal of lines is that of a line, and no line before it is refused
some-first : (s : Setting) (over : Bool) (before : List KeyedEvent) (lines : List Line) (e : ReadError) → lines_refusal s over before lines ≡ Some e → First s over before lines e
some-first s over before [] e is = absurd (none-some e is)
some-first s over before (x ∷ xs) e is =
    first-step s over before x xs e (over && length xs == 0) (piece_refusal s x.at before x.piece) refl refl is (some-first s over (before ++ own_events s x) xs e)

up_to-all : (room : ℕ) (files : List (List ℕ)) → total_bytes files ≤ room → up_to room files ≡ files
up_to-all room [] within = refl
up_to-all room (bytes ∷ files) within =
    let fits : length bytes ≤ room = omega (arith, total-cons bytes files) in
    cut-later room bytes files fits ∙ ap (λ (fs : List (List ℕ)). bytes ∷ fs) (up_to-all (room - length bytes) files (omega (arith, total-cons bytes files)))

-- the first refusal of a log is that of its lines up to the limit
refusal-is : (s : Setting) (files : List (List ℕ)) → first_refusal s files ≡ lines_refusal s (nat_lt MAX_INPUT_BYTES (total_bytes files)) [] (lines_of s (up_to MAX_INPUT_BYTES files))
refusal-is s files =
    all-refused s 0 0 [] MAX_INPUT_BYTES files ∙ ap (lines_refusal s (nat_lt MAX_INPUT_BYTES (total_bytes files)) []) (met-lines s (up_to MAX_INPUT_BYTES files))

within-limit : (s : Setting) (files : List (List ℕ)) → lines_refusal s (nat_lt MAX_INPUT_BYTES (total_bytes files)) [] (lines_of s (up_to MAX_INPUT_BYTES files)) ≡ None → total_bytes files ≤ MAX_INPUT_BYTES
within-limit s files is = ⊎_elim
    (λ (over : MAX_INPUT_BYTES < total_bytes files).
    let passed = over-test MAX_INPUT_BYTES (total_bytes files) over in
    let ls = lines_of s (up_to MAX_INPUT_BYTES files) in
    let some : 0 < length ls = subst (λ (xs : List Line). 0 < length xs) (met-lines s (up_to MAX_INPUT_BYTES files)) (some-lines s 0 0 MAX_INPUT_BYTES files passed) in
    let none : lines_refusal s true [] ls ≡ None = subst (λ b. lines_refusal s b [] ls ≡ None) passed is in
    absurd (none-some refused.InputLimit (sym none ∙ (sym (settled s [] ls (Some refused.InputLimit) some) ∙ ap (λ o. first_of o (Some refused.InputLimit)) none))))
    (λ (within : total_bytes files ≤ MAX_INPUT_BYTES). within)
    (cases_lt MAX_INPUT_BYTES (total_bytes files))

tells-of : (s : Setting) (files : List (List ℕ)) (o : Option ReadError) → lines_refusal s (nat_lt MAX_INPUT_BYTES (total_bytes files)) [] (lines_of s (up_to MAX_INPUT_BYTES files)) ≡ o → TellsRefusal s files o
tells-of s files None is =
    let within = within-limit s files is in
    (within, subst (λ fs. AreTaken s (lines_of s fs)) (up_to-all MAX_INPUT_BYTES files within) (none-taken s (nat_lt MAX_INPUT_BYTES (total_bytes files)) [] (lines_of s (up_to MAX_INPUT_BYTES files)) is))
tells-of s files (Some e) is =
    let first = some-first s (nat_lt MAX_INPUT_BYTES (total_bytes files)) [] (lines_of s (up_to MAX_INPUT_BYTES files)) e is in
    record { front = first.front; line = first.line; rest = first.rest; is = first.is; nothing = first.nothing; refused = first.refused }

-- what the first refusal of a log says of its lines
pub tells-refusal : (s : Setting) (files : List (List ℕ)) → TellsRefusal s files (first_refusal s files)
tells-refusal s files = tells-of s files (first_refusal s files) (sym (refusal-is s files))

none-else : (b : Bool) (e : ReadError) (o : Option ReadError) → cond b (Some e) o ≡ None → o ≡ None
none-else true e o is = absurd (none-some e (sym is))
none-else false e o is = is

line-taken : (ignore : Bool) (at : At) (before : List KeyedEvent) (d : Decided) → line_refusal ignore at before d ≡ None → IsTaken ignore d
line-taken ignore at before (spec.Event typ trace time) is = tt
line-taken ignore at before spec.Skip is = tt
line-taken ignore at before spec.Separator is = tt
line-taken true at before spec.Undecided is = refl
line-taken false at before spec.Undecided is = absurd (none-some (refused.Undecided at) (sym is))
line-taken ignore at before spec.BadTime is = absurd (none-some (refused.BadTime at) (sym is))

-- where a log is not refused, each of its lines is decided or skipped
pub all-taken : (s : Setting) (files : List (List ℕ)) → AllTaken s files
all-taken s files none front l rest is =
    let taken : TellsRefusal s files None = subst (TellsRefusal s files) none (tells-refusal s files) in
    line-taken s.ignore l.at (events_at s front) (decided_piece s.form l.piece)
    (none-else (nat_lt MAX_LINE_BYTES (length l.piece)) (refused.LineTooLong l.at) (line_refusal s.ignore l.at (events_at s front) (decided_piece s.form l.piece)) (taken.1 front l rest is))

-- the file with the first byte past so many is counted on over a file before it
past-more : (room : ℕ) (bytes : List ℕ) (files : List (List ℕ)) → length bytes ≤ room → (o : Option ℕ) → TellsPast (room - length bytes) files o
    → TellsPast room (bytes ∷ files) (option_map (λ number. number + 1) o)
past-more room bytes files fits None tells = omega (arith, total-cons bytes files, tells)
past-more room bytes files fits (Some k) tells =
    let one : k + 1 ≡ suc k = omega arith in
    let two : k + 1 + 1 ≡ suc (k + 1) = omega arith in
    let before : total_bytes (take (k + 1) (bytes ∷ files)) ≡ length bytes + total_bytes (take k files) =
    ap (λ n. total_bytes (take n (bytes ∷ files))) one ∙ total-cons bytes (take k files) in
    let within : total_bytes (take (k + 1 + 1) (bytes ∷ files)) ≡ length bytes + total_bytes (take (k + 1) files) =
    ap (λ n. total_bytes (take n (bytes ∷ files))) two ∙ total-cons bytes (take (k + 1) files) in
    (omega (arith, tells.0), omega (arith, before, tells.1), omega (arith, within, tells.2))

-- what is found is the file with the first byte past so many
pub tells-past : (room : ℕ) (files : List (List ℕ)) → TellsPast room files (file_past room files)
tells-past room [] = omega arith
tells-past room (bytes ∷ files) = ⊎_elim
    (λ (over : room < length bytes).
    subst (TellsPast room (bytes ∷ files)) (sym (cond-true (nat_lt room (length bytes)) (Some 0) (option_map (λ number. number + 1) (file_past (room - length bytes) files)) (over-test room (length bytes) over)))
    (omega arith, omega arith, omega (arith, total-cons bytes [])))
    (λ (fits : length bytes ≤ room).
    subst (TellsPast room (bytes ∷ files)) (sym (cond-false (nat_lt room (length bytes)) (Some 0) (option_map (λ number. number + 1) (file_past (room - length bytes) files)) (within-test room (length bytes) fits)))
    (past-more room bytes files fits (file_past (room - length bytes) files) (tells-past (room - length bytes) files)))
    (cases_lt room (length bytes))
