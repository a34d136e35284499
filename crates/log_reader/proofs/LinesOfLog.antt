-- The lines of a log, one behind the other, as a reader meets them.
use Rattle.std.proofs.Common.{◌≡◌, ℕ, ◌+◌, Bool, true, false, cond, List, [], ◌∷◌, ◌++◌, length, take, map, refl, sym, ap, ap₂, ◌∙◌, arith, append-nil, append_assoc, length-append}
use Rattle.std.proofs.lemmas.Grind.{flat_map-append}
use Rattle.std.proofs.lemmas.List.{take_at}
use Rattle.std.proofs.lemmas.List.Sums.{sum_by-append, sum_by-cons}
use Rattle.std.specs.List.{enumerate_from, flat_map}
use Rattle.lines.specs.Lines.{pieces}
use Rattle.traces.specs.Words.{Event as KeyedEvent}
use Rattle.log_reader.specs.Reading as spec
use Rattle.log_reader.specs.Reading.{Form, Setting, Decided, decided_piece, section_after, section_at_end, next_section, piece_events, file_events, events_of, key_file, at_line, line_events}
use Rattle.log_reader.specs.Taking.{files_lines, piece_lines}
use Rattle.log_reader.specs.LogLines.{Line, is_separator, separators, separators_in, separators_before, file_lines, lines_of, own_events, events_at}

after-one : (section : ℕ) (d : Decided) → section_after section d ≡ section + cond (is_separator d) 1 0
after-one section spec.Separator = refl
after-one section _ = omega arith

separators-cons : (form : Form) (p : List ℕ) (ps : List (List ℕ)) → separators form (p ∷ ps) ≡ cond (is_separator (decided_piece form p)) 1 0 + separators form ps
separators-cons form p ps = sum_by-cons (λ q. cond (is_separator (decided_piece form q)) 1 0) p ps

separators-more : (form : Form) (base section : ℕ) (front : List (List ℕ)) (p : List ℕ) → section ≡ base + separators form front
    → section_after section (decided_piece form p) ≡ base + separators form (front ++ p ∷ [])
separators-more form base section front p is =
    let one = after-one section (decided_piece form p) in
    let sum = sum_by-append (λ q. cond (is_separator (decided_piece form q)) 1 0) front (p ∷ []) in
    omega (arith, is, one, sum)

-- sections are counted by their separators
at-end : (form : Form) (section : ℕ) (ps : List (List ℕ)) → section_at_end form section ps ≡ section + separators form ps
at-end form section [] = omega arith
at-end form section (p ∷ ps) =
    omega (arith, at-end form (section_after section (decided_piece form p)) ps, after-one section (decided_piece form p), separators-cons form p ps)

module _ (form : Form) (number base : ℕ) (all : List (List ℕ)) where
  -- a line by its place in the file
  abbrev placed : ℕ × List ℕ → Line
  placed p = record { at = at_line number (p.0 + 1); section = base + separators form (take p.0 all); piece = p.1 }

  lines-placed : (front ps : List (List ℕ)) (n section : ℕ) → all ≡ front ++ ps → length front ≡ n → section ≡ base + separators form front
      → piece_lines form number section (n + 1) ps ≡ map placed (enumerate_from n ps)
  lines-placed front [] n section is many sum = refl
  lines-placed front (p ∷ ps) n section is many sum =
      let before : take n all ≡ front = ap (take n) is ∙ take_at front (p ∷ ps) n many in
      let here : section ≡ base + separators form (take n all) = sum ∙ ap (λ ps. base + separators form ps) (sym before) in
      let more : length (front ++ p ∷ []) ≡ n + 1 = omega (arith, length-append front (p ∷ []), many) in
      let rest = lines-placed (front ++ p ∷ []) ps (n + 1) (section_after section (decided_piece form p)) (is ∙ sym (append_assoc front (p ∷ []) ps)) more (separators-more form base section front p sum) in
      ap₂ (λ (sec : ℕ) (ls : List Line). record { at = at_line number (n + 1); section = sec; piece = p } ∷ ls) here rest

-- the lines of one file, as a reader meets them
one-file : (s : Setting) (before : List (List ℕ)) (number section : ℕ) (ps : List (List ℕ)) → section ≡ separators_before s before
    → piece_lines s.form number section 1 ps ≡ file_lines s before number ps
one-file s before number section ps is = lines-placed s.form number (separators_before s before) ps [] ps 0 section refl refl (omega (arith, is))

next-base : (join : Bool) (form : Form) (section : ℕ) (front : List (List ℕ)) (bytes : List ℕ) → section ≡ cond join (separators_in form front) 0
    → cond join (section_at_end form section (pieces bytes)) 0 ≡ cond join (separators_in form (front ++ bytes ∷ [])) 0
next-base false form section front bytes is = refl
next-base true form section front bytes is =
    omega (arith, is, at-end form section (pieces bytes), sum_by-append (λ bytes. separators form (pieces bytes)) front (bytes ∷ []))

module _ (s : Setting) (all : List (List ℕ)) where
  all-files : (front files : List (List ℕ)) (n section : ℕ) → all ≡ front ++ files → length front ≡ n → section ≡ separators_before s front
      → files_lines s n section files ≡ flat_map (λ f. file_lines s (take f.0 all) f.0 (pieces f.1)) (enumerate_from n files)
  all-files front [] n section is many sum = refl
  all-files front (bytes ∷ files) n section is many sum =
      let before : take n all ≡ front = ap (take n) is ∙ take_at front (bytes ∷ files) n many in
      let more : length (front ++ bytes ∷ []) ≡ n + 1 = omega (arith, length-append front (bytes ∷ []), many) in
      ap₂ (λ (xs ys : List Line). xs ++ ys)
      (one-file s (take n all) n section (pieces bytes) (sum ∙ ap (separators_before s) (sym before)))
      (all-files (front ++ bytes ∷ []) files (n + 1) (next_section s (section_at_end s.form section (pieces bytes))) (is ∙ sym (append_assoc front (bytes ∷ []) files)) more
      (next-base s.join s.form section front bytes sum))

none-before : (join : Bool) (form : Form) → 0 ≡ cond join (separators_in form []) 0
none-before true form = refl
none-before false form = refl

-- the lines of a log, as a reader meets them
pub met-lines : (s : Setting) (files : List (List ℕ)) → files_lines s 0 0 files ≡ lines_of s files
met-lines s files = all-files s files [] files 0 0 refl refl (none-before s.join s.form)

pub piece-own : (s : Setting) (number section line : ℕ) (ps : List (List ℕ)) → piece_events s.form (key_file s number) section ps ≡ events_at s (piece_lines s.form number section line ps)
piece-own s number section line [] = refl
piece-own s number section line (p ∷ ps) =
    ap (λ es. line_events (key_file s number) section (decided_piece s.form p) ++ es) (piece-own s number (section_after section (decided_piece s.form p)) (line + 1) ps)

-- the events of lines and of one more
pub events-with : (s : Setting) (lines : List Line) (l : Line) → events_at s (lines ++ l ∷ []) ≡ events_at s lines ++ own_events s l
events-with s lines l = flat_map-append (own_events s) lines (l ∷ []) ∙ ap (λ (es : List KeyedEvent). events_at s lines ++ es) (append-nil (own_events s l))

-- the events of lines and of those of a file behind them
pub events-behind : (s : Setting) (number section : ℕ) (lines : List Line) (ps : List (List ℕ))
    → events_at s (lines ++ piece_lines s.form number section 1 ps) ≡ events_at s lines ++ piece_events s.form (key_file s number) section ps
events-behind s number section lines ps =
    flat_map-append (own_events s) lines (piece_lines s.form number section 1 ps) ∙ ap (λ (es : List KeyedEvent). events_at s lines ++ es) (sym (piece-own s number section 1 ps))

file-own : (s : Setting) (number section : ℕ) (files : List (List ℕ)) → file_events s number section files ≡ events_at s (files_lines s number section files)
file-own s number section [] = refl
file-own s number section (bytes ∷ files) =
    let here = piece_lines s.form number section 1 (pieces bytes) in
    let later = files_lines s (number + 1) (next_section s (section_at_end s.form section (pieces bytes))) files in
    ap₂ (λ (xs ys : List KeyedEvent). xs ++ ys) (piece-own s number section 1 (pieces bytes)) (file-own s (number + 1) (next_section s (section_at_end s.form section (pieces bytes))) files)
    ∙ sym (flat_map-append (own_events s) here later)

-- the events of a log are those of its lines
pub events-own : (s : Setting) (files : List (List ℕ)) → events_of s files ≡ events_at s (lines_of s files)
events-own s files = file-own s 0 0 files ∙ ap (events_at s) (met-lines s files)
