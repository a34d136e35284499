-- A log in the plain form has the types and the words of the log that was read.
use Rattle.std.proofs.Common.{◌≡◌, ℕ, suc, ◌+◌, ◌-◌, ◌<◌, ◌≤◌, ◌^◌, ◌==◌, true, false, Bool, ◌&&◌, ◌||◌, not, List, [], ◌∷◌, ◌++◌, length, map, max, nat_lt, nat_le, unwrap_or, Option, Some, None, refl, sym, ap, ap₂, subst, ◌∙◌, arith, append_assoc, decimal, flat_map}
use Rattle.std.specs.Prelude.{if◌then◌else◌, slice_get}
use Rattle.std.proofs.lemmas.Bool.{cond-true, cond-false, false_from_ne_true, and_parts}
use Rattle.std.proofs.lemmas.Bool.Decides.{nat_tests}
use Rattle.std.proofs.lemmas.Fmt.{decimal_injective}
use Rattle.std.proofs.lemmas.List.{map-append}
use Rattle.std.proofs.lemmas.List.Folds.{list_any-append}
use Rattle.std.proofs.lemmas.Option.{same_Some}
use Rattle.std.proofs.lemmas.Slice.Eq.{bytes_eq-Decides}
use Rattle.std.specs.List.{AllByRecursion, fold, list_all, list_any, position_or_len}
use Rattle.std.specs.Option.{option_or}
use Rattle.std.specs.Str.{IsUtf8, bytes_eq}
use Rattle.limits.specs.declared.TheConstants.{FIRST_TYPE, INITIAL, TERMINAL}
use Rattle.trace_keys.proofs.Keys.{any-stands, key-at, same_key-refl, same_key-≡}
use Rattle.trace_keys.proofs.Positions.{position-hit, position-le, position-miss}
use Rattle.traces.specs.Words.{AreApart, AreOrderedBy, Event, Key, events_of_key, first_met, in_time, keys_of, log_of, number_of, same_key, trace_of, types_of, with_new, word_of, words_of}
use Rattle.traces.proofs.FirstMet.{keys-first_met, types-first_met}
use Rattle.traces.proofs.Timed.{in_time-still, ordered_by-still}
use Rattle.log_reader.specs.Reading.{events_of}
use Rattle.log_reader.specs.LogLines.{events_at, lines_of}
use Rattle.log_reader.specs.declared.refusal.At.{At}
use Rattle.log_reader.proofs.LinesOfLog.{events-own}
use Rattle.events.specs.Located.{events_located, events_with_lines, located_in}
use Rattle.events.specs.declared.located.Located.{Located}
use Rattle.events.proofs.Locating.{without-lines}
use Rattle.events_cli.specs.Laws.{HasTexts, HasWordsOf, PlainKeepsTheWords, plainly}
use Rattle.events_cli.specs.Plain.{faults_after, first_fault, is_late, is_plain_type, plain_fault}
use Rattle.events_cli.specs.Texts.{plain_log, type_text}
use Rattle.events_cli.specs.declared.ending.PlainFault.{PlainFault}
use Rattle.events_cli.proofs.Latest.{late-is, latest-more, latest_in}
use Rattle.events_cli.proofs.PlainLog.{IsPlain, again, body_of, lines-read}

or-true : (b : Bool) → (b || true) ≡ true
or-true true = refl
or-true false = refl

-- an item that stands somewhere in a list is found there
found : {X : Type 0} (same : X → X → Bool) (x : X) → same x x ≡ true → (front rest : List X) → list_any (same x) (front ++ x ∷ rest) ≡ true
found same x own front rest =
    list_any-append (same x) front (x ∷ rest)
    ∙ (ap (λ (b : Bool). list_any (same x) front || (b || list_any (same x) rest)) own ∙ or-true (list_any (same x) front))

bytes-own : (text : List ℕ) → bytes_eq text text ≡ true
bytes-own text = (bytes_eq-Decides text text).1 refl

-- events that have no time before an earlier one of theirs
pub record InTime (key : Key) (least : ℕ) (es : List Event) : Type 0 where
  pub ordered : AreOrderedBy (λ (e : Event). e.time) (events_of_key es key)
  pub later : list_all (λ (e : Event). nat_le least e.time) (events_of_key es key) ≡ true

is-least : (a b c : ℕ) → a ≤ b → nat_le b c ≡ true → nat_le a c ≡ true
is-least a b c low is = grind (arith, nat_tests)

weaker : (a b : ℕ) (es : List Event) → a ≤ b → list_all (λ (e : Event). nat_le b e.time) es ≡ true → list_all (λ (e : Event). nat_le a e.time) es ≡ true
weaker a b [] low all = refl
weaker a b (e ∷ es) low all =
    let parts = and_parts (nat_le b e.time) (list_all (λ (f : Event). nat_le b f.time) es) all in
    ap₂ (λ (x y : Bool). x && y) (is-least a b e.time low parts.0) (weaker a b es low parts.1)

nat-le : (a b : ℕ) → a ≤ b → nat_le a b ≡ true
nat-le a b low = grind (arith, nat_tests)

time-step : (c : Bool) (least next : ℕ) (e : Event) (es : List Event) → (c ≡ true → (least ≤ e.time) × (next ≡ e.time)) → (c ≡ false → next ≡ least)
    → AreOrderedBy (λ (f : Event). f.time) es → list_all (λ (f : Event). nat_le next f.time) es ≡ true
    → AreOrderedBy (λ (f : Event). f.time) (if c then e ∷ es else es) × (list_all (λ (f : Event). nat_le least f.time) (if c then e ∷ es else es) ≡ true)
time-step true least next e es hit miss ordered later =
    let h = hit refl in
    let here : list_all (λ (f : Event). nat_le e.time f.time) es ≡ true = subst (λ (n : ℕ). list_all (λ (f : Event). nat_le n f.time) es ≡ true) h.1 later in
    ((here, ordered), ap₂ (λ (x y : Bool). x && y) (nat-le least e.time h.0) (weaker least e.time es h.0 here))
time-step false least next e es hit miss ordered later =
    (ordered, subst (λ (n : ℕ). list_all (λ (f : Event). nat_le n f.time) es ≡ true) (miss refl) later)

or-none : (a b : Option PlainFault) → option_or a b ≡ None → (a ≡ None) × (b ≡ None)
or-none None b is = (refl, is)
or-none (Some x) b is = cc

fault-none : (fits late : Bool) (x y : PlainFault) → (if not fits then Some x else if late then Some y else None) ≡ None → (fits ≡ true) × (late ≡ false)
fault-none true false x y is = (refl, refl)
fault-none true true x y is = cc
fault-none false late x y is = cc

not-below : (a b : ℕ) → nat_lt a b ≡ false → b ≤ a
not-below a b is = grind (arith, nat_tests)

eq-true : (a b : ℕ) → a ≡ b → (a == b) ≡ true
eq-true a b is = grind (arith, nat_tests)

eq-is : (a b : ℕ) → (a == b) ≡ true → a ≡ b
eq-is a b is = grind (arith, nat_tests)

max-right : (a b : ℕ) → a ≤ b → max a b ≡ b
max-right a b low = omega (arith, low)

-- the text that stands at its place
at-by : (b : Bool) (typ t : List ℕ) (types : List (List ℕ)) → bytes_eq typ t ≡ b → (list_any (bytes_eq typ) types ≡ true → slice_get types (position_or_len (bytes_eq typ) types) ≡ Some typ)
    → list_any (bytes_eq typ) (t ∷ types) ≡ true → slice_get (t ∷ types) (position_or_len (bytes_eq typ) (t ∷ types)) ≡ Some typ
at-by true typ t types is later any =
    ap (slice_get (t ∷ types)) (position-hit (bytes_eq typ) t types is) ∙ ap (λ (x : List ℕ). Some x) (sym ((bytes_eq-Decides typ t).0 is))
at-by false typ t types is later any =
    let rest : list_any (bytes_eq typ) types ≡ true = sym (ap (λ (b : Bool). b || list_any (bytes_eq typ) types) is) ∙ any in
    let next : position_or_len (bytes_eq typ) types + 1 ≡ suc (position_or_len (bytes_eq typ) types) = omega arith in
    ap (slice_get (t ∷ types)) (position-miss (bytes_eq typ) t types is ∙ next) ∙ later rest

at-place : (typ : List ℕ) (types : List (List ℕ)) → list_any (bytes_eq typ) types ≡ true → slice_get types (position_or_len (bytes_eq typ) types) ≡ Some typ
at-place typ [] any = cc
at-place typ (t ∷ types) any = at-by (bytes_eq typ t) typ t types refl (at-place typ types) any

found-by : (P : List ℕ → Type 0) (b : Bool) (typ t : List ℕ) (types : List (List ℕ)) → bytes_eq typ t ≡ b → P t → (list_any (bytes_eq typ) types ≡ true → P typ) → list_any (bytes_eq typ) (t ∷ types) ≡ true → P typ
found-by P true typ t types is here later any = subst P (sym ((bytes_eq-Decides typ t).0 is)) here
found-by P false typ t types is here later any = later (sym (ap (λ (b : Bool). b || list_any (bytes_eq typ) types) is) ∙ any)

all-found : (P : List ℕ → Type 0) (typ : List ℕ) (types : List (List ℕ)) → AllByRecursion P types → list_any (bytes_eq typ) types ≡ true → P typ
all-found P typ [] all any = let no : false ≡ true = any in cc
all-found P typ (t ∷ types) all any = found-by P (bytes_eq typ t) typ t types refl all.0 (all-found P typ types all.1) any

module _ (evs : List Event) (few : length (keys_of evs) < 2 ^ 64) where
  -- the number of a trace
  abbrev pos : Key → ℕ
  pos k = position_or_len (same_key k) (keys_of evs)

  -- the key that its lines have in the plain form
  abbrev named : Key → Key
  named k = record { file = 0; section = 0; text = decimal (pos k) }

  -- the key of a trace
  abbrev IsKey : Key → Type 0
  IsKey k = list_any (same_key k) (keys_of evs) ≡ true

  -- the number of an event's trace
  abbrev number : Event → ℕ
  number e = pos e.key

  apart : AreApart same_key (keys_of evs)
  apart = (keys-first_met (map (λ (e : Event). e.key) evs) []).apart

  pos-small : (k : Key) → pos k < 2 ^ 64
  pos-small k = omega (arith, position-le (same_key k) (keys_of evs), few)

  stands : (k : Key) → IsKey k → slice_get (keys_of evs) (pos k) ≡ Some k
  stands k is =
      let s = any-stands (keys_of evs) k is in
      subst (λ (i : ℕ). slice_get (keys_of evs) i ≡ Some k) (key-at (keys_of evs) s.0 k apart s.1) s.1

  pos-same : (a b : Key) → IsKey a → IsKey b → pos a ≡ pos b → a ≡ b
  pos-same a b is-a is-b is = same_Some a b (sym (stands a is-a) ∙ (ap (slice_get (keys_of evs)) is ∙ stands b is-b))

  named-same : (a b : Key) → IsKey a → IsKey b → same_key (named a) (named b) ≡ same_key a b
  named-same a b is-a is-b = by (same_key a b) refl
    where
      by : (c : Bool) → same_key a b ≡ c → same_key (named a) (named b) ≡ same_key a b
      by true is = subst (λ (k : Key). same_key (named a) (named k) ≡ true) (same_key-≡ a b is) (same_key-refl (named a)) ∙ sym is
      by false is =
          false_from_ne_true (same_key (named a) (named b))
          (λ same.
          let digits : decimal (pos a) ≡ decimal (pos b) = ap (λ (k : Key). k.text) (same_key-≡ (named a) (named b) same) in
          let one : a ≡ b = pos-same a b is-a is-b (decimal_injective (pos a) (pos b) (pos-small a) (pos-small b) digits) in
          let own : same_key a b ≡ true = subst (λ (k : Key). same_key a k ≡ true) one (same_key-refl a) in
          cc)
          ∙ sym is

  -- ---- the keys

  any-named : (k : Key) → IsKey k → (met : List Key) → AllByRecursion IsKey met → list_any (same_key (named k)) (map named met) ≡ list_any (same_key k) met
  any-named k is [] all = refl
  any-named k is (m ∷ met) all = ap₂ (λ (a b : Bool). a || b) (named-same k m is all.0) (any-named k is met all.1)

  all-push : (met : List Key) (k : Key) → AllByRecursion IsKey met → IsKey k → AllByRecursion IsKey (met ++ k ∷ [])
  all-push [] k all is = (is, tt)
  all-push (m ∷ met) k all is = (all.0, all-push met k all.1 is)

  new-named : (met : List Key) (k : Key) → AllByRecursion IsKey met → IsKey k
      → (with_new same_key (map named met) (named k) ≡ map named (with_new same_key met k)) × AllByRecursion IsKey (with_new same_key met k)
  new-named met k all is = by (list_any (same_key k) met) refl
    where
      by : (b : Bool) → list_any (same_key k) met ≡ b
          → (with_new same_key (map named met) (named k) ≡ map named (with_new same_key met k)) × AllByRecursion IsKey (with_new same_key met k)
      by true met-it = (
        cond-true _ _ _ (any-named k is met all ∙ met-it) ∙ ap (map named) (sym (cond-true _ _ _ met-it)),
        subst (AllByRecursion IsKey) (sym (cond-true _ _ _ met-it)) all,
      )
      by false met-it = (
        cond-false _ _ _ (any-named k is met all ∙ met-it) ∙ (sym (map-append named met (k ∷ [])) ∙ ap (map named) (sym (cond-false _ _ _ met-it))),
        subst (AllByRecursion IsKey) (sym (cond-false _ _ _ met-it)) (all-push met k all is),
      )

  fold-named : (met ks : List Key) → AllByRecursion IsKey met → AllByRecursion IsKey ks → fold (with_new same_key) (map named met) (map named ks) ≡ map named (fold (with_new same_key) met ks)
  fold-named met [] all-met all = refl
  fold-named met (k ∷ ks) all-met all =
      let step = new-named met k all-met all.0 in
      ap (λ (m : List Key). fold (with_new same_key) m (map named ks)) step.0 ∙ fold-named (with_new same_key met k) ks step.1 all.1

  keys-named : (es : List Event) → map (λ (e : Event). e.key) (map (again number) es) ≡ map named (map (λ (e : Event). e.key) es)
  keys-named [] = refl
  keys-named (e ∷ es) = ap (λ (ks : List Key). named e.key ∷ ks) (keys-named es)

  -- each event has a key and a type of the log
  pub record IsMet (e : Event) : Type 0 where
    pub key : IsKey e.key
    pub typ : list_any (bytes_eq e.typ) (types_of evs) ≡ true

  all-met : (front es : List Event) → evs ≡ front ++ es → AllByRecursion IsMet es
  all-met front [] is = tt
  all-met front (e ∷ es) is = (
    record {
      key =
          (keys-first_met (map (λ (f : Event). f.key) evs) []).members e.key
          ∙ (ap (λ (fs : List Event). list_any (same_key e.key) (map (λ (f : Event). f.key) fs)) is
          ∙ (ap (list_any (same_key e.key)) (map-append (λ (f : Event). f.key) front (e ∷ es))
          ∙ found same_key e.key (same_key-refl e.key) (map (λ (f : Event). f.key) front) (map (λ (f : Event). f.key) es)));
      typ =
          (types-first_met (map (λ (f : Event). f.typ) evs) []).members e.typ
          ∙ (ap (λ (fs : List Event). list_any (bytes_eq e.typ) (map (λ (f : Event). f.typ) fs)) is
          ∙ (ap (list_any (bytes_eq e.typ)) (map-append (λ (f : Event). f.typ) front (e ∷ es))
          ∙ found bytes_eq e.typ (bytes-own e.typ) (map (λ (f : Event). f.typ) front) (map (λ (f : Event). f.typ) es)));
    },
    all-met (front ++ e ∷ []) es (is ∙ sym (append_assoc front (e ∷ []) es)),
  )

  met-keys : (es : List Event) → AllByRecursion IsMet es → AllByRecursion IsKey (map (λ (e : Event). e.key) es)
  met-keys [] all = tt
  met-keys (e ∷ es) all = (all.0.key, met-keys es all.1)

  own-keys : (front ks : List Key) → keys_of evs ≡ front ++ ks → AllByRecursion IsKey ks
  own-keys front [] is = tt
  own-keys front (k ∷ ks) is = (
    ap (list_any (same_key k)) is ∙ found same_key k (same_key-refl k) front ks,
    own-keys (front ++ k ∷ []) ks (is ∙ sym (append_assoc front (k ∷ []) ks)),
  )

  keys-again : keys_of (map (again number) evs) ≡ map named (keys_of evs)
  keys-again = ap (first_met same_key) (keys-named evs) ∙ fold-named [] (map (λ (e : Event). e.key) evs) tt (met-keys evs (all-met [] evs refl))

  -- ---- the words

  pull : (b : Bool) (e : Event) (es : List Event) → (if b then again number e ∷ map (again number) es else map (again number) es) ≡ map (again number) (if b then e ∷ es else es)
  pull true e es = refl
  pull false e es = refl

  of-key : (k : Key) → IsKey k → (es : List Event) → AllByRecursion IsMet es → events_of_key (map (again number) es) (named k) ≡ map (again number) (events_of_key es k)
  of-key k is [] all = refl
  of-key k is (e ∷ es) all =
      ap₂ (λ (b : Bool) (rest : List Event). if b then again number e ∷ rest else rest) (named-same k e.key is all.0.key) (of-key k is es all.1)
      ∙ pull (same_key k e.key) e (events_of_key es k)

  no-times : (es : List Event) → list_all (λ (e : Event). e.time == 0) (map (again number) es) ≡ true
  no-times [] = refl
  no-times (e ∷ es) = no-times es

  typs-again : (es : List Event) → map (λ (e : Event). e.typ) (map (again number) es) ≡ map (λ (e : Event). e.typ) es
  typs-again [] = refl
  typs-again (e ∷ es) = ap (λ (ts : List (List ℕ)). e.typ ∷ ts) (typs-again es)

  pub types-again : types_of (map (again number) evs) ≡ types_of evs
  types-again = ap (first_met bytes_eq) (typs-again evs)

  numbers-again : (types : List (List ℕ)) (es : List Event) → map (λ (e : Event). number_of types e.typ) (map (again number) es) ≡ map (λ (e : Event). number_of types e.typ) es
  numbers-again types [] = refl
  numbers-again types (e ∷ es) = ap (λ (ns : List ℕ). number_of types e.typ ∷ ns) (numbers-again types es)

  word-again : (k : Key) → IsKey k → AreOrderedBy (λ (e : Event). e.time) (events_of_key evs k) → word_of (trace_of (map (again number) evs) (named k)) ≡ word_of (trace_of evs k)
  word-again k is ordered =
      let own = events_of_key evs k in
      ap (λ (ns : List ℕ). INITIAL ∷ ns ++ TERMINAL ∷ [])
      (ap₂ (λ (types : List (List ℕ)) (es : List Event). map (λ (e : Event). number_of types e.typ) (in_time es)) types-again (of-key k is evs (all-met [] evs refl))
      ∙ (ap (map (λ (e : Event). number_of (types_of evs) e.typ)) (in_time-still (map (again number) own) (no-times own))
      ∙ (numbers-again (types_of evs) own ∙ ap (map (λ (e : Event). number_of (types_of evs) e.typ)) (sym (ordered_by-still (λ (e : Event). e.time) own ordered)))))

  words-by : (ks : List Key) → AllByRecursion IsKey ks → ((k : Key) → IsKey k → AreOrderedBy (λ (e : Event). e.time) (events_of_key evs k))
      → map word_of (map (trace_of (map (again number) evs)) (map named ks)) ≡ map word_of (map (trace_of evs) ks)
  words-by [] all ordered = refl
  words-by (k ∷ ks) all ordered =
      ap₂ (λ (w : List ℕ) (ws : List (List ℕ)). w ∷ ws) (word-again k all.0 (ordered k all.0)) (words-by ks all.1 ordered)

  pub words-again : ((k : Key) → IsKey k → AreOrderedBy (λ (e : Event). e.time) (events_of_key evs k)) → words_of (log_of (map (again number) evs)) ≡ words_of (log_of evs)
  words-again ordered =
      ap (λ (ks : List Key). map word_of (map (trace_of (map (again number) evs)) ks)) keys-again ∙ words-by (keys_of evs) (own-keys [] (keys_of evs) refl) ordered

  -- ---- what the first fault says

  abbrev events_in : List (At × Event) → List Event
  events_in ps = map (λ (p : At × Event). p.1) ps

  -- no event has a time before an earlier one of its trace
  pub time-in : (k : Key) → IsKey k → (before : List Located) (ps : List (At × Event)) → AllByRecursion IsMet (events_in ps)
      → faults_after (types_of evs) before (map (located_in evs) ps) ≡ None → InTime k (latest_in (pos k) before) (events_in ps)
  time-in k is before [] all none = record { ordered = tt; later = refl }
  time-in k is before (p ∷ ps) all none =
      let l = located_in evs p in
      let parts = or-none (plain_fault (types_of evs) before l) (faults_after (types_of evs) (before ++ l ∷ []) (map (located_in evs) ps)) none in
      let calm = fault-none (is_plain_type (type_text (types_of evs) l.number)) (is_late before l) _ _ parts.0 in
      let low : latest_in l.trace before ≤ l.time = not-below l.time (latest_in l.trace before) (sym (late-is before l) ∙ calm.1) in
      let rest = time-in k is (before ++ l ∷ []) ps all.1 parts.1 in
      let more = latest-more (pos k) before l in
      let step =
      time-step (same_key k p.1.key) (latest_in (pos k) before) (latest_in (pos k) (before ++ l ∷ [])) p.1 (events_of_key (events_in ps) k)
      (λ hit.
      let at : pos p.1.key ≡ pos k = ap (λ (j : Key). pos j) (sym (same_key-≡ k p.1.key hit)) in
      let below : latest_in (pos k) before ≤ p.1.time = subst (λ (n : ℕ). latest_in n before ≤ p.1.time) at low in
      (below, more ∙ (cond-true _ _ _ (eq-true (pos p.1.key) (pos k) at) ∙ max-right (latest_in (pos k) before) p.1.time below)))
      (λ miss.
      more
      ∙ cond-false _ _ _
      (false_from_ne_true (pos p.1.key == pos k)
      (λ same.
      let one : k ≡ p.1.key = pos-same k p.1.key is all.0.key (sym (eq-is (pos p.1.key) (pos k) same)) in
      let own : same_key k p.1.key ≡ true = subst (λ (j : Key). same_key k j ≡ true) one (same_key-refl k) in
      cc)))
      rest.ordered rest.later in
      record { ordered = step.0; later = step.1 }

  -- the text of an event's type
  type-of : (p : At × Event) → IsMet p.1 → type_text (types_of evs) (number_of (types_of evs) p.1.typ) ≡ p.1.typ
  type-of p met =
      ap (λ (n : ℕ). unwrap_or (slice_get (types_of evs) n) []) (less (position_or_len (bytes_eq p.1.typ) (types_of evs)))
      ∙ ap (λ (o : Option (List ℕ)). unwrap_or o []) (at-place p.1.typ (types_of evs) met.typ)
    where
      less : (n : ℕ) → n + FIRST_TYPE - FIRST_TYPE ≡ n
      less n = omega arith

  -- each event is one that the plain form can have
  pub plain-in : AllByRecursion (λ text. (0 < length text) × IsUtf8 text) (types_of evs) → (before : List Located) (ps : List (At × Event)) → AllByRecursion IsMet (events_in ps)
      → faults_after (types_of evs) before (map (located_in evs) ps) ≡ None → AllByRecursion (IsPlain number) (events_in ps)
  plain-in texts before [] all none = tt
  plain-in texts before (p ∷ ps) all none =
      let l = located_in evs p in
      let parts = or-none (plain_fault (types_of evs) before l) (faults_after (types_of evs) (before ++ l ∷ []) (map (located_in evs) ps)) none in
      let calm = fault-none (is_plain_type (type_text (types_of evs) l.number)) (is_late before l) _ _ parts.0 in
      let text = all-found (λ text. (0 < length text) × IsUtf8 text) p.1.typ (types_of evs) texts all.0.typ in (
        record { small = pos-small p.1.key; some = text.0; utf8 = text.1; fits = ap is_plain_type (sym (type-of p all.0)) ∙ calm.0 },
        plain-in texts (before ++ l ∷ []) ps all.1 parts.1,
      )

  -- the text has the lines of the events
  pub text-in : (ps : List (At × Event)) → AllByRecursion IsMet (events_in ps)
      → plain_log (types_of evs) (map (located_in evs) ps) ≡ flat_map (λ (b : List ℕ). b ++ 10 ∷ []) (map (body_of number) (events_in ps))
  text-in [] all = refl
  text-in (p ∷ ps) all =
      ap₂ (λ (a b : List ℕ). a ++ b)
      (ap (λ (t : List ℕ). t ++ 10 ∷ []) (append_assoc (decimal (pos p.1.key)) (32 ∷ []) (type_text (types_of evs) (number_of (types_of evs) p.1.typ))
      ∙ ap (λ (t : List ℕ). decimal (pos p.1.key) ++ 32 ∷ t) (type-of p all.0)))
      (text-in ps all.1)

  -- so it is for events with their lines
  pub plain-keeps : (ps : List (At × Event)) → events_in ps ≡ evs → AllByRecursion (λ text. (0 < length text) × IsUtf8 text) (types_of evs)
      → first_fault (types_of evs) (map (located_in evs) ps) ≡ None → HasWordsOf (log_of evs) (plain_log (types_of evs) (map (located_in evs) ps))
  plain-keeps ps same texts none =
      let met : AllByRecursion IsMet (events_in ps) = subst (AllByRecursion IsMet) (sym same) (all-met [] evs refl) in
      let plain = plain-in texts [] ps met none in
      let read : events_of plainly (plain_log (types_of evs) (map (located_in evs) ps) ∷ []) ≡ map (again number) evs =
      ap (λ (t : List ℕ). events_of plainly (t ∷ [])) (text-in ps met) ∙ (lines-read number (events_in ps) plain ∙ ap (map (again number)) same) in
      record {
        types = ap types_of read ∙ types-again;
        words =
            ap (λ (es : List Event). words_of (log_of es)) read
            ∙ words-again (λ k is. subst (λ (es : List Event). AreOrderedBy (λ (e : Event). e.time) (events_of_key es k)) same (time-in k is [] ps met none).ordered);
      }

-- the log in the plain form keeps types and words
pub plain-keeps-the-words : PlainKeepsTheWords
plain-keeps-the-words s files =
    subst
    (λ (es : List Event). HasTexts (log_of es) → first_fault (types_of es) (events_located s (lines_of s files)) ≡ None → HasWordsOf (log_of es) (plain_log (types_of es) (events_located s (lines_of s files))))
    (sym (events-own s files)) (by-lines (events_at s (lines_of s files)) refl)
  where
    length-keys : (es : List Event) → length (log_of es).traces ≡ length (keys_of es)
    length-keys es = lengths (keys_of es)
      where
        lengths : (ks : List Key) → length (map (trace_of es) ks) ≡ length ks
        lengths [] = refl
        lengths (k ∷ ks) = ap suc (lengths ks)

    by-lines : (es : List Event) → es ≡ events_at s (lines_of s files) → HasTexts (log_of es) → first_fault (types_of es) (map (located_in es) (events_with_lines s (lines_of s files))) ≡ None
        → HasWordsOf (log_of es) (plain_log (types_of es) (map (located_in es) (events_with_lines s (lines_of s files))))
    by-lines es is has none =
        plain-keeps es (omega (arith, has.few, length-keys es)) (events_with_lines s (lines_of s files)) (without-lines s (lines_of s files) ∙ sym is) has.texts none
