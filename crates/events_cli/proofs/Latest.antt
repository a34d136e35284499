-- The latest time of each trace among events that stand in time.
use Rattle.std.proofs.Common.{◌≡◌, ℕ, suc, ◌+◌, ◌<◌, ◌≤◌, ◌==◌, ◌&&◌, ◌||◌, Bool, true, false, not, List, [], ◌∷◌, ◌++◌, length, take, drop, get_or, max, nat_lt, refl, sym, ap, ◌∙◌, subst, arith, Option, Some, None}
use Rattle.std.specs.Prelude.{if◌then◌else◌}
use Rattle.std.specs.Option.{option_or}
use Rattle.std.proofs.Math.Seq.{drop-cons}
use Rattle.std.proofs.lemmas.List.{take_more}
use Rattle.std.proofs.lemmas.Bool.{cond-true, cond-false}
use Rattle.std.proofs.lemmas.Bool.Decides.{nat_tests}
use Rattle.events.specs.declared.located.Located.{Located}
use Rattle.events_cli.specs.declared.ending.PlainFault.{PlainFault}
use Rattle.events_cli.specs.declared.ending.PlainFault.TheVariants.{Time}
use Rattle.events_cli.specs.Plain.{faults_after, is_late, is_plain_type, plain_fault}
use Rattle.events_cli.specs.Texts.{type_text}

-- the greatest time of the trace with this number among these events: 0 where none has it
abbrev pub latest_in : ℕ → List Located → ℕ
latest_in k [] = 0
latest_in k (d ∷ ds) = if d.trace == k then max d.time (latest_in k ds) else latest_in k ds

below-max : (t a b : ℕ) → nat_lt t (max a b) ≡ (nat_lt t a || nat_lt t b)
below-max t a b = grind (arith, nat_tests)

late-by : (c : Bool) (t a b : ℕ) (any : Bool) → any ≡ nat_lt t b → ((c && nat_lt t a) || any) ≡ nat_lt t (if c then max a b else b)
late-by true t a b any is = ap (λ (x : Bool). nat_lt t a || x) is ∙ sym (below-max t a b)
late-by false t a b any is = is

-- an event is late exactly if its time is below the greatest of its trace
pub late-is : (ds : List Located) (e : Located) → is_late ds e ≡ nat_lt e.time (latest_in e.trace ds)
late-is [] e = grind (arith, nat_tests)
late-is (d ∷ ds) e = late-by (d.trace == e.trace) e.time d.time (latest_in e.trace ds) (is_late ds e) (late-is ds e)

max-three : (a b t : ℕ) → max a (max b t) ≡ max (max a b) t
max-three a b t = omega arith

put-by : (c k : Bool) (a t rest : ℕ) (all : ℕ) → all ≡ (if k then max rest t else rest) → (if c then max a all else all) ≡ (if k then max (if c then max a rest else rest) t else (if c then max a rest else rest))
put-by true true a t rest all is = ap (max a) is ∙ max-three a rest t
put-by true false a t rest all is = ap (max a) is
put-by false true a t rest all is = is
put-by false false a t rest all is = is

-- with an event more, its time counts
pub latest-more : (k : ℕ) (ds : List Located) (e : Located) → latest_in k (ds ++ e ∷ []) ≡ (if e.trace == k then max (latest_in k ds) e.time else latest_in k ds)
latest-more k [] e = cases-more (e.trace == k) e.time
  where
    cases-more : (c : Bool) (t : ℕ) → (if c then max t 0 else 0) ≡ (if c then max 0 t else 0)
    cases-more true t = omega arith
    cases-more false t = refl
latest-more k (d ∷ ds) e = put-by (d.trace == k) (e.trace == k) d.time e.time (latest_in k ds) (latest_in k (ds ++ e ∷ [])) (latest-more k ds e)

-- a time that is noted for a trace is the greatest of it, where the event is not late
pub latest-put : (k : ℕ) (ds : List Located) (e : Located) (now was : ℕ) → was ≡ latest_in k ds → latest_in e.trace ds ≤ e.time → now ≡ (if k == e.trace then e.time else was)
    → now ≡ latest_in k (ds ++ e ∷ [])
latest-put k ds e now was is low put = by (k == e.trace) refl
  where
    same : (a b : ℕ) → (a == b) ≡ true → a ≡ b
    same a b is = grind (arith, nat_tests)

    turned : (a b : ℕ) (c : Bool) → (a == b) ≡ c → (b == a) ≡ c
    turned a b true is = grind (arith, nat_tests)
    turned a b false is = grind (arith, nat_tests)

    greater : (a b : ℕ) → a ≤ b → b ≡ max a b
    greater a b low = omega (arith, low)

    by : (c : Bool) → (k == e.trace) ≡ c → now ≡ latest_in k (ds ++ e ∷ [])
    by true hit =
        put
        ∙ (cond-true _ _ _ hit
        ∙ (greater (latest_in k ds) e.time (subst (λ (j : ℕ). latest_in j ds ≤ e.time) (sym (same k e.trace hit)) low)
        ∙ (sym (cond-true _ _ _ (turned k e.trace true hit)) ∙ sym (latest-more k ds e))))
    by false miss = put ∙ (cond-false _ _ _ miss ∙ (is ∙ (sym (cond-false _ _ _ (turned k e.trace false miss)) ∙ sym (latest-more k ds e))))

below-is : (a b : ℕ) → a < b → nat_lt a b ≡ true
below-is a b low = grind (arith, nat_tests)

above-is : (a b : ℕ) → b ≤ a → nat_lt a b ≡ false
above-is a b low = grind (arith, nat_tests)

-- a late event is a fault
pub late-fault : (types : List (List ℕ)) (before : List Located) (e : Located) → is_plain_type (type_text types e.number) ≡ true → e.time < latest_in e.trace before → plain_fault types before e ≡ Some (Time e.at)
late-fault types before e plain late =
    cond-false _ _ _ (ap not plain) ∙ cond-true _ _ _ (late-is before e ∙ below-is e.time (latest_in e.trace before) late)

-- an event that is not late, of a type that fits, is none
pub calm-fault : (types : List (List ℕ)) (before : List Located) (e : Located) → is_plain_type (type_text types e.number) ≡ true → latest_in e.trace before ≤ e.time → plain_fault types before e ≡ None
calm-fault types before e plain calm =
    cond-false _ _ _ (ap not plain) ∙ cond-false _ _ _ (late-is before e ∙ above-is e.time (latest_in e.trace before) calm)

-- the faults after an event that has none
pub faults-more : (types : List (List ℕ)) (events : List Located) (i : ℕ) (d : Located) → i < length events → plain_fault types (take i events) (get_or events i d) ≡ None
    → faults_after types (take i events) (drop i events) ≡ faults_after types (take (i + 1) events) (drop (i + 1) events)
faults-more types events i d in-events none =
    let e = get_or events i d in
    let next : suc i ≡ i + 1 = omega arith in
    ap (faults_after types (take i events)) (drop-cons events i d in-events)
    ∙ (ap (λ (o : Option PlainFault). option_or o (faults_after types (take i events ++ e ∷ []) (drop (suc i) events))) none
    ∙ (ap (λ (front : List Located). faults_after types front (drop (suc i) events)) (sym (take_more events i d in-events))
    ∙ ap (λ (n : ℕ). faults_after types (take (i + 1) events) (drop n events)) next))

-- the first fault, where the events before it have none
pub faults-hit : (types : List (List ℕ)) (events : List Located) (i : ℕ) (d : Located) (fault : PlainFault) → i < length events → plain_fault types (take i events) (get_or events i d) ≡ Some fault
    → faults_after types (take i events) (drop i events) ≡ Some fault
faults-hit types events i d fault in-events some =
    let e = get_or events i d in
    ap (faults_after types (take i events)) (drop-cons events i d in-events)
    ∙ ap (λ (o : Option PlainFault). option_or o (faults_after types (take i events ++ e ∷ []) (drop (suc i) events))) some
