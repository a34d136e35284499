-- The list of entries, and the distances that it gives.
use Rattle.std.proofs.Common.{◌≡◌, ◌==◌, ◌&&◌, ℕ, zero, suc, ◌+◌, ◌/◌, ◌%◌, ◌^◌, ◌<◌, ◌≤◌, Bool, true, false, List, [], ◌∷◌, ◌++◌, length, replicate, slice_get, slice_index, count_by, if◌then◌else◌, eq-eqb, eqb-true, ne_eqb, refl, sym, ◌∙◌, ap, ap₂, subst, inl, inr, arith}
use Rattle.std.proofs.lemmas.Bool.{and_parts, cases_Bool, cases_lt}
use Rattle.std.proofs.lemmas.List.{length-append}
use Rattle.std.proofs.lemmas.List.Sums.{sum_by-cons}
use Rattle.std.proofs.lemmas.Nat.{div-add-mod', mod_below}
use Rattle.std.proofs.lemmas.Option.{slice_get_within}
use Rattle.std.specs.Int.{bit_at}
use Rattle.partition_graph.specs.declared.id_rows.TheConstants.{ID_WORDS}
use Rattle.path_finder.specs.declared.pair.TheConstants.{STATES}
use Rattle.path_finder.specs.declared.table.TheConstants.{MAX_ENTRIES, OPEN}
use Rattle.path_finder.specs.declared.pair.Pair.{Pair}
use Rattle.path_finder.specs.declared.table.Entry.{Entry}
use Rattle.path_finder.specs.PairSets.{IsAmong}
use Rattle.path_finder.specs.Tables.{Entries, at, part_of, place, has_place, entered_from, measured_by, entries_of, AreEnteredWith, IsEntered, IsListed, IsSplitAt}
use Rattle.path_finder.proofs.PairSets.{some-among}
use Rattle.path_finder.proofs.Reaching.{slice_get_kept, slice_get_last, slice_get_push}
use Rattle.path_finder.proofs.WordSets.{past-end}

-- one distance is entered for each
pub length-entered : (i : ℕ) (x : Entry) (ds : List ℕ) → length (entered_from i x ds) ≡ length ds
length-entered i x [] = refl
length-entered i x (d ∷ ds) = ap suc (length-entered (suc i) x ds)

-- the distance that is entered at a place
read-entered : (i n : ℕ) (x : Entry) (ds : List ℕ) (k : ℕ) → n ≡ i + k → k < length ds → slice_index (entered_from i x ds) k ≡ (if has_place x n then x.distance else slice_index ds k)
read-entered i n x [] k e l = absurd (omega arith)
read-entered i n x (d ∷ ds) zero e l =
    let same : i ≡ n = omega arith in
    ap (λ (m : ℕ). if has_place x m then x.distance else d) same
read-entered i n x (d ∷ ds) (suc k) e l = read-entered (suc i) n x ds k (omega arith) (omega arith)

-- whether a distance is open, as a number
abbrev pub opens : ℕ → ℕ
opens d = if d == OPEN then 1 else 0

closed-none : (d : ℕ) → d < OPEN → opens d ≡ 0
closed-none d l = ap (λ (b : Bool). if b then 1 else 0) (ne_eqb d OPEN (λ e. omega arith))

open-one : (d : ℕ) → d ≡ OPEN → opens d ≡ 1
open-one d e = ap opens e

-- at one place no more is open
chosen-fewer : (b : Bool) (x d : ℕ) → x < OPEN → opens (if b then x else d) ≤ opens d
chosen-fewer true x d l = let z : opens x ≡ 0 = closed-none x l in omega arith
chosen-fewer false x d l = omega arith

-- no more are open
count-entered : (i : ℕ) (x : Entry) (ds : List ℕ) → x.distance < OPEN → count_by (λ d. d == OPEN) (entered_from i x ds) ≤ count_by (λ d. d == OPEN) ds
count-entered i x [] l = omega arith
count-entered i x (d ∷ ds) l =
    let y : ℕ = if has_place x i then x.distance else d in
    omega (arith, count-entered (suc i) x ds l, chosen-fewer (has_place x i) x.distance d l, sum_by-cons opens y (entered_from (suc i) x ds), sum_by-cons opens d ds)

-- where an open pair is entered, fewer are open
count-fewer : (i n : ℕ) (x : Entry) (ds : List ℕ) (k : ℕ) → n ≡ i + k → x.distance < OPEN → k < length ds → slice_index ds k ≡ OPEN → has_place x n ≡ true
    → count_by (λ d. d == OPEN) (entered_from i x ds) + 1 ≤ count_by (λ d. d == OPEN) ds
count-fewer i n x [] k e l w o h = absurd (omega arith)
count-fewer i n x (d ∷ ds) zero e l w o h =
    let y : ℕ = if has_place x i then x.distance else d in
    let same : n ≡ i = omega arith in
    let this : has_place x i ≡ true = ap (λ (m : ℕ). has_place x m) (sym same) ∙ h in
    let gone : opens y ≡ 0 = ap (λ (b : Bool). opens (if b then x.distance else d)) this ∙ closed-none x.distance l in
    omega (arith, count-entered (suc i) x ds l, gone, open-one d o, sum_by-cons opens y (entered_from (suc i) x ds), sum_by-cons opens d ds)
count-fewer i n x (d ∷ ds) (suc k) e l w o h =
    let y : ℕ = if has_place x i then x.distance else d in
    omega (arith, count-fewer (suc i) n x ds k (omega arith) l (omega arith) o h, chosen-fewer (has_place x i) x.distance d l, sum_by-cons opens y (entered_from (suc i) x ds), sum_by-cons opens d ds)

-- the id and the state of the pair at a place
place-state : (r : Pair) → r.state < 3 → place r % STATES ≡ r.state
place-state r l = omega (arith, l, div-add-mod' (place r) 3, mod_below (place r) 3 (omega arith))

place-id : (r : Pair) → r.state < 3 → place r / STATES ≡ r.id
place-id r l = omega (arith, l, div-add-mod' (place r) 3, mod_below (place r) 3 (omega arith))

-- the place of a pair of an entry is one of the entry's
among-place : (x : Entry) (r : Pair) → r.state < 3 → IsAmong (part_of x) r → has_place x (place r) ≡ true
among-place x r l is =
    let state : (place r % STATES == x.state) ≡ true = eq-eqb (place r % STATES) x.state (place-state r l ∙ is.state) in
    let here : (place r / STATES / 64 == x.place) ≡ true = eq-eqb (place r / STATES / 64) x.place (ap (λ (n : ℕ). n / 64) (place-id r l) ∙ is.place) in
    let bit : (bit_at x.word (place r / STATES % 64) == 1) ≡ true = ap (λ (n : ℕ). bit_at x.word (n % 64) == 1) (place-id r l) ∙ is.bit in
    ap₂ (λ (a b : Bool). a && b) state (ap₂ (λ (a b : Bool). a && b) here bit)

place-among : (x : Entry) (r : Pair) → r.state < 3 → has_place x (place r) ≡ true → IsAmong (part_of x) r
place-among x r l h =
    let both = and_parts (place r % STATES == x.state) ((place r / STATES / 64 == x.place) && (bit_at x.word (place r / STATES % 64) == 1)) h in
    let two = and_parts (place r / STATES / 64 == x.place) (bit_at x.word (place r / STATES % 64) == 1) both.1 in
    record {
      state = sym (place-state r l) ∙ eqb-true (place r % STATES) x.state both.0;
      place = sym (ap (λ (n : ℕ). n / 64) (place-id r l)) ∙ eqb-true (place r / STATES / 64) x.place two.0;
      bit = sym (ap (λ (n : ℕ). bit_at x.word (n % 64) == 1) (place-id r l)) ∙ two.1;
    }

-- the entry is put behind the others
abbrev pub with_entry : Entries → Entry → Entries
with_entry e x = record { distances = entered_from 0 x e.distances; parts = e.parts ++ x ∷ [] }

-- the pairs of an entry are entered with its distance
pub entered-with : (e : Entries) (x : Entry) → x.state < 3 → x.distance < OPEN → ((r : Pair) → IsAmong (part_of x) r → (place r < length e.distances) × (at e r ≡ OPEN))
    → AreEnteredWith (part_of x) x.distance e (with_entry e x)
entered-with e x small closes stand =
    record {
      size = length-entered 0 x e.distances;
      entered = λ r is.
          read-entered 0 (place r) x e.distances (place r) (omega arith) (stand r is).0
          ∙ ap (λ (b : Bool). if b then x.distance else at e r) (among-place x r (low r is) is);
      others = λ r l. elim (cases_lt (place r) (length e.distances)) [
        | inl inside ↦ elim (cases_Bool (has_place x (place r))) [
          | inl here ↦ inr (place-among x r l here)
          | inr gone ↦ inl (read-entered 0 (place r) x e.distances (place r) (omega arith) inside ∙ ap (λ (b : Bool). if b then x.distance else at e r) gone)
        ]
        | inr past ↦ inl (past-end (entered_from 0 x e.distances) (place r) (omega (arith, past, length-entered 0 x e.distances)) ∙ sym (past-end e.distances (place r) past))
      ];
      count = count-entered 0 x e.distances closes;
      fewer = λ r is.
          let less = count-fewer 0 (place r) x e.distances (place r) (omega arith) closes (stand r is).0 (stand r is).1 (among-place x r (low r is) is) in
          omega (arith, less);
    }
  where
    low : (r : Pair) → IsAmong (part_of x) r → r.state < 3
    low r is = omega (arith, is.state, small)

-- an entry is put behind the others
measured-more : (ds : List ℕ) (xs : List Entry) (x : Entry) → measured_by ds (xs ++ x ∷ []) ≡ entered_from 0 x (measured_by ds xs)
measured-more ds [] x = refl
measured-more ds (y ∷ xs) x = measured-more (entered_from 0 y ds) xs x

pub entries-more : (n : ℕ) (xs : List Entry) (x : Entry) → entries_of n (xs ++ x ∷ []) ≡ with_entry (entries_of n xs) x
entries-more n xs x = ap (λ (ds : List ℕ). let e : Entries = record { distances = ds; parts = xs ++ x ∷ [] } in e) (measured-more (replicate n OPEN) xs x)

-- a pair of an entry, which has one
pub some-of : (e : Entries) (x : Entry) → IsEntered e x → (r : Pair) × IsAmong (part_of x) r
some-of e x is = some-among (part_of x) is.some is.fits

-- no distance is past that of the open pairs
entered-top : (x : Entry) (ds : List ℕ) (k : ℕ) → x.distance < OPEN → slice_index ds k ≤ OPEN → slice_index (entered_from 0 x ds) k ≤ OPEN
entered-top x ds k closes top =
    elim (cases_lt k (length ds)) [
      | inl inside ↦ elim (cases_Bool (has_place x k)) [
        | inl here ↦ omega (arith, closes, read-entered 0 k x ds k (omega arith) inside ∙ ap (λ (b : Bool). if b then x.distance else slice_index ds k) here)
        | inr gone ↦ omega (arith, top, read-entered 0 k x ds k (omega arith) inside ∙ ap (λ (b : Bool). if b then x.distance else slice_index ds k) gone)
      ]
      | inr past ↦ omega (arith, past-end (entered_from 0 x ds) k (omega (arith, past, length-entered 0 x ds)))
    ]

-- the entry has pairs, all of them are open, and no pair that was entered is farther
pub record MayEnter (e : Entries) (x : Entry) : Type 0 where
  pub small : x.state < 3
  pub below : x.place < ID_WORDS
  pub some : 0 < x.word
  pub fits : x.word < 2 ^ 64
  pub closes : x.distance < OPEN
  pub stand : (r : Pair) → IsAmong (part_of x) r → (place r < length e.distances) × (OPEN ≤ at e r)
  pub last : (r : Pair) → r.state < 3 → place r < length e.distances → at e r < OPEN → at e r ≤ x.distance

-- what such an entry changes
pub may-change : (e : Entries) (x : Entry) → IsListed e → MayEnter e x → AreEnteredWith (part_of x) x.distance e (with_entry e x)
may-change e x listed may = entered-with e x may.small may.closes (λ r is. ((may.stand r is).0, omega (arith, (may.stand r is).1, listed.top (place r))))

-- there is room for it
pub room-for : (e : Entries) (x : Entry) → IsListed e → MayEnter e x → length e.parts < MAX_ENTRIES
room-for e x listed may =
    let own : (r : Pair) × IsAmong (part_of x) r = some-among (part_of x) may.some may.fits in
    omega (arith, listed.room, (may-change e x listed may).fewer own.0 own.1)

-- the list goes on where open pairs are entered at the greatest distance so far
pub listed-more : (e : Entries) (x : Entry) → IsListed e → MayEnter e x → IsListed (with_entry e x)
listed-more e x listed may =
    record {
      each = λ i y is. elim (slice_get_push e.parts x i y is) [
        | inl old ↦
            let o : IsEntered e y = listed.each i y old in
            record {
              state = o.state;
              below = o.below;
              some = o.some;
              fits = o.fits;
              closes = o.closes;
              within = λ r am. omega (arith, o.within r am, w.size);
              value = λ r am. elim (w.others r (omega (arith, am.state, o.state))) [
                | inl same ↦ same ∙ o.value r am
                | inr among ↦ absurd (omega (arith, o.value r am, o.closes, (may.stand r among).1))
              ];
            }
        | inr new ↦ subst (λ (z : Entry). IsEntered (with_entry e x) z) new.1 this
      ];
      others = λ r l inside none. elim (w.others r l) [
        | inl same ↦
            let open_then : OPEN ≤ at e r = listed.others r l (omega (arith, inside, w.size)) (λ i y is am. none i y (slice_get_kept e.parts (x ∷ []) i y is) am) in
            omega (arith, same, open_then)
        | inr among ↦ absurd (none (length e.parts) x (slice_get_last e.parts x) among)
      ];
      top = λ k. entered-top x e.distances k may.closes (listed.top k);
      ascends = λ i j y z before iy jz. elim (slice_get_push e.parts x j z jz) [
        | inl old_j ↦ elim (slice_get_push e.parts x i y iy) [
          | inl old_i ↦ listed.ascends i j y z before old_i old_j
          | inr new_i ↦ absurd (omega (arith, new_i.0, before, slice_get_within e.parts j z old_j))
        ]
        | inr new_j ↦ elim (slice_get_push e.parts x i y iy) [
          | inl old_i ↦ subst (λ (q : Entry). y.distance ≤ q.distance) new_j.1 (far y (listed.each i y old_i))
          | inr new_i ↦ absurd (omega (arith, new_i.0, new_j.0, before))
        ]
      ];
      room = omega (arith, listed.room, w.fewer own.0 own.1, length-append e.parts (x ∷ []));
    }
  where
    w : AreEnteredWith (part_of x) x.distance e (with_entry e x)
    w = may-change e x listed may

    own : (r : Pair) × IsAmong (part_of x) r
    own = some-among (part_of x) may.some may.fits

    this : IsEntered (with_entry e x) x
    this = record { state = may.small; below = may.below; some = may.some; fits = may.fits; closes = may.closes; within = λ r am. omega (arith, (may.stand r am).0, w.size); value = w.entered }

    far : (y : Entry) → IsEntered e y → y.distance ≤ x.distance
    far y is =
        let r : (r : Pair) × IsAmong (part_of y) r = some-of e y is in
        let v : at e r.0 ≡ y.distance = is.value r.0 r.1 in
        omega (arith, v, may.last r.0 (omega (arith, r.1.state, is.state)) (is.within r.0 r.1) (omega (arith, v, is.closes)))

-- the entries of a distance begin at the same place where one more is put behind them
pub split-more : (d first : ℕ) (e g : Entries) (x : Entry) → g.parts ≡ e.parts ++ x ∷ [] → d ≤ x.distance → IsSplitAt d first e → IsSplitAt d first g
split-more d first e g x more far split =
    record {
      within = omega (arith, split.within, ap length more, length-append e.parts (x ∷ []));
      before = λ i y low is. elim (slice_get_push e.parts x i y (sym (ap (λ (xs : List Entry). slice_get xs i) more) ∙ is)) [
        | inl old ↦ split.before i y low old
        | inr new ↦ absurd (omega (arith, new.0, low, split.within))
      ];
      after = λ i y high is. elim (slice_get_push e.parts x i y (sym (ap (λ (xs : List Entry). slice_get xs i) more) ∙ is)) [
        | inl old ↦ split.after i y high old
        | inr new ↦ subst (λ (z : Entry). d ≤ z.distance) new.1 far
      ];
    }
