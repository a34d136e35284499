use Rattle.std.proofs.Common.{◌≡◌, ℕ, Bool, List, count_by, ap₂, ◌≤◌, ◌+◌, ◌-◌, ◌<◌, ◌∙◌, ◌&&◌, [], All, ap, arith, cond, drop, eqb, get_or, length, length-take, subst, sym, take, take_all}
use Rattle.std.proofs.Math.Dec.{ltb}
use Rattle.std.proofs.lemmas.List.{drop_all}
use Rattle.std.proofs.lemmas.List.Elements.{All-take}
use Rattle.invariants.specs.Holds.{occurs}
use Rattle.traces.specs.Kept.{IsTypeNumber}
use Rattle.count_miner.specs.Counts.{as_read, cell, followed_count, type_count}
use Rattle.count_miner.proofs.Read.{all-left, as-long, as-many, counted-more, left-before, numbers-read, room-left}
use Rattle.count_miner.proofs.Unmet.{all-met, how_many, is_unmet, unmet-begin, unmet-left, unmet-less}
use Rattle.count_miner.proofs.counting.add_followed.Goals as goal

pub loop-unmet-init : goal.loop-unmet-init
loop-unmet-init c =
    let d = c.args.from_end in
    let events : List ℕ = c.args.events.now in
    let word : List ℕ = as_read d events in
    let types : ℕ = length c.args.all.now in
    let whole : take (length events) word ≡ word = take_all (length events) word (omega (arith, as-long d events)) in
    let none : drop (length events) word ≡ [] = drop_all (length events) word (omega (arith, as-long d events)) in
    record {
      within = omega arith;
      unmet =
          let begun : count_by (λ n. ltb 0 n) c.args.all.now ≡ how_many (is_unmet word (length word)) types =
          unmet-begin word c.args.all.now (λ b in_b. c.requires.all b in_b ∙ sym (as-many d (b + 2) events)) in
          c.occurring_types-unmet.ensures ∙ (begun ∙ ap (λ n. how_many (is_unmet word n) types) (as-long d events));
      left = λ a in_a.
          ap (λ (xs : List ℕ). get_or xs a 0) c.copy_from_slice.ensures.after
          ∙ (c.requires.all a in_a ∙ sym (ap (type_count (a + 2)) whole ∙ as-many d (a + 2) events));
      counted = λ b a in_b in_a.
          let f : ℕ = followed_count (a + 2) (b + 2) word in
          let old : ℕ = cell c.args.table.now types b a in
          omega arith ∙ ap (λ xs. old + cond (occurs (b + 2) xs) f 0) (sym none);
    }

pub overflow_sub-others : goal.overflow_sub-others
overflow_sub-others c =
    let word : List ℕ = as_read c.args.from_end c.args.events.now in
    unmet-left word (length c.args.all.now) c.loop-unmet.unmet c.loop-unmet.others c.loop-unmet.invariant.unmet (omega arith)

pub next_event-x-requires : goal.next_event-x-requires
next_event-x-requires c =
    let word : List ℕ = as_read c.args.from_end c.args.events.now in
    let some : 0 < c.loop-unmet.others = unmet-left word (length c.args.all.now) c.loop-unmet.unmet c.loop-unmet.others c.loop-unmet.invariant.unmet (omega arith) in
    omega (arith, some, c.loop-unmet.invariant.within)

-- as long as a type is still to be met, there is one event less to read after a turn
less-left : (word : List ℕ) (types unmet n : ℕ) → unmet ≡ how_many (is_unmet word n) types → 0 < unmet → n - 1 < n
less-left word types unmet n is some = let left : 0 < n = unmet-left word types unmet n is some in omega (arith, left)

pub loop-unmet-smaller-then-read_event : goal.loop-unmet-smaller-then-read_event
loop-unmet-smaller-then-read_event c =
    less-left (as_read c.args.from_end c.args.events.now) (length c.args.all.now) c.loop-unmet.unmet c.loop-unmet.others c.loop-unmet.invariant.unmet (omega arith)

pub loop-unmet-smaller : goal.loop-unmet-smaller
loop-unmet-smaller c =
    less-left (as_read c.args.from_end c.args.events.now) (length c.args.all.now) c.loop-unmet.unmet c.loop-unmet.others c.loop-unmet.invariant.unmet (omega arith)

pub read_event-requires-clause-number : goal.read_event-requires-clause-number
read_event-requires-clause-number c =
    let types : ℕ = length c.args.all.now in
    let word : List ℕ = as_read c.args.from_end c.args.events.now in
    let some : 0 < c.loop-unmet.others = unmet-left word types c.loop-unmet.unmet c.loop-unmet.others c.loop-unmet.invariant.unmet (omega arith) in
    let n = c.loop-unmet.others - 1 in
    subst (IsTypeNumber types) (sym c.next_event-x.ensures.event)
    (numbers-read c.args.from_end types c.args.events.now c.requires.numbers n 0 (omega (arith, some, c.loop-unmet.invariant.within, as-long c.args.from_end c.args.events.now)))

pub read_event-requires-clause-numbers : goal.read_event-requires-clause-numbers
read_event-requires-clause-numbers c =
    let d = c.args.from_end in
    let types : ℕ = length c.args.all.now in
    let word : List ℕ = as_read d c.args.events.now in
    let n = c.loop-unmet.others - 1 in
    subst (λ (xs : List ℕ). All (IsTypeNumber types) xs) (sym c.next_event-x.ensures.unread)
    (numbers-read d types (take n word) (All-take (IsTypeNumber types) n word (numbers-read d types c.args.events.now c.requires.numbers)))

pub read_event-requires-clause-left : goal.read_event-requires-clause-left
read_event-requires-clause-left c = λ a in_a.
    let d = c.args.from_end in
    let word : List ℕ = as_read d c.args.events.now in
    let n = c.loop-unmet.others in
    let some : 0 < n = unmet-left word (length c.args.all.now) c.loop-unmet.unmet n c.loop-unmet.invariant.unmet (omega arith) in
    let event : c.next_event-x.result.0 ≡ get_or word (n - 1) 0 = c.next_event-x.ensures.event in
    let one : ℕ → ℕ = λ y. cond (eqb y (a + 2)) 1 0 in
    omega (
      arith,
      c.loop-unmet.invariant.left a in_a,
      left-before (a + 2) word n some (omega (arith, c.loop-unmet.invariant.within, as-long d c.args.events.now)),
      ap one event,
      ap (type_count (a + 2)) c.next_event-x.ensures.unread,
      as-many d (a + 2) (take (n - 1) word),
    )

pub read_event-requires-clause-room : goal.read_event-requires-clause-room
read_event-requires-clause-room c = λ b a is in_a equal.
    let d = c.args.from_end in
    let events : List ℕ = c.args.events.now in
    let word : List ℕ = as_read d events in
    let types : ℕ = length c.args.all.now in
    let n = c.loop-unmet.others in
    let some : 0 < n = unmet-left word types c.loop-unmet.unmet n c.loop-unmet.invariant.unmet (omega arith) in
    let number : IsTypeNumber types (get_or word (n - 1) 0) =
    numbers-read d types events c.requires.numbers (n - 1) 0 (omega (arith, some, c.loop-unmet.invariant.within, as-long d events)) in
    let event : c.next_event-x.result.0 ≡ get_or word (n - 1) 0 = c.next_event-x.ensures.event in
    let in_b : b < types = omega (arith, number.1, event, is) in
    let same : cell c.loop-unmet.table types b a ≡ cell c.args.table.now types b a =
    room-left (a + 2) (b + 2) word n (cell c.args.table.now types b a) (cell c.loop-unmet.table types b a) (get_or c.loop-unmet.left b 0) (get_or c.args.all.now b 0)
    (c.loop-unmet.invariant.left b in_b) (c.requires.all b in_b ∙ sym (as-many d (b + 2) events)) equal (c.loop-unmet.invariant.counted b a in_b in_a) in
    omega (
      arith,
      same,
      ap (λ (xs : List ℕ). length xs) c.next_event-x.ensures.unread,
      as-long d (take (n - 1) word),
      length-take (n - 1) word,
      as-long d events,
      c.loop-unmet.invariant.within,
      c.requires.room b a in_b in_a,
    )

-- the unread events have as many of each type as the word has there
unread-count : (d : Bool) (a n : ℕ) (events unread : List ℕ) → unread ≡ as_read d (take n (as_read d events)) → type_count (a + 2) unread ≡ type_count (a + 2) (take n (as_read d events))
unread-count d a n events unread is = ap (type_count (a + 2)) is ∙ as-many d (a + 2) (take n (as_read d events))

-- the type of an event that is read is met if the event is the first of it
unmet-read : (d : Bool) (events left all : List ℕ) (n x : ℕ) (first : Bool) → All (IsTypeNumber (length all)) events → 0 < n → n ≤ length events
    → x ≡ get_or (as_read d events) (n - 1) 0
    → ((a : ℕ) → a < length all → get_or left a 0 ≡ type_count (a + 2) (take n (as_read d events)))
    → ((a : ℕ) → a < length all → get_or all a 0 ≡ type_count (a + 2) events)
    → ((b : ℕ) → x ≡ b + 2 → first ≡ eqb (get_or left b 0) (get_or all b 0))
    → how_many (is_unmet (as_read d events) n) (length all) ≡ cond first 1 0 + how_many (is_unmet (as_read d events) (n - 1)) (length all)
unmet-read d events left all n x first numbers some within event is_left is_all tells =
    let word : List ℕ = as_read d events in
    let y : ℕ = get_or word (n - 1) 0 in
    let inside : n ≤ length word = omega (arith, within, as-long d events) in
    let number : IsTypeNumber (length all) y = numbers-read d (length all) events numbers (n - 1) 0 (omega (arith, some, inside)) in
    let place : ℕ = y - 2 in
    let is : y ≡ place + 2 = omega (arith, number.0) in
    let below : place < length all = omega (arith, number.0, number.1) in
    unmet-less word n (length all) place first some inside is below
    (tells place (event ∙ is)
    ∙ (ap₂ (λ (p q : ℕ). eqb p q) (is_left place below) (is_all place below ∙ sym (as-many d (place + 2) events))
    ∙ all-left (place + 2) word n))

-- the counts of the type of an event that is read are whole if the event is the first of it
counted-read : (d : Bool) (events unread : List ℕ) (b a n x base old new left all : ℕ) → 0 < n → n ≤ length events
    → x ≡ get_or (as_read d events) (n - 1) 0 → unread ≡ as_read d (take (n - 1) (as_read d events))
    → left ≡ type_count (b + 2) (take n (as_read d events)) → all ≡ type_count (b + 2) events
    → old ≡ base + cond (occurs (b + 2) (drop n (as_read d events))) (followed_count (a + 2) (b + 2) (as_read d events)) 0
    → new ≡ old + cond (eqb x (b + 2) && eqb left all) (type_count (a + 2) unread) 0
    → new ≡ base + cond (occurs (b + 2) (drop (n - 1) (as_read d events))) (followed_count (a + 2) (b + 2) (as_read d events)) 0
counted-read d events unread b a n x base old new left all some within event is_unread is_left is_all was step =
    counted-more (a + 2) (b + 2) (as_read d events) n base old new left all (type_count (a + 2) unread)
    some (omega (arith, within, as-long d events))
    is_left (is_all ∙ sym (as-many d (b + 2) events)) (unread-count d a (n - 1) events unread is_unread) was
    (step ∙ ap (λ y. old + cond (eqb y (b + 2) && eqb left all) (type_count (a + 2) unread) 0) event)

pub loop-unmet-preserved-then-read_event : goal.loop-unmet-preserved-then-read_event
loop-unmet-preserved-then-read_event c =
    let d = c.args.from_end in
    let events : List ℕ = c.args.events.now in
    let all : List ℕ = c.args.all.now in
    let types : ℕ = length all in
    let n = c.loop-unmet.others in
    let some : 0 < n = unmet-left (as_read d events) types c.loop-unmet.unmet n c.loop-unmet.invariant.unmet (omega arith) in
    record {
      within = omega (arith, c.loop-unmet.invariant.within);
      unmet =
          let one : Bool → ℕ = λ t. cond t 1 0 in
          omega (
            arith,
            ap one c.if-read_event.true,
            unmet-read d events c.loop-unmet.left all n c.next_event-x.result.0 c.read_event.result c.requires.numbers some c.loop-unmet.invariant.within
                c.next_event-x.ensures.event c.loop-unmet.invariant.left c.requires.all c.read_event.ensures.first,
            c.loop-unmet.invariant.unmet,
          );
      left = λ a in_a. c.read_event.ensures.left a in_a ∙ unread-count d a (n - 1) events c.next_event-x.result.1.now c.next_event-x.ensures.unread;
      counted = λ b a in_b in_a.
          counted-read d events c.next_event-x.result.1.now b a n c.next_event-x.result.0
          (cell c.args.table.now types b a) (cell c.loop-unmet.table types b a) (cell c.read_event.new.table types b a) (get_or c.loop-unmet.left b 0) (get_or all b 0)
          some c.loop-unmet.invariant.within c.next_event-x.ensures.event c.next_event-x.ensures.unread
          (c.loop-unmet.invariant.left b in_b) (c.requires.all b in_b) (c.loop-unmet.invariant.counted b a in_b in_a) (c.read_event.ensures.counted b a in_b in_a);
    }

pub loop-unmet-preserved : goal.loop-unmet-preserved
loop-unmet-preserved c =
    let d = c.args.from_end in
    let events : List ℕ = c.args.events.now in
    let all : List ℕ = c.args.all.now in
    let types : ℕ = length all in
    let n = c.loop-unmet.others in
    let some : 0 < n = unmet-left (as_read d events) types c.loop-unmet.unmet n c.loop-unmet.invariant.unmet (omega arith) in
    record {
      within = omega (arith, c.loop-unmet.invariant.within);
      unmet =
          let one : Bool → ℕ = λ t. cond t 1 0 in
          omega (
            arith,
            ap one c.if-read_event.false,
            unmet-read d events c.loop-unmet.left all n c.next_event-x.result.0 c.read_event.result c.requires.numbers some c.loop-unmet.invariant.within
                c.next_event-x.ensures.event c.loop-unmet.invariant.left c.requires.all c.read_event.ensures.first,
            c.loop-unmet.invariant.unmet,
          );
      left = λ a in_a. c.read_event.ensures.left a in_a ∙ unread-count d a (n - 1) events c.next_event-x.result.1.now c.next_event-x.ensures.unread;
      counted = λ b a in_b in_a.
          counted-read d events c.next_event-x.result.1.now b a n c.next_event-x.result.0
          (cell c.args.table.now types b a) (cell c.loop-unmet.table types b a) (cell c.read_event.new.table types b a) (get_or c.loop-unmet.left b 0) (get_or all b 0)
          some c.loop-unmet.invariant.within c.next_event-x.ensures.event c.next_event-x.ensures.unread
          (c.loop-unmet.invariant.left b in_b) (c.requires.all b in_b) (c.loop-unmet.invariant.counted b a in_b in_a) (c.read_event.ensures.counted b a in_b in_a);
    }

pub returns : goal.returns
returns c = λ b a in_b in_a.
    let word : List ℕ = as_read c.args.from_end c.args.events.now in
    let types : ℕ = length c.args.all.now in
    let base : ℕ = cell c.args.table.now types b a in
    let none : how_many (is_unmet word c.loop-unmet.others) types ≡ 0 = omega (arith, c.loop-unmet.invariant.unmet) in
    c.loop-unmet.invariant.counted b a in_b in_a ∙ ap (λ n. base + n) (all-met (a + 2) b word c.loop-unmet.others types none in_b)
