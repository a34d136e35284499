-- The levels of the search: what is known of walks after each.
use Rattle.std.proofs.Common.{◌≡◌, ◌⊎◌, ℕ, ◌+◌, ◌*◌, ◌<◌, ◌≤◌, true, false, List, [], ◌∷◌, length, slice_get, Some, refl, sym, ◌∙◌, subst, inl, inr, arith}
use Rattle.std.proofs.lemmas.Bool.{cases_Bool, cases_eq, cases_lt, true≢false}
use Rattle.std.proofs.lemmas.Option.{slice_get_within}
use Rattle.invariants.specs.Monitors.{is_bad}
use Rattle.limits.specs.declared.TheConstants.{MAX_PARTITIONS}
use Rattle.partition_graph.specs.Parts.{HasEdgesBelow}
use Rattle.path_finder.specs.declared.pair.TheConstants.{STATES}
use Rattle.path_finder.specs.declared.table.TheConstants.{OPEN}
use Rattle.path_finder.specs.declared.pair.Pair.{Pair}
use Rattle.path_finder.specs.declared.pair_set.PairSet.{PairSet}
use Rattle.path_finder.specs.declared.pair_set.Part.{Part}
use Rattle.path_finder.specs.declared.table.Entry.{Entry}
use Rattle.path_finder.specs.Gathering.{HasSourcesOf, IsPairIn}
use Rattle.path_finder.specs.Levels.{HasEndsBelow, IsEntering, IsDue, IsReached, AreOpened}
use Rattle.path_finder.specs.PairSets.{has_pair, IsAmong, IsEmptySet, IsMarked, IsTaken}
use Rattle.path_finder.specs.Tables.{Entries, at, open_count, part_of, IsEntered, IsKnown, IsListed, IsListedFrom, IsMeasured, IsSplitAt}
use Rattle.path_finder.specs.Walks.{Asked, IsPairOf, Leads, EndsBadly, Finishes}
use Rattle.path_finder.proofs.Entering.{ends_before, place_within}
use Rattle.path_finder.proofs.Listing.{some-of}
use Rattle.path_finder.proofs.Measuring.{pair_after, after_is_pair, leads_after}
use Rattle.path_finder.proofs.PairSets.{among-low}

-- an edge before a walk that ends badly is one more
pub finishes-before : (a : Asked) (p q : Pair) (k : ℕ) → Leads a p q → Finishes a q k → Finishes a p (k + 1)
finishes-before a p q k l f = (q.id ∷ f.0, (let n : length f.0 ≡ k = f.1 in omega arith), ends_before a p q f.0 l f.2)

-- where no pair is at this distance, none is farther
pub all-known : (a : Asked) (d : ℕ) (e : Entries) → HasEdgesBelow a.graph a.ids → IsKnown a (d + 1) e → ((r : Pair) → IsPairOf a r → at e r < OPEN → at e r < d)
    → (xs : List ℕ) (r : Pair) → IsPairOf a r → EndsBadly a r xs → (at e r ≤ length xs) × (at e r < OPEN)
all-known a d e w known low [] r p b = known.whole r 0 p (omega arith) ([], refl, b)
all-known a d e w known low (q ∷ xs) r p b =
    let edge : a.graph.edge r.id q ≡ true = b.walk.0 in
    let sp : IsPairOf a (pair_after a r q) = after_is_pair a r q w p edge in
    let i : (at e (pair_after a r q) ≤ length xs) × (at e (pair_after a r q) < OPEN) =
    all-known a d e w known low xs (pair_after a r q) sp (record { walk = b.walk.1; bad = b.bad }) in
    let l : at e (pair_after a r q) < d = low (pair_after a r q) sp i.1 in
    let f : Finishes a r (at e (pair_after a r q) + 1) = finishes-before a r (pair_after a r q) (at e (pair_after a r q)) (leads_after a r q edge) (known.sound (pair_after a r q) sp i.1) in
    let k : (at e r ≤ at e (pair_after a r q) + 1) × (at e r < OPEN) = known.whole r (at e (pair_after a r q) + 1) p (omega (arith, l)) f in
    (omega (arith, k.0, i.0), k.1)

-- where no pair is at this distance, all distances are known
pub all-measured : (a : Asked) (d : ℕ) (e : Entries) (start : Pair) → HasEdgesBelow a.graph a.ids → IsReached a d e → ((r : Pair) → IsPairOf a r → at e r ≡ d → ⊥) → IsMeasured a start e
all-measured a d e start w reached none =
    record {
      size = reached.known.size;
      short = λ r p k. omega (arith, reached.low r p k, reached.room);
      sound = reached.known.sound;
      whole = λ r k p l f.
          let h : (at e r ≤ length f.0) × (at e r < OPEN) = all-known a d e w reached.known low f.0 r p f.2 in
          let n : length f.0 ≡ k = f.1 in
          (omega (arith, h.0, n), h.1);
    }
  where
    low : (r : Pair) → IsPairOf a r → at e r < OPEN → at e r < d
    low r p k = elim (cases_eq (at e r) d) [ inl same ↦ absurd (none r p same) | inr other ↦ omega (arith, reached.low r p k, other) ]

-- where the start is entered, the distances up to its own are known
pub start-measured : (a : Asked) (d : ℕ) (e : Entries) (start : Pair) → IsReached a d e → IsPairOf a start → at e start < OPEN → IsMeasured a start e
start-measured a d e start reached sp st =
    record {
      size = reached.known.size;
      short = λ r p k. omega (arith, reached.low r p k, reached.room);
      sound = reached.known.sound;
      whole = λ r k p l f. reached.known.whole r k p (omega (arith, l st, reached.low start sp st)) f;
    }

-- a set without pairs has none
pub no-pair : (s : PairSet) (r : Pair) → IsEmptySet s → IsPairIn s r → ⊥
no-pair s r empty is = true≢false (sym is.has ∙ empty.none r is.state is.id)

-- a pair is within the bounds
pub pair-in : (a : Asked) (s : PairSet) (r : Pair) → a.ids ≤ MAX_PARTITIONS → IsPairOf a r → has_pair s r ≡ true → IsPairIn s r
pair-in a s r few p has = record { state = p.state; id = omega (arith, p.id, few); has = has }

-- a pair of a part that was taken was found
pub among-in : (old new : PairSet) (part : Part) (r : Pair) → IsTaken old new part → IsAmong part r → IsPairIn old r
among-in old new part r taken is = record { state = omega (arith, is.state, taken.state); id = among-low part r taken.place is; has = taken.had r is }

-- a pair of an entry is one of the pairs
pub entered-pair : (a : Asked) (e : Entries) (x : Entry) (r : Pair) → length e.distances ≡ a.ids * STATES → IsEntered e x → IsAmong (part_of x) r → IsPairOf a r
entered-pair a e x r size is am =
    let small : r.state < 3 = omega (arith, am.state, is.state) in
    record { id = omega (arith, is.within r am, size); state = small }

-- where all that was entered is nearer, the entries of this distance will begin behind the others
pub split-begun : (a : Asked) (d : ℕ) (e : Entries) (f : PairSet) → IsDue a d e f → IsListed e → IsSplitAt d (length e.parts) e
split-begun a d e f due listed =
    record {
      within = omega arith;
      before = λ i x low is.
          let y : IsEntered e x = listed.each i x is in
          let r : (r : Pair) × IsAmong (part_of x) r = some-of e x y in
          let v : at e r.0 ≡ x.distance = y.value r.0 r.1 in
          let p : IsPairOf a r.0 = entered-pair a e x r.0 due.entering.known.size y r.1 in
          elim (cases_eq (at e r.0) d) [
            | inl same ↦ absurd (due.none r.0 p same)
            | inr other ↦ omega (arith, v, other, due.entering.low r.0 p (omega (arith, v, y.closes)))
          ];
      after = λ i x high is. absurd (omega (arith, high, slice_get_within e.parts i x is));
    }

-- the level goes on where the open pairs of a part are entered
pub enters : (a : Asked) (part : Part) (d : ℕ) (e g : Entries) (f h : PairSet) → a.ids ≤ MAX_PARTITIONS → IsEntering a d e f → IsTaken f h part → IsMarked h → AreOpened a part d e g → IsEntering a d g h
enters a part d e g f h few old taken marked opened =
    record {
      known = record {
        size = opened.size ∙ old.known.size;
        sound = λ r p k. elim (opened.others r p) [
          | inl same ↦ subst (λ (n : ℕ). Finishes a r n) (sym same) (old.known.sound r p (omega (arith, same, k)))
          | inr new ↦ subst (λ (n : ℕ). Finishes a r n) (sym new.1) (old.found.sound r (among-in f h part r taken new.0)).1
        ];
        whole = λ r k p l w.
            let o : (at e r ≤ k) × (at e r < OPEN) = old.known.whole r k p l w in
            let same : at g r ≡ at e r = opened.known r p o.1 in
            (omega (arith, same, o.0), omega (arith, same, o.1));
      };
      low = λ r p k. elim (opened.others r p) [
        | inl same ↦ omega (arith, same, old.low r p (omega (arith, same, k)))
        | inr new ↦ omega (arith, new.1)
      ];
      found = record {
        marked = marked;
        sound = λ r is. old.found.sound r (record { state = is.state; id = is.id; has = taken.kept r is.has });
        whole = λ r p w. elim (old.found.whole r p w) [
          | inl was ↦ inl (let same : at g r ≡ at e r = opened.known r p was in omega (arith, same, was))
          | inr has ↦ elim (taken.left r p.state (omega (arith, p.id, few)) has) [
            | inl still ↦ inr still
            | inr among ↦ inl (opened.entered r among)
          ]
        ];
      };
      room = omega (arith, opened.count, old.room);
    }

-- all pairs up to the distance are entered where nothing is left of those that were found
pub level-reached : (a : Asked) (d : ℕ) (e : Entries) (f : PairSet) → a.ids ≤ MAX_PARTITIONS → IsEntering a d e f → IsEmptySet f → IsReached a d e
level-reached a d e f few entering empty =
    record {
      known = record {
        size = entering.known.size;
        sound = entering.known.sound;
        whole = λ r k p l w. elim (cases_lt k d) [
          | inl below ↦ entering.known.whole r k p below w
          | inr past ↦
              let here : k ≡ d = omega (arith, l, past) in
              elim (entering.found.whole r p (subst (λ (n : ℕ). Finishes a r n) here w)) [
                | inl low ↦ (omega (arith, here, entering.low r p low), low)
                | inr has ↦ absurd (no-pair f r empty (pair-in a f r few p has))
              ]
        ];
      };
      low = entering.low;
      room = entering.room;
    }

-- a pair of an entry of the level
at-level : (a : Asked) (d first : ℕ) (e : Entries) (r : Pair) → IsReached a d e → IsListed e → IsSplitAt d first e → IsListedFrom first e r → IsPairOf a r × (at e r ≡ d)
at-level a d first e r reached listed split is =
    let x : IsEntered e is.entry = listed.each is.index is.entry is.there in
    let pair : IsPairOf a r = entered-pair a e is.entry r reached.known.size x is.among in
    let v : at e r ≡ is.entry.distance = x.value r is.among in
    (pair, omega (arith, v, split.after is.index is.entry is.reached is.there, reached.low r pair (omega (arith, v, x.closes))))

-- what leads to each pair of the entries of the level leads to each pair of the level
gathered-all : (a : Asked) (d first : ℕ) (e : Entries) (g : PairSet) (p q : Pair) → IsReached a d e → IsListed e → IsSplitAt d first e → d + 1 + open_count e ≤ a.ids * STATES → a.ids ≤ MAX_PARTITIONS
    → (IsListedFrom first e q → has_pair g p ≡ true) → IsPairOf a q → at e q ≡ d → has_pair g p ≡ true
gathered-all a d first e g p q reached listed split room few all pq here =
    elim (cases_Bool (has_pair g p)) [
      | inl has ↦ has
      | inr lacks ↦ absurd (omega (arith, here, room, few, listed.others q pq.state (omega (arith, place_within a q pq, reached.known.size)) (none lacks)))
    ]
  where
    none : has_pair g p ≡ false → (i : ℕ) (x : Entry) → slice_get e.parts i ≡ Some x → IsAmong (part_of x) q → ⊥
    none lacks i x is am = elim (cases_lt i first) [
      | inl low ↦ omega (arith, split.before i x low is, (listed.each i x is).value q am, here)
      | inr high ↦ true≢false (sym (all (record { index = i; entry = x; reached = high; there = is; among = am })) ∙ lacks)
    ]

-- the pairs that lead to those of a level are found, and the next level is due
pub next-due : (a : Asked) (d first : ℕ) (e : Entries) (f g : PairSet) → HasEdgesBelow a.graph a.ids → a.ids ≤ MAX_PARTITIONS → IsReached a d e → d + 1 + open_count e ≤ a.ids * STATES
    → IsListed e → IsSplitAt d first e → IsEmptySet f → IsMarked g → HasSourcesOf a (IsListedFrom first e) f g → IsDue a (d + 1) e g
next-due a d first e f g w few reached room listed split empty marked gathered =
    record {
      entering = record {
        known = reached.known;
        low = λ r p k. omega (arith, reached.low r p k);
        found = record {
          marked = marked;
          sound = λ r is. elim (gathered.others r is.id is.has) [
            | inl old ↦ absurd (no-pair f r empty (record { state = is.state; id = is.id; has = old }))
            | inr new ↦
                let q : IsPairOf a new.0 × (at e new.0 ≡ d) = at-level a d first e new.0 reached listed split new.1 in
                let z : Finishes a new.0 (at e new.0) = reached.known.sound new.0 q.0 (omega (arith, q.1, room, few)) in
                (record { id = (w r.id new.0.id new.2.edge).0; state = is.state }, finishes-before a r new.0 d new.2 (subst (λ (n : ℕ). Finishes a new.0 n) q.1 z))
          ];
          whole = λ r p z. whole r p z.0 z.1 z.2;
        };
        room = room;
      };
      none = λ r p k. omega (arith, k, reached.low r p (omega (arith, k, room, few)));
    }
  where
    whole : (r : Pair) → IsPairOf a r → (xs : List ℕ) → length xs ≡ d + 1 → EndsBadly a r xs → (at e r < OPEN) ⊎ (has_pair g r ≡ true)
    whole r p [] n b = absurd (omega (arith, n))
    whole r p (q ∷ xs) n b =
        let edge : a.graph.edge r.id q ≡ true = b.walk.0 in
        let sp : IsPairOf a (pair_after a r q) = after_is_pair a r q w p edge in
        let leads : Leads a r (pair_after a r q) = leads_after a r q edge in
        let long : length xs ≡ d = omega (arith, n) in
        let k : (at e (pair_after a r q) ≤ d) × (at e (pair_after a r q) < OPEN) =
        reached.known.whole (pair_after a r q) d sp (omega arith) (xs, long, record { walk = b.walk.1; bad = b.bad }) in
        elim (cases_eq (at e (pair_after a r q)) d) [
          | inl same ↦ inr (gathered-all a d first e g r (pair_after a r q) reached listed split room few (λ l. gathered.all r (pair_after a r q) l p leads) sp same)
          | inr nearer ↦
              let f : Finishes a r (at e (pair_after a r q) + 1) = finishes-before a r (pair_after a r q) (at e (pair_after a r q)) leads (reached.known.sound (pair_after a r q) sp k.1) in
              inl (reached.known.whole r (at e (pair_after a r q) + 1) p (omega (arith, k.0, nearer)) f).1
        ]

-- the first level is due where TERMINAL is found in the bad states and all pairs are open
pub first-due : (a : Asked) (e : Entries) (f : PairSet) → 2 ≤ a.ids → length e.distances ≡ a.ids * STATES → ((r : Pair) → IsPairOf a r → at e r ≡ OPEN) → open_count e ≤ a.ids * STATES
    → HasEndsBelow a 3 f → IsDue a 0 e f
first-due a e f two size stand count ends =
    record {
      entering = record {
        known = record {
          size = size;
          sound = λ r p k. absurd (omega (arith, k, stand r p));
          whole = λ r k p l w. absurd (omega (arith, l));
        };
        low = λ r p k. absurd (omega (arith, k, stand r p));
        found = record {
          marked = ends.marked;
          sound = λ r is.
              let end : (r.id ≡ 1) × (is_bad a.inv r.state ≡ true) = ends.ends r is in
              (record { id = omega (arith, end.0, two); state = is.state }, ([], refl, record { walk = end.0; bad = end.1 }));
          whole = λ r p z. whole r p z.0 z.1 z.2;
        };
        room = omega (arith, count);
      };
      none = λ r p k. omega (arith, k, stand r p);
    }
  where
    whole : (r : Pair) → IsPairOf a r → (xs : List ℕ) → length xs ≡ 0 → EndsBadly a r xs → (at e r < OPEN) ⊎ (has_pair f r ≡ true)
    whole r p [] n b = inr (ends.all r b.walk p.state b.bad)
    whole r p (q ∷ xs) n b = absurd (omega (arith, n))
