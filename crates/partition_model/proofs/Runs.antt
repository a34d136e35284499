-- What each step of refinement keeps.
use Rattle.std.proofs.Common.{◌≡◌, ◌≢◌, ◌⊎◌, ℕ, zero, suc, ◌+◌, ◌-◌, ◌<◌, ◌≤◌, ◌==◌, ◌&&◌, false, List, [], ◌∷◌, ◌++◌, map, length, slice_index, slice_get, Some, sym, ◌∙◌, refl, ap, ap₂, subst, subst₂, inl, inr, arith, ne_eqb, add-zero}
use Rattle.std.proofs.lemmas.Bool.{cases_eq, cases_Bool}
use Rattle.std.specs.List.{AllByRecursion}
use Rattle.invariants.specs.declared.Invariant.{Invariant}
use Rattle.invariants.specs.Holds.{Holds}
use Rattle.partition_model.specs.Graphs.{Graph, Satisfies, IsLeastViolation}
use Rattle.partition_model.specs.Assignments.{Event, Assignment, events, G, IsTyped, type_of, types_of, word_of, inner_words, with_ends, members, by_type, renamed}
use Rattle.invariants.specs.declared.records.Split.{Split}
use Rattle.partition_model.specs.Refinement.{stitch, split, split_trace, moved_id, next_id, Splits, IsFirstBroken, after_split}
use Rattle.partition_model.specs.Laws.{IsFresh, Divides, IsRun, AreTyped, HoldAll, RunsKeep, IsOneOf, EndsIn, OneIdPerRest, IdsWithinRests, FewerSplitsThanEvents, SatisfiesBefore, OnePassSplits}
use Rattle.partition_model.proofs.Lists.{In, In-append, In-events, events-In, all_in, all_from, member-of, count-member, In-map}
use Rattle.partition_model.proofs.Naming.{TypedBy, typed_from, typed_back}
use Rattle.partition_model.proofs.Splitting.{back, split_back, split_keeps}
use Rattle.partition_model.proofs.Stitching.{stitch_divides, In-split}
use Rattle.partition_model.proofs.Rests.{split-types, run-rests, start-rests}
use Rattle.partition_model.proofs.Counting.{places}

-- a split keeps the words
pub words-split : (p q n : ℕ) (h : Assignment) → inner_words (split p q n h) ≡ inner_words h
words-split p q n [] = refl
words-split p q n (t ∷ h) = ap₂ (λ (x : List ℕ) (z : List (List ℕ)). x ∷ z) (split-types p q n t) (words-split p q n h)

-- the first assignment of a word has its types
types-typed : (w : List ℕ) → types_of (map (λ (t : ℕ). record { typ = t; id = t }) w) ≡ w
types-typed [] = refl
types-typed (t ∷ w) = ap (λ (z : List ℕ). t ∷ z) (types-typed w)

-- the first assignment of the words has these words
pub words-typed : (words : List (List ℕ)) → inner_words (by_type words) ≡ words
words-typed [] = refl
words-typed (w ∷ words) = ap₂ (λ (x : List ℕ) (z : List (List ℕ)). x ∷ z) (types-typed w) (words-typed words)

-- what holds of each word holds of the word of each trace
pub holds-at : (inv : Invariant) (h : Assignment) → AllByRecursion (λ w. Holds inv (with_ends w)) (inner_words h) → AllByRecursion (λ trace. Holds inv (word_of trace)) h
holds-at inv [] a = tt
holds-at inv (t ∷ h) a = (a.0, holds-at inv h a.1)

-- an invariant of the list holds of the word of each trace
pub traces-hold : (words : List (List ℕ)) (h : Assignment) (n : ℕ) (inv : Invariant) (invs : List Invariant) (k : ℕ) → IsRun words h n → HoldAll words invs → slice_get invs k ≡ Some inv → AllByRecursion (λ trace. Holds inv (word_of trace)) h
traces-hold words h n inv [] k r a e = absurd (cc e)
traces-hold words h n inv (i ∷ invs) zero r a e =
    let q : i ≡ inv = cc in
    holds-at inv h (subst₂ (λ (x : Invariant) (ws : List (List ℕ)). AllByRecursion (λ w. Holds x (with_ends w)) ws) q (sym r.words_are) a.0)
traces-hold words h n inv (i ∷ invs) (suc k) r a e = traces-hold words h n inv invs k r a.1 e

-- the next id of the run is new
pub fresh-run : (words : List (List ℕ)) (h : Assignment) (n : ℕ) → IsRun words h n → 2 ≤ n → IsFresh n h
fresh-run words h n r l = (l, all_from (λ e. e.id ≢ n) (events h) (λ e i q. absurd (let b : e.id < n = all_in (λ e. e.id < n) e (events h) r.below i in omega arith)))

-- an id below 2 stays when a division is undone
back-low : (p n x : ℕ) → 2 ≤ n → x < 2 → back p n x ≡ x
back-low p n x l k = rw (ne_eqb x n (λ q. absurd (omega arith)))

-- a split keeps one type for each id
pub split-typed : (h : Assignment) (p q n : ℕ) → IsTyped h → IsFresh n h → IsTyped (split p q n h)
split-typed h p q n t f =
    let e : renamed (back p n) (split p q n h) ≡ h = split_back p q n h f.1 in
    let T : ℕ → ℕ = λ x. type_of h x in
    let a : TypedBy (λ x. type_of h x) (renamed (back p n) (split p q n h)) = subst (λ (k : Assignment). TypedBy (λ x. type_of h x) k) (sym e) t in
    typed_from (λ x. type_of h (back p n x)) (split p q n h)
    (typed_back (back p n) (back-low p n 0 f.0 (omega arith)) (back-low p n 1 f.0 (omega arith)) (λ x. type_of h x) (split p q n h) a)

-- an event has, after the split, the new id or its own
moved-cases : (p q n : ℕ) (d : Event) (t : List Event) (e : Event) → record { typ = d.typ; id = moved_id p q n d t } ≡ e → (e.id ≡ n) ⊎ (e.id ≡ d.id)
moved-cases p q n d t e k =
    let x : moved_id p q n d t ≡ e.id = ap (λ (z : Event). z.id) k in
    elim (cases_Bool (d.id == p && next_id t == q)) [
      | inl a ↦ inl (let y : n ≡ e.id = rw a at x in sym y)
      | inr b ↦ inr (let y : d.id ≡ e.id = rw b at x in sym y)
    ]

-- each event after the split comes from one before it, with the new id or its own
pub split-event : (p q n : ℕ) (t : List Event) (e : Event) → In e (split_trace p q n t) → (d : Event) × In d t × ((e.id ≡ n) ⊎ (e.id ≡ d.id))
split-event p q n [] e i = absurd i
split-event p q n (d ∷ t) e (inl k) = (d, inl refl, moved-cases p q n d t e k)
split-event p q n (d ∷ t) e (inr r) = let o : (c : Event) × In c t × ((e.id ≡ n) ⊎ (e.id ≡ c.id)) = split-event p q n t e r in (o.0, inr o.1, o.2)

-- each trace after the split comes from one before it
pub split-In : (p q n : ℕ) (s : List Event) (h : Assignment) → In s (split p q n h) → (t : List Event) × In t h × (split_trace p q n t ≡ s)
split-In p q n s h i = In-map (λ trace. split_trace p q n trace) s h i

-- an event that is not of p keeps its id
stays : (p q n : ℕ) (t : List Event) (e : Event) → In e t → e.id ≢ p → (d : Event) × In d (split_trace p q n t) × (d.id ≡ e.id)
stays p q n [] e i k = absurd i
stays p q n (c ∷ t) e (inl a) k =
    let b : c.id ≡ e.id = ap (λ (x : Event). x.id) a in
    let f : (c.id == p) ≡ false = ne_eqb c.id p (λ x. k (sym b ∙ x)) in
    (record { typ = c.typ; id = moved_id p q n c t }, inl refl, rw f b)
stays p q n (c ∷ t) e (inr r) k = let o : (d : Event) × In d (split_trace p q n t) × (d.id ≡ e.id) = stays p q n t e r k in (o.0, inr o.1, o.2)

-- a split of which both parts have events keeps what the run keeps
pub split-run : (words : List (List ℕ)) (h : Assignment) (p q n : ℕ) → IsRun words h n → 2 ≤ n → 0 < members (split p q n h) n → 0 < members (split p q n h) p → IsRun words (split p q n h) (n + 1)
split-run words h p q n r l mv lf =
    record {
      words_are = words-split p q n h ∙ r.words_are;
      typed = split-typed h p q n r.typed (fresh-run words h n r l);
      below = all_from (λ e. e.id < n + 1) (events (split p q n h)) (λ e i.
          let u : (s : List Event) × In s (split p q n h) × In e s = events-In e (split p q n h) i in
          let v : (t : List Event) × In t h × (split_trace p q n t ≡ u.0) = split-In p q n u.0 h u.1 in
          let w : (d : Event) × In d v.0 × ((e.id ≡ n) ⊎ (e.id ≡ d.id)) = split-event p q n v.0 e (subst (λ (z : List Event). In e z) (sym v.2) u.2) in
          let b : w.0.id < n = all_in (λ e. e.id < n) w.0 (events h) r.below (In-events w.0 v.0 h v.1 w.1) in
          elim w.2 [ inl q ↦ omega arith | inr q ↦ omega arith ]);
      each_live = λ x a b. elim (cases_eq x n) [
        | inl e ↦ subst (λ (y : ℕ). 0 < members (split p q n h) y) (sym e) mv
        | inr ne ↦ elim (cases_eq x p) [
          | inl e ↦ subst (λ (y : ℕ). 0 < members (split p q n h) y) (sym e) lf
          | inr np ↦
              (let m : 0 < members h x = r.each_live x a (omega arith) in
              let e : (e : Event) × In e (events h) × (e.id ≡ x) = member-of x (events h) m in
              let t : (t : List Event) × In t h × In e.0 t = events-In e.0 h e.1 in
              let d : (d : Event) × In d (split_trace p q n t.0) × (d.id ≡ e.0.id) = stays p q n t.0 e.0 t.2 (λ z. np (sym e.2 ∙ z)) in
              count-member x d.0 (events (split p q n h)) (In-events d.0 (split_trace p q n t.0) (split p q n h) (In-split p q n t.0 h t.1) d.1) (d.2 ∙ e.2))
        ]
      ];
    }

-- the first invariant that is broken is one of the list, and is not satisfied
pub broken : (g : Graph) (invs : List Invariant) (k : ℕ) → IsFirstBroken g invs k → (inv : Invariant) × (slice_get invs k ≡ Some inv) × (Satisfies g inv → ⊥)
broken g [] k b = absurd b
broken g (inv ∷ invs) zero b = (inv, refl, b)
broken g (inv ∷ invs) (suc k) b = broken g invs k b.1

-- an invariant that is not satisfied, where those before it are, is the first that is broken
pub broken-first : (g : Graph) (invs : List Invariant) (k : ℕ) (inv : Invariant) → slice_get invs k ≡ Some inv → SatisfiesBefore g invs k → (Satisfies g inv → ⊥) → IsFirstBroken g invs k
broken-first g [] k inv e s b = absurd (cc e)
broken-first g (i ∷ invs) zero inv e s b = let q : i ≡ inv = cc in λ x. b (subst (λ (z : Invariant). Satisfies g z) q x)
broken-first g (i ∷ invs) (suc k) inv e s b = (s 0 i (omega arith) refl, broken-first g invs k inv e (λ j v l q. s (suc j) v (omega arith) q) b)

-- one step keeps what the run keeps
pub next-run : (words : List (List ℕ)) (invs : List Invariant) (h : Assignment) (n : ℕ) (s : Split) (inv : Invariant) → IsRun words h n → 2 ≤ n → HoldAll words invs
    → slice_get invs s.inv ≡ Some inv → IsLeastViolation (G h) inv s.path → s.place ≡ stitch h s.path → IsRun words (after_split n s h) (n + 1)
next-run words invs h n s inv r l a e v p =
    let f : IsFresh n h = fresh-run words h n r l in
    let hold : AllByRecursion (λ trace. Holds inv (word_of trace)) h = traces-hold words h n inv invs s.inv r a e in
    let d : Divides h s.path n = stitch_divides h inv s.path n r.typed f hold v.breaks in
    subst (λ (i : ℕ). IsRun words (split (slice_index s.path i) (slice_index s.path (i + 1)) n h) (n + 1)) (sym p)
    (split-run words h (slice_index s.path (stitch h s.path)) (slice_index s.path (stitch h s.path + 1)) n r l d.moved d.left)

-- and so do all steps from any state
runs-from : (words : List (List ℕ)) (invs : List Invariant) (splits : List Split) (h : Assignment) (n : ℕ) (end : Assignment) → IsRun words h n → 2 ≤ n → HoldAll words invs
    → Splits invs h n splits end → IsRun words end (n + length splits)
runs-from words invs [] h n end r l a w =
    subst₂ (λ (k : Assignment) (m : ℕ). IsRun words k m) (sym w) (sym (add-zero n)) r
runs-from words invs (s ∷ ss) h n end r l a w =
    let b : (inv : Invariant) × (slice_get invs s.inv ≡ Some inv) × (Satisfies (G h) inv → ⊥) = broken (G h) invs s.inv w.0.first in
    let r' : IsRun words (after_split n s h) (n + 1) = next-run words invs h n s b.0 r l a b.1 (w.0.least b.0 b.1) w.0.place in
    let e : n + 1 ≡ suc n = omega arith in
    let r2 : IsRun words (after_split n s h) (suc n) = subst (λ (m : ℕ). IsRun words (after_split n s h) m) e r' in
    let i : IsRun words end (suc n + length ss) = runs-from words invs ss (after_split n s h) (suc n) end r2 (omega arith) a w.1 in
    let e2 : suc n + length ss ≡ n + suc (length ss) = omega arith in
    subst (λ (m : ℕ). IsRun words end m) e2 i

-- at first, the type and the id of each event of a word are the same
same-event : (w : List ℕ) (e : Event) → In e (map (λ (t : ℕ). record { typ = t; id = t }) w) → e.typ ≡ e.id
same-event [] e i = absurd i
same-event (t ∷ w) e (inl q) = sym (ap (λ (x : Event). x.typ) q) ∙ ap (λ (x : Event). x.id) q
same-event (t ∷ w) e (inr r) = same-event w e r

-- and so they are of all events
same-id : (words : List (List ℕ)) (e : Event) → In e (events (by_type words)) → e.typ ≡ e.id
same-id [] e i = absurd i
same-id (w ∷ words) e i =
    elim (In-append e (map (λ (t : ℕ). record { typ = t; id = t }) w) (events (by_type words)) i) [
      | inl a ↦ same-event w e a
      | inr b ↦ same-id words e b
    ]

-- the first assignment has what the run keeps
pub start-run : (words : List (List ℕ)) (n : ℕ) → AreTyped words n → IsRun words (by_type words) n
start-run words n a =
    record {
      words_are = words-typed words;
      typed = typed_from (λ x. x) (by_type words) (all_from (λ e. (2 ≤ e.id) × (e.typ ≡ e.id)) (events (by_type words)) (λ e i.
          let s : e.typ ≡ e.id = same-id words e i in
          let r : (2 ≤ e.typ) × (e.typ < n) = all_in (λ e. (2 ≤ e.typ) × (e.typ < n)) e (events (by_type words)) a.range i in
          (omega arith, s)));
      below = all_from (λ e. e.id < n) (events (by_type words)) (λ e i.
          let s : e.typ ≡ e.id = same-id words e i in
          let r : (2 ≤ e.typ) × (e.typ < n) = all_in (λ e. (2 ≤ e.typ) × (e.typ < n)) e (events (by_type words)) a.range i in
          omega arith);
      each_live = λ p l k. a.each p l k;
    }

-- every state of the run of refinement keeps it
pub runs_keep : RunsKeep
runs_keep invs words n splits end a hold w = runs-from words invs splits (by_type words) n end (start-run words n a) a.two hold w

-- a split for an invariant, where those before it are satisfied, is the next one, and these stay so
pub one_pass_splits : OnePassSplits
one_pass_splits invs words h n k inv path r l hold e before v =
    let s : Split = record { inv = k; place = stitch h path; path = path } in
    let ln : (i : Invariant) → slice_get invs k ≡ Some i → IsLeastViolation (G h) i path = λ i f. (let q : inv ≡ i = cc in subst (λ (x : Invariant). IsLeastViolation (G h) x path) q v) in
    let b : Satisfies (G h) inv → ⊥ = λ sat. v.breaks.1 (sat path v.breaks.0) in (
      record { first = broken-first (G h) invs k inv e before b; least = ln; place = refl },
      next-run words invs h n (record { inv = k; place = stitch h path; path = path }) inv r l hold e v refl,
      λ j i m q. split_keeps h (slice_index path (stitch h path)) (slice_index path (stitch h path + 1)) n r.typed (fresh-run words h n r l) i (before j i m q),
    )

-- an event of a trace, and what stands before and behind it
rest-of : (e : Event) (t : List Event) → In e t → (front es : List Event) × (front ++ e ∷ es ≡ t)
rest-of e [] i = absurd i
rest-of e (d ∷ t) (inl q) = ([], t, ap (λ (z : Event). z ∷ t) (sym q))
rest-of e (d ∷ t) (inr r) = let o : (front es : List Event) × (front ++ e ∷ es ≡ t) = rest-of e t r in (d ∷ o.0, o.1, ap (λ (z : List Event). d ∷ z) o.2)

-- an event and what follows it end a trace
ends-of : (e : Event) (h : Assignment) → In e (events h) → (es : List Event) × EndsIn (e ∷ es) h
ends-of e [] i = absurd i
ends-of e (t ∷ h) i =
    elim (In-append e t (events h) i) [
      | inl a ↦ let o : (front es : List Event) × (front ++ e ∷ es ≡ t) = rest-of e t a in (o.1, inl (o.0, o.2))
      | inr b ↦ let o : (es : List Event) × EndsIn (e ∷ es) h = ends-of e h b in (o.0, inr o.1)
    ]

-- a list among the lists is a member of them
among : (w : List ℕ) (names : List (List ℕ)) → IsOneOf w names → In w names
among w [] i = i
among w (v ∷ names) (inl e) = inl e
among w (v ∷ names) (inr r) = inr (among w names r)

-- the id k + 2 stands at the front of a rest with these types
abbrev At-rest : Assignment → ℕ → List ℕ → Type 0
At-rest h k w = (rest : List Event) × EndsIn rest h × (types_of rest ≡ w) × (next_id rest ≡ k + 2)

-- there are no more ids than rests
pub ids_within_rests : IdsWithinRests
ids_within_rests invs words n splits end names a hold w nm =
    let r : IsRun words end (n + length splits) = runs_keep invs words n splits end a hold w in
    let o : OneIdPerRest end = run-rests invs splits (by_type words) n end (start-rests words) w in
    let two : 2 ≤ n = a.two in
    let m : (n + length splits) - 2 ≤ length names = places (At-rest end)
    (λ j k x p q. (let e : next_id p.0 ≡ next_id q.0 = o p.0 q.0 p.1 q.1 (p.2 ∙ sym q.2) in let f : j + 2 ≡ k + 2 = sym p.3 ∙ e ∙ q.3 in omega arith))
    ((n + length splits) - 2) names
    (λ k l.
    let lv : 0 < members end (k + 2) = r.each_live (k + 2) (omega arith) (omega arith) in
    let e : (e : Event) × In e (events end) × (e.id ≡ k + 2) = member-of (k + 2) (events end) lv in
    let es : (es : List Event) × EndsIn (e.0 ∷ es) end = ends-of e.0 end e.1 in
    (types_of (e.0 ∷ es.0), among (types_of (e.0 ∷ es.0)) names (nm (e.0 ∷ es.0) es.1 (λ q. cc)), (e.0 ∷ es.0, es.1, refl {a = types_of (e.0 ∷ es.0)}, e.2))) in
    omega arith

-- there are fewer splits than events, where there is one
pub fewer_splits : FewerSplitsThanEvents
fewer_splits invs words n splits end a hold l w =
    let r : IsRun words end (n + length splits) = runs_keep invs words n splits end a hold w in
    let m : (n + length splits) - 2 ≤ length (events end) = places (λ k e. e.id ≡ k + 2)
    (λ j k e p q. (let f : j + 2 ≡ k + 2 = sym p ∙ q in omega arith))
    ((n + length splits) - 2) (events end)
    (λ k b. member-of (k + 2) (events end) (r.each_live (k + 2) (omega arith) (omega arith))) in
    omega arith
