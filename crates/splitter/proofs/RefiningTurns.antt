-- What each turn of refinement keeps, and what stands where it ends.
use Rattle.std.proofs.Common.{◌≡◌, ◌⊎◌, ℕ, zero, suc, ◌+◌, ◌*◌, ◌<◌, ◌≤◌, Bool, true, List, [], ◌∷◌, ◌++◌, length, slice_get, slice_index, Some, get_or, sym, refl, ap, ap₂, ◌∙◌, subst, inl, inr, arith, add-zero, length-append}
use Rattle.std.proofs.lemmas.Bool.{cases_lt}
use Rattle.std.specs.List.{AllByRecursion, flat_map}
use Rattle.limits.specs.declared.TheConstants.{INITIAL, FIRST_TYPE, MAX_PARTITIONS}
use Rattle.invariants.specs.declared.Invariant.{Invariant}
use Rattle.invariants.specs.declared.records.Split.{Split}
use Rattle.invariants.specs.Holds.{Holds}
use Rattle.traces.specs.Words.{Log}
use Rattle.partition_model.proofs.Satisfied.{all_at}
use Rattle.partition_model.specs.Graphs.{Graph, Satisfies, IsLeastViolation}
use Rattle.partition_model.specs.Assignments.{Event, Assignment, G, IsTyped, word_of, by_type, inner_words, types_of, events, members}
use Rattle.partition_model.specs.Refinement.{Splits, Refines, SatisfiesAll, IsNextSplit, after_split, stitch}
use Rattle.partition_model.specs.Laws.{SatisfiesBefore, IsFresh, IsRun, AreTyped, HoldAll, Divides, EndsIn, NamesRests, IsOneOf}
use Rattle.partition_model.proofs.Lists.{In, all_in, member-of}
use Rattle.partition_model.proofs.Splitting.{split_keeps}
use Rattle.partition_model.proofs.Stitching.{stitch_divides}
use Rattle.partition_model.proofs.Runs.{start-run, one_pass_splits, words-typed, fresh-run, traces-hold, ids_within_rests, fewer_splits}
use Rattle.model_shape.specs.Numbers.{split_numbers}
use Rattle.partition_bounds.proofs.SplitPaths.{split_paths_within_limit}
use Rattle.partition_bounds.proofs.FirstSplits.{steps_exclude}
use Rattle.partition_graph.specs.Parts.{Parts, inner_words_of, start_of}
use Rattle.splitter.specs.Refining.{IsOpened, event_count, after, split_by, is_known, AreKnown, EndsRefined, IsStopped, IsFull, WantsMoreIds, AreFewer}

-- a violation divides at the place of its stitch
pub violation-divides : (h : Assignment) (inv : Invariant) (path : List ℕ) (n : ℕ) → IsTyped h → IsFresh n h → AllByRecursion (λ trace. Holds inv (word_of trace)) h
    → IsLeastViolation (G h) inv path → Divides h path n
violation-divides h inv path n t f a v = stitch_divides h inv path n t f a v.breaks

-- a violation begins with INITIAL
pub violation-starts : (g : Graph) (inv : Invariant) (path : List ℕ) → IsLeastViolation g inv path → slice_get path 0 ≡ Some INITIAL
violation-starts g inv [] v = absurd v.breaks.0
violation-starts g inv (x ∷ xs) v = ap (λ (y : ℕ). Some y) v.breaks.0.0

-- where a path divides, there is a trace
pub divides-some : (h : Assignment) (path : List ℕ) (n : ℕ) → Divides h path n → 0 < length h
divides-some [] path n d = let z : 1 ≤ 0 = d.after_start in absurd (omega arith)
divides-some (t ∷ h) path n d = omega arith

-- one more split
splits_push : (invs : List Invariant) (ss : List Split) (s : Split) (h : Assignment) (n : ℕ) (end : Assignment) → Splits invs h n ss end → IsNextSplit invs end s
    → Splits invs h n (ss ++ s ∷ []) (after_split (n + length ss) s end)
splits_push invs [] s h n end w k =
    let e : end ≡ h = w in
    (subst (λ (x : Assignment). IsNextSplit invs x s) e k, ap₂ (λ (m : ℕ) (x : Assignment). after_split m s x) (add-zero n) e)
splits_push invs (t ∷ ss) s h n end w k =
    let i : Splits invs (after_split n t h) (suc n) (ss ++ s ∷ []) (after_split (suc n + length ss) s end) = splits_push invs ss s (after_split n t h) (suc n) end w.1 k in
    let e : suc n + length ss ≡ n + suc (length ss) = omega arith in
    (w.0, subst (λ (m : ℕ). Splits invs (after_split n t h) (suc n) (ss ++ s ∷ []) (after_split m s end)) e i)

refines_from : (invs : List Invariant) (ss : List Split) (h : Assignment) (n : ℕ) (end : Assignment) → Splits invs h n ss end → SatisfiesAll (G end) invs → Refines invs h n ss end
refines_from invs [] h n end w a = (subst (λ (x : Assignment). SatisfiesAll (G x) invs) w a, w)
refines_from invs (s ∷ ss) h n end w a = (w.0, refines_from invs ss (after_split n s h) (suc n) end w.1 a)

-- where all invariants are before a number, those before it are all
all_before : (g : Graph) (invs : List Invariant) (k : ℕ) → length invs ≤ k → SatisfiesBefore g invs k → SatisfiesAll g invs
all_before g [] k l b = tt
all_before g (inv ∷ invs) k l b =
    (b 0 inv (omega arith) refl, all_before g invs (length invs) (omega arith) (λ j i m e. b (suc j) i (omega arith) e))

before_more : (g : Graph) (invs : List Invariant) (k : ℕ) (inv : Invariant) → slice_get invs k ≡ Some inv → SatisfiesBefore g invs k → Satisfies g inv → SatisfiesBefore g invs (k + 1)
before_more g invs k inv e b s j i m f = go (cases_lt j k)
  where
    go : (j < k) ⊎ (k ≤ j) → Satisfies g i
    go (inl l) = b j i l f
    go (inr l) =
        let q : j ≡ k = omega arith in
        let x : slice_get invs k ≡ Some i = subst (λ (y : ℕ). slice_get invs y ≡ Some i) q f in
        let y : inv ≡ i = cc in
        subst (λ (z : Invariant). Satisfies g z) y s

-- an invariant of the list stands at its number
pub get_of : (xs : List Invariant) (k : ℕ) (d : Invariant) → k < length xs → slice_get xs k ≡ Some (get_or xs k d)
get_of [] k d l = absurd (omega arith)
get_of (x ∷ xs) zero d l = refl
get_of (x ∷ xs) (suc k) d l = get_of xs k d (omega arith)

-- the words of a graph that was opened are typed
pub opened-typed : (old : Parts) → IsOpened old → AreTyped (inner_words old.traces) old.used
opened-typed old o = o.typed

opened-start : (old : Parts) → IsOpened old → old.traces ≡ by_type (inner_words old.traces)
opened-start old o = o.start

-- the first graph of a log whose words are typed is opened
pub start-opened : (log : Log) → AreTyped (inner_words (start_of log).traces) (start_of log).used → IsOpened (start_of log)
start-opened log typed = record {
  start = sym (ap by_type (words-typed (inner_words_of log)));
  typed = typed;
}

-- what the loop of refinement keeps
pub record IsRefining (invs : List Invariant) (old now : Parts) (k : ℕ) (ss : List Split) : Type 0 where
  pub within : k ≤ length invs
  pub used : now.used ≡ old.used + length ss
  pub limit : now.used ≤ MAX_PARTITIONS
  pub run : IsRun (inner_words old.traces) now.traces now.used
  pub before : SatisfiesBefore (G now.traces) invs k
  pub so_far : Splits invs old.traces old.used ss now.traces

-- before the first turn there are no splits
pub refining-start : (invs : List Invariant) (old : Parts) → IsOpened old → old.used ≤ MAX_PARTITIONS → IsRefining invs old old 0 []
refining-start invs old o l =
    let words : List (List ℕ) = inner_words old.traces in
    record {
      within = omega arith;
      used = sym (add-zero old.used);
      limit = l;
      run = subst (λ (h : Assignment). IsRun words h old.used) (sym (opened-start old o)) (start-run words old.used (opened-typed old o));
      before = λ j i m f. absurd (omega arith);
      so_far = refl;
    }

two-used : (invs : List Invariant) (old now : Parts) (k : ℕ) (ss : List Split) → IsOpened old → IsRefining invs old now k ss → FIRST_TYPE ≤ now.used
two-used invs old now k ss o r =
    let t : FIRST_TYPE ≤ old.used = (opened-typed old o).two in
    let u : now.used ≡ old.used + length ss = r.used in
    omega arith

-- the next id is not used
pub refining-fresh : (invs : List Invariant) (old now : Parts) (k : ℕ) (ss : List Split) → IsOpened old → IsRefining invs old now k ss → IsFresh now.used now.traces
refining-fresh invs old now k ss o r = fresh-run (inner_words old.traces) now.traces now.used r.run (two-used invs old now k ss o r)

-- the invariant with the number of the turn holds of every trace
pub refining-hold : (invs : List Invariant) (old now : Parts) (k : ℕ) (ss : List Split) (d : Invariant) → IsRefining invs old now k ss → HoldAll (inner_words old.traces) invs → k < length invs
    → AllByRecursion (λ trace. Holds (get_or invs k d) (word_of trace)) now.traces
refining-hold invs old now k ss d r a l = traces-hold (inner_words old.traces) now.traces now.used (get_or invs k d) invs k r.run a (get_of invs k d l)

-- there are as many events as in the beginning
pub refining-events : (invs : List Invariant) (old now : Parts) (k : ℕ) (ss : List Split) → IsRefining invs old now k ss → length (events now.traces) ≡ length (events old.traces)
refining-events invs old now k ss r = same_length now.traces old.traces r.run.words_are
  where
    count : (h : Assignment) → length (events h) ≡ length (flat_map (λ (w : List ℕ). w) (inner_words h))
    count [] = refl
    count (t ∷ h) = omega (arith, count h, length-append t (events h), length-append (types_of t) (flat_map (λ (w : List ℕ). w) (inner_words h)), typed t)
      where
        typed : (t : List Event) → length (types_of t) ≡ length t
        typed [] = refl
        typed (e ∷ es) = ap suc (typed es)

    same_length : (h k : Assignment) → inner_words h ≡ inner_words k → length (events h) ≡ length (events k)
    same_length h k e = count h ∙ ap (λ ws. length (flat_map (λ (w : List ℕ). w) ws)) e ∙ sym (count k)

-- a turn for an invariant that is satisfied goes on to the next one
pub refining-none : (invs : List Invariant) (old now : Parts) (k : ℕ) (ss : List Split) (d : Invariant) → IsRefining invs old now k ss → k < length invs
    → Satisfies (G now.traces) (get_or invs k d) → IsRefining invs old now (k + 1) ss
refining-none invs old now k ss d r l s =
    record {
      within = omega arith;
      used = r.used;
      limit = r.limit;
      run = r.run;
      before = before_more (G now.traces) invs k (get_or invs k d) (get_of invs k d l) r.before s;
      so_far = r.so_far;
    }

abbrev IsNextStep : List Invariant → Parts → Parts → ℕ → Split → Type 0
IsNextStep invs old now k s =
    IsNextSplit invs now.traces s × IsRun (inner_words old.traces) (after_split now.used s now.traces) (now.used + 1)
    × SatisfiesBefore (G (after_split now.used s now.traces)) invs k

next-step : (invs : List Invariant) (old now : Parts) (k : ℕ) (ss : List Split) (d : Invariant) (path : List ℕ) → IsOpened old → HoldAll (inner_words old.traces) invs → IsRefining invs old now k ss
    → k < length invs → IsLeastViolation (G now.traces) (get_or invs k d) path → IsNextStep invs old now k (split_by now path k)
next-step invs old now k ss d path o a r l v =
    one_pass_splits invs (inner_words old.traces) now.traces now.used k (get_or invs k d) path r.run (two-used invs old now k ss o r) a (get_of invs k d l) r.before v

-- the splits with one more
more-splits : (invs : List Invariant) (old now : Parts) (k : ℕ) (ss : List Split) (s : Split) → IsRefining invs old now k ss → IsNextSplit invs now.traces s
    → Splits invs old.traces old.used (ss ++ s ∷ []) (after_split now.used s now.traces)
more-splits invs old now k ss s r n =
    subst (λ (m : ℕ). Splits invs old.traces old.used (ss ++ s ∷ []) (after_split m s now.traces)) (sym r.used)
    (splits_push invs ss s old.traces old.used now.traces r.so_far n)

-- a turn with a split is a step of refinement
pub refining-some : (invs : List Invariant) (old now new : Parts) (k : ℕ) (ss : List Split) (d : Invariant) (path : List ℕ)
    → IsOpened old → HoldAll (inner_words old.traces) invs → IsRefining invs old now k ss → k < length invs → now.used < MAX_PARTITIONS
    → IsLeastViolation (G now.traces) (get_or invs k d) path → new ≡ after (split_by now path k) now
    → IsRefining invs old new k (ss ++ split_by now path k ∷ [])
refining-some invs old now new k ss d path o a r l few v e =
    let s : Split = split_by now path k in
    let u : now.used ≡ old.used + length ss = r.used in
    let n : IsNextStep invs old now k s = next-step invs old now k ss d path o a r l v in
    let len : length (ss ++ s ∷ []) ≡ length ss + 1 = length-append ss (s ∷ []) in
    subst (λ (p : Parts). IsRefining invs old p k (ss ++ s ∷ [])) (sym e)
    (record {
      within = r.within;
      used = omega arith;
      limit = omega arith;
      run = n.1;
      before = n.2;
      so_far = more-splits invs old now k ss s r n.0;
    })

-- a turn for an invariant that is known to be satisfied goes on to the next one
pub refining-known : (invs : List Invariant) (old now : Parts) (k : ℕ) (ss : List Split) (d : Invariant) (known : List Bool) → IsRefining invs old now k ss → k < length invs
    → AreKnown known invs (G now.traces) → is_known known k ≡ true → IsRefining invs old now (k + 1) ss
refining-known invs old now k ss d known r l a e = refining-none invs old now k ss d r l (a k (get_or invs k d) (get_of invs k d l) e)

-- what is known stays known after a split
pub known-some : (invs : List Invariant) (old now new : Parts) (k : ℕ) (ss : List Split) (path : List ℕ) (known : List Bool) → IsOpened old → IsRefining invs old now k ss
    → new ≡ after (split_by now path k) now → AreKnown known invs (G now.traces) → AreKnown known invs (G new.traces)
known-some invs old now new k ss path known o r e a j inv at on =
    let place : ℕ = stitch now.traces path in
    subst (λ (p : Parts). Satisfies (G p.traces) inv) (sym e)
    (split_keeps now.traces (slice_index path place) (slice_index path (place + 1)) now.used r.run.typed (refining-fresh invs old now k ss o r) inv (a j inv at on))

-- where refinement stops, the splits so far are its first steps
pub refining-stopped : (invs : List Invariant) (old now : Parts) (k counted : ℕ) (ss : List Split) → IsRefining invs old now k ss → counted ≤ length invs + length ss → IsStopped invs old now ss counted
refining-stopped invs old now k counted ss r l = record { run = r.so_far; used = r.used; steps = l }

-- where all invariants are satisfied, the splits are the whole run
pub refining-end : (invs : List Invariant) (old now : Parts) (k : ℕ) (ss : List Split) → IsRefining invs old now k ss → length invs ≤ k → EndsRefined invs old ss now
refining-end invs old now k ss r l =
    record { run = refines_from invs ss old.traces old.used now.traces r.so_far (all_before (G now.traces) invs k l r.before); used = r.used; within = r.limit }

-- where all ids are used and an invariant is broken, a further step is wanted
pub refining-full : (invs : List Invariant) (old now : Parts) (k : ℕ) (ss : List Split) (d : Invariant) (path : List ℕ) → IsOpened old → HoldAll (inner_words old.traces) invs → IsRefining invs old now k ss
    → k < length invs → now.used ≡ MAX_PARTITIONS → IsLeastViolation (G now.traces) (get_or invs k d) path → IsFull invs now
refining-full invs old now k ss d path o a r l u v =
    record {
      used = u;
      broken = λ all. v.breaks.1 (all_at (G now.traces) invs k (get_or invs k d) (get_of invs k d l) all path v.breaks.0);
      next = split_by now path k;
      is_next = (next-step invs old now k ss d path o a r l v).0;
    }

-- where all ids are used and an invariant is broken, no whole run keeps within the ids
pub refining-excludes : (invs : List Invariant) (old now : Parts) (k : ℕ) (ss : List Split) (d : Invariant) (path : List ℕ) → IsOpened old → HoldAll (inner_words old.traces) invs → IsRefining invs old now k ss
    → k < length invs → now.used ≡ MAX_PARTITIONS → IsLeastViolation (G now.traces) (get_or invs k d) path → WantsMoreIds invs old
refining-excludes invs old now k ss d path o a r l u v splits end whole =
    let q : now.used ≡ old.used + length ss = r.used in
    let m : length ss < length splits = steps_exclude invs old.traces now.traces end old.used ss splits (split_by now path k) r.so_far (next-step invs old now k ss d path o a r l v).0 whole in
    omega arith

-- the paths of the splits are short, and each split takes an id
pub refining-numbers : (invs : List Invariant) (old now : Parts) (k : ℕ) (ss : List Split) → IsOpened old → HoldAll (inner_words old.traces) invs → IsRefining invs old now k ss
    → (split_numbers ss ≤ 3067 * length ss) × (length ss + FIRST_TYPE ≤ now.used)
refining-numbers invs old now k ss o a r =
    let words : List (List ℕ) = inner_words old.traces in
    let t : AreTyped words old.used = opened-typed old o in
    let w : Splits invs (by_type words) old.used ss now.traces = subst (λ (h : Assignment). Splits invs h old.used ss now.traces) (opened-start old o) r.so_far in
    let u : now.used ≡ old.used + length ss = r.used in
    let low : FIRST_TYPE ≤ old.used = t.two in
    let lim : now.used ≤ MAX_PARTITIONS = r.limit in
    (split_paths_within_limit invs words old.used ss now.traces t a (omega arith) w, omega arith)

-- an event in front of the first part of a list is in front of the list
one-before : (y : Event) (before behind u : List Event) → before ++ behind ≡ u → (y ∷ before) ++ behind ≡ y ∷ u
one-before y before behind u e = ap (λ (es : List Event). y ∷ es) e

rest-alike : (front rest u : List Event) → types_of u ≡ types_of (front ++ rest) → (behind : List Event) × ((before : List Event) × (before ++ behind ≡ u)) × (types_of behind ≡ types_of rest)
rest-alike [] rest u e = (u, ([], refl), e)
rest-alike (x ∷ front) rest [] e = absurd (cc e)
rest-alike (x ∷ front) rest (y ∷ u) e =
    let t : types_of u ≡ types_of (front ++ rest) = cc in
    let o : (behind : List Event) × ((before : List Event) × (before ++ behind ≡ u)) × (types_of behind ≡ types_of rest) = rest-alike front rest u t in
    (o.0, (y ∷ o.1.0, one-before y o.1.0 o.0 u o.1.1), o.2)

ends-alike : (h k : Assignment) (rest : List Event) → inner_words k ≡ inner_words h → EndsIn rest k → (behind : List Event) × EndsIn behind h × (types_of behind ≡ types_of rest)
ends-alike h [] rest e i = absurd i
ends-alike [] (t ∷ k) rest e i = absurd (cc e)
ends-alike (u ∷ h) (t ∷ k) rest e (inl f) =
    let w : types_of t ≡ types_of u = cc in
    let o : (behind : List Event) × ((before : List Event) × (before ++ behind ≡ u)) × (types_of behind ≡ types_of rest) =
    rest-alike f.0 rest u (sym w ∙ sym (ap (λ (es : List Event). types_of es) f.1)) in
    (o.0, inl o.1, o.2)
ends-alike (u ∷ h) (t ∷ k) rest e (inr r) =
    let w : inner_words k ≡ inner_words h = cc in
    let o : (behind : List Event) × EndsIn behind h × (types_of behind ≡ types_of rest) = ends-alike h k rest w r in
    (o.0, inr o.1, o.2)

types-none : (es : List Event) → types_of es ≡ [] → es ≡ []
types-none [] e = refl
types-none (x ∷ es) e = absurd (cc e)

names-alike : (names : List (List ℕ)) (h k : Assignment) → inner_words k ≡ inner_words h → NamesRests names h → NamesRests names k
names-alike names h k e n rest i some =
    let o : (behind : List Event) × EndsIn behind h × (types_of behind ≡ types_of rest) = ends-alike h k rest e i in
    subst (λ (w : List ℕ). IsOneOf w names) o.2 (n o.0 o.1 (λ z. some (types-none rest (sym o.2 ∙ ap (λ (es : List Event). types_of es) z))))

-- where there are few rests, a further step never wants one id too many
pub refining-rests : (invs : List Invariant) (old now : Parts) (k : ℕ) (ss : List Split) (d : Invariant) (path : List ℕ) (names : List (List ℕ))
    → IsOpened old → HoldAll (inner_words old.traces) invs → IsRefining invs old now k ss → k < length invs → now.used ≡ MAX_PARTITIONS
    → IsLeastViolation (G now.traces) (get_or invs k d) path → NamesRests names old.traces → length names + FIRST_TYPE ≤ MAX_PARTITIONS → ⊥
refining-rests invs old now k ss d path names o a r l u v n few =
    let words : List (List ℕ) = inner_words old.traces in
    let s : Split = split_by now path k in
    let m : IsNextStep invs old now k s = next-step invs old now k ss d path o a r l v in
    let end : Assignment = after_split now.used s now.traces in
    let w : Splits invs old.traces old.used (ss ++ s ∷ []) end = more-splits invs old now k ss s r m.0 in
    let w2 : Splits invs (by_type words) old.used (ss ++ s ∷ []) end = subst (λ (h : Assignment). Splits invs h old.used (ss ++ s ∷ []) end) (opened-start old o) w in
    let b : old.used + length (ss ++ s ∷ []) ≤ length names + 2 =
    ids_within_rests invs words old.used (ss ++ s ∷ []) end names (opened-typed old o) a w2 (names-alike names old.traces end m.1.words_are n) in
    let len : length (ss ++ s ∷ []) ≡ length ss + 1 = length-append ss (s ∷ []) in
    let q : now.used ≡ old.used + length ss = r.used in
    omega arith

-- a list with an element is not empty
In-some : {X : Type 0} (x : X) (xs : List X) → In x xs → 0 < length xs
In-some x [] i = absurd i
In-some x (y ∷ xs) i = omega arith

some-In : {X : Type 0} (xs : List X) → 0 < length xs → (x : X) × In x xs
some-In [] l = absurd (omega arith)
some-In (x ∷ xs) l = (x, inl refl)

empty : {X : Type 0} (xs : List X) → length xs ≡ 0 → xs ≡ []
empty [] e = refl
empty (x ∷ xs) e = absurd (omega arith)

-- there are fewer splits than events, and none where there is no event
pub refining-fewer : (invs : List Invariant) (old now : Parts) (k : ℕ) (ss : List Split) → IsOpened old → HoldAll (inner_words old.traces) invs → IsRefining invs old now k ss → AreFewer ss (event_count old)
refining-fewer invs old now k ss o a r =
    let words : List (List ℕ) = inner_words old.traces in
    let t : AreTyped words old.used = opened-typed old o in
    let e : old.traces ≡ by_type words = opened-start old o in
    let w : Splits invs (by_type words) old.used ss now.traces = subst (λ (h : Assignment). Splits invs h old.used ss now.traces) e r.so_far in
    let c : length (events now.traces) ≡ length (events old.traces) = refining-events invs old now k ss r in
    let u : now.used ≡ old.used + length ss = r.used in
    let low : FIRST_TYPE ≤ old.used = t.two in
    record {
      some = λ l.
          let x : (x : Event) × In x (events old.traces) = some-In (events old.traces) l in
          let y : In x.0 (events (by_type words)) = subst (λ (h : Assignment). In x.0 (events h)) e x.1 in
          let z : (2 ≤ x.0.typ) × (x.0.typ < old.used) = all_in (λ (d : Event). (2 ≤ d.typ) × (d.typ < old.used)) x.0 (events (by_type words)) t.range y in
          let f : length ss < length (events now.traces) = fewer_splits invs words old.used ss now.traces t a (let z0 : 2 ≤ x.0.typ = z.0 in let z1 : x.0.typ < old.used = z.1 in omega arith) w in
          omega arith;
      none = λ q. empty ss (
          elim (cases_lt 0 (length ss)) [
            | inl l ↦
                let m : 0 < members now.traces 2 = r.run.each_live 2 (omega arith) (omega arith) in
                let x : (x : Event) × In x (events now.traces) × (x.id ≡ 2) = member-of 2 (events now.traces) m in
                let p : 0 < length (events now.traces) = In-some x.0 (events now.traces) x.1 in
                absurd (let q2 : length (events old.traces) ≡ 0 = q in omega arith)
            | inr l ↦ omega arith
          ]);
    }
