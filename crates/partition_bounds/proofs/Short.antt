-- A least violation has no id twice with one state of the monitor.
use Rattle.std.proofs.Common.{◌≡◌, ◌≢◌, ℕ, zero, suc, ◌+◌, ◌*◌, ◌-◌, ◌<◌, ◌≤◌, nat_lt, Bool, true, false, List, [], ◌∷◌, ◌++◌, filter, length, drop, slice_index, sym, ◌∙◌, refl, ap, subst, inl, inr, arith, lt-ltb, length-append, length-drop}
use Rattle.std.proofs.lemmas.Bool.{cases_order, cases_Bool}
use Rattle.std.specs.List.{flat_map}
use Rattle.invariants.specs.declared.Invariant.{Invariant}
use Rattle.invariants.specs.Monitors.{step, run, is_bad}
use Rattle.invariants.proofs.Agree.{step-le, monitor_agrees}
use Rattle.partition_model.specs.Graphs.{Graph, Walk, word, Breaks, IsLeastViolation, IsFormed}
use Rattle.partition_model.proofs.Lists.{In}
use Rattle.partition_model.proofs.Listing.{In-Contains, filter-In, flat_map-In}
use Rattle.partition_model.proofs.Counting.{places}
use Rattle.partition_bounds.specs.Laws.{LeastIsShort}

-- the state after the id at place k, where the walk is read from the state s
abbrev pub state_at : Graph → Invariant → ℕ → List ℕ → ℕ → ℕ
state_at g inv s [] k = s
state_at g inv s (x ∷ xs) zero = step inv s (g.typ x)
state_at g inv s (x ∷ xs) (suc k) = state_at g inv (step inv s (g.typ x)) xs k

-- a step leads from one of the three states to one of them
pub step-small : (inv : Invariant) (s x : ℕ) → s < 3 → step inv s x < 3
step-small inv s x l = let k : step inv s x ≤ 2 = step-le inv.kind inv.a inv.b s x (omega arith) in omega arith

-- so each state on a walk is one of the three
pub state-small : (g : Graph) (inv : Invariant) (s : ℕ) (xs : List ℕ) (k : ℕ) → s < 3 → state_at g inv s xs k < 3
state-small g inv s [] k l = l
state-small g inv s (x ∷ xs) zero l = step-small inv s (g.typ x) l
state-small g inv s (x ∷ xs) (suc k) l = state-small g inv (step inv s (g.typ x)) xs k (step-small inv s (g.typ x) l)

-- the walk from the id at place k on
walk-rest : (g : Graph) (p : ℕ) (xs : List ℕ) (q k : ℕ) → Walk g p xs q → k < length xs → Walk g (slice_index xs k) (drop (suc k) xs) q
walk-rest g p [] q k w l = absurd (omega arith)
walk-rest g p (x ∷ xs) q zero w l = w.1
walk-rest g p (x ∷ xs) q (suc k) w l = walk-rest g x xs q k w.1 (omega arith)

-- the run over a walk is the run from the state at a place over what follows it
pub run-rest : (g : Graph) (inv : Invariant) (s : ℕ) (xs : List ℕ) (k : ℕ) → k < length xs → run inv s (word g xs) ≡ run inv (state_at g inv s xs k) (word g (drop (suc k) xs))
run-rest g inv s [] k l = absurd (omega arith)
run-rest g inv s (x ∷ xs) zero l = refl
run-rest g inv s (x ∷ xs) (suc k) l = run-rest g inv (step inv s (g.typ x)) xs k (omega arith)

-- a shorter walk with the same end, where an id stands twice with one state
pub record IsCut (g : Graph) (inv : Invariant) (p s : ℕ) (xs : List ℕ) (q : ℕ) (ys : List ℕ) : Type 0 where
  shorter : length ys < length xs
  walk : Walk g p ys q
  ends : run inv s (word g ys) ≡ run inv s (word g xs)

-- where an id stands twice with one state, the walk has a shorter one
cut : (g : Graph) (inv : Invariant) (p s : ℕ) (xs : List ℕ) (q j k : ℕ) → Walk g p xs q → j < k → k < length xs
    → slice_index xs j ≡ slice_index xs k → state_at g inv s xs j ≡ state_at g inv s xs k → (ys : List ℕ) × IsCut g inv p s xs q ys
cut g inv p s [] q j k w l m e f = absurd (omega arith)
cut g inv p s (x ∷ xs) q zero zero w l m e f = absurd (omega arith)
cut g inv p s (x ∷ xs) q (suc j) zero w l m e f = absurd (omega arith)
cut g inv p s (x ∷ xs) q zero (suc k) w l m e f =
    let m' : k < length xs = omega arith in
    let d : length (drop (suc k) xs) ≡ length xs - suc k = length-drop (suc k) xs in
    let r : Walk g (slice_index xs k) (drop (suc k) xs) q = walk-rest g x xs q k w.1 m' in
    let a : run inv (step inv s (g.typ x)) (word g (drop (suc k) xs)) ≡ run inv (state_at g inv (step inv s (g.typ x)) xs k) (word g (drop (suc k) xs)) =
    ap (λ (z : ℕ). run inv z (word g (drop (suc k) xs))) f in (
      x ∷ drop (suc k) xs,
      record {
        shorter = omega arith;
        walk = (w.0, subst (λ (z : ℕ). Walk g z (drop (suc k) xs) q) (sym e) r);
        ends = a ∙ sym (run-rest g inv (step inv s (g.typ x)) xs k m');
      },
    )
cut g inv p s (x ∷ xs) q (suc j) (suc k) w l m e f =
    let o : (ys : List ℕ) × IsCut g inv x (step inv s (g.typ x)) xs q ys = cut g inv x (step inv s (g.typ x)) xs q j k w.1 (omega arith) (omega arith) e f in
    let h : length o.0 < length xs = o.1.shorter in
    (x ∷ o.0, record { shorter = omega arith; walk = (w.0, o.1.walk); ends = o.1.ends })

-- each id of a walk is entered by an edge
entered : (g : Graph) (p : ℕ) (xs : List ℕ) (q k : ℕ) → Walk g p xs q → k < length xs → (u : ℕ) × (g.edge u (slice_index xs k) ≡ true)
entered g p [] q k w l = absurd (omega arith)
entered g p (x ∷ xs) q zero w l = (p, w.0)
entered g p (x ∷ xs) q (suc k) w l = entered g x xs q k w.1 (omega arith)

-- each id of a walk but its last is left by an edge to the next one
left : (g : Graph) (p : ℕ) (xs : List ℕ) (q k : ℕ) → Walk g p xs q → suc k < length xs → g.edge (slice_index xs k) (slice_index xs (suc k)) ≡ true
left g p [] q k w l = absurd (omega arith)
left g p (x ∷ []) q k w l = absurd (omega arith)
left g p (x ∷ y ∷ xs) q zero w l = w.1.0
left g p (x ∷ y ∷ xs) q (suc k) w l = left g x (y ∷ xs) q k w.1 (omega arith)

-- the numbers of an id with each of the three states
abbrev pub stations_of : ℕ → List ℕ
stations_of p = (3 * p) ∷ (3 * p + 1) ∷ (3 * p + 2) ∷ []

-- the numbers of each id with each state
abbrev pub stations : List ℕ → List ℕ
stations ids = flat_map stations_of ids

-- there are three for each id
pub stations-count : (ids : List ℕ) → length (stations ids) ≡ 3 * length ids
stations-count [] = refl
stations-count (p ∷ ids) =
    let i : length (stations ids) ≡ 3 * length ids = stations-count ids in
    let e : length (stations_of p ++ stations ids) ≡ length (stations_of p) + length (stations ids) = length-append (stations_of p) (stations ids) in
    omega arith

-- an id of the list with a state has its number there
pub station-In : (p s : ℕ) (ids : List ℕ) → In p ids → s < 3 → In (3 * p + s) (stations ids)
station-In p s ids i l = flat_map-In stations_of (3 * p + s) p ids i (here s l)
  where
    here : (t : ℕ) → t < 3 → In (3 * p + t) (stations_of p)
    here zero m = inl (omega arith)
    here (suc zero) m = inr (inl refl)
    here (suc (suc zero)) m = inr (inr (inl refl))
    here (suc (suc (suc t))) m = absurd (omega arith)

-- one more element makes a filtered list longer by one at most
kept-or-not : {X : Type 0} (f : X → Bool) (x : X) (xs : List X) → length (filter f (x ∷ xs)) ≤ suc (length (filter f xs))
kept-or-not f x xs =
    elim (cases_Bool (f x)) [
      | inl t ↦ rw t (omega arith)
      | inr n ↦ rw n (omega arith)
    ]

-- an element that does not pass adds nothing
dropped : {X : Type 0} (f : X → Bool) (x : X) (xs : List X) → f x ≡ false → length (filter f (x ∷ xs)) ≡ length (filter f xs)
dropped f x xs e = rw e refl

-- a filtered list is no longer than the list
filter-short : {X : Type 0} (f : X → Bool) (xs : List X) → length (filter f xs) ≤ length xs
filter-short f [] = omega arith
filter-short {X} f (x ∷ xs) =
    let i : length (filter f xs) ≤ length xs = filter-short f xs in
    let k : length (filter f (x ∷ xs)) ≤ suc (length (filter f xs)) = kept-or-not f x xs in
    omega arith

-- it is shorter where an element does not pass
pub without-one : {X : Type 0} (f : X → Bool) (x : X) (xs : List X) → In x xs → f x ≡ false → suc (length (filter f xs)) ≤ length xs
without-one f x [] i e = absurd i
without-one {X} f x (z ∷ xs) (inl a) e =
    let d : length (filter f (z ∷ xs)) ≡ length (filter f xs) = dropped f z xs (ap f a ∙ e) in
    let k : length (filter f xs) ≤ length xs = filter-short f xs in
    omega arith
without-one {X} f x (z ∷ xs) (inr r) e =
    let i : suc (length (filter f xs)) ≤ length xs = without-one f x xs r e in
    let k : length (filter f (z ∷ xs)) ≤ suc (length (filter f xs)) = kept-or-not f z xs in
    omega arith

-- it is shorter by two where two elements do not pass
without-two : {X : Type 0} (f : X → Bool) (x y : X) (xs : List X) → x ≢ y → In x xs → In y xs → f x ≡ false → f y ≡ false → length (filter f xs) + 2 ≤ length xs
without-two f x y [] n i j d e = absurd i
without-two {X} f x y (z ∷ xs) n (inl a) (inl b) d e = absurd (n (sym a ∙ b))
without-two {X} f x y (z ∷ xs) n (inl a) (inr b) d e =
    let c : length (filter f (z ∷ xs)) ≡ length (filter f xs) = dropped f z xs (ap f a ∙ d) in
    let k : suc (length (filter f xs)) ≤ length xs = without-one f y xs b e in
    omega arith
without-two {X} f x y (z ∷ xs) n (inr a) (inl b) d e =
    let c : length (filter f (z ∷ xs)) ≡ length (filter f xs) = dropped f z xs (ap f b ∙ e) in
    let k : suc (length (filter f xs)) ≤ length xs = without-one f x xs a d in
    omega arith
without-two {X} f x y (z ∷ xs) n (inr a) (inr b) d e =
    let i : length (filter f xs) + 2 ≤ length xs = without-two f x y xs n a b d e in
    let k : length (filter f (z ∷ xs)) ≤ suc (length (filter f xs)) = kept-or-not f z xs in
    omega arith

-- the ids that are no ends
abbrev pub inner_ids : List ℕ → List ℕ
inner_ids ids = filter (λ p. nat_lt 1 p) ids

-- there are at least two ids more than those that are no ends
pub inner-count : (ids : List ℕ) → In 0 ids → In 1 ids → length (inner_ids ids) + 2 ≤ length ids
inner-count ids i j = without-two (λ p. nat_lt 1 p) 0 1 ids (λ e. absurd (omega arith)) i j refl refl

-- the number tells the id and the state
same-station : (a b s t : ℕ) → s < 3 → t < 3 → 3 * a + s ≡ 3 * b + t → (a ≡ b) × (s ≡ t)
same-station a b s t k l e = (omega arith, omega arith)

-- a number other than 0 and 1 is greater than 1
high : (x : ℕ) → x ≢ 0 → x ≢ 1 → 1 < x
high zero a b = absurd (a refl)
high (suc zero) a b = absurd (b refl)
high (suc (suc x)) a b = omega arith

-- the number is that of the id and the state at place k, which is not the last one
abbrev pub IsAt : Graph → Invariant → ℕ → List ℕ → ℕ → ℕ → Type 0
IsAt g inv s xs k y = (suc k < length xs) × (y ≡ 3 * slice_index xs k + state_at g inv s xs k)

-- a walk whose end no shorter one has is short
abbrev pub NoCut : Graph → Invariant → ℕ → ℕ → List ℕ → Type 0
NoCut g inv p s xs = (ys : List ℕ) → IsCut g inv p s xs 1 ys → ⊥

-- an id within a walk to TERMINAL is no end
pub inner-at : (g : Graph) (p : ℕ) (xs ids : List ℕ) (k : ℕ) → IsFormed g → ((u : ℕ) → g.listed u ≡ true → In u ids) → Walk g p xs 1 → suc k < length xs → In (slice_index xs k) (inner_ids ids)
inner-at g p xs ids k f all w l =
    let e : (u : ℕ) × (g.edge u (slice_index xs k) ≡ true) = entered g p xs 1 k w (omega arith) in
    let o : g.edge (slice_index xs k) (slice_index xs (suc k)) ≡ true = left g p xs 1 k w l in
    let b : (g.listed e.0 ≡ true) × (g.listed (slice_index xs k) ≡ true) = f.between e.0 (slice_index xs k) e.1 in
    let z : slice_index xs k ≢ 0 = λ c. f.none_into_start e.0 (subst (λ (v : ℕ). g.edge e.0 v ≡ true) c e.1) in
    let n : slice_index xs k ≢ 1 = λ c. f.none_out_of_end (slice_index xs (suc k)) (subst (λ (v : ℕ). g.edge v (slice_index xs (suc k)) ≡ true) c o) in
    filter-In (λ v. nat_lt 1 v) (slice_index xs k) ids (all (slice_index xs k) b.1) (lt-ltb 1 (slice_index xs k) (high (slice_index xs k) z n))

-- each id with its state stands once among the stations that the walk has
pub walk-within : (g : Graph) (inv : Invariant) (p s : ℕ) (xs among : List ℕ) → s < 3 → Walk g p xs 1 → NoCut g inv p s xs
    → ((k : ℕ) → suc k < length xs → In (3 * slice_index xs k + state_at g inv s xs k) among) → length xs - 1 ≤ length among
walk-within g inv p s xs among sm w none has =
    places (IsAt g inv s xs) one (length xs - 1) among (λ k l. (
      3 * slice_index xs k + state_at g inv s xs k,
      has k (omega arith),
      (omega arith, refl),
    ))
  where
    small : (k : ℕ) → state_at g inv s xs k < 3
    small k = state-small g inv s xs k sm

    apart : (j k : ℕ) → j < k → suc k < length xs → 3 * slice_index xs j + state_at g inv s xs j ≡ 3 * slice_index xs k + state_at g inv s xs k → ⊥
    apart j k l b e =
        let q : (slice_index xs j ≡ slice_index xs k) × (state_at g inv s xs j ≡ state_at g inv s xs k) =
        same-station (slice_index xs j) (slice_index xs k) (state_at g inv s xs j) (state_at g inv s xs k) (small j) (small k) e in
        let o : (ys : List ℕ) × IsCut g inv p s xs 1 ys = cut g inv p s xs 1 j k w l (omega arith) q.0 q.1 in
        none o.0 o.1

    one : (j k y : ℕ) → IsAt g inv s xs j y → IsAt g inv s xs k y → j ≡ k
    one j k y a b =
        elim (cases_order j k) [
          | inl e ↦ e
          | inr o ↦ elim o [ inl l ↦ absurd (apart j k l b.0 (sym a.1 ∙ b.1)) | inr l ↦ absurd (apart k j l a.0 (sym b.1 ∙ a.1)) ]
        ]

-- an id within a walk has, with its state, its number among those of the ids that are no ends
pub station-at : (g : Graph) (inv : Invariant) (p s : ℕ) (xs ids : List ℕ) → IsFormed g → ((u : ℕ) → g.listed u ≡ true → In u ids) → s < 3 → Walk g p xs 1
    → (k : ℕ) → suc k < length xs → In (3 * slice_index xs k + state_at g inv s xs k) (stations (inner_ids ids))
station-at g inv p s xs ids f all sm w k l = station-In (slice_index xs k) (state_at g inv s xs k) (inner_ids ids) (inner-at g p xs ids k f all w l) (state-small g inv s xs k sm)

-- a walk whose end no shorter one has is at most three times as long as there are ids that are no ends, and one more
pub walk-short : (g : Graph) (inv : Invariant) (p s : ℕ) (xs ids : List ℕ) → IsFormed g → ((u : ℕ) → g.listed u ≡ true → In u ids) → s < 3 → Walk g p xs 1 → NoCut g inv p s xs
    → length xs ≤ 3 * length (inner_ids ids) + 1
walk-short g inv p s xs ids f all sm w none =
    let c : length (stations (inner_ids ids)) ≡ 3 * length (inner_ids ids) = stations-count (inner_ids ids) in
    let m : length xs - 1 ≤ length (stations (inner_ids ids)) = walk-within g inv p s xs (stations (inner_ids ids)) sm w none (station-at g inv p s xs ids f all sm w) in
    omega arith

-- no shorter walk has the end of a least violation
pub no-cut : (g : Graph) (inv : Invariant) (x : ℕ) (xs : List ℕ) → IsLeastViolation g inv (x ∷ xs) → NoCut g inv x (step inv 0 (g.typ x)) xs
no-cut g inv x xs v ys c =
    let l : length ys < length xs = c.shorter in
    let br : Breaks g inv (x ∷ ys) = (
      (v.breaks.0.0, c.walk),
      λ h. v.breaks.1 ((monitor_agrees inv (word g (x ∷ xs))).0
          (subst (λ (z : ℕ). is_bad inv z ≡ false) c.ends ((monitor_agrees inv (word g (x ∷ ys))).1 h))),
    ) in
    let k : length (x ∷ xs) ≤ length (x ∷ ys) = v.shortest (x ∷ ys) br in
    omega arith

-- a least violation has at most three times as many ids as the graph, less four
pub least_is_short : LeastIsShort
least_is_short g inv [] ids f all v = absurd v.breaks.0
least_is_short g inv (x ∷ xs) ids f all v =
    let mem : (u : ℕ) → g.listed u ≡ true → In u ids = λ u l. In-Contains ids u (all u l) in
    let i : length (inner_ids ids) + 2 ≤ length ids = inner-count ids (mem 0 f.start_listed) (mem 1 f.end_listed) in
    let w : length xs ≤ 3 * length (inner_ids ids) + 1 =
    walk-short g inv x (step inv 0 (g.typ x)) xs ids f mem (step-small inv 0 (g.typ x) (omega arith)) v.breaks.0.1 (no-cut g inv x xs v) in
    omega arith
