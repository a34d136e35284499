-- A run on the traces of distinct words tells the run of all traces that share these words.
use Rattle.std.proofs.Common.{◌≡◌, ◌⊎◌, ℕ, zero, suc, pred, ◌+◌, ◌<◌, ◌≤◌, ◌&&◌, ◌||◌, nat_lt, Bool, true, false, if◌then◌else◌, List, [], ◌∷◌, ◌++◌, map, filter, length, slice_get, slice_index, slice_index_or, Some, All, Contains, sum_by, sym, ◌∙◌, refl, ap, ap₂, subst, inl, inr, arith, eq-eqb, ne_eqb, length-append}
use Rattle.std.proofs.Math.Path.{fun_ext}
use Rattle.std.proofs.lemmas.Bool.{cases_eq, cases_lt, cond-true, cond-false, and_parts, ltb-true, lt-ltb}
use Rattle.std.proofs.lemmas.List.{length-map}
use Rattle.std.proofs.lemmas.List.Elements.{All-head, All-tail}
use Rattle.std.proofs.lemmas.List.Sums.{sum_by-cons}
use Rattle.std.specs.List.{list_all}
use Rattle.limits.specs.declared.TheConstants.{FIRST_TYPE}
use Rattle.invariants.specs.declared.Invariant.{Invariant}
use Rattle.invariants.specs.declared.Kinds.{Kinds}
use Rattle.invariants.specs.declared.records.Split.{Split}
use Rattle.invariants.specs.declared.records.Merge.{Merge}
use Rattle.invariants.specs.Candidates.{candidates_for}
use Rattle.invariants.specs.Holds.{Holds, holds}
use Rattle.invariants.specs.Mined.{mined_for, holds_of_all}
use Rattle.invariants.proofs.Members.{place-from_Contains}
use Rattle.partition_model.specs.Graphs.{Graph, Satisfies, IsLeastViolation}
use Rattle.partition_model.specs.Assignments.{Event, Assignment, G, IsTyped, events, members, first_type, type_of, types_of, id_list, pairs, inner_words, with_ends, renamed_event}
use Rattle.partition_model.specs.Refinement.{common, followed, stitch, split, split_trace, after_split, SatisfiesAll, IsFirstBroken, IsNextSplit, Refines, Splits}
use Rattle.partition_model.specs.Coarsening.{merge, onto, IsPair, IsNextMerge, NoMerge, Coarsens}
use Rattle.partition_model.specs.Laws.{HoldAll, IsRun}
use Rattle.partition_model.proofs.Lists.{In, In-map, map-In, In-events, events-In, edge-In, In-edge, count-member, member-of, all_in, all_from}
use Rattle.partition_model.proofs.Naming.{type_of-high, typed_from}
use Rattle.partition_model.proofs.Merging.{merge_typed}
use Rattle.partition_model.proofs.Stitching.{followed-in, followed-by}
use Rattle.partition_model.proofs.Runs.{broken, next-run}
use Rattle.partition_bounds.proofs.Ordered.{get-In}
use Rattle.partition_graph.specs.Spread.{spread, AreAllOf}

-- the same traces, in whichever order and however often
pub record Alike (h k : Assignment) : Type 0 where
  pub to : (t : List Event) → In t h → In t k
  pub from : (t : List Event) → In t k → In t h

same-truth : (b c : Bool) → (b ≡ true → c ≡ true) → (c ≡ true → b ≡ true) → b ≡ c
same-truth true c f g = sym (f refl)
same-truth false true f g = g refl
same-truth false false f g = refl

-- they have the same edges
edge-over : (h k : Assignment) → Alike h k → (p q : ℕ) → (G k).edge p q ≡ (G h).edge p q
edge-over h k a p q =
    same-truth ((G k).edge p q) ((G h).edge p q)
    (λ e. let o : (trace : List Event) × In trace k × (0 < pairs p q (id_list trace)) = edge-In p q k e in In-edge p q o.0 h (a.from o.0 o.1) o.2)
    (λ e. let o : (trace : List Event) × In trace h × (0 < pairs p q (id_list trace)) = edge-In p q h e in In-edge p q o.0 k (a.to o.0 o.1) o.2)

-- the same events
pub event-over : (h k : Assignment) → ((t : List Event) → In t h → In t k) → (e : Event) → In e (events h) → In e (events k)
event-over h k f e i = let o : (trace : List Event) × In trace h × In e trace = events-In e h i in In-events e o.0 k (f o.0 o.1) o.2

-- the same ids
live-over : (h k : Assignment) → ((t : List Event) → In t h → In t k) → (p : ℕ) → nat_lt 0 (members h p) ≡ true → nat_lt 0 (members k p) ≡ true
live-over h k f p e =
    let o : (e : Event) × In e (events h) × (e.id ≡ p) = member-of p (events h) (ltb-true 0 (members h p) e) in
    lt-ltb 0 (members k p) (count-member p o.0 (events k) (event-over h k f o.0 o.1) o.2)

listed-over : (h k : Assignment) → Alike h k → (p : ℕ) → (G k).listed p ≡ (G h).listed p
listed-over h k a p =
    ap (λ (b : Bool). nat_lt p FIRST_TYPE || b)
    (same-truth (nat_lt 0 (members k p)) (nat_lt 0 (members h p)) (live-over k h a.from p) (live-over h k a.to p))

-- the type of an id is that of one of its events, where it has any
first-of : (p : ℕ) (es : List Event) → ((first_type p es ≡ 0) × ((e : Event) → In e es → e.id ≡ p → ⊥)) ⊎ ((e : Event) × In e es × (e.id ≡ p) × (first_type p es ≡ e.typ))
first-of p [] = inl (refl, λ e i q. i)
first-of p (d ∷ es) =
    elim (cases_eq d.id p) [
      | inl a ↦ inr (d, inl refl, a, cond-true _ _ _ (eq-eqb d.id p a))
      | inr n ↦
          let c : first_type p (d ∷ es) ≡ first_type p es = cond-false _ _ _ (ne_eqb d.id p n) in
          elim (first-of p es) [
            | inl z ↦ inl (c ∙ z.0, λ e i q. elim i [ inl s ↦ n (ap (λ (x : Event). x.id) s ∙ q) | inr r ↦ z.1 e r q ])
            | inr o ↦ inr (o.0, inr o.1, o.2, c ∙ o.3)
          ]
    ]

first-over : (h k : Assignment) → Alike h k → IsTyped h → (p : ℕ) → first_type p (events k) ≡ first_type p (events h)
first-over h k a t p =
    elim (first-of p (events k)) [
      | inl z ↦ elim (first-of p (events h)) [
        | inl y ↦ z.0 ∙ sym y.0
        | inr o ↦ absurd (z.1 o.0 (event-over h k a.to o.0 o.1) o.2)
      ]
      | inr o ↦
          let i : In o.0 (events h) = event-over k h a.from o.0 o.1 in
          let u : (FIRST_TYPE ≤ o.0.id) × (o.0.typ ≡ type_of h o.0.id) = all_in (λ e. (FIRST_TYPE ≤ e.id) × (e.typ ≡ type_of h e.id)) o.0 (events h) t i in
          o.3 ∙ u.1 ∙ type_of-high h o.0.id u.0 ∙ ap (λ (x : ℕ). first_type x (events h)) o.2
    ]

type-over : (h k : Assignment) → Alike h k → IsTyped h → (p : ℕ) → (G k).typ p ≡ (G h).typ p
type-over h k a t p = ap (λ (x : ℕ). if nat_lt p FIRST_TYPE then p else x) (first-over h k a t p)

-- so they have one graph
pub graph-over : (h k : Assignment) → Alike h k → IsTyped h → G h ≡ G k
graph-over h k a t =
    let x : (G h).typ ≡ (G k).typ = fun_ext (λ p. sym (type-over h k a t p)) in
    let y : (G h).edge ≡ (G k).edge = fun_ext (λ p. fun_ext (λ q. sym (edge-over h k a p q))) in
    let z : (G h).listed ≡ (G k).listed = fun_ext (λ p. sym (listed-over h k a p)) in
    λ d. record { typ = x d; edge = y d; listed = z d }

-- and a path follows both as far
followed-most : (h k : Assignment) → ((t : List Event) → In t h → In t k) → (path : List ℕ) → followed h path ≤ followed k path
followed-most h k f path =
    elim (cases_lt 0 (followed h path)) [
      | inl l ↦
          let o : (trace : List Event) × In trace h × (common path (id_list trace) ≡ followed h path) = followed-by path h l in
          let m : common path (id_list o.0) ≤ followed k path = followed-in path o.0 k (f o.0 o.1) in
          let e : common path (id_list o.0) ≡ followed h path = o.2 in
          omega arith
      | inr z ↦ omega arith
    ]

stitch-over : (h k : Assignment) → Alike h k → (path : List ℕ) → stitch h path ≡ stitch k path
stitch-over h k a path =
    let m : followed h path ≤ followed k path = followed-most h k a.to path in
    let n : followed k path ≤ followed h path = followed-most k h a.from path in
    let e : followed h path ≡ followed k path = omega arith in
    ap (λ (x : ℕ). pred x) e

-- all traces that share the words are like the traces of these
fetched : (h : Assignment) (k : ℕ) → k < length h → In (slice_index_or h k []) h
fetched [] k l = absurd (omega arith)
fetched (t ∷ h) zero l = inl refl
fetched (t ∷ h) (suc k) l = inr (fetched h k (omega arith))

all-In : (P : ℕ → Type 0) (k : ℕ) (ks : List ℕ) → All P ks → In k ks → P k
all-In P k [] a i = absurd i
all-In P k (x ∷ ks) a (inl e) = subst P e (All-head P x ks a)
all-In P k (x ∷ ks) a (inr j) = all-In P k ks (All-tail P x ks a) j

place-In : (t : List Event) (h : Assignment) → In t h → (k : ℕ) × (k < length h) × (slice_index_or h k [] ≡ t)
place-In t [] i = absurd i
place-In t (x ∷ h) (inl e) = (0, omega arith, e)
place-In t (x ∷ h) (inr j) = let o : (k : ℕ) × (k < length h) × (slice_index_or h k [] ≡ t) = place-In t h j in (suc o.0, omega (arith, o.1), o.2)

-- the traces with these numbers are those of the distinct words, each at least once
pub all-alike : (ks : List ℕ) (h : Assignment) → AreAllOf ks h → Alike h (spread ks h)
all-alike ks h a = record {
  to = λ t i.
      let o : (k : ℕ) × (k < length h) × (slice_index_or h k [] ≡ t) = place-In t h i in
      let c : Contains ks o.0 = a.whole o.0 o.1 in
      subst (λ (x : List Event). In x (spread ks h)) o.2 (map-In (λ (k : ℕ). slice_index_or h k []) o.0 ks (get-In ks c.0 o.0 (place-from_Contains ks o.0 c)));
  from = λ t i.
      let o : (k : ℕ) × In k ks × (slice_index_or h k [] ≡ t) = In-map (λ (k : ℕ). slice_index_or h k []) t ks i in
      subst (λ (x : List Event). In x h) o.2 (fetched h o.0 (all-In (λ k. k < length h) o.0 ks a.within o.1));
}

-- what changes each trace by itself may do so before or after
fetch-map : {Y : Type 0} (f : List Event → List Y) → f [] ≡ [] → (h : Assignment) (k : ℕ) → slice_index_or (map f h) k [] ≡ f (slice_index_or h k [])
fetch-map f e [] k = sym e
fetch-map f e (t ∷ h) zero = refl
fetch-map f e (t ∷ h) (suc k) = fetch-map f e h k

spread-map : (f : List Event → List Event) → f [] ≡ [] → (ks : List ℕ) (h : Assignment) → spread ks (map f h) ≡ map f (spread ks h)
spread-map f e [] h = refl
spread-map f e (k ∷ ks) h = ap₂ (λ (x : List Event) (xs : Assignment). x ∷ xs) (fetch-map f e h k) (spread-map f e ks h)

spread-split : (ks : List ℕ) (p q n : ℕ) (h : Assignment) → spread ks (split p q n h) ≡ split p q n (spread ks h)
spread-split ks p q n h = spread-map (λ trace. split_trace p q n trace) refl ks h

spread-merge : (ks : List ℕ) (p q : ℕ) (h : Assignment) → spread ks (merge p q h) ≡ merge p q (spread ks h)
spread-merge ks p q h = spread-map (λ trace. map (renamed_event (onto p q)) trace) refl ks h

all-as-long : (ks : List ℕ) (h k : Assignment) → length k ≡ length h → AreAllOf ks h → AreAllOf ks k
all-as-long ks h k e a = record {
  within = subst (λ (n : ℕ). All (λ x. x < n) ks) (sym e) a.within;
  whole = λ x l. a.whole x (omega (arith, e, l));
}

all-split : (ks : List ℕ) (p q n : ℕ) (h : Assignment) → AreAllOf ks h → AreAllOf ks (split p q n h)
all-split ks p q n h a = all-as-long ks h (split p q n h) (length-map h (λ trace. split_trace p q n trace)) a

all-merge : (ks : List ℕ) (p q : ℕ) (h : Assignment) → AreAllOf ks h → AreAllOf ks (merge p q h)
all-merge ks p q h a = all-as-long ks h (merge p q h) (length-map h (λ trace. map (renamed_event (onto p q)) trace)) a

-- the words of all traces come from those of the few
words-spread : (ks : List ℕ) (h : Assignment) → inner_words (spread ks h) ≡ map (λ k. slice_index_or (inner_words h) k []) ks
words-spread [] h = refl
words-spread (k ∷ ks) h = ap₂ (λ (x : List ℕ) (xs : List (List ℕ)). x ∷ xs) (sym (fetch-map (λ (t : List Event). types_of t) refl h k)) (words-spread ks h)

-- graphs with the same words have them still where they are spread
pub words-as : (ks : List ℕ) (h k : Assignment) → inner_words h ≡ inner_words k → inner_words (spread ks h) ≡ inner_words (spread ks k)
words-as ks h k e = words-spread ks h ∙ ap (λ (ws : List (List ℕ)). map (λ k. slice_index_or ws k []) ks) e ∙ sym (words-spread ks k)

-- a graph has as many events as its words have letters
pub events-count : (h : Assignment) → length (events h) ≡ sum_by (λ w. length w) (inner_words h)
events-count [] = refl
events-count (t ∷ h) =
    let i : length (events h) ≡ sum_by (λ (w : List ℕ). length w) (inner_words h) = events-count h in
    let a : length (t ++ events h) ≡ length t + length (events h) = length-append t (events h) in
    let b : sum_by (λ (w : List ℕ). length w) (types_of t ∷ inner_words h) ≡ length (types_of t) + sum_by (λ (w : List ℕ). length w) (inner_words h) = sum_by-cons (λ (w : List ℕ). length w) (types_of t) (inner_words h) in
    let c : length (types_of t) ≡ length t = length-map t (λ (e : Event). e.typ) in
    omega arith

-- words of traces that are alike
pub word-over : (h k : Assignment) → ((t : List Event) → In t h → In t k) → (w : List ℕ) → In w (inner_words h) → In w (inner_words k)
word-over h k f w i =
    let o : (t : List Event) × In t h × (types_of t ≡ w) = In-map (λ (t : List Event). types_of t) w h i in
    subst (λ (x : List ℕ). In x (inner_words k)) o.2 (map-In (λ (t : List Event). types_of t) o.0 k (f o.0 o.1))

passes-each : (f : List ℕ → Bool) (ws : List (List ℕ)) → list_all f ws ≡ true → (w : List ℕ) → In w ws → f w ≡ true
passes-each f [] a w i = absurd i
passes-each f (v ∷ ws) a w (inl e) = subst (λ (x : List ℕ). f x ≡ true) e (and_parts (f v) (list_all f ws) a).0
passes-each f (v ∷ ws) a w (inr j) = passes-each f ws (and_parts (f v) (list_all f ws) a).1 w j

both-true : (b c : Bool) → b ≡ true → c ≡ true → (b && c) ≡ true
both-true true c e f = f
both-true false c e f = e

each-passes : (f : List ℕ → Bool) (ws : List (List ℕ)) → ((w : List ℕ) → In w ws → f w ≡ true) → list_all f ws ≡ true
each-passes f [] g = refl
each-passes f (v ∷ ws) g = both-true (f v) (list_all f ws) (g v (inl refl)) (each-passes f ws (λ w i. g w (inr i)))

-- the same invariants hold of all of them
hold-of : (inv : Invariant) (vs ws : List (List ℕ)) → ((w : List ℕ) → In w ws → In w vs) → holds_of_all (map with_ends vs) inv ≡ true → holds_of_all (map with_ends ws) inv ≡ true
hold-of inv vs ws f e =
    each-passes (holds inv) (map with_ends ws) (λ w i.
    let o : (v : List ℕ) × In v ws × (with_ends v ≡ w) = In-map with_ends w ws i in
    subst (λ (x : List ℕ). holds inv x ≡ true) o.2
    (passes-each (holds inv) (map with_ends vs) e (with_ends o.0) (map-In with_ends o.0 vs (f o.0 o.1))))

-- words that are the same, however often each stands there, give the same invariants
pub mined-as : (kinds : Kinds) (types : ℕ) (vs ws : List (List ℕ)) → ((w : List ℕ) → In w vs → In w ws) → ((w : List ℕ) → In w ws → In w vs) → mined_for kinds types (map with_ends vs) ≡ mined_for kinds types (map with_ends ws)
mined-as kinds types vs ws to from =
    ap (λ (f : Invariant → Bool). filter f (candidates_for kinds types))
    (fun_ext (λ inv. same-truth (holds_of_all (map with_ends vs) inv) (holds_of_all (map with_ends ws) inv) (hold-of inv vs ws from) (hold-of inv ws vs to)))

-- what holds of each word of a list holds of each word that stands in it
pub hold-over : (vs ws : List (List ℕ)) (invs : List Invariant) → ((w : List ℕ) → In w vs → In w ws) → HoldAll ws invs → HoldAll vs invs
hold-over vs ws [] f a = tt
hold-over vs ws (inv ∷ invs) f a = (
  all_from (λ w. Holds inv (with_ends w)) vs (λ w i. all_in (λ w. Holds inv (with_ends w)) w ws a.0 (f w i)),
  hold-over vs ws invs f a.1,
)

-- one step of refinement
pub next-split-over : (invs : List Invariant) (h k : Assignment) (s : Split) → Alike h k → IsTyped h → IsNextSplit invs h s → IsNextSplit invs k s
next-split-over invs h k s a t n =
    let g : G h ≡ G k = graph-over h k a t in
    record {
      first = subst (λ (x : Graph). IsFirstBroken x invs s.inv) g n.first;
      least = λ inv at. subst (λ (x : Graph). IsLeastViolation x inv s.path) g (n.least inv at);
      place = n.place ∙ stitch-over h k a s.path;
    }

pub run-on : (words : List (List ℕ)) (invs : List Invariant) (h : Assignment) (n : ℕ) (s : Split) → IsRun words h n → 2 ≤ n → HoldAll words invs → IsNextSplit invs h s → IsRun words (after_split n s h) (suc n)
run-on words invs h n s r l a w =
    let b : (inv : Invariant) × (slice_get invs s.inv ≡ Some inv) × (Satisfies (G h) inv → ⊥) = broken (G h) invs s.inv w.first in
    let r1 : IsRun words (after_split n s h) (n + 1) = next-run words invs h n s b.0 r l a b.1 (w.least b.0 b.1) w.place in
    let e : n + 1 ≡ suc n = omega arith in
    subst (λ (m : ℕ). IsRun words (after_split n s h) m) e r1

-- the whole of it, and its first steps
pub refines-over : (words : List (List ℕ)) (invs : List Invariant) (ks : List ℕ) (splits : List Split) (h : Assignment) (n : ℕ) (end : Assignment) → AreAllOf ks h → IsRun words h n → 2 ≤ n → HoldAll words invs
    → Refines invs h n splits end → Refines invs (spread ks h) n splits (spread ks end) × AreAllOf ks end
refines-over words invs ks [] h n end all r l a w =
    let g : G h ≡ G (spread ks h) = graph-over h (spread ks h) (all-alike ks h all) r.typed in
    ((subst (λ (x : Graph). SatisfiesAll x invs) g w.0, ap (λ (x : Assignment). spread ks x) w.1), subst (λ (x : Assignment). AreAllOf ks x) (sym w.1) all)
refines-over words invs ks (s ∷ ss) h n end all r l a w =
    let p : ℕ = slice_index s.path s.place in
    let q : ℕ = slice_index s.path (s.place + 1) in
    let o : Refines invs (spread ks (after_split n s h)) (suc n) ss (spread ks end) × AreAllOf ks end =
    refines-over words invs ks ss (after_split n s h) (suc n) end (all-split ks p q n h all) (run-on words invs h n s r l a w.0) (omega arith) a w.1 in (
      (
        next-split-over invs h (spread ks h) s (all-alike ks h all) r.typed w.0,
        subst (λ (x : Assignment). Refines invs x (suc n) ss (spread ks end)) (spread-split ks p q n h) o.0,
      ),
      o.1,
    )

-- the first splits of a refinement may be made before the traces are spread or after
pub splits-over : (words : List (List ℕ)) (invs : List Invariant) (ks : List ℕ) (splits : List Split) (h : Assignment) (n : ℕ) (end : Assignment) → AreAllOf ks h → IsRun words h n → 2 ≤ n → HoldAll words invs
    → Splits invs h n splits end → Splits invs (spread ks h) n splits (spread ks end) × AreAllOf ks end
splits-over words invs ks [] h n end all r l a w =
    (ap (λ (x : Assignment). spread ks x) w, subst (λ (x : Assignment). AreAllOf ks x) (sym w) all)
splits-over words invs ks (s ∷ ss) h n end all r l a w =
    let p : ℕ = slice_index s.path s.place in
    let q : ℕ = slice_index s.path (s.place + 1) in
    let o : Splits invs (spread ks (after_split n s h)) (suc n) ss (spread ks end) × AreAllOf ks end =
    splits-over words invs ks ss (after_split n s h) (suc n) end (all-split ks p q n h all) (run-on words invs h n s r l a w.0) (omega arith) a w.1 in (
      (
        next-split-over invs h (spread ks h) s (all-alike ks h all) r.typed w.0,
        subst (λ (x : Assignment). Splits invs x (suc n) ss (spread ks end)) (spread-split ks p q n h) o.0,
      ),
      o.1,
    )

-- the next split is the same before the traces are spread and after
pub next-over : (invs : List Invariant) (ks : List ℕ) (h : Assignment) (s : Split) → AreAllOf ks h → IsTyped h → IsNextSplit invs h s → IsNextSplit invs (spread ks h) s
next-over invs ks h s all t n = next-split-over invs h (spread ks h) s (all-alike ks h all) t n

-- one step of coarsening
pub typed-merge : (h : Assignment) (p q : ℕ) → IsTyped h → IsPair (G h) p q → IsTyped (merge p q h)
typed-merge h p q t i = typed_from (λ x. type_of h x) (merge p q h) (merge_typed h p q t i)

merged-graph : (ks : List ℕ) (h : Assignment) (p q : ℕ) → AreAllOf ks h → IsTyped h → IsPair (G h) p q → G (merge p q h) ≡ G (merge p q (spread ks h))
merged-graph ks h p q all t i =
    let k : Assignment = merge p q h in
    let g : G (merge p q h) ≡ G (spread ks (merge p q h)) = graph-over (merge p q h) (spread ks (merge p q h)) (all-alike ks (merge p q h) (all-merge ks p q h all)) (typed-merge h p q t i) in
    g ∙ ap (λ (x : Assignment). G x) (spread-merge ks p q h)

pub pair-over : (h k : Assignment) → Alike h k → IsTyped h → (p q : ℕ) → IsPair (G k) p q → IsPair (G h) p q
pair-over h k a t p q i = subst (λ (x : Graph). IsPair x p q) (sym (graph-over h k a t)) i

next-merge-over : (invs : List Invariant) (ks : List ℕ) (h : Assignment) (m : Merge) → AreAllOf ks h → IsTyped h → IsNextMerge invs h m → IsNextMerge invs (spread ks h) m
next-merge-over invs ks h m all t n =
    let a : Alike h (spread ks h) = all-alike ks h all in
    record {
      pair = subst (λ (x : Graph). IsPair x m.p m.q) (graph-over h (spread ks h) a t) n.pair;
      keeps = subst (λ (x : Graph). SatisfiesAll x invs) (merged-graph ks h m.p m.q all t n.pair) n.keeps;
      first = λ r s i before sat.
          let j : IsPair (G h) r s = pair-over h (spread ks h) a t r s i in
          n.first r s j before (subst (λ (x : Graph). SatisfiesAll x invs) (sym (merged-graph ks h r s all t j)) sat);
    }

no-merge-over : (invs : List Invariant) (ks : List ℕ) (h : Assignment) → AreAllOf ks h → IsTyped h → NoMerge invs h → NoMerge invs (spread ks h)
no-merge-over invs ks h all t n p q i sat =
    let j : IsPair (G h) p q = pair-over h (spread ks h) (all-alike ks h all) t p q i in
    n p q j (subst (λ (x : Graph). SatisfiesAll x invs) (sym (merged-graph ks h p q all t j)) sat)

-- and the whole of it
pub coarsens-over : (invs : List Invariant) (ks : List ℕ) (merges : List Merge) (h end : Assignment) → AreAllOf ks h → IsTyped h
    → Coarsens invs h merges end → Coarsens invs (spread ks h) merges (spread ks end) × AreAllOf ks end × IsTyped end
coarsens-over invs ks [] h end all t c = (
  (no-merge-over invs ks h all t c.0, ap (λ (x : Assignment). spread ks x) c.1),
  subst (λ (x : Assignment). AreAllOf ks x) (sym c.1) all,
  subst (λ (x : Assignment). IsTyped x) (sym c.1) t,
)
coarsens-over invs ks (m ∷ ms) h end all t c =
    let o : Coarsens invs (spread ks (merge m.p m.q h)) ms (spread ks end) × AreAllOf ks end × IsTyped end =
    coarsens-over invs ks ms (merge m.p m.q h) end (all-merge ks m.p m.q h all) (typed-merge h m.p m.q t c.0.pair) c.1 in (
      (
        next-merge-over invs ks h m all t c.0,
        subst (λ (x : Assignment). Coarsens invs x ms (spread ks end)) (spread-merge ks m.p m.q h) o.0,
      ),
      o.1,
      o.2,
    )
