-- Two assignments with the same traces: what is right for the one is right for the other, before splits and after them.
use Rattle.std.proofs.Common.{◌≡◌, ℕ, zero, suc, pred, ◌+◌, ◌<◌, ◌≤◌, true, List, [], ◌∷◌, length, refl, sym, ◌∙◌, ap, subst, inl, inr, arith}
use Rattle.std.proofs.lemmas.Bool.{cases_lt, lt-ltb}
use Rattle.std.specs.List.{AllByRecursion}
use Rattle.limits.specs.declared.TheConstants.{MAX_PARTITIONS}
use Rattle.invariants.specs.declared.Invariant.{Invariant}
use Rattle.invariants.specs.declared.records.Split.{Split}
use Rattle.invariants.specs.declared.records.Model.{Model}
use Rattle.partition_model.specs.Graphs.{Breaks}
use Rattle.partition_model.specs.Assignments.{Event, Assignment, IsTyped, G, events, by_type, id_list, type_of}
use Rattle.partition_model.specs.Refinement.{common, followed, stitch, split, split_trace, after_split}
use Rattle.partition_model.proofs.Lists.{In, In-map, map-In, all_in, all_from, In-events, events-In, edge-In, In-edge}
use Rattle.partition_model.proofs.Listing.{Contains-In, In-Contains}
use Rattle.partition_model.proofs.Forming.{graphs_are_formed}
use Rattle.partition_model.proofs.Passes.{live-member, member-live}
use Rattle.partition_model.proofs.Runs.{split-typed, split-In}
use Rattle.partition_model.proofs.Stitching.{followed-in, followed-by, In-split}
use Rattle.model_shape.specs.Shapes.{AreIds, IsShapedSplit, IsWellShaped}
use Rattle.models.specs.Histories.{IsJustifiedSplit, SplitInTurn, IsFirstWrongSplit, split_by}
use Rattle.replay_check.specs.Laid.{HaveIdsBelow}
use Rattle.replay_check.specs.Sharing.{HaveSame, AreIdsOf}
use Rattle.replay_check.proofs.Showing.{breaks-to, fresh, split-below}
use Rattle.replay_check.proofs.Starting.{typed, start-typed}

-- each trace of the one is one of the other
abbrev pub AreWithin : Assignment → Assignment → Type 0
AreWithin g h = (t : List Event) → In t g → In t h

-- ids from that of the first type on and below n, of one type each
pub record IsRanged (h : Assignment) (n : ℕ) : Type 0 where
  pub typed : IsTyped h
  pub high : 2 ≤ n
  pub below : HaveIdsBelow n h

-- two such assignments with the same traces
pub record AreAlike (g h : Assignment) (n : ℕ) : Type 0 where
  pub one : IsRanged g n
  pub other : IsRanged h n
  pub forth : AreWithin g h
  pub back : AreWithin h g

turned : (g h : Assignment) (n : ℕ) → AreAlike g h n → AreAlike h g n
turned g h n a = record { one = a.other; other = a.one; forth = a.back; back = a.forth }

-- ---- graphs

edge-to : (g h : Assignment) → AreWithin g h → (p q : ℕ) → (G g).edge p q ≡ true → (G h).edge p q ≡ true
edge-to g h w p q e = let o : (t : List Event) × In t g × (0 < Rattle.partition_model.specs.Assignments.pairs p q (id_list t)) = edge-In p q g e in In-edge p q o.0 h (w o.0 o.1) o.2

pub type-same : (g h : Assignment) → IsTyped g → IsTyped h → AreWithin g h → (q : ℕ) → (G g).listed q ≡ true → type_of g q ≡ type_of h q
type-same g h a b w q live =
    elim (cases_lt q 2) [
      | inl s ↦ rw (lt-ltb q 2 s) refl
      | inr s ↦
          let o : (e : Event) × In e (events g) × (e.id ≡ q) = live-member g q s live in
          let u : (t : List Event) × In t g × In o.0 t = events-In o.0 g o.1 in
          let x : (2 ≤ o.0.id) × (o.0.typ ≡ type_of g o.0.id) = all_in (λ e. (2 ≤ e.id) × (e.typ ≡ type_of g e.id)) o.0 (events g) a o.1 in
          let y : (2 ≤ o.0.id) × (o.0.typ ≡ type_of h o.0.id) = all_in (λ e. (2 ≤ e.id) × (e.typ ≡ type_of h e.id)) o.0 (events h) b (In-events o.0 u.0 h (w u.0 u.1) u.2) in
          sym (ap (λ z. type_of g z) o.2) ∙ sym x.1 ∙ y.1 ∙ ap (λ z. type_of h z) o.2
    ]

pub live-same : (g h : Assignment) → AreWithin g h → (q : ℕ) → (G g).listed q ≡ true → (G h).listed q ≡ true
live-same g h w q live =
    elim (cases_lt q 2) [
      | inl s ↦ rw (lt-ltb q 2 s) refl
      | inr s ↦
          let o : (e : Event) × In e (events g) × (e.id ≡ q) = live-member g q s live in
          let u : (t : List Event) × In t g × In o.0 t = events-In o.0 g o.1 in
          member-live h q s o.0 (In-events o.0 u.0 h (w u.0 u.1) u.2) o.2
    ]

breaks-too : (g h : Assignment) → IsTyped g → IsTyped h → AreWithin g h → (inv : Invariant) (path : List ℕ) → AreIds path → Breaks (G g) inv path → Breaks (G h) inv path
breaks-too g h a b w inv path ids broken =
    breaks-to (G g) (G h) MAX_PARTITIONS refl (λ p q l m e. (edge-to g h w p q e, type-same g h a b w q ((graphs_are_formed g a).between p q e).1)) inv path ids broken

-- ---- the stitch

followed-most : (g h : Assignment) (path : List ℕ) → AreWithin g h → followed g path ≤ followed h path
followed-most g h path w =
    elim (cases_lt 0 (followed g path)) [
      | inl l ↦
          let o : (t : List Event) × In t g × (common path (id_list t) ≡ followed g path) = followed-by path g l in
          let m : common path (id_list o.0) ≤ followed h path = followed-in path o.0 h (w o.0 o.1) in
          let e = o.2 in
          omega arith
      | inr l ↦ omega arith
    ]

stitch-same : (g h : Assignment) (path : List ℕ) → AreWithin g h → AreWithin h g → stitch g path ≡ stitch h path
stitch-same g h path f b =
    let l : followed g path ≤ followed h path = followed-most g h path f in
    let m : followed h path ≤ followed g path = followed-most h g path b in
    let e : followed g path ≡ followed h path = omega arith in
    ap pred e

-- ---- splits

justified-too : (m : Model) (g h : Assignment) (n : ℕ) (s : Split) → AreIds s.path → AreAlike g h n → IsJustifiedSplit m g n s → IsJustifiedSplit m h n s
justified-too m g h n s ids a j =
    record {
      listed = j.listed;
      names = j.names;
      breaks = breaks-too g h a.one.typed a.other.typed a.forth j.listed.inv s.path ids j.breaks;
      place = j.place ∙ stitch-same g h s.path a.forth a.back;
      inside = j.inside;
      room = j.room;
    }

ranged-split : (h : Assignment) (n p q : ℕ) → IsRanged h n → IsRanged (split p q n h) (suc n)
ranged-split h n p q r =
    let l : 2 ≤ n = r.high in
    let e : n + 1 ≡ suc n = omega arith in
    record {
      typed = split-typed h p q n r.typed (fresh n h r.high r.below);
      high = omega arith;
      below = subst (λ k. HaveIdsBelow k (split p q n h)) e (split-below p q n h r.high r.below);
    }

within-split : (g h : Assignment) (n p q : ℕ) → AreWithin g h → AreWithin (split p q n g) (split p q n h)
within-split g h n p q w t i =
    let o : (s : List Event) × In s g × (split_trace p q n s ≡ t) = split-In p q n t g i in
    subst (λ (x : List Event). In x (split p q n h)) o.2 (In-split p q n o.0 h (w o.0 o.1))

alike-split : (g h : Assignment) (n p q : ℕ) → AreAlike g h n → AreAlike (split p q n g) (split p q n h) (suc n)
alike-split g h n p q a =
    record {
      one = ranged-split g n p q a.one;
      other = ranged-split h n p q a.other;
      forth = within-split g h n p q a.forth;
      back = within-split h g n p q a.back;
    }

-- and so after any splits
pub alike-by : (g h : Assignment) (n : ℕ) (ss : List Split) → AreAlike g h n → AreAlike (split_by n ss g) (split_by n ss h) (n + length ss)
alike-by g h n [] a = let e : n ≡ n + 0 = omega arith in subst (λ k. AreAlike g h k) e a
alike-by g h n (s ∷ ss) a =
    let e : suc n + length ss ≡ n + suc (length ss) = omega arith in
    subst (λ k. AreAlike (split_by (suc n) ss (after_split n s g)) (split_by (suc n) ss (after_split n s h)) k) e
    (alike-by (after_split n s g) (after_split n s h) (suc n) ss (alike-split g h n _ _ a))

-- the paths of some splits have ids that partitions may have
abbrev pub HaveIds : List Split → Type 0
HaveIds ss = AllByRecursion (λ (s : Split). AreIds s.path) ss

pub shaped-ids : (m : Model) → IsWellShaped m → HaveIds m.splits
shaped-ids m w = all_from (λ (s : Split). AreIds s.path) m.splits (λ s i. (all_in (IsShapedSplit (length m.invariants)) s m.splits w.splits.each i).path)

-- all splits that are right in their turn for the one are so for the other
pub alike-all : (m : Model) (g h : Assignment) (n : ℕ) (ss : List Split) → HaveIds ss → AreAlike g h n → SplitInTurn m g n ss → SplitInTurn m h n ss
alike-all m g h n [] ids a t = tt
alike-all m g h n (s ∷ ss) ids a t =
    (justified-too m g h n s ids.0 a t.0, alike-all m (after_split n s g) (after_split n s h) (suc n) ss ids.1 (alike-split g h n _ _ a) t.1)

-- and so is the first that is not
pub alike-wrong : (m : Model) (g h : Assignment) (n : ℕ) (ss : List Split) (k : ℕ) → HaveIds ss → AreAlike g h n → IsFirstWrongSplit m g n ss k → IsFirstWrongSplit m h n ss k
alike-wrong m g h n [] k ids a w = absurd w
alike-wrong m g h n (s ∷ ss) zero ids a w = λ j. w (justified-too m h g n s ids.0 (turned g h n a) j)
alike-wrong m g h n (s ∷ ss) (suc k) ids a w =
    (justified-too m g h n s ids.0 a w.0, alike-wrong m (after_split n s g) (after_split n s h) (suc n) ss k ids.1 (alike-split g h n _ _ a) w.1)

-- ---- the start

start-within : (vs ws : List (List ℕ)) → ((w : List ℕ) → In w vs → In w ws) → AreWithin (by_type vs) (by_type ws)
start-within vs ws f t i =
    let o : (v : List ℕ) × In v vs × (typed v ≡ t) = In-map typed t vs i in
    subst (λ (x : List Event). In x (by_type ws)) o.2 (map-In typed o.0 ws (f o.0 o.1))

below-too : (n : ℕ) (g h : Assignment) → AreWithin g h → HaveIdsBelow n h → HaveIdsBelow n g
below-too n g h w a =
    all_from (λ e. (2 ≤ e.id) × (e.id < n)) (events g) (λ e i.
    let o : (t : List Event) × In t g × In e t = events-In e g i in
    all_in (λ e. (2 ≤ e.id) × (e.id < n)) e (events h) a (In-events e o.0 h (w o.0 o.1) o.2))

-- words that are the same have first assignments that are alike
pub start-alike : (n : ℕ) (vs ws : List (List ℕ)) → 2 ≤ n → HaveSame vs ws → HaveIdsBelow n (by_type ws) → AreAlike (by_type vs) (by_type ws) n
start-alike n vs ws l s a =
    let f : AreWithin (by_type vs) (by_type ws) = start-within vs ws (λ w i. In-Contains ws w (s.forth w (Contains-In w vs i))) in
    let b : HaveIdsBelow n (by_type vs) = below-too n (by_type vs) (by_type ws) f a in
    record {
      one = record { typed = start-typed n vs b; high = l; below = b };
      other = record { typed = start-typed n ws a; high = l; below = a };
      forth = f;
      back = start-within ws vs (λ w i. In-Contains vs w (s.back w (Contains-In w ws i)));
    }

-- the ids of the words of a log are those of an assignment that is like the first one of the log
pub laid-alike : (n types : ℕ) (inner : List (List ℕ)) (ids places : List ℕ) (o : AreIdsOf inner ids places) → n ≡ types + 2 → HaveIdsBelow (types + 2) (by_type inner) → AreAlike (by_type o.words) (by_type inner) n
laid-alike n types inner ids places o e a = start-alike n o.words inner (omega arith) o.same (subst (λ k. HaveIdsBelow k (by_type inner)) (sym e) a)
