-- A history is justified, or one step of it is the first that fails.
use Rattle.std.proofs.Common.{◌≡◌, ◌⊎◌, ℕ, zero, suc, ◌+◌, ◌<◌, ◌≤◌, List, [], ◌∷◌, length, slice_get, Some, sym, ◌∙◌, refl, ap, subst, inl, inr, arith}
use Rattle.std.proofs.lemmas.Bool.{cases_eq}
use Rattle.std.proofs.lemmas.Option.{none-some}
use Rattle.std.specs.List.{AllByRecursion}
use Rattle.invariants.specs.declared.records.Partition.{Partition}
use Rattle.invariants.specs.declared.records.Edge.{Edge}
use Rattle.invariants.specs.declared.records.Listed.{Listed}
use Rattle.invariants.specs.declared.records.Split.{Split}
use Rattle.invariants.specs.declared.records.Merge.{Merge}
use Rattle.invariants.specs.declared.records.Model.{Model}
use Rattle.partition_model.specs.Graphs.{Breaks}
use Rattle.partition_model.specs.Assignments.{Event, Assignment, events, G, by_type}
use Rattle.partition_model.specs.Listings.{ArePartitions, AreEdges, partitions_below, edges_below}
use Rattle.partition_model.specs.Refinement.{stitch, after_split}
use Rattle.partition_model.specs.Coarsening.{merge}
use Rattle.partition_model.specs.Laws.{MergeInTurn}
use Rattle.partition_model.proofs.Lists.{all_in, all_from}
use Rattle.partition_model.proofs.Listing.{are_partitions, are_edges}
use Rattle.models.specs.declared.parts.ReplayPart.TheVariants as step
use Rattle.models.specs.Histories.{IsJustifiedSplit, SplitInTurn, first_new, refined_by, replayed, IsGraphOf, IsFirstWrongSplit, IsFirstWrongMerge}
use Rattle.models.specs.Laws.{FirstStepExists, FirstStepFails, OneFirstStep}
use Rattle.models.proofs.Unique.{one-partitions, one-edges}
use Rattle.models.proofs.Deciding.{OrNot, both, same-or-not, number-or-not, less-or-not, breaks-or-not, option-cases, some-same, pair-or-not}

-- a split is right or not
split-or-not : (m : Model) (h : Assignment) (n : ℕ) (s : Split) → OrNot (IsJustifiedSplit m h n s)
split-or-not m h n s =
    elim (option-cases (slice_get m.invariants s.inv)) [
      | inl o ↦
          elim (both (breaks-or-not (G h) o.0.inv s.path) (both (number-or-not s.place (stitch h s.path)) (both (less-or-not (s.place + 1) (length s.path)) (less-or-not n 1024)))) [
            | inl a ↦ inl (let l : n < 1024 = a.1.1.1 in record { listed = o.0; names = o.1; breaks = a.0; place = a.1.0; inside = a.1.1.0; room = omega arith })
            | inr f ↦ inr (λ j. f (
              same o.0 o.1 j,
              (j.place, (j.inside, (let r : n < 1024 = j.room in omega arith))),
            ))
          ]
      | inr e ↦ inr (λ j. none-some j.listed (sym e ∙ j.names))
    ]
  where
    same : (l : Listed) → slice_get m.invariants s.inv ≡ Some l → IsJustifiedSplit m h n s → Breaks (G h) l.inv s.path
    same l e j = let q : j.listed ≡ l = some-same j.listed l (sym j.names ∙ e) in subst (λ (x : Listed). Breaks (G h) x.inv s.path) q j.breaks

-- each split is right in its turn, or one is the first that is not
splits-or-first : (m : Model) (ss : List Split) (h : Assignment) (n : ℕ) → SplitInTurn m h n ss ⊎ ((k : ℕ) × IsFirstWrongSplit m h n ss k)
splits-or-first m [] h n = inl tt
splits-or-first m (s ∷ ss) h n =
    elim (split-or-not m h n s) [
      | inl j ↦ elim (splits-or-first m ss (after_split n s h) (suc n)) [
        | inl a ↦ inl (j, a)
        | inr w ↦ inr (suc w.0, (j, w.1))
      ]
      | inr f ↦ inr (0, f)
    ]

-- each merge is right in its turn, or one is the first that is not
merges-or-first : (ms : List Merge) (h : Assignment) → MergeInTurn h ms ⊎ ((k : ℕ) × IsFirstWrongMerge h ms k)
merges-or-first [] h = inl tt
merges-or-first (m ∷ ms) h =
    elim (pair-or-not (G h) m.p m.q) [
      | inl i ↦ elim (merges-or-first ms (merge m.p m.q h)) [
        | inl a ↦ inl (i, a)
        | inr w ↦ inr (suc w.0, (i, w.1))
      ]
      | inr f ↦ inr (0, f)
    ]

-- some number, 2 or more, is above the ids of all events
pub bound-of : (es : List Event) → (n : ℕ) × (2 ≤ n) × AllByRecursion (λ e. e.id < n) es
bound-of [] = (2, omega arith, tt)
bound-of (e ∷ es) =
    let r : (n : ℕ) × (2 ≤ n) × AllByRecursion (λ e. e.id < n) es = bound-of es in (
      r.0 + suc e.id,
      (let l : 2 ≤ r.0 = r.1 in omega arith),
      (
        omega arith,
        all_from (λ d. d.id < r.0 + suc e.id) es (λ d i. (let l : d.id < r.0 = all_in (λ x. x.id < r.0) d es r.2 i in omega arith)),
      ),
    )

-- partitions with the same id, type and count are the same
same-partition : (x y : Partition) → x.id ≡ y.id → x.typ ≡ y.typ → x.count ≡ y.count → x ≡ y
same-partition x y e f g = λ d. record { id = e d; typ = f d; count = g d }

-- two partitions are the same or not
partition-or-not : (x y : Partition) → OrNot (x ≡ y)
partition-or-not x y =
    elim (both (cases_eq x.id y.id) (both (cases_eq x.typ y.typ) (cases_eq x.count y.count))) [
      | inl a ↦ inl (same-partition x y a.0 a.1.0 a.1.1)
      | inr f ↦ inr (λ e. f (ap (λ (z : Partition). z.id) e, (ap (λ (z : Partition). z.typ) e, ap (λ (z : Partition). z.count) e)))
    ]

-- edges with the same ends and the same count are the same
same-edge : (x y : Edge) → x.from ≡ y.from → x.to ≡ y.to → x.count ≡ y.count → x ≡ y
same-edge x y e f g = λ d. record { from = e d; to = f d; count = g d }

-- two edges are the same or not
edge-or-not : (x y : Edge) → OrNot (x ≡ y)
edge-or-not x y =
    elim (both (cases_eq x.from y.from) (both (cases_eq x.to y.to) (cases_eq x.count y.count))) [
      | inl a ↦ inl (same-edge x y a.0 a.1.0 a.1.1)
      | inr f ↦ inr (λ e. f (ap (λ (z : Edge). z.from) e, (ap (λ (z : Edge). z.to) e, ap (λ (z : Edge). z.count) e)))
    ]

-- the lists of the model are those of an assignment or not
graph-or-not : (m : Model) (h : Assignment) → OrNot (IsGraphOf m h)
graph-or-not m h =
    let b : (n : ℕ) × (2 ≤ n) × AllByRecursion (λ e. e.id < n) (events h) = bound-of (events h) in
    let ps : ArePartitions (partitions_below b.0 h) h = are_partitions h b.0 b.1 b.2 in
    let es : AreEdges (edges_below b.0 h) h = are_edges h b.0 b.1 b.2 in
    elim (both (same-or-not partition-or-not m.partitions (partitions_below b.0 h)) (same-or-not edge-or-not m.edges (edges_below b.0 h))) [
      | inl a ↦ inl (record {
        partitions = subst (λ (xs : List Partition). ArePartitions xs h) (sym a.0) ps;
        edges = subst (λ (xs : List Edge). AreEdges xs h) (sym a.1) es;
      })
      | inr f ↦ inr (λ g. f (one-partitions h m.partitions (partitions_below b.0 h) g.partitions ps, one-edges h m.edges (edges_below b.0 h) g.edges es))
    ]

-- a history is justified, or some step of it fails first
pub first_step_exists : FirstStepExists
first_step_exists m log =
    elim (same-or-not (same-or-not number-or-not) m.types log.types) [
      | inr f ↦ inr (step.Types, f)
      | inl t ↦ elim (splits-or-first m m.splits (by_type log.words) (first_new log)) [
        | inr w ↦ inr (step.Split w.0, (t, w.1))
        | inl ss ↦ elim (merges-or-first m.merges (refined_by m log)) [
          | inr w ↦ inr (step.Merge w.0, (t, ss, w.1))
          | inl ms ↦ elim (graph-or-not m (replayed m log)) [
            | inr f ↦ inr (step.Graph, (t, ss, ms, f))
            | inl g ↦ inl (record { types = t; splits = ss; merges = ms; graph = g })
          ]
        ]
      ]
    ]

-- where a split is the first that is not right, not all are right
wrong-split : (m : Model) (ss : List Split) (h : Assignment) (n k : ℕ) → IsFirstWrongSplit m h n ss k → SplitInTurn m h n ss → ⊥
wrong-split m [] h n k w r = w
wrong-split m (s ∷ ss) h n zero w r = w r.0
wrong-split m (s ∷ ss) h n (suc k) w r = wrong-split m ss (after_split n s h) (suc n) k w.1 r.1

-- where a merge is the first that is not right, not all are right
wrong-merge : (ms : List Merge) (h : Assignment) (k : ℕ) → IsFirstWrongMerge h ms k → MergeInTurn h ms → ⊥
wrong-merge [] h k w r = w
wrong-merge (m ∷ ms) h zero w r = w r.0
wrong-merge (m ∷ ms) h (suc k) w r = wrong-merge ms (merge m.p m.q h) k w.1 r.1

-- where some step fails first, the history is not justified
pub first_step_fails : FirstStepFails
first_step_fails m log step.Types f j = f j.types
first_step_fails m log (step.Split k) f j = wrong-split m m.splits (by_type log.words) (first_new log) k f.1 j.splits
first_step_fails m log (step.Merge k) f j = wrong-merge m.merges (refined_by m log) k f.2 j.merges
first_step_fails m log step.Graph f j = f.3 j.graph

-- no two splits are the first that is not right
one-split : (m : Model) (ss : List Split) (h : Assignment) (n j k : ℕ) → IsFirstWrongSplit m h n ss j → IsFirstWrongSplit m h n ss k → j ≡ k
one-split m [] h n j k a b = absurd a
one-split m (s ∷ ss) h n zero zero a b = refl
one-split m (s ∷ ss) h n zero (suc k) a b = absurd (a b.0)
one-split m (s ∷ ss) h n (suc j) zero a b = absurd (b a.0)
one-split m (s ∷ ss) h n (suc j) (suc k) a b = ap suc (one-split m ss (after_split n s h) (suc n) j k a.1 b.1)

-- no two merges are the first that is not right
one-merge : (ms : List Merge) (h : Assignment) (j k : ℕ) → IsFirstWrongMerge h ms j → IsFirstWrongMerge h ms k → j ≡ k
one-merge [] h j k a b = absurd a
one-merge (m ∷ ms) h zero zero a b = refl
one-merge (m ∷ ms) h zero (suc k) a b = absurd (a b.0)
one-merge (m ∷ ms) h (suc j) zero a b = absurd (b a.0)
one-merge (m ∷ ms) h (suc j) (suc k) a b = ap suc (one-merge ms (merge m.p m.q h) j k a.1 b.1)

-- no two steps fail first
pub one_first_step : OneFirstStep
one_first_step m log step.Types step.Types a b = refl
one_first_step m log step.Types y a b = absurd (a b.0)
one_first_step m log x step.Types a b = absurd (b a.0)
one_first_step m log (step.Split j) (step.Split k) a b = ap (λ (x : ℕ). step.Split x) (one-split m m.splits (by_type log.words) (first_new log) j k a.1 b.1)
one_first_step m log (step.Split j) y a b = absurd (wrong-split m m.splits (by_type log.words) (first_new log) j a.1 b.1)
one_first_step m log x (step.Split k) a b = absurd (wrong-split m m.splits (by_type log.words) (first_new log) k b.1 a.1)
one_first_step m log (step.Merge j) (step.Merge k) a b = ap (λ (x : ℕ). step.Merge x) (one-merge m.merges (refined_by m log) j k a.2 b.2)
one_first_step m log (step.Merge j) step.Graph a b = absurd (wrong-merge m.merges (refined_by m log) j a.2 b.2)
one_first_step m log step.Graph (step.Merge k) a b = absurd (wrong-merge m.merges (refined_by m log) k b.2 a.2)
one_first_step m log step.Graph step.Graph a b = refl
