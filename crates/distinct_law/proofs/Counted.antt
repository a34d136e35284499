-- Partitions, edges and labels of a graph with the counts of another that has the same graph.
use Rattle.std.proofs.Common.{◌≡◌, ◌↔◌, ℕ, zero, suc, ◌+◌, ◌<◌, ◌≤◌, ◌==◌, nat_lt, Bool, true, false, cond, if◌then◌else◌, List, [], ◌∷◌, ◌++◌, map, length, count_by, sum_by, sym, ◌∙◌, refl, ap, ap₂, subst, subst₂, inl, inr, arith, ltb-true, lt-ltb, le-ltb, ne_eqb}
use Rattle.std.proofs.lemmas.Bool.{cases_lt}
use Rattle.std.proofs.lemmas.List.{length-map}
use Rattle.std.proofs.lemmas.List.Sums.{sum_by-cons, sum_by-append, sum_by_push}
use Rattle.invariants.specs.declared.Invariant.{Invariant}
use Rattle.invariants.specs.declared.records.Partition.{Partition}
use Rattle.invariants.specs.declared.records.Edge.{Edge}
use Rattle.invariants.specs.declared.records.Model.{Model}
use Rattle.partition_model.specs.Graphs.{Graph}
use Rattle.partition_model.specs.Assignments.{Event, Assignment, G, IsTyped, events, ids_of, id_list, pairs, edge_count, members, size, type_of, is_live}
use Rattle.partition_model.specs.Labels.{Reached}
use Rattle.partition_model.specs.Listings.{AscendIds, AscendEdges, ArePartitions, AreEdges, partition_of, edge_between}
use Rattle.partition_model.proofs.Lists.{In, In-map, map-In, all_in, all_from, bit, member-of}
use Rattle.partition_model.proofs.Listing.{Contains-In, In-Contains}
use Rattle.partition_model.proofs.Stitching.{id-high}
use Rattle.models.specs.Models.{has_state, label_at, AreReached}
use Rattle.infer_core.proofs.Sharing.{Alike, event-over}
use Rattle.distinct_law.specs.Words.{path_by, visits}
use Rattle.distinct_law.proofs.Leading.{led, path-led}
use Rattle.distinct_law.proofs.Sums.{sum-map, sum-same}

-- one for each trace, where the end is meant
abbrev ends : Bool → Assignment → ℕ
ends b h = if b then length h else 0

ends-cons : (b : Bool) (t : List Event) (h : Assignment) → ends b (t ∷ h) ≡ bit b + ends b h
ends-cons true t h = omega arith
ends-cons false t h = refl

ends-none : (b : Bool) → ends b [] ≡ 0
ends-none true = refl
ends-none false = refl

-- a path visits an id at its ends and at its events
visits-of : (p : ℕ) (t : List Event) → visits p (id_list t) ≡ bit (0 == p) + count_by (λ e. e.id == p) t + bit (1 == p)
visits-of p t =
    let a : visits p (id_list t) ≡ bit (0 == p) + sum_by (λ (x : ℕ). cond (x == p) 1 0) (ids_of t ++ 1 ∷ []) = sum_by-cons (λ (x : ℕ). cond (x == p) 1 0) 0 (ids_of t ++ 1 ∷ []) in
    let b : sum_by (λ (x : ℕ). cond (x == p) 1 0) (ids_of t ++ 1 ∷ []) ≡ sum_by (λ (x : ℕ). cond (x == p) 1 0) (ids_of t) + bit (1 == p) = sum_by_push (λ (x : ℕ). cond (x == p) 1 0) (ids_of t) 1 in
    let c : sum_by (λ (x : ℕ). cond (x == p) 1 0) (ids_of t) ≡ count_by (λ (e : Event). e.id == p) t = sum-map (λ (x : ℕ). cond (x == p) 1 0) (λ (e : Event). e.id) t in
    omega arith

-- the events of an id in one trace and in the others
members-cons : (p : ℕ) (t : List Event) (h : Assignment) → members (t ∷ h) p ≡ count_by (λ e. e.id == p) t + members h p
members-cons p t h = sum_by-append (λ (e : Event). cond (e.id == p) 1 0) t (events h)

-- all paths together
all-visits : (p : ℕ) (h : Assignment) → sum_by (λ t. visits p (id_list t)) h ≡ ends (0 == p) h + members h p + ends (1 == p) h
all-visits p [] =
    let a : ends (0 == p) [] ≡ 0 = ends-none (0 == p) in
    let b : ends (1 == p) [] ≡ 0 = ends-none (1 == p) in
    omega arith
all-visits p (t ∷ h) =
    let s : sum_by (λ (t : List Event). visits p (id_list t)) (t ∷ h) ≡ visits p (id_list t) + sum_by (λ (t : List Event). visits p (id_list t)) h = sum_by-cons (λ (t : List Event). visits p (id_list t)) t h in
    let v : visits p (id_list t) ≡ bit (0 == p) + count_by (λ (e : Event). e.id == p) t + bit (1 == p) = visits-of p t in
    let i : sum_by (λ (t : List Event). visits p (id_list t)) h ≡ ends (0 == p) h + members h p + ends (1 == p) h = all-visits p h in
    let m : members (t ∷ h) p ≡ count_by (λ (e : Event). e.id == p) t + members h p = members-cons p t h in
    let a : ends (0 == p) (t ∷ h) ≡ bit (0 == p) + ends (0 == p) h = ends-cons (0 == p) t h in
    let b : ends (1 == p) (t ∷ h) ≡ bit (1 == p) + ends (1 == p) h = ends-cons (1 == p) t h in
    omega arith

-- no event has the id of an end
no-member : (h : Assignment) (p : ℕ) → IsTyped h → p < 2 → members h p ≡ 0
no-member h p t l =
    elim (cases_lt 0 (members h p)) [
      | inl k ↦
          let o : (e : Event) × In e (events h) × (e.id ≡ p) = member-of p (events h) k in
          let a : 2 ≤ o.0.id = id-high h t o.0 o.1 in
          let b : o.0.id ≡ p = o.2 in
          absurd (omega arith)
      | inr k ↦ omega arith
    ]

-- an end that is not meant counts nothing
no-end : (end p : ℕ) (h : Assignment) → end < p → ends (end == p) h ≡ 0
no-end end p h l = ap (λ (b : Bool). ends b h) (ne_eqb end p (λ e. absurd (omega arith)))

-- the size of an id is how often all paths visit it
size-visits : (p : ℕ) (h : Assignment) → IsTyped h → ends (0 == p) h + members h p + ends (1 == p) h ≡ size h p
size-visits zero h t = let m : members h 0 ≡ 0 = no-member h 0 t (omega arith) in omega arith
size-visits (suc zero) h t = let m : members h 1 ≡ 0 = no-member h 1 t (omega arith) in omega arith
size-visits (suc (suc p)) h t =
    let f : nat_lt (suc (suc p)) 2 ≡ false = le-ltb (suc (suc p)) 2 (omega arith) in
    let s : size h (suc (suc p)) ≡ members h (suc (suc p)) = ap (λ (b : Bool). if b then length h else members h (suc (suc p))) f in
    let a : ends (0 == suc (suc p)) h ≡ 0 = no-end 0 (suc (suc p)) h (omega arith) in
    let b : ends (1 == suc (suc p)) h ≡ 0 = no-end 1 (suc (suc p)) h (omega arith) in
    omega arith

-- a sum over the paths of words is one over the traces to which they are led
along-paths : (m : Model) (f : List ℕ → ℕ) (words : List (List ℕ)) → sum_by (λ w. f (path_by m w)) words ≡ sum_by (λ t. f (id_list t)) (map (led m) words)
along-paths m f words =
    sum-same (λ (w : List ℕ). f (path_by m w)) (λ (w : List ℕ). f (id_list (led m w))) words (λ w. ap f (path-led m w))
    ∙ sym (sum-map (λ (t : List Event). f (id_list t)) (led m) words)

-- so the paths of words give sizes
pub sizes-along : (m : Model) (words : List (List ℕ)) (p : ℕ) → IsTyped (map (led m) words) → sum_by (λ w. visits p (path_by m w)) words ≡ size (map (led m) words) p
sizes-along m words p t = along-paths m (visits p) words ∙ all-visits p (map (led m) words) ∙ size-visits p (map (led m) words) t

-- and counts of edges
pub edges-along : (m : Model) (words : List (List ℕ)) (p q : ℕ) → sum_by (λ w. pairs p q (path_by m w)) words ≡ edge_count (map (led m) words) p q
edges-along m words p q = along-paths m (pairs p q) words

-- one graph has one type for each id, the same live ids and the same edges
same-type : (h k : Assignment) → G h ≡ G k → (p : ℕ) → type_of h p ≡ type_of k p
same-type h k g p = ap (λ (x : Graph). x.typ p) g

same-live : (h k : Assignment) → G h ≡ G k → (p : ℕ) → is_live h p ≡ is_live k p
same-live h k g p = ap (λ (x : Graph). x.listed p) g

same-edge : (h k : Assignment) → G h ≡ G k → (p q : ℕ) → 0 < edge_count h p q → 0 < edge_count k p q
same-edge h k g p q l = ltb-true 0 (edge_count k p q) (sym (ap (λ (x : Graph). x.edge p q) g) ∙ lt-ltb 0 (edge_count h p q) l)

-- traces that are like typed ones are typed
pub typed-alike : (h k : Assignment) → Alike h k → G h ≡ G k → IsTyped h → IsTyped k
typed-alike h k a g t =
    all_from (λ (e : Event). (2 ≤ e.id) × (e.typ ≡ type_of k e.id)) (events k) (λ e i.
    let u : (2 ≤ e.id) × (e.typ ≡ type_of h e.id) = all_in (λ (e : Event). (2 ≤ e.id) × (e.typ ≡ type_of h e.id)) e (events h) t (event-over k h a.from e i) in
    (u.0, u.1 ∙ same-type h k g e.id))

-- a partition with the size of its id
abbrev pub resized : (ℕ → ℕ) → Partition → Partition
resized f x = record x { count = f x.id }

-- an edge with the count of its two ids
abbrev pub recounted : (ℕ → ℕ → ℕ) → Edge → Edge
recounted f x = record x { count = f x.from x.to }

resized-ascend : (f : ℕ → ℕ) (low : ℕ) (xs : List Partition) → AscendIds low xs → AscendIds low (map (resized f) xs)
resized-ascend f low [] a = tt
resized-ascend f low (x ∷ xs) a = (a.0, resized-ascend f (suc x.id) xs a.1)

recounted-ascend : (f : ℕ → ℕ → ℕ) (p q : ℕ) (xs : List Edge) → AscendEdges p q xs → AscendEdges p q (map (recounted f) xs)
recounted-ascend f p q [] a = tt
recounted-ascend f p q (x ∷ xs) a = (a.0, recounted-ascend f x.from (suc x.to) xs a.1)

-- a partition of the first, with its size in the second, is one of the second
resized-is : (f : ℕ → ℕ) (h k : Assignment) (x : Partition) → G h ≡ G k → ((p : ℕ) → f p ≡ size k p) → x ≡ partition_of h x.id → resized f x ≡ partition_of k x.id
resized-is f h k x g s e =
    let u : x.typ ≡ type_of k x.id = ap (λ (z : Partition). z.typ) e ∙ same-type h k g x.id in
    let v : f x.id ≡ size k x.id = s x.id in
    λ d. record { id = x.id; typ = u d; count = v d }

-- the partitions of the first, each with its size in the second, are those of the second
pub resized-partitions : (f : ℕ → ℕ) (h k : Assignment) (xs : List Partition) → G h ≡ G k → ((p : ℕ) → f p ≡ size k p) → ArePartitions xs h → ArePartitions (map (resized f) xs) k
resized-partitions f h k xs g s a =
    record {
      order = resized-ascend f 0 xs a.order;
      members = λ x. (
        λ c.
            let o : (y : Partition) × In y xs × (resized f y ≡ x) = In-map (resized f) x xs (In-Contains (map (resized f) xs) x c) in
            let m : (is_live h o.0.id ≡ true) × (o.0 ≡ partition_of h o.0.id) = (a.members o.0).0 (Contains-In o.0 xs o.1) in
            let i : o.0.id ≡ x.id = ap (λ (z : Partition). z.id) o.2 in (
              subst (λ (p : ℕ). is_live k p ≡ true) i (sym (same-live h k g o.0.id) ∙ m.0),
              sym o.2 ∙ resized-is f h k o.0 g s m.1 ∙ ap (λ (p : ℕ). partition_of k p) i,
            ),
        λ c.
            let y : Partition = partition_of h x.id in
            let i : In y xs = In-Contains xs y ((a.members y).1 (same-live h k g x.id ∙ c.0, refl)) in
            let e : resized f y ≡ x = resized-is f h k y g s refl ∙ sym c.1 in
            Contains-In x (map (resized f) xs) (subst (λ (z : Partition). In z (map (resized f) xs)) e (map-In (resized f) y xs i)),
      );
    }

-- an edge of the first, with its count in the second, is one of the second
recounted-is : (f : ℕ → ℕ → ℕ) (h k : Assignment) (x : Edge) → ((p q : ℕ) → f p q ≡ edge_count k p q) → recounted f x ≡ edge_between k x.from x.to
recounted-is f h k x s =
    let v : f x.from x.to ≡ edge_count k x.from x.to = s x.from x.to in
    λ d. record { from = x.from; to = x.to; count = v d }

-- the edges of the first, each with its count in the second, are those of the second
pub recounted-edges : (f : ℕ → ℕ → ℕ) (h k : Assignment) (xs : List Edge) → G h ≡ G k → ((p q : ℕ) → f p q ≡ edge_count k p q) → AreEdges xs h → AreEdges (map (recounted f) xs) k
recounted-edges f h k xs g s a =
    record {
      order = recounted-ascend f 0 0 xs a.order;
      members = λ x. (
        λ c.
            let o : (y : Edge) × In y xs × (recounted f y ≡ x) = In-map (recounted f) x xs (In-Contains (map (recounted f) xs) x c) in
            let m : (0 < o.0.count) × (o.0 ≡ edge_between h o.0.from o.0.to) = (a.members o.0).0 (Contains-In o.0 xs o.1) in
            let n : 0 < edge_count h o.0.from o.0.to = subst (λ (z : ℕ). 0 < z) (ap (λ (z : Edge). z.count) m.1) m.0 in
            let e : x ≡ edge_between k o.0.from o.0.to = sym o.2 ∙ recounted-is f h k o.0 s in
            let l : 0 < x.count = subst (λ (z : ℕ). 0 < z) (sym (ap (λ (z : Edge). z.count) e)) (same-edge h k g o.0.from o.0.to n) in
            (l, e ∙ ap₂ (λ (p q : ℕ). edge_between k p q) (ap (λ (z : Edge). z.from) o.2) (ap (λ (z : Edge). z.to) o.2)),
        λ c.
            let y : Edge = edge_between h x.from x.to in
            let n : 0 < edge_count k x.from x.to = subst (λ (z : ℕ). 0 < z) (ap (λ (z : Edge). z.count) c.1) c.0 in
            let i : In y xs = In-Contains xs y ((a.members y).1 (same-edge k h (sym g) x.from x.to n, refl)) in
            let e : recounted f y ≡ x = recounted-is f h k y s ∙ sym c.1 in
            Contains-In x (map (recounted f) xs) (subst (λ (z : Edge). In z (map (recounted f) xs)) e (map-In (recounted f) y xs i)),
      );
    }

-- the label of an id stands where it stood
label-stays : (f : ℕ → ℕ) (p : ℕ) (xs : List Partition) (labels : List ℕ) → label_at p (map (resized f) xs) labels ≡ label_at p xs labels
label-stays f p [] labels = refl
label-stays f p (x ∷ xs) [] = refl
label-stays f p (x ∷ xs) (label ∷ labels) = ap (λ (n : ℕ). if x.id == p then label else n) (label-stays f p xs labels)

-- the labels of the first are those of the second
pub labels-stay : (f : ℕ → ℕ) (inv : Invariant) (h k : Assignment) (xs : List Partition) (labels : List ℕ) → G h ≡ G k → AreReached inv h xs labels → AreReached inv k (map (resized f) xs) labels
labels-stay f inv h k xs labels g r =
    record {
      count = r.count ∙ sym (length-map xs (resized f));
      each = r.each;
      states = λ p s l m.
          subst₂ (λ (label : ℕ) (x : Graph). (has_state label s ≡ true) ↔ Reached inv x p s) (sym (label-stays f p xs labels)) g
          (r.states p s (same-live h k g p ∙ l) m);
    }
