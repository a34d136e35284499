-- One more id in the lists of partitions and edges.
use Rattle.std.proofs.Common.{◌≡◌, ℕ, ◌+◌, ◌<◌, Bool, true, false, List, [], ◌∷◌, ◌++◌, map, filter, ltb, ap, sym, ◌∙◌, append_assoc, zero-add, ◌≤◌}
use Rattle.std.proofs.lemmas.Bool.{lt-ltb, le-ltb}
use Rattle.std.proofs.lemmas.List.{map-append, map-id, append-nil}
use Rattle.std.proofs.lemmas.List.Concat.{flat_map-append}
use Rattle.std.proofs.lemmas.List.Elements.{filter-append}
use Rattle.std.proofs.lemmas.List.FromFn.{map-range_with_len_more}
use Rattle.std.specs.List.{flat_map}
use Rattle.invariants.specs.declared.records.Partition.{Partition}
use Rattle.invariants.specs.declared.records.Edge.{Edge}
use Rattle.partition_model.specs.Assignments.{Assignment, edge_count, size, type_of, is_live}
use Rattle.partition_model.specs.Listings.{ids_below, partition_of, partitions_below, edge_between, edges_from}

ids_more : (n : ℕ) → ids_below (n + 1) ≡ ids_below n ++ n ∷ []
ids_more n =
    sym (map-id (ids_below (n + 1))) ∙ map-range_with_len_more (λ x. x) 0 n n (zero-add n) ∙ ap (λ (ids : List ℕ). ids ++ n ∷ []) (map-id (ids_below n))

listed_more : {X : Type 0} (f : ℕ → X) (p : ℕ → Bool) (n : ℕ) → map f (filter p (ids_below (n + 1))) ≡ map f (filter p (ids_below n)) ++ map f (filter p (n ∷ []))
listed_more f p n =
    ap (λ (ids : List ℕ). map f (filter p ids)) (ids_more n) ∙ ap (λ (ids : List ℕ). map f ids) (filter-append p (ids_below n) (n ∷ []))
    ∙ map-append f (filter p (ids_below n)) (filter p (n ∷ []))

listed_one : {X : Type 0} (f : ℕ → X) (p : ℕ → Bool) (n : ℕ) → p n ≡ true → map f (filter p (n ∷ [])) ≡ f n ∷ []
listed_one f p n t = rw t

listed_none : {X : Type 0} (f : ℕ → X) (p : ℕ → Bool) (n : ℕ) → p n ≡ false → map f (filter p (n ∷ [])) ≡ []
listed_none f p n t = rw t

listed_in : {X : Type 0} (f : ℕ → X) (p : ℕ → Bool) (n : ℕ) → p n ≡ true → map f (filter p (ids_below (n + 1))) ≡ map f (filter p (ids_below n)) ++ f n ∷ []
listed_in f p n t = listed_more f p n ∙ ap (λ xs. map f (filter p (ids_below n)) ++ xs) (listed_one f p n t)

listed_out : {X : Type 0} (f : ℕ → X) (p : ℕ → Bool) (n : ℕ) → p n ≡ false → map f (filter p (ids_below (n + 1))) ≡ map f (filter p (ids_below n))
listed_out f p n t = listed_more f p n ∙ ap (λ xs. map f (filter p (ids_below n)) ++ xs) (listed_none f p n t) ∙ append-nil (map f (filter p (ids_below n)))

-- the partitions with one more id, which is live
pub live_more : (h : Assignment) (n t s : ℕ) (list more : List Partition) → is_live h n ≡ true → t ≡ type_of h n → s ≡ size h n → list ≡ partitions_below n h
    → more ≡ list ++ record { id = n; typ = t; count = s } ∷ [] → more ≡ partitions_below (n + 1) h
live_more h n t s list more l a b e m =
    let x : Partition = record { id = n; typ = t; count = s } in
    let y : x ≡ partition_of h n = ap (λ (k : ℕ). let z : Partition = record { id = n; typ = k; count = s } in z) a ∙ ap (λ (k : ℕ). let z : Partition = record { id = n; typ = type_of h n; count = k } in z) b in
    m ∙ ap (λ (xs : List Partition). xs ++ x ∷ []) e ∙ ap (λ (z : Partition). partitions_below n h ++ z ∷ []) y ∙ sym (listed_in (partition_of h) (is_live h) n l)

-- the partitions with one more id, which is not live
pub dead_more : (h : Assignment) (n : ℕ) (list : List Partition) → is_live h n ≡ false → list ≡ partitions_below n h → list ≡ partitions_below (n + 1) h
dead_more h n list l e = e ∙ sym (listed_out (partition_of h) (is_live h) n l)

-- the edges of an id with one more, whose count is above 0
pub edge_more : (h : Assignment) (p n c : ℕ) (before list more : List Edge) → 0 < c → c ≡ edge_count h p n → list ≡ before ++ edges_from n h p
    → more ≡ list ++ record { from = p; to = n; count = c } ∷ [] → more ≡ before ++ edges_from (n + 1) h p
edge_more h p n c before list more l a e m =
    let x : Edge = record { from = p; to = n; count = c } in
    let y : x ≡ edge_between h p n = ap (λ (k : ℕ). let z : Edge = record { from = p; to = n; count = k } in z) a in
    let t : ltb 0 (edge_count h p n) ≡ true = ap (λ (k : ℕ). ltb 0 k) (sym a) ∙ lt-ltb 0 c l in
    m ∙ ap (λ (xs : List Edge). xs ++ x ∷ []) e ∙ append_assoc before (edges_from n h p) (x ∷ []) ∙ ap (λ (z : Edge). before ++ (edges_from n h p ++ z ∷ [])) y
    ∙ ap (λ (xs : List Edge). before ++ xs) (sym (listed_in (edge_between h p) (λ q. ltb 0 (edge_count h p q)) n t))

-- the edges of an id where the next one has no count
pub no_edge_more : (h : Assignment) (p n c : ℕ) (before list : List Edge) → c ≤ 0 → c ≡ edge_count h p n → list ≡ before ++ edges_from n h p → list ≡ before ++ edges_from (n + 1) h p
no_edge_more h p n c before list l a e =
    let t : ltb 0 (edge_count h p n) ≡ false = ap (λ (k : ℕ). ltb 0 k) (sym a) ∙ le-ltb 0 c l in
    e ∙ ap (λ (xs : List Edge). before ++ xs) (sym (listed_out (edge_between h p) (λ q. ltb 0 (edge_count h p q)) n t))

-- the edges of one more id behind the others
pub edges_more : (h : Assignment) (u n : ℕ) (list more : List Edge) → list ≡ flat_map (edges_from u h) (ids_below n) → more ≡ list ++ edges_from u h n → more ≡ flat_map (edges_from u h) (ids_below (n + 1))
edges_more h u n list more e m =
    let f : flat_map (edges_from u h) (ids_below (n + 1)) ≡ flat_map (edges_from u h) (ids_below n) ++ edges_from u h n =
    ap (λ (ids : List ℕ). flat_map (edges_from u h) ids) (ids_more n) ∙ flat_map-append (edges_from u h) (ids_below n) (n ∷ [])
    ∙ ap (λ (xs : List Edge). flat_map (edges_from u h) (ids_below n) ++ xs) (append-nil (edges_from u h n)) in
    m ∙ ap (λ (xs : List Edge). xs ++ edges_from u h n) e ∙ sym f
