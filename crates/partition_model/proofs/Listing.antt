-- The lists of partitions and of edges have each of them once, in order.
use Rattle.std.proofs.Common.{◌≡◌, ◌⊎◌, ℕ, zero, suc, ◌+◌, ◌<◌, ◌≤◌, nat_lt, Bool, true, cond, List, [], ◌∷◌, ◌++◌, map, filter, length, slice_index_or, Contains, sym, ◌∙◌, refl, ap, ap₂, subst, inl, inr, arith, add-one, lt-ltb, ltb-true}
use Rattle.std.proofs.lemmas.Bool.{cases_Bool, cases_lt}
use Rattle.std.specs.List.{flat_map, range_with_len}
use Rattle.invariants.specs.declared.records.Partition.{Partition}
use Rattle.invariants.specs.declared.records.Edge.{Edge}
use Rattle.partition_model.specs.Assignments.{Event, Assignment, events, edge_count, is_live, id_list, ids_of, pairs}
use Rattle.partition_model.specs.Listings.{ids_below, partition_of, partitions_below, edge_between, edges_from, edges_below, AreBelow, AscendIds, AscendEdges, ArePartitions, AreEdges, ListingsTell}
use Rattle.partition_model.proofs.Lists.{In, In-append, In-append_left, In-append_right, In-map, map-In, In-events, all_in, edge-In, pairs-In, pairs-first}
use Rattle.partition_model.proofs.Passes.{live-member}

-- a member has a place
pub Contains-In : {X : Type 0} (x : X) (xs : List X) → In x xs → Contains xs x
Contains-In x [] i = absurd i
Contains-In x (y ∷ xs) (inl e) = (0, omega arith, e)
Contains-In x (y ∷ xs) (inr r) = let o : Contains xs x = Contains-In x xs r in (suc o.0, omega (arith, o.1), o.2)

-- what stands at a place is a member
In-place : {X : Type 0} (xs : List X) (k : ℕ) (x : X) → k < length xs → slice_index_or xs k x ≡ x → In x xs
In-place [] k x l e = absurd (omega arith)
In-place (y ∷ xs) zero x l e = inl e
In-place (y ∷ xs) (suc k) x l e = inr (In-place xs k x (omega arith) e)

-- what has a place is a member
pub In-Contains : {X : Type 0} (xs : List X) (x : X) → Contains xs x → In x xs
In-Contains xs x c = In-place xs c.0 x c.1 c.2

-- a member of a filtered list is one of the list, and passes
pub In-filter : {X : Type 0} (p : X → Bool) (x : X) (xs : List X) → In x (filter p xs) → In x xs × (p x ≡ true)
In-filter p x [] i = absurd i
In-filter {X} p x (y ∷ xs) i =
    elim (cases_Bool (p y)) [
      | inl t ↦
          let j : In x (y ∷ filter p xs) = subst (λ (b : Bool). In x (cond b (y ∷ filter p xs) (filter p xs))) t i in
          elim j [
            | inl e ↦ (inl e, subst (λ (z : X). p z ≡ true) e t)
            | inr r ↦ let o : In x xs × (p x ≡ true) = In-filter p x xs r in (inr o.0, o.1)
          ]
      | inr f ↦
          let j : In x (filter p xs) = subst (λ (b : Bool). In x (cond b (y ∷ filter p xs) (filter p xs))) f i in
          let o : In x xs × (p x ≡ true) = In-filter p x xs j in
          (inr o.0, o.1)
    ]

-- a member that passes is in the filtered list
pub filter-In : {X : Type 0} (p : X → Bool) (x : X) (xs : List X) → In x xs → p x ≡ true → In x (filter p xs)
filter-In p x [] i t = absurd i
filter-In {X} p x (y ∷ xs) (inl e) t =
    subst (λ (b : Bool). In x (cond b (y ∷ filter p xs) (filter p xs))) (sym (ap p e ∙ t)) (inl e)
filter-In {X} p x (y ∷ xs) (inr r) t =
    elim (cases_Bool (p y)) [
      | inl a ↦ subst (λ (b : Bool). In x (cond b (y ∷ filter p xs) (filter p xs))) (sym a) (inr (filter-In p x xs r t))
      | inr a ↦ subst (λ (b : Bool). In x (cond b (y ∷ filter p xs) (filter p xs))) (sym a) (filter-In p x xs r t)
    ]

-- a member of lists joined end to end is in one of them
pub In-flat_map : {X Y : Type 0} (f : X → List Y) (y : Y) (xs : List X) → In y (flat_map f xs) → (x : X) × In x xs × In y (f x)
In-flat_map f y [] i = absurd i
In-flat_map {X} f y (x ∷ xs) i =
    elim (In-append y (f x) (flat_map f xs) i) [
      | inl a ↦ (x, inl refl, a)
      | inr b ↦ let o : (z : X) × In z xs × In y (f z) = In-flat_map f y xs b in (o.0, inr o.1, o.2)
    ]

-- a member of one of the lists is in what they are joined to
pub flat_map-In : {X Y : Type 0} (f : X → List Y) (y : Y) (x : X) (xs : List X) → In x xs → In y (f x) → In y (flat_map f xs)
flat_map-In f y x [] i j = absurd i
flat_map-In {X} f y x (z ∷ xs) (inl e) j = In-append_left y (f z) (flat_map f xs) (subst (λ (w : X). In y (f w)) (sym e) j)
flat_map-In f y x (z ∷ xs) (inr r) j = In-append_right y (f z) (flat_map f xs) (flat_map-In f y x xs r j)

-- a number from a on, and no further than the range goes, is in it
pub range-In : (a m x : ℕ) → a ≤ x → x < a + m → In x (range_with_len a m)
range-In a zero x l k = absurd (omega arith)
range-In a (suc m) x l k =
    elim (cases_lt a x) [
      | inl o ↦ inr (range-In (a + 1) m x (omega arith) (omega arith))
      | inr o ↦ inl (omega arith)
    ]

-- the ids of a trace's list are below the bound
below-of : (h : Assignment) (n : ℕ) → 2 ≤ n → AreBelow n h → (trace : List Event) → In trace h → (x : ℕ) → In x (id_list trace) → x < n
below-of h n l b trace i x (inl e) = omega arith
below-of h n l b trace i x (inr k) =
    elim (In-append x (ids_of trace) (1 ∷ []) k) [
      | inl a ↦
          let o : (e : Event) × In e trace × (e.id ≡ x) = In-map (λ e. e.id) x trace a in
          subst (λ (z : ℕ). z < n) o.2 (all_in (λ e. e.id < n) o.0 (events h) b (In-events o.0 trace h i o.1))
      | inr c ↦ elim c [ inl e ↦ omega arith | inr z ↦ absurd z ]
    ]

-- live ids are below the bound
pub live-below : (h : Assignment) (n p : ℕ) → 2 ≤ n → AreBelow n h → is_live h p ≡ true → p < n
live-below h n p l b k =
    elim (cases_lt p 2) [
      | inl s ↦ omega arith
      | inr s ↦
          let o : (e : Event) × In e (events h) × (e.id ≡ p) = live-member h p s k in
          subst (λ (z : ℕ). z < n) o.2 (all_in (λ e. e.id < n) o.0 (events h) b o.1)
    ]

-- partitions that ascend from b on ascend from each lower number on
ascend-lower : (a b : ℕ) (xs : List Partition) → a ≤ b → AscendIds b xs → AscendIds a xs
ascend-lower a b [] l s = tt
ascend-lower a b (x ∷ xs) l s = (let k : b ≤ x.id = s.0 in omega arith, s.1)

-- the live ids from a on give partitions that ascend
partitions-ascend : (h : Assignment) (a m : ℕ) → AscendIds a (map (partition_of h) (filter (is_live h) (range_with_len a m)))
partitions-ascend h a zero = tt
partitions-ascend h a (suc m) =
    let i : AscendIds (a + 1) (map (partition_of h) (filter (is_live h) (range_with_len (a + 1) m))) = partitions-ascend h (a + 1) m in
    elim (cases_Bool (is_live h a)) [
      | inl t ↦
          subst (λ (b : Bool). AscendIds a (map (partition_of h) (cond b (a ∷ filter (is_live h) (range_with_len (a + 1) m)) (filter (is_live h) (range_with_len (a + 1) m))))) (sym t)
          (omega arith, subst (λ (z : ℕ). AscendIds z (map (partition_of h) (filter (is_live h) (range_with_len (a + 1) m)))) (add-one a) i)
      | inr f ↦
          subst (λ (b : Bool). AscendIds a (map (partition_of h) (cond b (a ∷ filter (is_live h) (range_with_len (a + 1) m)) (filter (is_live h) (range_with_len (a + 1) m))))) (sym f)
          (ascend-lower a (a + 1) (map (partition_of h) (filter (is_live h) (range_with_len (a + 1) m))) (omega arith) i)
    ]

-- the list has the partitions of the assignment, once each, ascending
pub are_partitions : (h : Assignment) (n : ℕ) → 2 ≤ n → AreBelow n h → ArePartitions (partitions_below n h) h
are_partitions h n l b =
    record {
      order = partitions-ascend h 0 n;
      members = λ x. (
        λ c.
            let o : (p : ℕ) × In p (filter (is_live h) (ids_below n)) × (partition_of h p ≡ x) = In-map (partition_of h) x (filter (is_live h) (ids_below n)) (In-Contains (partitions_below n h) x c) in
            let f : In o.0 (ids_below n) × (is_live h o.0 ≡ true) = In-filter (is_live h) o.0 (ids_below n) o.1 in
            let e : o.0 ≡ x.id = ap (λ (z : Partition). z.id) o.2 in
            (subst (λ (z : ℕ). is_live h z ≡ true) e f.1, sym o.2 ∙ ap (partition_of h) e),
        λ c.
            let k : x.id < n = live-below h n x.id l b c.0 in
            let i : In x.id (filter (is_live h) (ids_below n)) = filter-In (is_live h) x.id (ids_below n) (range-In 0 n x.id (omega arith) (omega arith)) c.0 in
            Contains-In x (partitions_below n h) (subst (λ (z : Partition). In z (partitions_below n h)) (sym c.1) (map-In (partition_of h) x.id (filter (is_live h) (ids_below n)) i)),
      );
    }

-- edges that ascend from a pair on ascend from each smaller pair on
edges-lower : (p q r s : ℕ) (xs : List Edge) → (p < r) ⊎ ((p ≡ r) × (q ≤ s)) → AscendEdges r s xs → AscendEdges p q xs
edges-lower p q r s [] l a = tt
edges-lower p q r s (x ∷ xs) l a = (lower l a.0, a.1)
  where
    lower : (p < r) ⊎ ((p ≡ r) × (q ≤ s)) → (r < x.from) ⊎ ((r ≡ x.from) × (s ≤ x.to)) → (p < x.from) ⊎ ((p ≡ x.from) × (q ≤ x.to))
    lower (inl u) (inl v) = inl (omega arith)
    lower (inl u) (inr v) = inl (omega arith)
    lower (inr u) (inl v) = inl (omega arith)
    lower (inr u) (inr v) = inr (u.0 ∙ v.0, omega arith)

-- the edges from one id ascend, and then those behind them
edges-then : (h : Assignment) (p a m : ℕ) (more : List Edge) → AscendEdges (suc p) 0 more
    → AscendEdges p a (map (edge_between h p) (filter (λ q. nat_lt 0 (edge_count h p q)) (range_with_len a m)) ++ more)
edges-then h p a zero more s = edges-lower p a (suc p) 0 more (inl (omega arith)) s
edges-then h p a (suc m) more s =
    let rest : List ℕ = filter (λ q. nat_lt 0 (edge_count h p q)) (range_with_len (a + 1) m) in
    let i : AscendEdges p (a + 1) (map (edge_between h p) (filter (λ q. nat_lt 0 (edge_count h p q)) (range_with_len (a + 1) m)) ++ more) = edges-then h p (a + 1) m more s in
    elim (cases_Bool (nat_lt 0 (edge_count h p a))) [
      | inl t ↦
          subst (λ (b : Bool). AscendEdges p a (map (edge_between h p) (cond b (a ∷ filter (λ q. nat_lt 0 (edge_count h p q)) (range_with_len (a + 1) m)) (filter (λ q. nat_lt 0 (edge_count h p q)) (range_with_len (a + 1) m))) ++ more)) (sym t)
          (inr (refl, omega arith), subst (λ (z : ℕ). AscendEdges p z (map (edge_between h p) (filter (λ q. nat_lt 0 (edge_count h p q)) (range_with_len (a + 1) m)) ++ more)) (add-one a) i)
      | inr f ↦
          subst (λ (b : Bool). AscendEdges p a (map (edge_between h p) (cond b (a ∷ filter (λ q. nat_lt 0 (edge_count h p q)) (range_with_len (a + 1) m)) (filter (λ q. nat_lt 0 (edge_count h p q)) (range_with_len (a + 1) m))) ++ more)) (sym f)
          (edges-lower p a p (a + 1) (map (edge_between h p) (filter (λ q. nat_lt 0 (edge_count h p q)) (range_with_len (a + 1) m)) ++ more) (inr (refl, omega arith)) i)
    ]

-- the edges from one id after another ascend
edges-ascend : (h : Assignment) (n a m : ℕ) → AscendEdges a 0 (flat_map (edges_from n h) (range_with_len a m))
edges-ascend h n a zero = tt
edges-ascend h n a (suc m) =
    let i : AscendEdges (a + 1) 0 (flat_map (edges_from n h) (range_with_len (a + 1) m)) = edges-ascend h n (a + 1) m in
    edges-then h a 0 n (flat_map (edges_from n h) (range_with_len (a + 1) m))
    (subst (λ (z : ℕ). AscendEdges z 0 (flat_map (edges_from n h) (range_with_len (a + 1) m))) (add-one a) i)

-- the list has the edges of the assignment, once each, ascending
pub are_edges : (h : Assignment) (n : ℕ) → 2 ≤ n → AreBelow n h → AreEdges (edges_below n h) h
are_edges h n l b =
    record {
      order = edges-ascend h n 0 n;
      members = λ x. (
        λ c.
            let o : (p : ℕ) × In p (ids_below n) × In x (edges_from n h p) = In-flat_map (edges_from n h) x (ids_below n) (In-Contains (edges_below n h) x c) in
            let m : (q : ℕ) × In q (filter (λ q. nat_lt 0 (edge_count h o.0 q)) (ids_below n)) × (edge_between h o.0 q ≡ x) = In-map (edge_between h o.0) x (filter (λ q. nat_lt 0 (edge_count h o.0 q)) (ids_below n)) o.2 in
            let f : In m.0 (ids_below n) × (nat_lt 0 (edge_count h o.0 m.0) ≡ true) = In-filter (λ q. nat_lt 0 (edge_count h o.0 q)) m.0 (ids_below n) m.1 in
            let k : 0 < edge_count h o.0 m.0 = ltb-true 0 (edge_count h o.0 m.0) f.1 in
            let e : edge_count h o.0 m.0 ≡ x.count = ap (λ (z : Edge). z.count) m.2 in
            let u : o.0 ≡ x.from = ap (λ (z : Edge). z.from) m.2 in
            let v : m.0 ≡ x.to = ap (λ (z : Edge). z.to) m.2 in
            (subst (λ (z : ℕ). 0 < z) e k, sym m.2 ∙ ap₂ (λ (y z : ℕ). edge_between h y z) u v),
        λ c.
            let e : x.count ≡ edge_count h x.from x.to = ap (λ (z : Edge). z.count) c.1 in
            let k : 0 < edge_count h x.from x.to = subst (λ (z : ℕ). 0 < z) e c.0 in
            let t : nat_lt 0 (edge_count h x.from x.to) ≡ true = lt-ltb 0 (edge_count h x.from x.to) k in
            let o : (trace : List Event) × In trace h × (0 < pairs x.from x.to (id_list trace)) = edge-In x.from x.to h t in
            let u : x.from < n = below-of h n l b o.0 o.1 x.from (pairs-first x.from x.to (id_list o.0) o.2) in
            let v : x.to < n = below-of h n l b o.0 o.1 x.to (inr (pairs-In x.from x.to 0 (ids_of o.0 ++ 1 ∷ []) o.2)) in
            let i : In x.to (filter (λ q. nat_lt 0 (edge_count h x.from q)) (ids_below n)) = filter-In (λ q. nat_lt 0 (edge_count h x.from q)) x.to (ids_below n) (range-In 0 n x.to (omega arith) (omega arith)) t in
            let j : In (edge_between h x.from x.to) (edges_from n h x.from) = map-In (edge_between h x.from) x.to (filter (λ q. nat_lt 0 (edge_count h x.from q)) (ids_below n)) i in
            let w : In (edge_between h x.from x.to) (edges_below n h) = flat_map-In (edges_from n h) (edge_between h x.from x.to) x.from (ids_below n) (range-In 0 n x.from (omega arith) (omega arith)) j in
            Contains-In x (edges_below n h) (subst (λ (z : Edge). In z (edges_below n h)) (sym c.1) w),
      );
    }

-- where ids are below n, the lists have all partitions and all edges
pub listings_tell : ListingsTell
listings_tell h n l b = (are_partitions h n l b, are_edges h n l b)
