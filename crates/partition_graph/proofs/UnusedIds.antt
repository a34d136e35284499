-- Ids that are not used.
use Rattle.std.proofs.Common.{◌≡◌, ℕ, ◌<◌, ◌≤◌, ◌==◌, ◌⊎◌, false, List, [], ◌∷◌, ◌++◌, length, arith, sym, ◌∙◌, refl, subst, inl, inr, ne_eqb, ltb}
use Rattle.std.proofs.lemmas.Bool.{cases_lt, lt-ltb, le-ltb, cond-false}
use Rattle.std.specs.List.{AllByRecursion}
use Rattle.partition_model.specs.Assignments.{Event, Assignment, events, edge_count, members, first_type, size, type_of, ids_of, id_list, pairs, G}
use Rattle.partition_model.specs.Listings.{AreBelow}
use Rattle.partition_model.proofs.Lists.{In, In-append, In-map, In-events, all_in, edge-In, pairs-In, pairs-first, member-of}
use Rattle.partition_graph.specs.Parts.{HasEdgesBelow}

-- the ids of a trace and its ends
id_below : (h : Assignment) (n x : ℕ) → 2 ≤ n → AreBelow n h → (trace : List Event) → In trace h → In x (ids_of trace ++ 1 ∷ []) → x < n
id_below h n x two b trace i j =
    elim (In-append x (ids_of trace) (1 ∷ []) j) [
      | inl a ↦
          let m : (e : Event) × In e trace × (e.id ≡ x) = In-map (λ (e : Event). e.id) x trace a in
          let l : m.0.id < n = all_in (λ (e : Event). e.id < n) m.0 (events h) b (In-events m.0 trace h i m.1) in
          subst (λ k. k < n) m.2 l
      | inr c ↦ elim c [ inl e ↦ omega arith | inr z ↦ absurd z ]
    ]

-- edges go between ids that are used
pub edges_within : (h : Assignment) (n : ℕ) → 2 ≤ n → AreBelow n h → HasEdgesBelow (G h) n
edges_within h n two b p q k =
    let o : (trace : List Event) × In trace h × (0 < pairs p q (id_list trace)) = edge-In p q h k in
    let to : q < n = id_below h n q two b o.0 o.1 (pairs-In p q 0 (ids_of o.0 ++ 1 ∷ []) o.2) in
    let from : p < n = elim (pairs-first p q (id_list o.0) o.2) [ inl e ↦ omega arith | inr r ↦ id_below h n p two b o.0 o.1 r ] in
    (from, to)

-- an id that is not used has no edge
pub no_edge : (h : Assignment) (n : ℕ) → 2 ≤ n → AreBelow n h → (p q : ℕ) → (n ≤ p) ⊎ (n ≤ q) → 0 ≡ edge_count h p q
no_edge h n two b p q past =
    elim (cases_lt 0 (edge_count h p q)) [
      | inl l ↦
          let w : (p < n) × (q < n) = edges_within h n two b p q (lt-ltb 0 (edge_count h p q) l) in
          let u : p < n = w.0 in
          let v : q < n = w.1 in
          elim past [ inl x ↦ absurd (omega arith) | inr y ↦ absurd (omega arith) ]
      | inr z ↦ omega arith
    ]

-- an id that is not used has no event
pub no_member : (h : Assignment) (n : ℕ) → AreBelow n h → (p : ℕ) → n ≤ p → 0 ≡ members h p
no_member h n b p past =
    elim (cases_lt 0 (members h p)) [
      | inl l ↦
          let m : (e : Event) × In e (events h) × (e.id ≡ p) = member-of p (events h) l in
          let k : m.0.id < n = all_in (λ (e : Event). e.id < n) m.0 (events h) b m.1 in
          let q : m.0.id ≡ p = m.2 in
          absurd (omega arith)
      | inr z ↦ omega arith
    ]

no_first : (n : ℕ) (es : List Event) → AllByRecursion (λ (e : Event). e.id < n) es → (p : ℕ) → n ≤ p → 0 ≡ first_type p es
no_first n [] b p past = refl
no_first n (e ∷ es) b p past =
    let k : e.id < n = b.0 in
    let f : (e.id == p) ≡ false = ne_eqb e.id p (λ q. omega arith) in
    rw f (no_first n es b.1 p past)

-- an id that is not used has no event that gives it a type
pub no_type : (h : Assignment) (n : ℕ) → AreBelow n h → (p : ℕ) → n ≤ p → 0 ≡ first_type p (events h)
no_type h n b p past = no_first n (events h) b p past

-- an id that is not used has the size 0
pub no_size : (h : Assignment) (n : ℕ) → AreBelow n h → (p : ℕ) → 2 ≤ p → n ≤ p → 0 ≡ size h p
no_size h n b p two past = no_member h n b p past ∙ sym (cond-false (ltb p 2) (length h) (members h p) (le-ltb p 2 two))

-- an id that is not used has the type 0
pub no_type_of : (h : Assignment) (n : ℕ) → AreBelow n h → (p : ℕ) → 2 ≤ p → n ≤ p → 0 ≡ type_of h p
no_type_of h n b p two past = no_type h n b p past ∙ sym (cond-false (ltb p 2) p (first_type p (events h)) (le-ltb p 2 two))
