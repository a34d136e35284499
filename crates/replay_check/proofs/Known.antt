-- What is known of an assignment by its sizes and its counts.
use Rattle.std.proofs.Common.{◌≡◌, ◌≢◌, ◌↔◌, ℕ, ◌+◌, ◌<◌, ◌≤◌, ◌==◌, ◌||◌, cond, Bool, true, false, List, [], ◌∷◌, length, ◌++◌, drop, get_or, nat_lt, refl, sym, ◌∙◌, ap, ap₂, subst, inl, inr, arith}
use Rattle.std.proofs.lemmas.Bool.{cases_lt, lt-ltb, le-ltb}
use Rattle.std.proofs.lemmas.List.{drop_more, get_or-set_same, get_or-set_other}
use Rattle.std.proofs.lemmas.List.Elements.{recursion_from_All}
use Rattle.std.specs.List.{All, AllByRecursion}
use Rattle.limits.specs.declared.TheConstants.{MAX_PARTITIONS}
use Rattle.partition_model.specs.Assignments.{Assignment, Event, IsTyped, events, ids_of, members, size, is_live}
use Rattle.partition_model.specs.Listings.{AreBelow, ArePartitions, AreEdges, partitions_below, edges_below}
use Rattle.partition_model.proofs.Lists.{all_in, all_from}
use Rattle.partition_model.proofs.Listing.{are_partitions, are_edges}
use Rattle.replay_check.specs.Laid.{laid, edges_along, HaveIdsBelow}
use Rattle.replay_check.specs.Shown.{Shows, Knows, HasSizes, HasCounts, count_at}
use Rattle.replay_check.proofs.Laying.{times, times-cons, laid-sizes, laid-edges}
use Rattle.replay_check.proofs.Showing.{below-more}

-- how often a number stands from a place on
pub times-drop : (p : ℕ) (xs : List ℕ) (i : ℕ) → i < length xs → times p (drop i xs) ≡ cond (get_or xs i 0 == p) 1 0 + times p (drop (i + 1) xs)
times-drop p xs i l = ap (λ (ys : List ℕ). times p ys) (drop_more xs i 0 l) ∙ times-cons p (get_or xs i 0) (drop (i + 1) xs)

-- sizes that are counted are those of the assignment
pub has-sizes : (h : Assignment) (ids sizes : List ℕ) → IsTyped h → ids ≡ laid h → ((p : ℕ) → p < MAX_PARTITIONS → get_or sizes p 0 ≡ times p ids) → HasSizes h sizes
has-sizes h ids sizes t e s p l = s p l ∙ ap (λ (xs : List ℕ). times p xs) e ∙ laid-sizes h t p

-- and so are counts of edges
pub has-counts : (h : Assignment) (ids counts : List ℕ) → IsTyped h → ids ≡ laid h → ((p q : ℕ) → q < MAX_PARTITIONS → count_at counts p q ≡ edges_along p q ids) → HasCounts h counts
has-counts h ids counts t e s p q m = s p q m ∙ ap (λ (xs : List ℕ). edges_along p q xs) e ∙ laid-edges h t p q

-- what is live by its size
pub knows-live : (h : Assignment) (n : ℕ) (ids types sizes : List ℕ) (live : List Bool) → n ≤ MAX_PARTITIONS → Shows h n ids types
    → ((p : ℕ) → p < MAX_PARTITIONS → get_or sizes p 0 ≡ times p ids)
    → ((j : ℕ) → j < 2 → get_or live j false ≡ true) → ((j : ℕ) → 2 ≤ j → j < MAX_PARTITIONS → get_or live j false ≡ nat_lt 0 (get_or sizes j 0)) → Knows h live types
knows-live h n ids types sizes live l s counted low marked =
    record {
      typed = s.typed;
      below = below-more n MAX_PARTITIONS l h s.below;
      live_are = λ p m. elim (cases_lt p 2) [
        | inl a ↦ low p a ∙ sym (first p a)
        | inr b ↦ marked p b m ∙ ap (λ k. nat_lt 0 k) (has-sizes h ids sizes s.typed s.ids_are counted p m ∙ high p b) ∙ sym (later p b)
      ];
      types_are = s.types_are;
    }
  where
    first : (p : ℕ) → p < 2 → is_live h p ≡ true
    first p a = rw (lt-ltb p 2 a) refl

    high : (p : ℕ) → 2 ≤ p → size h p ≡ members h p
    high p b = rw (le-ltb p 2 b) refl

    later : (p : ℕ) → 2 ≤ p → is_live h p ≡ nat_lt 0 (members h p)
    later p b = rw (le-ltb p 2 b) refl

-- a place is marked by its size
pub marked-more : (live : List Bool) (sizes : List ℕ) (p : ℕ) (b : Bool) → p < length live → b ≡ nat_lt 0 (get_or sizes p 0)
    → ((j : ℕ) → 2 ≤ j → j < p → get_or live j false ≡ nat_lt 0 (get_or sizes j 0))
    → (j : ℕ) → 2 ≤ j → j < p + 1 → get_or (Rattle.std.proofs.Common.set live p b) j false ≡ nat_lt 0 (get_or sizes j 0)
marked-more live sizes p b l e m j two k =
    elim (Rattle.std.proofs.lemmas.Bool.cases_eq j p) [
      | inl q ↦ ap (λ n. get_or (Rattle.std.proofs.Common.set live p b) n false) q ∙ get_or-set_same live p b false l ∙ e ∙ ap (λ n. nat_lt 0 (get_or sizes n 0)) (sym q)
      | inr n ↦ get_or-set_other live p j b false n ∙ m j two (omega arith)
    ]

-- ids below a bound
are-below : (n : ℕ) (h : Assignment) → HaveIdsBelow n h → AreBelow n h
are-below n h a = all_from (λ e. e.id < n) (events h) (λ e i. (all_in (λ e. (2 ≤ e.id) × (e.id < n)) e (events h) a i).1)

-- the partitions below the greatest bound are all that there are
pub all-partitions : (h : Assignment) (live : List Bool) (types : List ℕ) (n : ℕ) → n ≡ MAX_PARTITIONS → Knows h live types → ArePartitions (partitions_below n h) h
all-partitions h live types n e k = are_partitions h n (omega arith) (are-below n h (subst (λ x. HaveIdsBelow x h) (sym e) k.below))

-- the events of a trace have the ids that are laid
below-trace : (n : ℕ) (t es : List Event) (rest : List ℕ) → AllByRecursion (λ p. p < n) ((ids_of t ++ 1 ∷ []) ++ rest)
    → (AllByRecursion (λ p. p < n) rest → AllByRecursion (λ e. e.id < n) es) → AllByRecursion (λ e. e.id < n) (t ++ es)
below-trace n [] es rest a f = f a.1
below-trace n (e ∷ t) es rest a f = (a.0, below-trace n t es rest a.1 f)

below-laid : (n : ℕ) (h : Assignment) → AllByRecursion (λ p. p < n) (laid h) → AreBelow n h
below-laid n [] a = tt
below-laid n (t ∷ h) a = below-trace n t (events h) (laid h) a.1 (below-laid n h)

-- the edges below a bound of the ids are all that there are
pub all-edges : (h : Assignment) (ids : List ℕ) (n : ℕ) → 2 ≤ n → ids ≡ laid h → All (λ p. p < n) ids → AreEdges (edges_below n h) h
all-edges h ids n l e a = are_edges h n l (below-laid n h (recursion_from_All (λ p. p < n) (laid h) (subst (λ (xs : List ℕ). All (λ p. p < n) xs) e a)))
