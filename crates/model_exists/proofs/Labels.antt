-- The reached states of an invariant, as a number for each partition.
use Rattle.std.proofs.Common.{◌≡◌, ◌↔◌, ℕ, zero, suc, ◌<◌, ◌≤◌, true, List, [], ◌∷◌, slice_get, Some, refl, ap, subst₂, inl, inr, arith}
use Rattle.invariants.specs.declared.Invariant.{Invariant}
use Rattle.invariants.specs.declared.records.Partition.{Partition}
use Rattle.invariants.specs.Labels.{IsLabel}
use Rattle.partition_model.specs.Assignments.{Assignment, G, events}
use Rattle.partition_model.specs.Labels.{Reached}
use Rattle.partition_model.specs.Listings.{AreBelow}
use Rattle.partition_model.proofs.Forming.{graphs_are_formed}
use Rattle.partition_bounds.proofs.Merges.{graphs_are_below}
use Rattle.models.specs.Models.{has_state}
use Rattle.models.specs.Laws.{AreReachedNumbers}
use Rattle.models.proofs.Deciding.{OrNot}
use Rattle.models.proofs.FirstSteps.{bound-of}
use Rattle.models.proofs.Listed.{numbers_give_labels}
use Rattle.model_exists.specs.Laws.{LabelsExist}
use Rattle.model_exists.proofs.Reaching.{reached_or_not}

-- the number is a set of states, and has each of the three where a fact holds
record IsSetOf (P : ℕ → Type 0) (number : ℕ) : Type 0 where
  small : IsLabel number
  states : (s : ℕ) → s < 3 → (has_state number s ≡ true) ↔ P s

-- a number that has each of the three states where a fact holds
set-by : (P : ℕ → Type 0) (number : ℕ) → number ≤ 7 → (has_state number 0 ≡ true) ↔ P 0 → (has_state number 1 ≡ true) ↔ P 1 → (has_state number 2 ≡ true) ↔ P 2 → IsSetOf P number
set-by P number l a b c = record { small = l; states = λ s k. each s k }
  where
    each : (s : ℕ) → s < 3 → (has_state number s ≡ true) ↔ P s
    each zero k = a
    each (suc zero) k = b
    each (suc (suc zero)) k = c
    each (suc (suc (suc s))) k = absurd (omega arith)

-- three facts that hold or not have such a number
set-of : (P : ℕ → Type 0) → OrNot (P 0) → OrNot (P 1) → OrNot (P 2) → (number : ℕ) × IsSetOf P number
set-of P (inr a) (inr b) (inr c) = (0, set-by P 0 (omega arith) (λ e. cc, λ p. absurd (a p)) (λ e. cc, λ p. absurd (b p)) (λ e. cc, λ p. absurd (c p)))
set-of P (inl a) (inr b) (inr c) = (1, set-by P 1 (omega arith) (λ e. a, λ p. refl) (λ e. cc, λ p. absurd (b p)) (λ e. cc, λ p. absurd (c p)))
set-of P (inr a) (inl b) (inr c) = (2, set-by P 2 (omega arith) (λ e. cc, λ p. absurd (a p)) (λ e. b, λ p. refl) (λ e. cc, λ p. absurd (c p)))
set-of P (inl a) (inl b) (inr c) = (3, set-by P 3 (omega arith) (λ e. a, λ p. refl) (λ e. b, λ p. refl) (λ e. cc, λ p. absurd (c p)))
set-of P (inr a) (inr b) (inl c) = (4, set-by P 4 (omega arith) (λ e. cc, λ p. absurd (a p)) (λ e. cc, λ p. absurd (b p)) (λ e. c, λ p. refl))
set-of P (inl a) (inr b) (inl c) = (5, set-by P 5 (omega arith) (λ e. a, λ p. refl) (λ e. cc, λ p. absurd (b p)) (λ e. c, λ p. refl))
set-of P (inr a) (inl b) (inl c) = (6, set-by P 6 (omega arith) (λ e. cc, λ p. absurd (a p)) (λ e. b, λ p. refl) (λ e. c, λ p. refl))
set-of P (inl a) (inl b) (inl c) = (7, set-by P 7 (omega arith) (λ e. a, λ p. refl) (λ e. b, λ p. refl) (λ e. c, λ p. refl))

-- a number more, for one partition more
one-more : (inv : Invariant) (h : Assignment) (x : Partition) (xs : List Partition) (number : ℕ) (numbers : List ℕ) → IsSetOf (λ s. Reached inv (G h) x.id s) number
    → AreReachedNumbers inv h xs numbers → AreReachedNumbers inv h (x ∷ xs) (number ∷ numbers)
one-more inv h x xs number numbers a r =
    record {
      count = ap suc r.count;
      each = (a.small, r.each);
      states = λ k y d s e f l. states k y d s e f l;
    }
  where
    states : (k : ℕ) (y : Partition) (d s : ℕ) → slice_get (x ∷ xs) k ≡ Some y → slice_get (number ∷ numbers) k ≡ Some d → s < 3 → (has_state d s ≡ true) ↔ Reached inv (G h) y.id s
    states zero y d s e f l =
        let u : x ≡ y = cc in
        let v : number ≡ d = cc in
        subst₂ (λ (z : Partition) (c : ℕ). (has_state c s ≡ true) ↔ Reached inv (G h) z.id s) u v (a.states s l)
    states (suc k) y d s e f l = r.states k y d s e f l

-- partitions have such numbers, where each state is reached or not
numbers-of : (inv : Invariant) (h : Assignment) → ((p s : ℕ) → OrNot (Reached inv (G h) p s)) → (xs : List Partition) → (numbers : List ℕ) × AreReachedNumbers inv h xs numbers
numbers-of inv h d [] = ([], record { count = refl; each = tt; states = λ k x c s e f l. absurd (cc e) })
numbers-of inv h d (x ∷ xs) =
    let o : (number : ℕ) × IsSetOf (λ s. Reached inv (G h) x.id s) number = set-of (λ s. Reached inv (G h) x.id s) (d x.id 0) (d x.id 1) (d x.id 2) in
    let r : (numbers : List ℕ) × AreReachedNumbers inv h xs numbers = numbers-of inv h d xs in
    (o.0 ∷ r.0, one-more inv h x xs o.0 r.0 o.1 r.1)

-- the reached states are labels of the partitions
pub labels_exist : LabelsExist
labels_exist inv h xs t a =
    let b : (n : ℕ) × (2 ≤ n) × AreBelow n h = bound-of (events h) in
    let o : (numbers : List ℕ) × AreReachedNumbers inv h xs numbers =
    numbers-of inv h (λ p s. reached_or_not inv (G h) b.0 p s (graphs_are_formed h t) (graphs_are_below h b.0 b.1 b.2)) xs in
    (o.0, numbers_give_labels inv h xs o.0 a o.1)
