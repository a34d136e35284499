-- The graph of the merged assignment is the merged graph.
use Rattle.partition_model.specs.Assignments.{renamed_event}
use Rattle.partition_model.specs.Coarsening.{onto}
use Rattle.std.proofs.Common.{◌≡◌, ◌≢◌, ℕ, zero, suc, ◌<◌, ◌≤◌, ◌==◌, not, Bool, true, false, List, sym, ◌∙◌, refl, ap, subst, inl, inr, arith, ne_eqb}
use Rattle.std.proofs.lemmas.Bool.{cases_lt, and_parts, eqb-false, not-true}
use Rattle.partition_model.specs.Graphs.{Merged}
use Rattle.partition_model.specs.Assignments.{Event, Assignment, events, G, IsTyped}
use Rattle.partition_model.specs.Coarsening.{merge, IsPair}
use Rattle.partition_model.specs.Laws.{MergeIsMerged}
use Rattle.partition_model.proofs.Lists.{In, map-In}
use Rattle.partition_model.proofs.Naming.{events-renamed}
use Rattle.partition_model.proofs.Merging.{onto_other, gone, merged_to, to_merged, same_path, merge_to_merged, merged_to_merge}
use Rattle.partition_model.proofs.Passes.{live-member, member-live, live-back, type-back}

-- two tests that pass in the same cases are equal
both-ways : (a b : Bool) → (a ≡ true → b ≡ true) → (b ≡ true → a ≡ true) → a ≡ b
both-ways true b f g = sym (f refl)
both-ways false true f g = g refl
both-ways false false f g = refl

-- both ends are listed
end-listed : (h : Assignment) (u : ℕ) → u < 2 → (G h).listed u ≡ true
end-listed h zero l = refl
end-listed h (suc zero) l = refl
end-listed h (suc (suc u)) l = absurd (omega arith)

-- both ends have their own types
end-type : (h : Assignment) (u : ℕ) → u < 2 → (G h).typ u ≡ u
end-type h zero l = refl
end-type h (suc zero) l = refl
end-type h (suc (suc u)) l = absurd (omega arith)

-- a listed id but q is listed after the merge
live-on : (h : Assignment) (p q u : ℕ) → 2 ≤ u → u ≢ q → (G h).listed u ≡ true → (G (merge p q h)).listed u ≡ true
live-on h p q u l n k =
    let o : (e : Event) × In e (events h) × (e.id ≡ u) = live-member h u l k in
    let j : In (renamed_event (onto p q) o.0) (events (merge p q h)) =
    subst (λ (es : List Event). In (renamed_event (onto p q) o.0) es) (sym (events-renamed (onto p q) h)) (map-In (renamed_event (onto p q)) o.0 (events h) o.1) in
    member-live (merge p q h) u l (renamed_event (onto p q) o.0) j (ap (onto p q) o.2 ∙ onto_other p q u n)

-- what is listed after the merge is listed in the merged graph
to-listed : (h : Assignment) (p q u : ℕ) → IsPair (G h) p q → (G (merge p q h)).listed u ≡ true → (Merged (G h) p q).listed u ≡ true
to-listed h p q u i k =
    let l : 2 ≤ p = i.low in
    let m : p < q = i.order in
    elim (cases_lt u 2) [
      | inl s ↦
          let a : (u == q) ≡ false = ne_eqb u q (λ e. absurd (omega arith)) in
          let b : (G h).listed u ≡ true = end-listed h u s in
          rw (a, b) refl
      | inr s ↦
          let a : (u == q) ≡ false = ne_eqb u q (gone h p q u i s k) in
          let b : (G h).listed u ≡ true = live-back h p q u i s k in
          rw (a, b) refl
    ]

-- what is listed in the merged graph is listed after the merge
from-listed : (h : Assignment) (p q u : ℕ) → (Merged (G h) p q).listed u ≡ true → (G (merge p q h)).listed u ≡ true
from-listed h p q u k =
    let a : (not (u == q) ≡ true) × ((G h).listed u ≡ true) = and_parts (not (u == q)) ((G h).listed u) k in
    elim (cases_lt u 2) [
      | inl s ↦ end-listed (merge p q h) u s
      | inr s ↦ live-on h p q u s (eqb-false u q (not-true (u == q) a.0)) a.1
    ]

-- a listed id has one type in both
same-type : (h : Assignment) (p q u : ℕ) → IsTyped h → IsPair (G h) p q → (Merged (G h) p q).listed u ≡ true → (G (merge p q h)).typ u ≡ (Merged (G h) p q).typ u
same-type h p q u t i k =
    elim (cases_lt u 2) [
      | inl s ↦ end-type (merge p q h) u s ∙ sym (end-type h u s)
      | inr s ↦ type-back h p q u t i s (from-listed h p q u k)
    ]

-- the graph of the merged assignment is the merged graph
pub merge_is_merged : MergeIsMerged
merge_is_merged h p q t i =
    record {
      edges = λ u v. both-ways ((G (merge p q h)).edge u v) ((Merged (G h) p q).edge u v) (λ k. merged_to h p q u v i k) (λ k. to_merged h p q u v t i k);
      listed = λ u. both-ways ((G (merge p q h)).listed u) ((Merged (G h) p q).listed u) (λ k. to-listed h p q u i k) (λ k. from-listed h p q u k);
      types = λ u k. same-type h p q u t i k;
      paths = λ path. (
        λ a. (same_path (G (merge p q h)) (Merged (G h) p q) (merge_to_merged h p q t i) path a).0,
        λ a. (same_path (Merged (G h) p q) (G (merge p q h)) (merged_to_merge h p q t i) path a).0,
      );
      words = λ path a. (same_path (Merged (G h) p q) (G (merge p q h)) (merged_to_merge h p q t i) path a).1;
    }
