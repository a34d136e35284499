-- One pass over the invariants makes the whole run of refinement.
use Rattle.std.proofs.Common.{◌≡◌, ℕ, suc, ◌+◌, ◌-◌, ◌≤◌, List, [], ◌∷◌, ◌++◌, length, slice_index, slice_get, Some, None, sym, ◌∙◌, refl, ap, subst, inl, inr, arith, add-zero}
use Rattle.std.proofs.lemmas.Bool.{cases_lt}
use Rattle.std.proofs.lemmas.Option.{none-some}
use Rattle.invariants.specs.declared.Invariant.{Invariant}
use Rattle.partition_model.specs.Graphs.{Graph, Satisfies, IsLeastViolation}
use Rattle.partition_model.specs.Assignments.{Assignment, G}
use Rattle.invariants.specs.declared.records.Split.{Split}
use Rattle.partition_model.specs.Refinement.{stitch, Refines, SatisfiesAll, IsNextSplit, after_split}
use Rattle.partition_model.specs.Laws.{IsRun, HoldAll, SatisfiesBefore, SplitsUntil, PassesOver, OnePassRefines}
use Rattle.partition_model.proofs.Runs.{broken-first, next-run, fresh-run}
use Rattle.partition_model.proofs.Splitting.{split_keeps}

-- each invariant of the list, by its number
pub all_numbers : (g : Graph) (invs : List Invariant) → ((j : ℕ) (inv : Invariant) → slice_get invs j ≡ Some inv → Satisfies g inv) → SatisfiesAll g invs
all_numbers g [] f = tt
all_numbers g (inv ∷ invs) f = (f 0 inv refl, all_numbers g invs (λ j i e. f (suc j) i e))

-- one more invariant is satisfied
before-more : (g : Graph) (invs : List Invariant) (k : ℕ) (inv : Invariant) → slice_get invs k ≡ Some inv → SatisfiesBefore g invs k → Satisfies g inv → SatisfiesBefore g invs (suc k)
before-more g invs k inv e b s j i l q =
    elim (cases_lt j k) [
      | inl o ↦ b j i o q
      | inr o ↦
          let m : j ≡ k = omega arith in
          let w : slice_get invs k ≡ Some i = subst (λ (x : ℕ). slice_get invs x ≡ Some i) m q in
          let v : inv ≡ i = cc in
          subst (λ (x : Invariant). Satisfies g x) v s
    ]

-- what makes a split the next one
next-of : (invs : List Invariant) (h : Assignment) (k : ℕ) (inv : Invariant) (s : Split) → slice_get invs k ≡ Some inv → SatisfiesBefore (G h) invs k
    → s.inv ≡ k → IsLeastViolation (G h) inv s.path → s.place ≡ stitch h s.path → IsNextSplit invs h s
next-of invs h k inv s e b i v p =
    let e' : slice_get invs s.inv ≡ Some inv = subst (λ (x : ℕ). slice_get invs x ≡ Some inv) (sym i) e in
    let b' : SatisfiesBefore (G h) invs s.inv = subst (λ (x : ℕ). SatisfiesBefore (G h) invs x) (sym i) b in
    record {
      first = broken-first (G h) invs s.inv inv e' b' (λ sat. v.breaks.1 (sat s.path v.breaks.0));
      least = λ j f. (let q : inv ≡ j = cc in subst (λ (x : Invariant). IsLeastViolation (G h) x s.path) q v);
      place = p;
    }

-- what comes after the splits for one invariant
abbrev Goes : List (List ℕ) → List Invariant → ℕ → List Split → Assignment → Assignment → ℕ → Type 0
Goes words invs k later end middle m = IsRun words middle m → 2 ≤ m → SatisfiesBefore (G middle) invs (suc k) → Refines invs middle m later end

-- the splits for one invariant, and then the later ones, are the whole run
until : (words : List (List ℕ)) (invs : List Invariant) (k : ℕ) (inv : Invariant) (now later : List Split) (h middle end : Assignment) (n : ℕ) → IsRun words h n → 2 ≤ n → HoldAll words invs
    → slice_get invs k ≡ Some inv → SatisfiesBefore (G h) invs k → SplitsUntil inv k h n now middle → Goes words invs k later end middle (n + length now) → Refines invs h n (now ++ later) end
until words invs k inv [] later h middle end n r l a e b w f =
    let more : SatisfiesBefore (G h) invs (suc k) = before-more (G h) invs k inv e b w.0 in
    let f' : Goes words invs k later end h n =
    subst (λ (x : ℕ). Goes words invs k later end h x) (add-zero n) (subst (λ (x : Assignment). Goes words invs k later end x (n + 0)) w.1 f) in
    f' r l more
until words invs k inv (s ∷ now) later h middle end n r l a e b w f =
    let next : IsNextSplit invs h s = next-of invs h k inv s e b w.0 w.1 w.2 in
    let e' : slice_get invs s.inv ≡ Some inv = subst (λ (x : ℕ). slice_get invs x ≡ Some inv) (sym w.0) e in
    let r1 : IsRun words (after_split n s h) (n + 1) = next-run words invs h n s inv r l a e' w.1 w.2 in
    let q : n + 1 ≡ suc n = omega arith in
    let r2 : IsRun words (after_split n s h) (suc n) = subst (λ (x : ℕ). IsRun words (after_split n s h) x) q r1 in
    let b2 : SatisfiesBefore (G (after_split n s h)) invs k =
    λ j i m g. split_keeps h (slice_index s.path s.place) (slice_index s.path (s.place + 1)) n r.typed (fresh-run words h n r l) i (b j i m g) in
    let q2 : n + suc (length now) ≡ suc n + length now = omega arith in
    let f2 : Goes words invs k later end middle (suc n + length now) = subst (λ (x : ℕ). Goes words invs k later end middle x) q2 f in
    (next, until words invs k inv now later (after_split n s h) middle end (suc n) r2 (omega arith) a e b2 w.3 f2)

-- the rest of the list, from the number k on
over : (words : List (List ℕ)) (invs rest : List Invariant) (k : ℕ) (h : Assignment) (n : ℕ) (splits : List Split) (end : Assignment) → IsRun words h n → 2 ≤ n → HoldAll words invs
    → ((j : ℕ) → slice_get invs (k + j) ≡ slice_get rest j) → SatisfiesBefore (G h) invs k → PassesOver k rest h n splits end → Refines invs h n splits end
over words invs [] k h n splits end r l a at b w =
    let all : SatisfiesAll (G h) invs = all_numbers (G h) invs (λ j inv e. elim (cases_lt j k) [
      | inl o ↦ b j inv o e
      | inr o ↦
          let m : k + (j - k) ≡ j = omega arith in
          let z : slice_get invs (k + (j - k)) ≡ None = at (j - k) in
          let y : slice_get invs j ≡ None = subst (λ (x : ℕ). slice_get invs x ≡ None) m z in
          absurd (none-some inv (sym y ∙ e))
    ]) in
    subst (λ (ss : List Split). Refines invs h n ss end) (sym w.0) (all, w.1)
over words invs (inv ∷ rest) k h n splits end r l a at b w =
    let e : slice_get invs k ≡ Some inv = subst (λ (x : ℕ). slice_get invs x ≡ Some inv) (add-zero k) (at 0) in
    let at' : (j : ℕ) → slice_get invs (suc k + j) ≡ slice_get rest j =
    λ j. (let q : k + suc j ≡ suc k + j = omega arith in subst (λ (x : ℕ). slice_get invs x ≡ slice_get rest j) q (at (suc j))) in
    subst (λ (ss : List Split). Refines invs h n ss end) w.3
    (until words invs k inv w.0 w.1 h w.2 end n r l a e b w.4 (λ r' l' b'. over words invs rest (suc k) w.2 (n + length w.0) w.1 end r' l' a at' b' w.5))

-- one pass over the invariants makes the whole run of refinement
pub one_pass_refines : OnePassRefines
one_pass_refines invs words h n splits end r l a w = over words invs invs 0 h n splits end r l a (λ j. ap (slice_get invs) (omega arith)) (λ j inv m e. absurd (omega arith)) w
