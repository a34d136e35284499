-- What a pair keeps that does not clash, and what a clash loses.
use Rattle.std.proofs.Common.{◌≡◌, ℕ, zero, suc, ◌<◌, true, false, List, [], ◌∷◌, length, slice_get, get_or, Some, Option, None, is_some, MatchOption, min, sym, ◌∙◌, subst, inl, inr, arith}
use Rattle.std.proofs.lemmas.Bool.{cases_lt, true≢false}
use Rattle.std.proofs.lemmas.Option.{slice_get_within, slice_get-get_or}
use Rattle.limits.specs.declared.TheConstants.{MAX_PARTITIONS}
use Rattle.invariants.specs.declared.Invariant.{Invariant}
use Rattle.invariants.specs.declared.Kind.TheVariants.{AF}
use Rattle.partition_model.specs.Graphs.{Graph, Satisfies, Merged}
use Rattle.partition_model.specs.Assignments.{Assignment, G, IsTyped}
use Rattle.partition_model.specs.Refinement.{SatisfiesAll, IsFirstBroken}
use Rattle.partition_model.specs.Coarsening.{merge, IsPair}
use Rattle.partition_model.specs.Laws.{SatisfiesBefore}
use Rattle.partition_model.proofs.Merging.{merged_keeps}
use Rattle.partition_model.proofs.OnePass.{all_numbers}
use Rattle.partition_model.proofs.Runs.{broken, broken-first}
use Rattle.partition_bounds.proofs.Blocks.{merge_satisfies}
use Rattle.clashes.specs.Marks.{Marks, AreMarksOf, has_clash, NoClash, IsFirstClash}
use Rattle.clashes.proofs.Telling.{clashes_tell}
use Rattle.partition_model.proofs.Satisfied.{all_at}
use Rattle.coarsener.specs.Deciding.{IsFirstLost}

-- the invariants before the first that is broken are satisfied
pub satisfied-before : (g : Graph) (invs : List Invariant) (k : ℕ) → IsFirstBroken g invs k → SatisfiesBefore g invs k
satisfied-before g [] k b j inv l e = absurd b
satisfied-before g (i ∷ invs) zero b j inv l e = absurd (omega arith)
satisfied-before g (i ∷ invs) (suc k) b zero inv l e = let q : i ≡ inv = cc in subst (λ (z : Invariant). Satisfies g z) q b.0
satisfied-before g (i ∷ invs) (suc k) b (suc j) inv l e = satisfied-before g invs k b.1 j inv (omega arith) e

-- what is read of a list of invariants where it has ended
abbrev pub none : Invariant
none = record { kind = AF; a = 0; b = 0 }

-- what is known of a pair that is to be decided
pub record IsTold (marks : Marks) (h : Assignment) (p q : ℕ) : Type 0 where
  pub typed : IsTyped h
  pub pair : IsPair (G h) p q
  pub limit : q < MAX_PARTITIONS
  pub marks_are : AreMarksOf marks (G h)

kept-at : (m : Marks) (h : Assignment) (p q : ℕ) → IsTold m h p q → (k : ℕ) (inv : Invariant) → slice_get m.invs k ≡ Some inv → Satisfies (G h) inv → has_clash m k p q ≡ false
    → Satisfies (Merged (G h) p q) inv
kept-at m h p q t k inv e s f = (clashes_tell m h p q k inv t.marks_are t.typed t.pair t.limit e s).1 f

lost-at : (m : Marks) (h : Assignment) (p q : ℕ) → IsTold m h p q → (k : ℕ) (inv : Invariant) → slice_get m.invs k ≡ Some inv → Satisfies (G h) inv → has_clash m k p q ≡ true
    → Satisfies (Merged (G h) p q) inv → ⊥
lost-at m h p q t k inv e s c sat = true≢false (sym c ∙ (clashes_tell m h p q k inv t.marks_are t.typed t.pair t.limit e s).0 sat)

kept-all : (m : Marks) (h : Assignment) (p q : ℕ) → IsTold m h p q → SatisfiesAll (G h) m.invs → NoClash m p q → SatisfiesAll (Merged (G h) p q) m.invs
kept-all m h p q t s n =
    all_numbers (Merged (G h) p q) m.invs
    (λ j inv e. kept-at m h p q t j inv e (all_at (G h) m.invs j inv e s) (n j (slice_get_within m.invs j inv e)))

-- a merge without a clash keeps all invariants
pub merge-keeps : (m : Marks) (h : Assignment) (p q : ℕ) → IsTold m h p q → SatisfiesAll (G h) m.invs → NoClash m p q → SatisfiesAll (G (merge p q h)) m.invs
merge-keeps m h p q t s n = (merge_satisfies h p q t.typed t.pair m.invs).1 (kept-all m h p q t s n)

-- a merge with a clash loses one
pub merge-loses : (m : Marks) (h : Assignment) (p q k : ℕ) → IsTold m h p q → SatisfiesAll (G h) m.invs → IsFirstClash m p q k → SatisfiesAll (G (merge p q h)) m.invs → ⊥
merge-loses m h p q k t s f sat =
    let inv : Invariant = get_or m.invs k none in
    let e : slice_get m.invs k ≡ Some inv = slice_get-get_or m.invs k none f.within in
    let all : SatisfiesAll (Merged (G h) p q) m.invs = (merge_satisfies h p q t.typed t.pair m.invs).0 sat in
    lost-at m h p q t k inv e (all_at (G h) m.invs k inv e s) f.clash (all_at (Merged (G h) p q) m.invs k inv e all)

-- the first invariant that the graph does not satisfy is the first that is lost, where none before it has a clash
pub lost-bad : (m : Marks) (h : Assignment) (p q b : ℕ) → IsTold m h p q → IsFirstBroken (G h) m.invs b → ((j : ℕ) → j < b → j < length m.invs → has_clash m j p q ≡ false)
    → IsFirstBroken (Merged (G h) p q) m.invs b
lost-bad m h p q b t f n =
    let o : (inv : Invariant) × (slice_get m.invs b ≡ Some inv) × (Satisfies (G h) inv → ⊥) = broken (G h) m.invs b f in
    broken-first (Merged (G h) p q) m.invs b o.0 o.1
    (λ j inv l e. kept-at m h p q t j inv e (satisfied-before (G h) m.invs b f j inv l e) (n j l (slice_get_within m.invs j inv e)))
    (λ s. o.2 (merged_keeps (G h) p q t.pair.low t.pair.order t.pair.types o.0 s))

-- the first invariant that has a clash is the first that is lost, where the graph satisfies it and those before it
pub lost-clash : (m : Marks) (h : Assignment) (p q k : ℕ) → IsTold m h p q → SatisfiesBefore (G h) m.invs (suc k) → IsFirstClash m p q k
    → IsFirstBroken (Merged (G h) p q) m.invs k
lost-clash m h p q k t s f =
    let inv : Invariant = get_or m.invs k none in
    let e : slice_get m.invs k ≡ Some inv = slice_get-get_or m.invs k none f.within in
    broken-first (Merged (G h) p q) m.invs k inv e
    (λ j i l d. kept-at m h p q t j i d (s j i (omega arith) d) (f.first j l))
    (lost-at m h p q t k inv e (s k inv (omega arith) e) f.clash)

-- of the first invariant that the graph does not satisfy and the first that has a clash, the lesser is lost first
pub lost-some-some : (m : Marks) (h : Assignment) (p q b k : ℕ) → IsTold m h p q → IsFirstBroken (G h) m.invs b → IsFirstClash m p q k → IsFirstBroken (Merged (G h) p q) m.invs (min b k)
lost-some-some m h p q b k t f c =
    elim (cases_lt k b) [
      | inl l ↦
          let e : k ≡ min b k = omega arith in
          subst (λ (z : ℕ). IsFirstBroken (Merged (G h) p q) m.invs z) e
          (lost-clash m h p q k t (λ j inv i d. satisfied-before (G h) m.invs b f j inv (omega arith) d) c)
      | inr l ↦
          let e : b ≡ min b k = omega arith in
          subst (λ (z : ℕ). IsFirstBroken (Merged (G h) p q) m.invs z) e
          (lost-bad m h p q b t f (λ j i w. c.first j (omega arith)))
    ]

-- where none has a clash, the first invariant that the graph does not satisfy is lost first
pub lost-some-none : (m : Marks) (h : Assignment) (p q b : ℕ) → IsTold m h p q → IsFirstBroken (G h) m.invs b → NoClash m p q → IsFirstBroken (Merged (G h) p q) m.invs b
lost-some-none m h p q b t f n = lost-bad m h p q b t f (λ j i w. n j w)

-- where the graph satisfies all invariants, the first that has a clash is lost first
pub lost-none : (m : Marks) (h : Assignment) (p q : ℕ) (clash : Option ℕ) → IsTold m h p q → SatisfiesAll (G h) m.invs → MatchOption clash (NoClash m p q) (λ k. IsFirstClash m p q k)
    → IsFirstLost h m.invs p q clash
lost-none m h p q None t s n = kept-all m h p q t s n
lost-none m h p q (Some k) t s f = lost-clash m h p q k t (λ j inv i e. all_at (G h) m.invs j inv e s) f

-- an answer that is there is the number of the first clash
pub some-clash : (m : Marks) (p q : ℕ) (clash : Option ℕ) → is_some clash ≡ true → MatchOption clash (NoClash m p q) (λ k. IsFirstClash m p q k) → (k : ℕ) × IsFirstClash m p q k
some-clash m p q None e f = absurd (true≢false (sym e))
some-clash m p q (Some k) e f = (k, f)

-- where there is no answer, the pair has no clash
pub no-clash : (m : Marks) (p q : ℕ) (clash : Option ℕ) → is_some clash ≡ false → MatchOption clash (NoClash m p q) (λ k. IsFirstClash m p q k) → NoClash m p q
no-clash m p q None e f = f
no-clash m p q (Some k) e f = absurd (true≢false e)
