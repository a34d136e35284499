-- The first splits of a run begin the whole run.
use Rattle.std.proofs.Common.{◌≡◌, ℕ, suc, ◌+◌, ◌<◌, List, [], ◌∷◌, ◌++◌, length, sym, refl, ap, ap₂, subst, arith, add-zero, length-append}
use Rattle.invariants.specs.declared.Invariant.{Invariant}
use Rattle.invariants.specs.declared.records.Split.{Split}
use Rattle.partition_model.specs.Assignments.{Assignment, G}
use Rattle.partition_model.specs.Refinement.{Splits, Refines, IsNextSplit, after_split}
use Rattle.partition_bounds.specs.Laws.{SplitsBegin, StepsExclude}
use Rattle.partition_model.proofs.Unique.{none-broken, one-split}

-- what is left of the run b after the splits a, which goes on from where these lead
abbrev Rest : List Invariant → Assignment → Assignment → ℕ → List Split → List Split → Type 0
Rest invs mid end n a b = (rest : List Split) × (a ++ rest ≡ b) × Refines invs mid (n + length a) rest end

-- splits that are made one after another begin the whole run
begin : (invs : List Invariant) (a b : List Split) (h mid end : Assignment) (n : ℕ) → Splits invs h n a mid → Refines invs h n b end → Rest invs mid end n a b
begin invs [] b h mid end n x y =
    let y1 : Refines invs mid n b end = subst (λ (k : Assignment). Refines invs k n b end) (sym x) y in
    (b, refl, subst (λ (m : ℕ). Refines invs mid m b end) (sym (add-zero n)) y1)
begin invs (s ∷ ss) [] h mid end n x y = absurd (none-broken (G h) invs s.inv y.0 x.0.first)
begin invs (s ∷ ss) (t ∷ ts) h mid end n x y =
    let e : s ≡ t = one-split invs h s t x.0 y.0 in
    let y1 : Refines invs (after_split n s h) (suc n) ts end = subst (λ (u : Split). Refines invs (after_split n u h) (suc n) ts end) (sym e) y.1 in
    let r : Rest invs mid end (suc n) ss ts = begin invs ss ts (after_split n s h) mid end (suc n) x.1 y1 in
    let m : suc n + length ss ≡ n + suc (length ss) = omega arith in
    (r.0, ap₂ (λ (u : Split) (us : List Split). u ∷ us) e r.1, subst (λ (k : ℕ). Refines invs mid k r.0 end) m r.2)

-- the first splits of a run begin the whole run
pub splits_begin : SplitsBegin
splits_begin invs h mid end n a b x y = begin invs a b h mid end n x y

-- where there is a next split, the whole run goes on
some-rest : (invs : List Invariant) (mid end : Assignment) (m : ℕ) (rest : List Split) (s : Split) → IsNextSplit invs mid s → Refines invs mid m rest end → 0 < length rest
some-rest invs mid end m [] s i y = absurd (none-broken (G mid) invs s.inv y.0 i.first)
some-rest invs mid end m (t ∷ ts) s i y = omega arith

-- where a split follows the first ones, the whole run has more
pub steps_exclude : StepsExclude
steps_exclude invs h mid end n a b s x i y =
    let r : Rest invs mid end n a b = begin invs a b h mid end n x y in
    let l : 0 < length r.0 = some-rest invs mid end (n + length a) r.0 s i r.2 in
    let e : length (a ++ r.0) ≡ length a + length r.0 = length-append a r.0 in
    let f : length (a ++ r.0) ≡ length b = ap length r.1 in
    omega arith
