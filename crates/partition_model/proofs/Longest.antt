-- How far a path follows the traces.
use Rattle.std.proofs.Common.{◌≡◌, ℕ, zero, suc, pred, ◌<◌, ◌≤◌, ◌==◌, true, false, List, [], ◌∷◌, length, take, slice_get, Some, refl, subst, inl, inr, arith, eq-eqb, ne_eqb}
use Rattle.std.proofs.lemmas.Bool.{cases_eq, cases_lt}
use Rattle.std.proofs.lemmas.Option.{none-some}
use Rattle.partition_model.specs.Assignments.{Event, Assignment, id_list}
use Rattle.partition_model.specs.Refinement.{Begins, common, followed}
use Rattle.partition_model.specs.Laws.{IsLongest, StitchIsLast}
use Rattle.partition_model.proofs.Lists.{In}
use Rattle.partition_model.proofs.Listing.{Contains-In, In-Contains}
use Rattle.partition_model.proofs.Stitching.{common-le, followed-in, followed-by}

-- what two lists have in common begins the second
common-begins : (xs ys : List ℕ) → Begins (take (common xs ys) xs) ys
common-begins [] ys = tt
common-begins (x ∷ xs) [] = tt
common-begins (x ∷ xs) (y ∷ ys) =
    elim (cases_eq x y) [
      | inl e ↦ let t : (x == y) ≡ true = eq-eqb x y e in rw t (e, common-begins xs ys)
      | inr n ↦ let t : (x == y) ≡ false = ne_eqb x y n in rw t tt
    ]

-- and no more does
begins-common : (m : ℕ) (xs ys : List ℕ) → m ≤ length xs → Begins (take m xs) ys → m ≤ common xs ys
begins-common zero xs ys l b = omega arith
begins-common (suc m) [] ys l b = absurd (omega arith)
begins-common (suc m) (x ∷ xs) [] l b = absurd b
begins-common (suc m) (x ∷ xs) (y ∷ ys) l b =
    let t : (x == y) ≡ true = eq-eqb x y b.0 in
    let i : m ≤ common xs ys = begins-common m xs ys (omega arith) b.1 in
    rw t (omega (arith, i))

-- some trace is followed for as long
follows-one : (h : Assignment) (path : List ℕ) → 0 < length h → (trace : List Event) × In trace h × (common path (id_list trace) ≡ followed h path)
follows-one [] path l = absurd (omega arith)
follows-one (t ∷ h) path l =
    elim (cases_lt 0 (followed (t ∷ h) path)) [
      | inl k ↦ followed-by path (t ∷ h) k
      | inr k ↦
          let a : common path (id_list t) ≤ followed (t ∷ h) path = followed-in path t (t ∷ h) (inl refl) in
          (t, inl refl, omega arith)
    ]

-- the path follows the traces for this many ids and no more
longest : (h : Assignment) (path : List ℕ) → 0 < length h → IsLongest h path (followed h path)
longest h path l =
    let o : (trace : List Event) × In trace h × (common path (id_list trace) ≡ followed h path) = follows-one h path l in
    record {
      within = (let a : common path (id_list o.0) ≤ length path = common-le path (id_list o.0) in let e : common path (id_list o.0) ≡ followed h path = o.2 in omega arith);
      begins = (o.0, Contains-In o.0 h o.1, subst (λ (z : ℕ). Begins (take z path) (id_list o.0)) o.2 (common-begins path (id_list o.0)));
      longest = λ m trace a b c d.
          let e : common path (id_list trace) ≤ followed h path = followed-in path trace h (In-Contains h trace c) in
          let f : m ≤ common path (id_list trace) = begins-common m path (id_list trace) b d in
          absurd (omega arith);
    }

-- a path from INITIAL on follows each trace for one id at least
from-start : (h : Assignment) (path : List ℕ) → 0 < length h → slice_get path 0 ≡ Some 0 → 0 < followed h path
from-start [] path l e = absurd (omega arith)
from-start (t ∷ h) [] l e = absurd (none-some 0 e)
from-start (t ∷ h) (x ∷ xs) l e =
    let a : common (x ∷ xs) (id_list t) ≤ followed (t ∷ h) (x ∷ xs) = followed-in (x ∷ xs) t (t ∷ h) (inl refl) in
    let b : 1 ≤ common (x ∷ xs) (id_list t) = begins-common 1 (x ∷ xs) (id_list t) (omega arith) ((let z : Some x ≡ Some 0 = e in cc), tt) in
    omega arith

-- a number but 0 is the one after that before it
suc-pred : (n : ℕ) → 0 < n → suc (pred n) ≡ n
suc-pred zero l = absurd (omega arith)
suc-pred (suc n) l = refl

-- the stitch is the last place up to which the path follows the traces
pub stitch_is_last : StitchIsLast
stitch_is_last h path l = (longest h path l, λ e. suc-pred (followed h path) (from-start h path l e))
