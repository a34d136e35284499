-- How many paths refinement asks for where some invariants are known to be satisfied.
use Rattle.std.proofs.Common.{◌≡◌, ℕ, zero, suc, ◌+◌, ◌≤◌, Bool, true, false, not, cond, List, [], map, refl, sym, ap, ◌∙◌, add-one, arith}
use Rattle.std.specs.List.{range_with_len}
use Rattle.std.proofs.lemmas.List.FromFn.{length-map-range_with_len, sum_by-map-range_with_len_more}
use Rattle.std.proofs.lemmas.List.Sums.{count_by-le-length}
use Rattle.splitter.specs.Refining.{asked_count, is_known}

-- one invariant more is asked for where no flag says that it is satisfied
asked-more : (known : List Bool) (n : ℕ) → asked_count known (n + 1) ≡ asked_count known n + cond (not (is_known known n)) 1 0
asked-more known n = sum_by-map-range_with_len_more (λ (b : Bool). cond (not b) 1 0) (λ (k : ℕ). is_known known k) 0 n n (omega arith)

-- an invariant that is known to be satisfied is not asked for
pub asked-known : (known : List Bool) (n : ℕ) → is_known known n ≡ true → asked_count known (n + 1) ≡ asked_count known n
asked-known known n e = omega (arith, asked-more known n, ap {B = ℕ} (λ (b : Bool). cond (not b) 1 0) e)

-- an invariant that is not known to be satisfied is asked for
pub asked-unknown : (known : List Bool) (n : ℕ) → is_known known n ≡ false → asked_count known (n + 1) ≡ asked_count known n + 1
asked-unknown known n e = omega (arith, asked-more known n, ap {B = ℕ} (λ (b : Bool). cond (not b) 1 0) e)

-- no more are asked for than there are invariants
pub asked-few : (known : List Bool) (n : ℕ) → asked_count known n ≤ n
asked-few known n =
    let flags : List Bool = map (λ (k : ℕ). is_known known k) (range_with_len 0 n) in
    omega (arith, count_by-le-length (λ (b : Bool). not b) flags, length-map-range_with_len (λ (k : ℕ). is_known known k) 0 n)

-- where nothing is known, all are asked for
pub asked-all : (n : ℕ) → asked_count [] n ≡ n
asked-all zero = refl
asked-all (suc n) =
    ap (λ (m : ℕ). asked_count [] m) (sym (add-one n)) ∙ asked-unknown [] n refl ∙ ap (λ (m : ℕ). m + 1) (asked-all n) ∙ add-one n
