-- How far a path is followed, place by place.
use Rattle.std.proofs.Common.{◌≡◌, ◌≢◌, ℕ, suc, ◌+◌, ◌≤◌, ◌<◌, ◌==◌, if◌then◌else◌, true, false, List, [], ◌∷◌, length, drop, get_or, refl, sym, ◌∙◌, ap, ap₂, arith, eq-eqb, ne_eqb}
use Rattle.std.proofs.lemmas.List.{drop_more, drop_all}
use Rattle.replay_check.specs.Laid.{common_in_trace}

-- the path before a place is followed
abbrev pub IsCommon : List ℕ → List ℕ → ℕ → ℕ → Type 0
IsCommon path ids from k = common_in_trace path (drop from ids) ≡ k + common_in_trace (drop k path) (drop (from + k) ids)

none : (path : List ℕ) → common_in_trace path [] ≡ 0
none [] = refl
none (x ∷ path) = refl

-- the ids end
pub common-end : (path ids : List ℕ) (from k : ℕ) → length ids ≤ from + k → IsCommon path ids from k → k ≡ common_in_trace path (drop from ids)
common-end path ids from k l i =
    let e : common_in_trace (drop k path) (drop (from + k) ids) ≡ 0 = ap (λ (ys : List ℕ). common_in_trace (drop k path) ys) (drop_all (from + k) ids l) ∙ none (drop k path) in
    omega arith

-- the path ends
pub common-all : (path ids : List ℕ) (from k : ℕ) → length path ≤ k → k ≤ length path → IsCommon path ids from k → length path ≡ common_in_trace path (drop from ids)
common-all path ids from k l m i =
    let e : common_in_trace (drop k path) (drop (from + k) ids) ≡ 0 = ap (λ (xs : List ℕ). common_in_trace xs (drop (from + k) ids)) (drop_all k path l) in
    omega arith

here : (path ids : List ℕ) (from k : ℕ) → k < length path → from + k < length ids
    → common_in_trace (drop k path) (drop (from + k) ids)
    ≡ (if get_or path k 0 == get_or ids (from + k) 0 then (if get_or ids (from + k) 0 == 1 then 1 else suc (common_in_trace (drop (k + 1) path) (drop ((from + k) + 1) ids))) else 0)
here path ids from k l m = ap₂ (λ (xs ys : List ℕ). common_in_trace xs ys) (drop_more path k 0 l) (drop_more ids (from + k) 0 m)

-- the ids leave the path
pub common-left : (path ids : List ℕ) (from k : ℕ) → k < length path → from + k < length ids → get_or ids (from + k) 0 ≢ get_or path k 0 → IsCommon path ids from k
    → k ≡ common_in_trace path (drop from ids)
common-left path ids from k l m n i =
    let f : (get_or path k 0 == get_or ids (from + k) 0) ≡ false = ne_eqb (get_or path k 0) (get_or ids (from + k) 0) (λ e. n (sym e)) in
    let e : common_in_trace (drop k path) (drop (from + k) ids) ≡ 0 = here path ids from k l m ∙ rw f refl in
    omega arith

-- the trace ends
pub common-stops : (path ids : List ℕ) (from k : ℕ) → k < length path → from + k < length ids → get_or ids (from + k) 0 ≡ get_or path k 0 → get_or path k 0 ≡ 1 → IsCommon path ids from k
    → k + 1 ≡ common_in_trace path (drop from ids)
common-stops path ids from k l m n t i =
    let f : (get_or path k 0 == get_or ids (from + k) 0) ≡ true = eq-eqb (get_or path k 0) (get_or ids (from + k) 0) (sym n) in
    let g : (get_or ids (from + k) 0 == 1) ≡ true = eq-eqb (get_or ids (from + k) 0) 1 (n ∙ t) in
    let e : common_in_trace (drop k path) (drop (from + k) ids) ≡ 1 = here path ids from k l m ∙ rw (f, g) refl in
    omega arith

-- both go on
pub common-on : (path ids : List ℕ) (from k : ℕ) → k < length path → from + k < length ids → get_or ids (from + k) 0 ≡ get_or path k 0 → get_or path k 0 ≢ 1 → IsCommon path ids from k
    → IsCommon path ids from (k + 1)
common-on path ids from k l m n t i =
    let f : (get_or path k 0 == get_or ids (from + k) 0) ≡ true = eq-eqb (get_or path k 0) (get_or ids (from + k) 0) (sym n) in
    let g : (get_or ids (from + k) 0 == 1) ≡ false = ne_eqb (get_or ids (from + k) 0) 1 (λ e. t (sym n ∙ e)) in
    let a : from + (k + 1) ≡ (from + k) + 1 = omega arith in
    let e : common_in_trace (drop k path) (drop (from + k) ids) ≡ suc (common_in_trace (drop (k + 1) path) (drop (from + (k + 1)) ids)) =
    here path ids from k l m ∙ rw (f, g) (ap (λ z. suc (common_in_trace (drop (k + 1) path) (drop z ids))) (sym a)) in
    omega arith
