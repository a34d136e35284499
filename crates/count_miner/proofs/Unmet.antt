-- How many types are still to be met where a word is read from one end.
use Rattle.std.proofs.Common.{◌≡◌, ◌≢◌, ℕ, zero, suc, ◌+◌, ◌-◌, ◌<◌, ◌≤◌, Bool, true, false, not, ◌&&◌, ◌||◌, List, ◌∷◌, ◌++◌, length, get_or, take, drop, cond, refl, sym, ap, ap₂, ◌∙◌, ⊎_elim, arith, count_by, take_all}
use Rattle.std.proofs.Math.Dec.{ltb}
use Rattle.std.proofs.Math.Seq.{take-suc}
use Rattle.std.proofs.lemmas.Bool.{cases_Bool, cases_eq, ne_eqb, lt-ltb, le-ltb}
use Rattle.std.proofs.lemmas.Bool.Decides.{Decides-eqb}
use Rattle.std.proofs.lemmas.List.{drop_all, take-append-drop}
use Rattle.invariants.specs.Holds.{occurs}
use Rattle.count_miner.specs.Counts.{followed_count, type_count}
use Rattle.count_miner.proofs.Read.{none-counted, none-followed, occurs-within, rest-more, some-counted}
use Rattle.count_miner.proofs.Sums.{sum-more}

-- how many numbers below a bound pass a test
abbrev pub how_many : (ℕ → Bool) → ℕ → ℕ
how_many test zero = 0
how_many test (suc n) = cond (test n) 1 0 + how_many test n

-- tests that agree below the bound
pub as-many-pass : (f g : ℕ → Bool) (n : ℕ) → ((k : ℕ) → k < n → f k ≡ g k) → how_many f n ≡ how_many g n
as-many-pass f g zero same = refl
as-many-pass f g (suc n) same =
    ap₂ (λ (t : Bool) (m : ℕ). cond t 1 0 + m) (same n (omega arith)) (as-many-pass f g n (λ k below. same k (omega (arith, below))))

-- tests that agree but at one number, at which one passes and the other does not, or neither does
pub one-apart : (f g : ℕ → Bool) (p n : ℕ) (t : Bool) → p < n → cond (f p) 1 0 ≡ cond t 1 0 + cond (g p) 1 0 → ((k : ℕ) → k ≢ p → f k ≡ g k) → how_many f n ≡ cond t 1 0 + how_many g n
one-apart f g p zero t inside at same = absurd (omega (arith, inside))
one-apart f g p (suc n) t inside at same =
    let one : Bool → ℕ = λ b. cond b 1 0 in
    ⊎_elim
    (λ (here : p ≡ n).
    let rest : how_many f n ≡ how_many g n = as-many-pass f g n (λ k below. same k (λ is. absurd (omega (arith, below, is, here)))) in
    omega (arith, at, rest, ap (λ k. one (f k)) here, ap (λ k. one (g k)) here))
    (λ (other : p ≢ n).
    let rest : how_many f n ≡ cond t 1 0 + how_many g n = one-apart f g p n t (omega (arith, inside, other)) at same in
    omega (arith, rest, ap one (same n (λ is. other (sym is)))))
    (cases_eq p n)

-- where none is counted, none passes
pub none-pass : (f : ℕ → Bool) (n k : ℕ) → how_many f n ≡ 0 → k < n → f k ≡ false
none-pass f zero k none below = absurd (omega (arith, below))
none-pass f (suc n) k none below =
    let one : Bool → ℕ = λ b. cond b 1 0 in
    ⊎_elim
    (λ (here : k ≡ n). ap f here ∙ off (f n) (omega (arith, none)))
    (λ (other : k ≢ n). none-pass f n k (omega (arith, none)) (omega (arith, below, other)))
    (cases_eq k n)
  where
    off : (t : Bool) → ◌≡◌ {A = ℕ} (cond t 1 0) 0 → t ≡ false
    off true e = absurd (omega (arith, e))
    off false e = refl

-- the places of a list whose items pass are as many as the items that pass
pub places-pass : (test : ℕ → Bool) (xs : List ℕ) (n : ℕ) → n ≤ length xs → how_many (λ k. test (get_or xs k 0)) n ≡ count_by test (take n xs)
places-pass test xs zero inside = refl
places-pass test xs (suc n) inside =
    let more : count_by test (take (suc n) xs) ≡ count_by test (take n xs) + cond (test (get_or xs n 0)) 1 0 =
    ap (count_by test) (take-suc xs n 0 (omega (arith, inside))) ∙ sum-more (λ k. cond (test k) 1 0) (take n xs) (get_or xs n 0) in
    omega (arith, more, places-pass test xs n (omega (arith, inside)))

-- a type that occurs in a word, and not in what is read of it, is still to be met
abbrev pub is_unmet : List ℕ → ℕ → ℕ → Bool
is_unmet word n b = occurs (b + 2) word && not (occurs (b + 2) (drop n word))

-- a type occurs exactly where it is counted
counted-occurs : (b : ℕ) (word : List ℕ) → ltb 0 (type_count b word) ≡ occurs b word
counted-occurs b word = ⊎_elim
    (λ hit. lt-ltb 0 (type_count b word) (omega (arith, some-counted b word hit)) ∙ sym hit)
    (λ miss. le-ltb 0 (type_count b word) (omega (arith, none-counted b word miss)) ∙ sym miss)
    (cases_Bool (occurs b word))

and_true : (t : Bool) → (t && true) ≡ t
and_true true = refl
and_true false = refl

-- before anything is read, all types that occur are still to be met
pub unmet-begin : (word all : List ℕ) → ((b : ℕ) → b < length all → get_or all b 0 ≡ type_count (b + 2) word)
    → count_by (λ n. ltb 0 n) all ≡ how_many (is_unmet word (length word)) (length all)
unmet-begin word all counts =
    let whole : count_by (λ n. ltb 0 n) (take (length all) all) ≡ count_by (λ n. ltb 0 n) all = ap (count_by (λ n. ltb 0 n)) (take_all (length all) all (omega arith)) in
    sym whole
    ∙ (sym (places-pass (λ n. ltb 0 n) all (length all) (omega arith))
    ∙ as-many-pass (λ k. ltb 0 (get_or all k 0)) (is_unmet word (length word)) (length all)
    (λ b inside.
    ap (ltb 0) (counts b inside)
    ∙ (counted-occurs (b + 2) word
    ∙ (sym (and_true (occurs (b + 2) word)) ∙ ap (λ (ws : List ℕ). occurs (b + 2) word && not (occurs (b + 2) ws)) (sym (drop_all (length word) word (omega arith)))))))

-- the type of an event is met where it is the first of its type
pub unmet-less : (word : List ℕ) (n types place : ℕ) (first : Bool) → 0 < n → n ≤ length word → get_or word (n - 1) 0 ≡ place + 2 → place < types
    → first ≡ not (occurs (place + 2) (drop n word)) → how_many (is_unmet word n) types ≡ cond first 1 0 + how_many (is_unmet word (n - 1)) types
unmet-less word n types place first some within is inside tells =
    let x : ℕ = place + 2 in
    let rest : drop (n - 1) word ≡ x ∷ drop n word = rest-more word n some within ∙ ap (λ y. y ∷ drop n word) is in
    let whole : occurs x word ≡ true =
    ap (occurs x) (sym (take-append-drop (n - 1) word)) ∙ (ap (λ (ws : List ℕ). occurs x (take (n - 1) word ++ ws)) rest ∙ occurs-within x (take (n - 1) word) (drop n word)) in
    let before : is_unmet word n place ≡ first = ap (λ t. t && not (occurs x (drop n word))) whole ∙ sym tells in
    let after : is_unmet word (n - 1) place ≡ false =
    ap (λ (ws : List ℕ). occurs x word && not (occurs x ws)) rest ∙ (ap (λ t. occurs x word && not (t || occurs x (drop n word))) ((Decides-eqb x x).1 refl) ∙ and_false (occurs x word)) in
    let one : Bool → ℕ = λ b. cond b 1 0 in
    one-apart (is_unmet word n) (is_unmet word (n - 1)) place types first inside
    (omega (arith, ap one before, ap one after))
    (λ k other.
    sym (ap (λ (ws : List ℕ). occurs (k + 2) word && not (occurs (k + 2) ws)) rest
    ∙ ap (λ t. occurs (k + 2) word && not (t || occurs (k + 2) (drop n word))) (ne_eqb x (k + 2) (λ same. other (omega (arith, same))))))
  where
    and_false : (t : Bool) → (t && false) ≡ false
    and_false true = refl
    and_false false = refl

-- as long as a type is still to be met, an event is left
pub unmet-left : (word : List ℕ) (types unmet n : ℕ) → unmet ≡ how_many (is_unmet word n) types → 0 < unmet → 0 < n
unmet-left word types unmet zero is some =
    let none : how_many (is_unmet word 0) types ≡ how_many (λ k. false) types = as-many-pass (is_unmet word 0) (λ k. false) types (λ k below. never (occurs (k + 2) word)) in
    absurd (omega (arith, is, some, none, nothing types))
  where
    never : (t : Bool) → (t && not t) ≡ false
    never true = refl
    never false = refl

    nothing : (m : ℕ) → how_many (λ k. false) m ≡ 0
    nothing zero = refl
    nothing (suc m) = omega (arith, nothing m)
unmet-left word types unmet (suc n) is some = omega arith

-- where no type is still to be met, all that is followed is counted
pub all-met : (a b : ℕ) (word : List ℕ) (n types : ℕ) → how_many (is_unmet word n) types ≡ 0 → b < types
    → cond (occurs (b + 2) (drop n word)) (followed_count a (b + 2) word) 0 ≡ followed_count a (b + 2) word
all-met a b word n types none inside =
    let met : is_unmet word n b ≡ false = none-pass (is_unmet word n) types b none inside in
    ⊎_elim
    (λ hit. ap (λ t. cond t (followed_count a (b + 2) word) 0) hit)
    (λ miss.
    let absent : occurs (b + 2) word ≡ false = sym (and_true (occurs (b + 2) word)) ∙ (ap (λ t. occurs (b + 2) word && not t) (sym miss) ∙ met) in
    ap (λ t. cond t (followed_count a (b + 2) word) 0) miss ∙ sym (none-followed a (b + 2) word absent))
    (cases_Bool (occurs (b + 2) (drop n word)))
