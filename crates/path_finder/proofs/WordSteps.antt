-- Words of bits: which numbers their bits are for.
use Rattle.std.proofs.Common.{◌≡◌, ◌==◌, ℕ, ◌+◌, ◌-◌, ◌*◌, ◌/◌, ◌%◌, ◌^◌, ◌<◌, ◌&&◌, not, Bool, true, bit_and, eq-eqb, eqb-true, sym, ap, subst, ◌∙◌, arith}
use Rattle.std.specs.Int.{bit_at}
use Rattle.std.proofs.lemmas.Bool.{and_parts}
use Rattle.std.proofs.lemmas.Nat.{div-add-mod', mod_below}
use Rattle.partition_graph.specs.NeighbourWords.{IsWordOf}
use Rattle.partition_graph.specs.Nexts.{IsNext}
use Rattle.partition_graph.proofs.NeighbourWords.{word-both, word-without}

-- the word of the numbers that have one property and not another
pub word-less : (a b : ℕ → Bool) (place x y : ℕ) → y < 2 ^ 64 → IsWordOf a place x → IsWordOf b place y → IsWordOf (λ n. a n && not (b n)) place (bit_and x (18446744073709551615 - y))
word-less a b place x y fits is less = word-both a (λ n. not (b n)) place x (18446744073709551615 - y) is (word-without b place y fits less)

-- the first number of a word is one of its numbers
pub first-of-word : (has : ℕ → Bool) (place x id : ℕ) → IsWordOf has place x → ((h : ℕ → Bool) → IsWordOf h (place * 64 / 64) x → IsNext h (place * 64) id) → (id / 64 ≡ place) × (has id ≡ true)
first-of-word has place x id is next =
    let own : ℕ → Bool = λ k. (k / 64 == place) && has k in
    let same : place ≡ place * 64 / 64 = omega (arith, div-add-mod' (place * 64) 64, mod_below (place * 64) 64 (omega arith)) in
    let its : IsWordOf own place x = λ i below.
    let here : (place * 64 + i) / 64 ≡ place = place-of place i below in
    is i below ∙ sym (ap (λ (b : Bool). b && has (place * 64 + i)) (eq-eqb ((place * 64 + i) / 64) place here)) in
    let both : ((id / 64 == place) ≡ true) × (has id ≡ true) = and_parts (id / 64 == place) (has id) (next own (subst (λ (w : ℕ). IsWordOf own w x) same its)).there in
    (eqb-true (id / 64) place both.0, both.1)
  where
    place-of : (p i : ℕ) → i < 64 → (p * 64 + i) / 64 ≡ p
    place-of p i below = omega (arith, below, div-add-mod' (p * 64 + i) 64, mod_below (p * 64 + i) 64 (omega arith))

-- and its bit is on
pub bit-of-word : (place x id : ℕ) → ((h : ℕ → Bool) → IsWordOf h (place * 64 / 64) x → IsNext h (place * 64) id) → (id / 64 ≡ place) × ((bit_at x (id % 64) == 1) ≡ true)
bit-of-word place x id next =
    first-of-word (λ n. bit_at x (n % 64) == 1) place x id
    (λ i below.
    let same : i ≡ (place * 64 + i) % 64 = omega (arith, below, div-add-mod' (place * 64 + i) 64, mod_below (place * 64 + i) 64 (omega arith)) in
    ap (λ (k : ℕ). bit_at x k == 1) same)
    next

-- a number of a word is between its first one and the first one of the next word
pub in-place : (place id : ℕ) → id / 64 ≡ place → place * 64 + id % 64 ≡ id
in-place place id here = omega (arith, here, div-add-mod' id 64)
