-- What is counted where a word is read from one end.
use Rattle.std.proofs.Common.{◌≡◌, ℕ, suc, ◌+◌, ◌-◌, ◌<◌, ◌≤◌, Bool, true, false, not, ◌&&◌, ◌||◌, List, [], ◌∷◌, ◌++◌, All, length, get_or, take, drop, cond, eqb, refl, sym, ap, subst, ◌∙◌, ⊎_elim, arith, drop-cons}
use Rattle.std.proofs.lemmas.Bool.{cases_Bool, ne_eqb, and_right, or_parts}
use Rattle.std.proofs.lemmas.Bool.Decides.{Decides-eqb}
use Rattle.std.proofs.lemmas.List.{get_or-reverse, length-reverse, take-append-drop}
use Rattle.invariants.specs.Holds.{occurs}
use Rattle.traces.specs.Kept.{IsTypeNumber}
use Rattle.count_miner.specs.Counts.{as_read, followed_count, type_count}
use Rattle.count_miner.proofs.Sums.{type_count-append, type_count-reverse, types-more}

-- as it is read, a word has as many events of each type
pub as-many : (from_end : Bool) (a : ℕ) (word : List ℕ) → type_count a (as_read from_end word) ≡ type_count a word
as-many true a word = refl
as-many false a word = type_count-reverse a word

-- as it is read, a word has as many events
pub as-long : (from_end : Bool) (word : List ℕ) → length (as_read from_end word) ≡ length word
as-long true word = refl
as-long false word = length-reverse word

-- as it is read, a word has numbers of types where it has them
pub numbers-read : (from_end : Bool) (types : ℕ) (word : List ℕ) → All (IsTypeNumber types) word → All (IsTypeNumber types) (as_read from_end word)
numbers-read true types word numbers = numbers
numbers-read false types word numbers = λ k d inside.
    let within : k < length word = omega (arith, inside, length-reverse word) in
    subst (IsTypeNumber types) (sym (get_or-reverse word k d within)) (numbers (length word - 1 - k) d (omega arith))

-- what does not occur is not counted
pub none-counted : (b : ℕ) (word : List ℕ) → occurs b word ≡ false → type_count b word ≡ 0
none-counted b [] none = refl
none-counted b (x ∷ word) none =
    let one : Bool → ℕ = λ t. cond t 1 0 in
    let parts = or_parts (eqb x b) (occurs b word) none in
    omega (arith, ap one parts.0, none-counted b word parts.1)

-- what occurs is counted
pub some-counted : (b : ℕ) (word : List ℕ) → occurs b word ≡ true → 1 ≤ type_count b word
some-counted b [] some = let one : Bool → ℕ = λ t. cond t 1 0 in absurd (omega (arith, ap one some))
some-counted b (x ∷ word) some = let one : Bool → ℕ = λ t. cond t 1 0 in ⊎_elim
    (λ hit. omega (arith, ap one hit))
    (λ miss. omega (arith, some-counted b word (sym (ap (λ t. t || occurs b word) miss) ∙ some)))
    (cases_Bool (eqb x b))

-- nothing is followed by what does not occur
pub none-followed : (a b : ℕ) (word : List ℕ) → occurs b word ≡ false → followed_count a b word ≡ 0
none-followed a b [] none = refl
none-followed a b (x ∷ word) none =
    let one : Bool → ℕ = λ t. cond t 1 0 in
    let rest = (or_parts (eqb x b) (occurs b word) none).1 in
    omega (arith, ap one (and_right (eqb x a) (occurs b word) rest), none-followed a b word rest)

-- an event occurs in its word
pub occurs-within : (b : ℕ) (front back : List ℕ) → occurs b (front ++ b ∷ back) ≡ true
occurs-within b [] back = ap (λ t. t || occurs b back) ((Decides-eqb b b).1 refl)
occurs-within b (x ∷ front) back = ap (λ t. eqb x b || t) (occurs-within b front back) ∙ or_true (eqb x b)
  where
    or_true : (t : Bool) → (t || true) ≡ true
    or_true true = refl
    or_true false = refl

-- the events that stand before the last event of a type are those that it follows
before-last : (a b : ℕ) (front back : List ℕ) → occurs b back ≡ false → followed_count a b (front ++ b ∷ back) ≡ type_count a front
before-last a b [] back none = let one : Bool → ℕ = λ t. cond t 1 0 in omega (arith, ap one (and_right (eqb b a) (occurs b back) none), none-followed a b back none)
before-last a b (x ∷ front) back none =
    let one : Bool → ℕ = λ t. cond t 1 0 in
    omega (arith, ap one (ap (λ o. eqb x a && o) (occurs-within b front back) ∙ and_true (eqb x a)), before-last a b front back none)
  where
    and_true : (t : Bool) → (t && true) ≡ t
    and_true true = refl
    and_true false = refl

-- all events of a type are left where none of them is read
pub all-left : (b : ℕ) (word : List ℕ) (n : ℕ) → eqb (type_count b (take n word)) (type_count b word) ≡ not (occurs b (drop n word))
all-left b word n =
    let sum : type_count b word ≡ type_count b (take n word) + type_count b (drop n word) =
    ap (type_count b) (sym (take-append-drop n word)) ∙ type_count-append b (take n word) (drop n word) in
    ⊎_elim
    (λ hit. ne_eqb _ _ (λ e. absurd (omega (arith, e, sum, some-counted b (drop n word) hit))) ∙ sym (ap not hit))
    (λ miss. (Decides-eqb _ _).1 (omega (arith, sum, none-counted b (drop n word) miss)) ∙ sym (ap not miss))
    (cases_Bool (occurs b (drop n word)))

-- the rest of a list from one place before
pub rest-more : (xs : List ℕ) (n : ℕ) → 0 < n → n ≤ length xs → drop (n - 1) xs ≡ get_or xs (n - 1) 0 ∷ drop n xs
rest-more xs n some within =
    let next : suc (n - 1) ≡ n = omega arith in
    drop-cons xs (n - 1) 0 (omega arith) ∙ ap (λ m. get_or xs (n - 1) 0 ∷ drop m xs) next

-- what is left before an event is read: the event and the others
pub left-before : (a : ℕ) (word : List ℕ) (n : ℕ) → 0 < n → n ≤ length word → type_count a (take n word) ≡ cond (eqb (get_or word (n - 1) 0) a) 1 0 + type_count a (take (n - 1) word)
left-before a word n some within =
    let next : n ≡ n - 1 + 1 = omega arith in
    ap (λ m. type_count a (take m word)) next ∙ (types-more a word (n - 1) (omega arith) ∙ omega arith)

-- a type has its count where it was read, or where it is read now
grows : (s o : Bool) (base old new count added : ℕ) → old ≡ base + cond o count 0 → new ≡ old + cond (s && not o) added 0 → (s ≡ true → o ≡ false → count ≡ added) → new ≡ base + cond (s || o) count 0
grows true true base old new count added was step fits = omega (arith, was, step)
grows true false base old new count added was step fits = omega (arith, was, step, fits refl refl)
grows false o base old new count added was step fits = omega (arith, was, step)

-- an event that is read makes the counts of its type whole where it is the first of it
pub counted-more : (a b : ℕ) (word : List ℕ) (n : ℕ) (base old new left all added : ℕ) → 0 < n → n ≤ length word
    → left ≡ type_count b (take n word) → all ≡ type_count b word → added ≡ type_count a (take (n - 1) word)
    → old ≡ base + cond (occurs b (drop n word)) (followed_count a b word) 0
    → new ≡ old + cond (eqb (get_or word (n - 1) 0) b && eqb left all) added 0
    → new ≡ base + cond (occurs b (drop (n - 1) word)) (followed_count a b word) 0
counted-more a b word n base old new left all added some within is_left is_all is_added was step =
    let x : ℕ = get_or word (n - 1) 0 in
    let rest = rest-more word n some within in
    let test : eqb left all ≡ not (occurs b (drop n word)) =
    ap (λ m. eqb m all) is_left ∙ (ap (eqb (type_count b (take n word))) is_all ∙ all-left b word n) in
    grows (eqb x b) (occurs b (drop n word)) base old new (followed_count a b word) added was (step ∙ ap (λ t. old + cond (eqb x b && t) added 0) test)
    (λ hit none.
    let same : x ≡ b = (Decides-eqb x b).0 hit in
    let whole : word ≡ take (n - 1) word ++ b ∷ drop n word =
    sym (take-append-drop (n - 1) word) ∙ (ap (λ xs. take (n - 1) word ++ xs) rest ∙ ap (λ y. take (n - 1) word ++ y ∷ drop n word) same) in
    ap (followed_count a b) whole ∙ (before-last a b (take (n - 1) word) (drop n word) none ∙ sym is_added))
    ∙ ap (λ xs. base + cond (occurs b xs) (followed_count a b word) 0) (sym rest)

-- where no count of a type was made yet, there is room for it
pub room-left : (a b : ℕ) (word : List ℕ) (n : ℕ) (base old left all : ℕ) → left ≡ type_count b (take n word) → all ≡ type_count b word → left ≡ all
    → old ≡ base + cond (occurs b (drop n word)) (followed_count a b word) 0 → old ≡ base
room-left a b word n base old left all is_left is_all same was =
    let none : not (occurs b (drop n word)) ≡ true = sym (all-left b word n) ∙ (Decides-eqb _ _).1 (omega (arith, is_left, is_all, same)) in
    was ∙ without (occurs b (drop n word)) (followed_count a b word) none
  where
    without : (t : Bool) (count : ℕ) → not t ≡ true → base + cond t count 0 ≡ base
    without true count none = let one : Bool → ℕ = λ t. cond t 1 0 in absurd (omega (arith, ap one none))
    without false count none = omega arith

-- what is followed by an event of a type is counted where the type occurs
pub where-occurs : (a b : ℕ) (word : List ℕ) → cond (occurs b word) (followed_count a b word) 0 ≡ followed_count a b word
where-occurs a b word = ⊎_elim
    (λ hit. ap (λ t. cond t (followed_count a b word) 0) hit)
    (λ miss. ap (λ t. cond t (followed_count a b word) 0) miss ∙ sym (none-followed a b word miss))
    (cases_Bool (occurs b word))
