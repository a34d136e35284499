-- Lists of candidates, one type longer at a time, and what stands of them.
use Rattle.std.proofs.Common.{◌≡◌, ℕ, zero, suc, ◌+◌, Bool, true, false, List, [], ◌∷◌, ◌++◌, cond, map, filter, refl, sym, ap, ap₂, ◌∙◌, arith, append-nil, append_assoc}
use Rattle.std.proofs.lemmas.List.Concat.{flat_map-append}
use Rattle.std.proofs.lemmas.List.Elements.{filter-append}
use Rattle.std.proofs.lemmas.List.FromFn.{filter_of_map_range_with_len_more}
use Rattle.std.specs.List.{flat_map, range_with_len}
use Rattle.invariants.specs.declared.Kind.TheVariants.{AF, NF, AP}
use Rattle.invariants.specs.declared.Kinds.{Kinds}
use Rattle.invariants.specs.declared.Kinds.TheVariants.{Three, Four}
use Rattle.invariants.specs.declared.Kind.{Kind}
use Rattle.invariants.specs.declared.Invariant.{Invariant}
use Rattle.invariants.specs.Candidates.{invariant, types, of_first, of_pair}
use Rattle.invariants.specs.Mined.{holds_of_all, mined_for}
use Rattle.closure_miner.specs.Standing.{of_interrupted}

-- numbers in a row, and the next one
row-more : (a n j : ℕ) → a + n ≡ j → range_with_len a (suc n) ≡ range_with_len a n ++ j ∷ []
row-more a zero j e = let same : a ≡ j = omega arith in ap (λ k. k ∷ []) same
row-more a (suc n) j e = ap (λ l. a ∷ l) (row-more (a + 1) n j (omega arith))

-- the types of a log with one more
types-more : (n : ℕ) → types (n + 1) ≡ types n ++ (n + 2) ∷ []
types-more n = let next : n + 1 ≡ suc n = omega arith in ap types next ∙ row-more 2 n (n + 2) (omega arith)

-- what stands of what each type has, with one type more
all-more : (p : Invariant → Bool) (f : ℕ → List Invariant) (n : ℕ) → filter p (flat_map f (types (n + 1))) ≡ filter p (flat_map f (types n)) ++ filter p (f (n + 2))
all-more p f n =
    ap (λ ts. filter p (flat_map f ts)) (types-more n) ∙ ap (filter p) (flat_map-append f (types n) ((n + 2) ∷ []) ∙ ap (λ xs. flat_map f (types n) ++ xs) (append-nil (f (n + 2))))
    ∙ filter-append p (flat_map f (types n)) (f (n + 2))

-- one that stands, and the rest
joined : (stands : Bool) (inv : Invariant) (rest : List Invariant) → cond stands (inv ∷ []) [] ++ rest ≡ cond stands (inv ∷ rest) rest
joined true inv rest = refl
joined false inv rest = refl

-- what was added so far, and what comes behind it
added : (start so_far more old new : List Invariant) → old ≡ start ++ so_far → new ≡ old ++ more → new ≡ start ++ (so_far ++ more)
added start so_far more old new before now = now ∙ (ap (λ xs. xs ++ more) before ∙ append_assoc start so_far more)

-- what stands of what each type has is added, for one type more
pub all-added : (p : Invariant → Bool) (f : ℕ → List Invariant) (n : ℕ) (start old new : List Invariant) → old ≡ start ++ filter p (flat_map f (types n)) → new ≡ old ++ filter p (f (n + 2))
    → new ≡ start ++ filter p (flat_map f (types (n + 1)))
all-added p f n start old new before now = added start (filter p (flat_map f (types n))) (filter p (f (n + 2))) old new before now ∙ ap (λ xs. start ++ xs) (sym (all-more p f n))

-- that each trace has a type is added where it stands, for one type more
pub first-added : (p : Invariant → Bool) (n j : ℕ) (stands : Bool) (start old new : List Invariant) → j ≡ n + 2 → stands ≡ p (invariant AF 0 (n + 2))
    → old ≡ start ++ filter p (map (invariant AF 0) (types n)) → new ≡ old ++ cond stands (invariant AF 0 j ∷ []) [] → new ≡ start ++ filter p (map (invariant AF 0) (types (n + 1)))
first-added p n j stands start old new number is before now =
    let first : List Invariant = invariant AF 0 (n + 2) ∷ [] in
    let more : List Invariant = cond (p (invariant AF 0 (n + 2))) first [] in
    added start (filter p (map (invariant AF 0) (types n))) more old new before (now ∙ (ap (λ k. old ++ cond stands (invariant AF 0 k ∷ []) []) number ∙ ap (λ s. old ++ cond s first []) is))
    ∙ ap (λ xs. start ++ xs) (sym (filter_of_map_range_with_len_more p (invariant AF 0) 2 n (n + 2) (omega arith)))

-- what stands of a list, with one more before it
pub one-added : (p : Invariant → Bool) (kind : Kind) (a b x y : ℕ) (stands : Bool) (rest old mid new : List Invariant) → x ≡ a → y ≡ b → stands ≡ p (invariant kind a b)
    → mid ≡ old ++ cond stands (invariant kind x y ∷ []) [] → new ≡ mid ++ filter p rest → new ≡ old ++ filter p (invariant kind a b ∷ rest)
one-added p kind a b x y stands rest old mid new first second is before then =
    let inv : Invariant = invariant kind a b in
    then ∙ ap (λ l. l ++ filter p rest) (before ∙ ap₂ (λ k l. old ++ cond stands (invariant kind k l ∷ []) []) first second)
    ∙ (append_assoc old (cond stands (inv ∷ []) []) (filter p rest) ∙ ap (λ l. old ++ l) (joined stands inv (filter p rest)) ∙ ap (λ t. old ++ cond t (inv ∷ filter p rest) (filter p rest)) is)

-- the candidates between two types, the last of them apart
pub pair-parts : (kinds : Kinds) (a b : ℕ) → of_pair kinds a b ≡ invariant AF a b ∷ invariant NF a b ∷ invariant AP a b ∷ of_interrupted kinds a b
pair-parts Three a b = refl
pair-parts Four a b = refl

-- the candidates of both forms that stand are all that are mined
pub all-mined : (words : List (List ℕ)) (kinds : Kinds) (count : ℕ) (start firsts all : List Invariant) → firsts ≡ start ++ filter (holds_of_all words) (map (invariant AF 0) (types count))
    → all ≡ firsts ++ filter (holds_of_all words) (flat_map (of_first kinds count) (types count)) → all ≡ start ++ mined_for kinds count words
all-mined words kinds count start firsts all first second =
    let p : Invariant → Bool = holds_of_all words in
    let ones : List Invariant = map (invariant AF 0) (types count) in
    let pairs : List Invariant = flat_map (of_first kinds count) (types count) in
    added start (filter p ones) (filter p pairs) firsts all first second ∙ ap (λ xs. start ++ xs) (sym (filter-append p ones pairs))
