-- Laws over the definitions.
use Rattle.std.specs.Prelude.{◌≡◌, ◌≢◌, ◌↔◌, ◌+◌, ℕ, suc, ◌<◌, ◌≤◌, ◌⊎◌, Bool, true, false, List, [], ◌∷◌, ◌++◌, length, take, slice_index, slice_get, Some, Contains}
use Rattle.std.specs.List.{AllByRecursion}
use Rattle.limits.specs.declared.TheConstants.{INITIAL, FIRST_TYPE}
use Rattle.invariants.specs.declared.Invariant.{Invariant}
use Rattle.invariants.specs.Holds.{Holds}
use Rattle.partition_model.specs.Graphs.{Graph, IsPath, word, Accepts, Satisfies, Breaks, Merged, IsLeastViolation, IsFormed}
use Rattle.partition_model.specs.Assignments.{Event, Assignment, id_list, word_of, events, AllEvents, IsTyped, G, members, types_of, by_type, inner_words, with_ends}
use Rattle.partition_model.specs.Labels.{IsInductive, Reached}
use Rattle.invariants.specs.declared.records.Split.{Split}
use Rattle.partition_model.specs.Refinement.{split, Begins, followed, stitch, next_id, Splits, Refines, SatisfiesAll, IsNextSplit, after_split}
use Rattle.invariants.specs.declared.records.Merge.{Merge}
use Rattle.partition_model.specs.Coarsening.{merge, merged_by, IsPair, PairBefore, IsNextMerge, NoMerge, Coarsens}

-- the graph of an assignment is formed
abbrev pub GraphsAreFormed : Type 0
GraphsAreFormed = (h : Assignment) → IsTyped h → IsFormed (G h)

-- the merged graph of a formed graph is formed, and q is gone from it
abbrev pub MergedAreFormed : Type 0
MergedAreFormed =
    (g : Graph) (p q : ℕ) → IsFormed g → FIRST_TYPE ≤ p → p < q → g.listed p ≡ true
    → IsFormed (Merged g p q) × ((Merged g p q).listed q ≡ false)

-- no event has this id, and it is not the id of an end
abbrev pub IsFresh : ℕ → Assignment → Type 0
IsFresh n h = (FIRST_TYPE ≤ n) × AllEvents (λ e. e.id ≢ n) h

-- some events of p, whichever they are, have the new id n, and nothing else changed
pub record IsDivided (p n : ℕ) (h divided : Assignment) : Type 0 where
  pub fresh : IsFresh n h
  pub undone : merge p n divided ≡ h

-- every word that is accepted after a division of an id was accepted before
abbrev pub DivisionShrinks : Type 0
DivisionShrinks =
    (h divided : Assignment) (p n : ℕ) → IsTyped h → IsDivided p n h divided → (w : List ℕ)
    → Accepts (G divided) w → Accepts (G h) w

-- so a division keeps each invariant that is satisfied
abbrev pub DivisionKeeps : Type 0
DivisionKeeps =
    (h divided : Assignment) (p n : ℕ) → IsTyped h → IsDivided p n h divided → (inv : Invariant)
    → Satisfies (G h) inv → Satisfies (G divided) inv

-- a split is such a division
abbrev pub SplitIsDivision : Type 0
SplitIsDivision = (h : Assignment) (p q n : ℕ) → IsFresh n h → IsDivided p n h (split p q n h)

-- every word that is accepted after a split was accepted before
abbrev pub SplitShrinks : Type 0
SplitShrinks =
    (h : Assignment) (p q n : ℕ) → IsTyped h → IsFresh n h → (w : List ℕ) → Accepts (G (split p q n h)) w
    → Accepts (G h) w

-- so a split keeps each invariant that is satisfied
abbrev pub SplitKeeps : Type 0
SplitKeeps =
    (h : Assignment) (p q n : ℕ) → IsTyped h → IsFresh n h → (inv : Invariant) → Satisfies (G h) inv
    → Satisfies (G (split p q n h)) inv

-- every word that the graph accepts is accepted by the merged graph
abbrev pub MergeGrows : Type 0
MergeGrows =
    (g : Graph) (p q : ℕ) → FIRST_TYPE ≤ p → p < q → g.typ p ≡ g.typ q → (w : List ℕ) → Accepts g w
    → Accepts (Merged g p q) w

-- so an invariant that the merged graph satisfies was satisfied before
abbrev pub MergedKeeps : Type 0
MergedKeeps =
    (g : Graph) (p q : ℕ) → FIRST_TYPE ≤ p → p < q → g.typ p ≡ g.typ q → (inv : Invariant)
    → Satisfies (Merged g p q) inv → Satisfies g inv

-- no path of the merged graph visits the id that was merged away
abbrev pub MergedPathsAvoid : Type 0
MergedPathsAvoid =
    (g : Graph) (p q : ℕ) → FIRST_TYPE ≤ q → (path : List ℕ) → IsPath (Merged g p q) path
    → AllByRecursion (λ x. x ≢ q) path

-- the same edges, the same listed ids with the same types, and the same paths with the same words
pub record AreSame (g k : Graph) : Type 0 where
  pub edges : (u v : ℕ) → g.edge u v ≡ k.edge u v
  pub listed : (u : ℕ) → g.listed u ≡ k.listed u
  pub types : (u : ℕ) → k.listed u ≡ true → g.typ u ≡ k.typ u
  pub paths : (path : List ℕ) → IsPath g path ↔ IsPath k path
  pub words : (path : List ℕ) → IsPath k path → word g path ≡ word k path

-- the graph of the merged assignment is the merged graph
abbrev pub MergeIsMerged : Type 0
MergeIsMerged = (h : Assignment) (p q : ℕ) → IsTyped h → IsPair (G h) p q
    → AreSame (G (merge p q h)) (Merged (G h) p q)

-- a pair whose merge loses an invariant still loses it after another merge, if it is still a pair
abbrev pub LostStaysLost : Type 0
LostStaysLost =
    (h : Assignment) (p q r s : ℕ) → IsTyped h → IsPair (G h) p q → IsPair (G (merge p q h)) r s
    → (invs : List Invariant)
    → SatisfiesAll (G (merge r s (merge p q h))) invs → SatisfiesAll (G (merge r s h)) invs

-- each of these merges is of a pair of the graph that the merges before it give
abbrev pub MergeInTurn : Assignment → List Merge → Type 0
MergeInTurn h [] = Unit {0}
MergeInTurn h (m ∷ ms) = IsPair (G h) m.p m.q × MergeInTurn (merge m.p m.q h) ms

-- and so it is after any number of merges
abbrev pub LostThroughMerges : Type 0
LostThroughMerges =
    (invs : List Invariant) (h : Assignment) (ms : List Merge) (r s : ℕ) → IsTyped h → MergeInTurn h ms
    → IsPair (G (merged_by ms h)) r s
    → IsPair (G h) r s
    × (SatisfiesAll (G (merge r s (merged_by ms h))) invs → SatisfiesAll (G (merge r s h)) invs)

-- the list of ids of each trace is a path of the graph, with the word of the trace
abbrev pub AcceptsTraces : Type 0
AcceptsTraces =
    (h : Assignment) → IsTyped h
    → AllByRecursion (λ trace. IsPath (G h) (id_list trace) × (word (G h) (id_list trace) ≡ word_of trace)) h

-- the path of a trace breaks no invariant that holds of every trace's word
abbrev pub TracesBreakNone : Type 0
TracesBreakNone =
    (h : Assignment) (inv : Invariant) → IsTyped h → AllByRecursion (λ trace. Holds inv (word_of trace)) h
    → AllByRecursion (λ trace. Holds inv (word (G h) (id_list trace))) h

-- the stitch is strictly between the ends of the path, and after the split there both ids have events
pub record Divides (h : Assignment) (path : List ℕ) (n : ℕ) : Type 0 where
  pub after_start : 1 ≤ stitch h path
  pub before_end : stitch h path + 1 < length path
  pub moved : 0 < members
      (split (slice_index path (stitch h path)) (slice_index path (stitch h path + 1)) n h) n
  pub left : 0 < members
      (split (slice_index path (stitch h path)) (slice_index path (stitch h path + 1)) n h)
      (slice_index path (stitch h path))

-- so it is for each path that breaks an invariant that holds of every trace's word
abbrev pub StitchDivides : Type 0
StitchDivides =
    (h : Assignment) (inv : Invariant) (path : List ℕ) (n : ℕ) → IsTyped h → IsFresh n h
    → AllByRecursion (λ trace. Holds inv (word_of trace)) h → Breaks (G h) inv path → Divides h path n

-- the first n ids of the path are a prefix of some trace's list of ids, and no longer prefix of the path is
pub record IsLongest (h : Assignment) (path : List ℕ) (n : ℕ) : Type 0 where
  pub within : n ≤ length path
  pub begins : (trace : List Event) × Contains h trace × Begins (take n path) (id_list trace)
  pub longest : (m : ℕ) (trace : List Event) → n < m → m ≤ length path → Contains h trace
      → Begins (take m path) (id_list trace) → ⊥

-- if there is a trace, `followed` is the length of this longest prefix;
-- if the path begins with INITIAL, the stitch is the last place of the prefix
abbrev pub StitchIsLast : Type 0
StitchIsLast =
    (h : Assignment) (path : List ℕ) → 0 < length h
    → IsLongest h path (followed h path)
    × (slice_get path 0 ≡ Some INITIAL → suc (stitch h path) ≡ followed h path)

-- if the labels are inductive, the graph satisfies the invariant
abbrev pub InductiveSatisfies : Type 0
InductiveSatisfies =
    (inv : Invariant) (g : Graph) (labels : ℕ → ℕ → Bool) → IsInductive inv g (λ p s. labels p s ≡ true)
    → Satisfies g inv

-- if the graph satisfies the invariant, the reached states are inductive
abbrev pub ReachedIsInductive : Type 0
ReachedIsInductive = (inv : Invariant) (g : Graph) → Satisfies g inv → IsInductive inv g (Reached inv g)

-- and if the reached states are inductive, the graph satisfies the invariant
abbrev pub ReachedSatisfies : Type 0
ReachedSatisfies = (inv : Invariant) (g : Graph) → IsInductive inv g (Reached inv g) → Satisfies g inv

-- the merge of each pair before (p, q) loses an invariant
abbrev pub LostBefore : List Invariant → Assignment → ℕ → ℕ → Type 0
LostBefore invs h p q =
    (r s : ℕ) → IsPair (G h) r s → PairBefore r s p q → SatisfiesAll (G (merge r s h)) invs → ⊥

-- if the merge of each pair before (p, q) loses an invariant, and that of (p, q) loses none, it is the next one;
-- after it, each pair up to (p, q) still loses one, and the assignment is still typed
abbrev pub OnePassMerges : Type 0
OnePassMerges =
    (invs : List Invariant) (h : Assignment) (p q : ℕ) → IsTyped h → IsPair (G h) p q
    → LostBefore invs h p q → SatisfiesAll (G (merge p q h)) invs
    → IsNextMerge invs h (record { p = p; q = q })
    × LostBefore invs (merge p q h) p (q + 1) × IsTyped (merge p q h)

-- the pairs ascend strictly, and the first is after (p, q)
abbrev pub PairsAscend : ℕ → ℕ → List Merge → Type 0
PairsAscend p q [] = Unit {0}
PairsAscend p q (m ∷ ms) = PairBefore p q m.p m.q × PairsAscend m.p m.q ms

-- the pair is in the list
abbrev pub IsAmong : ℕ → ℕ → List Merge → Type 0
IsAmong r s [] = ⊥
IsAmong r s (m ∷ ms) = ((m.p ≡ r) × (m.q ≡ s)) ⊎ IsAmong r s ms

-- one pass over a list of pairs: a pair is merged if its ids are still there and the merge keeps every invariant
abbrev pub Passes : List Invariant → Assignment → List Merge → List Merge → Assignment → Type 0
Passes invs h [] merges end = (merges ≡ []) × (end ≡ h)
Passes invs h (m ∷ rest) merges end =
    (IsPair (G h) m.p m.q × SatisfiesAll (G (merge m.p m.q h)) invs
    × ((more : List Merge) × (merges ≡ m ∷ more) × Passes invs (merge m.p m.q h) rest more end))
    ⊎ ((IsPair (G h) m.p m.q → SatisfiesAll (G (merge m.p m.q h)) invs → ⊥) × Passes invs h rest merges end)

-- one pass over all pairs, in ascending order, makes the whole run of coarsening
abbrev pub OnePassCoarsens : Type 0
OnePassCoarsens =
    (invs : List Invariant) (h : Assignment) (pairs merges : List Merge) (end : Assignment) → IsTyped h
    → PairsAscend 0 0 pairs → ((r s : ℕ) → IsPair (G h) r s → IsAmong r s pairs)
    → Passes invs h pairs merges end → Coarsens invs h merges end

-- the list of events is a suffix of some trace
abbrev pub EndsIn : List Event → Assignment → Type 0
EndsIn rest [] = ⊥
EndsIn rest (t ∷ h) = ((front : List Event) × (front ++ rest ≡ t)) ⊎ EndsIn rest h

-- suffixes of traces with equal types begin with the same id
abbrev pub OneIdPerRest : Assignment → Type 0
OneIdPerRest h =
    (a b : List Event) → EndsIn a h → EndsIn b h → types_of a ≡ types_of b → next_id a ≡ next_id b

-- so it is in every state of refinement
abbrev pub RestsStayTogether : Type 0
RestsStayTogether =
    (invs : List Invariant) (inner : List (List ℕ)) (n : ℕ) (splits : List Split) (end : Assignment)
    → Splits invs (by_type inner) n splits end → OneIdPerRest end

-- the list of numbers is one of the lists
abbrev pub IsOneOf : List ℕ → List (List ℕ) → Type 0
IsOneOf w [] = ⊥
IsOneOf w (v ∷ vs) = (v ≡ w) ⊎ IsOneOf w vs

-- a state of refinement of the words: the ids are those below n, each with events, of one type
pub record IsRun (words : List (List ℕ)) (h : Assignment) (n : ℕ) : Type 0 where
  pub words_are : inner_words h ≡ words
  pub typed : IsTyped h
  pub below : AllEvents (λ e. e.id < n) h
  pub each_live : (p : ℕ) → FIRST_TYPE ≤ p → p < n → 0 < members h p

-- the words use exactly the types from FIRST_TYPE up to n - 1
pub record AreTyped (words : List (List ℕ)) (n : ℕ) : Type 0 where
  pub two : FIRST_TYPE ≤ n
  pub range : AllEvents (λ e. (FIRST_TYPE ≤ e.typ) × (e.typ < n)) (by_type words)
  pub each : (p : ℕ) → FIRST_TYPE ≤ p → p < n → 0 < members (by_type words) p

-- each invariant holds of each of these words, with its ends
abbrev pub HoldAll : List (List ℕ) → List Invariant → Type 0
HoldAll words invs = AllByRecursion (λ inv. AllByRecursion (λ w. Holds inv (with_ends w)) words) invs

-- every state of a run of refinement is one
abbrev pub RunsKeep : Type 0
RunsKeep =
    (invs : List Invariant) (words : List (List ℕ)) (n : ℕ) (splits : List Split) (end : Assignment)
    → AreTyped words n → HoldAll words invs
    → Splits invs (by_type words) n splits end → IsRun words end (n + length splits)

-- the list has the types of each non-empty suffix of a trace
abbrev pub NamesRests : List (List ℕ) → Assignment → Type 0
NamesRests names h = (rest : List Event) → EndsIn rest h → (rest ≡ [] → ⊥) → IsOneOf (types_of rest) names

-- so there are at most as many ids, besides the two ends, as such suffixes
abbrev pub IdsWithinRests : Type 0
IdsWithinRests =
    (invs : List Invariant) (words : List (List ℕ)) (n : ℕ) (splits : List Split) (end : Assignment)
    (names : List (List ℕ)) → AreTyped words n → HoldAll words invs
    → Splits invs (by_type words) n splits end → NamesRests names end
    → n + length splits ≤ length names + FIRST_TYPE

-- and fewer splits than events, if there is a type
abbrev pub FewerSplitsThanEvents : Type 0
FewerSplitsThanEvents =
    (invs : List Invariant) (words : List (List ℕ)) (n : ℕ) (splits : List Split) (end : Assignment)
    → AreTyped words n → HoldAll words invs → FIRST_TYPE < n
    → Splits invs (by_type words) n splits end → length splits < length (events end)

-- the invariants before the one with number k are satisfied
abbrev pub SatisfiesBefore : Graph → List Invariant → ℕ → Type 0
SatisfiesBefore g invs k = (j : ℕ) (inv : Invariant) → j < k → slice_get invs j ≡ Some inv → Satisfies g inv

-- if the invariants before number k are satisfied, a split at the least violation of number k is the next one,
-- and those before it stay satisfied
abbrev pub OnePassSplits : Type 0
OnePassSplits =
    (invs : List Invariant) (words : List (List ℕ)) (h : Assignment) (n k : ℕ) (inv : Invariant)
    (path : List ℕ) → IsRun words h n → FIRST_TYPE ≤ n → HoldAll words invs
    → slice_get invs k ≡ Some inv → SatisfiesBefore (G h) invs k → IsLeastViolation (G h) inv path
    → IsNextSplit invs h (record { inv = k; place = stitch h path; path = path })
    × IsRun words (after_split n (record { inv = k; place = stitch h path; path = path }) h) (n + 1)
    × SatisfiesBefore (G (after_split n (record { inv = k; place = stitch h path; path = path }) h)) invs k

-- each of these splits is at the least violation of the invariant, and after the last the invariant is satisfied
abbrev pub SplitsUntil : Invariant → ℕ → Assignment → ℕ → List Split → Assignment → Type 0
SplitsUntil inv k h n [] end = Satisfies (G h) inv × (end ≡ h)
SplitsUntil inv k h n (s ∷ ss) end =
    (s.inv ≡ k) × IsLeastViolation (G h) inv s.path × (s.place ≡ stitch h s.path)
    × SplitsUntil inv k (after_split n s h) (suc n) ss end

-- one pass over a list of invariants, numbered from k: for each, splits until it is satisfied
abbrev pub PassesOver : ℕ → List Invariant → Assignment → ℕ → List Split → Assignment → Type 0
PassesOver k [] h n splits end = (splits ≡ []) × (end ≡ h)
PassesOver k (inv ∷ invs) h n splits end =
    (now later : List Split) × (middle : Assignment) × (now ++ later ≡ splits)
    × SplitsUntil inv k h n now middle × PassesOver (suc k) invs middle (n + length now) later end

-- one pass over the invariants makes the whole run of refinement
abbrev pub OnePassRefines : Type 0
OnePassRefines =
    (invs : List Invariant) (words : List (List ℕ)) (h : Assignment) (n : ℕ) (splits : List Split)
    (end : Assignment) → IsRun words h n → FIRST_TYPE ≤ n → HoldAll words invs
    → PassesOver 0 invs h n splits end → Refines invs h n splits end

-- what refinement and coarsening keep: the words, one type for each id, a path for each word, and each invariant satisfied
pub record Keeps (invs : List Invariant) (words : List (List ℕ)) (h : Assignment) : Type 0 where
  pub words_are : inner_words h ≡ words
  pub typed : IsTyped h
  pub accepts : AllByRecursion (λ w. Accepts (G h) (with_ends w)) words
  pub satisfies : SatisfiesAll (G h) invs

-- refinement ends with such an assignment
abbrev pub RefinementKeeps : Type 0
RefinementKeeps =
    (invs : List Invariant) (words : List (List ℕ)) (n : ℕ) (splits : List Split) (end : Assignment)
    → AreTyped words n → HoldAll words invs
    → Refines invs (by_type words) n splits end → Keeps invs words end

-- and so does coarsening, after which no merge keeps every invariant
abbrev pub CoarseningKeeps : Type 0
CoarseningKeeps =
    (invs : List Invariant) (words : List (List ℕ)) (h : Assignment) (merges : List Merge)
    (end : Assignment) → Keeps invs words h
    → Coarsens invs h merges end → Keeps invs words end × NoMerge invs end

-- there is at most one least violation
abbrev pub OneLeast : Type 0
OneLeast =
    (g : Graph) (inv : Invariant) (a b : List ℕ) → IsLeastViolation g inv a → IsLeastViolation g inv b → a ≡ b

-- there is at most one whole run of refinement
abbrev pub OneRefinement : Type 0
OneRefinement =
    (invs : List Invariant) (h : Assignment) (n : ℕ) (a b : List Split) (end other : Assignment)
    → Refines invs h n a end → Refines invs h n b other → (a ≡ b) × (end ≡ other)

-- and at most one whole run of coarsening
abbrev pub OneCoarsening : Type 0
OneCoarsening =
    (invs : List Invariant) (h : Assignment) (a b : List Merge) (end other : Assignment)
    → Coarsens invs h a end → Coarsens invs h b other → (a ≡ b) × (end ≡ other)
