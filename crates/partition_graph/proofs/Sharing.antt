-- Words that traces share.
use Rattle.std.proofs.Common.{◌≡◌, ℕ, ◌+◌, ◌<◌, ◌≤◌, List, [], ◌∷◌, ◌++◌, length, map, take, get_or, Option, None, Some, All, Contains, arith, ap, sym, ◌∙◌, refl, subst, inl, inr, length-append}
use Rattle.std.proofs.Math.Seq.{take-append-le}
use Rattle.std.proofs.lemmas.Bool.{cases_lt}
use Rattle.std.proofs.lemmas.List.{length-map, length-take-le, map-append, take_more, take_all, length_push, get_or_push, get_or_append_left, append-nil, get_or-map, get_or-take}
use Rattle.std.proofs.lemmas.List.Concat.{flat_map-append}
use Rattle.std.proofs.lemmas.List.Elements.{All-push, All-tail, All-head, Contains-push, Contains-append_left}
use Rattle.std.specs.List.{flat_map, AllByRecursion}
use Rattle.std.specs.Option.{IfSome}
use Rattle.limits.specs.declared.TheConstants.{FIRST_TYPE}
use Rattle.traces.specs.Words.{Log}
use Rattle.partition_model.specs.Assignments.{Event, Assignment, by_type, inner_words}
use Rattle.partition_model.proofs.Runs.{words-typed}
use Rattle.partition_graph.specs.declared.cells.Cell.{Cell}
use Rattle.partition_graph.specs.declared.cells.SharedCells.{SharedCells}
use Rattle.partition_graph.specs.Cells.{cells_of, IsGathered}
use Rattle.partition_graph.specs.Parts.{Parts, inner_words_of}
use Rattle.partition_graph.specs.Shared.{IsNoted, AreShared}
use Rattle.partition_graph.specs.Spread.{spread, SharesWords}
use Rattle.partition_graph.proofs.WordCells.{more_gathered, named}

-- the words at places of the first list are those of the longer one
longer-same : (words : List (List ℕ)) (w : List ℕ) (numbers : List ℕ) → All (λ k. k < length words) numbers → map (λ k. get_or (words ++ w ∷ []) k []) numbers ≡ map (λ k. get_or words k []) numbers
longer-same words w [] a = refl
longer-same words w (n ∷ ns) a =
    ap (λ (x : List ℕ). x ∷ map (λ k. get_or (words ++ w ∷ []) k []) ns) (get_or_append_left words (w ∷ []) [] n (All-head (λ k. k < length words) n ns a))
    ∙ ap (λ (xs : List (List ℕ)). get_or words n [] ∷ xs) (longer-same words w ns (All-tail (λ k. k < length words) n ns a))

-- the words with one more are those of one more trace
next-words : (log : Log) (t : ℕ) (words : List (List ℕ)) (numbers : List ℕ) (place : ℕ) (w : List ℕ) → t < length (inner_words_of log) → get_or (inner_words_of log) t [] ≡ w → get_or words place [] ≡ w
    → map (λ k. get_or words k []) numbers ≡ take t (inner_words_of log) → map (λ k. get_or words k []) (numbers ++ place ∷ []) ≡ take (t + 1) (inner_words_of log)
next-words log t words numbers place w l at here s =
    map-append (λ k. get_or words k []) numbers (place ∷ []) ∙ ap (λ (xs : List (List ℕ)). xs ++ get_or words place [] ∷ []) s ∙ ap (λ (x : List ℕ). take t (inner_words_of log) ++ x ∷ []) (here ∙ sym at) ∙ sym (take_more (inner_words_of log) t [] l)

next-cells : (log : Log) (t : ℕ) (w : List ℕ) → t < length (inner_words_of log) → get_or (inner_words_of log) t [] ≡ w
    → length (flat_map cells_of (take (t + 1) (inner_words_of log))) ≡ length (flat_map cells_of (take t (inner_words_of log))) + length (cells_of w)
next-cells log t w l at =
    let words : List (List ℕ) = inner_words_of log in
    let m : take (t + 1) words ≡ take t words ++ w ∷ [] = take_more words t [] l ∙ ap (λ (z : List ℕ). take t words ++ z ∷ []) at in
    ap (λ (ws : List (List ℕ)). length (flat_map cells_of ws)) m
    ∙ ap (λ (cs : List Cell). length cs) (flat_map-append cells_of (take t words) (w ∷ []) ∙ ap (λ (cs : List Cell). flat_map cells_of (take t words) ++ cs) (append-nil (cells_of w)))
    ∙ length-append (flat_map cells_of (take t words)) (cells_of w)

-- one trace more whose word was noted before
share-again : (log : Log) (t : ℕ) (words : List (List ℕ)) (cells : List Cell) (firsts numbers : List ℕ) (place : ℕ) (w : List ℕ) → t < length (inner_words_of log) → get_or (inner_words_of log) t [] ≡ w
    → place < length words → get_or words place [] ≡ w → AreShared log t words cells firsts numbers → AreShared log (t + 1) words cells firsts (numbers ++ place ∷ [])
share-again log t words cells firsts numbers place w l at inside here a =
    let n : length (flat_map cells_of (take (t + 1) (inner_words_of log))) ≡ length (flat_map cells_of (take t (inner_words_of log))) + length (cells_of w) = next-cells log t w l at in
    record {
      gathered = a.gathered;
      spreads = next-words log t words numbers place w l at here a.spreads;
      within = All-push (λ k. k < length words) numbers place a.within inside;
      whole = λ k b. Contains-append_left numbers (place ∷ []) k (a.whole k b);
      few = (let f : length words ≤ t = a.few in omega arith);
      small = (let s : length cells ≤ length (flat_map cells_of (take t (inner_words_of log))) = a.small in omega arith);
    }

-- the words are as good with one behind them
gathered-before : (bound : ℕ) (words : List (List ℕ)) (w : List ℕ) (cells : List Cell) (firsts : List ℕ) → IsGathered bound words (length words) cells firsts → IsGathered bound (words ++ w ∷ []) (length words) cells firsts
gathered-before bound words w cells firsts g =
    let same : (k : ℕ) → k ≤ length words → take k words ≡ take k (words ++ w ∷ []) = λ k b. sym (take-append-le k words (w ∷ []) b) in
    let all : take (length words) words ≡ take (length words) (words ++ w ∷ []) = same (length words) (omega arith) in
    record {
      cells_are = g.cells_are ∙ ap (λ (ws : List (List ℕ)). flat_map cells_of ws) all;
      count = g.count;
      firsts_are = λ k b. g.firsts_are k b ∙ ap (λ (ws : List (List ℕ)). length (flat_map cells_of ws)) (same k (omega arith));
      some = subst (λ (ws : List (List ℕ)). AllByRecursion (λ (w : List ℕ). 0 < length w) ws) all g.some;
      numbered = subst (λ (ws : List (List ℕ)). AllByRecursion (λ (w : List ℕ). AllByRecursion (λ n. (2 ≤ n) × (n < bound)) w) ws) all g.numbered;
    }

-- one trace more with a new word
share-new : (log : Log) (t : ℕ) (words : List (List ℕ)) (cells : List Cell) (firsts numbers : List ℕ) (w : List ℕ) → t < length (inner_words_of log) → get_or (inner_words_of log) t [] ≡ w → 0 < length w
    → AllByRecursion (λ n. (2 ≤ n) × (n < length log.types + FIRST_TYPE)) w → AreShared log t words cells firsts numbers
    → AreShared log (t + 1) (words ++ w ∷ []) (cells ++ cells_of w) (firsts ++ length cells ∷ []) (numbers ++ length words ∷ [])
share-new log t words cells firsts numbers w l at some numbered a =
    let long : length (words ++ w ∷ []) ≡ length words + 1 = length_push words w in
    let here : get_or (words ++ w ∷ []) (length words) [] ≡ w = get_or_push words w [] (length words) refl in
    let n : length (flat_map cells_of (take (t + 1) (inner_words_of log))) ≡ length (flat_map cells_of (take t (inner_words_of log))) + length (cells_of w) = next-cells log t w l at in
    let c : length (cells ++ cells_of w) ≡ length cells + length (cells_of w) = length-append cells (cells_of w) in
    let inside : length words < length (words ++ w ∷ []) = omega arith in
    record {
      gathered = subst (λ n. IsGathered (length log.types + FIRST_TYPE) (words ++ w ∷ []) n (cells ++ cells_of w) (firsts ++ length cells ∷ [])) (sym long)
          (more_gathered (length log.types + FIRST_TYPE) (words ++ w ∷ []) (length words) cells firsts w inside here some numbered (gathered-before (length log.types + FIRST_TYPE) words w cells firsts a.gathered));
      spreads = next-words log t (words ++ w ∷ []) numbers (length words) w l at here (longer-same words w numbers a.within ∙ a.spreads);
      within = All-push (λ k. k < length (words ++ w ∷ [])) numbers (length words) (λ k d b. (let f : get_or numbers k d < length words = a.within k d b in let r : get_or numbers k d < length (words ++ w ∷ []) = omega arith in r)) inside;
      whole = λ k b. elim (cases_lt k (length words)) [
        | inl m ↦ Contains-append_left numbers (length words ∷ []) k (a.whole k m)
        | inr m ↦
            let q : length words ≡ k = omega arith in
            subst (λ j. Contains (numbers ++ length words ∷ []) j) q (Contains-push numbers (length words))
      ];
      few = (let f : length words ≤ t = a.few in omega arith);
      small = (let s : length cells ≤ length (flat_map cells_of (take t (inner_words_of log))) = a.small in omega arith);
    }

-- the number of an earlier trace with a word is that of the word
earlier-number : (inner words : List (List ℕ)) (t e : ℕ) (numbers : List ℕ) (w : List ℕ) → t ≤ length inner → e < t → get_or inner e [] ≡ w → All (λ k. k < length words) numbers
    → map (λ k. get_or words k []) numbers ≡ take t inner → (get_or numbers e 0 < length words) × (get_or words (get_or numbers e 0) [] ≡ w)
earlier-number inner words t e numbers w l before at within spreads =
    let n : length numbers ≡ t = sym (length-map numbers (λ k. get_or words k [])) ∙ ap (λ (ws : List (List ℕ)). length ws) spreads ∙ length-take-le t inner l in
    let inside : e < length numbers = omega (arith, before) in (
      within e 0 inside,
      sym (get_or-map (λ k. get_or words k []) numbers e 0 [] inside) ∙ ap (λ (ws : List (List ℕ)). get_or ws e []) spreads ∙ get_or-take t inner e [] before ∙ at,
    )

-- the cells of some words, which the first traces share
abbrev pub HaveShared : Log → ℕ → SharedCells → Type 0
HaveShared log traces shared = (words : List (List ℕ)) × AreShared log traces words shared.cells.items shared.firsts.items shared.numbers.items

-- one trace more
pub share-more : (log : Log) (t : ℕ) (w : List ℕ) (found : Option ℕ) (old new : SharedCells) → t < length (inner_words_of log) → get_or (inner_words_of log) t [] ≡ w → 0 < length w
    → AllByRecursion (λ n. (2 ≤ n) × (n < length log.types + FIRST_TYPE)) w → IfSome found (λ e. (e < t) × (get_or (inner_words_of log) e [] ≡ w)) → IsNoted w found old new
    → HaveShared log t old → HaveShared log (t + 1) new
share-more log t w None old new l at some numbered known noted s =
    let words : List (List ℕ) = s.0 in
    let n : length old.firsts.items ≡ length words = s.1.gathered.count in
    (words ++ w ∷ [], rw (noted.cells_are, noted.firsts_are, noted.numbers_are, n) (share-new log t words old.cells.items old.firsts.items old.numbers.items w l at some numbered s.1))
share-more log t w (Some e) old new l at some numbered known noted s =
    let words : List (List ℕ) = s.0 in
    let r : (get_or old.numbers.items e 0 < length words) × (get_or words (get_or old.numbers.items e 0) [] ≡ w) =
    earlier-number (inner_words_of log) words t e old.numbers.items w (omega (arith, l)) known.0 known.1 s.1.within s.1.spreads in
    (words, rw (noted.cells_are, noted.firsts_are, noted.numbers_are) (share-again log t words old.cells.items old.firsts.items old.numbers.items (get_or old.numbers.items e 0) w l at r.0 r.1 s.1))

typed-words : (words : List (List ℕ)) (numbers : List ℕ) → All (λ k. k < length words) numbers → spread numbers (by_type words) ≡ by_type (map (λ k. get_or words k []) numbers)
typed-words words [] a = refl
typed-words words (n ∷ ns) a =
    ap (λ (t : List Event). t ∷ spread ns (by_type words)) (get_or-map (λ (w : List ℕ). map named w) words n [] [] (All-head (λ k. k < length words) n ns a))
    ∙ ap (λ (h : Assignment). map named (get_or words n []) ∷ h) (typed-words words ns (All-tail (λ k. k < length words) n ns a))

-- the traces of the words, spread over those of the log
pub shares : (log : Log) (words : List (List ℕ)) (cells : List Cell) (firsts numbers : List ℕ) (parts : Parts) → AreShared log (length log.traces) words cells firsts numbers
    → parts.traces ≡ by_type words → parts.used ≡ length log.types + FIRST_TYPE → SharesWords log parts numbers
shares log words cells firsts numbers parts a h u =
    let T : List (List ℕ) = inner_words_of log in
    let n : length T ≡ length log.traces = length-map log.traces _ in
    let all : take (length log.traces) T ≡ T = take_all (length log.traces) T (omega arith) in
    let many : length words ≡ length parts.traces = sym (ap (λ (g : Assignment). length g) h ∙ length-map words (λ (w : List ℕ). map named w)) in
    record {
      used = u;
      start = h ∙ sym (ap (λ (ws : List (List ℕ)). by_type ws) (ap (λ (g : Assignment). inner_words g) h ∙ words-typed words));
      spreads = ap (λ (g : Assignment). spread numbers g) h ∙ typed-words words numbers a.within ∙ ap (λ (ws : List (List ℕ)). by_type ws) (a.spreads ∙ all);
      all = record {
        within = subst (λ n. All (λ k. k < n) numbers) many a.within;
        whole = λ k b. a.whole k (omega arith);
      };
    }
