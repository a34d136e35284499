-- Lines without the bytes that each match of a pattern contains.
use Rattle.std.proofs.Common.{◌≡◌, ℕ, zero, suc, ◌+◌, ◌<◌, ◌≤◌, true, false, List, [], ◌∷◌, ◌++◌, map, length, Option, Some, None, Result, Ok, Err, arith, refl, sym, ap, ◌∙◌, subst, option_to_list, true≢false}
use Rattle.std.proofs.lemmas.List.{get_or_default, length-append}
use Rattle.std.specs.Prelude.{Vec, IfOk, IfSome, IsSomeAnd, is_some, chars}
use Rattle.std.specs.declared.alloc.AllocError.{AllocError}
use Rattle.std.specs.declared.alloc.Global.{Global}
use Rattle.memchr.specs.Find.{OccursAt, FindsNeedle}
use Rattle.regex_extract.specs.Needles.{ContainsNeedle, StandsWithin}
use Rattle.regex.specs.Patterns.{Re, Match, SameCaptures, Reads, default_config, find_str}
use Rattle.regex.proofs.ForCallers.{find_str_sound, is_match_alike}
use Rattle.regex_hir.specs.Meaning.{meaning}
use Rattle.regex_hir.specs.Matches.{Matches}
use Rattle.regex_hir.specs.declared.hir.Hir.{Hir}
use Rattle.regex_syntax.specs.Brackets.{Nested}
use Rattle.regex_syntax.specs.Grammar.{Names, group_count, read}
use Rattle.line_rules.specs.Patterns.{IsReadAs, max_depth}
use Rattle.line_rules.specs.Needles.{Lacks, IsInEach, IsNeedleFor, IsNeedleOf}

-- where the only needle stands
place-of-only : (line needle : List ℕ) (n k i j : ℕ) → StandsWithin line (needle ∷ []) n k i j → OccursAt line needle k
place-of-only line needle zero k i j stands = record { fits = stands.occurs.fits; reads = stands.occurs.reads }
place-of-only line needle (suc n) k i j stands = absurd (omega (arith, stands.numbered))

-- the only needle stands in each match
only-stands : (tree : Hir) (needle : List ℕ) → ContainsNeedle (meaning tree) (needle ∷ []) → IsInEach tree needle
only-stands tree needle contains line bytes lacks i j matches =
    let found = contains line (λ k d h. rw (get_or_default line k d 0 h) (bytes k)) i j matches in
    lacks found.1 (place-of-only line needle found.0 found.1 i j found.2)

-- so does the needle that is taken from a list of one
pub popped-stands : (tree : Hir) (all rest : List (Vec ℕ Global)) (found : Option (Vec ℕ Global)) → ContainsNeedle (meaning tree) (map (λ n. n.items) all)
    → length all ≡ 1 → all ≡ rest ++ option_to_list found → IfSome found (λ needle. IsInEach tree needle.items)
popped-stands tree all rest None contains one split = tt
popped-stands tree all [] (Some needle) contains one split = only-stands tree needle.items (subst (λ (vs : List (Vec ℕ Global)). ContainsNeedle (meaning tree) (map (λ n. n.items) vs)) split contains)
popped-stands tree all (v ∷ vs) (Some needle) contains one split =
    absurd (omega (arith, one, ap length split, length-append vs (needle ∷ [])))

-- a search finds nothing where there is no match
nothing-found : (re : Re) (line : List ℕ) → ((i j : ℕ) → ¬ Matches line re i j) → (found : Option Match) → find_str re line 0 ≡ found → is_some found ≡ false
nothing-found re line none None is = refl
nothing-found re line none (Some m) is = absurd (none m.start m.trace.end (find_str_sound re line 0 m is).1)

-- what is so of the tree is so of the pattern that the grammar reads
pub read-needle : (text : List ℕ) (tree : Hir) (names : Names) (needle : List ℕ) → Reads default_config text tree names → IsInEach tree needle → IsNeedleOf text needle
unfolding Reads
read-needle text tree names needle reads stands = of-tree (read default_config (chars text)) reads
  where
    of-tree : (r : Option (Nested Re × Names)) → IsSomeAnd r (λ (re, found). (re.depth ≤ default_config.nest_limit) × SameCaptures (meaning tree) re.value × (names ≡ found) × (group_count (meaning tree) ≤ length names)) → IfSome r (λ (re, found). IsNeedleFor re.value needle)
    of-tree None h = tt
    of-tree (Some (re, found)) h = λ line bytes lacks.
        sym (is_match_alike h.1 line bytes true 0) ∙ nothing-found (meaning tree) line (stands line bytes lacks) (find_str (meaning tree) line 0) refl

-- so it is if there is a needle
pub found-needle : (text : List ℕ) (tree : Hir) (names : Names) (found : Result (Option (Vec ℕ Global)) AllocError) → Reads default_config text tree names
    → IfOk found (λ o. IfSome o (λ needle. IsInEach tree needle.items)) → IfOk found (λ o. IfSome o (λ needle. IsNeedleOf text needle.items))
found-needle text tree names (Ok None) reads stands = tt
found-needle text tree names (Ok (Some needle)) reads stands = read-needle text tree names needle.items reads stands
found-needle text tree names (Err e) reads stands = tt

-- and of each pattern whose searches give the same
pub alike-needle : (text : List ℕ) (re : Re) (names : List (Option (List ℕ))) (needle : List ℕ) → IsReadAs text re names → IsNeedleOf text needle → IsNeedleFor re needle
alike-needle text re names needle reads stands = of-tree (read default_config (chars text)) reads stands
  where
    of-tree : (r : Option (Nested Re × Names)) → IsSomeAnd r (λ (tree, found). (tree.depth ≤ max_depth) × SameCaptures re tree.value × (names ≡ found)) → IfSome r (λ (tree, found). IsNeedleFor tree.value needle)
        → IsNeedleFor re needle
    of-tree None h n = absurd h
    of-tree (Some (tree, found)) h n = λ line bytes lacks. is_match_alike h.1 line bytes true 0 ∙ n line bytes lacks

-- a search for the needle that finds nothing shows that the line lacks it
lacks-nowhere : (line needle : List ℕ) → ((k : ℕ) → 0 ≤ k → k < length line + 1 → ¬ OccursAt line needle k) → Lacks line needle
lacks-nowhere line needle nowhere k stands = nowhere k (omega arith) (omega (arith, stands.fits)) stands

-- so does a search that ends without a place
pub lacks-told : (line needle : List ℕ) (found : Option ℕ) → FindsNeedle line needle 0 found → is_some found ≡ false → Lacks line needle
lacks-told line needle None finds is = lacks-nowhere line needle finds
lacks-told line needle (Some k) finds is = absurd (true≢false is)

-- nothing is there where it is false that something is
pub none-found : {A : Type 0} (o : Option A) → is_some o ≡ false → o ≡ None
none-found None is = refl
none-found (Some x) is = absurd (true≢false is)
