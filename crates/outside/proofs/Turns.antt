-- Inputs that were opened in turn.
use Rattle.std.proofs.Common.{◌≡◌, ℕ, zero, suc, ◌+◌, ◌<◌, ◌==◌, Bool, true, false, true≢false, if◌then◌else◌, List, [], ◌∷◌, ◌++◌, length, get_or, map, take, drop, String, Vec, Option, Some, None, refl, sym, ap, ◌∙◌, subst, ⊎_elim, arith}
use Rattle.std.proofs.lemmas.Bool.{cases_Bool}
use Rattle.std.proofs.lemmas.Option.{none-some, same_Some}
use Rattle.std.proofs.lemmas.Slice.Eq.{bytes_eq-Decides}
use Rattle.std.specs.Io.KnownBytes.{IsAtEnd}
use Rattle.std.specs.List.{slice_get}
use Rattle.std.specs.Option.{option_map_or}
use Rattle.std.specs.Str.{bytes_eq}
use Rattle.std.specs.String.{string_bytes}
use Rattle.std.specs.declared.alloc.Global.{Global}
use Rattle.outside.specs.Inputs.{Files, InputState, Stays}
use Rattle.outside.specs.Told.{told}
use Rattle.outside.specs.Turns.{at_end, stands_at, if_so, in_turn, all_in_turn, followed_to_end, OpensInTurn}

-- what is known to be at its end is
pub ends : (rest : Option (List ℕ)) → IsAtEnd rest → at_end rest ≡ true
ends None at = refl
ends (Some bytes) at = ap (λ (bs : List ℕ). length bs == 0) at

if_so-true : (followed : Option ℕ) (so : Bool) → so ≡ true → if_so followed so ≡ followed
if_so-true None so is = refl
if_so-true (Some n) so is = ap (λ b. if_so (Some n) b) is

-- where what is open is at its end, closing it changes nothing
pub closes : (s : InputState) → IsAtEnd s.rest → followed_to_end s ≡ s.followed
closes s at = if_so-true s.followed (at_end s.rest) (ends s.rest at)

-- names and then others, one after another
pub all_in_turn-append : (files : Option Files) (followed : Option ℕ) (a b : List (List ℕ)) → all_in_turn files followed (a ++ b) ≡ all_in_turn files (all_in_turn files followed a) b
all_in_turn-append files followed [] b = refl
all_in_turn-append files followed (name ∷ a) b = all_in_turn-append files (in_turn files name followed) a b

-- inputs that were opened in turn and read to the end of the last, and others after them, were all opened in turn
pub turn-both : (a b : List (List ℕ)) (old mid new : InputState) → Stays old mid → IsAtEnd mid.rest → OpensInTurn a old mid → OpensInTurn b mid new → OpensInTurn (a ++ b) old new
turn-both a b old mid new stays at first second =
    second
    ∙ (ap (λ (f : Option Files). all_in_turn f (followed_to_end mid) b) stays.files
    ∙ (ap (λ (n : Option ℕ). all_in_turn old.files n b) (closes mid at ∙ first)
    ∙ sym (all_in_turn-append old.files (followed_to_end old) a b)))

-- once another input was opened, no number comes back
none-followed : (files : Option Files) (names : List (List ℕ)) → all_in_turn files None names ≡ None
none-followed files [] = refl
none-followed None (name ∷ names) = none-followed None names
none-followed (Some files) (name ∷ names) = none-followed (Some files) names

-- after a name that is the next one, and after one that is not
turn-on : (files : Files) (n : ℕ) (name : List ℕ) (names : List (List ℕ)) (end : Option ℕ) → stands_at files n name ≡ true
    → all_in_turn (Some files) (Some n) (name ∷ names) ≡ end → all_in_turn (Some files) (Some (n + 1)) names ≡ end
turn-on files n name names end stands is = subst (λ (b : Bool). all_in_turn (Some files) (if b then Some (n + 1) else None) names ≡ end) stands is

turn-off : (files : Files) (n k : ℕ) (name : List ℕ) (names : List (List ℕ)) → stands_at files n name ≡ false
    → all_in_turn (Some files) (Some n) (name ∷ names) ≡ Some k → ⊥
turn-off files n k name names stands is =
    none-some k
    (sym (none-followed (Some files) names)
    ∙ subst (λ (b : Bool). all_in_turn (Some files) (if b then Some (n + 1) else None) names ≡ Some k) stands is)

-- as many files more as there are names
pub turn-count : (files : Files) (n k : ℕ) (names : List (List ℕ)) → all_in_turn (Some files) (Some n) names ≡ Some k → k ≡ n + length names
turn-count files n k [] is = let same : n ≡ k = same_Some n k is in omega (arith, same)
turn-count files n k (name ∷ names) is = ⊎_elim
    (λ (stands : stands_at files n name ≡ true). let more : k ≡ n + 1 + length names = turn-count files (n + 1) k names (turn-on files n name names (Some k) stands is) in omega (arith, more))
    (λ (other : stands_at files n name ≡ false). absurd (turn-off files n k name names other is))
    (cases_Bool (stands_at files n name))

-- the names of files
abbrev pub names_of : Files → List (List ℕ)
names_of files = map (λ file. file.0) files

-- where the file at a place has a name, the names from there on begin with it
next-name : (files : Files) (n : ℕ) (name : List ℕ) → stands_at files n name ≡ true → drop n (names_of files) ≡ name ∷ drop (suc n) (names_of files)
next-name [] n name is = absurd (true≢false (sym is))
next-name (file ∷ files) zero name is = ap (λ (x : List ℕ). x ∷ names_of files) ((bytes_eq-Decides file.0 name).0 is)
next-name (file ∷ files) (suc n) name is = next-name files n name is

-- and the other way round
begins-with : (files : Files) (n k : ℕ) (name : List ℕ) (names : List (List ℕ)) → name ∷ names ≡ take (suc k) (drop n (names_of files))
    → (stands_at files n name ≡ true) × (names ≡ take k (drop (suc n) (names_of files)))
begins-with [] zero k name names is = absurd (omega (arith, ap length is))
begins-with [] (suc n) k name names is = absurd (omega (arith, ap length is))
begins-with (file ∷ files) zero k name names is =
    let first : name ≡ file.0 = same_Some name file.0 (ap (λ (xs : List (List ℕ)). slice_get xs 0) is) in
    ((bytes_eq-Decides file.0 name).1 (sym first), ap (λ (xs : List (List ℕ)). drop 1 xs) is)
begins-with (file ∷ files) (suc n) k name names is = begins-with files n k name names is

-- names that were opened in turn are those of the files from a place on
pub turn-names : (files : Files) (n : ℕ) (names : List (List ℕ)) → all_in_turn (Some files) (Some n) names ≡ Some (n + length names)
    → names ≡ take (length names) (drop n (names_of files))
turn-names files n [] is = refl
turn-names files n (name ∷ names) is = ⊎_elim
    (λ (stands : stands_at files n name ≡ true).
    let one : n + 1 ≡ suc n = omega arith in
    let all : n + length (name ∷ names) ≡ n + 1 + length names = omega arith in
    let rest : names ≡ take (length names) (drop (n + 1) (names_of files)) = turn-names files (n + 1) names (turn-on files n name names (Some (n + 1 + length names)) stands (is ∙ ap (λ (k : ℕ). Some k) all)) in
    ap (λ (xs : List (List ℕ)). name ∷ xs) (rest ∙ ap (λ k. take (length names) (drop k (names_of files))) one)
    ∙ sym (ap (take (suc (length names))) (next-name files n name stands)))
    (λ (other : stands_at files n name ≡ false). absurd (turn-off files n (n + length (name ∷ names)) name names other is))
    (cases_Bool (stands_at files n name))

-- and such names are opened in turn
pub turn-from : (files : Files) (n : ℕ) (names : List (List ℕ)) → names ≡ take (length names) (drop n (names_of files))
    → all_in_turn (Some files) (Some n) names ≡ Some (n + length names)
turn-from files n [] is = ap (λ (k : ℕ). Some k) (omega arith)
turn-from files n (name ∷ names) is =
    let parts = begins-with files n (length names) name names is in
    let one : suc n ≡ n + 1 = omega arith in
    let all : n + 1 + length names ≡ n + length (name ∷ names) = omega arith in
    ap (λ (b : Bool). all_in_turn (Some files) (if b then Some (n + 1) else None) names) parts.0
    ∙ (turn-from files (n + 1) names (parts.1 ∙ ap (λ k. take (length names) (drop k (names_of files))) one) ∙ ap (λ (k : ℕ). Some k) all)

-- a file in memory as it is told
told-at : (files : List (String Global × Vec ℕ Global)) (n : ℕ) (file : String Global × Vec ℕ Global) → n < length files → file ≡ get_or files n file
    → slice_get (told files) n ≡ Some (string_bytes file.0, file.1.items)
told-at [] n file low is = absurd (omega arith)
told-at (f ∷ fs) zero file low is = ap (λ (x : String Global × Vec ℕ Global). Some (string_bytes x.0, x.1.items)) (sym is)
told-at (f ∷ fs) (suc n) file low is = told-at fs n file (omega arith) is

-- a name is the next in turn exactly if it is that of the file at that place
pub turn-next : (files : List (String Global × Vec ℕ Global)) (name : List ℕ) (followed : Option ℕ) (n : ℕ) (file : String Global × Vec ℕ Global) (same : Bool)
    → followed ≡ Some n → n < length files → file ≡ get_or files n file → same ≡ bytes_eq (string_bytes file.0) name
    → in_turn (Some (told files)) name followed ≡ (if same then Some (n + 1) else None)
turn-next files name followed n file same at low is so =
    ap (in_turn (Some (told files)) name) at
    ∙ ap (λ b. if b then Some (n + 1) else None) (ap (λ o. option_map_or (λ f. bytes_eq f.0 name) o false) (told-at files n file low is) ∙ sym so)
