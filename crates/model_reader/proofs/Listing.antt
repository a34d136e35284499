-- The text of a list, entry by entry.
use Rattle.std.proofs.Common.{◌≡◌, ℕ, true, false, List, [], ◌∷◌, ◌++◌, map, refl, sym, ap, ◌∙◌, append_assoc}
use Rattle.serde_json.specs.Data.{Data}
use Rattle.serde_json.specs.View.{items_of}
use Rattle.serde_json.specs.Written.{compact_text, items_text}
use Rattle.model_file.specs.Tree.{array_of}

-- the texts of entries, with a comma after each
abbrev pub texts_before : {T : Type 0} → (T → Data) → List T → List ℕ
texts_before f [] = []
texts_before f (x ∷ xs) = compact_text (f x) ++ (44 ∷ texts_before f xs)

-- the text of further entries begins with a comma
further : {T : Type 0} (f : T → Data) (xs : List T) (x : T) → items_text true (items_of (map f (xs ++ x ∷ []))) ≡ 44 ∷ items_text false (items_of (map f (xs ++ x ∷ [])))
further f [] x = refl
further f (y ∷ ys) x = refl

last : {T : Type 0} (f : T → Data) (xs : List T) (x : T) → items_text false (items_of (map f (xs ++ x ∷ []))) ≡ texts_before f xs ++ (compact_text (f x) ++ 93 ∷ [])
last f [] x = refl
last f (y ∷ ys) x =
    ap (λ text. compact_text (f y) ++ text) (further f ys x ∙ ap (λ text. 44 ∷ text) (last f ys x))
    ∙ sym (append_assoc (compact_text (f y)) (44 ∷ texts_before f ys) (compact_text (f x) ++ 93 ∷ []))

one-more : {T : Type 0} (f : T → Data) (xs : List T) (x : T) → texts_before f (xs ++ x ∷ []) ≡ texts_before f xs ++ (compact_text (f x) ++ 44 ∷ [])
one-more f [] x = refl
one-more f (y ∷ ys) x =
    ap (λ text. compact_text (f y) ++ (44 ∷ text)) (one-more f ys x)
    ∙ sym (append_assoc (compact_text (f y)) (44 ∷ texts_before f ys) (compact_text (f x) ++ 44 ∷ []))

-- three pieces and what stands after them, taken apart
pieces : (a b c rest : List ℕ) → (a ++ (b ++ c)) ++ rest ≡ a ++ (b ++ (c ++ rest))
pieces a b c rest = append_assoc a (b ++ c) rest ∙ ap (λ text. a ++ text) (append_assoc b c rest)

-- an entry and a comma were taken
pub taken_more : {T : Type 0} (f : T → Data) (xs : List T) (x : T) (ys : List T) (whole first second third : List ℕ)
    → ys ≡ xs ++ x ∷ [] → whole ≡ texts_before f xs ++ first → first ≡ compact_text (f x) ++ second → second ≡ 44 ∷ third
    → whole ≡ texts_before f ys ++ third
taken_more f xs x ys whole first second third more a b c =
    a ∙ ap (λ text. texts_before f xs ++ text) (b ∙ ap (λ text. compact_text (f x) ++ text) c)
    ∙ sym (ap (λ text. text ++ third) (one-more f xs x) ∙ pieces (texts_before f xs) (compact_text (f x)) (44 ∷ []) third)
    ∙ ap (λ zs. texts_before f zs ++ third) (sym more)

-- the last entry and the closing bracket were taken
pub taken_last : {T : Type 0} (f : T → Data) (xs : List T) (x : T) (ys : List T) (whole first second third : List ℕ)
    → ys ≡ xs ++ x ∷ [] → whole ≡ texts_before f xs ++ first → first ≡ compact_text (f x) ++ second → second ≡ 93 ∷ third
    → 91 ∷ whole ≡ compact_text (array_of (map f ys)) ++ third
taken_last f xs x ys whole first second third more a b c =
    ap (λ text. 91 ∷ text) (a ∙ ap (λ text. texts_before f xs ++ text) (b ∙ ap (λ text. compact_text (f x) ++ text) c)
    ∙ sym (ap (λ text. text ++ third) (last f xs x) ∙ pieces (texts_before f xs) (compact_text (f x)) (93 ∷ []) third))
    ∙ ap (λ zs. compact_text (array_of (map f zs)) ++ third) (sym more)
