-- The text of lines, one after another.
use Rattle.std.proofs.Common.{◌≡◌, ℕ, ◌+◌, ◌<◌, List, [], ◌∷◌, ◌++◌, length, get_or, take, map, refl, sym, ap, ◌∙◌, append-nil, flat_map}
use Rattle.std.proofs.lemmas.Grind.{flat_map-append}
use Rattle.std.proofs.lemmas.List.{take_more}
use Rattle.events.specs.declared.located.Located.{Located}

-- an event for places without one
abbrev pub zero-event : Located
zero-event = record { at = record { file = 0; line = 0 }; trace = 0; number = 0; time = 0 }

-- with one item more, the text has its line too
pub lines-more : {X : Type 0} (line : X → List ℕ) (xs : List X) (d : X) (i : ℕ) (old new : List ℕ) → i < length xs → old ≡ flat_map line (take i xs) → new ≡ old ++ line (get_or xs i d)
    → new ≡ flat_map line (take (i + 1) xs)
lines-more line xs d i old new small before more =
    let x = get_or xs i d in
    let whole : flat_map line (take (i + 1) xs) ≡ flat_map line (take i xs) ++ line x =
    ap (flat_map line) (take_more xs i d small) ∙ (flat_map-append line (take i xs) (x ∷ []) ∙ ap (λ (t : List ℕ). flat_map line (take i xs) ++ t) (append-nil (line x))) in
    more ∙ (ap (λ (t : List ℕ). t ++ line x) before ∙ sym whole)

-- the text of what is shown of items is that of the items
pub flat-map-shown : {X Y : Type 0} (shown : X → Y) (line : Y → List ℕ) (xs : List X) → flat_map (λ x. line (shown x)) xs ≡ flat_map line (map shown xs)
flat-map-shown shown line [] = refl
flat-map-shown shown line (x ∷ xs) = ap (λ (t : List ℕ). line (shown x) ++ t) (flat-map-shown shown line xs)
