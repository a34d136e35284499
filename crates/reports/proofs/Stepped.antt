-- The text of the events of a path, one after the other.
use Rattle.std.proofs.Common.{◌≡◌, ℕ, ◌+◌, ◌<◌, ◌≤◌, List, [], ◌∷◌, ◌++◌, length, take, get_or, map, min, sym, refl, ap, ◌∙◌, arith, flat_map}
use Rattle.std.specs.List.{zip}
use Rattle.std.proofs.lemmas.List.{take_more, flat_map_more, take_all}
use Rattle.std.proofs.lemmas.Slice.Zip.{get_or-zip, length-zip}
use Rattle.reports.specs.declared.taken.TakenPath.{TakenPath}
use Rattle.reports.specs.Paths.{Taken, path_line, shown, step_text}

-- with one event more, the text has the events up to it
pub steps-more : (types : List (List ℕ)) (ns is base old new : List ℕ) (k : ℕ) → k < length ns → k < length is
    → old ≡ base ++ flat_map (step_text types) (take k (zip ns is)) → new ≡ old ++ step_text types (get_or ns k 0, get_or is k 0)
    → new ≡ base ++ flat_map (step_text types) (take (k + 1) (zip ns is))
steps-more types ns is base old new k in-ns in-is before put =
    let step : ℕ × ℕ = (get_or ns k 0, get_or is k 0) in
    let within : k < length (zip ns is) = omega (arith, length-zip ns is) in
    let here : get_or (zip ns is) k (0, 0) ≡ step = get_or-zip ns is k (0, 0) in-ns in-is in
    put
    ∙ (ap (λ (t : List ℕ). t ++ step_text types step) before
    ∙ (flat_map_more (step_text types) base (take k (zip ns is)) step
    ∙ ap (λ (steps : List (ℕ × ℕ)). base ++ flat_map (step_text types) steps) (sym (take_more (zip ns is) k (0, 0) within ∙ ap (λ (s : ℕ × ℕ). take k (zip ns is) ++ s ∷ []) here))))

-- at the end of the shorter list the text has all events
pub steps-all : (types : List (List ℕ)) (ns is base old : List ℕ) (k : ℕ) → k ≡ min (length ns) (length is)
    → old ≡ base ++ flat_map (step_text types) (take k (zip ns is)) → old ≡ base ++ flat_map (step_text types) (zip ns is)
steps-all types ns is base old k all before =
    before ∙ ap (λ (steps : List (ℕ × ℕ)). base ++ flat_map (step_text types) steps) (take_all k (zip ns is) (omega (arith, length-zip ns is)))

-- the text of the paths as they are shown is the text of what is shown of each
flat_map-shown : (f : Taken → List ℕ) (gs : List TakenPath) → flat_map f (map shown gs) ≡ flat_map (λ (g : TakenPath). f (shown g)) gs
flat_map-shown f [] = refl
flat_map-shown f (g ∷ gs) = ap (λ (t : List ℕ). f (shown g) ++ t) (flat_map-shown f gs)

-- at the end of the list the text has the lines of all paths
pub lines-all : (types : List (List ℕ)) (items gs : List TakenPath) (i : ℕ) (text : List ℕ) (ts : List Taken) → items ≡ gs → length items ≤ i
    → map shown gs ≡ ts → text ≡ flat_map (λ (g : TakenPath). path_line types (shown g)) (take i items) → text ≡ flat_map (path_line types) ts
lines-all types items gs i text ts same all is-taken before =
    before
    ∙ (ap (flat_map (λ (g : TakenPath). path_line types (shown g))) (take_all i items all ∙ same)
    ∙ (sym (flat_map-shown (path_line types) gs) ∙ ap (flat_map (path_line types)) is-taken))
