-- The ids of all traces, gathered from those of the words.
use Rattle.std.proofs.Common.{◌≡◌, ℕ, zero, suc, ◌+◌, ◌≤◌, List, [], ◌∷◌, ◌++◌, map, length, take, drop, get_or, append_assoc, append-nil, refl, sym, ◌∙◌, ap, ap₂, arith}
use Rattle.std.proofs.lemmas.List.{length-append, map-append}
use Rattle.std.proofs.lemmas.List.Concat.{flat_map-append}
use Rattle.invariants.specs.declared.records.Split.{Split}
use Rattle.partition_model.specs.Assignments.{Event, Assignment, id_list, ids_of, by_type}
use Rattle.partition_model.specs.Refinement.{split_trace, after_split}
use Rattle.models.specs.Histories.{split_by}
use Rattle.replay_check.specs.Laid.{laid}
use Rattle.replay_check.specs.Sharing.{IsPlaced, ArePlaced, gathered}
use Rattle.replay_check.specs.Shown.{Shows}
use Rattle.replay_check.proofs.Alike.{AreAlike, alike-by, live-same, type-same}
use Rattle.replay_check.proofs.Starting.{typed}

-- ---- cuts

-- a part of a list behind another
cut-part : (xs ys zs : List ℕ) (n : ℕ) → n ≡ length ys → take n (drop (length xs) (xs ++ (ys ++ zs))) ≡ ys
cut-part [] [] zs n e = ap (λ k. take k zs) e
cut-part [] (y ∷ ys) zs n e = ap (λ k. take k (y ∷ (ys ++ zs))) e ∙ ap (λ (t : List ℕ). y ∷ t) (cut-part [] ys zs (length ys) refl)
cut-part (x ∷ xs) ys zs n e = cut-part xs ys zs n e

-- a trace of a list with as many events as this word
abbrev pub KeepsLength : (List ℕ → List Event) → Type 0
KeepsLength f = (w : List ℕ) → length (f w) ≡ length w

ids-length : (t : List Event) → length (ids_of t) ≡ length t
ids-length [] = refl
ids-length (e ∷ t) = ap suc (ids-length t)

list-length : (t : List Event) → length (id_list t) ≡ length t + 2
list-length t = let a = length-append (ids_of t) (1 ∷ []) in let b = ids-length t in omega arith

typed-length : (w : List ℕ) → length (typed w) ≡ length w
typed-length [] = refl
typed-length (x ∷ w) = ap suc (typed-length w)

laid-length-of : (f : List ℕ → List Event) → KeepsLength f → (ws : List (List ℕ)) → length (laid (map f ws)) ≡ length (laid (by_type ws))
laid-length-of f k [] = refl
laid-length-of f k (w ∷ ws) =
    let a = length-append (id_list (f w)) (laid (map f ws)) in
    let b = length-append (id_list (typed w)) (laid (by_type ws)) in
    let c = list-length (f w) in
    let d = list-length (typed w) in
    let e = k w in
    let g : length (typed w) ≡ length w = typed-length w in
    let i = laid-length-of f k ws in
    omega arith

-- how many ids there are stays, whatever they are
take-few : (n : ℕ) (xs : List ℕ) → length (take n xs) ≤ n
take-few zero xs = omega arith
take-few (suc n) [] = omega arith
take-few (suc n) (x ∷ xs) = let i : length (take n xs) ≤ n = take-few n xs in omega arith

pub gathered-few : (ids places : List ℕ) (ws : List (List ℕ)) → length (gathered ids places ws) ≤ length (laid (by_type ws))
gathered-few ids places [] = omega arith
gathered-few ids [] (w ∷ ws) = omega arith
gathered-few ids (p ∷ ps) (w ∷ ws) =
    let a = length-append (take (length w + 2) (drop p ids)) (gathered ids ps ws) in
    let b = take-few (length w + 2) (drop p ids) in
    let c = length-append (id_list (typed w)) (laid (by_type ws)) in
    let d = list-length (typed w) in
    let e = typed-length w in
    let i = gathered-few ids ps ws in
    omega arith

-- the ids of the words, parted at the place of one of them
parted : (f : List ℕ → List Event) (words : List (List ℕ)) (w : List ℕ) (p : ℕ) → (i : IsPlaced words w p)
    → laid (map f words) ≡ laid (map f i.before) ++ (id_list (f w) ++ laid (map f i.after))
parted f words w p i =
    ap (λ (ws : List (List ℕ)). laid (map f ws)) i.words_are ∙ ap (λ (h : Assignment). laid h) (map-append f i.before (w ∷ i.after))
    ∙ flat_map-append id_list (map f i.before) (f w ∷ map f i.after)

cut-placed : (f : List ℕ → List Event) → KeepsLength f → (words : List (List ℕ)) (w : List ℕ) (p : ℕ) → IsPlaced words w p
    → take (length w + 2) (drop p (laid (map f words))) ≡ id_list (f w)
cut-placed f k words w p i =
    let at : p ≡ length (laid (map f i.before)) = i.place_is ∙ sym (laid-length-of f k i.before) in
    let a = list-length (f w) in
    let b = k w in
    let n : length w + 2 ≡ length (id_list (f w)) = omega arith in
    ap₂ (λ (m : ℕ) (xs : List ℕ). take (length w + 2) (drop m xs)) at (parted f words w p i)
    ∙ cut-part (laid (map f i.before)) (id_list (f w)) (laid (map f i.after)) (length w + 2) n

-- what is gathered are the ids of all traces
pub gathered-laid : (f : List ℕ → List Event) → KeepsLength f → (words ws : List (List ℕ)) (ps : List ℕ) → ArePlaced words ws ps
    → gathered (laid (map f words)) ps ws ≡ laid (map f ws)
gathered-laid f k words [] ps a = refl
gathered-laid f k words (w ∷ ws) [] a = absurd a
gathered-laid f k words (w ∷ ws) (p ∷ ps) a =
    ap₂ (λ (xs ys : List ℕ). xs ++ ys) (cut-placed f k words w p a.0) (gathered-laid f k words ws ps a.1)

-- the ids of a word that is placed end within those of all words
pub placed-inside : (words : List (List ℕ)) (w : List ℕ) (p : ℕ) → IsPlaced words w p → p + (length w + 2) ≤ length (laid (by_type words))
placed-inside words w p i =
    let a : length (laid (by_type words)) ≡ length (laid (by_type i.before) ++ (id_list (typed w) ++ laid (by_type i.after))) = ap length (parted typed words w p i) in
    let b = length-append (laid (by_type i.before)) (id_list (typed w) ++ laid (by_type i.after)) in
    let c = length-append (id_list (typed w)) (laid (by_type i.after)) in
    let d = list-length (typed w) in
    let e = typed-length w in
    let at = i.place_is in
    omega arith

-- one trace more
pub gathered-more : (ids ps : List ℕ) (ws : List (List ℕ)) (p : ℕ) (w : List ℕ) → length ps ≡ length ws
    → gathered ids (ps ++ p ∷ []) (ws ++ w ∷ []) ≡ gathered ids ps ws ++ take (length w + 2) (drop p ids)
gathered-more ids [] [] p w e = append-nil (take (length w + 2) (drop p ids))
gathered-more ids [] (v ∷ ws) p w e = absurd (omega arith)
gathered-more ids (q ∷ ps) [] p w e = absurd (omega arith)
gathered-more ids (q ∷ ps) (v ∷ ws) p w e =
    ap (λ (xs : List ℕ). take (length v + 2) (drop q ids) ++ xs) (gathered-more ids ps ws p w (omega arith))
    ∙ sym (append_assoc (take (length v + 2) (drop q ids)) (gathered ids ps ws) (take (length w + 2) (drop p ids)))

-- ---- splits

-- a trace after these splits
abbrev pub traced : ℕ → List Split → List Event → List Event
traced n [] t = t
traced n (s ∷ ss) t = traced (suc n) ss (split_trace (get_or s.path s.place 0) (get_or s.path (s.place + 1) 0) n t)

map-itself : (h : Assignment) → map (λ (t : List Event). t) h ≡ h
map-itself [] = refl
map-itself (t ∷ h) = ap (λ (k : Assignment). t ∷ k) (map-itself h)

map-twice : (f g : List Event → List Event) (h : Assignment) → map g (map f h) ≡ map (λ t. g (f t)) h
map-twice f g [] = refl
map-twice f g (t ∷ h) = ap (λ (k : Assignment). g (f t) ∷ k) (map-twice f g h)

map-typed : (f : List Event → List Event) (ws : List (List ℕ)) → map f (by_type ws) ≡ map (λ w. f (typed w)) ws
map-typed f [] = refl
map-typed f (w ∷ ws) = ap (λ (k : Assignment). f (typed w) ∷ k) (map-typed f ws)

by-traces : (n : ℕ) (ss : List Split) (h : Assignment) → split_by n ss h ≡ map (λ t. traced n ss t) h
by-traces n [] h = sym (map-itself h)
by-traces n (s ∷ ss) h =
    by-traces (suc n) ss (after_split n s h)
    ∙ map-twice (λ t. split_trace (get_or s.path s.place 0) (get_or s.path (s.place + 1) 0) n t) (λ t. traced (suc n) ss t) h

by-words : (n : ℕ) (ss : List Split) (ws : List (List ℕ)) → split_by n ss (by_type ws) ≡ map (λ w. traced n ss (typed w)) ws
by-words n ss ws = by-traces n ss (by_type ws) ∙ map-typed (λ t. traced n ss t) ws

split_trace-length : (p q n : ℕ) (t : List Event) → length (split_trace p q n t) ≡ length t
split_trace-length p q n [] = refl
split_trace-length p q n (e ∷ t) = ap suc (split_trace-length p q n t)

traced-length : (n : ℕ) (ss : List Split) (t : List Event) → length (traced n ss t) ≡ length t
traced-length n [] t = refl
traced-length n (s ∷ ss) t =
    traced-length (suc n) ss (split_trace (get_or s.path s.place 0) (get_or s.path (s.place + 1) 0) n t)
    ∙ split_trace-length (get_or s.path s.place 0) (get_or s.path (s.place + 1) 0) n t

-- what the ids of the words show after these splits, those of all traces do
pub spread-shows : (n : ℕ) (ss : List Split) (words inner : List (List ℕ)) (ids places types : List ℕ) → ArePlaced words inner places → AreAlike (by_type words) (by_type inner) n
    → Shows (split_by n ss (by_type words)) (n + length ss) ids types → Shows (split_by n ss (by_type inner)) (n + length ss) (gathered ids places inner) types
spread-shows n ss words inner ids places types a k s =
    let g : Assignment = split_by n ss (by_type words) in
    let h : Assignment = split_by n ss (by_type inner) in
    let b : AreAlike g h (n + length ss) = alike-by (by_type words) (by_type inner) n ss k in
    let f : List ℕ → List Event = λ w. traced n ss (typed w) in
    record {
      ids_are = ap (λ (xs : List ℕ). gathered xs places inner) (s.ids_are ∙ ap (λ (x : Assignment). laid x) (by-words n ss words))
          ∙ gathered-laid f (λ w. traced-length n ss (typed w) ∙ typed-length w) words inner places a
          ∙ sym (ap (λ (x : Assignment). laid x) (by-words n ss inner));
      typed = b.other.typed;
      high = s.high;
      below = b.other.below;
      types_are = λ p live. s.types_are p (live-same h g b.back p live) ∙ sym (type-same h g b.other.typed b.one.typed b.back p live);
    }
