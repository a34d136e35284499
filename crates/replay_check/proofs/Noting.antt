-- The words that are laid, trace after trace.
use Rattle.std.proofs.Common.{◌≡◌, ℕ, zero, suc, ◌+◌, ◌-◌, ◌<◌, ◌≤◌, List, [], ◌∷◌, ◌++◌, length, take, take_all, get_or, replicate, append_assoc, refl, sym, ◌∙◌, ap, subst, subst₂, inl, inr, arith}
use Rattle.std.proofs.lemmas.Bool.{cases_lt}
use Rattle.std.proofs.lemmas.List.{get_or-replicate, get_or_past, length-replicate, get_or-take, length-take-le, take_more}
use Rattle.partition_model.specs.Assignments.{by_type, with_ends}
use Rattle.partition_model.proofs.Lists.{In, In-append}
use Rattle.partition_model.proofs.Listing.{Contains-In, In-Contains}
use Rattle.replay_check.specs.Laid.{laid}
use Rattle.replay_check.specs.Sharing.{AreIdsOf, IsPlaced, ArePlaced, IsMet, IsAdded, IsNoted}
use Rattle.replay_check.proofs.Placing.{placed-more, placed-append, placed-count, placed-at, placed-In}
use Rattle.replay_check.proofs.Starting.{laid-word}

-- the ids are those of some words, which have those of the first t traces and no others than the log
pub record IsLaying (inner : List (List ℕ)) (t : ℕ) (kept places ids : List ℕ) : Type 0 where
  pub words : List (List ℕ)
  pub ids_are : ids ≡ laid (by_type words)
  pub forth : (w : List ℕ) → In w words → In w inner
  pub placed : ArePlaced words (take t inner) places
  pub low : (s : ℕ) → get_or kept s 0 ≤ t - 1

-- the ids of a word behind others, one part after another
pub laid-behind : (xs ys : List ℕ) → xs ++ with_ends ys ≡ ((xs ++ 0 ∷ []) ++ ys) ++ 1 ∷ []
laid-behind xs ys = simp append_assoc

at-In : (xs : List (List ℕ)) (k : ℕ) → k < length xs → In (get_or xs k []) xs
at-In [] k l = absurd (omega arith)
at-In (x ∷ xs) zero l = inl refl
at-In (x ∷ xs) (suc k) l = inr (at-In xs k (omega arith))

In-at : (x : List ℕ) (xs : List (List ℕ)) → In x xs → (k : ℕ) × (k < length xs) × (get_or xs k [] ≡ x)
In-at x [] i = absurd i
In-at x (y ∷ xs) (inl e) = (0, omega arith, e)
In-at x (y ∷ xs) (inr r) = let o : (k : ℕ) × (k < length xs) × (get_or xs k [] ≡ x) = In-at x xs r in (suc o.0, omega (arith, o.1), o.2)

-- no slot has a number at first
pub kept-none : (n : ℕ) (kept : List ℕ) → kept ≡ replicate n 0 → (length kept ≡ n) × ((s : ℕ) → get_or kept s 0 ≡ 0)
kept-none n kept e = (
  ap length e ∙ length-replicate {A = ℕ} n 0,
  λ s. ap (λ (xs : List ℕ). get_or xs s 0) e ∙ elim (cases_lt s n) [
    | inl l ↦ get_or-replicate {A = ℕ} n s 0 0 l
    | inr l ↦ get_or_past (replicate n 0) s 0 (omega (arith, length-replicate {A = ℕ} n 0))
  ],
)

pub laying-first : (inner : List (List ℕ)) (kept : List ℕ) → ((s : ℕ) → get_or kept s 0 ≡ 0) → IsLaying inner 0 kept [] []
laying-first inner kept z =
    record {
      words = [];
      ids_are = refl;
      forth = λ w i. absurd i;
      placed = tt;
      low = λ s. omega (arith, z s);
    }

-- there are as many places as traces
pub laying-count : (inner : List (List ℕ)) (t : ℕ) (kept places ids : List ℕ) → t ≤ length inner → IsLaying inner t kept places ids → length places ≡ t
laying-count inner t kept places ids b l = placed-count l.words (take t inner) places l.placed ∙ length-take-le t inner b

met-more : (inner : List (List ℕ)) (t : ℕ) (kept after places now ids more : List ℕ) → t < length inner → IsMet inner t kept places now → after ≡ kept → more ≡ ids → IsLaying inner t kept places ids
    → IsLaying inner (t + 1) after now more
met-more inner t kept after places now ids more b m a i l =
    let later : 0 < t = m.later in
    let k : ℕ = get_or kept m.slot 0 in
    let before : k < t = omega (arith, l.low m.slot) in
    let long : length (take t inner) ≡ t = length-take-le t inner (omega arith) in
    let place : ℕ = get_or places k 0 in
    let there : IsPlaced l.words (get_or (take t inner) k []) place = placed-at l.words (take t inner) places k (omega arith) l.placed in
    let here : IsPlaced l.words (get_or inner t []) place = subst (λ (w : List ℕ). IsPlaced l.words w place) (get_or-take t inner k [] before ∙ sym m.same) there in
    record {
      words = l.words;
      ids_are = i ∙ l.ids_are;
      forth = l.forth;
      placed = subst₂ (λ (vs : List (List ℕ)) (ps : List ℕ). ArePlaced l.words vs ps) (sym (take_more inner t [] b)) (sym m.places_are)
          (placed-append l.words (take t inner) places (get_or inner t []) place l.placed here);
      low = λ s. let e : get_or after s 0 ≡ get_or kept s 0 = ap (λ (xs : List ℕ). get_or xs s 0) a in omega (arith, l.low s);
    }

added-more : (inner : List (List ℕ)) (t : ℕ) (kept after places now ids more : List ℕ) → t < length inner → IsAdded inner t kept after places now ids more → IsLaying inner t kept places ids
    → IsLaying inner (t + 1) after now more
added-more inner t kept after places now ids more b a l =
    let w : List ℕ = get_or inner t [] in
    let here : IsPlaced (l.words ++ w ∷ []) w (length ids) = record { before = l.words; after = []; words_are = refl; place_is = ap length l.ids_are } in
    record {
      words = l.words ++ w ∷ [];
      ids_are = a.ids_are ∙ ap (λ (xs : List ℕ). xs ++ with_ends w) l.ids_are ∙ laid-behind (laid (by_type l.words)) w ∙ sym (laid-word l.words w);
      forth = λ v i. elim (In-append v l.words (w ∷ []) i) [
        | inl j ↦ l.forth v j
        | inr j ↦ last v j
      ];
      placed = subst₂ (λ (vs : List (List ℕ)) (ps : List ℕ). ArePlaced (l.words ++ w ∷ []) vs ps) (sym (take_more inner t [] b)) (sym a.places_are)
          (placed-append (l.words ++ w ∷ []) (take t inner) places w (length ids) (placed-more l.words w (take t inner) places l.placed) here);
      low = λ s. elim (a.kept_are s) [
        | inl e ↦ omega (arith, e)
        | inr e ↦ omega (arith, e, l.low s)
      ];
    }
  where
    last : (v : List ℕ) → In v (get_or inner t [] ∷ []) → In v inner
    last v (inl e) = subst (λ (u : List ℕ). In u inner) e (at-In inner t b)
    last v (inr j) = absurd j

-- one trace more
pub laying-more : (inner : List (List ℕ)) (t : ℕ) (kept after places now ids more : List ℕ) → t < length inner → IsNoted inner t kept after places now ids more → IsLaying inner t kept places ids
    → IsLaying inner (t + 1) after now more
laying-more inner t kept after places now ids more b (inl m) l = met-more inner t kept after places now ids more b m.0 m.1 m.2 l
laying-more inner t kept after places now ids more b (inr a) l = added-more inner t kept after places now ids more b a l

-- all traces
pub laying-all : (inner : List (List ℕ)) (t : ℕ) (kept places ids : List ℕ) → length inner ≤ t → IsLaying inner t kept places ids → AreIdsOf inner ids places
laying-all inner t kept places ids b l =
    let placed : ArePlaced l.words inner places = subst (λ (vs : List (List ℕ)). ArePlaced l.words vs places) (take_all t inner b) l.placed in
    record {
      words = l.words;
      laid_are = l.ids_are;
      same = record {
        forth = λ w c. Contains-In w inner (l.forth w (In-Contains l.words w c));
        back = λ w c.
            let o : (k : ℕ) × (k < length inner) × (get_or inner k [] ≡ w) = In-at w inner (In-Contains inner w c) in
            Contains-In w l.words (subst (λ (v : List ℕ). In v l.words) o.2 (placed-In l.words (get_or inner o.0 []) (get_or places o.0 0) (placed-at l.words inner places o.0 o.1 placed)));
      };
      placed = placed;
    }
