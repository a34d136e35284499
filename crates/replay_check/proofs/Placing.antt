-- The places of words.
use Rattle.std.proofs.Common.{◌≡◌, ℕ, zero, suc, ◌<◌, List, [], ◌∷◌, ◌++◌, length, get_or, append_assoc, refl, sym, ◌∙◌, ap, subst, inl, arith}
use Rattle.partition_model.proofs.Lists.{In, In-append_right}
use Rattle.replay_check.specs.Sharing.{IsPlaced, ArePlaced}

-- a place is that of more words too
placed-word : (words : List (List ℕ)) (v w : List ℕ) (p : ℕ) → IsPlaced words w p → IsPlaced (words ++ v ∷ []) w p
placed-word words v w p i =
    record {
      before = i.before;
      after = i.after ++ v ∷ [];
      words_are = ap (λ (ws : List (List ℕ)). ws ++ v ∷ []) i.words_are ∙ append_assoc i.before (w ∷ i.after) (v ∷ []);
      place_is = i.place_is;
    }

pub placed-more : (words : List (List ℕ)) (v : List ℕ) (ws : List (List ℕ)) (ps : List ℕ) → ArePlaced words ws ps → ArePlaced (words ++ v ∷ []) ws ps
placed-more words v [] [] a = tt
placed-more words v [] (p ∷ ps) a = a
placed-more words v (w ∷ ws) [] a = a
placed-more words v (w ∷ ws) (p ∷ ps) a = (placed-word words v w p a.0, placed-more words v ws ps a.1)

-- one word more is placed
pub placed-append : (words ws : List (List ℕ)) (ps : List ℕ) (w : List ℕ) (p : ℕ) → ArePlaced words ws ps → IsPlaced words w p → ArePlaced words (ws ++ w ∷ []) (ps ++ p ∷ [])
placed-append words [] [] w p a i = (i, tt)
placed-append words [] (q ∷ ps) w p a i = absurd a
placed-append words (v ∷ ws) [] w p a i = absurd a
placed-append words (v ∷ ws) (q ∷ ps) w p a i = (a.0, placed-append words ws ps w p a.1 i)

-- there are as many places as words
pub placed-count : (words ws : List (List ℕ)) (ps : List ℕ) → ArePlaced words ws ps → length ps ≡ length ws
placed-count words [] [] a = refl
placed-count words [] (p ∷ ps) a = absurd a
placed-count words (w ∷ ws) [] a = absurd a
placed-count words (w ∷ ws) (p ∷ ps) a = ap suc (placed-count words ws ps a.1)

-- the place of one of them
pub placed-at : (words ws : List (List ℕ)) (ps : List ℕ) (k : ℕ) → k < length ws → ArePlaced words ws ps → IsPlaced words (get_or ws k []) (get_or ps k 0)
placed-at words [] ps k l a = absurd (omega arith)
placed-at words (w ∷ ws) [] k l a = absurd a
placed-at words (w ∷ ws) (p ∷ ps) zero l a = a.0
placed-at words (w ∷ ws) (p ∷ ps) (suc k) l a = placed-at words ws ps k (omega arith) a.1

-- a word that is placed is one of the words
pub placed-In : (words : List (List ℕ)) (w : List ℕ) (p : ℕ) → IsPlaced words w p → In w words
placed-In words w p i = subst (λ (ws : List (List ℕ)). In w ws) (sym i.words_are) (In-append_right w i.before (w ∷ i.after) (inl refl))
