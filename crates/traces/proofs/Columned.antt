-- Events in columns: one event more.
use Rattle.std.proofs.Common.{◌≡◌, ℕ, suc, ◌+◌, ◌<◌, ◌≤◌, ◌==◌, Bool, true, false, List, [], ◌∷◌, ◌++◌, length, cond, refl, sym, ap, ◌∙◌, subst, ⊎_elim, arith}
use Rattle.std.proofs.lemmas.Bool.{cases_Bool, cond-true, cond-false, or_left, or_right, or_from, ne_eqb}
use Rattle.std.proofs.lemmas.Bool.Decides.{Decides-eqb}
use Rattle.std.proofs.lemmas.List.{length_push}
use Rattle.std.proofs.lemmas.List.Elements.{All-tail, All-push}
use Rattle.std.specs.List.{All, list_any, position_or_len}
use Rattle.traces.specs.Columns.{times_beside, at_place, traces_from, columned, AreColumns}
use Rattle.traces.specs.Words.{Trace, same_key, with_event, with_new}
use Rattle.trace_keys.specs.Keys.{Key}
use Rattle.trace_keys.proofs.Positions.{position-hit, position-miss}

-- what stands at a place after one item more

pick-more : {X : Type 0} (b : Bool) (y x : X) (more before : List X) → more ≡ before ++ x ∷ [] → cond b (y ∷ more) more ≡ cond b (y ∷ before) before ++ x ∷ []
pick-more true y x more before grown = ap (λ zs. y ∷ zs) grown
pick-more false y x more before grown = grown

at-more : {X : Type 0} (k p : ℕ) (ps : List ℕ) (xs : List X) (x : X) → length xs ≡ length ps → p ≡ k → at_place k (ps ++ p ∷ []) (xs ++ x ∷ []) ≡ at_place k ps xs ++ x ∷ []
at-more k p [] [] x same here = cond-true _ _ _ ((Decides-eqb p k).1 here)
at-more k p [] (y ∷ xs) x same here = absurd (omega arith)
at-more k p (q ∷ ps) [] x same here = absurd (omega arith)
at-more k p (q ∷ ps) (y ∷ xs) x same here = pick-more (q == k) y x (at_place k (ps ++ p ∷ []) (xs ++ x ∷ [])) (at_place k ps xs) (at-more k p ps xs x (omega arith) here)

at-other : {X : Type 0} (k p : ℕ) (ps : List ℕ) (xs : List X) (x : X) → length xs ≡ length ps → (p ≡ k → ⊥) → at_place k (ps ++ p ∷ []) (xs ++ x ∷ []) ≡ at_place k ps xs
at-other k p [] [] x same other = cond-false _ _ _ (ne_eqb p k other)
at-other k p [] (y ∷ xs) x same other = absurd (omega arith)
at-other k p (q ∷ ps) [] x same other = absurd (omega arith)
at-other k p (q ∷ ps) (y ∷ xs) x same other = ap (λ zs. cond (q == k) (y ∷ zs) zs) (at-other k p ps xs x (omega arith) other)

-- nothing stands at a place past all others
at-past : {X : Type 0} (k : ℕ) (ps : List ℕ) (xs : List X) → All (λ p. p < k) ps → at_place k ps xs ≡ []
at-past k [] xs below = refl
at-past k (p ∷ ps) [] below = refl
at-past k (p ∷ ps) (x ∷ xs) below =
    cond-false _ _ _ (ne_eqb p k (λ here. let first : p < k = below 0 0 (omega arith) in omega (arith, first, here))) ∙ at-past k ps xs (All-tail (λ q. q < k) p ps below)

-- traces of the same events and times
pub traces-same : (e f s t : ℕ → List ℕ) (i : ℕ) (keys : List Key) → ((k : ℕ) → i ≤ k → k < i + length keys → (e k ≡ f k) × (s k ≡ t k)) → traces_from e s i keys ≡ traces_from f t i keys
traces-same e f s t i [] same = refl
traces-same e f s t i (key ∷ keys) same =
    let here = same i (omega arith) (omega arith) in
    let made : List ℕ → List ℕ → Trace = λ es ts. record { key = key; events = es; times = ts } in
    ap (λ es. made es (s i) ∷ traces_from e s (suc i) keys) here.0
    ∙ (ap (λ ts. made (f i) ts ∷ traces_from e s (suc i) keys) here.1
    ∙ ap (λ (rest : List Trace). made (f i) (t i) ∷ rest) (traces-same e f s t (suc i) keys (λ k after before. same k (omega arith) (omega arith))))

-- as many traces as keys
pub length-traces_from : (e t : ℕ → List ℕ) (i : ℕ) (keys : List Key) → length (traces_from e t i keys) ≡ length keys
length-traces_from e t i [] = refl
length-traces_from e t i (key ∷ keys) = omega (arith, length-traces_from e t (suc i) keys)

-- keys, with one that may be new, behind another key

new-front : (k key : Key) (keys : List Key) → same_key key k ≡ true → with_new same_key (k ∷ keys) key ≡ k ∷ keys
new-front k key keys here = cond-true _ _ _ (or_left _ _ here)

new-behind : (k key : Key) (keys : List Key) → same_key key k ≡ false → with_new same_key (k ∷ keys) key ≡ k ∷ with_new same_key keys key
new-behind k key keys other = ⊎_elim
    (λ any. cond-true _ _ _ (or_right _ _ any) ∙ ap (λ ks. k ∷ ks) (sym (cond-true (list_any (same_key key) keys) keys (keys ++ key ∷ []) any)))
    (λ none. cond-false _ _ _ (or_from _ _ other none) ∙ ap (λ ks. k ∷ ks) (sym (cond-false (list_any (same_key key) keys) keys (keys ++ key ∷ []) none)))
    (cases_Bool (list_any (same_key key) keys))

-- an event at the place of its key, which may be a new one
columns-grow : (keys : List Key) (key : Key) (i p number time : ℕ) (ps ns ts : List ℕ) → length ns ≡ length ps → length ts ≡ length ps → All (λ q. q < i + length keys) ps
    → p ≡ i + position_or_len (same_key key) keys
    → with_event (traces_from (λ k. at_place k ps ns) (λ k. at_place k ps ts) i keys) key number time
    ≡ traces_from (λ k. at_place k (ps ++ p ∷ []) (ns ++ number ∷ [])) (λ k. at_place k (ps ++ p ∷ []) (ts ++ time ∷ [])) i (with_new same_key keys key)
columns-grow [] key i p number time ps ns ts same timed within at =
    let none : All (λ q. q < i) ps = subst (λ n. All (λ q. q < n) ps) (omega arith) within in
    let here : p ≡ i = omega arith in
    let es = at-more i p ps ns number same here ∙ ap (λ zs. zs ++ number ∷ []) (at-past i ps ns none) in
    let us = at-more i p ps ts time timed here ∙ ap (λ zs. zs ++ time ∷ []) (at-past i ps ts none) in
    let made : List ℕ → List ℕ → Trace = λ xs ys. record { key = key; events = xs; times = ys } in
    sym (ap (λ xs. made xs (at_place i (ps ++ p ∷ []) (ts ++ time ∷ [])) ∷ []) es ∙ ap (λ ys. made (number ∷ []) ys ∷ []) us)
columns-grow (k ∷ keys) key i p number time ps ns ts same timed within at =
    ⊎_elim this (other (λ past. columns-grow keys key (suc i) p number time ps ns ts same timed (subst (λ n. All (λ q. q < n) ps) (omega arith) within) past)) (cases_Bool (same_key key k))
  where
    made : List ℕ → List ℕ → Trace
    made xs ys = record { key = k; events = xs; times = ys }

    old : List Trace
    old = traces_from (λ j. at_place j ps ns) (λ j. at_place j ps ts) (suc i) keys

    more : List Key → List Trace
    more ks = traces_from (λ j. at_place j (ps ++ p ∷ []) (ns ++ number ∷ [])) (λ j. at_place j (ps ++ p ∷ []) (ts ++ time ∷ [])) i ks

    later : List Key → List Trace
    later ks = traces_from (λ j. at_place j (ps ++ p ∷ []) (ns ++ number ∷ [])) (λ j. at_place j (ps ++ p ∷ []) (ts ++ time ∷ [])) (suc i) ks

    this : same_key key k ≡ true → with_event (made (at_place i ps ns) (at_place i ps ts) ∷ old) key number time ≡ more (with_new same_key (k ∷ keys) key)
    this is =
        let here : p ≡ i = omega (arith, at, position-hit (same_key key) k keys is) in
        let rest : old ≡ later keys =
        traces-same (λ j. at_place j ps ns) (λ j. at_place j (ps ++ p ∷ []) (ns ++ number ∷ [])) (λ j. at_place j ps ts) (λ j. at_place j (ps ++ p ∷ []) (ts ++ time ∷ [])) (suc i) keys
        (λ j after before. (sym (at-other j p ps ns number same (λ e. omega (arith, e, here, after))), sym (at-other j p ps ts time timed (λ e. omega (arith, e, here, after))))) in
        cond-true _ _ _ is
        ∙ (ap (λ xs. made xs (at_place i ps ts ++ time ∷ []) ∷ old) (sym (at-more i p ps ns number same here))
        ∙ (ap (λ ys. made (at_place i (ps ++ p ∷ []) (ns ++ number ∷ [])) ys ∷ old) (sym (at-more i p ps ts time timed here))
        ∙ (ap (λ (behind : List Trace). made (at_place i (ps ++ p ∷ []) (ns ++ number ∷ [])) (at_place i (ps ++ p ∷ []) (ts ++ time ∷ [])) ∷ behind) rest
        ∙ ap more (sym (new-front k key keys is)))))

    other : (p ≡ suc i + position_or_len (same_key key) keys → with_event old key number time ≡ later (with_new same_key keys key)) → same_key key k ≡ false
        → with_event (made (at_place i ps ns) (at_place i ps ts) ∷ old) key number time ≡ more (with_new same_key (k ∷ keys) key)
    other behind differs =
        let past : p ≡ suc i + position_or_len (same_key key) keys = omega (arith, at, position-miss (same_key key) k keys differs) in
        let apart : p ≡ i → ⊥ = λ e. omega (arith, e, past) in
        let rest : with_event old key number time ≡ later (with_new same_key keys key) = behind past in
        cond-false _ _ _ differs
        ∙ (ap (λ xs. made xs (at_place i ps ts) ∷ with_event old key number time) (sym (at-other i p ps ns number same apart))
        ∙ (ap (λ ys. made (at_place i (ps ++ p ∷ []) (ns ++ number ∷ [])) ys ∷ with_event old key number time) (sym (at-other i p ps ts time timed apart))
        ∙ (ap (λ (behind : List Trace). made (at_place i (ps ++ p ∷ []) (ns ++ number ∷ [])) (at_place i (ps ++ p ∷ []) (ts ++ time ∷ [])) ∷ behind) rest
        ∙ ap more (sym (new-behind k key keys differs)))))

-- the columns after one event more

-- the traces of the columns after an event: that event is at the end of its trace
pub columned-grows : (keys after : List Key) (key : Key) (p place number time : ℕ) (ps ns ts qs ms us : List ℕ) → AreColumns (length keys) ps ns ts
    → place ≡ position_or_len (same_key key) keys → p ≡ place → after ≡ with_new same_key keys key
    → qs ≡ ps ++ p ∷ [] → ms ≡ ns ++ number ∷ [] → times_beside ms us ≡ times_beside ns ts ++ time ∷ []
    → columned after qs ms us ≡ with_event (columned keys ps ns ts) key number time
columned-grows keys after key p place number time ps ns ts qs ms us kept at here grown places numbers times =
    let C : List Key → List ℕ → List ℕ → List ℕ → List Trace = λ ks xs ys zs. traces_from (λ k. at_place k xs ys) (λ k. at_place k xs zs) 0 ks in
    ap (λ ks. C ks qs ms (times_beside ms us)) grown
    ∙ (ap (λ xs. C (with_new same_key keys key) xs ms (times_beside ms us)) places
    ∙ (ap (λ bs. C (with_new same_key keys key) (ps ++ p ∷ []) bs (times_beside ms us)) numbers
    ∙ (ap (λ cs. C (with_new same_key keys key) (ps ++ p ∷ []) (ns ++ number ∷ []) cs) times
    ∙ sym (columns-grow keys key 0 p number time ps ns (times_beside ns ts) kept.beside (kept.timed ∙ kept.beside) (subst (λ n. All (λ q. q < n) ps) (omega arith) kept.within) (omega (arith, here, at))))))

within-more : (keys : List Key) (key : Key) → (length keys ≤ length (with_new same_key keys key)) × (position_or_len (same_key key) keys < length (with_new same_key keys key))
within-more [] key = (omega arith, omega arith)
within-more (k ∷ keys) key = ⊎_elim
    (λ is.
    let l = ap length (new-front k key keys is) in
    (omega (arith, l), omega (arith, l, position-hit (same_key key) k keys is)))
    (λ differs.
    let l = ap length (new-behind k key keys differs) in
    let rest = within-more keys key in
    (omega (arith, l, rest.0), omega (arith, l, rest.1, position-miss (same_key key) k keys differs)))
    (cases_Bool (same_key key k))

-- the columns still fit one another then
pub columns-kept : (keys after : List Key) (key : Key) (p place number time : ℕ) (ps ns ts qs ms us : List ℕ) → AreColumns (length keys) ps ns ts
    → place ≡ position_or_len (same_key key) keys → p ≡ place → after ≡ with_new same_key keys key
    → qs ≡ ps ++ p ∷ [] → ms ≡ ns ++ number ∷ [] → times_beside ms us ≡ times_beside ns ts ++ time ∷ []
    → AreColumns (length after) qs ms us
columns-kept keys after key p place number time ps ns ts qs ms us kept at here grown places numbers times =
    let more = within-more keys key in
    let long = ap length grown in
    record {
      beside = omega (arith, ap length places, ap length numbers, length_push ps p, length_push ns number, kept.beside);
      timed = omega (arith, ap length numbers, ap length times, length_push ns number, length_push (times_beside ns ts) time, kept.timed);
      within = subst (λ (xs : List ℕ). All (λ q. q < length after) xs) (sym places)
          (All-push (λ q. q < length after) ps p
          (λ k d inside. let below = kept.within k d inside in omega (arith, below, long, more.0))
          (omega (arith, here, at, long, more.1)));
    }

-- columns that show the same times
pub columned-same : (keys now : List Key) (ps ns ts qs ms us : List ℕ) → now ≡ keys → qs ≡ ps → ms ≡ ns → times_beside ms us ≡ times_beside ns ts → columned now qs ms us ≡ columned keys ps ns ts
columned-same keys now ps ns ts qs ms us same places numbers times =
    let C : List Key → List ℕ → List ℕ → List ℕ → List Trace = λ ks xs ys zs. traces_from (λ k. at_place k xs ys) (λ k. at_place k xs zs) 0 ks in
    ap (λ ks. C ks qs ms (times_beside ms us)) same ∙ (ap (λ xs. C keys xs ms (times_beside ms us)) places ∙ (ap (λ bs. C keys ps bs (times_beside ms us)) numbers ∙ ap (λ cs. C keys ps ns cs) times))

-- columns that show the same fit one another alike
pub columns-same : (n m : ℕ) (ps ns ts qs ms us : List ℕ) → m ≡ n → qs ≡ ps → ms ≡ ns → times_beside ms us ≡ times_beside ns ts → AreColumns n ps ns ts → AreColumns m qs ms us
columns-same n m ps ns ts qs ms us same places numbers times kept =
    record {
      beside = omega (arith, ap length places, ap length numbers, kept.beside);
      timed = omega (arith, ap length times, ap length numbers, kept.timed);
      within = subst (λ j. All (λ q. q < j) qs) (sym same) (subst (λ (xs : List ℕ). All (λ q. q < n) xs) (sym places) kept.within);
    }

-- as many traces as keys
pub length-columned : (keys : List Key) (ps ns ts : List ℕ) → length (columned keys ps ns ts) ≡ length keys
length-columned keys ps ns ts = length-traces_from (λ k. at_place k ps ns) (λ k. at_place k ps (times_beside ns ts)) 0 keys
