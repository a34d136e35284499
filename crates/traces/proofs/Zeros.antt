-- Times that are not kept.
use Rattle.std.proofs.Common.{◌≡◌, ℕ, zero, suc, ◌-◌, ◌<◌, ◌≤◌, true, false, true≢false, List, [], ◌∷◌, ◌++◌, map, length, take, replicate, refl, sym, ap, ◌∙◌, arith, take_all, ◌==◌}
use Rattle.std.proofs.lemmas.Bool.Decides.{Decides-eqb}
use Rattle.traces.specs.Columns.{times_beside, AreBeside}

-- so many zeros as there are events
pub take-zeros : (count : ℕ) (events : List ℕ) → length events ≤ count → take {A = ℕ} (length events) (replicate count 0) ≡ map (λ _. 0) events
take-zeros count [] enough = refl
take-zeros zero (e ∷ events) enough = absurd (omega arith)
take-zeros (suc count) (e ∷ events) enough = ap (λ (xs : List ℕ). 0 ∷ xs) (take-zeros count events (omega arith))

all-zeros : (events : List ℕ) → replicate {A = ℕ} (length events) 0 ≡ map (λ _. 0) events
all-zeros [] = refl
all-zeros (e ∷ events) = ap (λ (xs : List ℕ). 0 ∷ xs) (all-zeros events)

-- zeros in the place of none
zeros-begin : (events times filled : List ℕ) → times ≡ [] → filled ≡ replicate (length events) 0 → times_beside events filled ≡ times_beside events times
zeros-begin [] times filled none full = ap (times_beside []) (full ∙ sym none)
zeros-begin (e ∷ events) times filled none full = ap (times_beside (e ∷ events)) full ∙ (all-zeros (e ∷ events) ∙ ap (times_beside (e ∷ events)) (sym none))

-- no times, by a test of how many there are
pub none-kept : (times : List ℕ) (count : ℕ) → true ≡ (count == 0) → length times ≡ count → times ≡ []
none-kept [] count none long = refl
none-kept (t ∷ times) count none long = absurd (omega (arith, (Decides-eqb count 0).0 (sym none)))

-- zeros put in the place of none
pub zeros-put : (events times filled : List ℕ) (count before : ℕ) → times ≡ [] → count ≡ length events → before ≡ 0 → filled ≡ take count times ++ replicate (count - before) 0
    → filled ≡ replicate (length events) 0
zeros-put events times filled count before none long empty full =
    let all : count - before ≡ length events = omega arith in
    full ∙ (ap (λ ts. take count ts ++ replicate (count - before) 0) none ∙ (ap (λ ts. ts ++ replicate (count - before) 0) (take_all count [] (omega arith)) ∙ ap (λ n. replicate n 0) all))

-- and some, by the same test
pub some-kept : (times : List ℕ) (count : ℕ) → false ≡ (count == 0) → length times ≡ count → 0 < length times
some-kept [] count some long = absurd (true≢false (sym ((Decides-eqb count 0).1 (sym long)) ∙ sym some))
some-kept (t ∷ times) count some long = omega arith

-- zeros up to so many, where one time for each event or none was kept
pub zeros-fill : (events times filled : List ℕ) (count before : ℕ) → AreBeside events times → length events ≡ count → length times ≡ before → before < count
    → filled ≡ take count times ++ replicate (count - before) 0 → times_beside events filled ≡ times_beside events times
zeros-fill events [] filled count before beside long kept few full = zeros-begin events [] filled refl (zeros-put events [] filled count before refl (sym long) (sym kept) full)
zeros-fill events (t ∷ times) filled count before beside long kept few full = absurd (omega (arith, beside, long, kept, few))
