-- Slots that tell where texts stand, when one more stands at the end.
use Rattle.std.proofs.Common.{◌≡◌, ℕ, zero, suc, List, [], ◌∷◌, ◌++◌, length, refl, sym, subst, Some, String}
use Rattle.std.proofs.lemmas.Option.{none-some}
use Rattle.std.specs.BTreeMap.{BTreeMap}
use Rattle.std.specs.List.{slice_get, All}
use Rattle.std.specs.declared.alloc.Global.{Global}
use Rattle.trace_builder.specs.PlaceMaps.{AreTextsPlaced}
use Rattle.trace_builder.specs.Slots.{TellsText}
use Rattle.trace_builder.specs.declared.slots.Slot.{Slot}
use Rattle.trace_builder.proofs.PlaceMaps.{texts-placed-stay}

-- the last text stands at the end
pub last-text : (texts : List (List ℕ)) (t : List ℕ) → slice_get (texts ++ t ∷ []) (length texts) ≡ Some t
last-text [] t = refl
last-text (u ∷ texts) t = last-text texts t

-- the others stand where they stood
text-stays : (texts : List (List ℕ)) (t : List ℕ) (i : ℕ) (u : List ℕ) → slice_get texts i ≡ Some u → slice_get (texts ++ t ∷ []) i ≡ Some u
text-stays [] t i u at = absurd (none-some u at)
text-stays (x ∷ texts) t zero u at = at
text-stays (x ∷ texts) t (suc i) u at = text-stays texts t i u at

-- so slots tell what they told
pub slots-tell : (texts : List (List ℕ)) (t : List ℕ) (slots : List Slot) → All (TellsText texts) slots → All (TellsText (texts ++ t ∷ [])) slots
slots-tell texts t slots told = λ k d inside short.
    let old = told k d inside short in
    (old.0, record { stands = text-stays texts t _ old.0 old.1.stands; bytes = old.1.bytes; fingerprint = old.1.fingerprint })

-- what is kept where the texts and the entries of the map stay
pub all-stays : (old new : BTreeMap (String Global) ℕ) (slots : List Slot) (texts now : List (List ℕ)) → AreTextsPlaced old texts × All (TellsText texts) slots
    → new.entries ≡ old.entries → now ≡ texts → AreTextsPlaced new now × All (TellsText now) slots
all-stays old new slots texts now kept same is =
    subst (λ (ts : List (List ℕ)). AreTextsPlaced new ts × All (TellsText ts) slots) (sym is) (texts-placed-stay old new texts kept.0 same, kept.1)
