use Rattle.std.proofs.Common.{◌≡◌, ◌+◌, ◌≤◌, ℕ, List, length, Some, slice_get, refl, sym, ap, ◌∙◌, subst, arith}
use Rattle.std.proofs.lemmas.List.Elements.{All-get_or}
use Rattle.std.proofs.lemmas.Option.{slice_get_read, slice_get_within, get_or_from_slice_get}
use Rattle.trace_keys.specs.Keys.{Key}
use Rattle.trace_keys.specs.Fingerprints.{fingerprint_of}
use Rattle.trace_keys.specs.declared.fingerprint.Fingerprint.{Fingerprint}
use Rattle.trace_keys.proofs.Told.{same-told}
use Rattle.trace_builder.specs.Slots.{type_key, TellsText}
use Rattle.trace_builder.specs.declared.slots.Slot.{Slot}
use Rattle.trace_builder.proofs.PlaceMaps.{inside}
use Rattle.trace_builder.proofs.slots.find_short.Goals as goal

pub returns-then-is : goal.returns-then-is
returns-then-is c = λ texts tells.
    let text : List ℕ = c.args.text.now in
    let slots : List Slot = c.args.slots.now in
    let home : ℕ = c.home_of-home.result + c.loop-i.i in
    let slot : Slot = c.in_ok-slot.slot.now in
    let lookup = c.in_ok-slot.ensures.lookup in
    let at : slice_get slots home ≡ Some slot = slice_get_read slots _ home slot refl (inside _ _ lookup.0) lookup.1 in
    let tells_slot : TellsText texts slot = subst (TellsText texts) (get_or_from_slice_get slots home slot slot at) (All-get_or (TellsText texts) slots home slot (slice_get_within slots home slot at) tells) in
    let hashed : slot.fingerprint ≡ fingerprint_of (type_key text) = c.is.ensures.0 c.if-is.true ∙ c.in_ok-fingerprint.ensures.0 in
    let short : length text ≤ 16 = c.in_ok-fingerprint.ensures.1.0 in
    let told = tells_slot (omega (arith, short, ap (λ (s : Fingerprint). s.length) hashed)) in
    let same : type_key text ≡ type_key told.0 = same-told (type_key text) (type_key told.0) c.in_ok-fingerprint.ensures.1.1 told.1.bytes short (sym hashed ∙ told.1.fingerprint) in
    told.1.stands ∙ ap (λ (k : Key). Some k.text) (sym same)
