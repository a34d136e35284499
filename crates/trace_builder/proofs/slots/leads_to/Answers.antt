use Rattle.std.proofs.Common.{rules, ◌≡◌, ◌≤◌, ℕ, List, length, Some, sym, ap, ◌∙◌, subst, arith}
use Rattle.trace_keys.specs.Keys.{Key}
use Rattle.trace_keys.specs.Fingerprints.{fingerprint_of}
use Rattle.trace_keys.specs.declared.fingerprint.Fingerprint.{Fingerprint}
use Rattle.trace_keys.proofs.Numbers.{AreBytes}
use Rattle.trace_keys.proofs.Told.{same-told}
use Rattle.trace_builder.specs.Slots.{type_key}
use Rattle.trace_builder.proofs.slots.leads_to.Goals as goal

pub returns : goal.returns
returns c = λ _.
    let text : List ℕ = c.args.text.now in
    let short : length text ≤ 16 = omega (arith, c.if-fingerprint-gt-MAX_TOLD.false, c.requires.length) in
    let hashed : c.args.slot.now.fingerprint ≡ fingerprint_of (type_key text) = c.is.ensures.0 c.if-not-is.false ∙ c.requires.short short in
    let told = c.requires.told (omega (arith, short, ap (λ (s : Fingerprint). s.length) hashed)) in
    let bytes : AreBytes text = subst (λ (xs : List ℕ). AreBytes xs) c.as_bytes.ensures.value c.are_bytes.ensures in
    let same : type_key text ≡ type_key told.0 = same-told (type_key text) (type_key told.0) bytes told.1.bytes short (sym hashed ∙ told.1.fingerprint) in
    told.1.stands ∙ ap (λ (k : Key). Some k.text) (sym same)

pub returns-then-fingerprint-gt-MAX_TOLD : goal.returns-then-fingerprint-gt-MAX_TOLD
returns-then-fingerprint-gt-MAX_TOLD c = search rules
