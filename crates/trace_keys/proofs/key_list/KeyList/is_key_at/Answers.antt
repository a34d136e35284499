use Rattle.std.proofs.Common.{◌≡◌, ℕ, ◌≤◌, false, true≢false, List, length, take, slice_get, Some, sym, ap, ◌∙◌, subst, arith}
use Rattle.std.proofs.lemmas.Bool.{ltb-true, ltb-false, le-leb}
use Rattle.std.proofs.lemmas.Bool.Decides.{Decides-eqb}
use Rattle.std.proofs.lemmas.Option.{slice_get_past}
use Rattle.std.proofs.lemmas.Slice.Eq.{slice_eq-Decides}
use Rattle.std.specs.Bool.{Decides}
use Rattle.std.specs.Option.{option_map_or}
use Rattle.trace_keys.specs.Keys.{Key, key_shown, same_key}
use Rattle.trace_keys.specs.KeyLists.{keys_in, length_of}
use Rattle.trace_keys.specs.Fingerprints.{fingerprint_of}
use Rattle.trace_keys.specs.declared.fingerprint.Fingerprint.{Fingerprint}
use Rattle.trace_keys.proofs.KeyLists.{length-keys_in, keys_in-at, key_from, part-bytes, fingerprint-read, hashed-at, hashed-from}
use Rattle.trace_keys.proofs.Numbers.{AreBytes}
use Rattle.trace_keys.proofs.Told.{same-told, tells-same, tells-texts, tells-fingerprints}
use Rattle.trace_keys.proofs.key_list.KeyList.is_key_at.Goals as goal

pub returns-then-fingerprint-le-MAX_TOLD : goal.returns-then-fingerprint-le-MAX_TOLD
returns-then-fingerprint-le-MAX_TOLD c =
    let fingerprints : List Fingerprint = c.self.inside.fingerprints.items in
    let texts : List ℕ = c.self.inside.texts.items in
    let place : ℕ = c.args.place in
    let known : Fingerprint = c.in-Some.known.now in
    let start : ℕ = length_of (take place fingerprints) in
    let key : Key = c.args.key.now in
    let kept : Key = key_from known start texts in
    let lookup = c.in-Some.ensures.lookup in
    let at : slice_get fingerprints place ≡ Some known = fingerprint-read fingerprints c.deref-2.result.now place known c.deref-2.ensures.value (ltb-true _ _ (sym lookup.0)) lookup.1 in
    let stands : slice_get c.args.self.now place ≡ Some kept = ap (λ (ks : List Key). slice_get ks place) (sym c.self.view_is) ∙ keys_in-at fingerprints texts place known at in
    let one_fingerprint : fingerprint_of key ≡ fingerprint_of kept = sym c.fingerprint-fingerprint.ensures ∙ (sym (c.is.ensures.0 c.if-is.true) ∙ hashed-from fingerprints c.self.inside.starts.items texts place known c.self.invariant at) in
    let bytes : AreBytes key.text = subst (λ (xs : List ℕ). AreBytes xs) (c.as_bytes-text.ensures.value ∙ c.text.ensures) c.are_bytes-2.ensures in
    let kept_bytes : AreBytes kept.text = part-bytes texts start known.length (subst (λ (xs : List ℕ). AreBytes xs) c.deref.ensures.value c.are_bytes.ensures) in
    let short : length key.text ≤ 16 = omega (arith, c.if-fingerprint-le-MAX_TOLD.true, ap (λ (s : Fingerprint). s.length) c.fingerprint-fingerprint.ensures) in
    le-leb c.fingerprint-fingerprint.result.length 16 c.if-fingerprint-le-MAX_TOLD.true
    ∙ sym (ap (λ found. option_map_or (same_key key) found false) stands ∙ (tells-same key kept).1 (same-told key kept bytes kept_bytes short one_fingerprint))

pub returns-else-fingerprint-le-MAX_TOLD : goal.returns-else-fingerprint-le-MAX_TOLD
returns-else-fingerprint-le-MAX_TOLD c =
    let fingerprints : List Fingerprint = c.self.inside.fingerprints.items in
    let place : ℕ = c.args.place in
    let known : Fingerprint = c.in-Some.known.now in
    let key : Key = c.args.key.now in
    let kept : Key = key_shown c.key.result in
    let lookup = c.in-Some.ensures.lookup in
    let at : slice_get fingerprints place ≡ Some known = fingerprint-read fingerprints c.deref-2.result.now place known c.deref-2.ensures.value (ltb-true _ _ (sym lookup.0)) lookup.1 in
    let stands : slice_get (keys_in fingerprints c.self.inside.texts.items) place ≡ Some kept = ap (λ (ks : List Key). slice_get ks place) c.self.view_is ∙ c.key.ensures.value in
    let one_fingerprint : fingerprint_of key ≡ fingerprint_of kept =
    sym c.fingerprint-fingerprint.ensures ∙ (sym (c.is.ensures.0 c.if-is.true) ∙ hashed-at fingerprints c.self.inside.starts.items c.self.inside.texts.items place known kept c.self.invariant at stands) in
    let decides : Decides c.eq.result (kept.text ≡ key.text) =
    subst (λ (text : List ℕ). Decides c.eq.result (kept.text ≡ text)) (c.as_bytes-text.ensures.value ∙ c.text.ensures) (slice_eq-Decides Decides-eqb _ _ c.eq.result c.eq.ensures) in
    tells-texts key kept c.eq.result one_fingerprint decides ∙ sym (ap (λ found. option_map_or (same_key key) found false) c.key.ensures.value)

pub returns-else-is : goal.returns-else-is
returns-else-is c =
    let fingerprints : List Fingerprint = c.self.inside.fingerprints.items in
    let texts : List ℕ = c.self.inside.texts.items in
    let place : ℕ = c.args.place in
    let known : Fingerprint = c.in-Some.known.now in
    let key : Key = c.args.key.now in
    let kept : Key = key_from known (length_of (take place fingerprints)) texts in
    let lookup = c.in-Some.ensures.lookup in
    let at : slice_get fingerprints place ≡ Some known = fingerprint-read fingerprints c.deref-2.result.now place known c.deref-2.ensures.value (ltb-true _ _ (sym lookup.0)) lookup.1 in
    let stands : slice_get c.args.self.now place ≡ Some kept = ap (λ (ks : List Key). slice_get ks place) (sym c.self.view_is) ∙ keys_in-at fingerprints texts place known at in
    let hashed : known ≡ fingerprint_of kept = hashed-from fingerprints c.self.inside.starts.items texts place known c.self.invariant at in
    c.if-is.false
    ∙ sym (ap (λ found. option_map_or (same_key key) found false) stands
    ∙ tells-fingerprints key kept (λ same. true≢false (sym (c.is.ensures.1 (hashed ∙ (sym same ∙ sym c.fingerprint-fingerprint.ensures))) ∙ c.if-is.false)))

pub returns-in-None : goal.returns-in-None
returns-in-None c =
    let fingerprints : List Fingerprint = c.self.inside.fingerprints.items in
    let texts : List ℕ = c.self.inside.texts.items in
    let place : ℕ = c.args.place in
    let key : Key = c.args.key.now in
    let past : length c.deref-2.result.now ≤ place = ltb-false _ _ (sym c.in-None.ensures.lookup.0) in
    let outside : length (keys_in fingerprints texts) ≤ place = omega (arith, past, length-keys_in fingerprints texts, ap (λ (ss : List Fingerprint). length ss) c.deref-2.ensures.value) in
    sym (ap (λ found. option_map_or (same_key key) found false) (ap (λ (ks : List Key). slice_get ks place) (sym c.self.view_is) ∙ slice_get_past (keys_in fingerprints texts) place outside))
