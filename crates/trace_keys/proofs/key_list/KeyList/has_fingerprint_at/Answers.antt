use Rattle.std.proofs.Common.{◌≡◌, ℕ, ◌≤◌, true, false, true≢false, List, length, take, slice_get, Some, sym, ap, ◌∙◌, subst, ⊎_elim, arith}
use Rattle.std.proofs.lemmas.Bool.{cases_Bool, ltb-true, ltb-false}
use Rattle.std.proofs.lemmas.Option.{slice_get_past}
use Rattle.std.specs.Option.{option_map_or}
use Rattle.trace_keys.specs.Keys.{Key, same_key}
use Rattle.trace_keys.specs.KeyLists.{keys_in, length_of}
use Rattle.trace_keys.specs.Fingerprints.{fingerprint_of}
use Rattle.trace_keys.specs.declared.fingerprint.Fingerprint.{Fingerprint}
use Rattle.trace_keys.proofs.KeyLists.{length-keys_in, keys_in-at, key_from, part-bytes, fingerprint-read, hashed-from}
use Rattle.trace_keys.proofs.Numbers.{AreBytes}
use Rattle.trace_keys.proofs.Told.{same-told, tells-same, tells-fingerprints}
use Rattle.trace_keys.proofs.key_list.KeyList.has_fingerprint_at.Goals as goal

pub returns-in-Some : goal.returns-in-Some
returns-in-Some c = λ key is told.
    let fingerprints : List Fingerprint = c.self.inside.fingerprints.items in
    let texts : List ℕ = c.self.inside.texts.items in
    let place : ℕ = c.args.place in
    let known : Fingerprint = c.in-Some.known.now in
    let start : ℕ = length_of (take place fingerprints) in
    let kept : Key = key_from known start texts in
    let lookup = c.in-Some.ensures.lookup in
    let at : slice_get fingerprints place ≡ Some known = fingerprint-read fingerprints c.deref-2.result.now place known c.deref-2.ensures.value (ltb-true _ _ (sym lookup.0)) lookup.1 in
    let stands : slice_get c.args.self.now place ≡ Some kept = ap (λ (ks : List Key). slice_get ks place) (sym c.self.view_is) ∙ keys_in-at fingerprints texts place known at in
    let hashed : known ≡ fingerprint_of kept = hashed-from fingerprints c.self.inside.starts.items texts place known c.self.invariant at in
    let kept_bytes : AreBytes kept.text = part-bytes texts start known.length (subst (λ (xs : List ℕ). AreBytes xs) c.deref.ensures.value c.are_bytes.ensures) in
    let same : c.is.result ≡ same_key key kept = ⊎_elim
    (λ (yes : c.is.result ≡ true). yes ∙ sym ((tells-same key kept).1 (same-told key kept told.1 kept_bytes told.0 (sym is ∙ (sym (c.is.ensures.0 yes) ∙ hashed)))))
    (λ (no : c.is.result ≡ false). no ∙ sym (tells-fingerprints key kept (λ one. true≢false (sym (c.is.ensures.1 (hashed ∙ (sym one ∙ sym is))) ∙ no))))
    (cases_Bool c.is.result) in
    same ∙ sym (ap (λ found. option_map_or (same_key key) found false) stands)

pub returns-in-None : goal.returns-in-None
returns-in-None c = λ key is told.
    let fingerprints : List Fingerprint = c.self.inside.fingerprints.items in
    let texts : List ℕ = c.self.inside.texts.items in
    let place : ℕ = c.args.place in
    let past : length c.deref-2.result.now ≤ place = ltb-false _ _ (sym c.in-None.ensures.lookup.0) in
    let outside : length (keys_in fingerprints texts) ≤ place = omega (arith, past, length-keys_in fingerprints texts, ap (λ (ss : List Fingerprint). length ss) c.deref-2.ensures.value) in
    sym (ap (λ found. option_map_or (same_key key) found false) (ap (λ (ks : List Key). slice_get ks place) (sym c.self.view_is) ∙ slice_get_past (keys_in fingerprints texts) place outside))
