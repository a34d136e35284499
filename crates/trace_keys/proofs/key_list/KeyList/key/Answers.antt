use Rattle.std.proofs.Common.{◌≡◌, ◌<◌, List, length, slice_get, Some, sym, ap, ◌∙◌, refl, arith}
use Rattle.std.proofs.lemmas.Option.{slice_get_read}
use Rattle.trace_keys.specs.Keys.{Key}
use Rattle.trace_keys.specs.declared.fingerprint.Fingerprint.{Fingerprint}
use Rattle.trace_keys.proofs.KeyLists.{length-keys_in, key-read}
use Rattle.trace_keys.proofs.key_list.KeyList.key.Goals as goal

pub returns-clause-value : goal.returns-clause-value
returns-clause-value c =
    let fingerprints : List Fingerprint = c.self.inside.fingerprints.items in
    let inside : c.args.place < length fingerprints = omega (arith, c.requires.within, length-keys_in fingerprints c.self.inside.texts.items, ap (λ (ks : List Key). length ks) c.self.view_is) in
    let at : slice_get fingerprints c.args.place ≡ Some c.index-fingerprint.result.now = slice_get_read fingerprints (length fingerprints) c.args.place c.index-fingerprint.result.now refl inside c.index-fingerprint.ensures in
    ap (λ (ks : List Key). slice_get ks c.args.place) (sym c.self.view_is)
    ∙ key-read fingerprints c.self.inside.starts.items c.self.inside.texts.items c.deref.result.now c.args.place c.index-fingerprint.result.now c.index-start.result.now c.self.invariant at inside c.index-start.ensures c.deref.ensures.value

pub returns-clause-utf8 : goal.returns-clause-utf8
returns-clause-utf8 c =
    let fingerprints : List Fingerprint = c.self.inside.fingerprints.items in
    let inside : c.args.place < length fingerprints = omega (arith, c.requires.within, length-keys_in fingerprints c.self.inside.texts.items, ap (λ (ks : List Key). length ks) c.self.view_is) in
    let at : slice_get fingerprints c.args.place ≡ Some c.index-fingerprint.result.now = slice_get_read fingerprints (length fingerprints) c.args.place c.index-fingerprint.result.now refl inside c.index-fingerprint.ensures in
    c.self.invariant.utf8 c.args.place _
    (key-read fingerprints c.self.inside.starts.items c.self.inside.texts.items c.deref.result.now c.args.place c.index-fingerprint.result.now c.index-start.result.now c.self.invariant at inside c.index-start.ensures c.deref.ensures.value)
