use Rattle.std.proofs.Common.{◌≡◌, ℕ, List, [], ◌∷◌, ◌++◌, length, ap, ◌∙◌, subst, arith}
use Rattle.std.specs.Str.{IsUtf8}
use Rattle.trace_keys.specs.Keys.{Key}
use Rattle.trace_keys.specs.declared.fingerprint.Fingerprint.{Fingerprint}
use Rattle.trace_keys.proofs.KeyLists.{keys-pushed, keys_in-pushed}
use Rattle.trace_keys.proofs.key_list.KeyList.push.Goals as goal

pub invariant_of-self-2 : goal.invariant_of-self-2
invariant_of-self-2 c =
    let fingerprints : List Fingerprint = c.self.inside.fingerprints.items in
    let starts : List ℕ = c.self.inside.starts.items in
    let texts : List ℕ = c.self.inside.texts.items in
    let start : c.len-start.result ≡ length texts = omega (arith, c.len-start.ensures, c.self.inside.texts.ok.0) in
    keys-pushed fingerprints starts texts (c.args.key.now) c.push_reserved-2.new.self.items c.push_reserved.new.self.items c.extend_from_slice.new.self.items c.self.invariant
    (subst IsUtf8 (c.as_bytes.ensures.value ∙ c.text.ensures) c.as_bytes.ensures.utf8)
    (c.push_reserved-2.ensures.items ∙ (ap (λ (ss : List Fingerprint). ss ++ c.fingerprint.result ∷ []) c.reserve.ensures.items ∙ ap (λ (s : Fingerprint). fingerprints ++ s ∷ []) c.fingerprint.ensures))
    (c.push_reserved.ensures.items ∙ (ap (λ (ns : List ℕ). ns ++ c.len-start.result ∷ []) c.reserve-2.ensures.items ∙ ap (λ n. starts ++ n ∷ []) start))
    (c.in_ok-extend_from_slice.ensures.items ∙ ap (λ (ts : List ℕ). texts ++ ts) (c.as_bytes.ensures.value ∙ c.text.ensures))

pub returns-clause-ok : goal.returns-clause-ok
returns-clause-ok c =
    let fingerprints : List Fingerprint = c.self.inside.fingerprints.items in
    let texts : List ℕ = c.self.inside.texts.items in
    let key : Key = c.args.key.now in
    keys_in-pushed fingerprints texts key c.push_reserved-2.new.self.items c.extend_from_slice.new.self.items c.self.invariant.long
    (c.push_reserved-2.ensures.items ∙ (ap (λ (ss : List Fingerprint). ss ++ c.fingerprint.result ∷ []) c.reserve.ensures.items ∙ ap (λ (s : Fingerprint). fingerprints ++ s ∷ []) c.fingerprint.ensures))
    (c.in_ok-extend_from_slice.ensures.items ∙ ap (λ (ts : List ℕ). texts ++ ts) (c.as_bytes.ensures.value ∙ c.text.ensures))
    ∙ ap (λ (ks : List Key). ks ++ key ∷ []) c.self.view_is
