use Rattle.std.proofs.Common.{ap, sym, ◌∙◌}
use Rattle.trace_keys.specs.Fingerprints.{low_of, high_of}
use Rattle.trace_keys.specs.declared.fingerprint.Fingerprint.{Fingerprint}
use Rattle.trace_keys.proofs.Keys.{by-fingerprint}
use Rattle.key_table.proofs.Rest.{key-lookup}
use Rattle.key_table.proofs.table.among_rest.place_in.Goals as goal

pub returns-in-Some : goal.returns-in-Some
returns-in-Some c =
    let fingerprint : Fingerprint = c.fingerprint-fingerprint.result in
    let text = c.in_ok-text.ensures.ok ∙ c.text.ensures in
    c.in-Some.ensures.value
    ∙ key-lookup c.args.rest.now.entries (c.front.result, c.end.result, fingerprint.file, fingerprint.section, c.in_ok-text.text) c.args.key.now (
      sym (c.front.ensures _ (ap (λ (s : Fingerprint). s.low) c.fingerprint-fingerprint.ensures ∙ sym (ap low_of text))),
      sym (c.end.ensures _ (ap (λ (s : Fingerprint). s.high) c.fingerprint-fingerprint.ensures ∙ sym (ap high_of text))),
    )
    (by-fingerprint c.args.key.now fingerprint _ c.fingerprint-fingerprint.ensures text)

pub returns : goal.returns
returns c =
    let fingerprint : Fingerprint = c.fingerprint-fingerprint.result in
    let text = c.in_ok-text.ensures.ok ∙ c.text.ensures in
    c.in-None.ensures.value
    ∙ key-lookup c.args.rest.now.entries (c.front.result, c.end.result, fingerprint.file, fingerprint.section, c.in_ok-text.text) c.args.key.now (
      sym (c.front.ensures _ (ap (λ (s : Fingerprint). s.low) c.fingerprint-fingerprint.ensures ∙ sym (ap low_of text))),
      sym (c.end.ensures _ (ap (λ (s : Fingerprint). s.high) c.fingerprint-fingerprint.ensures ∙ sym (ap high_of text))),
    )
    (by-fingerprint c.args.key.now fingerprint _ c.fingerprint-fingerprint.ensures text)
