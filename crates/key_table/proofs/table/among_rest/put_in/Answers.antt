use Rattle.std.proofs.Common.{ap, ◌∙◌, sym, ℕ, String, cond, Some}
use Rattle.std.specs.declared.alloc.Global.{Global}
use Rattle.trace_keys.specs.Keys.{same_key}
use Rattle.key_table.specs.Placed.{rest_place}
use Rattle.trace_keys.specs.Fingerprints.{low_of, high_of}
use Rattle.trace_keys.specs.declared.fingerprint.Fingerprint.{Fingerprint}
use Rattle.key_table.proofs.Rest.{lookup-put, own-words}
use Rattle.key_table.proofs.table.among_rest.put_in.Goals as goal

pub returns-clause-ok : goal.returns-clause-ok
returns-clause-ok c = λ q.
    let fingerprint : Fingerprint = c.args.fingerprint in
    let known : ℕ × ℕ × ℕ × ℕ × String Global = (c.front.result, c.end.result, fingerprint.file, fingerprint.section, c.in_ok-text.text) in
    let text = c.in_ok-text.ensures.ok in
    ap (λ es. rest_place es q) c.in_ok-insert.ensures.entries
    ∙ (lookup-put q c.args.rest.now.entries known c.args.place
    ∙ (ap (λ b. cond b (Some c.args.place) (rest_place c.args.rest.now.entries q)) (own-words q known (
      sym (c.front.ensures _ (ap (λ (s : Fingerprint). s.low) c.requires.hashed ∙ sym (ap low_of text))),
      sym (c.end.ensures _ (ap (λ (s : Fingerprint). s.high) c.requires.hashed ∙ sym (ap high_of text))),
    ))
    ∙ ap (λ t. cond (same_key q (record { file = fingerprint.file; section = fingerprint.section; text = t })) (Some c.args.place) (rest_place c.args.rest.now.entries q)) text))
