use Rattle.std.proofs.Common.{◌≡◌, ap, sym, ◌∙◌}
use Rattle.trace_keys.specs.Keys.{Key, key_shown}
use Rattle.trace_keys.specs.Fingerprints.{fingerprint_of}
use Rattle.trace_keys.proofs.Keys.{by-fingerprint}
use Rattle.key_table.proofs.table.among_rest.put_known.Goals as goal

pub put_in-requires : goal.put_in-requires
put_in-requires c = record {
  hashed =
      let key : Key = key_shown c.key-key.result in
      let hashed : c.fingerprint.result ≡ fingerprint_of key = c.fingerprint.ensures key c.key-key.ensures.value in
      hashed ∙ ap fingerprint_of (sym (by-fingerprint key c.fingerprint.result c.in-Ok.text.now hashed c.in-Ok.ensures.cases.0));
}
