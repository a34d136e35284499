use Rattle.std.proofs.Common.{sym, ◌∙◌}
use Rattle.trace_keys.specs.Keys.{Key}
use Rattle.trace_keys.proofs.Keys.{key-told, known-key}
use Rattle.key_table.proofs.table.KeyTable.short_place_of.Goals as goal

pub returns-then-has_fingerprint_at-clause-place : goal.returns-then-has_fingerprint_at-clause-place
returns-then-has_fingerprint_at-clause-place c =
    let key : Key = record { file = c.args.file; section = c.args.section; text = c.args.text.now } in
    let hashed = c.in_ok-fingerprint.ensures in
    (known-key c.args.self.now c.self.inside.keys c.in_ok-slot.slot.now.place key c.self.invariant.0.apart c.self.view_is (key-told _ key (sym (c.has_fingerprint_at.ensures key hashed.0 hashed.1) ∙ c.if-has_fingerprint_at.true))).0

pub returns-then-has_fingerprint_at-clause-known : goal.returns-then-has_fingerprint_at-clause-known
returns-then-has_fingerprint_at-clause-known c =
    let key : Key = record { file = c.args.file; section = c.args.section; text = c.args.text.now } in
    let hashed = c.in_ok-fingerprint.ensures in
    sym c.self.view_is ∙ (known-key c.args.self.now c.self.inside.keys c.in_ok-slot.slot.now.place key c.self.invariant.0.apart c.self.view_is (key-told _ key (sym (c.has_fingerprint_at.ensures key hashed.0 hashed.1) ∙ c.if-has_fingerprint_at.true))).1
