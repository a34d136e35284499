use Rattle.std.proofs.Common.{◌≡◌, sym, ◌∙◌, subst, Some, slice_get}
use Rattle.trace_keys.specs.Keys.{Key, key_in}
use Rattle.trace_keys.proofs.Keys.{key-told, known-key}
use Rattle.key_table.proofs.table.KeyTable.place_or_put.Goals as goal

pub returns-then-has_parts_at-clause-place : goal.returns-then-has_parts_at-clause-place
returns-then-has_parts_at-clause-place c =
    let key : Key = key_in c.args.parts.now in
    (known-key c.args.self.now c.self.inside.keys c.args.near key c.self.invariant.0.apart c.self.view_is (key-told _ key (sym c.has_parts_at.ensures ∙ c.if-has_parts_at.true))).0

pub returns-then-has_parts_at-clause-ok : goal.returns-then-has_parts_at-clause-ok
returns-then-has_parts_at-clause-ok c =
    let key : Key = key_in c.args.parts.now in
    sym c.self.view_is ∙ (known-key c.args.self.now c.self.inside.keys c.args.near key c.self.invariant.0.apart c.self.view_is (key-told _ key (sym c.has_parts_at.ensures ∙ c.if-has_parts_at.true))).1

pub returns-then-is_key_at-clause-place : goal.returns-then-is_key_at-clause-place
returns-then-is_key_at-clause-place c =
    let key : Key = key_in c.args.parts.now in
    let at = subst (λ (k : Key). slice_get c.self.inside.keys c.args.near ≡ Some k) c.of-key.ensures (key-told _ c.of-key.result (sym c.is_key_at.ensures ∙ c.if-is_key_at.true)) in
    (known-key c.args.self.now c.self.inside.keys c.args.near key c.self.invariant.0.apart c.self.view_is at).0

pub returns-then-is_key_at-clause-ok : goal.returns-then-is_key_at-clause-ok
returns-then-is_key_at-clause-ok c =
    let key : Key = key_in c.args.parts.now in
    let at = subst (λ (k : Key). slice_get c.self.inside.keys c.args.near ≡ Some k) c.of-key.ensures (key-told _ c.of-key.result (sym c.is_key_at.ensures ∙ c.if-is_key_at.true)) in
    sym c.self.view_is ∙ (known-key c.args.self.now c.self.inside.keys c.args.near key c.self.invariant.0.apart c.self.view_is at).1
