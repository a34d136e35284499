use Rattle.std.proofs.Common.{◌≡◌, ℕ, ◌+◌, ◌<◌, false, List, length, slice_set, true, refl, sym, subst, arith}
use Rattle.trace_keys.specs.Keys.{Key}
use Rattle.key_table.specs.Placed.{is_empty_at, key_home, slot_of, IsFull, RestGrows, AreKeysPlaced}
use Rattle.key_table.specs.declared.slots.Slot.{Slot}
use Rattle.trace_keys.proofs.Keys.{by-fingerprint}
use Rattle.key_table.proofs.Placed.{home-is, slot-is, begun-in-slot, begun-by-rest}
use Rattle.key_table.proofs.table.putting.begin.Goals as goal

pub returns-in_ok-push-in-Some-clause-placed : goal.returns-in_ok-push-in-Some-clause-placed
returns-in_ok-push-in-Some-clause-placed c =
    let key : Key = c.args.key.now in
    let home = home-is key c.fingerprint-fingerprint.result c.mix-mix.result c.args.shift c.home_of_mix.result c.fingerprint-fingerprint.ensures c.mix-mix.ensures c.home_of_mix.ensures.value in
    let slot = slot-is key c.fingerprint-fingerprint.result c.mix-mix.result c.tag_of_mix.result c.len-place.result c.fingerprint-fingerprint.ensures c.mix-mix.ensures c.tag_of_mix.ensures in
    let at = c.in-Some.ensures.some in
    let first : (k : ℕ) → key_home c.args.shift key + k < c.in-Some.at → is_empty_at c.args.slots.now.items (key_home c.args.shift key + k) ≡ false =
    subst (λ (ss : List Slot). (k : ℕ) → key_home c.args.shift key + k < c.in-Some.at → is_empty_at ss (key_home c.args.shift key + k) ≡ false) c.as_slice.ensures.value
    (subst (λ (h : ℕ). (k : ℕ) → h + k < c.in-Some.at → is_empty_at c.as_slice.result.now (h + k) ≡ false) home c.in-Some.ensures.first) in
    subst (λ (s : Slot). AreKeysPlaced (slice_set c.args.slots.now.items c.in-Some.at s) c.args.shift c.args.rest.now.entries c.push.new.self) (sym slot)
    (subst (λ (n : ℕ). AreKeysPlaced (slice_set c.args.slots.now.items c.in-Some.at (slot_of key n)) c.args.shift c.args.rest.now.entries c.push.new.self) (sym c.len-place.ensures)
    (subst (λ (ks : List Key). AreKeysPlaced (slice_set c.args.slots.now.items c.in-Some.at (slot_of key (length c.args.keys.now))) c.args.shift c.args.rest.now.entries ks) (sym c.in_ok-push-in-Some.ensures.ok)
    (begun-in-slot c.args.slots.now.items c.args.shift c.args.rest.now.entries c.args.keys.now c.in-Some.at key (omega (arith, c.requires.few))
    (omega (arith, at.0, home)) (omega (arith, at.1, home)) (subst (λ (ss : List Slot). is_empty_at ss c.in-Some.at ≡ true) c.as_slice.ensures.value at.2) first c.requires.new c.requires.placed)))

pub returns-in_ok-put_in-in-None-clause-placed : goal.returns-in_ok-put_in-in-None-clause-placed
returns-in_ok-put_in-in-None-clause-placed c =
    let key : Key = c.args.key.now in
    let home = home-is key c.fingerprint-fingerprint.result c.mix-mix.result c.args.shift c.home_of_mix.result c.fingerprint-fingerprint.ensures c.mix-mix.ensures c.home_of_mix.ensures.value in
    begun-by-rest c.push-in-None.result c.args.slots.now.items c.args.shift c.args.rest.now.entries c.put_in.new.rest.entries c.args.keys.now c.push-in-None.new.self key
    (subst (IsFull c.args.slots.now.items) home (subst (λ (ss : List Slot). IsFull ss c.home_of_mix.result) c.as_slice.ensures.value (c.in-None.ensures.none refl))) (subst (λ (n : ℕ). RestGrows c.args.rest.now.entries c.put_in.new.rest.entries key n) c.len-place.ensures
    (subst (λ (k : Key). RestGrows c.args.rest.now.entries c.put_in.new.rest.entries k c.len-place.result) (by-fingerprint key c.fingerprint-fingerprint.result c.text.result.now c.fingerprint-fingerprint.ensures c.text.ensures) c.in_ok-put_in-in-None.ensures.ok)) c.requires.new c.requires.placed c.push-in-None.ensures.ok c.push-in-None.ensures.err
