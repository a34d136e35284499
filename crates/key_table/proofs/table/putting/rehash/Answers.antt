use Rattle.std.proofs.Common.{◌≡◌, ◌+◌, ◌<◌, false, ℕ, List, slice_set, true, refl, sym, ◌∙◌, ap, subst, arith, String, Vec}
use Rattle.std.specs.BTreeMap.{BTreeMap}
use Rattle.std.specs.declared.alloc.Global.{Global}
use Rattle.trace_keys.specs.Keys.{Key}
use Rattle.key_table.specs.Placed.{is_empty_at, key_home, IsFull, ArePlaced, KeepsPlaced}
use Rattle.key_table.specs.declared.slots.Slot.{Slot}
use Rattle.key_table.proofs.Placed.{home-is, slot-is, ArePlacedTo, more-in-slot, more-in-rest, kept-at, key-there, placed-all}
use Rattle.key_table.proofs.table.putting.rehash.Goals.{in-Some, in-None+in_ok-put_known-in-None}
use Rattle.key_table.proofs.table.putting.rehash.Goals as goal

pub returns-in_err-put_known-in-None-clause-kept : goal.returns-in_err-put_known-in-None-clause-kept
returns-in_err-put_known-in-None-clause-kept c = λ slots shift placed.
    subst (λ es. ArePlaced slots shift es c.args.keys.now) (sym c.in_err-put_known-in-None.ensures.err) (c.loop-place.invariant.0 slots shift placed)

pub loop-place-preserved : goal.loop-place-preserved
loop-place-preserved c =
    let there = key-there c.args.keys.now c.loop-place.place (omega (arith, c.loop-place-test.true, c.len-place-end.ensures)) in
    let key : Key = there.0 in
    let hashed = c.fingerprint.ensures key there.1 in
    let home = home-is key c.fingerprint.result c.mix-mix.result c.args.shift c.home_of_mix.result hashed c.mix-mix.ensures c.home_of_mix.ensures.value in
    elim c.match-first_empty.branch [
      | in-Some w ↦
          let slot = slot-is key c.fingerprint.result c.mix-mix.result w.tag_of_mix.result c.loop-place.place hashed c.mix-mix.ensures w.tag_of_mix.ensures in
          let at = w.in-Some.ensures.some in
          let first : (k : ℕ) → key_home c.args.shift key + k < w.in-Some.at → is_empty_at c.loop-place.slots.items (key_home c.args.shift key + k) ≡ false =
          subst (λ (ss : List Slot). (k : ℕ) → key_home c.args.shift key + k < w.in-Some.at → is_empty_at ss (key_home c.args.shift key + k) ≡ false) c.as_slice.ensures.value
          (subst (λ (h : ℕ). (k : ℕ) → h + k < w.in-Some.at → is_empty_at c.as_slice.result.now (h + k) ≡ false) home w.in-Some.ensures.first) in (
            subst (λ (r : List ((ℕ × ℕ × ℕ × ℕ × String Global) × ℕ)). KeepsPlaced c.args.keys.now c.args.rest.now.entries r) (sym (ap (λ (m : BTreeMap (ℕ × ℕ × ℕ × ℕ × String Global) ℕ). m.entries) w.rest-is)) c.loop-place.invariant.0,
            subst (λ (r : List ((ℕ × ℕ × ℕ × ℕ × String Global) × ℕ)). ArePlacedTo (c.loop-place.place + 1) c.match-first_empty.slots.items c.args.shift r c.args.keys.now) (sym (ap (λ (m : BTreeMap (ℕ × ℕ × ℕ × ℕ × String Global) ℕ). m.entries) w.rest-is))
                (subst (λ (ss : List Slot). ArePlacedTo (c.loop-place.place + 1) ss c.args.shift c.loop-place.rest.entries c.args.keys.now)
                (ap (slice_set c.loop-place.slots.items w.in-Some.at) (sym slot) ∙ sym (ap (λ (v : Vec Slot Global). v.items) w.slots-is))
                (more-in-slot c.loop-place.slots.items c.args.shift c.loop-place.rest.entries c.args.keys.now c.loop-place.place w.in-Some.at key (omega (arith, c.requires.few)) there.1
                (omega (arith, at.0, home)) (omega (arith, at.1, home)) (subst (λ (ss : List Slot). is_empty_at ss w.in-Some.at ≡ true) c.as_slice.ensures.value at.2) first
                c.loop-place.invariant.1)),
          )
      | in-None+in_ok-put_known-in-None w ↦
          let grows = w.in_ok-put_known-in-None.ensures.ok in
          let full = subst (IsFull c.loop-place.slots.items) home (subst (λ (ss : List Slot). IsFull ss c.home_of_mix.result) c.as_slice.ensures.value (w.in-None.ensures.none refl)) in (
            subst (λ (r : List ((ℕ × ℕ × ℕ × ℕ × String Global) × ℕ)). KeepsPlaced c.args.keys.now c.args.rest.now.entries r) (sym (ap (λ (m : BTreeMap (ℕ × ℕ × ℕ × ℕ × String Global) ℕ). m.entries) w.rest-is))
                (λ slots shift placed. kept-at c.args.keys.now c.loop-place.rest.entries w.put_known.new.rest.entries c.loop-place.place key c.requires.apart there.1 grows slots shift (c.loop-place.invariant.0 slots shift placed)),
            subst (λ (r : List ((ℕ × ℕ × ℕ × ℕ × String Global) × ℕ)). ArePlacedTo (c.loop-place.place + 1) c.match-first_empty.slots.items c.args.shift r c.args.keys.now) (sym (ap (λ (m : BTreeMap (ℕ × ℕ × ℕ × ℕ × String Global) ℕ). m.entries) w.rest-is))
                (subst (λ (ss : List Slot). ArePlacedTo (c.loop-place.place + 1) ss c.args.shift w.put_known.new.rest.entries c.args.keys.now) (sym (ap (λ (v : Vec Slot Global). v.items) w.slots-is))
                (more-in-rest c.loop-place.slots.items c.args.shift c.loop-place.rest.entries w.put_known.new.rest.entries c.args.keys.now c.loop-place.place key c.requires.apart there.1 full grows
                c.loop-place.invariant.1)),
          )
    ]

pub returns-clause-ok : goal.returns-clause-ok
returns-clause-ok c = placed-all c.args.keys.now c.loop-place.place c.loop-place.slots.items c.args.shift c.loop-place.rest.entries (omega (arith, c.loop-place-test.false, c.len-place-end.ensures)) c.loop-place.invariant.1
