use Rattle.std.proofs.Common.{◌≡◌, ℕ, ◌+◌, true, false, List, sym, ap, ◌∙◌, refl, subst, inl, inr, arith, slice_get, Some, true≢false}
use Rattle.std.specs.Option.{option_map_or}
use Rattle.std.proofs.lemmas.Bool.{cases_lt, eq-eqb}
use Rattle.std.proofs.lemmas.Option.{slice_get_read, slice_get_past, none-some}
use Rattle.trace_keys.specs.Keys.{Key}
use Rattle.key_table.specs.Placed.{is_empty, is_empty_at, slot_of}
use Rattle.key_table.specs.declared.slots.Slot.{Slot}
use Rattle.trace_keys.proofs.Keys.{told-key}
use Rattle.key_table.proofs.Placed.{other-slot, inside, outside}
use Rattle.key_table.proofs.table.finding.find.Goals.{in-Some+else-slot-tag+else-slot, else-slot-tag-via-then-slot-tag+else-is_key_at, else-slot-tag-via-else-slot-tag, in_default}
use Rattle.key_table.proofs.table.finding.find.Goals as goal

pub loop-i-preserved : goal.loop-i-preserved
loop-i-preserved c = λ k below full place is there.
    let key : Key = c.args.key.now in
    elim (cases_lt k c.loop-i.i) [
      | inl before ↦ c.loop-i.invariant k before full place is there
      | inr last ↦
          let here : k ≡ c.loop-i.i = omega (arith, below, last) in
          let at = subst (λ n. slice_get c.args.slots.now (c.args.home + n) ≡ Some (slot_of key place)) here is in
          elim c.match-get.branch [
            | in-Some+else-slot-tag+else-slot w ↦
                let stands = slice_get_read c.args.slots.now _ (c.args.home + c.loop-i.i) w.in-Some.slot.now refl (inside _ _ w.in-Some.ensures.lookup.0) w.in-Some.ensures.lookup.1 in
                elim w.else-slot-tag.branch [
                  | else-slot-tag-via-then-slot-tag+else-is_key_at v ↦
                      other-slot c.args.slots.now c.args.keys.now (c.args.home + c.loop-i.i) w.in-Some.slot.now key place stands
                      (λ tagged stood. true≢false (sym (told-key _ key stood) ∙ (sym v.is_key_at.ensures ∙ v.if-is_key_at.false))) at there
                  | else-slot-tag-via-else-slot-tag v ↦
                      other-slot c.args.slots.now c.args.keys.now (c.args.home + c.loop-i.i) w.in-Some.slot.now key place stands
                      (λ tagged stood. v.if-slot-tag.false (tagged ∙ sym c.requires.tag)) at there
                ]
            | in_default w ↦ none-some _ (sym (slice_get_past c.args.slots.now (c.args.home + c.loop-i.i) (outside _ _ w.in_default.ensures.lookup.0)) ∙ at)
          ]
    ]

pub returns-then-slot-clause-none : goal.returns-then-slot-clause-none
returns-then-slot-clause-none c = λ is i within full place at there.
    let key : Key = c.args.key.now in
    let slots : List Slot = c.args.slots.now in
    let here : ℕ = c.args.home + c.loop-i.i in
    let stands : slice_get slots here ≡ Some c.in-Some.slot.now = slice_get_read slots _ here c.in-Some.slot.now refl (inside _ _ c.in-Some.ensures.lookup.0) c.in-Some.ensures.lookup.1 in
    let empty : is_empty_at slots here ≡ true = ap (λ f. option_map_or is_empty f false) stands ∙ eq-eqb c.in-Some.slot.now.place 4294967295 c.if-slot.true in
    elim (cases_lt i c.loop-i.i) [
      | inl before ↦ c.loop-i.invariant i before full place at there
      | inr late ↦ elim (cases_lt c.loop-i.i i) [
        | inl behind ↦ true≢false (sym empty ∙ full c.loop-i.i behind)
        | inr last ↦
            let same : i ≡ c.loop-i.i = omega (arith, late, last) in
            let at_here = subst (λ n. slice_get slots (c.args.home + n) ≡ Some (slot_of key place)) same at in
            elim c.else-slot-tag.branch [
              | else-slot-tag-via-then-slot-tag+else-is_key_at v ↦
                  other-slot slots c.args.keys.now here c.in-Some.slot.now key place stands (λ tagged stood. true≢false (sym (told-key _ key stood) ∙ (sym v.is_key_at.ensures ∙ v.if-is_key_at.false))) at_here there
              | else-slot-tag-via-else-slot-tag v ↦
                  other-slot slots c.args.keys.now here c.in-Some.slot.now key place stands (λ tagged stood. v.if-slot-tag.false (tagged ∙ sym c.requires.tag)) at_here there
            ]
      ]
    ]
