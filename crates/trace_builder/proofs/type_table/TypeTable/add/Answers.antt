use Rattle.std.proofs.Common.{rules, ◌≡◌, ℕ, List, ◌++◌, ◌∷◌, [], Some, slice_get, cond, false, length, refl, arith, ap, sym, ◌∙◌, subst}
use Rattle.std.proofs.lemmas.Map.Text.{btree_map_updates_text}
use Rattle.std.specs.BTreeMap.{get_by_text}
use Rattle.std.specs.String.{string_bytes}
use Rattle.std.specs.List.{list_any, All}
use Rattle.std.specs.Str.{bytes_eq}
use Rattle.trace_builder.specs.PlaceMaps.{AreTextsPlaced}
use Rattle.trace_builder.specs.Slots.{TellsText}
use Rattle.trace_builder.proofs.PlaceMaps.{texts-placed-grow}
use Rattle.trace_builder.proofs.TextsTold.{last-text, slots-tell, all-stays}
use Rattle.trace_builder.proofs.type_table.TypeTable.add.Goals as goal

pub invariant_of-self : goal.invariant_of-self
invariant_of-self c = all-stays c.self.inside.places c.self.inside.places c.self.inside.slots.items c.self.inside.texts.items c.reserve.new.self.items c.self.invariant refl c.reserve.ensures.items

pub invariant_of-self-in_err-from_str : goal.invariant_of-self-in_err-from_str
invariant_of-self-in_err-from_str c = all-stays c.self.inside.places c.self.inside.places c.self.inside.slots.items c.self.inside.texts.items c.reserve.new.self.items c.self.invariant refl c.reserve.ensures.items

pub invariant_of-self-in_err-known : goal.invariant_of-self-in_err-known
invariant_of-self-in_err-known c = all-stays c.self.inside.places c.self.inside.places c.self.inside.slots.items c.self.inside.texts.items c.reserve.new.self.items c.self.invariant refl c.reserve.ensures.items

pub invariant_of-self-in_err-insert : goal.invariant_of-self-in_err-insert
invariant_of-self-in_err-insert c = all-stays c.self.inside.places c.insert.new.self c.self.inside.slots.items c.self.inside.texts.items c.reserve.new.self.items c.self.invariant c.in_err-insert.ensures.err c.reserve.ensures.items

pub push_reserved-requires : goal.push_reserved-requires
push_reserved-requires c = omega (arith, c.in_ok-reserve.ensures.ok)

pub invariant_of-self-2 : goal.invariant_of-self-2
invariant_of-self-2 c =
    let texts : List (List ℕ) = c.self.inside.texts.items in
    let text = c.args.text.now in
    let bytes : string_bytes c.in_ok-known.known ≡ text = c.in_ok-known.ensures.ok in
    let items : c.push_reserved.new.self.items ≡ texts ++ text ∷ [] =
    c.push_reserved.ensures.items
    ∙ (ap (λ (xs : List (List ℕ)). xs ++ c.from_string-shown.result ∷ []) c.reserve.ensures.items
    ∙ ap (λ (t : List ℕ). texts ++ t ∷ []) (c.from_string-shown.ensures ∙ c.in_ok-from_str.ensures.ok)) in
    let last : c.len-place.result ≡ length texts = omega (arith, c.len-place.ensures, ap (λ (xs : List (List ℕ)). length xs) c.reserve.ensures.items, c.reserve.new.self.ok.0) in
    let stands : slice_get (texts ++ text ∷ []) c.len-place.result ≡ Some text = ap (slice_get (texts ++ text ∷ [])) last ∙ last-text texts text in (
      subst (AreTextsPlaced c.insert.new.self) (sym items)
          (texts-placed-grow c.self.inside.places c.insert.new.self texts text c.self.invariant.0 (subst (λ ts. list_any (bytes_eq text) ts ≡ false) (sym c.self.view_is) c.requires.new)
          (λ cs. btree_map_updates_text (string_bytes c.in_ok-known.known) c.self.inside.places c.insert.new.self (Some c.len-place.result) c.in_ok-insert.ensures.updates cs
          ∙ (ap (λ (t : List ℕ). cond (bytes_eq t cs) (Some c.len-place.result) (get_by_text c.self.inside.places cs)) bytes
          ∙ ap (λ n. cond (bytes_eq text cs) (Some n) (get_by_text c.self.inside.places cs)) last))),
      subst (λ (ts : List (List ℕ)). All (TellsText ts) c.note.new.slots.items) (sym items)
          (c.note.ensures (texts ++ text ∷ []) stands (slots-tell texts text c.self.inside.slots.items c.self.invariant.1)),
    )

pub returns-clause-ok : goal.returns-clause-ok
returns-clause-ok c = search rules
