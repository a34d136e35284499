use Rattle.std.proofs.Common.{rules, ◌≡◌, ℕ, List, ◌++◌, ◌∷◌, [], ◌-◌, None, take, length, sym, subst, false}
use Rattle.std.proofs.lemmas.List.Elements.{All-nil}
use Rattle.std.proofs.lemmas.Map.Text.{btree_map_updates_text}
use Rattle.std.specs.List.{list_any, All}
use Rattle.std.specs.Str.{bytes_eq}
use Rattle.trace_builder.specs.PlaceMaps.{AreTextsPlaced}
use Rattle.trace_builder.specs.Slots.{TellsText}
use Rattle.trace_builder.specs.declared.slots.Slot.{Slot}
use Rattle.trace_builder.proofs.PlaceMaps.{texts-placed-shrink}
use Rattle.trace_builder.proofs.type_table.TypeTable.forget_last.Goals as goal

pub invariant_of-self : goal.invariant_of-self
invariant_of-self c =
    let texts : List (List ℕ) = c.self.inside.texts.items in
    let front : List (List ℕ) = take (length texts - 1) texts in
    let text = c.args.text.now in
    let last : texts ≡ front ++ text ∷ [] = subst (λ (ts : List (List ℕ)). ts ≡ take (length ts - 1) ts ++ text ∷ []) (sym c.self.view_is) c.requires.last in
    let none : list_any (bytes_eq text) front ≡ false = subst (λ (ts : List (List ℕ)). list_any (bytes_eq text) (take (length ts - 1) ts) ≡ false) (sym c.self.view_is) c.requires.new in
    let popped : take (length texts - 1) texts ≡ c.pop.new.self.items = search rules in (
      subst (AreTextsPlaced c.remove.new.self) popped
          (texts-placed-shrink c.self.inside.places c.remove.new.self front text (subst (AreTextsPlaced c.self.inside.places) last c.self.invariant.0) none
          (btree_map_updates_text text c.self.inside.places c.remove.new.self None c.remove.ensures.updates)),
      subst (λ (ss : List Slot). All (TellsText c.pop.new.self.items) ss) (sym c.clear.ensures.items) (All-nil (TellsText c.pop.new.self.items)),
    )
