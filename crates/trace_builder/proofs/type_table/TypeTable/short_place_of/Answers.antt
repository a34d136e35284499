use Rattle.std.proofs.Common.{◌≡◌, ℕ, List, IfSome, true, subst, sym}
use Rattle.std.specs.List.{All, list_any, position_or_len}
use Rattle.std.specs.Str.{bytes_eq}
use Rattle.trace_builder.specs.Slots.{TellsText}
use Rattle.trace_builder.specs.declared.slots.Slot.{Slot}
use Rattle.trace_builder.proofs.PlaceMaps.{known-at}
use Rattle.trace_builder.proofs.type_table.TypeTable.short_place_of.Goals as goal

pub returns-clause-place : goal.returns-clause-place
returns-clause-place c =
    let texts : List (List ℕ) = c.self.inside.texts.items in
    let found = c.find_short.ensures texts (subst (λ (ss : List Slot). All (TellsText texts) ss) (sym c.deref.ensures.value) c.self.invariant.1) in
    subst (λ (ts : List (List ℕ)). IfSome c.find_short.result (λ place. place ≡ position_or_len (bytes_eq c.args.text.now) ts)) c.self.view_is
    (known-at texts c.args.text.now c.find_short.result c.self.invariant.0.apart found).0

pub returns-clause-known : goal.returns-clause-known
returns-clause-known c =
    let texts : List (List ℕ) = c.self.inside.texts.items in
    let found = c.find_short.ensures texts (subst (λ (ss : List Slot). All (TellsText texts) ss) (sym c.deref.ensures.value) c.self.invariant.1) in
    subst (λ (ts : List (List ℕ)). IfSome c.find_short.result (λ _. list_any (bytes_eq c.args.text.now) ts ≡ true)) c.self.view_is
    (known-at texts c.args.text.now c.find_short.result c.self.invariant.0.apart found).1
