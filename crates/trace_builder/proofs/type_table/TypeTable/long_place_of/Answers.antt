use Rattle.std.proofs.Common.{◌≡◌, ℕ, List, IfSome, Some, true, subst, slice_get}
use Rattle.std.specs.List.{list_any, position_or_len}
use Rattle.std.specs.Str.{bytes_eq}
use Rattle.trace_builder.proofs.PlaceMaps.{known-at}
use Rattle.trace_builder.proofs.type_table.TypeTable.long_place_of.Goals as goal

pub returns-clause-place : goal.returns-clause-place
returns-clause-place c =
    let texts : List (List ℕ) = c.self.inside.texts.items in
    let found = subst (λ (ts : List (List ℕ)). IfSome c.find.result (λ place. slice_get ts place ≡ Some c.args.text.now)) c.deref-2.ensures.value c.find.ensures in
    subst (λ (ts : List (List ℕ)). IfSome c.find.result (λ place. place ≡ position_or_len (bytes_eq c.args.text.now) ts)) c.self.view_is
    (known-at texts c.args.text.now c.find.result c.self.invariant.0.apart found).0

pub returns-clause-known : goal.returns-clause-known
returns-clause-known c =
    let texts : List (List ℕ) = c.self.inside.texts.items in
    let found = subst (λ (ts : List (List ℕ)). IfSome c.find.result (λ place. slice_get ts place ≡ Some c.args.text.now)) c.deref-2.ensures.value c.find.ensures in
    subst (λ (ts : List (List ℕ)). IfSome c.find.result (λ _. list_any (bytes_eq c.args.text.now) ts ≡ true)) c.self.view_is
    (known-at texts c.args.text.now c.find.result c.self.invariant.0.apart found).1
