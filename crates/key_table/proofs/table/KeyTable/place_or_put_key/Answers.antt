use Rattle.std.proofs.Common.{◌≡◌, ℕ, List, length, refl, ◌∙◌, ap, subst, arith, IfSome, Option, Ok, Some, slice_get}
use Rattle.trace_keys.specs.Keys.{Key, AreApart, same_key}
use Rattle.trace_keys.proofs.Keys.{known-key}
use Rattle.trace_keys.proofs.Positions.{position-all}
use Rattle.key_table.proofs.table.KeyTable.place_or_put_key.Goals as goal

pub returns-in-Some-clause-place : goal.returns-in-Some-clause-place
returns-in-Some-clause-place c =
    let old : List Key = c.args.self.now in
    let at = subst (λ (found : Option ℕ). IfSome found (λ place. slice_get old place ≡ Some c.args.key.now)) c.in-Some.is c.in_ok-place.ensures.some in
    (known-key old old c.in-Some.place c.args.key.now (subst (AreApart same_key) c.self.view_is c.self.invariant.0.apart) refl
    at).0

pub returns-in-Some-clause-ok : goal.returns-in-Some-clause-ok
returns-in-Some-clause-ok c =
    let old : List Key = c.args.self.now in
    let at = subst (λ (found : Option ℕ). IfSome found (λ place. slice_get old place ≡ Some c.args.key.now)) c.in-Some.is c.in_ok-place.ensures.some in
    (known-key old old c.in-Some.place c.args.key.now (subst (AreApart same_key) c.self.view_is c.self.invariant.0.apart) refl
    at).1

pub returns-clause-place : goal.returns-clause-place
returns-clause-place c =
    let key : Key = c.args.key.now in
    let none = c.place_of.ensures.none (c.in_ok-place.was ∙ ap (λ o. Ok o) c.in_default.is) in
    omega (arith, c.len-end.ensures, ap length c.self-2.view_is, ap length c.grow.ensures, (position-all (same_key key) c.args.self.now).0 none)
