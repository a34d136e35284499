use Rattle.std.proofs.Common.{ℕ, List, [], ◌∷◌, ◌++◌, refl, sym, ap, ◌∙◌, inl, inr, Bor}
use Rattle.reports.specs.Lists.{shown_lists, rest_place}
use Rattle.reports.proofs.Placing.{shown-length, shown-push}
use Rattle.reports.proofs.Rest.{by-order, rest-put}
use Rattle.reports.proofs.lists.place_or_put_in_rest.Goals as goal

pub returns-in-Some-clause-ok : goal.returns-in-Some-clause-ok
returns-in-Some-clause-ok c = inl (sym (c.in-Some.ensures.value ∙ by-order c.args.rest.now.entries c.args.ids.now), refl, refl)

pub returns-clause-ok : goal.returns-clause-ok
returns-clause-ok c =
    let lists : List (Bor (List ℕ)) = c.args.lists.now.items in
    inr (
      sym (c.in_default.ensures.value ∙ by-order c.args.rest.now.entries c.args.ids.now),
      c.len-place.ensures ∙ (c.args.lists.now.ok.0 ∙ sym (shown-length lists)),
      ap shown_lists (c.push_reserved.ensures.items ∙ ap (λ (xs : List (Bor (List ℕ))). xs ++ c.args.ids ∷ []) c.in_ok-reserve.ensures.items) ∙ shown-push lists c.args.ids,
      λ other. ap (λ (es : List (Bor (List ℕ) × ℕ)). rest_place es other) c.in_ok-insert.ensures.entries ∙ rest-put other c.args.rest.now.entries c.args.ids c.len-place.result,
    )
