use Rattle.std.proofs.Common.{◌≡◌, ℕ, List, IsUtf8, get_or, sym, ap, subst, ◌∙◌, inl, inr, arith}
use Rattle.std.proofs.lemmas.Bool.{cases_eq}
use Rattle.std.proofs.lemmas.List.{get_or_default}
use Rattle.model_reader.proofs.reading.texts_are_utf8.Goals as goal

pub texts-preserved : goal.texts-preserved
texts-preserved c = λ k d m.
    let texts : List (List ℕ) = c.args.texts.now in
    elim (cases_eq k c.texts.text-index) [
      | inl e ↦
          let same : c.as_str.result.now ≡ get_or texts k d =
          c.as_str.ensures ∙ (c.text-item.is ∙ (get_or_default texts c.texts.text-index c.text-item.result d c.texts-test.true ∙ ap (λ (n : ℕ). get_or texts n d) (sym e))) in
          subst IsUtf8 same c.as_str.utf8
      | inr n ↦ c.texts.invariant k d (omega (arith, m, n))
    ]
