use Rattle.std.proofs.Common.{◌≡◌, ◌<◌, true, get_or, length, sym, ◌∙◌, ap, inl, inr, arith}
use Rattle.std.proofs.lemmas.List.{same_lists, get_or_default}
use Rattle.std.proofs.lemmas.Bool.{cases_eq}
use Rattle.std.proofs.lemmas.Slice.Eq.{bytes_eq-Decides}
use Rattle.std.specs.Str.{bytes_eq}
use Rattle.replay_check.proofs.Same.{from_not}
use Rattle.replay_check.proofs.listing.are_same.Goals as goal

pub loop-i-preserved : goal.loop-i-preserved
loop-i-preserved c = λ k d l.
    elim (cases_eq k c.loop-i.i) [
      | inl e ↦
          let i : c.loop-i.i < length c.args.these.now = omega arith in
          let j : c.loop-i.i < length c.args.those.now = omega arith in
          let same : bytes_eq c.as_str.result.now c.as_str-in-loop-i.result.now ≡ true = from_not _ (sym c.ne.ensures ∙ c.if-ne.false) in
          let texts : c.as_str.result.now ≡ c.as_str-in-loop-i.result.now = (bytes_eq-Decides c.as_str.result.now c.as_str-in-loop-i.result.now).0 same in
          ap (λ n. get_or c.args.these.now n d) e ∙ get_or_default c.args.these.now c.loop-i.i d c.index-these-i.result i ∙ sym c.index-these-i.is ∙ sym c.as_str.ensures ∙ texts ∙ c.as_str-in-loop-i.ensures ∙ c.index-those-i.is
          ∙ get_or_default c.args.those.now c.loop-i.i c.index-those-i.result d j ∙ sym (ap (λ n. get_or c.args.those.now n d) e)
      | inr n ↦ c.loop-i.invariant k d (omega arith)
    ]

pub returns : goal.returns
returns c = (
  λ t. same_lists c.args.these.now c.args.those.now (omega arith) (λ k d l. c.loop-i.invariant k d (omega (arith, l))),
  λ e. Rattle.std.proofs.Common.refl,
)
