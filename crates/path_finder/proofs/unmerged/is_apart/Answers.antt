use Rattle.std.proofs.Common.{◌≡◌, not, Bool, true, false, refl, sym, ◌∙◌, inl, inr, arith}
use Rattle.std.proofs.lemmas.Bool.{cases_Bool, true≢false}
use Rattle.path_finder.proofs.PairSets.{place-marked}
use Rattle.path_finder.proofs.unmerged.is_apart.Goals as goal

off-of : (b : Bool) → not b ≡ true → b ≡ false
off-of true e = sym e
off-of false e = refl

pub returns-clause-lacks : goal.returns-clause-lacks
returns-clause-lacks c none has are =
    elim (cases_Bool (has c.args.gone)) [
      | inl there ↦
          let marked = place-marked has c.args.places c.args.gone are (omega (arith, c.if-gone-ge-MAX_PARTITIONS.false)) there in
          absurd (true≢false (sym marked ∙ sym c.has_bit.ensures ∙ off-of c.has_bit.result none))
      | inr gone ↦ gone
    ]
