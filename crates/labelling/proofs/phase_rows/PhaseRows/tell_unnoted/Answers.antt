use Rattle.std.proofs.Common.{◌≡◌, ◌+◌, ◌-◌, ◌*◌, ℕ, Bool, false, not, get_or, length, ap, subst, ◌∙◌, arith, inl, inr}
use Rattle.std.proofs.lemmas.Bool.{cases_lt}
use Rattle.labelling.specs.declared.layout.TheConstants.{BROKEN_ROW}
use Rattle.labelling.specs.Layout.{is_on}
use Rattle.labelling.proofs.phase_rows.PhaseRows.tell_unnoted.Goals as goal

pub loop-place-preserved : goal.loop-place-preserved
loop-place-preserved c =
    let first : ℕ = c.loop-place.place * 64 in
    let same : length c.tell_off.new.flags ≡ length c.loop-place.flags = c.tell_off.auto.flags in
    record {
      size = same ∙ c.loop-place.invariant.size;
      told = λ j below inside. elim (cases_lt j first) [
        | inl less ↦ c.tell_off.ensures.others j less ∙ c.loop-place.invariant.told j less (omega (arith, inside, same))
        | inr more ↦
            let k : ℕ = j - first in
            let e : first + k ≡ j = omega (arith, more) in
            subst (λ (i : ℕ). get_or c.tell_off.new.flags i false ≡ not (is_on c.args.self.now.rows BROKEN_ROW i)) e
            (c.tell_off.ensures.told k (omega (arith, below, more)) (omega (arith, e, inside, same)) ∙ ap (λ (b : Bool). not b) (c.word.ensures k (omega (arith, below, more))))
      ];
    }
