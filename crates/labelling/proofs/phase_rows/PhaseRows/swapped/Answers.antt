use Rattle.std.proofs.Common.{◌≡◌, ◌+◌, ◌*◌, ◌<◌, ℕ, eqb, length, sym, ap, subst, ◌∙◌, arith, inl, inr}
use Rattle.std.proofs.lemmas.Bool.{cases_eq}
use Rattle.std.proofs.lemmas.List.{get_or_read}
use Rattle.std.proofs.lemmas.Nat.Bits.{bit_at-zero}
use Rattle.std.specs.Int.{bit_at}
use Rattle.invariants.specs.declared.Kind.TheVariants.{AF}
use Rattle.invariants.specs.declared.Invariant.{Invariant}
use Rattle.invariants.specs.Candidates.{invariant}
use Rattle.labelling.specs.Phases.{phase_of, phase_at}
use Rattle.labelling.proofs.phase_rows.PhaseRows.swapped.Goals as goal

pub loop-k-init : goal.loop-k-init
loop-k-init c = record {
  told = λ j below. absurd (omega (arith, below));
  rest = λ j after. bit_at-zero j;
}

pub with_bit-swapped-requires-clause-off : goal.with_bit-swapped-requires-clause-off
with_bit-swapped-requires-clause-off c = c.loop-k.invariant.rest c.loop-k.k (omega arith)

pub loop-k-preserved : goal.loop-k-preserved
loop-k-preserved c =
    let k : ℕ = c.loop-k.k in
    let first : ℕ = c.args.place * 64 in
    let inside : first + k < length c.args.self.now.invs.items = omega (arith, c.loop-k-test.true, c.requires) in
    record {
      told = λ j below. elim (cases_eq j k) [
        | inl same ↦
            subst (λ (x : ℕ). eqb (bit_at c.with_bit-swapped.result x) 1 ≡ eqb (phase_at c.args.self.now.invs.items (first + x) 0) 1) (sym same)
            (c.with_bit-swapped.ensures.there
            ∙ ap (λ (x : ℕ). eqb x 1) (c.phase_of.ensures.value ∙ ap (λ (x : Invariant). phase_of x.kind 0) (get_or_read c.args.self.now.invs.items _ _ inside c.index.ensures (invariant AF 0 0))))
        | inr other ↦ ap (λ (x : ℕ). eqb x 1) (c.with_bit-swapped.ensures.others j other) ∙ c.loop-k.invariant.told j (omega (arith, below, other))
      ];
      rest = λ j after. c.with_bit-swapped.ensures.others j (λ e. absurd (omega (arith, e, after))) ∙ c.loop-k.invariant.rest j (omega (arith, after));
    }
