use Rattle.std.proofs.Common.{◌≡◌, ◌<◌, ℕ, false, length, slice_get, Some, subst, subst₂, sym, ◌∙◌, arith, inl, inr}
use Rattle.std.proofs.lemmas.Bool.{cases_eq}
use Rattle.std.proofs.lemmas.Option.{get_or_from_slice_get, slice_get-get_or, slice_get_within}
use Rattle.invariants.specs.declared.Invariant.{Invariant}
use Rattle.invariants.specs.declared.Kind.TheVariants.{AF}
use Rattle.labelling.specs.Layout.{is_on, IsMarked}
use Rattle.labelling.proofs.Marking.{marked_same}
use Rattle.labelling.proofs.marks.mark_all.Goals as goal

pub mark-requires-clause-named : goal.mark-requires-clause-named
mark-requires-clause-named c = c.requires.named c.loop-k.k _ (slice_get-get_or c.args.invs.now c.loop-k.k (record { kind = AF; a = 0; b = 0 }) c.loop-k-test.true)

pub loop-k-preserved : goal.loop-k-preserved
loop-k-preserved c =
    let i = c.loop-k.invariant in
    let e = c.mark.ensures in
    record {
      shape = e.shape _ _ i.shape;
      marked = λ j inv below here. elim (cases_eq j c.loop-k.k) [
        | inl same ↦
            subst₂ (λ (x : ℕ) (y : Invariant). IsMarked c.args.bound c.mark.new.rows x y) (sym same)
            (get_or_from_slice_get c.args.invs.now c.loop-k.k inv (record { kind = AF; a = 0; b = 0 }) (subst (λ (x : ℕ). slice_get c.args.invs.now x ≡ Some inv) same here)) e.marked
        | inr ne ↦ marked_same c.args.bound c.loop-k.rows c.mark.new.rows j inv (λ r above other. e.others r j ne) (i.marked j inv (omega (arith, below, ne)) here)
      ];
      blank = λ r j above. e.others r j (λ same. absurd (omega (arith, above, same))) ∙ i.blank r j (omega (arith, above));
      free = λ r j f. elim (cases_eq j c.loop-k.k) [
        | inl same ↦ subst (λ (x : ℕ). is_on c.mark.new.rows r x ≡ false) (sym same) (e.free r f)
        | inr ne ↦ e.others r j ne ∙ i.free r j f
      ];
    }

pub returns-clause-marked : goal.returns-clause-marked
returns-clause-marked c k inv at =
    let inside : k < length c.args.invs.now = slice_get_within c.args.invs.now k inv at in
    c.loop-k.invariant.marked k inv (omega (arith, inside)) at
