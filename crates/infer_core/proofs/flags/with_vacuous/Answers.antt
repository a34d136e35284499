use Rattle.std.proofs.Common.{◌≡◌, ℕ, List, Bool, Vec, true, false, [], ◌∷◌, ◌++◌, length, length-append, get_or, sym, ap, ◌∙◌, arith}
use Rattle.std.proofs.lemmas.Bool.{cond-true, cond-false}
use Rattle.std.proofs.lemmas.Option.{slice_get-get_or, slice_get_within}
use Rattle.std.specs.declared.alloc.Global.{Global}
use Rattle.invariants.specs.declared.Invariant.{Invariant}
use Rattle.infer_core.proofs.Vacuous.{asked-same, asked-more, asked-within, tells-more}
use Rattle.infer_core.proofs.flags.with_vacuous.Goals as goal
use Rattle.infer_core.proofs.flags.with_vacuous.Goals.{then-is_vacuous+in_ok-push, else-is_vacuous+in_ok-push-2}

pub bounds-told-next : goal.bounds-told-next
bounds-told-next c =
    omega (arith, asked-within c.loop-k.k c.args.once.now c.args.invs.now _ (slice_get-get_or c.args.invs.now c.loop-k.k _ c.loop-k-test.true) (sym c.if-is_vacuous.ensures), c.loop-k.invariant.next, c.requires)

pub overflow_add-next : goal.overflow_add-next
overflow_add-next c =
    omega (arith, asked-within c.loop-k.k c.args.once.now c.args.invs.now _ (slice_get-get_or c.args.invs.now c.loop-k.k _ c.loop-k-test.true) (sym c.if-is_vacuous.ensures), c.loop-k.invariant.next, c.loop-k-test.true, c.requires)

pub loop-k-preserved : goal.loop-k-preserved
loop-k-preserved c =
    let k : ℕ = c.loop-k.k in
    let once : List Bool = c.args.once.now in
    let invs : List Invariant = c.args.invs.now in
    let told : List Bool = c.args.told.now in
    let flags : List Bool = c.loop-k.flags.items in
    let count : length flags ≡ k = c.loop-k.invariant.count in
    elim c.if-is_vacuous.branch [
      | then-is_vacuous+in_ok-push w ↦
          let longer : c.if-is_vacuous.flags.items ≡ flags ++ true ∷ [] = ap (λ (v : Vec Bool Global). v.items) w.flags-is ∙ w.in_ok-push.ensures.items in
          let at = slice_get-get_or invs k _ c.loop-k-test.true in
          record {
            count = omega (arith, ap (λ (fs : List Bool). length fs) longer, length-append flags (true ∷ []), count);
            next = w.next-is ∙ (c.loop-k.invariant.next ∙ sym (asked-same k once invs _ at (sym w.if-is_vacuous.ensures)));
            told = tells-more k once invs told flags c.if-is_vacuous.flags.items true _ count at (sym (cond-true _ _ _ (sym w.if-is_vacuous.ensures))) longer c.loop-k.invariant.told;
          }
      | else-is_vacuous+in_ok-push-2 w ↦
          let longer : c.if-is_vacuous.flags.items ≡ flags ++ get_or told c.loop-k.next false ∷ [] = ap (λ (v : Vec Bool Global). v.items) w.flags-is ∙ w.in_ok-push-2.ensures.items in
          let at = slice_get-get_or invs k _ c.loop-k-test.true in
          record {
            count = omega (arith, ap (λ (fs : List Bool). length fs) longer, length-append flags (get_or told c.loop-k.next false ∷ []), count);
            next = omega (arith, w.next-is, c.loop-k.invariant.next, asked-more k once invs _ at (sym w.if-is_vacuous.ensures));
            told = tells-more k once invs told flags c.if-is_vacuous.flags.items (get_or told c.loop-k.next false) _ count at
                (ap (λ (m : ℕ). get_or told m false) c.loop-k.invariant.next ∙ sym (cond-false _ _ _ (sym w.if-is_vacuous.ensures))) longer c.loop-k.invariant.told;
          }
    ]

pub returns-clause-told : goal.returns-clause-told
returns-clause-told c k inv at =
    c.loop-k.invariant.told k inv (omega (arith, slice_get_within c.args.invs.now k inv at, c.loop-k-test.false)) at
