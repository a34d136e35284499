use Rattle.std.proofs.Common.{◌≡◌, ◌+◌, ◌<◌, ℕ, List, Bool, Vec, Some, [], ◌∷◌, ◌++◌, length, length-append, get_or, slice_get, take, take_all, subst, sym, ap, ◌∙◌, refl, inl, inr, arith}
use Rattle.std.proofs.lemmas.Option.{slice_get-get_or}
use Rattle.std.specs.declared.alloc.Global.{Global}
use Rattle.invariants.specs.declared.Kind.TheVariants.{AF}
use Rattle.invariants.specs.declared.Invariant.{Invariant}
use Rattle.invariants.specs.Candidates.{invariant}
use Rattle.path_finder.proofs.Reaching.{slice_get_last}
use Rattle.infer_core.specs.Portions.{AreNamed}
use Rattle.infer_core.specs.Vacuous.{Covers}
use Rattle.infer_core.proofs.Once.{no_invariant, covers-kept, covers-more, named-more}
use Rattle.infer_core.proofs.alike.asked_for.Goals as goal
use Rattle.infer_core.proofs.alike.asked_for.Goals.{in-Some+in_ok-push, in_default+in_ok-push-2+in_ok-push-3}

pub loop-k-preserved : goal.loop-k-preserved
loop-k-preserved c =
    let k : ℕ = c.loop-k.k in
    let once : List Bool = c.args.once.now in
    let invs : List Invariant = c.args.invs.now in
    let asked : List Invariant = c.loop-k.asked.items in
    let numbers : List ℕ = c.loop-k.numbers.items in
    let inv : Invariant = get_or invs k no_invariant in
    let low : k < length invs = c.loop-k-test.true in
    let at : slice_get invs k ≡ Some inv = slice_get-get_or invs k no_invariant low in
    let count : length numbers ≡ k = c.loop-k.invariant.count in
    elim c.match-partner.branch [
      | in-Some+in_ok-push w ↦
          let number : ℕ = w.in-Some.number in
          let same : c.match-partner.asked.items ≡ asked = ap (λ (v : Vec Invariant Global). v.items) w.asked-is in
          let longer : c.match-partner.numbers.items ≡ numbers ++ number ∷ [] = ap (λ (v : Vec ℕ Global). v.items) w.numbers-is ∙ w.in_ok-push.ensures.items in
          let there : slice_get asked number ≡ Some (invariant AF inv.a inv.b) = subst (λ (xs : List Invariant). slice_get xs number ≡ Some (invariant AF inv.a inv.b)) c.as_slice.ensures.value w.in-Some.ensures.at in
          record {
            few = omega (arith, ap (λ (xs : List Invariant). length xs) same, c.loop-k.invariant.few);
            named = λ n. subst (λ (xs : List Invariant). AreNamed xs) (sym same) (c.loop-k.invariant.named n);
            count = omega (arith, ap (λ (ns : List ℕ). length ns) longer, length-append numbers (number ∷ []), count);
            covers = subst (λ (xs : List Invariant). Covers once (take (k + 1) invs) xs c.match-partner.numbers.items) (sym same)
                (covers-more once invs asked numbers c.match-partner.numbers.items k number inv (invariant AF inv.a inv.b) count low at there (inr (refl, w.in-Some.ensures.vacuous, w.in-Some.ensures.two)) longer c.loop-k.invariant.covers);
          }
      | in_default+in_ok-push-2+in_ok-push-3 w ↦
          let number : ℕ = w.len.result in
          let grown : c.match-partner.asked.items ≡ asked ++ inv ∷ [] = ap (λ (v : Vec Invariant Global). v.items) w.asked-is ∙ w.in_ok-push-3.ensures.items in
          let longer : c.match-partner.numbers.items ≡ numbers ++ number ∷ [] = ap (λ (v : Vec ℕ Global). v.items) w.numbers-is ∙ w.in_ok-push-2.ensures.items in
          let last : number ≡ length asked = w.len.ensures ∙ (sym c.as_slice.ensures.len ∙ ap (λ (xs : List Invariant). length xs) c.as_slice.ensures.value) in
          let there : slice_get (asked ++ inv ∷ []) number ≡ Some inv = ap (λ (m : ℕ). slice_get (asked ++ inv ∷ []) m) last ∙ slice_get_last asked inv in
          record {
            few = omega (arith, ap (λ (xs : List Invariant). length xs) grown, length-append asked (inv ∷ []), c.loop-k.invariant.few);
            named = λ n. subst (λ (xs : List Invariant). AreNamed xs) (sym grown) (named-more asked inv (c.loop-k.invariant.named n) (n k inv at));
            count = omega (arith, ap (λ (ns : List ℕ). length ns) longer, length-append numbers (number ∷ []), count);
            covers = subst (λ (xs : List Invariant). Covers once (take (k + 1) invs) xs c.match-partner.numbers.items) (sym grown)
                (covers-more once invs (asked ++ inv ∷ []) numbers c.match-partner.numbers.items k number inv inv count low at there (inl refl) longer (covers-kept once (take k invs) asked (inv ∷ []) numbers c.loop-k.invariant.covers));
          }
    ]

pub returns-clause-covers : goal.returns-clause-covers
returns-clause-covers c =
    subst (λ (xs : List Invariant). Covers c.args.once.now xs c.loop-k.asked.items c.loop-k.numbers.items) (take_all c.loop-k.k c.args.invs.now c.loop-k-test.false) c.loop-k.invariant.covers
