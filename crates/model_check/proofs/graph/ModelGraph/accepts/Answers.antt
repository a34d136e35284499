use Rattle.std.proofs.Common.{◌≡◌, ◌↔◌, ◌<◌, ◌≤◌, ◌+◌, ◌∷◌, [], ◌++◌, ℕ, true, List, drop, get_or, ap, sym, ◌∙◌, subst, arith}
use Rattle.std.proofs.lemmas.List.{drop_more, drop_all}
use Rattle.limits.specs.declared.TheConstants.{TERMINAL, FIRST_TYPE, MAX_TYPES}
use Rattle.traces.specs.Kept.{IsTypeNumber}
use Rattle.model_check.specs.Rows.{shown}
use Rattle.model_check.specs.Successors.{in_set, IsEnteredFrom}
use Rattle.model_check.proofs.Following.{IsFollowed, follow_first, follow_more, follow_end, still-shown}
use Rattle.model_check.proofs.graph.ModelGraph.accepts.Goals as goal

pub loop-typ-init : goal.loop-typ-init
loop-typ-init c =
    record {
      followed = follow_first (shown c.args.self.now) c.args.events.now c.self.inside.types.items c.self.inside.rows c.self.inside.successors.kept c.self.invariant.0 (ap shown c.self.view_is) c.requires.start;
      successors = c.self.invariant.1;
    }

pub loop-typ-preserved : goal.loop-typ-preserved
loop-typ-preserved c =
    let g = shown c.args.self.now in
    let xs : List ℕ = c.args.events.now in
    let i : ℕ = c.loop-typ.typ-index in
    let old = c.loop-typ.self-inside.rows in
    let kept : ℕ = c.loop-typ.self-inside.successors.kept in
    let number : IsTypeNumber MAX_TYPES (get_or xs i 0) = c.requires.numbers i 0 c.loop-typ-test.true in
    let low : FIRST_TYPE ≤ get_or xs i 0 = number.0 in
    let high : get_or xs i 0 < MAX_TYPES + FIRST_TYPE = number.1 in
    let step : drop i xs ++ TERMINAL ∷ [] ≡ get_or xs i 0 ∷ (drop (i + 1) xs ++ TERMINAL ∷ []) = ap (λ ys. ys ++ TERMINAL ∷ []) (drop_more xs i 0 c.loop-typ-test.true) in
    record {
      followed =
          follow_more g xs c.loop-typ.self-inside.types.items old c.step-set.new.rows kept c.step-set.new.successors.kept c.loop-typ.set c.step-set.result (get_or xs i 0) (drop (i + 1) xs ++ TERMINAL ∷ []) (omega arith) (omega arith)
          c.step-set.ensures.graph c.step-set.ensures.number c.step-set.ensures.kept
          (subst (λ x. (q : ℕ) → (in_set c.step-set.new.rows c.step-set.result q ≡ true) ↔ IsEnteredFrom (in_set old c.loop-typ.set) old x q) c.from.ensures c.step-set.ensures.set)
          (subst (λ rest. IsFollowed g xs c.loop-typ.self-inside.types.items old kept c.loop-typ.set rest) step c.loop-typ.invariant.followed);
      successors = c.step-set.ensures.successors;
    }

pub returns-clause-accepts : goal.returns-clause-accepts
returns-clause-accepts c =
    let g = shown c.args.self.now in
    let xs : List ℕ = c.args.events.now in
    let old = c.loop-typ.self-inside.rows in
    let kept : ℕ = c.loop-typ.self-inside.successors.kept in
    let new = c.step-set-2.new.rows in
    let rest : drop c.loop-typ.typ-index xs ++ TERMINAL ∷ [] ≡ TERMINAL ∷ [] = ap (λ ys. ys ++ TERMINAL ∷ []) (drop_all c.loop-typ.typ-index xs c.loop-typ-test.false) in
    let last : IsFollowed g xs c.loop-typ.self-inside.types.items new c.step-set-2.new.successors.kept c.step-set-2.result [] =
    follow_more g xs c.loop-typ.self-inside.types.items old new kept c.step-set-2.new.successors.kept c.loop-typ.set c.step-set-2.result TERMINAL [] (omega arith) (omega arith)
    c.step-set-2.ensures.graph c.step-set-2.ensures.number c.step-set-2.ensures.kept c.step-set-2.ensures.set
    (subst (λ ts. IsFollowed g xs c.loop-typ.self-inside.types.items old kept c.loop-typ.set ts) rest c.loop-typ.invariant.followed) in
    let end = follow_end g (in_set new c.step-set-2.result) in
    (λ e. last.tells.1 (end.1 (sym c.is_in_set.ensures ∙ e)), λ a. c.is_in_set.ensures ∙ end.0 (last.tells.0 a))

pub returns-clause-stays : goal.returns-clause-stays
returns-clause-stays c =
    still-shown c.loop-typ.self-inside.types.items c.loop-typ.self-inside.rows c.step-set-2.new.rows c.step-set-2.ensures.graph ∙ c.loop-typ.invariant.followed.shows
