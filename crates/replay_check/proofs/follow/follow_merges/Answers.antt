use Rattle.std.proofs.Common.{◌≡◌, ℕ, List, Bool, map, get_or, true≢false, sym, ◌∙◌, ap, subst, arith}
use Rattle.std.proofs.lemmas.List.{with_items_is}
use Rattle.invariants.specs.declared.records.Merge.{Merge}
use Rattle.partition_model.specs.Assignments.{Assignment}
use Rattle.partition_model.specs.Coarsening.{merged_by}
use Rattle.partition_model.specs.Laws.{MergeInTurn}
use Rattle.models.specs.Histories.{IsFirstWrongMerge}
use Rattle.replay_check.specs.Laid.{laid}
use Rattle.replay_check.specs.Shown.{Knows, named_by}
use Rattle.replay_check.proofs.Laying.{laid-renamed}
use Rattle.replay_check.proofs.follow.follow_merges.Goals as goal

pub returns-in-Some : goal.returns-in-Some
returns-in-Some c = λ h n s l.
    let k : Knows h c.as_mut_slice.result.now c.args.types.now = subst (λ (xs : List Bool). Knows h xs c.args.types.now) (sym c.as_mut_slice.ensures.value) (c.in_ok-live.ensures.live h n c.args.types.now s l) in
    subst (λ (ms : List Merge). IsFirstWrongMerge h ms c.in-Some.k) c.as_slice.ensures (c.in-Some.ensures.first h k)

pub returns-then-same : goal.returns-then-same
returns-then-same c = λ h n s l.
    let types : List ℕ = c.args.types.now in
    let live : List Bool = c.first_wrong_merge.new.live in
    let names : List ℕ = c.first_wrong_merge.new.names in
    let k : Knows h c.as_mut_slice.result.now types = subst (λ (xs : List Bool). Knows h xs types) (sym c.as_mut_slice.ensures.value) (c.in_ok-live.ensures.live h n types s l) in
    let o = subst (λ (ms : List Merge). MergeInTurn h ms × Knows (merged_by ms h) live types × (named_by names h ≡ merged_by ms h)) c.as_slice.ensures (c.in_default.ensures.first h k) in
    let m : Assignment = merged_by c.args.model.now.merges h in
    let names-are : c.as_slice-2.result.now ≡ names = c.as_slice-2.ensures.value ∙ with_items_is c.in_ok-names.names names (omega (arith, c.first_wrong_merge.auto.names, c.as_mut_slice-2.ensures.len)) in
    let live-are : c.as_slice-3.result.now ≡ live = c.as_slice-3.ensures.value ∙ with_items_is c.in_ok-live.live live (omega (arith, c.first_wrong_merge.auto.live, c.as_mut_slice.ensures.len)) in
    let ids-are : c.rename.new.ids ≡ laid m =
    c.rename.ensures.ids ∙ ap (λ (ns : List ℕ). map (λ p. get_or ns p 0) c.args.ids.now) names-are ∙ ap (λ (xs : List ℕ). map (λ p. get_or names p 0) xs) s.ids_are
    ∙ laid-renamed (λ p. get_or names p 0) c.in_default.ensures.ends.0 c.in_default.ensures.ends.1 h ∙ ap (λ (x : Assignment). laid x) o.2 in
    (o.0, (c.in_ok-same.ensures m ids-are (subst (λ (xs : List Bool). Knows m xs types) (sym live-are) o.1)).0 c.if-same.true)

pub returns : goal.returns
returns c = λ h n s l.
    let types : List ℕ = c.args.types.now in
    let live : List Bool = c.first_wrong_merge.new.live in
    let names : List ℕ = c.first_wrong_merge.new.names in
    let k : Knows h c.as_mut_slice.result.now types = subst (λ (xs : List Bool). Knows h xs types) (sym c.as_mut_slice.ensures.value) (c.in_ok-live.ensures.live h n types s l) in
    let o = subst (λ (ms : List Merge). MergeInTurn h ms × Knows (merged_by ms h) live types × (named_by names h ≡ merged_by ms h)) c.as_slice.ensures (c.in_default.ensures.first h k) in
    let m : Assignment = merged_by c.args.model.now.merges h in
    let names-are : c.as_slice-2.result.now ≡ names = c.as_slice-2.ensures.value ∙ with_items_is c.in_ok-names.names names (omega (arith, c.first_wrong_merge.auto.names, c.as_mut_slice-2.ensures.len)) in
    let live-are : c.as_slice-3.result.now ≡ live = c.as_slice-3.ensures.value ∙ with_items_is c.in_ok-live.live live (omega (arith, c.first_wrong_merge.auto.live, c.as_mut_slice.ensures.len)) in
    let ids-are : c.rename.new.ids ≡ laid m =
    c.rename.ensures.ids ∙ ap (λ (ns : List ℕ). map (λ p. get_or ns p 0) c.args.ids.now) names-are ∙ ap (λ (xs : List ℕ). map (λ p. get_or names p 0) xs) s.ids_are
    ∙ laid-renamed (λ p. get_or names p 0) c.in_default.ensures.ends.0 c.in_default.ensures.ends.1 h ∙ ap (λ (x : Assignment). laid x) o.2 in
    (o.0, λ g. true≢false (sym ((c.in_ok-same.ensures m ids-are (subst (λ (xs : List Bool). Knows m xs types) (sym live-are) o.1)).1 g) ∙ c.if-same.false))
