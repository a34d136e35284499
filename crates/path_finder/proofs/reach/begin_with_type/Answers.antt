use Rattle.std.proofs.Common.{◌≡◌, ◌<◌, ◌≤◌, ◌+◌, ℕ, true, sym, ◌∙◌, ap, refl, inl, inr, arith}
use Rattle.std.proofs.lemmas.Bool.{cases_lt}
use Rattle.limits.specs.declared.TheConstants.{FIRST_TYPE, MAX_PARTITIONS}
use Rattle.partition_model.specs.Graphs.{Graph}
use Rattle.partition_graph.specs.Seen.{seen, parts_seen}
use Rattle.path_finder.specs.Nearness.{Met, is_met}
use Rattle.path_finder.specs.Reaching.{MeetsMore}
use Rattle.path_finder.proofs.Reaching.{blank_reaching, of_type_tells}
use Rattle.path_finder.proofs.reach.begin_with_type.Goals as goal

-- the ids of the type up to this one are met
met-up-to : (g : Graph) (old new : Met) (typ id : ℕ) → MeetsMore old new → (g.typ id ≡ typ → is_met new id ≡ true) → ((p : ℕ) → p < id → g.typ p ≡ typ → is_met old p ≡ true)
    → (p : ℕ) → p < id + 1 → g.typ p ≡ typ → is_met new p ≡ true
met-up-to g old new typ id more here before p l e =
    elim (cases_lt p id) [
      | inl below ↦ more.met p (before p below e)
      | inr at ↦
          let same : p ≡ id = omega arith in
          ap (λ (x : ℕ). is_met new x) same ∙ here (ap (λ (x : ℕ). g.typ x) (sym same) ∙ e)
    ]

-- no other id of the type is below the next one
met-below : (g : Graph) (m : Met) (typ from next : ℕ) → FIRST_TYPE ≤ from → ((p : ℕ) → FIRST_TYPE ≤ p → from ≤ p → p < next → g.typ p ≡ typ → ⊥)
    → ((p : ℕ) → p < from → g.typ p ≡ typ → is_met m p ≡ true)
    → (p : ℕ) → p < next → g.typ p ≡ typ → is_met m p ≡ true
met-below g m typ from next past none before p l e =
    elim (cases_lt p from) [
      | inl below ↦ before p below e
      | inr above ↦ absurd (none p (omega arith) above l e)
    ]

pub loop-end-init : goal.loop-end-init
loop-end-init c = record {
  ahead = λ edge. blank_reaching edge c.clear.new.self MAX_PARTITIONS refl c.clear.ensures.flags c.clear.ensures.list;
  behind = λ edge. blank_reaching edge c.clear-2.new.self MAX_PARTITIONS refl c.clear-2.ensures.flags c.clear-2.ensures.list;
  met_ahead = λ p l e. absurd (omega arith);
  met_behind = λ p l e. absurd (omega arith);
}

pub loop-end-preserved : goal.loop-end-preserved
loop-end-preserved c =
    let k = c.meet_of_type.ensures in
    let i = c.loop-end.invariant in
    record {
      ahead = k.ahead;
      behind = k.behind;
      met_ahead = met-up-to (seen c.args.view.now) c.loop-end.ahead c.meet_of_type.new.ahead c.args.typ c.loop-end.end k.more_ahead k.met_ahead i.met_ahead;
      met_behind = met-up-to (seen c.args.view.now) c.loop-end.behind c.meet_of_type.new.behind c.args.typ c.loop-end.end k.more_behind k.met_behind i.met_behind;
    }

pub loop-id-init : goal.loop-id-init
loop-id-init c =
    let n = c.next_of_type-id.ensures in
    let i = c.loop-end.invariant in
    record {
      past = omega (arith, n.reached);
      within = omega (arith, n.within, c.ids_used-ids.ensures.value, c.ids_used-ids.ensures.limit);
      ahead = i.ahead;
      behind = i.behind;
      met_ahead = met-below (seen c.args.view.now) c.loop-end.ahead c.args.typ FIRST_TYPE c.next_of_type-id.result (omega arith) n.none_between
          (λ p l e. i.met_ahead p (omega (arith, l, c.loop-end-test.false)) e);
      met_behind = met-below (seen c.args.view.now) c.loop-end.behind c.args.typ FIRST_TYPE c.next_of_type-id.result (omega arith) n.none_between
          (λ p l e. i.met_behind p (omega (arith, l, c.loop-end-test.false)) e);
    }

pub loop-id-preserved : goal.loop-id-preserved
loop-id-preserved c =
    let n = c.next_of_type-id-in-loop-id.ensures in
    let k = c.meet_of_type-in-loop-id.ensures in
    let i = c.loop-id.invariant in
    let id : ℕ = c.loop-id.id in
    let next : ℕ = c.next_of_type-id-in-loop-id.result in
    record {
      past = omega (arith, n.reached, i.past);
      within = omega (arith, n.within, c.ids_used-ids.ensures.value, c.ids_used-ids.ensures.limit);
      ahead = k.ahead;
      behind = k.behind;
      met_ahead = met-below (seen c.args.view.now) c.meet_of_type-in-loop-id.new.ahead c.args.typ (id + 1) next (omega (arith, i.past)) n.none_between
          (met-up-to (seen c.args.view.now) c.loop-id.ahead c.meet_of_type-in-loop-id.new.ahead c.args.typ id k.more_ahead k.met_ahead i.met_ahead);
      met_behind = met-below (seen c.args.view.now) c.meet_of_type-in-loop-id.new.behind c.args.typ (id + 1) next (omega (arith, i.past)) n.none_between
          (met-up-to (seen c.args.view.now) c.loop-id.behind c.meet_of_type-in-loop-id.new.behind c.args.typ id k.more_behind k.met_behind i.met_behind);
    }

pub returns-clause-first_ahead : goal.returns-clause-first_ahead
returns-clause-first_ahead c p e =
    let t : (p < (parts_seen c.args.view.now).used) × ((seen c.args.view.now).typ p ≡ c.args.typ) = of_type_tells (seen c.args.view.now) (parts_seen c.args.view.now).used c.args.typ p e in
    c.loop-id.invariant.met_ahead p (omega (arith, t.0, c.ids_used-ids.ensures.value, c.loop-id-test.false)) t.1

pub returns-clause-first_behind : goal.returns-clause-first_behind
returns-clause-first_behind c p e =
    let t : (p < (parts_seen c.args.view.now).used) × ((seen c.args.view.now).typ p ≡ c.args.typ) = of_type_tells (seen c.args.view.now) (parts_seen c.args.view.now).used c.args.typ p e in
    c.loop-id.invariant.met_behind p (omega (arith, t.0, c.ids_used-ids.ensures.value, c.loop-id-test.false)) t.1
