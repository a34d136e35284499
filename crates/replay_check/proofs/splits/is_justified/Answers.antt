use Rattle.std.proofs.Common.{◌≡◌, ◌<◌, ◌+◌, ◌-◌, ℕ, zero, suc, Bool, List, Some, pred, length, slice_get, get_or, refl, sym, ◌∙◌, ap, subst, true≢false, arith, eqb-true, eq-eqb}
use Rattle.std.proofs.lemmas.Option.{slice_get-get_or}
use Rattle.std.proofs.lemmas.List.Elements.{All-from_recursion}
use Rattle.std.specs.List.{All}
use Rattle.limits.specs.declared.TheConstants.{MAX_PARTITIONS}
use Rattle.invariants.specs.declared.records.Listed.{Listed}
use Rattle.invariants.specs.declared.records.Model.{Model}
use Rattle.invariants.specs.declared.records.Split.{Split}
use Rattle.partition_model.specs.Assignments.{G}
use Rattle.partition_model.specs.Graphs.{Breaks}
use Rattle.partition_model.specs.Refinement.{stitch, followed}
use Rattle.models.proofs.Deciding.{some-same}
use Rattle.replay_check.specs.Laid.{longest}
use Rattle.replay_check.specs.Shown.{graph_in, HasEdges}
use Rattle.replay_check.proofs.Laying.{laid-longest}
use Rattle.replay_check.proofs.Showing.{breaks-same}
use Rattle.replay_check.proofs.Marking.{has-edges}
use Rattle.replay_check.proofs.splits.is_justified.Goals as goal

pub returns-then-n-ge-MAX_PARTITIONS-clause-right : goal.returns-then-n-ge-MAX_PARTITIONS-clause-right
returns-then-n-ge-MAX_PARTITIONS-clause-right c = λ h m s. (
  λ f. absurd (true≢false (sym f)),
  λ j. absurd (let r : c.args.n < MAX_PARTITIONS = j.room in omega (arith, c.if-n-ge-MAX_PARTITIONS.true)),
)

pub returns-then-place-path-clause-right : goal.returns-then-place-path-clause-right
returns-then-place-path-clause-right c = λ h m s. (
  λ f. absurd (true≢false (sym f)),
  λ j. absurd (let r : c.args.split.now.place + 1 < length c.args.split.now.path = j.inside in omega (arith, c.if-place-path.true, ap length c.as_slice-path.ensures)),
)

pub breaks-broken-requires-clause-within : goal.breaks-broken-requires-clause-within
breaks-broken-requires-clause-within c = subst (λ (xs : List ℕ). All (λ p. p < MAX_PARTITIONS) xs) (sym c.as_slice-path.ensures) (All-from_recursion (λ p. p < MAX_PARTITIONS) c.args.split.now.path c.requires.shaped.path)

pub returns-then-not-broken-clause-right : goal.returns-then-not-broken-clause-right
returns-then-not-broken-clause-right c = λ h m s.
    let mo : Model = c.args.model.now in
    let sp : Split = c.args.split.now in
    let rows : List (List Bool) = c.mark.new.self.rows in
    let marked : HasEdges h rows = has-edges h c.args.ids.now rows s.typed s.ids_are c.mark.ensures in
    let l : Listed = get_or c.as_slice.result.now sp.inv c.index-as_slice-split.result in
    let names : slice_get mo.invariants sp.inv ≡ Some l = ap (λ (ls : List Listed). slice_get ls sp.inv) (sym c.as_slice.ensures) ∙ slice_get-get_or c.as_slice.result.now sp.inv c.index-as_slice-split.result (omega (arith, c.requires.shaped.names, ap length c.as_slice.ensures)) in
    let same = breaks-same h c.args.types.now rows s.typed s.types_are marked l.inv sp.path c.requires.shaped.path in (
      λ f. absurd (true≢false (sym f)),
      λ j. absurd (
          let q : j.listed ≡ l = some-same j.listed l (sym j.names ∙ names) in
          let b : Breaks (G h) l.inv sp.path = subst (λ (x : Listed). Breaks (G h) x.inv sp.path) q j.breaks in
          true≢false (sym (c.breaks-broken.ensures.1 (subst (λ (xs : List ℕ). Breaks (graph_in rows c.args.types.now) l.inv xs) (sym c.as_slice-path.ensures) (same.1 b))) ∙ c.if-not-broken.true)),
    )

pred-is : (n : ℕ) → pred n ≡ n - 1
pred-is zero = refl
pred-is (suc n) = omega arith

pub returns-clause-right : goal.returns-clause-right
returns-clause-right c = λ h m s.
    let mo : Model = c.args.model.now in
    let sp : Split = c.args.split.now in
    let rows : List (List Bool) = c.mark.new.self.rows in
    let marked : HasEdges h rows = has-edges h c.args.ids.now rows s.typed s.ids_are c.mark.ensures in
    let l : Listed = get_or c.as_slice.result.now sp.inv c.index-as_slice-split.result in
    let names : slice_get mo.invariants sp.inv ≡ Some l = ap (λ (ls : List Listed). slice_get ls sp.inv) (sym c.as_slice.ensures) ∙ slice_get-get_or c.as_slice.result.now sp.inv c.index-as_slice-split.result (omega (arith, c.requires.shaped.names, ap length c.as_slice.ensures)) in
    let same = breaks-same h c.args.types.now rows s.typed s.types_are marked l.inv sp.path c.requires.shaped.path in
    let long : c.followed.result ≡ followed h sp.path = c.followed.ensures ∙ ap (λ (xs : List ℕ). longest xs c.args.ids.now) c.as_slice-path.ensures ∙ ap (λ (xs : List ℕ). longest sp.path xs) s.ids_are ∙ laid-longest h s.typed sp.path in
    let at : c.saturating_sub.result ≡ stitch h sp.path = c.saturating_sub.ensures ∙ ap (λ n. n - 1) long ∙ sym (pred-is (followed h sp.path)) in (
      λ t. record {
        listed = l;
        names = names;
        breaks = same.0 (subst (λ (xs : List ℕ). Breaks (graph_in rows c.args.types.now) l.inv xs) c.as_slice-path.ensures (c.breaks-broken.ensures.0 c.if-not-broken.false));
        place = sym (eqb-true c.saturating_sub.result sp.place t) ∙ at;
        inside = omega (arith, c.if-place-path.false, ap length c.as_slice-path.ensures);
        room = omega (arith, c.if-n-ge-MAX_PARTITIONS.false);
      },
      λ j. eq-eqb c.saturating_sub.result sp.place (at ∙ sym j.place),
    )
