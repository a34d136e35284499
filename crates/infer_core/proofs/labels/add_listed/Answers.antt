use Rattle.std.proofs.Common.{rules, ◌≡◌, ◌<◌, ◌+◌, ◌++◌, ℕ, Some, List, append-nil, get_or, length, map, take, slice_get, sym, ap, subst, ◌∙◌}
use Rattle.std.proofs.lemmas.List.{take_all}
use Rattle.std.proofs.lemmas.Option.{slice_get-get_or}
use Rattle.std.specs.List.{AllByRecursion}
use Rattle.invariants.specs.declared.Invariant.{Invariant}
use Rattle.invariants.specs.declared.records.Listed.{Listed}
use Rattle.models.specs.Models.{AreReached}
use Rattle.coarsener.proofs.BlockingTurns.{all-push}
use Rattle.infer_core.proofs.Once.{no_invariant, labels-of-found}
use Rattle.infer_core.proofs.Telling.{labels-reached, listing-more}
use Rattle.infer_core.proofs.labels.add_listed.Goals as goal

pub loop-number-init : goal.loop-number-init
loop-number-init c =
    record {
      listing = sym (append-nil (map (λ (x : Listed). x.inv) c.args.list.now.items));
      labels = λ h once a l covers met before. before;
      window = search rules;
    }

pub loop-number-preserved : goal.loop-number-preserved
loop-number-preserved c =
    let invs : List Invariant = c.args.invs.now in
    let number : ℕ = c.loop-number.number in
    let inside : number < length invs = c.loop-number-test.true in
    let inv : Invariant = get_or invs number no_invariant in
    let at : slice_get invs number ≡ Some inv = slice_get-get_or invs number no_invariant inside in
    record {
      listing = subst (λ (ls : List Listed). map (λ (x : Listed). x.inv) ls ≡ map (λ (x : Listed). x.inv) c.args.list.now.items ++ take (number + 1) invs) (sym {A = List Listed} c.in_ok-push.ensures.items)
          (listing-more c.loop-number.list.items (map (λ (x : Listed). x.inv) c.args.list.now.items) invs number no_invariant c.in_ok-labels_of.field-0 inside c.loop-number.invariant.listing);
      labels = λ h once a l covers met before.
          let found = covers number inv at in
          subst (λ (ls : List Listed). AllByRecursion (λ x. AreReached x.inv h c.args.partitions.now x.labels) ls) (sym {A = List Listed} c.in_ok-push.ensures.items)
          (all-push (λ (x : Listed). AreReached x.inv h c.args.partitions.now x.labels) c.loop-number.list.items (record { inv = get_or invs number no_invariant; labels = c.in_ok-labels_of.field-0 })
          (c.loop-number.invariant.labels h once a l covers met before)
          (labels-of-found once found.0 inv h c.args.partitions.now c.in_ok-labels_of.field-0 found.2 met
          (subst (λ (ds : List ℕ). AreReached found.0 h c.args.partitions.now ds) (sym c.in_ok-labels_of.ensures.labels)
          (labels-reached c.args.graph_labels.now h c.args.partitions.now (get_or c.args.numbers.now number 0) found.0 a l found.1 c.requires.ids))));
      window = c.labels_of.ensures.window;
    }

pub returns-clause-listing : goal.returns-clause-listing
returns-clause-listing c =
    c.loop-number.invariant.listing ∙ ap (λ (xs : List Invariant). map (λ (x : Listed). x.inv) c.args.list.now.items ++ xs) (take_all c.loop-number.number c.args.invs.now c.loop-number-test.false)

pub returns-clause-labels : goal.returns-clause-labels
returns-clause-labels c h once a l covers met before = c.loop-number.invariant.labels h once a l covers met before
