use Rattle.std.proofs.Common.{◌≡◌, ◌<◌, ◌+◌, All, IfOk, ℕ, List, drop, get_or, length, map, take, sym, ap, ◌∙◌, subst, arith}
use Rattle.std.proofs.lemmas.List.{get_or_default}
use Rattle.invariants.specs.Labels.{IsDigit, number_of}
use Rattle.invariants.specs.declared.records.Partition.{Partition}
use Rattle.invariants.proofs.LabelDigits.{digits_are_digits, numbers_back}
use Rattle.labelling.specs.Labelled.{digit}
use Rattle.infer_core.proofs.Telling.{digits-small}
use Rattle.infer_core.proofs.labels.labels_of.Goals as goal

pub part_of-requires-clause-digits : goal.part_of-requires-clause-digits
part_of-requires-clause-digits c =
    let number : ℕ = c.place_of.new.self.first + c.in_ok-place.place in
    let digits : List ℕ = map (λ (x : Partition). digit c.args.graph_labels.now number x.id) c.args.partitions.now in
    let inside : c.in_ok-place.place < length c.place_of.new.self.digits.from.items = omega (arith, c.in_ok-place.ensures.within, c.place_of.ensures.window.few) in
    let start : c.index.result.now ≡ get_or c.place_of.new.self.digits.from.items c.in_ok-place.place 0 =
    c.index.ensures ∙ get_or_default c.place_of.new.self.digits.from.items c.in_ok-place.place c.index.result.now 0 inside in
    subst (λ (ds : List ℕ). All IsDigit ds)
    (sym (ap (λ (n : ℕ). take (length c.args.partitions.now) (drop n c.place_of.new.self.text.value.items)) start ∙ c.place_of.ensures.window.labels c.in_ok-place.place c.in_ok-place.ensures.within))
    (digits_are_digits digits (digits-small c.args.graph_labels.now number c.args.partitions.now))

pub returns-clause-labels : goal.returns-clause-labels
returns-clause-labels c =
    let number : ℕ = c.place_of.new.self.first + c.in_ok-place.place in
    let digits : List ℕ = map (λ (x : Partition). digit c.args.graph_labels.now number x.id) c.args.partitions.now in
    let inside : c.in_ok-place.place < length c.place_of.new.self.digits.from.items = omega (arith, c.in_ok-place.ensures.within, c.place_of.ensures.window.few) in
    let start : c.index.result.now ≡ get_or c.place_of.new.self.digits.from.items c.in_ok-place.place 0 =
    c.index.ensures ∙ get_or_default c.place_of.new.self.digits.from.items c.in_ok-place.place c.index.result.now 0 inside in
    subst (λ (ns : List ℕ). IfOk c.part_of.result (λ labels. labels ≡ ns))
    (ap (λ (n : ℕ). map number_of (take (length c.args.partitions.now) (drop n c.place_of.new.self.text.value.items))) start
    ∙ ap (λ (ds : List ℕ). map number_of ds) (c.place_of.ensures.window.labels c.in_ok-place.place c.in_ok-place.ensures.within)
    ∙ numbers_back digits
    ∙ ap (λ (n : ℕ). map (λ (x : Partition). digit c.args.graph_labels.now n x.id) c.args.partitions.now) c.in_ok-place.ensures.place)
    c.part_of.ensures
