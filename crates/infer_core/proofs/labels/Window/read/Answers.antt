use Rattle.std.proofs.Common.{rules, ◌≡◌, ◌<◌, ◌≤◌, ◌+◌, ◌-◌, ◌*◌, ◌/◌, ◌%◌, ℕ, List, [], Some, drop, get_or, slice_get, length, take, sym, ap, ◌∙◌, subst, arith}
use Rattle.std.proofs.lemmas.List.{with_items_is}
use Rattle.std.proofs.lemmas.Option.{slice_get_within}
use Rattle.std.proofs.lemmas.Nat.{div-add-mod', mod_below}
use Rattle.labelling.specs.Labelled.{AreStatesAt}
use Rattle.invariants.specs.declared.records.Partition.{Partition}
use Rattle.infer_core.specs.Windows.{row_of, HasRows, IsAheadOf}
use Rattle.infer_core.proofs.Windows.{row-is}
use Rattle.infer_core.proofs.labels.Window.read.Goals as goal

pub returns-clause-window : goal.returns-clause-window
returns-clause-window c =
    let partitions : List Partition = c.args.partitions.now in
    let words : List (List ℕ) = c.copy.new.words in
    let starts : List ℕ = c.find.new.self.from.items in
    let same = with_items_is c.args.self.now.words words (omega (arith, c.copy.auto.words, c.as_mut_slice.ensures.len)) in
    let size : length words ≡ length partitions = omega (arith, c.copy.auto.words, c.as_mut_slice.ensures.len, c.requires.window.size) in
    let text : c.in_ok-self.field-0.value.items ≡ c.find.new.self.text.items = ap (λ v. v.items) c.in_ok-self.ensures.ok ∙ c.in_ok-text.ensures ∙ c.as_slice-2.ensures.value in
    let rows : HasRows words c.in_ok-self.field-0.value.items starts =
    subst (λ (ds : List ℕ). HasRows words ds starts) (sym text)
    (subst (λ (ws : List (List ℕ)). HasRows ws c.find.new.self.text.items starts) (c.as_slice.ensures.value ∙ same) c.in_ok-find.ensures.rows) in
    let few : c.min-self.result ≤ length starts = omega (arith, c.min-self.ensures, c.in_ok-find.ensures.count) in
    let low : (k : ℕ) → k < c.min-self.result → k < 64 = λ k l. omega (arith, l, c.min-self.ensures) in
    let inside : (k : ℕ) → k < c.min-self.result → c.args.place * 64 + k < c.args.count = λ k l. omega (arith, l, c.min-self.ensures) in
    let split : c.args.place / 8 * 8 + c.args.place % 8 ≡ c.args.place = div-add-mod' c.args.place 8 in
    let below : c.args.place % 8 < 8 = mod_below c.args.place 8 (omega arith) in
    let upto : c.args.place / 8 * 8 + c.args.place % 8 ≤ (c.args.count - 1) / 64 = omega (arith, split, c.requires.place) in
    let states : (j : ℕ) (x : Partition) → slice_get partitions j ≡ Some x → AreStatesAt c.args.graph_labels.now c.args.place x.id (get_or words j []) =
    λ j x e.
    subst (λ (ws : List ℕ). AreStatesAt c.args.graph_labels.now c.args.place x.id ws) (sym (c.copy.ensures j (let there : j < length partitions = slice_get_within partitions j x e in omega (arith, there, size, c.copy.auto.words))))
    (subst (λ (n : ℕ). AreStatesAt c.args.graph_labels.now n x.id (get_or (get_or c.read.new.self.words.items j []) (c.args.place % 8) [])) split (c.read.ensures.read j (c.args.place % 8) x e below upto)) in
    let row-size : length c.find.new.row ≡ length partitions = omega (arith, c.find.auto.row, c.as_mut_slice-2.ensures.len, c.requires.window.row) in
    let row-same = with_items_is c.args.self.now.row c.find.new.row (omega (arith, c.find.auto.row, c.as_mut_slice-2.ensures.len)) in
    record {
      ahead = subst (λ (n : ℕ). IsAheadOf c.args.graph_labels.now partitions ((n - 1) / 64) c.read.new.self) c.requires.count c.read.ensures.ahead;
      size = ap length same ∙ size;
      bytes = search rules;
      row = ap length row-same ∙ row-size;
      few = few;
      within = λ k l. omega (arith, size, (rows k (omega (arith, l, few))).0);
      labels = λ k l. subst (λ (n : ℕ). take n (drop (get_or starts k 0) c.in_ok-self.field-0.value.items) ≡ row_of words k) size (rows k (omega (arith, l, few))).1
          ∙ row-is c.args.graph_labels.now c.args.place k words partitions size (low k l) (omega (arith, inside k l, c.requires.count)) states;
    }
