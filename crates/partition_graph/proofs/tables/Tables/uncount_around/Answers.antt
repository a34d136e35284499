use Rattle.std.proofs.Common.{◌≡◌, ◌<◌, ◌==◌, false, ℕ, List, cond, get_or, arith, ap, subst}
use Rattle.std.proofs.lemmas.List.Elements.{recursion_from_All}
use Rattle.limits.specs.declared.TheConstants.{INITIAL}
use Rattle.partition_graph.specs.declared.cells.Cell.{Cell}
use Rattle.partition_graph.specs.Counts.{HasId}
use Rattle.partition_graph.specs.Marks.{count_in}
use Rattle.partition_graph.specs.Members.{id_at}
use Rattle.partition_graph.proofs.Around.{around-read, before-low, behind-low, first-there, id-low, second-there}
use Rattle.partition_graph.proofs.Members.{id_at-get, some-cell}
use Rattle.partition_graph.proofs.tables.Tables.uncount_around.Goals as goal

none : Cell
none = record { typ = 0; last = false; id = 0 }

pub uncount_cell-requires-clause-some : goal.uncount_cell-requires-clause-some
unfolding none
uncount_cell-requires-clause-some c =
    let cs : List Cell = c.args.cells.now in
    let is = id_at-get cs c.args.place none c.requires.place in
    let low = id-low c.args.place cs c.requires.place (recursion_from_All HasId cs c.requires.ids) in
    let size = c.requires.counted.sizes (id_at cs c.args.place) low in
    let some = some-cell c.args.place cs c.requires.place in
    subst (λ i. 0 < get_or c.args.self.now.sizes.items i 0) is (omega (arith, size, some))

pub remove-requires-clause-from : goal.remove-requires-clause-from
remove-requires-clause-from c =
    let cs : List Cell = c.args.cells.now in
    omega (arith, c.id_before.ensures, before-low INITIAL c.args.place cs (omega arith) (recursion_from_All HasId cs c.requires.ids))

pub remove-requires-clause-some : goal.remove-requires-clause-some
unfolding none
remove-requires-clause-some c =
    first-there c.args.self.now c.uncount_cell.new.self.counts c.args.cells.now c.args.place c.id_before.result (get_or c.args.cells.now c.args.place none).id
    c.requires.closed c.requires.place c.requires.ids c.requires.counted c.uncount_cell.ensures.counts c.id_before.ensures (id_at-get c.args.cells.now c.args.place none c.requires.place)

pub remove-requires-2-clause-to : goal.remove-requires-2-clause-to
remove-requires-2-clause-to c =
    let cs : List Cell = c.args.cells.now in
    omega (arith, c.id_behind.ensures, behind-low c.args.place cs (recursion_from_All HasId cs c.requires.ids))

pub remove-requires-2-clause-some : goal.remove-requires-2-clause-some
unfolding none
remove-requires-2-clause-some c =
    second-there c.args.self.now c.uncount_cell.new.self.counts c.remove.new.self c.args.cells.now c.args.place c.id_before.result (get_or c.args.cells.now c.args.place none).id c.id_behind.result
    c.requires.closed c.requires.place c.requires.ids c.requires.counted c.uncount_cell.ensures.counts c.id_before.ensures (id_at-get c.args.cells.now c.args.place none c.requires.place) c.id_behind.ensures c.remove.ensures

pub returns-clause-counted : goal.returns-clause-counted
unfolding none
returns-clause-counted c =
    let cs : List Cell = c.args.cells.now in
    let id : ℕ = (get_or cs c.args.place none).id in
    let is = id_at-get cs c.args.place none c.requires.place in
    record {
      sizes = λ p low.
          let same : cond {A = ℕ} (id_at cs c.args.place == p) 1 0 ≡ cond {A = ℕ} (id == p) 1 0 = ap (λ i. cond {A = ℕ} (i == p) 1 0) is in
          omega (arith, same, c.uncount_cell.ensures.sizes p low, c.requires.counted.sizes p low);
      counts = λ p q low low'.
          let same : count_in c.uncount_cell.new.self.counts p q ≡ count_in c.args.self.now.counts p q = ap (λ (x : List ℕ). count_in x p q) c.uncount_cell.ensures.counts in
          let near = around-read cs c.args.place c.id_before.result id c.id_behind.result p q c.id_before.ensures is c.id_behind.ensures in
          omega (arith, same, near, c.remove.ensures p q low low', c.remove-2.ensures p q low low', c.requires.counted.counts p q low low');
    }
