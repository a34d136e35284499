use Rattle.std.proofs.Common.{◌≡◌, ◌==◌, false, ℕ, List, cond, get_or, arith, ap}
use Rattle.std.proofs.lemmas.List.Elements.{recursion_from_All}
use Rattle.limits.specs.declared.TheConstants.{INITIAL}
use Rattle.partition_graph.specs.declared.cells.Cell.{Cell}
use Rattle.partition_graph.specs.Counts.{HasId}
use Rattle.partition_graph.specs.Marks.{count_in}
use Rattle.partition_graph.specs.Members.{id_at}
use Rattle.partition_graph.proofs.Around.{around-read, before-low, behind-low, first-room, second-room, size-room}
use Rattle.partition_graph.proofs.Members.{id_at-get}
use Rattle.partition_graph.proofs.Retyping.{adds-type, type-of-cell}
use Rattle.partition_graph.proofs.tables.Tables.count_around.Goals as goal

none : Cell
none = record { typ = 0; last = false; id = 0 }

pub count_cell-requires-clause-few : goal.count_cell-requires-clause-few
unfolding none
count_cell-requires-clause-few c =
    size-room c.args.self.now c.args.cells.now c.args.place (get_or c.args.cells.now c.args.place none).id c.requires.place c.requires.ids c.requires.few c.requires.counted (id_at-get c.args.cells.now c.args.place none c.requires.place)

pub add-requires-clause-from : goal.add-requires-clause-from
add-requires-clause-from c =
    let cs : List Cell = c.args.cells.now in
    omega (arith, c.id_before.ensures, before-low INITIAL c.args.place cs (omega arith) (recursion_from_All HasId cs c.requires.ids))

pub add-requires-clause-few : goal.add-requires-clause-few
unfolding none
add-requires-clause-few c =
    first-room c.args.self.now c.count_cell.new.self.counts c.args.cells.now c.args.place c.id_before.result (get_or c.args.cells.now c.args.place none).id
    c.requires.place c.requires.ids c.requires.few c.requires.counted c.count_cell.ensures.counts c.id_before.ensures (id_at-get c.args.cells.now c.args.place none c.requires.place)

pub add-requires-2-clause-to : goal.add-requires-2-clause-to
add-requires-2-clause-to c =
    let cs : List Cell = c.args.cells.now in
    omega (arith, c.id_behind.ensures, behind-low c.args.place cs (recursion_from_All HasId cs c.requires.ids))

pub add-requires-2-clause-few : goal.add-requires-2-clause-few
unfolding none
add-requires-2-clause-few c =
    second-room c.args.self.now c.count_cell.new.self.counts c.add.new.self c.args.cells.now c.args.place c.id_before.result (get_or c.args.cells.now c.args.place none).id c.id_behind.result
    c.requires.place c.requires.ids c.requires.few c.requires.counted c.count_cell.ensures.counts c.id_before.ensures (id_at-get c.args.cells.now c.args.place none c.requires.place) c.id_behind.ensures c.add.ensures

pub returns-clause-counted : goal.returns-clause-counted
unfolding none
returns-clause-counted c =
    let cs : List Cell = c.args.cells.now in
    let id : ℕ = (get_or cs c.args.place none).id in
    let is = id_at-get cs c.args.place none c.requires.place in
    record {
      sizes = λ p low.
          let same : cond {A = ℕ} (id_at cs c.args.place == p) 1 0 ≡ cond {A = ℕ} (id == p) 1 0 = ap (λ i. cond {A = ℕ} (i == p) 1 0) is in
          omega (arith, same, c.count_cell.ensures.sizes p low, c.requires.counted.sizes p low);
      counts = λ p q low low'.
          let same : count_in c.count_cell.new.self.counts p q ≡ count_in c.args.self.now.counts p q = ap (λ (x : List ℕ). count_in x p q) c.count_cell.ensures.counts in
          let near = around-read cs c.args.place c.id_before.result id c.id_behind.result p q c.id_before.ensures is c.id_behind.ensures in
          omega (arith, same, near, c.add.ensures p q low low', c.add-2.ensures p q low low', c.requires.counted.counts p q low low');
    }

pub returns-clause-types : goal.returns-clause-types
unfolding none
returns-clause-types c = λ types have known.
    let cs : List Cell = c.args.cells.now in
    let cell : Cell = get_or cs c.args.place none in
    adds-type types c.args.self.now c.count_cell.new.self cell.id cell.typ known (type-of-cell types cs c.args.place none c.requires.place have) c.count_cell.ensures.types c.count_cell.ensures.sizes
