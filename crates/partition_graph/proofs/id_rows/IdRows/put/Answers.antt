use Rattle.std.proofs.Common.{◌≡◌, ℕ, ◌+◌, ◌*◌, ◌/◌, ◌%◌, Bool, List, false, sym, ap₂, ◌∙◌, subst, arith, inl, inr}
use Rattle.std.proofs.lemmas.Bool.{cases_eq}
use Rattle.std.proofs.lemmas.Nat.{div-add-mod', mod_below}
use Rattle.limits.specs.declared.TheConstants.{MAX_PARTITIONS}
use Rattle.bit_rows.specs.Tables.{row_at, is_set}
use Rattle.partition_graph.specs.Marks.{IsWithBit}
use Rattle.partition_graph.specs.declared.id_rows.TheConstants.{ID_WORDS}
use Rattle.partition_graph.proofs.Filling.{no-other}
use Rattle.partition_graph.proofs.NeighbourWords.{word-blank}
use Rattle.partition_graph.proofs.id_rows.IdRows.put.Goals as goal

pub invariant_of-self : goal.invariant_of-self
invariant_of-self c =
    let place : ℕ = c.args.i / 64 in
    let split : place * 64 + c.args.i % 64 ≡ c.args.i = div-add-mod' c.args.i 64 in
    let col = mod_below c.args.i 64 (omega arith) in
    let old = c.self.invariant in
    record {
      rows_shape = c.turn.ensures.shape MAX_PARTITIONS MAX_PARTITIONS old.rows_shape;
      filled_shape = c.turn-2.ensures.shape MAX_PARTITIONS ID_WORDS old.filled_shape;
      blank = λ s w k low word bit off. elim (cases_eq w place) [
        | inl same ↦ elim (cases_eq s c.args.r) [
          | inl here ↦
              let off' : is_set (row_at c.turn-2.new.rows c.args.r) place ≡ false = ap₂ (λ a b. is_set (row_at c.turn-2.new.rows a) b) (sym here) (sym same) ∙ off in
              ap₂ (λ a b. is_set (row_at c.turn.new.rows a) (b * 64 + k)) here same
              ∙ word-blank (is_set (row_at c.turn.new.rows c.args.r)) place c.word.result c.word.ensures (no-other c.word.result (sym c.turn-2.ensures.here ∙ off')) k bit
          | inr other ↦
              c.turn.ensures.others s (w * 64 + k) (λ e d. other e)
              ∙ old.blank s w k low word bit (sym (c.turn-2.ensures.others s w (λ e d. other e)) ∙ off)
        ]
        | inr other ↦
            c.turn.ensures.others s (w * 64 + k) (λ e d. omega (arith, d, other, split, col, bit))
            ∙ old.blank s w k low word bit (sym (c.turn-2.ensures.others s w (λ e d. other d)) ∙ off)
      ];
    }

pub word-requires-clause-row : goal.word-requires-clause-row
word-requires-clause-row c = omega (arith, (c.turn.ensures.shape MAX_PARTITIONS MAX_PARTITIONS c.self.invariant.rows_shape).count, c.requires.row)

pub word-requires-clause-place : goal.word-requires-clause-place
word-requires-clause-place c =
    omega (arith, (c.turn.ensures.shape MAX_PARTITIONS MAX_PARTITIONS c.self.invariant.rows_shape).long c.args.r c.requires.row, div-add-mod' c.args.i 64, c.requires.place)

pub returns : goal.returns
returns c =
    subst (λ (old : List (List Bool)). IsWithBit c.args.r c.args.i c.args.on old c.turn.new.rows) c.self.view_is
    (record {
      rows = c.turn.ensures.shape MAX_PARTITIONS MAX_PARTITIONS c.self.invariant.rows_shape;
      here = c.turn.ensures.here;
      others = c.turn.ensures.others;
    })
