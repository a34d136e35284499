use Rattle.std.proofs.Common.{◌≡◌, ◌≤◌, ◌*◌, ℕ, Bool, List, false, length, subst, inl, inr, arith}
use Rattle.std.proofs.lemmas.Bool.{cases_lt}
use Rattle.bit_rows.specs.Tables.{row_at, is_set, IsNextSet}
use Rattle.partition_graph.proofs.Filling.{next_later, none_left, none_marked}
use Rattle.partition_graph.proofs.id_rows.IdRows.next_set.Goals as goal

pub returns-then-from-ge-IDS : goal.returns-then-from-ge-IDS
returns-then-from-ge-IDS c =
    subst (λ (rows : List (List Bool)). (i : ℕ) → c.args.from ≤ i → is_set (row_at rows c.args.r) i ≡ false) c.self.view_is
    (none_left c.self.inside.rows c.args.r c.args.from c.args.from c.self.invariant.rows_shape c.requires (λ i after before. absurd (omega (arith, after, before)))
    (λ i after inside. absurd (omega (arith, after, inside, c.if-from-ge-IDS.true))))

pub returns-in_default-next_in_word : goal.returns-in_default-next_in_word
returns-in_default-next_in_word c =
    subst (λ (rows : List (List Bool)). (i : ℕ) → c.args.from ≤ i → is_set (row_at rows c.args.r) i ≡ false) c.self.view_is
    (none_left c.self.inside.rows c.args.r c.args.from (c.loop-place.place * 64) c.self.invariant.rows_shape c.requires c.loop-place.invariant.none
    (λ i after inside. none_marked c.self.inside.rows c.self.inside.filled c.args.r c.loop-place.place 16 c.self.invariant c.requires (omega arith) (λ w later before. c.in_default-next_in_word.ensures w later (omega (arith, before))) i after (omega (arith, inside))))

pub returns-in-Some-next_in_word-2 : goal.returns-in-Some-next_in_word-2
returns-in-Some-next_in_word-2 c =
    let next : IsNextSet (row_at c.self.inside.filled c.args.r) c.loop-place.place c.in-Some-next_in_word.filled = c.in-Some-next_in_word.ensures in
    let long : length (row_at c.self.inside.filled c.args.r) ≡ 16 = c.self.invariant.filled_shape.long c.args.r c.requires in
    subst (λ (rows : List (List Bool)). IsNextSet (row_at rows c.args.r) c.args.from c.in-Some-next_in_word-2.i) c.self.view_is
    (next_later (row_at c.self.inside.rows c.args.r) c.args.from (c.in-Some-next_in_word.filled * 64) c.in-Some-next_in_word-2.i (omega (arith, c.loop-place.invariant.low, next.behind))
    (λ i after before. elim (cases_lt i (c.loop-place.place * 64)) [
      | inl early ↦ c.loop-place.invariant.none i after early
      | inr late ↦ none_marked c.self.inside.rows c.self.inside.filled c.args.r c.loop-place.place c.in-Some-next_in_word.filled c.self.invariant c.requires (omega (arith, next.within, long)) next.first i late before
    ])
    c.in-Some-next_in_word-2.ensures)

pub loop-place-preserved : goal.loop-place-preserved
loop-place-preserved c =
    let next : IsNextSet (row_at c.self.inside.filled c.args.r) c.loop-place.place c.in-Some-next_in_word.filled = c.in-Some-next_in_word.ensures in
    let long : length (row_at c.self.inside.filled c.args.r) ≡ 16 = c.self.invariant.filled_shape.long c.args.r c.requires in
    record {
      low = omega (arith, c.loop-place.invariant.low, next.behind);
      high = omega (arith, next.within, long);
      none = λ i after before. elim (cases_lt i (c.loop-place.place * 64)) [
        | inl early ↦ c.loop-place.invariant.none i after early
        | inr late ↦ elim (cases_lt i (c.in-Some-next_in_word.filled * 64)) [
          | inl between ↦ none_marked c.self.inside.rows c.self.inside.filled c.args.r c.loop-place.place c.in-Some-next_in_word.filled c.self.invariant c.requires (omega (arith, next.within, long)) next.first i late between
          | inr here ↦ c.in_default-next_in_word-2.ensures i here (omega (arith, before))
        ]
      ];
    }
