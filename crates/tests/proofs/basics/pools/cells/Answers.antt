-- The second cell that is moved still stands in list 0, which is 0, 2, 3 by then.
use Rattle.std.proofs.Common.{◌≡◌, ◌-◌, List, ℕ, ◌++◌, [], ◌∷◌, set, replicate, Contains, refl, sym, ap, ◌∙◌, subst, arith}
use Rattle.std.specs.List.{range_with_len}
use Rattle.cell_pool.specs.Rooms.{CellCounts}
use Rattle.cell_pool.specs.Tables.{row_at, without}
use Rattle.tests.proofs.basics.pools.cells.Goals as goal
use Rattle.tests.proofs.basics.pools.cells.Goals.{After-fill-cells}

-- the lists as they are made
made : (c : After-fill-cells) → c.fill-cells.result ≡ range_with_len 0 4 ∷ [] ∷ []
made c = c.fill-cells.ensures.lists ∙ ap (λ (n : CellCounts). range_with_len 0 n.cells ∷ replicate {A = List ℕ} (n.lists - 1) []) c.in_ok-room.ensures

pub move_to-requires-2-clause-stands : goal.move_to-requires-2-clause-stands
move_to-requires-2-clause-stands c =
    let lists = c.move_to.ensures.lists ∙ ap (λ (t : List (List ℕ)). set (set t 0 (without (row_at t 0) 1)) 1 (row_at t 1 ++ 1 ∷ [])) (made (goal.at.move_to-requires-2-clause-stands c).After-fill-cells) in
    subst (λ (t : List (List ℕ)). Contains (row_at t 0) 3) (sym lists) (2, omega arith, refl)

pub move_to-requires-clause-stands : goal.move_to-requires-clause-stands
move_to-requires-clause-stands c =
    subst (λ (t : List (List ℕ)). Contains (row_at t 0) 1) (sym (made (goal.at.move_to-requires-clause-stands c).After-fill-cells)) (1, omega arith, refl)
