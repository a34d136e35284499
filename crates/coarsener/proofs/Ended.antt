-- What holds where refinement and coarsening have ended.
use Rattle.std.proofs.Common.{◌≡◌, ℕ, suc, List, [], ◌∷◌, sym, subst}
use Rattle.invariants.specs.declared.Invariant.{Invariant}
use Rattle.invariants.specs.declared.records.Split.{Split}
use Rattle.invariants.specs.declared.records.Merge.{Merge}
use Rattle.partition_model.specs.Assignments.{Assignment, G}
use Rattle.partition_model.specs.Refinement.{Refines, SatisfiesAll, after_split}
use Rattle.partition_model.specs.Coarsening.{merge, Coarsens, NoMerge}
use Rattle.cell_pool.specs.Numbers.{Numbers}
use Rattle.cell_pool.specs.RunLists.{RunLists}
use Rattle.run_history.specs.Records.{HoldsPaths}

-- after refinement the graph satisfies the invariants
pub refined-satisfies : (invs : List Invariant) (splits : List Split) (h : Assignment) (n : ℕ) (end : Assignment) → Refines invs h n splits end → SatisfiesAll (G end) invs
refined-satisfies invs [] h n end w = subst (λ (x : Assignment). SatisfiesAll (G x) invs) (sym w.1) w.0
refined-satisfies invs (s ∷ splits) h n end w = refined-satisfies invs splits (after_split n s h) (suc n) end w.1

-- after coarsening no merge keeps all of them
pub coarsened-none : (invs : List Invariant) (merges : List Merge) (h end : Assignment) → Coarsens invs h merges end → NoMerge invs end
coarsened-none invs [] h end w = subst (λ (x : Assignment). NoMerge invs x) (sym w.1) w.0
coarsened-none invs (m ∷ merges) h end w = coarsened-none invs merges (merge m.p m.q h) end w.1

-- merges have no paths
pub holds-merged : (old new : RunLists) (spans : Numbers) → new ≡ record old { merges = new.merges } → HoldsPaths old spans → HoldsPaths new spans
holds-merged old new spans e h = subst (λ (x : RunLists). HoldsPaths x spans) (sym e) (record { splits = h.splits; blocks = h.blocks })
