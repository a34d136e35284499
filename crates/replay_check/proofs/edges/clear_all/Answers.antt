use Rattle.std.proofs.Common.{◌≡◌, ◌<◌, ℕ, List, Bool, false, length, set, replicate, ap, ◌∙◌, inl, inr, arith}
use Rattle.std.proofs.lemmas.Bool.{cases_eq}
use Rattle.limits.specs.declared.TheConstants.{MAX_PARTITIONS}
use Rattle.bit_rows.specs.Tables.{row_at}
use Rattle.replay_check.specs.Shown.{has_edge}
use Rattle.replay_check.proofs.Marking.{cleared, not-cleared}
use Rattle.replay_check.proofs.edges.clear_all.Goals as goal

pub loop-p-preserved : goal.loop-p-preserved
loop-p-preserved c =
    let rows : List (List Bool) = c.loop-p.rows in
    let r : ℕ = c.loop-p.p in
    let n : ℕ = length (row_at rows r) in
    let count : length rows ≡ MAX_PARTITIONS = c.loop-p.invariant.shape.count in
    let inside : r < length rows = omega (arith, c.loop-p-test.true) in
    record {
      shape = c.clear.ensures.shape MAX_PARTITIONS MAX_PARTITIONS c.loop-p.invariant.shape;
      clear = λ p q l.
          ap (λ (t : List (List Bool)). has_edge t p q) c.clear.ensures.rows ∙ elim (cases_eq p r) [
            | inl e ↦ ap (λ x. has_edge (set rows r (replicate n false)) x q) e ∙ cleared rows r n q inside
            | inr ne ↦ not-cleared rows r n p q ne ∙ c.loop-p.invariant.clear p q (omega arith)
          ];
    }

pub returns-clause-marks : goal.returns-clause-marks
returns-clause-marks c = λ p q l. c.loop-p.invariant.clear p q (omega (arith, c.loop-p-test.false))
