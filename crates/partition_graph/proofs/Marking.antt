-- The rows that mark which edges are counted.
use Rattle.std.proofs.Common.{◌≡◌, ℕ, ◌+◌, ◌*◌, ◌<◌, Bool, false, ltb, List, length, replicate, get_or, arith, ap, sym, ◌∙◌, inl, inr}
use Rattle.std.proofs.lemmas.Bool.{cases_lt}
use Rattle.std.proofs.lemmas.List.{length-replicate, get_or-replicate, get_or_past}
use Rattle.limits.specs.declared.TheConstants.{MAX_PARTITIONS}
use Rattle.bit_rows.specs.Tables.{row_at, is_set}
use Rattle.partition_graph.specs.Marks.{HasIdRows, IsMarked}

-- rows of which nothing is on
blank_place : (n i : ℕ) → is_set (replicate n false) i ≡ false
blank_place n i =
    elim (cases_lt i n) [
      | inl l ↦ get_or-replicate n i false false l
      | inr l ↦ get_or_past (replicate n false) i false (let s : length (replicate n false) ≡ n = length-replicate n false in omega (arith, s, l))
    ]

pub blank_rows : (rows : List (List Bool)) (n m r i : ℕ) → rows ≡ replicate n (replicate m false) → r < n → is_set (row_at rows r) i ≡ false
blank_rows rows n m r i e l =
    ap (λ (t : List (List Bool)). is_set (row_at t r) i) e ∙ ap (λ (row : List Bool). is_set row i) (get_or-replicate n r (replicate m false) _ l) ∙ blank_place m i

-- counts of 0 are marked by rows of which nothing is on
pub new_marked : (counts : List ℕ) (sources targets : List (List Bool)) → ((k : ℕ) → get_or counts k 0 ≡ 0)
    → sources ≡ replicate MAX_PARTITIONS (replicate MAX_PARTITIONS false) → HasIdRows sources → targets ≡ replicate MAX_PARTITIONS (replicate MAX_PARTITIONS false) → HasIdRows targets
    → IsMarked counts sources targets
new_marked counts sources targets none s s_rows t t_rows =
    record {
      source_rows = s_rows;
      target_rows = t_rows;
      sources_are = λ p q a b. blank_rows sources MAX_PARTITIONS MAX_PARTITIONS q p s b ∙ sym (ap (λ n. ltb 0 n) (none (q * MAX_PARTITIONS + p)));
      targets_are = λ p q a b. blank_rows targets MAX_PARTITIONS MAX_PARTITIONS p q t a ∙ sym (ap (λ n. ltb 0 n) (none (q * MAX_PARTITIONS + p)));
    }
