-- What is copied, gathered and shared where a loop over traces begins, and where it ends.
use Rattle.std.proofs.Common.{◌≡◌, ℕ, ◌≤◌, List, [], length, take, arith, ap, ◌∙◌}
use Rattle.std.proofs.lemmas.List.{take_all}
use Rattle.partition_graph.specs.declared.cells.Cell.{Cell}
use Rattle.partition_graph.specs.Cells.{IsGathered}
use Rattle.partition_graph.specs.Shared.{joined_traces, Begin}
use Rattle.partition_graph.proofs.Copied.{IsCopying}

-- nothing is copied yet
pub nothing_copied : (traces : List (List Cell)) (copies : List Cell) (starts : List ℕ) → copies ≡ [] → starts ≡ [] → IsCopying traces 0 copies starts
nothing_copied traces copies starts none no_starts =
    record {
      copies_are = none;
      count = ap (λ (ns : List ℕ). length ns) no_starts;
      starts_are = λ t l. absurd (omega (arith, l));
    }

-- all are copied
pub all_are_copied : (traces : List (List Cell)) (i n : ℕ) (copies : List Cell) (starts : List ℕ) → length traces ≡ n → n ≤ i → i ≤ n → IsCopying traces i copies starts → (copies ≡ joined_traces traces) × Begin starts traces
all_are_copied traces i n copies starts long past within c =
    let all : take i traces ≡ traces = take_all i traces (omega (arith, long, past)) in (
      c.copies_are ∙ ap (λ (ts : List (List Cell)). joined_traces ts) all,
      record {
        count = c.count ∙ omega (arith, long, past, within);
        firsts_are = λ t l. c.starts_are t (omega (arith, long, past, l));
      },
    )

-- nothing is gathered yet
pub nothing_gathered : (bound : ℕ) (words : List (List ℕ)) (cells : List Cell) (firsts : List ℕ) → cells ≡ [] → firsts ≡ [] → IsGathered bound words 0 cells firsts
nothing_gathered bound words cells firsts none no_firsts =
    record {
      cells_are = none;
      count = ap (λ (ns : List ℕ). length ns) no_firsts;
      firsts_are = λ t l. absurd (omega (arith, l));
      some = tt;
      numbered = tt;
    }
