-- The definitions on small logs, by computation. In each log the types are numbered from 2 in the order in which its lines first name them.
use Rattle.std.proofs.Common.{◌≡◌, ℕ, false, List, [], ◌∷◌, refl, map, length, slice_get, Some}
use Rattle.invariants.specs.Holds.{holds}
use Rattle.invariants.specs.Mined.{mined}
use Rattle.invariants.specs.Candidates.{invariant}
use Rattle.invariants.specs.declared.Invariant.{Invariant}
use Rattle.invariants.specs.declared.Kind.TheVariants.{AF, NF, AP}
use Rattle.invariants.specs.declared.records.Partition.{Partition}
use Rattle.invariants.specs.declared.records.Edge.{Edge}
use Rattle.invariants.specs.declared.records.Split.{Split}
use Rattle.partition_model.specs.Assignments.{Assignment, by_type, G, with_ends, inner_words, ids_of}
use Rattle.partition_model.specs.Listings.{partitions_below, edges_below}
use Rattle.partition_model.specs.Refinement.{stitch, after_split}
use Rattle.partition_model.specs.Coarsening.{merge}
use Rattle.partition_model.specs.Graphs.{IsPath, word, Merged}

abbrev partition : ℕ → ℕ → ℕ → Partition
partition id typ count = record { id = id; typ = typ; count = count }

abbrev edge : ℕ → ℕ → ℕ → Edge
edge from to count = record { from = from; to = to; count = count }

abbrev split_at : ℕ → ℕ → List ℕ → Split
split_at inv place path = record { inv = inv; place = place; path = path }

-- the mined list of a log with so many types
abbrev mined_of : ℕ → Assignment → List Invariant
mined_of types h = mined types (map with_ends (inner_words h))

-- two traces a b
abbrev two_traces_a_b : Assignment
two_traces_a_b = by_type ((2 ∷ 3 ∷ []) ∷ (2 ∷ 3 ∷ []) ∷ [])

two_traces_a_b-mined : mined_of 2 two_traces_a_b
    ≡ invariant AF 0 2 ∷ invariant AF 0 3 ∷ invariant NF 2 2 ∷ invariant AF 2 3 ∷ invariant AP 2 3 ∷ invariant NF 3 2 ∷ invariant NF 3 3 ∷ []
two_traces_a_b-mined = refl

two_traces_a_b-partitions : partitions_below 4 two_traces_a_b ≡ partition 0 0 2 ∷ partition 1 1 2 ∷ partition 2 2 2 ∷ partition 3 3 2 ∷ []
two_traces_a_b-partitions = refl

two_traces_a_b-edges : edges_below 4 two_traces_a_b ≡ edge 0 2 2 ∷ edge 2 3 2 ∷ edge 3 1 2 ∷ []
two_traces_a_b-edges = refl

-- a trace a a a: a loop is counted at each of its places
abbrev trace_a_a_a : Assignment
trace_a_a_a = by_type ((2 ∷ 2 ∷ 2 ∷ []) ∷ [])

trace_a_a_a-mined : mined_of 1 trace_a_a_a ≡ invariant AF 0 2 ∷ []
trace_a_a_a-mined = refl

trace_a_a_a-partitions : partitions_below 3 trace_a_a_a ≡ partition 0 0 1 ∷ partition 1 1 1 ∷ partition 2 2 3 ∷ []
trace_a_a_a-partitions = refl

trace_a_a_a-edges : edges_below 3 trace_a_a_a ≡ edge 0 2 1 ∷ edge 2 1 1 ∷ edge 2 2 2 ∷ []
trace_a_a_a-edges = refl

-- traces a c d and b c e, where a, c, d, b, e are 2 to 6: the c before an e is divided from the other
abbrev a_c_d_and_b_c_e : Assignment
a_c_d_and_b_c_e = by_type ((2 ∷ 3 ∷ 4 ∷ []) ∷ (5 ∷ 3 ∷ 6 ∷ []) ∷ [])

abbrev c_then_e : List ℕ
c_then_e = 0 ∷ 2 ∷ 3 ∷ 6 ∷ 1 ∷ []

a_c_d_and_b_c_e-mined : mined_of 5 a_c_d_and_b_c_e
    ≡ invariant AF 0 3 ∷ invariant NF 2 2 ∷ invariant AF 2 3 ∷ invariant AF 2 4 ∷ invariant AP 2 4 ∷ invariant NF 2 5 ∷ invariant NF 2 6
    ∷ invariant NF 3 2 ∷ invariant NF 3 3 ∷ invariant AP 3 4 ∷ invariant NF 3 5 ∷ invariant AP 3 6
    ∷ invariant NF 4 2 ∷ invariant NF 4 3 ∷ invariant NF 4 4 ∷ invariant NF 4 5 ∷ invariant NF 4 6
    ∷ invariant NF 5 2 ∷ invariant AF 5 3 ∷ invariant NF 5 4 ∷ invariant NF 5 5 ∷ invariant AF 5 6 ∷ invariant AP 5 6
    ∷ invariant NF 6 2 ∷ invariant NF 6 3 ∷ invariant NF 6 4 ∷ invariant NF 6 5 ∷ invariant NF 6 6 ∷ []
a_c_d_and_b_c_e-mined = refl

a_c_d_and_b_c_e-path : IsPath (G a_c_d_and_b_c_e) c_then_e
a_c_d_and_b_c_e-path = (refl, (refl, (refl, (refl, (refl, refl)))))

a_c_d_and_b_c_e-breaks : holds (invariant AF 2 4) (word (G a_c_d_and_b_c_e) c_then_e) ≡ false
a_c_d_and_b_c_e-breaks = refl

a_c_d_and_b_c_e-stitch : stitch a_c_d_and_b_c_e c_then_e ≡ 2
a_c_d_and_b_c_e-stitch = refl

abbrev c_divided : Assignment
c_divided = after_split 7 (split_at 3 2 c_then_e) a_c_d_and_b_c_e

c_divided-ids : map ids_of c_divided ≡ (2 ∷ 3 ∷ 4 ∷ []) ∷ (5 ∷ 7 ∷ 6 ∷ []) ∷ []
c_divided-ids = refl

c_divided-partitions : partitions_below 8 c_divided
    ≡ partition 0 0 2 ∷ partition 1 1 2 ∷ partition 2 2 1 ∷ partition 3 3 1 ∷ partition 4 4 1 ∷ partition 5 5 1 ∷ partition 6 6 1 ∷ partition 7 3 1 ∷ []
c_divided-partitions = refl

c_divided-edges : edges_below 8 c_divided
    ≡ edge 0 2 1 ∷ edge 0 5 1 ∷ edge 2 3 1 ∷ edge 3 4 1 ∷ edge 4 1 1 ∷ edge 5 7 1 ∷ edge 6 1 1 ∷ edge 7 6 1 ∷ []
c_divided-edges = refl

-- merging the two again admits the path
c_divided-block : IsPath (Merged (G c_divided) 3 7) c_then_e
c_divided-block = (refl, (refl, (refl, (refl, (refl, refl)))))

c_divided-block_breaks : holds (invariant AF 2 4) (word (Merged (G c_divided) 3 7) c_then_e) ≡ false
c_divided-block_breaks = refl

-- the same traces where the lines name the types as a, b, c, d, e
abbrev a_c_d_beside_b_c_e : Assignment
a_c_d_beside_b_c_e = by_type ((2 ∷ 4 ∷ 5 ∷ []) ∷ (3 ∷ 4 ∷ 6 ∷ []) ∷ [])

a_c_d_beside_b_c_e-mined : length (mined_of 5 a_c_d_beside_b_c_e) ≡ 28
a_c_d_beside_b_c_e-mined = refl

a_c_d_beside_b_c_e-fourth : slice_get (mined_of 5 a_c_d_beside_b_c_e) 4 ≡ Some (invariant AF 2 5)
a_c_d_beside_b_c_e-fourth = refl

a_c_d_beside_b_c_e-path : IsPath (G a_c_d_beside_b_c_e) (0 ∷ 2 ∷ 4 ∷ 6 ∷ 1 ∷ [])
a_c_d_beside_b_c_e-path = (refl, (refl, (refl, (refl, (refl, refl)))))

a_c_d_beside_b_c_e-stitch : stitch a_c_d_beside_b_c_e (0 ∷ 2 ∷ 4 ∷ 6 ∷ 1 ∷ []) ≡ 2
a_c_d_beside_b_c_e-stitch = refl

a_c_d_beside_b_c_e-block : IsPath (Merged (G (after_split 7 (split_at 4 2 (0 ∷ 2 ∷ 4 ∷ 6 ∷ 1 ∷ [])) a_c_d_beside_b_c_e)) 4 7) (0 ∷ 2 ∷ 4 ∷ 6 ∷ 1 ∷ [])
a_c_d_beside_b_c_e-block = (refl, (refl, (refl, (refl, (refl, refl)))))

-- traces p a a q and r a a s, where p, a, q, r, s are 2 to 6: two splits, and a merge of what they left
abbrev p_a_a_q_and_r_a_a_s : Assignment
p_a_a_q_and_r_a_a_s = by_type ((2 ∷ 3 ∷ 3 ∷ 4 ∷ []) ∷ (5 ∷ 3 ∷ 3 ∷ 6 ∷ []) ∷ [])

p_a_a_q_and_r_a_a_s-third : slice_get (mined_of 5 p_a_a_q_and_r_a_a_s) 3 ≡ Some (invariant AF 2 4)
p_a_a_q_and_r_a_a_s-third = refl

p_a_a_q_and_r_a_a_s-path : IsPath (G p_a_a_q_and_r_a_a_s) (0 ∷ 2 ∷ 3 ∷ 6 ∷ 1 ∷ [])
p_a_a_q_and_r_a_a_s-path = (refl, (refl, (refl, (refl, (refl, refl)))))

p_a_a_q_and_r_a_a_s-stitch : stitch p_a_a_q_and_r_a_a_s (0 ∷ 2 ∷ 3 ∷ 6 ∷ 1 ∷ []) ≡ 2
p_a_a_q_and_r_a_a_s-stitch = refl

abbrev after_one : Assignment
after_one = after_split 7 (split_at 3 2 (0 ∷ 2 ∷ 3 ∷ 6 ∷ 1 ∷ [])) p_a_a_q_and_r_a_a_s

after_one-ids : map ids_of after_one ≡ (2 ∷ 3 ∷ 3 ∷ 4 ∷ []) ∷ (5 ∷ 3 ∷ 7 ∷ 6 ∷ []) ∷ []
after_one-ids = refl

after_one-path : IsPath (G after_one) (0 ∷ 2 ∷ 3 ∷ 7 ∷ 6 ∷ 1 ∷ [])
after_one-path = (refl, (refl, (refl, (refl, (refl, (refl, refl))))))

after_one-stitch : stitch after_one (0 ∷ 2 ∷ 3 ∷ 7 ∷ 6 ∷ 1 ∷ []) ≡ 2
after_one-stitch = refl

abbrev after_two : Assignment
after_two = after_split 8 (split_at 3 2 (0 ∷ 2 ∷ 3 ∷ 7 ∷ 6 ∷ 1 ∷ [])) after_one

after_two-ids : map ids_of after_two ≡ (2 ∷ 3 ∷ 3 ∷ 4 ∷ []) ∷ (5 ∷ 8 ∷ 7 ∷ 6 ∷ []) ∷ []
after_two-ids = refl

abbrev after_merge : Assignment
after_merge = merge 7 8 after_two

after_merge-ids : map ids_of after_merge ≡ (2 ∷ 3 ∷ 3 ∷ 4 ∷ []) ∷ (5 ∷ 7 ∷ 7 ∷ 6 ∷ []) ∷ []
after_merge-ids = refl

after_merge-partitions : partitions_below 9 after_merge
    ≡ partition 0 0 2 ∷ partition 1 1 2 ∷ partition 2 2 1 ∷ partition 3 3 2 ∷ partition 4 4 1 ∷ partition 5 5 1 ∷ partition 6 6 1 ∷ partition 7 3 2 ∷ []
after_merge-partitions = refl

after_merge-edges : edges_below 9 after_merge
    ≡ edge 0 2 1 ∷ edge 0 5 1 ∷ edge 2 3 1 ∷ edge 3 3 1 ∷ edge 3 4 1 ∷ edge 4 1 1 ∷ edge 5 7 1 ∷ edge 6 1 1 ∷ edge 7 6 1 ∷ edge 7 7 1 ∷ []
after_merge-edges = refl

-- what keeps 3 and 7 apart
after_merge-block : IsPath (Merged (G after_merge) 3 7) (0 ∷ 2 ∷ 3 ∷ 6 ∷ 1 ∷ [])
after_merge-block = (refl, (refl, (refl, (refl, (refl, refl)))))

after_merge-block_breaks : holds (invariant AF 2 4) (word (Merged (G after_merge) 3 7) (0 ∷ 2 ∷ 3 ∷ 6 ∷ 1 ∷ [])) ≡ false
after_merge-block_breaks = refl
