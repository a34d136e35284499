-- The value in version 1 of a well-shaped model of that version is read as that model.
use Rattle.std.proofs.Common.{◌≡◌, ◌≤◌, ℕ, true, ◌&&◌, List, length, Option, Some, Ok, nat_le, refl, sym, ap, le-leb, le-ltb}
use Rattle.std.specs.Prelude.{⊤}
use Rattle.std.specs.List.{AllByRecursion, list_all}
use Rattle.std.proofs.lemmas.Bool.{and_parts}
use Rattle.serde_json.specs.Data.{string}
use Rattle.serde_json.specs.Find.{as_str}
use Rattle.invariants.specs.declared.Kinds.TheVariants.{Three}
use Rattle.invariants.specs.declared.records.Model.{Model}
use Rattle.limits.specs.declared.TheConstants.{MAX_TYPES, VERSION_1_TYPES, VERSION_1_BYTES}
use Rattle.model_shape.specs.Shapes.{IsOfVersion1}
use Rattle.model_file.specs.declared.version.Version.TheVariants.{One}
use Rattle.model_file.specs.Tree.{partition_data, edge_data, listed_data, merge_data, split_data, block_data, tree_of_version_1}
use Rattle.model_file.specs.Rules.{type_holds, are_distinct, types_hold, partitions_hold, type_of, edges_hold, invariants_hold, merges_hold, splits_hold, blocks_hold, PassesRules}
use Rattle.model_file.specs.Entries.{partition_in, edge_in, listed_in, merge_in, split_in, block_in}
use Rattle.model_file.specs.Reading.{root_in, version_in, is_key, keys_in, head_in, part_in, types_in, kinds_in, partitions_in, edges_in, invariants_in, merges_in, splits_in, blocks_in, parts_in, model_in, value_of, reads_as, reads_version_1}
use Rattle.model_file.proofs.Back.{list-back, FitsPartition, FitsEdge, FitsListed, FitsMerge, FitsSplit, FitsBlock, partition-back, edge-back, listed-back, merge-back, split-back, block-back}
use Rattle.model_file.proofs.Trees.{fits, anything}

-- no more types than another limit has
narrow : (limit : ℕ) (ts : List (List ℕ)) → types_hold MAX_TYPES ts ≡ true → length ts ≤ limit → types_hold limit ts ≡ true
unfolding types_hold
narrow limit ts h few =
    let both = and_parts (nat_le (length ts) MAX_TYPES) (list_all type_holds ts && are_distinct ts) h in
    rw (le-leb (length ts) limit few) both.1

head-back : (m : Model) → head_in One (tree_of_version_1 m) ≡ Ok tt
unfolding head_in root_in version_in keys_in is_key tree_of_version_1
head-back m = refl

types-back : (m : Model) → types_hold VERSION_1_TYPES m.types ≡ true → types_in One (tree_of_version_1 m) ≡ Ok m.types
unfolding types_in part_in tree_of_version_1
types-back m h = rw (list-back as_str string (λ _. ⊤) (λ s _. refl) m.types (anything m.types), h) refl

kinds-back : (m : Model) → m.kinds ≡ Three → kinds_in One (tree_of_version_1 m) ≡ Ok m.kinds
unfolding kinds_in
kinds-back m is = ap Ok (sym is)

partitions-back : (m : Model) (types : ℕ) → AllByRecursion FitsPartition m.partitions → partitions_hold types m.partitions ≡ true → partitions_in types (tree_of_version_1 m) ≡ Ok m.partitions
unfolding partitions_in part_in tree_of_version_1
partitions-back m types fit h = rw (list-back partition_in partition_data FitsPartition partition-back m.partitions fit, h) refl

edges-back : (m : Model) (type : ℕ → Option ℕ) → AllByRecursion FitsEdge m.edges → edges_hold type m.edges ≡ true → edges_in type (tree_of_version_1 m) ≡ Ok m.edges
unfolding edges_in part_in tree_of_version_1
edges-back m type fit h = rw (list-back edge_in edge_data FitsEdge edge-back m.edges fit, h) refl

invariants-back : (m : Model) (types partitions : ℕ) → AllByRecursion FitsListed m.invariants → invariants_hold m.kinds types partitions m.invariants ≡ true → invariants_in m.kinds types partitions (tree_of_version_1 m) ≡ Ok m.invariants
unfolding invariants_in part_in tree_of_version_1
invariants-back m types partitions fit h = rw (list-back listed_in listed_data FitsListed listed-back m.invariants fit, h) refl

merges-back : (m : Model) → AllByRecursion FitsMerge m.merges → merges_hold m.merges ≡ true → merges_in (tree_of_version_1 m) ≡ Ok m.merges
unfolding merges_in part_in tree_of_version_1
merges-back m fit h = rw (list-back merge_in merge_data FitsMerge merge-back m.merges fit, h) refl

splits-back : (m : Model) (invariants : ℕ) → AllByRecursion FitsSplit m.splits → splits_hold invariants m.splits ≡ true → splits_in invariants (tree_of_version_1 m) ≡ Ok m.splits
unfolding splits_in part_in tree_of_version_1
splits-back m invariants fit h = rw (list-back split_in split_data FitsSplit split-back m.splits fit, h) refl

blocks-back : (m : Model) (type : ℕ → Option ℕ) (invariants : ℕ) → AllByRecursion FitsBlock m.blocks → blocks_hold type invariants m.splits m.blocks ≡ true → blocks_in type invariants m.splits (tree_of_version_1 m) ≡ Ok m.blocks
unfolding blocks_in part_in tree_of_version_1
blocks-back m type invariants fit h = rw (list-back block_in block_data FitsBlock block-back m.blocks fit, h) refl

former-tree-is-read : (m : Model) → PassesRules m → IsOfVersion1 m → model_in One (tree_of_version_1 m) ≡ Ok m
unfolding model_in parts_in
former-tree-is-read m h first =
    let fit = fits m h in
    rw (
      head-back m,
      types-back m (narrow VERSION_1_TYPES m.types h.types first.types),
      kinds-back m first.kinds,
      partitions-back m (length m.types) fit.partitions h.partitions,
      edges-back m (type_of m.partitions) fit.edges h.edges,
      invariants-back m (length m.types) (length m.partitions) fit.invariants h.invariants,
      merges-back m fit.merges h.merges,
      splits-back m (length m.invariants) fit.splits h.splits,
      blocks-back m (type_of m.partitions) (length m.invariants) fit.blocks h.blocks,
    ) refl

-- bytes of that value are read as this model
pub former-trees-are-read : (bytes : List ℕ) (m : Model) → length bytes ≤ VERSION_1_BYTES → value_of bytes ≡ Some (tree_of_version_1 m) → PassesRules m → IsOfVersion1 m → reads_version_1 bytes ≡ Ok m
unfolding reads_as
former-trees-are-read bytes m short value h first = rw (le-ltb VERSION_1_BYTES (length bytes) short, value) (former-tree-is-read m h first)
