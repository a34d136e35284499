-- A model that is read keeps the seven rules.
use Rattle.std.proofs.Common.{◌≡◌, ◌≤◌, ℕ, Bool, true, false, cond, List, length, Option, Result, Ok, Err, nat_lt, refl, sym, subst}
use Rattle.serde_json.specs.Data.{Data}
use Rattle.limits.specs.declared.TheConstants.{MAX_TYPES, VERSION_1_TYPES}
use Rattle.invariants.specs.declared.Kinds.{Kinds}
use Rattle.invariants.specs.declared.Kinds.TheVariants.{Three}
use Rattle.invariants.specs.declared.records.Partition.{Partition}
use Rattle.invariants.specs.declared.records.Edge.{Edge}
use Rattle.invariants.specs.declared.records.Listed.{Listed}
use Rattle.invariants.specs.declared.records.Merge.{Merge}
use Rattle.invariants.specs.declared.records.Split.{Split}
use Rattle.invariants.specs.declared.records.Block.{Block}
use Rattle.invariants.specs.declared.records.Model.{Model}
use Rattle.serde_json.specs.Find.{as_str}
use Rattle.std.specs.Prelude.{codes}
use Rattle.model_shape.specs.Shapes.{IsOfVersion1}
use Rattle.model_file.specs.declared.version.Version.{Version}
use Rattle.model_file.specs.declared.version.Version.TheVariants.{One}
use Rattle.model_file.specs.Versions.{max_bytes, max_types}
use Rattle.model_file.specs.declared.refusal.Field.{Field}
use Rattle.model_file.specs.declared.refusal.Field.TheVariants.{Types, Partitions, Edges, Invariants, Merges, Splits, Blocks}
use Rattle.model_file.specs.declared.refusal.FileError.{FileError}
use Rattle.model_file.specs.declared.refusal.FileError.TheVariants.{TooLong}
use Rattle.model_file.specs.Rules.{types_hold, partitions_hold, type_of, edges_hold, invariants_hold, merges_hold, splits_hold, blocks_hold, PassesRules}
use Rattle.model_file.specs.Entries.{partition_in, edge_in, listed_in, merge_in, split_in, block_in}
use Rattle.model_file.specs.Reading.{◌>>=◌, tested, part_in, head_in, types_in, kinds_in, partitions_in, edges_in, invariants_in, merges_in, splits_in, blocks_in, parts_in, model_in, or_not_json, value_of, reads_as}
use Rattle.model_file.proofs.Bounds.{few-types, types-within, max_types-within}

abbrev done : {A : Type 0} → A → Result A FileError
done x = Ok x

-- two results that are the same have the same value
pub ok-is : {A : Type 0} (x y : A) → done x ≡ done y → x ≡ y
ok-is x y e = cc

-- the value of a step that was not refused
pub bind-ok : {A B : Type 0} (r : Result A FileError) (f : A → Result B FileError) (y : B) → (r >>= f) ≡ Ok y → (x : A) × (r ≡ Ok x) × (f x ≡ Ok y)
bind-ok (Ok x) f y e = (x, refl, e)
bind-ok (Err d) f y e = absurd cc

-- a test that was passed
pub tested-ok : {A : Type 0} (field : Field) (b : Bool) (x y : A) → tested field b x ≡ Ok y → (b ≡ true) × (x ≡ y)
tested-ok field true x y e = (refl, ok-is x y e)
tested-ok field false x y e = absurd cc

-- what passed the rule of its part
pub rule-of : {A : Type 0} (field : Field) (rule : A → Bool) (r : Result A FileError) (y : A) → (r >>= λ x. tested field (rule x) x) ≡ Ok y → rule y ≡ true
rule-of field rule r y e =
    let b = bind-ok r (λ x. tested field (rule x) x) y e in
    let t = tested-ok field (rule b.0) b.0 y b.2 in
    subst (λ x. rule x ≡ true) t.1 t.0

-- types that are read pass their rule
pub types-hold : (version : Version) (d : Data) (ts : List (List ℕ)) → types_in version d ≡ Ok ts → types_hold (max_types version) ts ≡ true
unfolding types_in
types-hold version d ts e = rule-of Types (types_hold (max_types version)) (part_in as_str (codes "types") Types d) ts e

-- types that are read are no more than a log may have
pub types-few : (version : Version) (d : Data) (ts : List (List ℕ)) → types_in version d ≡ Ok ts → types_hold MAX_TYPES ts ≡ true
types-few version d ts e = types-within (max_types version) MAX_TYPES ts (max_types-within version) (types-hold version d ts e)

-- partitions that are read pass their rule
pub partitions-hold : (types : ℕ) (d : Data) (ps : List Partition) → partitions_in types d ≡ Ok ps → partitions_hold types ps ≡ true
unfolding partitions_in
partitions-hold types d ps e = rule-of Partitions (partitions_hold types) (part_in partition_in (codes "partitions") Partitions d) ps e

edges-hold : (type : ℕ → Option ℕ) (d : Data) (es : List Edge) → edges_in type d ≡ Ok es → edges_hold type es ≡ true
unfolding edges_in
edges-hold type d es e = rule-of Edges (edges_hold type) (part_in edge_in (codes "edges") Edges d) es e

invariants-hold : (kinds : Kinds) (types partitions : ℕ) (d : Data) (ls : List Listed) → invariants_in kinds types partitions d ≡ Ok ls → invariants_hold kinds types partitions ls ≡ true
unfolding invariants_in
invariants-hold kinds types partitions d ls e = rule-of Invariants (invariants_hold kinds types partitions) (part_in listed_in (codes "invariants") Invariants d) ls e

merges-hold : (d : Data) (ms : List Merge) → merges_in d ≡ Ok ms → merges_hold ms ≡ true
unfolding merges_in
merges-hold d ms e = rule-of Merges merges_hold (part_in merge_in (codes "merges") Merges d) ms e

splits-hold : (invariants : ℕ) (d : Data) (ss : List Split) → splits_in invariants d ≡ Ok ss → splits_hold invariants ss ≡ true
unfolding splits_in
splits-hold invariants d ss e = rule-of Splits (splits_hold invariants) (part_in split_in (codes "splits") Splits d) ss e

blocks-hold : (type : ℕ → Option ℕ) (invariants : ℕ) (ss : List Split) (d : Data) (bs : List Block) → blocks_in type invariants ss d ≡ Ok bs → blocks_hold type invariants ss bs ≡ true
unfolding blocks_in
blocks-hold type invariants ss d bs e = rule-of Blocks (blocks_hold type invariants ss) (part_in block_in (codes "blocks") Blocks d) bs e

-- a model that is read from a value passes the rules
pub model-passes : (version : Version) (d : Data) (m : Model) → model_in version d ≡ Ok m → PassesRules m
unfolding model_in parts_in
model-passes version d m e =
    let h = bind-ok (head_in version d) _ m e in
    let ts = bind-ok (types_in version d) _ m h.2 in
    let kinds = bind-ok (kinds_in version d) _ m ts.2 in
    let ps = bind-ok (partitions_in (length ts.0) d) _ m kinds.2 in
    let es = bind-ok (edges_in (type_of ps.0) d) _ m ps.2 in
    let ls = bind-ok (invariants_in kinds.0 (length ts.0) (length ps.0) d) _ m es.2 in
    let ms = bind-ok (merges_in d) _ m ls.2 in
    let ss = bind-ok (splits_in (length ls.0) d) _ m ms.2 in
    let bs = bind-ok (blocks_in (type_of ps.0) (length ls.0) ss.0 d) _ m ss.2 in
    let made : Model = record { types = ts.0; kinds = kinds.0; partitions = ps.0; edges = es.0; invariants = ls.0; splits = ss.0; merges = ms.0; blocks = bs.0 } in
    let shaped : PassesRules made = record {
      types = types-few version d ts.0 ts.1;
      partitions = partitions-hold (length ts.0) d ps.0 ps.1;
      edges = edges-hold (type_of ps.0) d es.0 es.1;
      invariants = invariants-hold kinds.0 (length ts.0) (length ps.0) d ls.0 ls.1;
      merges = merges-hold d ms.0 ms.1;
      splits = splits-hold (length ls.0) d ss.0 ss.1;
      blocks = blocks-hold (type_of ps.0) (length ls.0) ss.0 d bs.0 bs.1;
    } in
    subst PassesRules (ok-is made m bs.2) shaped

three-kinds : (d : Data) (kinds : Kinds) → kinds_in One d ≡ Ok kinds → kinds ≡ Three
unfolding kinds_in
three-kinds d kinds e = sym (ok-is Three kinds e)

-- a model that is read from a value of version 1 is of version 1
pub model-of-version-1 : (d : Data) (m : Model) → model_in One d ≡ Ok m → IsOfVersion1 m
unfolding model_in parts_in
model-of-version-1 d m e =
    let h = bind-ok (head_in One d) _ m e in
    let ts = bind-ok (types_in One d) _ m h.2 in
    let kinds = bind-ok (kinds_in One d) _ m ts.2 in
    let ps = bind-ok (partitions_in (length ts.0) d) _ m kinds.2 in
    let es = bind-ok (edges_in (type_of ps.0) d) _ m ps.2 in
    let ls = bind-ok (invariants_in kinds.0 (length ts.0) (length ps.0) d) _ m es.2 in
    let ms = bind-ok (merges_in d) _ m ls.2 in
    let ss = bind-ok (splits_in (length ls.0) d) _ m ms.2 in
    let bs = bind-ok (blocks_in (type_of ps.0) (length ls.0) ss.0 d) _ m ss.2 in
    let made : Model = record { types = ts.0; kinds = kinds.0; partitions = ps.0; edges = es.0; invariants = ls.0; splits = ss.0; merges = ms.0; blocks = bs.0 } in
    let few : length ts.0 ≤ VERSION_1_TYPES = few-types VERSION_1_TYPES ts.0 (types-hold One d ts.0 ts.1) in
    let first : IsOfVersion1 made = record { kinds = three-kinds d kinds.0 kinds.1; types = few } in
    subst IsOfVersion1 (ok-is made m bs.2) first

-- a model that comes past the test of the length comes without it
pub too-long : (b : Bool) (r : Result Model FileError) (m : Model) → cond b (Err TooLong) r ≡ Ok m → r ≡ Ok m
too-long true r m e = absurd cc
too-long false r m e = e

-- a model that is read from bytes is read from their value
pub read-value : (version : Version) (bytes : List ℕ) (m : Model) → reads_as version bytes ≡ Ok m → (d : Data) × (or_not_json (value_of bytes) ≡ Ok d) × (model_in version d ≡ Ok m)
unfolding reads_as
read-value version bytes m e =
    bind-ok (or_not_json (value_of bytes)) (model_in version) m
    (too-long (nat_lt (max_bytes version) (length bytes)) (or_not_json (value_of bytes) >>= model_in version) m e)

-- and it passes the rules
pub read-passes : (version : Version) (bytes : List ℕ) (m : Model) → reads_as version bytes ≡ Ok m → PassesRules m
read-passes version bytes m e = let d = read-value version bytes m e in model-passes version d.0 m d.2

-- from bytes of version 1 it is of version 1
pub read-of-version-1 : (bytes : List ℕ) (m : Model) → reads_as One bytes ≡ Ok m → IsOfVersion1 m
read-of-version-1 bytes m e = let d = read-value One bytes m e in model-of-version-1 d.0 m d.2
