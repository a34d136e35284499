-- A file of version 1 is never refused for its kinds.
use Rattle.std.proofs.Common.{◌≡◌, ℕ, ◌==◌, Bool, true, false, cond, List, length, Option, Some, None, Result, Ok, Err, nat_lt, ap}
use Rattle.std.specs.Prelude.{codes}
use Rattle.std.specs.Option.{option_and_then}
use Rattle.serde_json.specs.Data.{Data}
use Rattle.serde_json.specs.Find.{get, as_str, as_number, as_u64, as_object}
use Rattle.invariants.specs.declared.Kinds.{Kinds}
use Rattle.invariants.specs.declared.records.Split.{Split}
use Rattle.invariants.specs.declared.records.Model.{Model}
use Rattle.limits.specs.declared.TheConstants.{VERSION_1_BYTES}
use Rattle.model_file.specs.declared.version.Version.TheVariants.{One}
use Rattle.model_file.specs.Versions.{max_types}
use Rattle.model_file.specs.declared.refusal.Field.{Field}
use Rattle.model_file.specs.declared.refusal.Field.TheVariants.{Root, Version as VersionField, Extra, Types, Kinds as KindsField, Partitions, Edges, Invariants, Merges, Splits, Blocks}
use Rattle.model_file.specs.declared.refusal.FileError.{FileError}
use Rattle.model_file.specs.declared.refusal.FileError.TheVariants as refused
use Rattle.model_file.specs.Rules.{types_hold, partitions_hold, type_of, edges_hold, invariants_hold, merges_hold, splits_hold, blocks_hold}
use Rattle.model_file.specs.Entries.{list_in, partition_in, edge_in, listed_in, merge_in, split_in, block_in}
use Rattle.model_file.specs.Reading.{◌>>=◌, or_shape, tested, root_in, if_of, version_in, has_no_extra, keys_in, head_in, part_in, types_in, kinds_in, partitions_in, edges_in, invariants_in, merges_in, splits_in, blocks_in, parts_in, model_in, or_not_json, value_of, reads_as}
use Rattle.model_file.specs.Laws.{Version1NamesNoKinds}

-- it is not the refusal of the kinds
abbrev NotKinds : {A : Type 0} → Result A FileError → Type 0
NotKinds r = r ≡ Err (refused.Shape KindsField) → ⊥

abbrev refusal : {A : Type 0} → FileError → Result A FileError
refusal e = Err e

err-is : {A : Type 0} (d e : FileError) → refusal {A = A} d ≡ refusal e → d ≡ e
err-is d e same = cc

field-is : (f g : Field) → refused.Shape f ≡ refused.Shape g → f ≡ g
field-is f g same = cc

not-ok : {A : Type 0} (x : A) → NotKinds (Ok x)
not-ok x e = absurd cc

-- a refusal of another part
not-field : {A : Type 0} (field : Field) → (field ≡ KindsField → ⊥) → NotKinds (refusal {A = A} (refused.Shape field))
not-field field other e = other (field-is field KindsField (err-is (refused.Shape field) (refused.Shape KindsField) e))

not-bind : {A B : Type 0} (r : Result A FileError) (f : A → Result B FileError) → NotKinds r → ((x : A) → NotKinds (f x)) → NotKinds (r >>= f)
not-bind (Ok x) f here later e = later x e
not-bind (Err d) f here later e = here (ap Err (err-is d (refused.Shape KindsField) e))

not-shape : {A : Type 0} (field : Field) (o : Option A) → (field ≡ KindsField → ⊥) → NotKinds (or_shape field o)
not-shape field None other e = not-field field other e
not-shape field (Some x) other e = not-ok x e

not-tested : {A : Type 0} (field : Field) (b : Bool) (x : A) → (field ≡ KindsField → ⊥) → NotKinds (tested field b x)
not-tested field true x other e = not-ok x e
not-tested field false x other e = not-field field other e

-- a part that is read and tested
not-part : {A : Type 0} (f : Data → Option A) (key : List ℕ) (field : Field) (d : Data) (rule : List A → Bool) → (field ≡ KindsField → ⊥) → NotKinds (part_in f key field d >>= λ xs. tested field (rule xs) xs)
unfolding part_in
not-part f key field d rule other =
    not-bind (or_shape field (option_and_then (list_in f) (get key d))) (λ xs. tested field (rule xs) xs) (not-shape field (option_and_then (list_in f) (get key d)) other)
    (λ xs. not-tested field (rule xs) xs other)

abbrev nothing : Result (Unit {0}) FileError
nothing = Ok tt

not-number : (b : Bool) (n : ℕ) → NotKinds (cond b nothing (Err (refused.Version n)))
not-number true n e = absurd cc
not-number false n e = absurd cc

not-version : (o : Option ℕ) → NotKinds (if_of One o)
not-version None e = not-field VersionField (λ same. absurd cc) e
not-version (Some n) e = not-number (n == 1) n e

not-head : (d : Data) → NotKinds (head_in One d)
unfolding head_in root_in version_in keys_in
not-head d =
    not-bind (or_shape Root (as_object d)) (λ ms. version_in One d >>= λ v. keys_in One ms) (not-shape Root (as_object d) (λ same. absurd cc))
    (λ ms. not-bind (version_in One d) (λ v. keys_in One ms) (not-version (option_and_then as_u64 (option_and_then as_number (get (codes "version") d))))
    (λ v. not-tested Extra (has_no_extra One ms) tt (λ same. absurd cc)))

not-types : (d : Data) → NotKinds (types_in One d)
unfolding types_in
not-types d = not-part as_str (codes "types") Types d (types_hold (max_types One)) (λ same. absurd cc)

not-kinds : (d : Data) → NotKinds (kinds_in One d)
unfolding kinds_in
not-kinds d e = absurd cc

not-partitions : (types : ℕ) (d : Data) → NotKinds (partitions_in types d)
unfolding partitions_in
not-partitions types d = not-part partition_in (codes "partitions") Partitions d (partitions_hold types) (λ same. absurd cc)

not-edges : (type : ℕ → Option ℕ) (d : Data) → NotKinds (edges_in type d)
unfolding edges_in
not-edges type d = not-part edge_in (codes "edges") Edges d (edges_hold type) (λ same. absurd cc)

not-invariants : (kinds : Kinds) (types partitions : ℕ) (d : Data) → NotKinds (invariants_in kinds types partitions d)
unfolding invariants_in
not-invariants kinds types partitions d = not-part listed_in (codes "invariants") Invariants d (invariants_hold kinds types partitions) (λ same. absurd cc)

not-merges : (d : Data) → NotKinds (merges_in d)
unfolding merges_in
not-merges d = not-part merge_in (codes "merges") Merges d merges_hold (λ same. absurd cc)

not-splits : (invariants : ℕ) (d : Data) → NotKinds (splits_in invariants d)
unfolding splits_in
not-splits invariants d = not-part split_in (codes "splits") Splits d (splits_hold invariants) (λ same. absurd cc)

not-blocks : (type : ℕ → Option ℕ) (invariants : ℕ) (ss : List Split) (d : Data) → NotKinds (blocks_in type invariants ss d)
unfolding blocks_in
not-blocks type invariants ss d = not-part block_in (codes "blocks") Blocks d (blocks_hold type invariants ss) (λ same. absurd cc)

not-model : (d : Data) → NotKinds (model_in One d)
unfolding model_in parts_in
not-model d =
    not-bind (head_in One d) _ (not-head d) (λ h.
    not-bind (types_in One d) _ (not-types d) (λ ts.
    not-bind (kinds_in One d) _ (not-kinds d) (λ kinds.
    not-bind (partitions_in (length ts) d) _ (not-partitions (length ts) d) (λ ps.
    not-bind (edges_in (type_of ps) d) _ (not-edges (type_of ps) d) (λ es.
    not-bind (invariants_in kinds (length ts) (length ps) d) _ (not-invariants kinds (length ts) (length ps) d) (λ ls.
    not-bind (merges_in d) _ (not-merges d) (λ ms.
    not-bind (splits_in (length ls) d) _ (not-splits (length ls) d) (λ ss.
    not-bind (blocks_in (type_of ps) (length ls) ss d) _ (not-blocks (type_of ps) (length ls) ss d) (λ bs. not-ok _)))))))))

not-value : (o : Option Data) → NotKinds (or_not_json o >>= model_in One)
not-value None e = absurd cc
not-value (Some d) e = not-model d e

not-bytes : (b : Bool) (r : Result Model FileError) → NotKinds r → NotKinds (cond b (refusal refused.TooLong) r)
not-bytes true r none e = absurd cc
not-bytes false r none e = none e

pub version-1-names-no-kinds : Version1NamesNoKinds
unfolding reads_as
version-1-names-no-kinds bytes e = not-bytes (nat_lt VERSION_1_BYTES (length bytes)) (or_not_json (value_of bytes) >>= model_in One) (not-value (value_of bytes)) e
