-- The object that a model is read from.
use Rattle.std.proofs.Common.{◌≡◌, ℕ, ◌==◌, Bool, true, false, cond, ◌||◌, List, [], ◌∷◌, map, length, Option, Some, None, Result, Ok, Err, bytes_eq, refl, sym, ap, subst, ◌∙◌, inl, inr, Ordering, Equal, is_eq}
use Rattle.std.specs.Prelude.{codes}
use Rattle.std.specs.List.{list_any, AllByRecursion}
use Rattle.std.specs.Ordering.{nat_cmp, match_ordering}
use Rattle.std.specs.Cmp.Lexicographic.{slice_cmp}
use Rattle.std.proofs.lemmas.Bool.{and_parts, eqb-true, cases_Bool, false≢true}
use Rattle.std.proofs.lemmas.Slice.Eq.{bytes_eq-Decides}
use Rattle.std.proofs.lemmas.Map.Text.{is_eq-slice_cmp}
use Rattle.serde_json.specs.Data.{Num, unsigned, Data, number, string, object, Members, no_members, member}
use Rattle.serde_json.specs.Find.{get, get_member, as_str, as_number, as_u64, as_object}
use Rattle.invariants.specs.declared.Kinds.{Kinds}
use Rattle.invariants.specs.declared.records.Partition.{Partition}
use Rattle.invariants.specs.declared.records.Edge.{Edge}
use Rattle.invariants.specs.declared.records.Listed.{Listed}
use Rattle.invariants.specs.declared.records.Merge.{Merge}
use Rattle.invariants.specs.declared.records.Split.{Split}
use Rattle.invariants.specs.declared.records.Block.{Block}
use Rattle.invariants.specs.declared.records.Model.{Model}
use Rattle.std.specs.Option.{option_and_then}
use Rattle.model_file.specs.declared.version.Version.{Version}
use Rattle.model_file.specs.declared.version.Version.TheVariants.{One, Two}
use Rattle.model_file.specs.Versions.{number_of, max_types, keys}
use Rattle.model_file.specs.declared.refusal.Field.{Field}
use Rattle.model_file.specs.declared.refusal.Field.TheVariants.{Root, Extra, Types, Kinds as KindsField, Partitions, Edges, Invariants, Merges, Splits, Blocks}
use Rattle.model_file.specs.declared.refusal.FileError.{FileError}
use Rattle.model_file.specs.Rules.{types_hold, partitions_hold, type_of, edges_hold, invariants_hold, merges_hold, splits_hold, blocks_hold}
use Rattle.model_file.specs.Tree.{number_data, array_of, block_data, edge_data, listed_data, kinds_data, merge_data, partition_data, split_data, members_as}
use Rattle.model_file.specs.Entries.{list_in, kinds_named, block_in, edge_in, listed_in, merge_in, partition_in, split_in}
use Rattle.model_file.specs.Reading.{◌>>=◌, or_shape, tested, root_in, if_of, version_in, is_key, has_no_extra, keys_in, head_in, part_in, types_in, kinds_in, partitions_in, edges_in, invariants_in, merges_in, splits_in, blocks_in, parts_in, model_in, or_not_json, value_of}
use Rattle.model_file.specs.Laws.{ReadIsTree, Version1IsTree}
use Rattle.model_file.proofs.Shapes.{bind-ok, ok-is, tested-ok, read-value}
use Rattle.model_file.proofs.Forth.{bind-some, list-forth, text-forth, kinds-forth, block-forth, edge-forth, listed-forth, merge-forth, partition-forth, split-forth}

-- ---- the parts

shape-ok : {A : Type 0} (field : Field) (o : Option A) (x : A) → or_shape field o ≡ Ok x → o ≡ Some x
shape-ok field None x e = absurd cc
shape-ok field (Some y) x e = ap Some (ok-is y x e)

passed : {A : Type 0} (field : Field) (rule : A → Bool) (r : Result A FileError) (y : A) → (r >>= λ x. tested field (rule x) x) ≡ Ok y → r ≡ Ok y
passed field rule r y e =
    let b = bind-ok r (λ x. tested field (rule x) x) y e in
    let t = tested-ok field (rule b.0) b.0 y b.2 in
    b.1 ∙ ap Ok t.1

part-forth : {A : Type 0} (f : Data → Option A) (g : A → Data) → ((d : Data) (a : A) → f d ≡ Some a → d ≡ g a) → (key : List ℕ) (field : Field) (d : Data) (xs : List A) → part_in f key field d ≡ Ok xs → get key d ≡ Some (array_of (map g xs))
unfolding part_in
part-forth f g forth key field d xs e =
    let read = shape-ok field (option_and_then (list_in f) (get key d)) xs e in
    let under = bind-some (get key d) (list_in f) xs read in
    under.1 ∙ ap Some (list-forth f g forth under.0 xs under.2)

types-under : (version : Version) (d : Data) (ts : List (List ℕ)) → types_in version d ≡ Ok ts → get (codes "types") d ≡ Some (array_of (map string ts))
unfolding types_in
types-under version d ts e = part-forth as_str string text-forth (codes "types") Types d ts (passed Types (types_hold (max_types version)) (part_in as_str (codes "types") Types d) ts e)

kinds-under : (d : Data) (kinds : Kinds) → kinds_in Two d ≡ Ok kinds → get (codes "kinds") d ≡ Some (kinds_data kinds)
unfolding kinds_in
kinds-under d kinds e =
    let read = shape-ok KindsField (option_and_then kinds_named (get (codes "kinds") d)) kinds e in
    let under = bind-some (get (codes "kinds") d) kinds_named kinds read in
    under.1 ∙ ap Some (kinds-forth under.0 kinds under.2)

blocks-under : (type : ℕ → Option ℕ) (invariants : ℕ) (ss : List Split) (d : Data) (xs : List Block) → blocks_in type invariants ss d ≡ Ok xs → get (codes "blocks") d ≡ Some (array_of (map block_data xs))
unfolding blocks_in
blocks-under type invariants ss d xs e = part-forth block_in block_data block-forth (codes "blocks") Blocks d xs (passed Blocks (blocks_hold type invariants ss) (part_in block_in (codes "blocks") Blocks d) xs e)

edges-under : (type : ℕ → Option ℕ) (d : Data) (xs : List Edge) → edges_in type d ≡ Ok xs → get (codes "edges") d ≡ Some (array_of (map edge_data xs))
unfolding edges_in
edges-under type d xs e = part-forth edge_in edge_data edge-forth (codes "edges") Edges d xs (passed Edges (edges_hold type) (part_in edge_in (codes "edges") Edges d) xs e)

invariants-under : (kinds : Kinds) (types partitions : ℕ) (d : Data) (xs : List Listed) → invariants_in kinds types partitions d ≡ Ok xs → get (codes "invariants") d ≡ Some (array_of (map listed_data xs))
unfolding invariants_in
invariants-under kinds types partitions d xs e = part-forth listed_in listed_data listed-forth (codes "invariants") Invariants d xs (passed Invariants (invariants_hold kinds types partitions) (part_in listed_in (codes "invariants") Invariants d) xs e)

merges-under : (d : Data) (xs : List Merge) → merges_in d ≡ Ok xs → get (codes "merges") d ≡ Some (array_of (map merge_data xs))
unfolding merges_in
merges-under d xs e = part-forth merge_in merge_data merge-forth (codes "merges") Merges d xs (passed Merges (merges_hold) (part_in merge_in (codes "merges") Merges d) xs e)

partitions-under : (types : ℕ) (d : Data) (xs : List Partition) → partitions_in types d ≡ Ok xs → get (codes "partitions") d ≡ Some (array_of (map partition_data xs))
unfolding partitions_in
partitions-under types d xs e = part-forth partition_in partition_data partition-forth (codes "partitions") Partitions d xs (passed Partitions (partitions_hold types) (part_in partition_in (codes "partitions") Partitions d) xs e)

splits-under : (invariants : ℕ) (d : Data) (xs : List Split) → splits_in invariants d ≡ Ok xs → get (codes "splits") d ≡ Some (array_of (map split_data xs))
unfolding splits_in
splits-under invariants d xs e = part-forth split_in split_data split-forth (codes "splits") Splits d xs (passed Splits (splits_hold invariants) (part_in split_in (codes "splits") Splits d) xs e)

-- ---- the head

object-forth : (d : Data) (ms : Members) → as_object d ≡ Some ms → d ≡ object ms
object-forth (object ns) ms e = let same : ns ≡ ms = cc in ap object same
object-forth _ ms e = absurd cc

root-forth : (d : Data) (ms : Members) → root_in d ≡ Ok ms → d ≡ object ms
unfolding root_in
root-forth d ms e = object-forth d ms (shape-ok Root (as_object d) ms e)

abbrev nothing : Result (Unit {0}) FileError
nothing = Ok tt

number-at : (version : Version) (b : Bool) (n : ℕ) (f : FileError) → (n == number_of version) ≡ b → cond b nothing (Err f) ≡ nothing → n ≡ number_of version
number-at version true n f is e = eqb-true n (number_of version) is
number-at version false n f is e = absurd cc

version-is : (version : Version) (o : Option ℕ) → if_of version o ≡ Ok tt → o ≡ Some (number_of version)
version-is version None e = absurd cc
version-is version (Some n) e = ap Some (number-at version (n == number_of version) n _ refl e)

unsigned-is : (x : Num) (n : ℕ) → as_u64 x ≡ Some n → x ≡ unsigned n
unsigned-is (unsigned k) n e = let same : k ≡ n = cc in ap unsigned same
unsigned-is _ n e = absurd cc

number-is : (d : Data) (x : Num) → as_number d ≡ Some x → d ≡ number x
number-is (number y) x e = let same : y ≡ x = cc in ap number same
number-is _ x e = absurd cc

version-under : (version : Version) (d : Data) → version_in version d ≡ Ok tt → get (codes "version") d ≡ Some (number_data (number_of version))
unfolding version_in
version-under version d e =
    let is = version-is version (option_and_then as_u64 (option_and_then as_number (get (codes "version") d))) e in
    let x = bind-some (option_and_then as_number (get (codes "version") d)) as_u64 (number_of version) is in
    let v = bind-some (get (codes "version") d) as_number x.0 x.1 in
    v.1 ∙ ap Some (number-is v.0 x.0 v.2 ∙ ap number (unsigned-is x.0 (number_of version) x.2))

keys-forth : (version : Version) (ms : Members) → keys_in version ms ≡ Ok tt → has_no_extra version ms ≡ true
unfolding keys_in
keys-forth version ms e = (tested-ok Extra (has_no_extra version ms) tt tt e).0

-- ---- the other keys

other-at : (o : Ordering) (found : Option Data) (d : Data) → is_eq o ≡ false → found ≡ None → match_ordering o found (Some d) found ≡ None
other-at Equal found d e none = absurd (false≢true (sym e))
other-at _ found d e none = none

differs : (version : Version) (key k : List ℕ) (b : Bool) → bytes_eq key k ≡ b → is_key version key ≡ false → is_key version k ≡ true → b ≡ false
differs version key k true same other here = absurd (false≢true (sym other ∙ ap (is_key version) ((bytes_eq-Decides key k).0 same) ∙ here))
differs version key k false same other here = refl

-- a key that is none of the version's stands in no such object
no-other : (version : Version) (key : List ℕ) (ms : Members) → is_key version key ≡ false → has_no_extra version ms ≡ true → get_member key ms ≡ None
no-other version key no_members other h = refl
no-other version key (member k d ms) other h =
    let both = and_parts (is_key version k) (has_no_extra version ms) h in
    other-at (slice_cmp nat_cmp key k) (get_member key ms) d (is_eq-slice_cmp key k ∙ differs version key k (bytes_eq key k) refl other both.0) (no-other version key ms other both.1)

own-keys : (version : Version) (m : Model) → has_no_extra version (members_as version m) ≡ true
unfolding is_key
own-keys One m = refl
own-keys Two m = refl

abbrev Same : Version → Members → Model → List ℕ → Type 0
Same version ms m key = get_member key ms ≡ get_member key (members_as version m)

-- one of some keys, or none of them
among : (P : List ℕ → Type 0) (key : List ℕ) (ks : List (List ℕ)) → AllByRecursion P ks → list_any (bytes_eq key) ks ≡ true → P key
among P key [] h e = absurd (false≢true e)
among P key (k ∷ ks) h e =
    elim (cases_Bool (bytes_eq key k)) [
      | inl here ↦ subst P (sym ((bytes_eq-Decides key k).0 here)) h.0
      | inr other ↦ among P key ks h.1 (ap (λ b. b || list_any (bytes_eq key) ks) (sym other) ∙ e)
    ]

same-keys : (version : Version) (ms : Members) (m : Model) → has_no_extra version ms ≡ true → AllByRecursion (Same version ms m) (keys version) → (key : List ℕ) → Same version ms m key
unfolding is_key
same-keys version ms m h each key =
    elim (cases_Bool (list_any (bytes_eq key) (keys version))) [
      | inl here ↦ among (Same version ms m) key (keys version) each here
      | inr other ↦ no-other version key ms other h ∙ sym (no-other version key (members_as version m) other (own-keys version m))
    ]

-- what stands under the eight keys of either version
record Under (version : Version) (ms : Members) (m : Model) : Type 0 where
  blocks : get_member (codes "blocks") ms ≡ Some (array_of (map block_data m.blocks))
  edges : get_member (codes "edges") ms ≡ Some (array_of (map edge_data m.edges))
  invariants : get_member (codes "invariants") ms ≡ Some (array_of (map listed_data m.invariants))
  merges : get_member (codes "merges") ms ≡ Some (array_of (map merge_data m.merges))
  partitions : get_member (codes "partitions") ms ≡ Some (array_of (map partition_data m.partitions))
  splits : get_member (codes "splits") ms ≡ Some (array_of (map split_data m.splits))
  types : get_member (codes "types") ms ≡ Some (array_of (map string m.types))
  version_number : get_member (codes "version") ms ≡ Some (number_data (number_of version))

-- the keys of a version each have the value that the model has there, with the kinds where these are named
each-key : (version : Version) (ms : Members) (m : Model) → Under version ms m → kinds_in version (object ms) ≡ Ok m.kinds → AllByRecursion (Same version ms m) (keys version)
each-key One ms m u kinds = (u.blocks, (u.edges, (u.invariants, (u.merges, (u.partitions, (u.splits, (u.types, (u.version_number, tt))))))))
each-key Two ms m u kinds = (kinds-under (object ms) m.kinds kinds, (u.blocks, (u.edges, (u.invariants, (u.merges, (u.partitions, (u.splits, (u.types, (u.version_number, tt)))))))))

-- a value that is read as a model is an object which has just the keys of the model's value, each with the same value
pub model-is-tree : (version : Version) (d : Data) (m : Model) → model_in version d ≡ Ok m → (ms : Members) × (d ≡ object ms) × ((key : List ℕ) → Same version ms m key)
unfolding model_in parts_in head_in
model-is-tree version d m e =
    let h = bind-ok (root_in d >>= λ ms. version_in version d >>= λ v. keys_in version ms) _ m e in
    let root = bind-ok (root_in d) _ h.0 h.1 in
    let number = bind-ok (version_in version d) _ h.0 root.2 in
    let ms = root.0 in
    let ts = bind-ok (types_in version d) _ m h.2 in
    let kinds = bind-ok (kinds_in version d) _ m ts.2 in
    let ps = bind-ok (partitions_in (length ts.0) d) _ m kinds.2 in
    let es = bind-ok (edges_in (type_of ps.0) d) _ m ps.2 in
    let ls = bind-ok (invariants_in kinds.0 (length ts.0) (length ps.0) d) _ m es.2 in
    let gs = bind-ok (merges_in d) _ m ls.2 in
    let ss = bind-ok (splits_in (length ls.0) d) _ m gs.2 in
    let bs = bind-ok (blocks_in (type_of ps.0) (length ls.0) ss.0 d) _ m ss.2 in
    let made : Model = record { types = ts.0; kinds = kinds.0; partitions = ps.0; edges = es.0; invariants = ls.0; splits = ss.0; merges = gs.0; blocks = bs.0 } in
    let is : d ≡ object ms = root-forth d ms root.1 in
    let under : (key : List ℕ) (v : Data) → get key d ≡ Some v → get_member key ms ≡ Some v = λ key v found. ap (get key) (sym is) ∙ found in
    let parts : Under version ms made = record {
      blocks = under (codes "blocks") _ (blocks-under (type_of ps.0) (length ls.0) ss.0 d bs.0 bs.1);
      edges = under (codes "edges") _ (edges-under (type_of ps.0) d es.0 es.1);
      invariants = under (codes "invariants") _ (invariants-under kinds.0 (length ts.0) (length ps.0) d ls.0 ls.1);
      merges = under (codes "merges") _ (merges-under d gs.0 gs.1);
      partitions = under (codes "partitions") _ (partitions-under (length ts.0) d ps.0 ps.1);
      splits = under (codes "splits") _ (splits-under (length ls.0) d ss.0 ss.1);
      types = under (codes "types") _ (types-under version d ts.0 ts.1);
      version_number = under (codes "version") _ (version-under version d number.1);
    } in
    let each : AllByRecursion (Same version ms made) (keys version) = each-key version ms made parts (ap (kinds_in version) (sym is) ∙ kinds.1) in
    let same : made ≡ m = ok-is made m bs.2 in
    (ms, is, subst (λ n. (key : List ℕ) → Same version ms n key) same (same-keys version ms made (keys-forth version ms number.2) each))

value-is : (o : Option Data) (d : Data) → or_not_json o ≡ Ok d → o ≡ Some d
value-is None d e = absurd cc
value-is (Some x) d e = ap Some (ok-is x d e)

-- so is the value of the bytes that are read as a model
pub read-is-tree : ReadIsTree
read-is-tree bytes m e =
    let d = read-value Two bytes m e in
    let tree = model-is-tree Two d.0 m d.2 in
    (tree.0, value-is (value_of bytes) d.0 d.1 ∙ ap Some tree.1, tree.2)

-- the same for a file of version 1
pub version-1-is-tree : Version1IsTree
version-1-is-tree bytes m e =
    let d = read-value One bytes m e in
    let tree = model-is-tree One d.0 m d.2 in
    (tree.0, value-is (value_of bytes) d.0 d.1 ∙ ap Some tree.1, tree.2)
