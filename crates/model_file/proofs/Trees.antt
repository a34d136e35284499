-- The value of a well-shaped model is read as that model, from the value and from its text.
use Rattle.std.proofs.Common.{◌≡◌, ℕ, ◌+◌, ◌^◌, ◌<◌, ◌≤◌, Bool, true, false, List, [], ◌∷◌, ◌++◌, map, length, All, IsUtf8, Option, Some, Ok, refl, ap, ◌∙◌, arith, le-ltb, lt-ltb}
use Rattle.std.specs.Prelude.{⊤, codes}
use Rattle.std.specs.List.{AllByRecursion}
use Rattle.std.proofs.lemmas.Str.{IsUtf8-append, is_utf8-from_IsUtf8}
use Rattle.std.proofs.lemmas.List.Elements.{recursion_from_All}
use Rattle.json.specs.Tree as tree
use Rattle.json.specs.Token.{Token}
use Rattle.json.specs.Print.{print, quoted}
use Rattle.serde_json.proofs.Texts.{print-outline}
use Rattle.json.proofs.Printed.Utf8.{IsUtf8-are_ascii, IsUtf8-quoted}
use Rattle.serde_json.specs.Data.{Data, string, Members, no_members, member}
use Rattle.serde_json.specs.Find.{as_str}
use Rattle.serde_json.specs.Read.{of_json}
use Rattle.serde_json.specs.View.{items_of}
use Rattle.serde_json.specs.Written.{outline, items_outline, comma_if, compact_text, members_text}
use Rattle.invariants.specs.declared.Kind.{Kind}
use Rattle.invariants.specs.declared.Kind.TheVariants.{AF, NF, AP, IB}
use Rattle.invariants.specs.declared.records.Model.{Model}
use Rattle.limits.specs.declared.TheConstants.{MAX_TYPES, MAX_MODEL_BYTES}
use Rattle.invariants.specs.Labels.{digit_of}
use Rattle.model_file.specs.declared.version.Version.TheVariants.{Two}
use Rattle.model_file.specs.Tree.{number_data, array_of, path_data, partition_data, edge_data, kind_text, kind_data, kinds_in_order, kinds_data, listed_data, merge_data, split_data, block_data, tree_of, file_text}
use Rattle.model_file.specs.Rules.{types_hold, partitions_hold, type_of, edges_hold, invariants_hold, merges_hold, splits_hold, blocks_hold, PassesRules}
use Rattle.model_file.specs.Entries.{partition_in, edge_in, listed_in, merge_in, split_in, block_in}
use Rattle.model_file.specs.Reading.{root_in, version_in, is_key, keys_in, head_in, part_in, types_in, kinds_in, partitions_in, edges_in, invariants_in, merges_in, splits_in, blocks_in, parts_in, model_in, value_of, reads_as, reads}
use Rattle.model_file.specs.Writing.{tokens_of}
use Rattle.model_file.proofs.Back.{list-back, FitsPartition, FitsEdge, FitsListed, FitsMerge, FitsSplit, FitsBlock, partition-back, edge-back, listed-back, merge-back, split-back, block-back, kinds-named}
use Rattle.model_file.proofs.Bounds.{few-types, fits-partitions, fits-edges, fits-merges, few-invariants, fits-invariants, fits-splits, fits-blocks}
use Rattle.model_file.proofs.Texts.{IsPlain, ArePlain, plain-back, plain-numbers, IsSpelled, AreSpelled, spelled-text, IsUtf8-comma, read-text}

-- the entries of a model fit their fields
pub record Fits (m : Model) : Type 0 where
  pub partitions : AllByRecursion FitsPartition m.partitions
  pub edges : AllByRecursion FitsEdge m.edges
  pub invariants : AllByRecursion FitsListed m.invariants
  pub merges : AllByRecursion FitsMerge m.merges
  pub splits : AllByRecursion FitsSplit m.splits
  pub blocks : AllByRecursion FitsBlock m.blocks

-- they do in a model that passes the rules
pub fits : (m : Model) → PassesRules m → Fits m
fits m h =
    let few = few-types MAX_TYPES m.types h.types in
    let listed = few-invariants m.kinds (length m.types) (length m.partitions) m.invariants few h.invariants in
    record {
      partitions = fits-partitions (length m.types) m.partitions few h.partitions;
      edges = fits-edges (length m.types) m.partitions m.edges h.partitions h.edges;
      invariants = fits-invariants m.kinds (length m.types) (length m.partitions) m.invariants few h.invariants;
      merges = fits-merges m.merges h.merges;
      splits = fits-splits (length m.invariants) m.splits listed h.splits;
      blocks = fits-blocks (length m.types) (length m.invariants) m.partitions m.splits m.blocks h.partitions listed h.blocks;
    }

-- ---- from the value

head-back : (m : Model) → head_in Two (tree_of m) ≡ Ok tt
unfolding head_in root_in version_in keys_in is_key tree_of
head-back m = refl

-- of each entry the same can be said, which is nothing
pub anything : {A : Type 0} (xs : List A) → AllByRecursion (λ _. ⊤) xs
anything [] = tt
anything (x ∷ xs) = (tt, anything xs)

types-back : (m : Model) → types_hold MAX_TYPES m.types ≡ true → types_in Two (tree_of m) ≡ Ok m.types
unfolding types_in part_in tree_of
types-back m h = rw (list-back as_str string (λ _. ⊤) (λ s _. refl) m.types (anything m.types), h) refl

kinds-back : (m : Model) → kinds_in Two (tree_of m) ≡ Ok m.kinds
unfolding kinds_in tree_of
kinds-back m = rw (kinds-named m.kinds) refl

partitions-back : (m : Model) (types : ℕ) → AllByRecursion FitsPartition m.partitions → partitions_hold types m.partitions ≡ true → partitions_in types (tree_of m) ≡ Ok m.partitions
unfolding partitions_in part_in tree_of
partitions-back m types fit h = rw (list-back partition_in partition_data FitsPartition partition-back m.partitions fit, h) refl

edges-back : (m : Model) (type : ℕ → Option ℕ) → AllByRecursion FitsEdge m.edges → edges_hold type m.edges ≡ true → edges_in type (tree_of m) ≡ Ok m.edges
unfolding edges_in part_in tree_of
edges-back m type fit h = rw (list-back edge_in edge_data FitsEdge edge-back m.edges fit, h) refl

invariants-back : (m : Model) (types partitions : ℕ) → AllByRecursion FitsListed m.invariants → invariants_hold m.kinds types partitions m.invariants ≡ true → invariants_in m.kinds types partitions (tree_of m) ≡ Ok m.invariants
unfolding invariants_in part_in tree_of
invariants-back m types partitions fit h = rw (list-back listed_in listed_data FitsListed listed-back m.invariants fit, h) refl

merges-back : (m : Model) → AllByRecursion FitsMerge m.merges → merges_hold m.merges ≡ true → merges_in (tree_of m) ≡ Ok m.merges
unfolding merges_in part_in tree_of
merges-back m fit h = rw (list-back merge_in merge_data FitsMerge merge-back m.merges fit, h) refl

splits-back : (m : Model) (invariants : ℕ) → AllByRecursion FitsSplit m.splits → splits_hold invariants m.splits ≡ true → splits_in invariants (tree_of m) ≡ Ok m.splits
unfolding splits_in part_in tree_of
splits-back m invariants fit h = rw (list-back split_in split_data FitsSplit split-back m.splits fit, h) refl

blocks-back : (m : Model) (type : ℕ → Option ℕ) (invariants : ℕ) → AllByRecursion FitsBlock m.blocks → blocks_hold type invariants m.splits m.blocks ≡ true → blocks_in type invariants m.splits (tree_of m) ≡ Ok m.blocks
unfolding blocks_in part_in tree_of
blocks-back m type invariants fit h = rw (list-back block_in block_data FitsBlock block-back m.blocks fit, h) refl

-- the value of a model that passes the rules is read as this model
pub tree-is-read : (m : Model) → PassesRules m → model_in Two (tree_of m) ≡ Ok m
unfolding model_in parts_in
tree-is-read m h =
    let fit = fits m h in
    rw (
      head-back m,
      types-back m h.types,
      kinds-back m,
      partitions-back m (length m.types) fit.partitions h.partitions,
      edges-back m (type_of m.partitions) fit.edges h.edges,
      invariants-back m (length m.types) (length m.partitions) fit.invariants h.invariants,
      merges-back m fit.merges h.merges,
      splits-back m (length m.invariants) fit.splits h.splits,
      blocks-back m (type_of m.partitions) (length m.invariants) fit.blocks h.blocks,
    ) refl

-- bytes of the value of a model that passes the rules are read as this model
pub trees-are-read : (bytes : List ℕ) (m : Model) → length bytes ≤ MAX_MODEL_BYTES → value_of bytes ≡ Some (tree_of m) → PassesRules m → reads bytes ≡ Ok m
unfolding reads_as
trees-are-read bytes m short value h = rw (le-ltb MAX_MODEL_BYTES (length bytes) short, value) (tree-is-read m h)

-- ---- from the text

plain-map : {A : Type 0} (g : A → Data) (P : A → Type 0) → ((x : A) → P x → IsPlain (g x)) → (xs : List A) → AllByRecursion P xs → ArePlain (items_of (map g xs))
plain-map g P plain [] h = tt
plain-map g P plain (x ∷ xs) h = (plain x h.0, plain-map g P plain xs h.1)

spelled-map : {A : Type 0} (g : A → Data) (P : A → Type 0) → ((x : A) → P x → IsSpelled (g x)) → (xs : List A) → AllByRecursion P xs → AreSpelled (items_of (map g xs))
spelled-map g P spelled [] h = tt
spelled-map g P spelled (x ∷ xs) h = (spelled x h.0, spelled-map g P spelled xs h.1)

depth-map : {A : Type 0} (g : A → Data) (n : ℕ) → ((x : A) → tree.depth (outline (g x)) ≤ n) → (xs : List A) → tree.items_depth (items_outline (items_of (map g xs))) ≤ n
depth-map g n low [] = omega arith
depth-map g n low (x ∷ xs) = omega (arith, low x, depth-map g n low xs)

path-plain : (path : List ℕ) → AllByRecursion (λ n. n < 2 ^ 32) path → IsPlain (path_data path)
path-plain path h = plain-map number_data (λ n. n < 2 ^ 32) (λ n small. omega arith) path h

path-spelled : (path : List ℕ) → AllByRecursion (λ n. n < 2 ^ 32) path → IsSpelled (path_data path)
path-spelled path h = spelled-map number_data (λ n. n < 2 ^ 32) (λ n small. omega arith) path h

path-depth : (path : List ℕ) → tree.items_depth (items_outline (items_of (map number_data path))) ≤ 0
path-depth path = depth-map number_data 0 (λ n. omega arith) path

-- the digits of labels are UTF-8
pub digits-ascii : (labels : List ℕ) → AllByRecursion (λ label. label ≤ 7) labels → IsUtf8 (map digit_of labels)
digits-ascii [] h = IsUtf8-are_ascii [] refl
digits-ascii (label ∷ labels) h =
    let small : 48 + label < 128 = omega (arith, h.0) in
    IsUtf8-append ((48 + label) ∷ []) (map digit_of labels) (IsUtf8-are_ascii ((48 + label) ∷ []) (rw (lt-ltb (48 + label) 128 small) refl)) (digits-ascii labels h.1)

kind-utf8 : (kind : Kind) → IsUtf8 (kind_text kind)
kind-utf8 AF = IsUtf8-are_ascii (codes "AF") refl
kind-utf8 NF = IsUtf8-are_ascii (codes "NF") refl
kind-utf8 AP = IsUtf8-are_ascii (codes "AP") refl
kind-utf8 IB = IsUtf8-are_ascii (codes "IB") refl

-- the values under the keys of a model
record AreValues (m : Model) : Type 0 where
  blocks : IsPlain (array_of (map block_data m.blocks))
  edges : IsPlain (array_of (map edge_data m.edges))
  invariants : IsPlain (array_of (map listed_data m.invariants))
  kinds : IsPlain (kinds_data m.kinds)
  merges : IsPlain (array_of (map merge_data m.merges))
  partitions : IsPlain (array_of (map partition_data m.partitions))
  splits : IsPlain (array_of (map split_data m.splits))
  types : IsPlain (array_of (map string m.types))

values : (m : Model) → Fits m → AreValues m
values m fit = record {
  blocks = plain-map block_data FitsBlock (λ b h. (omega (arith, h.p), (omega (arith, h.q), (omega (arith, h.inv), (path-plain b.path h.path, tt))))) m.blocks fit.blocks;
  edges = plain-map edge_data FitsEdge (λ e h. (omega (arith, h.from), (omega (arith, h.to), (omega (arith, h.count), tt)))) m.edges fit.edges;
  invariants = plain-map listed_data FitsListed (λ l h. (tt, (omega (arith, h.a), (omega (arith, h.b), (tt, tt))))) m.invariants fit.invariants;
  kinds = plain-map kind_data (λ _. ⊤) (λ k u. tt) (kinds_in_order m.kinds) (anything (kinds_in_order m.kinds));
  merges = plain-map merge_data FitsMerge (λ x h. (omega (arith, h.p), (omega (arith, h.q), tt))) m.merges fit.merges;
  partitions = plain-map partition_data FitsPartition (λ p h. (omega (arith, h.id), (omega (arith, h.typ), (omega (arith, h.count), tt)))) m.partitions fit.partitions;
  splits = plain-map split_data FitsSplit (λ s h. (omega (arith, h.inv), (omega (arith, h.place), (path-plain s.path h.path, tt)))) m.splits fit.splits;
  types = plain-map string (λ _. ⊤) (λ s u. tt) m.types (anything m.types);
}

-- the same, with the texts in them
record AreTexts (m : Model) : Type 0 where
  blocks : IsSpelled (array_of (map block_data m.blocks))
  edges : IsSpelled (array_of (map edge_data m.edges))
  invariants : IsSpelled (array_of (map listed_data m.invariants))
  kinds : IsSpelled (kinds_data m.kinds)
  merges : IsSpelled (array_of (map merge_data m.merges))
  partitions : IsSpelled (array_of (map partition_data m.partitions))
  splits : IsSpelled (array_of (map split_data m.splits))
  types : IsSpelled (array_of (map string m.types))

texts-of : (m : Model) → Fits m → AllByRecursion IsUtf8 m.types → AreTexts m
texts-of m fit texts = record {
  blocks = spelled-map block_data FitsBlock (λ b h. (omega (arith, h.p), (omega (arith, h.q), (omega (arith, h.inv), (path-spelled b.path h.path, tt))))) m.blocks fit.blocks;
  edges = spelled-map edge_data FitsEdge (λ e h. (omega (arith, h.from), (omega (arith, h.to), (omega (arith, h.count), tt)))) m.edges fit.edges;
  invariants = spelled-map listed_data FitsListed (λ l h. (kind-utf8 l.inv.kind, (omega (arith, h.a), (omega (arith, h.b), (digits-ascii l.labels h.labels, tt))))) m.invariants fit.invariants;
  kinds = spelled-map kind_data (λ _. ⊤) (λ k u. kind-utf8 k) (kinds_in_order m.kinds) (anything (kinds_in_order m.kinds));
  merges = spelled-map merge_data FitsMerge (λ x h. (omega (arith, h.p), (omega (arith, h.q), tt))) m.merges fit.merges;
  partitions = spelled-map partition_data FitsPartition (λ p h. (omega (arith, h.id), (omega (arith, h.typ), (omega (arith, h.count), tt)))) m.partitions fit.partitions;
  splits = spelled-map split_data FitsSplit (λ s h. (omega (arith, h.inv), (omega (arith, h.place), (path-spelled s.path h.path, tt)))) m.splits fit.splits;
  types = spelled-map string IsUtf8 (λ s u. u) m.types texts;
}

-- how deep the values nest
record AreShallow (m : Model) : Type 0 where
  blocks : tree.items_depth (items_outline (items_of (map block_data m.blocks))) ≤ 2
  edges : tree.items_depth (items_outline (items_of (map edge_data m.edges))) ≤ 2
  invariants : tree.items_depth (items_outline (items_of (map listed_data m.invariants))) ≤ 2
  kinds : tree.items_depth (items_outline (items_of (map kind_data (kinds_in_order m.kinds)))) ≤ 2
  merges : tree.items_depth (items_outline (items_of (map merge_data m.merges))) ≤ 2
  partitions : tree.items_depth (items_outline (items_of (map partition_data m.partitions))) ≤ 2
  splits : tree.items_depth (items_outline (items_of (map split_data m.splits))) ≤ 2
  types : tree.items_depth (items_outline (items_of (map string m.types))) ≤ 2

shallow : (m : Model) → AreShallow m
shallow m = record {
  blocks = depth-map block_data 2 (λ b. omega (arith, path-depth b.path)) m.blocks;
  edges = depth-map edge_data 2 (λ e. omega arith) m.edges;
  invariants = depth-map listed_data 2 (λ l. omega arith) m.invariants;
  kinds = depth-map kind_data 2 (λ k. omega arith) (kinds_in_order m.kinds);
  merges = depth-map merge_data 2 (λ x. omega arith) m.merges;
  partitions = depth-map partition_data 2 (λ p. omega arith) m.partitions;
  splits = depth-map split_data 2 (λ s. omega (arith, path-depth s.path)) m.splits;
  types = depth-map string 2 (λ s. omega arith) m.types;
}

tree-depth : (m : Model) → tree.depth (outline (tree_of m)) ≤ 127
unfolding tree_of
tree-depth m = let low = shallow m in omega (arith, low.blocks, low.edges, low.invariants, low.kinds, low.merges, low.partitions, low.splits, low.types)

version-plain : IsPlain (number_data 2)
version-plain = omega arith

version-spelled : IsSpelled (number_data 2)
version-spelled = omega arith

tree-numbers : (m : Model) → AreValues m → tree.HasNumbers (outline (tree_of m))
unfolding tree_of
tree-numbers m v = (
  plain-numbers (array_of (map block_data m.blocks)) v.blocks,
  (
    plain-numbers (array_of (map edge_data m.edges)) v.edges,
    (
      plain-numbers (array_of (map listed_data m.invariants)) v.invariants,
      (
        plain-numbers (kinds_data m.kinds) v.kinds,
        (
          plain-numbers (array_of (map merge_data m.merges)) v.merges,
          (
            plain-numbers (array_of (map partition_data m.partitions)) v.partitions,
            (
              plain-numbers (array_of (map split_data m.splits)) v.splits,
              (plain-numbers (array_of (map string m.types)) v.types, (plain-numbers (number_data 2) version-plain, tt)),
            ),
          ),
        ),
      ),
    ),
  ),
)

tree-back : (m : Model) → AreValues m → of_json (outline (tree_of m)) ≡ Some (tree_of m)
unfolding tree_of
tree-back m v =
    rw (
      plain-back (array_of (map block_data m.blocks)) v.blocks,
      plain-back (array_of (map edge_data m.edges)) v.edges,
      plain-back (array_of (map listed_data m.invariants)) v.invariants,
      plain-back (kinds_data m.kinds) v.kinds,
      plain-back (array_of (map merge_data m.merges)) v.merges,
      plain-back (array_of (map partition_data m.partitions)) v.partitions,
      plain-back (array_of (map split_data m.splits)) v.splits,
      plain-back (array_of (map string m.types)) v.types,
      plain-back (number_data 2) version-plain,
    ) refl

-- a key with its value, and what comes after
member-text : (later : Bool) (k : List ℕ) (d : Data) (ms : Members) → IsUtf8 k → IsSpelled d → IsUtf8 (members_text true ms) → IsUtf8 (members_text later (member k d ms))
member-text later k d ms key value rest =
    IsUtf8-append (comma_if later) _ (IsUtf8-comma later)
    (IsUtf8-append (quoted k) _ (IsUtf8-quoted k key)
    (IsUtf8-append (58 ∷ []) _ (IsUtf8-are_ascii (58 ∷ []) refl)
    (IsUtf8-append (compact_text d) (members_text true ms) (spelled-text d value) rest)))

-- the members from `version` on
abbrev pub from_version : Model → Members
from_version m = member (codes "version") (number_data 2) no_members

-- the members from `types` on
abbrev pub from_types : Model → Members
from_types m = member (codes "types") (array_of (map string m.types)) (from_version m)

-- the members from `splits` on
abbrev pub from_splits : Model → Members
from_splits m = member (codes "splits") (array_of (map split_data m.splits)) (from_types m)

-- the members from `partitions` on
abbrev pub from_partitions : Model → Members
from_partitions m = member (codes "partitions") (array_of (map partition_data m.partitions)) (from_splits m)

-- the members from `merges` on
abbrev pub from_merges : Model → Members
from_merges m = member (codes "merges") (array_of (map merge_data m.merges)) (from_partitions m)

-- the members from `kinds` on
abbrev pub from_kinds : Model → Members
from_kinds m = member (codes "kinds") (kinds_data m.kinds) (from_merges m)

-- the members from `invariants` on
abbrev pub from_invariants : Model → Members
from_invariants m = member (codes "invariants") (array_of (map listed_data m.invariants)) (from_kinds m)

-- the members from `edges` on
abbrev pub from_edges : Model → Members
from_edges m = member (codes "edges") (array_of (map edge_data m.edges)) (from_invariants m)

-- the members from `blocks` on, which are all
abbrev pub from_blocks : Model → Members
from_blocks m = member (codes "blocks") (array_of (map block_data m.blocks)) (from_edges m)

-- the text of a model that passes the rules is UTF-8, where its types are
pub IsUtf8-file_text : (m : Model) → PassesRules m → All IsUtf8 m.types → IsUtf8 (file_text m)
unfolding tree_of
IsUtf8-file_text m h texts =
    let v = texts-of m (fits m h) (recursion_from_All IsUtf8 m.types texts) in
    let version = member-text true (codes "version") (number_data 2) no_members (IsUtf8-are_ascii (codes "version") refl) version-spelled (IsUtf8-are_ascii (125 ∷ []) refl) in
    let types = member-text true (codes "types") (array_of (map string m.types)) (from_version m) (IsUtf8-are_ascii (codes "types") refl) v.types version in
    let splits = member-text true (codes "splits") (array_of (map split_data m.splits)) (from_types m) (IsUtf8-are_ascii (codes "splits") refl) v.splits types in
    let partitions = member-text true (codes "partitions") (array_of (map partition_data m.partitions)) (from_splits m) (IsUtf8-are_ascii (codes "partitions") refl) v.partitions splits in
    let merges = member-text true (codes "merges") (array_of (map merge_data m.merges)) (from_partitions m) (IsUtf8-are_ascii (codes "merges") refl) v.merges partitions in
    let kinds = member-text true (codes "kinds") (kinds_data m.kinds) (from_merges m) (IsUtf8-are_ascii (codes "kinds") refl) v.kinds merges in
    let invariants = member-text true (codes "invariants") (array_of (map listed_data m.invariants)) (from_kinds m) (IsUtf8-are_ascii (codes "invariants") refl) v.invariants kinds in
    let edges = member-text true (codes "edges") (array_of (map edge_data m.edges)) (from_invariants m) (IsUtf8-are_ascii (codes "edges") refl) v.edges invariants in
    let blocks = member-text false (codes "blocks") (array_of (map block_data m.blocks)) (from_edges m) (IsUtf8-are_ascii (codes "blocks") refl) v.blocks edges in
    IsUtf8-append (123 ∷ []) (members_text false (from_blocks m)) (IsUtf8-are_ascii (123 ∷ []) refl) blocks

text-is-read : (m : Model) → PassesRules m → IsUtf8 (file_text m) → value_of (file_text m) ≡ Some (tree_of m)
unfolding value_of
text-is-read m h text =
    let v = values m (fits m h) in
    rw (is_utf8-from_IsUtf8 (file_text m) text) (read-text (tree_of m) (tree-numbers m v) (tree-depth m) (tree-back m v))

-- what is written is read back, where it is text
pub text-reads-back : (m : Model) → PassesRules m → IsUtf8 (file_text m) → length (file_text m) ≤ MAX_MODEL_BYTES → reads (file_text m) ≡ Ok m
text-reads-back m h text short = trees-are-read (file_text m) m short (text-is-read m h text) h

-- the text of the tokens that were written
pub printed : (m : Model) (first tokens : List Token) → first ≡ [] → tokens ≡ first ++ tokens_of (tree_of m) → print tokens ≡ file_text m
unfolding tokens_of
printed m first tokens empty written = ap print (written ∙ ap (λ ts. ts ++ tokens_of (tree_of m)) empty) ∙ print-outline (tree_of m)
