-- A value that is read as an entry is the value that is made of the entry.
use Rattle.std.proofs.Common.{◌≡◌, ℕ, ◌-◌, ◌^◌, ◌≤◌, Bool, true, false, cond, ◌&&◌, ltb, leb, List, [], ◌∷◌, map, Option, Some, None, bytes_eq, refl, ap, ap₂, subst, ◌∙◌, arith}
use Rattle.std.specs.Prelude.{codes}
use Rattle.std.proofs.lemmas.Bool.{and_parts, leb-true}
use Rattle.std.proofs.lemmas.Slice.Eq.{bytes_eq-Decides}
use Rattle.serde_json.specs.Data.{unsigned, Data, number, string, array, Items, no_items, item}
use Rattle.serde_json.specs.Find.{as_str}
use Rattle.serde_json.specs.View.{items_of}
use Rattle.invariants.specs.declared.Kind.{Kind}
use Rattle.invariants.specs.declared.Kind.TheVariants.{AF, NF, AP, IB}
use Rattle.invariants.specs.declared.Kinds.{Kinds}
use Rattle.invariants.specs.declared.Kinds.TheVariants.{Three, Four}
use Rattle.invariants.specs.declared.Invariant.{Invariant}
use Rattle.invariants.specs.declared.records.Partition.{Partition}
use Rattle.invariants.specs.declared.records.Edge.{Edge}
use Rattle.invariants.specs.declared.records.Listed.{Listed}
use Rattle.invariants.specs.declared.records.Merge.{Merge}
use Rattle.invariants.specs.declared.records.Split.{Split}
use Rattle.invariants.specs.declared.records.Block.{Block}
use Rattle.invariants.specs.Labels.{digit_of}
use Rattle.model_file.specs.Tree.{number_data, array_of, path_data, partition_data, edge_data, kind_text, kind_data, kinds_in_order, kinds_data, listed_data, merge_data, split_data, block_data}
use Rattle.model_file.specs.Entries.{◌>>=◌, number_below, number_in, type_in, each, list_in, two, three, four, two_in, three_in, four_in, kind_named, kind_in, kinds_from, kinds_named, label_of, labels_of, labels_in, path_in, partition_in, edge_in, invariant_in, listed_in, merge_in, split_in, block_in}

-- two options that are the same have the same value
pub some-is : {A : Type 0} (x y : A) → Some x ≡ Some y → x ≡ y
some-is x y e = cc

-- the value of a step that gave something
pub bind-some : {A B : Type 0} (o : Option A) (f : A → Option B) (y : B) → (o >>= f) ≡ Some y → (x : A) × (o ≡ Some x) × (f x ≡ Some y)
bind-some None f y e = absurd cc
bind-some (Some x) f y e = (x, refl, e)

below-is : (b : Bool) (k n : ℕ) → cond b (Some k) None ≡ Some n → k ≡ n
below-is true k n e = some-is k n e
below-is false k n e = absurd cc

number-forth : (limit n : ℕ) (d : Data) → number_below limit d ≡ Some n → d ≡ number_data n
unfolding number_below
number-forth limit n (number (unsigned k)) e = ap number_data (below-is (ltb k limit) k n e)
number-forth limit n _ e = absurd cc

-- a value that is read as a text is the value of this text
pub text-forth : (d : Data) (s : List ℕ) → as_str d ≡ Some s → d ≡ string s
text-forth (string t) s e = ap string (some-is t s e)
text-forth _ s e = absurd cc

each-forth : {A : Type 0} (f : Data → Option A) (g : A → Data) → ((d : Data) (a : A) → f d ≡ Some a → d ≡ g a) → (ds : Items) (xs : List A) → each f ds ≡ Some xs → ds ≡ items_of (map g xs)
each-forth f g forth no_items xs e = ap (λ ys. items_of (map g ys)) (some-is [] xs e)
each-forth f g forth (item d ds) xs e =
    let first = bind-some (f d) (λ a. each f ds >>= λ rest. Some (a ∷ rest)) xs e in
    let second = bind-some (each f ds) (λ rest. Some (first.0 ∷ rest)) xs first.2 in
    ap₂ item (forth d first.0 first.1) (each-forth f g forth ds second.0 second.1) ∙ ap (λ ys. items_of (map g ys)) (some-is (first.0 ∷ second.0) xs second.2)

-- where each value that is read is that of its entry, an array that is read is that of its list
pub list-forth : {A : Type 0} (f : Data → Option A) (g : A → Data) → ((d : Data) (a : A) → f d ≡ Some a → d ≡ g a) → (d : Data) (xs : List A) → list_in f d ≡ Some xs → d ≡ array_of (map g xs)
unfolding list_in
list-forth f g forth (array ds) xs e = ap array (each-forth f g forth ds xs e)
list-forth f g forth _ xs e = absurd cc

-- ---- arrays of a few items

items-two : (ds : Items) (a b : Data) → two ds ≡ Some (a, b) → ds ≡ item a (item b no_items)
items-two (item x (item y no_items)) a b e = let p = some-is (x, y) (a, b) e in ap (λ (q : Data × Data). item q.0 (item q.1 no_items)) p
items-two _ a b e = absurd cc

two-forth : (d : Data) (row : Data × Data) → two_in d ≡ Some row → d ≡ array_of (row.0 ∷ row.1 ∷ [])
unfolding two_in
two-forth (array ds) row e = ap array (items-two ds row.0 row.1 e)
two-forth _ row e = absurd cc

items-three : (ds : Items) (a b c : Data) → three ds ≡ Some (a, b, c) → ds ≡ item a (item b (item c no_items))
items-three (item x (item y (item z no_items))) a b c e = let p = some-is (x, y, z) (a, b, c) e in ap (λ (q : Data × Data × Data). item q.0 (item q.1 (item q.2 no_items))) p
items-three _ a b c e = absurd cc

three-forth : (d : Data) (row : Data × Data × Data) → three_in d ≡ Some row → d ≡ array_of (row.0 ∷ row.1 ∷ row.2 ∷ [])
unfolding three_in
three-forth (array ds) row e = ap array (items-three ds row.0 row.1 row.2 e)
three-forth _ row e = absurd cc

items-four : (ds : Items) (a b c d : Data) → four ds ≡ Some (a, b, c, d) → ds ≡ item a (item b (item c (item d no_items)))
items-four (item x (item y (item z (item w no_items)))) a b c d e = let p = some-is (x, y, z, w) (a, b, c, d) e in ap (λ (q : Data × Data × Data × Data). item q.0 (item q.1 (item q.2 (item q.3 no_items)))) p
items-four _ a b c d e = absurd cc

four-forth : (d : Data) (row : Data × Data × Data × Data) → four_in d ≡ Some row → d ≡ array_of (row.0 ∷ row.1 ∷ row.2 ∷ row.3 ∷ [])
unfolding four_in
four-forth (array ds) row e = ap array (items-four ds row.0 row.1 row.2 row.3 e)
four-forth _ row e = absurd cc

array-two : {a b x y : Data} → a ≡ x → b ≡ y → array_of (a ∷ b ∷ []) ≡ array_of (x ∷ y ∷ [])
array-two {a} {b} {x} {y} p q = ap₂ (λ (s t : Data). array_of (s ∷ t ∷ [])) p q

array-three : {a b c x y z : Data} → a ≡ x → b ≡ y → c ≡ z → array_of (a ∷ b ∷ c ∷ []) ≡ array_of (x ∷ y ∷ z ∷ [])
array-three {a} {b} {c} {x} {y} {z} p q r = ap₂ (λ (s t : Data). array_of (s ∷ t ∷ c ∷ [])) p q ∙ ap (λ (s : Data). array_of (x ∷ y ∷ s ∷ [])) r

array-four : {a b c d x y z w : Data} → a ≡ x → b ≡ y → c ≡ z → d ≡ w → array_of (a ∷ b ∷ c ∷ d ∷ []) ≡ array_of (x ∷ y ∷ z ∷ w ∷ [])
array-four {a} {b} {c} {d} {x} {y} {z} {w} p q r s = ap₂ (λ (t u : Data). array_of (t ∷ u ∷ c ∷ d ∷ [])) p q ∙ ap₂ (λ (t u : Data). array_of (x ∷ y ∷ t ∷ u ∷ [])) r s

-- ---- strings

fourth-kind : (d : Bool) (text : List ℕ) (kind : Kind) → bytes_eq text (codes "IB") ≡ d
    → cond d (Some IB) None ≡ Some kind → text ≡ kind_text kind
fourth-kind true text kind is e = (bytes_eq-Decides text (codes "IB")).0 is ∙ ap kind_text (some-is IB kind e)
fourth-kind false text kind is e = absurd cc

third-kind : (c : Bool) (text : List ℕ) (kind : Kind) → bytes_eq text (codes "AP") ≡ c
    → cond c (Some AP) (cond (bytes_eq text (codes "IB")) (Some IB) None) ≡ Some kind → text ≡ kind_text kind
third-kind true text kind is e = (bytes_eq-Decides text (codes "AP")).0 is ∙ ap kind_text (some-is AP kind e)
third-kind false text kind is e = fourth-kind (bytes_eq text (codes "IB")) text kind refl e

second-kind : (b : Bool) (text : List ℕ) (kind : Kind) → bytes_eq text (codes "NF") ≡ b
    → cond b (Some NF) (cond (bytes_eq text (codes "AP")) (Some AP) (cond (bytes_eq text (codes "IB")) (Some IB) None)) ≡ Some kind → text ≡ kind_text kind
second-kind true text kind is e = (bytes_eq-Decides text (codes "NF")).0 is ∙ ap kind_text (some-is NF kind e)
second-kind false text kind is e = third-kind (bytes_eq text (codes "AP")) text kind refl e

first-kind : (a : Bool) (text : List ℕ) (kind : Kind) → bytes_eq text (codes "AF") ≡ a
    → cond a (Some AF) (cond (bytes_eq text (codes "NF")) (Some NF) (cond (bytes_eq text (codes "AP")) (Some AP) (cond (bytes_eq text (codes "IB")) (Some IB) None))) ≡ Some kind → text ≡ kind_text kind
first-kind true text kind is e = (bytes_eq-Decides text (codes "AF")).0 is ∙ ap kind_text (some-is AF kind e)
first-kind false text kind is e = second-kind (bytes_eq text (codes "NF")) text kind refl e

kind-forth : (d : Data) (kind : Kind) → kind_in d ≡ Some kind → d ≡ string (kind_text kind)
unfolding kind_in
kind-forth d kind e =
    let text = bind-some (as_str d) kind_named kind e in
    text-forth d text.0 text.1 ∙ ap string (first-kind (bytes_eq text.0 (codes "AF")) text.0 kind refl text.2)

kinds-are : (ks : List Kind) (kinds : Kinds) → kinds_from ks ≡ Some kinds → ks ≡ kinds_in_order kinds
kinds-are (AF ∷ NF ∷ AP ∷ []) kinds e = ap kinds_in_order (some-is Three kinds e)
kinds-are (AF ∷ NF ∷ AP ∷ IB ∷ []) kinds e = ap kinds_in_order (some-is Four kinds e)
kinds-are _ kinds e = absurd cc

-- a value that is read as kinds is the array of their names
pub kinds-forth : (d : Data) (kinds : Kinds) → kinds_named d ≡ Some kinds → d ≡ kinds_data kinds
unfolding kinds_named
kinds-forth d kinds e =
    let ks = bind-some (list_in kind_in d) kinds_from kinds e in
    list-forth kind_in kind_data kind-forth d ks.0 ks.1 ∙ ap (λ (xs : List Kind). array_of (map kind_data xs)) (kinds-are ks.0 kinds ks.2)

label-is : (b : Bool) (byte label : ℕ) → (leb 48 byte && leb byte 55) ≡ b → cond b (Some (byte - 48)) None ≡ Some label → byte ≡ digit_of label
label-is true byte label is e =
    let low : 48 ≤ byte = leb-true 48 byte (and_parts (leb 48 byte) (leb byte 55) is).0 in
    let value : byte - 48 ≡ label = some-is (byte - 48) label e in
    omega (arith, low, value)
label-is false byte label is e = absurd cc

labels-forth : (bytes labels : List ℕ) → labels_of bytes ≡ Some labels → bytes ≡ map digit_of labels
labels-forth [] labels e = ap (map digit_of) (some-is [] labels e)
labels-forth (byte ∷ bytes) labels e =
    let first = bind-some (label_of byte) (λ label. labels_of bytes >>= λ rest. Some (label ∷ rest)) labels e in
    let second = bind-some (labels_of bytes) (λ rest. Some (first.0 ∷ rest)) labels first.2 in
    ap₂ (λ (x : ℕ) (xs : List ℕ). x ∷ xs) (label-is (leb 48 byte && leb byte 55) byte first.0 refl first.1) (labels-forth bytes second.0 second.1)
    ∙ ap (map digit_of) (some-is (first.0 ∷ second.0) labels second.2)

string-forth : (d : Data) (labels : List ℕ) → labels_in d ≡ Some labels → d ≡ string (map digit_of labels)
unfolding labels_in
string-forth d labels e = let text = bind-some (as_str d) labels_of labels e in text-forth d text.0 text.1 ∙ ap string (labels-forth text.0 labels text.2)

-- ---- entries

path-forth : (d : Data) (path : List ℕ) → path_in d ≡ Some path → d ≡ path_data path
unfolding path_in
path-forth d path e = list-forth number_in number_data (λ x n h. number-forth (2 ^ 32) n x h) d path e

-- a value that is read as a partition is the value of this partition
pub partition-forth : (d : Data) (x : Partition) → partition_in d ≡ Some x → d ≡ partition_data x
unfolding partition_in
partition-forth d x e =
    let row = bind-some (three_in d) _ x e in
    let id = bind-some (number_in row.0.0) _ x row.2 in
    let typ = bind-some (type_in row.0.1) _ x id.2 in
    let count = bind-some (number_in row.0.2) _ x typ.2 in
    let made : Partition = record { id = id.0; typ = typ.0; count = count.0 } in
    three-forth d row.0 row.1 ∙ (array-three (number-forth (2 ^ 32) id.0 row.0.0 id.1) (number-forth (2 ^ 16) typ.0 row.0.1 typ.1) (number-forth (2 ^ 32) count.0 row.0.2 count.1) ∙ ap partition_data (some-is made x count.2))

-- a value that is read as an edge is the value of this edge
pub edge-forth : (d : Data) (x : Edge) → edge_in d ≡ Some x → d ≡ edge_data x
unfolding edge_in
edge-forth d x e =
    let row = bind-some (three_in d) _ x e in
    let from = bind-some (number_in row.0.0) _ x row.2 in
    let to = bind-some (number_in row.0.1) _ x from.2 in
    let count = bind-some (number_in row.0.2) _ x to.2 in
    let made : Edge = record { from = from.0; to = to.0; count = count.0 } in
    three-forth d row.0 row.1 ∙ (array-three (number-forth (2 ^ 32) from.0 row.0.0 from.1) (number-forth (2 ^ 32) to.0 row.0.1 to.1) (number-forth (2 ^ 32) count.0 row.0.2 count.1) ∙ ap edge_data (some-is made x count.2))

-- a value that is read as a merge is the value of this merge
pub merge-forth : (d : Data) (x : Merge) → merge_in d ≡ Some x → d ≡ merge_data x
unfolding merge_in
merge-forth d x e =
    let row = bind-some (two_in d) _ x e in
    let p = bind-some (number_in row.0.0) _ x row.2 in
    let q = bind-some (number_in row.0.1) _ x p.2 in
    let made : Merge = record { p = p.0; q = q.0 } in
    two-forth d row.0 row.1 ∙ (array-two (number-forth (2 ^ 32) p.0 row.0.0 p.1) (number-forth (2 ^ 32) q.0 row.0.1 q.1) ∙ ap merge_data (some-is made x q.2))

-- a value that is read as a split is the value of this split
pub split-forth : (d : Data) (x : Split) → split_in d ≡ Some x → d ≡ split_data x
unfolding split_in
split-forth d x e =
    let row = bind-some (three_in d) _ x e in
    let inv = bind-some (number_in row.0.0) _ x row.2 in
    let place = bind-some (number_in row.0.1) _ x inv.2 in
    let path = bind-some (path_in row.0.2) _ x place.2 in
    let made : Split = record { inv = inv.0; place = place.0; path = path.0 } in
    three-forth d row.0 row.1 ∙ (array-three (number-forth (2 ^ 32) inv.0 row.0.0 inv.1) (number-forth (2 ^ 32) place.0 row.0.1 place.1) (path-forth row.0.2 path.0 path.1) ∙ ap split_data (some-is made x path.2))

-- a value that is read as a block is the value of this block
pub block-forth : (d : Data) (x : Block) → block_in d ≡ Some x → d ≡ block_data x
unfolding block_in
block-forth d x e =
    let row = bind-some (four_in d) _ x e in
    let p = bind-some (number_in row.0.0) _ x row.2 in
    let q = bind-some (number_in row.0.1) _ x p.2 in
    let inv = bind-some (number_in row.0.2) _ x q.2 in
    let path = bind-some (path_in row.0.3) _ x inv.2 in
    let made : Block = record { p = p.0; q = q.0; inv = inv.0; path = path.0 } in
    four-forth d row.0 row.1 ∙ (array-four (number-forth (2 ^ 32) p.0 row.0.0 p.1) (number-forth (2 ^ 32) q.0 row.0.1 q.1) (number-forth (2 ^ 32) inv.0 row.0.2 inv.1) (path-forth row.0.3 path.0 path.1) ∙ ap block_data (some-is made x path.2))

record IsInvariant (i : Invariant) (name first second : Data) : Type 0 where
  kind : name ≡ string (kind_text i.kind)
  a : first ≡ number_data i.a
  b : second ≡ number_data i.b

invariant-forth : (name first second : Data) (i : Invariant) → invariant_in name first second ≡ Some i → IsInvariant i name first second
unfolding invariant_in
invariant-forth name first second i e =
    let kind = bind-some (kind_in name) _ i e in
    let a = bind-some (type_in first) _ i kind.2 in
    let b = bind-some (type_in second) _ i a.2 in
    let made : Invariant = record { kind = kind.0; a = a.0; b = b.0 } in
    let read : IsInvariant made name first second = record { kind = kind-forth name kind.0 kind.1; a = number-forth (2 ^ 16) a.0 first a.1; b = number-forth (2 ^ 16) b.0 second b.1 } in
    subst (λ j. IsInvariant j name first second) (some-is made i b.2) read

-- a value that is read as a listed invariant is the value of this invariant
pub listed-forth : (d : Data) (x : Listed) → listed_in d ≡ Some x → d ≡ listed_data x
unfolding listed_in
listed-forth d x e =
    let row = bind-some (four_in d) _ x e in
    let inv = bind-some (invariant_in row.0.0 row.0.1 row.0.2) _ x row.2 in
    let labels = bind-some (labels_in row.0.3) _ x inv.2 in
    let made : Listed = record { inv = inv.0; labels = labels.0 } in
    let parts = invariant-forth row.0.0 row.0.1 row.0.2 inv.0 inv.1 in
    four-forth d row.0 row.1 ∙ (array-four (parts.kind) (parts.a) (parts.b) (string-forth row.0.3 labels.0 labels.1) ∙ ap listed_data (some-is made x labels.2))
