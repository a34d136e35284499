-- The entries of a model's lists, as rows of fields.
use Rattle.std.proofs.Common.{◌≡◌, ℕ, ◌^◌, List, Option, Some, None, refl, ap, ◌∙◌}
use Rattle.json.specs.Token.{Token}
use Rattle.json.specs.Json.{parse_map}
use Rattle.serde_json.specs.Data.{Data, null, boolean, number, string, array, object, Items, no_items, item}
use Rattle.serde_json.specs.Find.{as_str, as_array}
use Rattle.invariants.specs.declared.Kind.{Kind}
use Rattle.invariants.specs.declared.records.Partition.{Partition}
use Rattle.invariants.specs.declared.records.Edge.{Edge}
use Rattle.invariants.specs.declared.records.Listed.{Listed}
use Rattle.invariants.specs.declared.records.Merge.{Merge}
use Rattle.invariants.specs.declared.records.Split.{Split}
use Rattle.invariants.specs.declared.records.Block.{Block}
use Rattle.model_file.specs.declared.labels.Labels.{Labels}
use Rattle.model_file.specs.Entries.{◌>>=◌, if_below, number_below, two, three, four, two_in, three_in, four_in, list_in, number_in, type_in, kind_in, kind_named, kinds_named, kinds_from, labels_of, labels_in, path_in, invariant_in, partition_in, edge_in, listed_in, merge_in, split_in, block_in}
use Rattle.model_file.specs.Rows.{labels_as}
use Rattle.model_file.specs.Streams.{whole_in}
use Rattle.model_file.specs.Lists.{no_fields, one_more, row_in}
use Rattle.model_file.proofs.Listing.{read-some}

-- ---- an entry of what was read

-- where an entry is made of another reading, it is read where that is
pub mapped : {A B : Type 0} (row : Data → A) (entry : Data → B) (of : A → B) → ((d : Data) → entry d ≡ of (row d)) → (o : Option (Data × List Token)) (left : List Token) (r : A) → parse_map row o ≡ Some (r, left) → parse_map entry o ≡ Some (of r, left)
mapped row entry of is o left r e =
    let d = read-some row o r left e in
    ap (parse_map entry) d.1 ∙ ap (λ x. Some (x, left)) (is d.0 ∙ ap of d.2)

number-by : (limit : ℕ) (d : Data) → number_below limit d ≡ (whole_in d >>= if_below limit)
unfolding number_below
number-by limit null = refl
number-by limit (boolean b) = refl
number-by limit (number n) = refl
number-by limit (string s) = refl
number-by limit (array ds) = refl
number-by limit (object ms) = refl

pub number-is : (d : Data) → number_in d ≡ (whole_in d >>= if_below (2 ^ 32))
number-is d = number-by (2 ^ 32) d

pub type-is : (d : Data) → type_in d ≡ (whole_in d >>= if_below (2 ^ 16))
type-is d = number-by (2 ^ 16) d

over-array : {X Y E : Type 0} (first : Items → Option X) (k : X → Option E) (second : Items → Option Y) (m : Y → Option E) → ((ds : Items) → (first ds >>= k) ≡ (second ds >>= m)) → (o : Option Items) → ((o >>= first) >>= k) ≡ ((o >>= second) >>= m)
over-array first k second m is None = refl
over-array first k second m is (Some ds) = is ds

-- ---- rows of two fields

module _ {A B E : Type 0} (f : Data → Option A) (g : Data → Option B) (make : A → B → E) where
  abbrev pub of_two : Data × Data → Option E
  of_two row = f row.0 >>= λ a. g row.1 >>= λ b. Some (make a b)

  abbrev pub made_two : A × (B × Unit {0}) → Option E
  made_two r = Some (make r.0 r.1.0)

  two-short-1 : (a : Option A) → None ≡ ((a >>= λ x0. None >>= λ r0. Some (x0, r0)) >>= made_two)
  two-short-1 None = refl
  two-short-1 (Some a) = refl

  two-exact : (a : Option A) (b : Option B) → (a >>= λ x0. b >>= λ x1. Some (make x0 x1)) ≡ ((a >>= λ x0. (b >>= λ x1. Some tt >>= λ r1. Some (x1, r1)) >>= λ r0. Some (x0, r0)) >>= made_two)
  two-exact None b = refl
  two-exact (Some a) None = refl
  two-exact (Some a) (Some b) = refl

  two-long : (a : Option A) (b : Option B) → None ≡ ((a >>= λ x0. (b >>= λ x1. None >>= λ r1. Some (x1, r1)) >>= λ r0. Some (x0, r0)) >>= made_two)
  two-long None b = refl
  two-long (Some a) None = refl
  two-long (Some a) (Some b) = refl

  abbrev pub two_row : Items → Option (A × (B × Unit {0}))
  two_row = one_more f (one_more g no_fields)

  pub two-fields : (ds : Items) → (two ds >>= of_two) ≡ (two_row ds >>= made_two)
  two-fields no_items = refl
  two-fields (item p no_items) = two-short-1 (f p)
  two-fields (item p (item q no_items)) = two-exact (f p) (g q)
  two-fields (item p (item q (item s ds))) = two-long (f p) (g q)

-- ---- rows of three fields

module _ {A B C E : Type 0} (f : Data → Option A) (g : Data → Option B) (h : Data → Option C) (make : A → B → C → E) where
  abbrev pub of_three : Data × Data × Data → Option E
  of_three row = f row.0 >>= λ a. g row.1 >>= λ b. h row.2 >>= λ c. Some (make a b c)

  abbrev pub made_three : A × (B × (C × Unit {0})) → Option E
  made_three r = Some (make r.0 r.1.0 r.1.1.0)

  three-short-1 : (a : Option A) → None ≡ ((a >>= λ x0. None >>= λ r0. Some (x0, r0)) >>= made_three)
  three-short-1 None = refl
  three-short-1 (Some a) = refl

  three-short-2 : (a : Option A) (b : Option B) → None ≡ ((a >>= λ x0. (b >>= λ x1. None >>= λ r1. Some (x1, r1)) >>= λ r0. Some (x0, r0)) >>= made_three)
  three-short-2 None b = refl
  three-short-2 (Some a) None = refl
  three-short-2 (Some a) (Some b) = refl

  three-exact : (a : Option A) (b : Option B) (c : Option C) → (a >>= λ x0. b >>= λ x1. c >>= λ x2. Some (make x0 x1 x2)) ≡ ((a >>= λ x0. (b >>= λ x1. (c >>= λ x2. Some tt >>= λ r2. Some (x2, r2)) >>= λ r1. Some (x1, r1)) >>= λ r0. Some (x0, r0)) >>= made_three)
  three-exact None b c = refl
  three-exact (Some a) None c = refl
  three-exact (Some a) (Some b) None = refl
  three-exact (Some a) (Some b) (Some c) = refl

  three-long : (a : Option A) (b : Option B) (c : Option C) → None ≡ ((a >>= λ x0. (b >>= λ x1. (c >>= λ x2. None >>= λ r2. Some (x2, r2)) >>= λ r1. Some (x1, r1)) >>= λ r0. Some (x0, r0)) >>= made_three)
  three-long None b c = refl
  three-long (Some a) None c = refl
  three-long (Some a) (Some b) None = refl
  three-long (Some a) (Some b) (Some c) = refl

  abbrev pub three_row : Items → Option (A × (B × (C × Unit {0})))
  three_row = one_more f (one_more g (one_more h no_fields))

  pub three-fields : (ds : Items) → (three ds >>= of_three) ≡ (three_row ds >>= made_three)
  three-fields no_items = refl
  three-fields (item p no_items) = three-short-1 (f p)
  three-fields (item p (item q no_items)) = three-short-2 (f p) (g q)
  three-fields (item p (item q (item s no_items))) = three-exact (f p) (g q) (h s)
  three-fields (item p (item q (item s (item t ds)))) = three-long (f p) (g q) (h s)

-- ---- rows of four fields

module _ {A B C D E : Type 0} (f : Data → Option A) (g : Data → Option B) (h : Data → Option C) (k : Data → Option D) (make : A → B → C → D → E) where
  abbrev pub of_four : Data × Data × Data × Data → Option E
  of_four row = f row.0 >>= λ a. g row.1 >>= λ b. h row.2 >>= λ c. k row.3 >>= λ d. Some (make a b c d)

  abbrev pub made_four : A × (B × (C × (D × Unit {0}))) → Option E
  made_four r = Some (make r.0 r.1.0 r.1.1.0 r.1.1.1.0)

  four-short-1 : (a : Option A) → None ≡ ((a >>= λ x0. None >>= λ r0. Some (x0, r0)) >>= made_four)
  four-short-1 None = refl
  four-short-1 (Some a) = refl

  four-short-2 : (a : Option A) (b : Option B) → None ≡ ((a >>= λ x0. (b >>= λ x1. None >>= λ r1. Some (x1, r1)) >>= λ r0. Some (x0, r0)) >>= made_four)
  four-short-2 None b = refl
  four-short-2 (Some a) None = refl
  four-short-2 (Some a) (Some b) = refl

  four-short-3 : (a : Option A) (b : Option B) (c : Option C) → None ≡ ((a >>= λ x0. (b >>= λ x1. (c >>= λ x2. None >>= λ r2. Some (x2, r2)) >>= λ r1. Some (x1, r1)) >>= λ r0. Some (x0, r0)) >>= made_four)
  four-short-3 None b c = refl
  four-short-3 (Some a) None c = refl
  four-short-3 (Some a) (Some b) None = refl
  four-short-3 (Some a) (Some b) (Some c) = refl

  four-exact : (a : Option A) (b : Option B) (c : Option C) (d : Option D) → (a >>= λ x0. b >>= λ x1. c >>= λ x2. d >>= λ x3. Some (make x0 x1 x2 x3)) ≡ ((a >>= λ x0. (b >>= λ x1. (c >>= λ x2. (d >>= λ x3. Some tt >>= λ r3. Some (x3, r3)) >>= λ r2. Some (x2, r2)) >>= λ r1. Some (x1, r1)) >>= λ r0. Some (x0, r0)) >>= made_four)
  four-exact None b c d = refl
  four-exact (Some a) None c d = refl
  four-exact (Some a) (Some b) None d = refl
  four-exact (Some a) (Some b) (Some c) None = refl
  four-exact (Some a) (Some b) (Some c) (Some d) = refl

  four-long : (a : Option A) (b : Option B) (c : Option C) (d : Option D) → None ≡ ((a >>= λ x0. (b >>= λ x1. (c >>= λ x2. (d >>= λ x3. None >>= λ r3. Some (x3, r3)) >>= λ r2. Some (x2, r2)) >>= λ r1. Some (x1, r1)) >>= λ r0. Some (x0, r0)) >>= made_four)
  four-long None b c d = refl
  four-long (Some a) None c d = refl
  four-long (Some a) (Some b) None d = refl
  four-long (Some a) (Some b) (Some c) None = refl
  four-long (Some a) (Some b) (Some c) (Some d) = refl

  abbrev pub four_row : Items → Option (A × (B × (C × (D × Unit {0}))))
  four_row = one_more f (one_more g (one_more h (one_more k no_fields)))

  pub four-fields : (ds : Items) → (four ds >>= of_four) ≡ (four_row ds >>= made_four)
  four-fields no_items = refl
  four-fields (item p no_items) = four-short-1 (f p)
  four-fields (item p (item q no_items)) = four-short-2 (f p) (g q)
  four-fields (item p (item q (item s no_items))) = four-short-3 (f p) (g q) (h s)
  four-fields (item p (item q (item s (item t no_items)))) = four-exact (f p) (g q) (h s) (k t)
  four-fields (item p (item q (item s (item t (item u ds))))) = four-long (f p) (g q) (h s) (k t)

-- ---- texts and kinds

pub kind-is : (d : Data) → kind_in d ≡ (as_str d >>= kind_named)
unfolding kind_in
kind-is d = refl

pub kinds-are : (d : Data) → kinds_named d ≡ (list_in kind_in d >>= kinds_from)
unfolding kinds_named
kinds-are d = refl

abbrev pub to_labels : Option (List ℕ) → Option Labels
to_labels o = o >>= λ found. Some (record { labels = found })

pub labels-are : (d : Data) → labels_as d ≡ to_labels (as_str d >>= labels_of)
unfolding labels_in
labels-are d = refl

-- ---- entries

abbrev pub to_merge : ℕ → ℕ → Merge
to_merge p q = record { p = p; q = q }

pub merge-is : (d : Data) → merge_in d ≡ (row_in (two_row number_in number_in to_merge) d >>= made_two number_in number_in to_merge)
unfolding merge_in two_in
merge-is d = over-array two (of_two number_in number_in to_merge) (two_row number_in number_in to_merge) (made_two number_in number_in to_merge) (two-fields number_in number_in to_merge) (as_array d)

abbrev pub to_edge : ℕ → ℕ → ℕ → Edge
to_edge from to count = record { from = from; to = to; count = count }

pub edge-is : (d : Data) → edge_in d ≡ (row_in (three_row number_in number_in number_in to_edge) d >>= made_three number_in number_in number_in to_edge)
unfolding edge_in three_in
edge-is d = over-array three (of_three number_in number_in number_in to_edge) (three_row number_in number_in number_in to_edge) (made_three number_in number_in number_in to_edge) (three-fields number_in number_in number_in to_edge) (as_array d)

abbrev pub to_partition : ℕ → ℕ → ℕ → Partition
to_partition id typ count = record { id = id; typ = typ; count = count }

pub partition-is : (d : Data) → partition_in d ≡ (row_in (three_row number_in type_in number_in to_partition) d >>= made_three number_in type_in number_in to_partition)
unfolding partition_in three_in
partition-is d = over-array three (of_three number_in type_in number_in to_partition) (three_row number_in type_in number_in to_partition) (made_three number_in type_in number_in to_partition) (three-fields number_in type_in number_in to_partition) (as_array d)

abbrev pub to_split : ℕ → ℕ → List ℕ → Split
to_split inv place path = record { inv = inv; place = place; path = path }

pub split-is : (d : Data) → split_in d ≡ (row_in (three_row number_in number_in (list_in number_in) to_split) d >>= made_three number_in number_in (list_in number_in) to_split)
unfolding split_in three_in path_in
split-is d = over-array three (of_three number_in number_in (list_in number_in) to_split) (three_row number_in number_in (list_in number_in) to_split) (made_three number_in number_in (list_in number_in) to_split) (three-fields number_in number_in (list_in number_in) to_split) (as_array d)

abbrev pub to_block : ℕ → ℕ → ℕ → List ℕ → Block
to_block p q inv path = record { p = p; q = q; inv = inv; path = path }

pub block-is : (d : Data) → block_in d ≡ (row_in (four_row number_in number_in number_in (list_in number_in) to_block) d >>= made_four number_in number_in number_in (list_in number_in) to_block)
unfolding block_in four_in path_in
block-is d = over-array four (of_four number_in number_in number_in (list_in number_in) to_block) (four_row number_in number_in number_in (list_in number_in) to_block) (made_four number_in number_in number_in (list_in number_in) to_block) (four-fields number_in number_in number_in (list_in number_in) to_block) (as_array d)

abbrev pub to_listed : Kind → ℕ → ℕ → Labels → Listed
to_listed kind a b found = record { inv = record { kind = kind; a = a; b = b }; labels = found.labels }

grouped : (k : Option Kind) (a b : Option ℕ) (l : Option (List ℕ)) → ((k >>= λ kind. a >>= λ first. b >>= λ second. Some (record { kind = kind; a = first; b = second })) >>= λ inv. l >>= λ labels. Some (record { inv = inv; labels = labels }))
    ≡ (k >>= λ kind. a >>= λ first. b >>= λ second. (l >>= λ found. Some (record { labels = found })) >>= λ labels. Some (to_listed kind first second labels))
grouped None a b l = refl
grouped (Some k) None b l = refl
grouped (Some k) (Some a) None l = refl
grouped (Some k) (Some a) (Some b) None = refl
grouped (Some k) (Some a) (Some b) (Some l) = refl

listed-fields : (ds : Items) → (four ds >>= λ row. invariant_in row.0 row.1 row.2 >>= λ inv. labels_in row.3 >>= λ labels. Some (record { inv = inv; labels = labels })) ≡ (four_row kind_in type_in type_in labels_as to_listed ds >>= made_four kind_in type_in type_in labels_as to_listed)
unfolding invariant_in
listed-fields no_items = four-fields kind_in type_in type_in labels_as to_listed no_items
listed-fields (item p no_items) = four-fields kind_in type_in type_in labels_as to_listed (item p no_items)
listed-fields (item p (item q no_items)) = four-fields kind_in type_in type_in labels_as to_listed (item p (item q no_items))
listed-fields (item p (item q (item s no_items))) = four-fields kind_in type_in type_in labels_as to_listed (item p (item q (item s no_items)))
listed-fields (item p (item q (item s (item t no_items)))) = grouped (kind_in p) (type_in q) (type_in s) (labels_in t) ∙ four-fields kind_in type_in type_in labels_as to_listed (item p (item q (item s (item t no_items))))
listed-fields (item p (item q (item s (item t (item u ds))))) = four-fields kind_in type_in type_in labels_as to_listed (item p (item q (item s (item t (item u ds)))))

pub listed-is : (d : Data) → listed_in d ≡ (row_in (four_row kind_in type_in type_in labels_as to_listed) d >>= made_four kind_in type_in type_in labels_as to_listed)
unfolding listed_in four_in
listed-is d = over-array four (λ row. invariant_in row.0 row.1 row.2 >>= λ inv. labels_in row.3 >>= λ labels. Some (record { inv = inv; labels = labels })) (four_row kind_in type_in type_in labels_as to_listed) (made_four kind_in type_in type_in labels_as to_listed) listed-fields (as_array d)
