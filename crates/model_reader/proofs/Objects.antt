-- The text of the object, member by member.
use Rattle.std.proofs.Common.{◌≡◌, ℕ, Bool, true, false, List, [], ◌∷◌, ◌++◌, map, refl, sym, ap, ◌∙◌, arith, append_assoc}
use Rattle.std.specs.Prelude.{codes}
use Rattle.std.proofs.lemmas.Fmt.{decimal_digit}
use Rattle.json.specs.Print.{escape_byte, quoted}
use Rattle.serde_json.specs.Data.{Data, string, Members, no_members, member}
use Rattle.serde_json.specs.Written.{comma_if, compact_text, members_text}
use Rattle.invariants.specs.declared.records.Model.{Model}
use Rattle.model_file.specs.Tree.{number_data, array_of, block_data, edge_data, listed_data, kinds_data, merge_data, partition_data, split_data, tree_of, file_text}
use Rattle.model_file.proofs.Trees.{from_version, from_types, from_splits, from_partitions, from_merges, from_kinds, from_invariants, from_edges}

-- a key with the comma before it and the colon after it
abbrev pub key_text : Bool → List ℕ → List ℕ
key_text later k = comma_if later ++ (quoted k ++ 58 ∷ [])

-- a member was taken before others
pub taken_member : (later : Bool) (k : List ℕ) (d : Data) (others : Members) (key whole second third : List ℕ)
    → key ≡ key_text later k → whole ≡ key ++ (compact_text d ++ second) → second ≡ members_text true others ++ third
    → whole ≡ members_text later (member k d others) ++ third
taken_member later k d others key whole second third spelled first next =
    let comma = comma_if later in
    let name = quoted k in
    let value = compact_text d in
    let tail = members_text true others in
    first ∙ ap (λ text. text ++ (value ++ second)) spelled
    ∙ append_assoc comma (name ++ 58 ∷ []) (value ++ second)
    ∙ ap (λ text. comma ++ text) (append_assoc name (58 ∷ []) (value ++ second)
    ∙ ap (λ text. name ++ (58 ∷ text)) (ap (λ text. value ++ text) next ∙ sym (append_assoc value tail third))
    ∙ sym (append_assoc name (58 ∷ (value ++ tail)) third))
    ∙ sym (append_assoc comma (name ++ 58 ∷ (value ++ tail)) third)

-- the last member was taken, with the closing brace
pub taken_version : (whole rest : List ℕ) → whole ≡ codes ",\"version\":2}" ++ rest → whole ≡ members_text true (member (codes "version") (number_data 2) no_members) ++ rest
unfolding escape_byte
taken_version whole rest e = rw (decimal_digit 2 (omega arith)) e

-- the members were taken one after another, with all that stands between them
pub taken_whole : (m : Model) (whole blocks edges invariants key kinds merges partitions splits types rest : List ℕ)
    → whole ≡ codes "{\"blocks\":" ++ (compact_text (array_of (map block_data m.blocks)) ++ blocks)
    → blocks ≡ codes ",\"edges\":" ++ (compact_text (array_of (map edge_data m.edges)) ++ edges)
    → edges ≡ codes ",\"invariants\":" ++ (compact_text (array_of (map listed_data m.invariants)) ++ invariants)
    → invariants ≡ codes ",\"kinds\":" ++ key
    → key ≡ compact_text (kinds_data m.kinds) ++ kinds
    → kinds ≡ codes ",\"merges\":" ++ (compact_text (array_of (map merge_data m.merges)) ++ merges)
    → merges ≡ codes ",\"partitions\":" ++ (compact_text (array_of (map partition_data m.partitions)) ++ partitions)
    → partitions ≡ codes ",\"splits\":" ++ (compact_text (array_of (map split_data m.splits)) ++ splits)
    → splits ≡ codes ",\"types\":" ++ (compact_text (array_of (map string m.types)) ++ types)
    → types ≡ codes ",\"version\":2}" ++ rest
    → whole ≡ file_text m ++ rest
unfolding tree_of escape_byte
taken_whole m whole blocks edges invariants key kinds merges partitions splits types rest a b c d e f g h i j =
    let at_version = taken_version types rest j in
    let at_types = taken_member true (codes "types") (array_of (map string m.types)) (from_version m) (codes ",\"types\":") splits types rest refl i at_version in
    let at_splits = taken_member true (codes "splits") (array_of (map split_data m.splits)) (from_types m) (codes ",\"splits\":") partitions splits rest refl h at_types in
    let at_partitions = taken_member true (codes "partitions") (array_of (map partition_data m.partitions)) (from_splits m) (codes ",\"partitions\":") merges partitions rest refl g at_splits in
    let at_merges = taken_member true (codes "merges") (array_of (map merge_data m.merges)) (from_partitions m) (codes ",\"merges\":") kinds merges rest refl f at_partitions in
    let at_kinds = taken_member true (codes "kinds") (kinds_data m.kinds) (from_merges m) (codes ",\"kinds\":") invariants kinds rest refl (d ∙ ap (λ text. codes ",\"kinds\":" ++ text) e) at_merges in
    let at_invariants = taken_member true (codes "invariants") (array_of (map listed_data m.invariants)) (from_kinds m) (codes ",\"invariants\":") edges invariants rest refl c at_kinds in
    let at_edges = taken_member true (codes "edges") (array_of (map edge_data m.edges)) (from_invariants m) (codes ",\"edges\":") blocks edges rest refl b at_invariants in
    let inside = codes "\"blocks\":" ++ (compact_text (array_of (map block_data m.blocks)) ++ blocks) in
    a ∙ ap (λ text. 123 ∷ text) (taken_member false (codes "blocks") (array_of (map block_data m.blocks)) (from_edges m) (codes "\"blocks\":") inside blocks rest refl refl at_edges)
