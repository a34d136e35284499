-- The tokens of arrays and of the object of a model.
use Rattle.std.proofs.Common.{◌≡◌, List, [], ◌∷◌, ◌++◌, map, refl, sym, ap, ◌∙◌, append_assoc, append-nil}
use Rattle.std.specs.List.{flat_map}
use Rattle.std.proofs.lemmas.Grind.{flat_map-append}
use Rattle.std.specs.Prelude.{codes}
use Rattle.json.specs.Token.{Token, begin_array, end_array, begin_object, end_object, key}
use Rattle.json.specs.Tree.{items_tokens}
use Rattle.serde_json.specs.Data.{Data, string}
use Rattle.serde_json.specs.View.{items_of}
use Rattle.serde_json.specs.Written.{items_outline}
use Rattle.invariants.specs.declared.records.Model.{Model}
use Rattle.model_file.specs.Tree.{array_of, block_data, edge_data, listed_data, kinds_data, merge_data, partition_data, split_data, tree_of}
use Rattle.std.proofs.lemmas.Result.{on_ok_weaker}
use Rattle.std.specs.Prelude.{Result, OnOk}
use Rattle.json.specs.Written.{Written, Writes}
use Rattle.model_file.specs.Writing.{tokens_of, first_members, last_members, Appends}

-- the tokens of some values in a row
abbrev pub tokens_by : {A : Type 0} → (A → Data) → List A → List Token
tokens_by g xs = flat_map (λ x. tokens_of (g x)) xs

items-tokens : {A : Type 0} (g : A → Data) (xs : List A) → items_tokens (items_outline (items_of (map g xs))) ≡ tokens_by g xs ++ end_array ∷ []
unfolding tokens_of
items-tokens g [] = refl
items-tokens g (x ∷ xs) = ap (λ ts. tokens_of (g x) ++ ts) (items-tokens g xs) ∙ sym (append_assoc (tokens_of (g x)) (tokens_by g xs) (end_array ∷ []))

-- the tokens of an array are those of its values, with one that begins it and one that ends it
pub array-tokens : {A : Type 0} (g : A → Data) (xs : List A) → tokens_of (array_of (map g xs)) ≡ begin_array ∷ (tokens_by g xs ++ end_array ∷ [])
unfolding tokens_of
array-tokens g xs = ap (λ ts. begin_array ∷ ts) (items-tokens g xs)

-- the whole array
pub array-whole : {A : Type 0} (g : A → Data) (xs : List A) (old last : List Token) → last ≡ ((old ++ begin_array ∷ []) ++ tokens_by g xs) ++ end_array ∷ [] → last ≡ old ++ tokens_of (array_of (map g xs))
array-whole g xs old last e =
    e ∙ append_assoc (old ++ begin_array ∷ []) (tokens_by g xs) (end_array ∷ []) ∙ append_assoc old (begin_array ∷ []) (tokens_by g xs ++ end_array ∷ []) ∙ ap (λ ts. old ++ ts) (sym (array-tokens g xs))

-- where the array was begun, the row is empty
pub row-begin : (old new : List Token) → new ≡ old ++ begin_array ∷ [] → new ≡ (old ++ begin_array ∷ []) ++ tokens_by (λ (x : Data). x) []
row-begin old new e = e ∙ sym (append-nil (old ++ begin_array ∷ []))

-- a value that was written is one more of the row
pub row-more : (front : List Token) (ds : List Data) (d : Data) (old new : List Token) → old ≡ front ++ tokens_by (λ (x : Data). x) ds → new ≡ old ++ tokens_of d → new ≡ front ++ tokens_by (λ (x : Data). x) (ds ++ d ∷ [])
row-more front ds d old new before put =
    let one : tokens_by (λ (x : Data). x) (ds ++ d ∷ []) ≡ tokens_by (λ (x : Data). x) ds ++ tokens_of d =
    flat_map-append (λ (x : Data). tokens_of x) ds (d ∷ []) ∙ ap (λ ts. tokens_by (λ (x : Data). x) ds ++ ts) (append-nil (tokens_of d)) in
    put ∙ ap (λ ts. ts ++ tokens_of d) before ∙ append_assoc front (tokens_by (λ (x : Data). x) ds) (tokens_of d) ∙ ap (λ ts. front ++ ts) (sym one)

-- where the array was ended, the row is the whole array
pub row-end : {E : Type 0} (r : Result (Unit {0}) E) (ds : List Data) (first old new : List Token) → old ≡ (first ++ begin_array ∷ []) ++ tokens_by (λ (x : Data). x) ds → OnOk r (new ≡ old ++ end_array ∷ [])
    → OnOk r (new ≡ first ++ tokens_of (array_of (map (λ (x : Data). x) ds)))
row-end r ds first old new before ended = on_ok_weaker r (λ e. array-whole (λ (x : Data). x) ds first new (e ∙ ap (λ ts. ts ++ end_array ∷ []) before)) ended

-- a token that was written
pub appends-token : {E : Type 0} (r : Result (Unit {0}) E) (old new : Written) (t : Token) → Writes r old new t → Appends r old new (t ∷ [])
appends-token r old new t w = record { ok = w.ok; before = w.room.0 }

-- what is written before something
pub joined : (a b c xs ys : List Token) → b ≡ a ++ xs → c ≡ b ++ ys → c ≡ a ++ (xs ++ ys)
joined a b c xs ys first second = second ∙ ap (λ ts. ts ++ ys) first ∙ append_assoc a xs ys

-- more after a key and its value
more-after : (t : Token) (xs ys zs whole : List Token) → ys ++ zs ≡ whole → (t ∷ (xs ++ ys)) ++ zs ≡ t ∷ (xs ++ whole)
more-after t xs ys zs whole e = ap (λ ts. t ∷ ts) (append_assoc xs ys zs ∙ ap (λ ts. xs ++ ts) e)

-- the object of a model, where its first keys and its last ones are written
pub object-tokens : (m : Model) → begin_object ∷ (first_members m ++ (last_members m ++ end_object ∷ [])) ≡ tokens_of (tree_of m)
unfolding tokens_of tree_of
object-tokens m =
    let last = more-after _ (tokens_of (array_of (map merge_data m.merges))) _ (end_object ∷ []) _
    (more-after _ (tokens_of (array_of (map partition_data m.partitions))) _ (end_object ∷ []) _
    (more-after _ (tokens_of (array_of (map split_data m.splits))) _ (end_object ∷ []) _
    (more-after _ (tokens_of (array_of (map string m.types))) _ (end_object ∷ []) _ refl))) in
    ap (λ ts. begin_object ∷ ts)
    (more-after _ (tokens_of (array_of (map block_data m.blocks))) _ (last_members m ++ end_object ∷ []) _
    (more-after _ (tokens_of (array_of (map edge_data m.edges))) _ (last_members m ++ end_object ∷ []) _
    (more-after _ (tokens_of (array_of (map listed_data m.invariants))) _ (last_members m ++ end_object ∷ []) _
    (ap (λ ts. key (codes "kinds") ∷ (tokens_of (kinds_data m.kinds) ++ ts)) last))))
