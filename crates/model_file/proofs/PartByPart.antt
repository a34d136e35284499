-- The parts of a model, read one after the other.
use Rattle.std.proofs.Common.{◌≡◌, ℕ, Bool, List, [], ◌∷◌, ◌&&◌, length, Option, Result, Ok, Err, refl, sym, ap, ap₂, ◌∙◌}
use Rattle.std.specs.List.{list_all}
use Rattle.std.specs.Prelude.{IfErr}
use Rattle.invariants.specs.declared.Kinds.{Kinds}
use Rattle.invariants.specs.declared.records.Partition.{Partition}
use Rattle.invariants.specs.declared.records.Edge.{Edge}
use Rattle.invariants.specs.declared.records.Listed.{Listed}
use Rattle.invariants.specs.declared.records.Merge.{Merge}
use Rattle.invariants.specs.declared.records.Split.{Split}
use Rattle.invariants.specs.declared.records.Block.{Block}
use Rattle.invariants.specs.declared.records.Model.{Model}
use Rattle.model_file.specs.declared.version.Version.{Version}
use Rattle.model_file.specs.declared.refusal.Field.{Field}
use Rattle.model_file.specs.declared.refusal.Field.TheVariants.{Edges, Blocks}
use Rattle.model_file.specs.declared.refusal.FileError.{FileError}
use Rattle.model_file.specs.Rules.{type_of, edge_holds, edges_hold, block_holds, blocks_hold}
use Rattle.model_file.specs.Reading.{◌>>=◌, or_shape, tested, Fails}
use Rattle.model_file.specs.declared.found.Found.{Found}
use Rattle.model_file.specs.Found.{types_from, kinds_tested, partitions_from, edges_from, invariants_from, merges_from, splits_from, blocks_from, after_partitions, parts_from}
use Rattle.model_file.proofs.Fails.{then-same, fails-at}

-- two look-ups give the same at each id
abbrev Agree : (ℕ → Option ℕ) → (ℕ → Option ℕ) → Type 0
Agree f g = (id : ℕ) → f id ≡ g id

all-same : {X : Type 0} (p q : X → Bool) → ((x : X) → p x ≡ q x) → (xs : List X) → list_all p xs ≡ list_all q xs
all-same p q h [] = refl
all-same p q h (x ∷ xs) = ap₂ (λ a b. a && b) (h x) (all-same p q h xs)

tested-same : {A : Type 0} (field : Field) (p q : A → Bool) → ((x : A) → p x ≡ q x) → (r : Result A FileError) → (r >>= λ x. tested field (p x) x) ≡ (r >>= λ x. tested field (q x) x)
tested-same field p q h (Ok x) = ap (λ b. tested field b x) (h x)
tested-same field p q h (Err e) = refl

edge-same : (f g : ℕ → Option ℕ) → Agree f g → (e : Edge) → edge_holds f e ≡ edge_holds g e
edge-same f g h e = rw (h e.from, h e.to) refl

-- by look-ups that agree the same edges pass
pub edges-rule-same : (f g : ℕ → Option ℕ) → Agree f g → (es : List Edge) → edges_hold f es ≡ edges_hold g es
unfolding edges_hold
edges-rule-same f g h es = rw (all-same (edge_holds f) (edge_holds g) (edge-same f g h) es) refl

edges-same : (f g : ℕ → Option ℕ) → Agree f g → (found : Found) → edges_from f found ≡ edges_from g found
edges-same f g h found = tested-same Edges (edges_hold f) (edges_hold g) (edges-rule-same f g h) (or_shape Edges found.edges)

block-same : (f g : ℕ → Option ℕ) → Agree f g → (n : ℕ) (b : Block) → block_holds f n b ≡ block_holds g n b
block-same f g h n b = rw (h b.p, h b.q) refl

-- by look-ups that agree the same blocks pass
pub blocks-rule-same : (f g : ℕ → Option ℕ) → Agree f g → (n : ℕ) (ss : List Split) (bs : List Block) → blocks_hold f n ss bs ≡ blocks_hold g n ss bs
unfolding blocks_hold
blocks-rule-same f g h n ss bs = rw (all-same (block_holds f n) (block_holds g n) (block-same f g h n) bs) refl

blocks-same : (f g : ℕ → Option ℕ) → Agree f g → (n : ℕ) (ss : List Split) (found : Found) → blocks_from f n ss found ≡ blocks_from g n ss found
blocks-same f g h n ss found = tested-same Blocks (blocks_hold f n ss) (blocks_hold g n ss) (blocks-rule-same f g h n ss) (or_shape Blocks found.blocks)

-- by look-ups that agree the same is read after the partitions
pub others-same : (f g : ℕ → Option ℕ) → Agree f g → (ts : List (List ℕ)) (kinds : Kinds) (ps : List Partition) (found : Found) → after_partitions f ts kinds ps found ≡ after_partitions g ts kinds ps found
others-same f g h ts kinds ps found =
    then-same _ _ _ _ (edges-same f g h found) (λ es.
    then-same (invariants_from kinds (length ts) (length ps) found) _ _ _ refl (λ ls.
    then-same (merges_from found) _ _ _ refl (λ ms.
    then-same (splits_from (length ls) found) _ _ _ refl (λ ss.
    ap (λ r. r >>= λ bs. Ok (record { types = ts; kinds = kinds; partitions = ps; edges = es; invariants = ls; splits = ss; merges = ms; blocks = bs })) (blocks-same f g h (length ls) ss found)))))

-- what is still to be read after the kinds
abbrev after_kinds : List (List ℕ) → Kinds → Found → Result Model FileError
after_kinds ts kinds found = partitions_from (length ts) found >>= λ ps. after_partitions (type_of ps) ts kinds ps found

-- what is still to be read after the types
abbrev pub after_types : Version → List (List ℕ) → Found → Result Model FileError
after_types version ts found = kinds_tested version found >>= λ kinds. after_kinds ts kinds found

module _ (version : Version) (found : Found) (ts : List (List ℕ)) (types : types_from version found ≡ Ok ts) where
  -- where the types are read, the parts come down to what is read after them
  pub from-kinds : parts_from version found ≡ after_types version ts found
  from-kinds = ap (λ r. r >>= λ xs. after_types version xs found) types

  module _ (kinds : Kinds) (named : kinds_tested version found ≡ Ok kinds) where
    -- where the kinds are read, the parts come down to what is read after them
    pub from-partitions : parts_from version found ≡ after_kinds ts kinds found
    from-partitions = from-kinds ∙ ap (λ r. r >>= λ k. after_kinds ts k found) named

    -- where the partitions are read, the parts come down to what is read after them, by a look-up that agrees
    pub from-others : (ps : List Partition) (type : ℕ → Option ℕ) → Agree type (type_of ps) → partitions_from (length ts) found ≡ Ok ps → parts_from version found ≡ after_partitions type ts kinds ps found
    from-others ps type agree partitions =
        from-partitions ∙ ap (λ r. r >>= λ xs. after_partitions (type_of xs) ts kinds xs found) partitions ∙ sym (others-same type (type_of ps) agree ts kinds ps found)

-- where the partitions are refused, so are the parts, if the kinds were read before
pub partitions-refused : (version : Version) (found : Found) (ts : List (List ℕ)) → types_from version found ≡ Ok ts → (e refusal : FileError) (answer : Result (Unit {0}) FileError) → answer ≡ Err refusal → refusal ≡ e → Fails e (partitions_from (length ts) found)
    → (kinds : Kinds) → kinds_tested version found ≡ Ok kinds → IfErr answer (λ x. Fails x (parts_from version found))
partitions-refused version found ts types e refusal answer failed same h kinds named = fails-at e refusal answer _ (partitions_from (length ts) found) _ failed same (from-partitions version found ts types kinds named) h

-- ---- after the partitions

module _ (type : ℕ → Option ℕ) (ts : List (List ℕ)) (kinds : Kinds) (ps : List Partition) (found : Found) where
  abbrev Whole : Result Model FileError
  Whole = after_partitions type ts kinds ps found

  abbrev After_splits : List Edge → List Listed → List Merge → List Split → Result Model FileError
  After_splits es ls ms ss = blocks_from type (length ls) ss found >>= λ bs. Ok (record { types = ts; kinds = kinds; partitions = ps; edges = es; invariants = ls; splits = ss; merges = ms; blocks = bs })

  abbrev After_merges : List Edge → List Listed → List Merge → Result Model FileError
  After_merges es ls ms = splits_from (length ls) found >>= λ ss. After_splits es ls ms ss

  abbrev After_invariants : List Edge → List Listed → Result Model FileError
  After_invariants es ls = merges_from found >>= λ ms. After_merges es ls ms

  abbrev After_edges : List Edge → Result Model FileError
  After_edges es = invariants_from kinds (length ts) (length ps) found >>= λ ls. After_invariants es ls

  -- the edges come first
  pub from-edges : Whole ≡ (edges_from type found >>= λ es. After_edges es)
  from-edges = refl

  module _ (es : List Edge) (edges : edges_from type found ≡ Ok es) where
    -- where the edges are read, it comes down to what is read after them
    pub from-invariants : Whole ≡ After_edges es
    from-invariants = ap (λ r. r >>= λ xs. After_edges xs) edges

    module _ (ls : List Listed) (invariants : invariants_from kinds (length ts) (length ps) found ≡ Ok ls) where
      -- where the invariants are read, it comes down to what is read after them
      pub from-merges : Whole ≡ After_invariants es ls
      from-merges = from-invariants ∙ ap (λ r. r >>= λ xs. After_invariants es xs) invariants

      module _ (ms : List Merge) (merges : merges_from found ≡ Ok ms) where
        -- where the merges are read, the splits and the blocks are left
        pub from-splits : Whole ≡ After_merges es ls ms
        from-splits = from-merges ∙ ap (λ r. r >>= λ xs. After_merges es ls xs) merges

        -- where the splits are read, the blocks are left
        pub from-blocks : (ss : List Split) → splits_from (length ls) found ≡ Ok ss → Whole ≡ After_splits es ls ms ss
        from-blocks ss splits = from-splits ∙ ap (λ r. r >>= λ xs. After_splits es ls ms xs) splits
