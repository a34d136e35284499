-- The parts of what was found are those of the JSON value.
use Rattle.std.proofs.Common.{◌≡◌, ◌≤◌, ℕ, length, Bool, true, false, not, List, [], Option, Some, None, unwrap_or, Ok, Err, refl, sym, ap, ap₂, ◌∙◌}
use Rattle.std.specs.Option.{option_and_then}
use Rattle.serde_json.specs.Data.{Data, object, Members}
use Rattle.serde_json.specs.Find.{get_member, as_str, as_object, as_number, as_u64}
use Rattle.std.specs.Prelude.{codes}
use Rattle.invariants.specs.declared.Kinds.{Kinds}
use Rattle.invariants.specs.declared.Kinds.TheVariants.{Three}
use Rattle.invariants.specs.declared.records.Partition.{Partition}
use Rattle.invariants.specs.declared.records.Edge.{Edge}
use Rattle.invariants.specs.declared.records.Listed.{Listed}
use Rattle.invariants.specs.declared.records.Merge.{Merge}
use Rattle.invariants.specs.declared.records.Split.{Split}
use Rattle.invariants.specs.declared.records.Block.{Block}
use Rattle.model_file.specs.declared.version.Version.{Version}
use Rattle.model_file.specs.declared.version.Version.TheVariants.{One, Two}
use Rattle.model_file.specs.declared.refusal.FileError.TheVariants.{Shape}
use Rattle.model_file.specs.declared.refusal.Field.{Field}
use Rattle.model_file.specs.declared.refusal.Field.TheVariants.{Root, Extra, Types, Kinds as KindsField, Partitions, Edges, Invariants, Merges, Splits, Blocks}
use Rattle.model_file.specs.Versions.{max_types, max_bytes}
use Rattle.model_file.specs.Rules.{type_of, types_hold, partitions_hold, edges_hold, invariants_hold, merges_hold, splits_hold, blocks_hold}
use Rattle.model_file.specs.Entries.{listed_in, split_in, block_in}
use Rattle.model_file.specs.Lists.{types_over, invariants_over, splits_over, blocks_over}
use Rattle.model_file.proofs.Kept.{kept-tested, types-break, invariants-break, splits-break, blocks-break}
use Rattle.model_file.proofs.Fails.{then-same, reads-value}
use Rattle.model_file.proofs.Shapes.{tested-ok, ok-is}
use Rattle.model_file.specs.declared.found.Found.{Found}
use Rattle.model_file.specs.Streams.{whole_in}
use Rattle.model_file.specs.Reading.{◌>>=◌, or_shape, tested, if_of, has_no_extra, root_in, version_in, keys_in, head_in, part_in, types_in, kinds_in, partitions_in, edges_in, invariants_in, merges_in, splits_in, blocks_in, parts_in, model_in, value_of, reads_as}
use Rattle.model_file.specs.Found.{found_in, HasMembers, head_from, types_from, kinds_tested, partitions_from, edges_from, invariants_from, merges_from, splits_from, blocks_from, parts_from, kinds_from, model_from, with_others}

in-turn : (o : Option Data) → option_and_then as_u64 (option_and_then as_number o) ≡ option_and_then whole_in o
in-turn None = refl
in-turn (Some d) = refl

not-not : (b : Bool) → b ≡ not (not b)
not-not true = refl
not-not false = refl

of-object : (version : Version) (ms : Members) → head_in version (object ms) ≡ head_from version (found_in version ms)
unfolding head_in root_in version_in keys_in found_in
of-object version ms =
    ap₂ (λ n b. if_of version n >>= λ v. tested Extra b tt) (in-turn (get_member (codes "version") ms)) (not-not (has_no_extra version ms))

module _ (version : Version) (ms : Members) where
  -- the members' value, and what is found in it
  abbrev Value : Data
  Value = object ms

  abbrev It : Found
  It = found_in version ms

  types-found : types_in version Value ≡ types_from version It
  unfolding types_in part_in found_in
  types-found = kept-tested types_over (types_hold (max_types version)) (types-break version) as_str Types (get_member (codes "types") ms)

  invariants-found : (kinds : Kinds) (types partitions : ℕ) → invariants_in kinds types partitions Value ≡ invariants_from kinds types partitions It
  unfolding invariants_in part_in found_in
  invariants-found kinds types partitions = kept-tested invariants_over (invariants_hold kinds types partitions) (invariants-break kinds types partitions) listed_in Invariants (get_member (codes "invariants") ms)

  splits-found : (invariants : ℕ) → splits_in invariants Value ≡ splits_from invariants It
  unfolding splits_in part_in found_in
  splits-found invariants = kept-tested splits_over (splits_hold invariants) (splits-break invariants) split_in Splits (get_member (codes "splits") ms)

  blocks-found : (type : ℕ → Option ℕ) (invariants : ℕ) (ss : List Split) → blocks_in type invariants ss Value ≡ blocks_from type invariants ss It
  unfolding blocks_in part_in found_in
  blocks-found type invariants ss = kept-tested blocks_over (blocks_hold type invariants ss) (blocks-break type invariants ss) block_in Blocks (get_member (codes "blocks") ms)

  partitions-found : (types : ℕ) → partitions_in types Value ≡ partitions_from types It
  unfolding partitions_in part_in found_in
  partitions-found types = refl

  edges-found : (type : ℕ → Option ℕ) → edges_in type Value ≡ edges_from type It
  unfolding edges_in part_in found_in
  edges-found type = refl

  merges-found : merges_in Value ≡ merges_from It
  unfolding merges_in part_in found_in
  merges-found = refl

kinds-found : (version : Version) (ms : Members) → kinds_in version (object ms) ≡ kinds_tested version (found_in version ms)
unfolding kinds_in found_in
kinds-found One ms = refl
kinds-found Two ms = refl

of-parts : (version : Version) (ms : Members) → parts_in version (object ms) ≡ parts_from version (found_in version ms)
unfolding parts_in
of-parts version ms =
    then-same _ _ _ _ (types-found version ms) (λ ts.
    then-same _ _ _ _ (kinds-found version ms) (λ kinds.
    then-same _ _ _ _ (partitions-found version ms (length ts)) (λ ps.
    then-same _ _ _ _ (edges-found version ms (type_of ps)) (λ es.
    then-same _ _ _ _ (invariants-found version ms kinds (length ts) (length ps)) (λ ls.
    then-same _ _ _ _ (merges-found version ms) (λ ns.
    then-same _ _ _ _ (splits-found version ms (length ls)) (λ ss.
    ap (λ r. r >>= λ bs. Ok (record { types = ts; kinds = kinds; partitions = ps; edges = es; invariants = ls; splits = ss; merges = ns; blocks = bs })) (blocks-found version ms (type_of ps) (length ls) ss))))))))

module _ (version : Version) (f : Found) (d : Data) (h : HasMembers version f d) where
  pub head-is : head_in version d ≡ head_from version f
  head-is = ap (head_in version) h.1 ∙ of-object version h.0 ∙ ap (head_from version) (sym h.2)

  -- the model of the value is that of what was found
  pub parts-are : parts_in version d ≡ parts_from version f
  parts-are = ap (parts_in version) h.1 ∙ of-parts version h.0 ∙ ap (parts_from version) (sym h.2)

-- ---- the model of what was found

took : {A : Type 0} (field : Field) (rule : List A → Bool) (o : Option (List A)) (x : List A) → (or_shape field o >>= λ y. tested field (rule y) y) ≡ Ok x → unwrap_or o [] ≡ x
took field rule None x e = absurd cc
took field rule (Some y) x e = (tested-ok field (rule y) y x e).1

kinds-took : (version : Version) (f : Found) (kinds : Kinds) → kinds_tested version f ≡ Ok kinds → kinds_from version f.kinds ≡ kinds
kinds-took One f kinds e = ok-is Three kinds e
kinds-took Two f kinds e = named f.kinds e
  where
    named : (o : Option Kinds) → or_shape KindsField o ≡ Ok kinds → unwrap_or o Three ≡ kinds
    named None e = absurd cc
    named (Some k) e = ok-is k kinds e

-- where the types, the kinds and the partitions are read, the model of what was found has these
pub model-is : (version : Version) (f : Found) (ts : List (List ℕ)) (kinds : Kinds) (n : ℕ) (ps : List Partition)
    → types_from version f ≡ Ok ts → kinds_tested version f ≡ Ok kinds → partitions_from n f ≡ Ok ps
    → model_from version f ≡ with_others ts kinds ps f
model-is version f ts kinds n ps types named partitions =
    rw (
      took Types (types_hold (max_types version)) f.types ts types,
      kinds-took version f kinds named,
      took Partitions (partitions_hold n) f.partitions ps partitions,
    ) refl

-- where the other parts are read, it has these too
pub others-are : (type : ℕ → Option ℕ) (ts : List (List ℕ)) (kinds : Kinds) (ps : List Partition) (f : Found) (es : List Edge) (k m : ℕ) (ls : List Listed) (ms : List Merge) (i : ℕ) (ss : List Split) (j : ℕ) (bs : List Block)
    → edges_from type f ≡ Ok es → invariants_from kinds k m f ≡ Ok ls → merges_from f ≡ Ok ms → splits_from i f ≡ Ok ss → blocks_from type j ss f ≡ Ok bs
    → with_others ts kinds ps f ≡ record { types = ts; kinds = kinds; partitions = ps; edges = es; invariants = ls; splits = ss; merges = ms; blocks = bs }
others-are type ts kinds ps f es k m ls ms i ss j bs edges invariants merges splits blocks =
    rw (
      took Edges (edges_hold type) f.edges es edges,
      took Invariants (invariants_hold kinds k m) f.invariants ls invariants,
      took Merges merges_hold f.merges ms merges,
      took Splits (splits_hold i) f.splits ss splits,
      took Blocks (blocks_hold type j ss) f.blocks bs blocks,
    ) refl

-- ---- the whole

-- bytes whose value is no object are refused for it
pub root-refused : (version : Version) (bytes : List ℕ) (d : Data) → length bytes ≤ max_bytes version → value_of bytes ≡ Some d → as_object d ≡ None → reads_as version bytes ≡ Err (Shape Root)
unfolding model_in head_in root_in
root-refused version bytes d short is none =
    reads-value version bytes d short is ∙ ap (λ o. (or_shape Root o >>= λ ms. version_in version d >>= λ v. keys_in version ms) >>= λ h. parts_in version d) none

-- bytes whose value is an object are read as what was found in it
pub as-found : (version : Version) (bytes : List ℕ) (d : Data) (f : Found) → length bytes ≤ max_bytes version → value_of bytes ≡ Some d → HasMembers version f d → reads_as version bytes ≡ (head_from version f >>= λ h. parts_from version f)
unfolding model_in
as-found version bytes d f short is h =
    reads-value version bytes d short is ∙ ap₂ (λ r p. r >>= λ x. p) (head-is version f d h) (parts-are version f d h)
