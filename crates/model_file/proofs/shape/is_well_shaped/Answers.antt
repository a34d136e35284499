use Rattle.std.proofs.Common.{◌≡◌, ◌≤◌, ◌<◌, ℕ, true, false, List, Option, length, sym, ap, subst, ◌∙◌, arith}
use Rattle.std.proofs.lemmas.List.Elements.{All-from_recursion}
use Rattle.limits.specs.declared.TheConstants.{MAX_TYPES, MAX_PARTITIONS}
use Rattle.invariants.specs.declared.records.Partition.{Partition}
use Rattle.model_file.specs.Rules.{types_hold, partitions_hold, type_of}
use Rattle.model_file.specs.Table.{type_at}
use Rattle.model_file.proofs.Bounds.{few-types, all-weaker, numbered, IsNumbered}
use Rattle.model_file.proofs.Telling.{no-types, no-partitions, others-tell}
use Rattle.model_file.proofs.shape.is_well_shaped.Goals as goal

pub returns-then-not-types_hold : goal.returns-then-not-types_hold
returns-then-not-types_hold c =
    let m = c.args.model.now in
    no-types m (subst (λ (ts : List (List ℕ)). types_hold MAX_TYPES ts ≡ false) c.as_slice.ensures (sym c.types_hold.ensures ∙ c.if-not-types_hold.true))

pub partitions_hold-requires : goal.partitions_hold-requires
partitions_hold-requires c =
    let m = c.args.model.now in
    let t : types_hold MAX_TYPES m.types ≡ true = subst (λ (ts : List (List ℕ)). types_hold MAX_TYPES ts ≡ true) c.as_slice.ensures (sym c.types_hold.ensures ∙ c.if-not-types_hold.false) in
    let few : length m.types ≤ MAX_TYPES = few-types MAX_TYPES m.types t in
    omega (arith, few, c.len.ensures)

pub returns-then-not-partitions_hold : goal.returns-then-not-partitions_hold
returns-then-not-partitions_hold c =
    let m = c.args.model.now in
    let n = c.len.result in
    let p : partitions_hold n m.partitions ≡ false =
    subst (λ (ps : List Partition). partitions_hold n ps ≡ false) c.as_slice-2.ensures (sym c.partitions_hold.ensures ∙ c.if-not-partitions_hold.true) in
    no-partitions m (subst (λ (k : ℕ). partitions_hold k m.partitions ≡ false) c.len.ensures p)

pub types_by_id-requires : goal.types_by_id-requires
types_by_id-requires c =
    let m = c.args.model.now in
    let n = c.len.result in
    let ps = c.as_slice-3.result.now in
    let p : partitions_hold n m.partitions ≡ true =
    subst (λ (ps : List Partition). partitions_hold n ps ≡ true) c.as_slice-2.ensures (sym c.partitions_hold.ensures ∙ c.if-not-partitions_hold.false) in
    let all = numbered n ps (subst (λ (ps : List Partition). partitions_hold n ps ≡ true) (sym c.as_slice-3.ensures) p) in
    All-from_recursion (λ (p : Partition). p.id < MAX_PARTITIONS) ps (all-weaker (IsNumbered n) (λ (p : Partition). p.id < MAX_PARTITIONS) (λ p x. x.id) ps all)

pub others_hold-requires : goal.others_hold-requires
others_hold-requires c =
    let m = c.args.model.now in
    few-types MAX_TYPES m.types (subst (λ (ts : List (List ℕ)). types_hold MAX_TYPES ts ≡ true) c.as_slice.ensures (sym c.types_hold.ensures ∙ c.if-not-types_hold.false))

pub returns : goal.returns
returns c =
    let m = c.args.model.now in
    let n = c.len.result in
    let t : types_hold MAX_TYPES m.types ≡ true = subst (λ (ts : List (List ℕ)). types_hold MAX_TYPES ts ≡ true) c.as_slice.ensures (sym c.types_hold.ensures ∙ c.if-not-types_hold.false) in
    let p : partitions_hold n m.partitions ≡ true =
    subst (λ (ps : List Partition). partitions_hold n ps ≡ true) c.as_slice-2.ensures (sym c.partitions_hold.ensures ∙ c.if-not-partitions_hold.false) in
    let q : partitions_hold (length m.types) m.partitions ≡ true = subst (λ (k : ℕ). partitions_hold k m.partitions ≡ true) c.len.ensures p in
    let agree : (id : ℕ) → type_at c.deref.result.now id ≡ type_of m.partitions id =
    λ id. ap (λ (xs : List (Option ℕ)). type_at xs id) c.deref.ensures.value ∙ c.in_ok-table.ensures id ∙ ap (λ (ps : List Partition). type_of ps id) c.as_slice-3.ensures in
    others-tell m (type_at c.deref.result.now) c.others_hold.result t q agree c.others_hold.ensures
