-- What is kept when an id is met.
use Rattle.std.proofs.Common.{◌≡◌, ◌≢◌, ◌⊎◌, ◌==◌, nat_lt, ℕ, zero, suc, ◌+◌, ◌<◌, ◌≤◌, true, false, not, ◌&&◌, refl, Bool, List, [], ◌∷◌, ◌++◌, length, replicate, slice_get, set, get_or, count_by, Some, sym, ◌∙◌, ap, subst, inl, inr, arith, get_or-set_same, get_or-set_other, length-append, if◌then◌else◌, sum_by}
use Rattle.std.proofs.lemmas.Bool.{cases_eq, cases_lt, cases_Bool, and_parts, ltb-true, eqb-true, true≢false}
use Rattle.std.proofs.lemmas.List.{length-set, length-replicate}
use Rattle.std.proofs.lemmas.List.Sums.{sum_by-set, count_by-le-length}
use Rattle.std.proofs.lemmas.Option.{same_Some, slice_get_within}
use Rattle.limits.specs.declared.TheConstants.{MAX_PARTITIONS}
use Rattle.path_finder.specs.Nearness.{Met, is_met, is_of_type, IsClosed}
use Rattle.partition_model.specs.Graphs.{Graph}
use Rattle.partition_graph.specs.Parts.{HasEdgesBelow}
use Rattle.path_finder.specs.declared.reach.Way.{Way}
use Rattle.path_finder.specs.declared.reach.Way.TheVariants.{Ahead, Behind}
use Rattle.path_finder.specs.Reaching.{edge_by, meeting, IsCounted, IsReaching, MeetsMore}

-- elements of a list with one more at its end
pub slice_get_kept : {X : Type 0} (xs ys : List X) (i : ℕ) (x : X) → slice_get xs i ≡ Some x → slice_get (xs ++ ys) i ≡ Some x
slice_get_kept [] ys i x e = absurd (cc e)
slice_get_kept (y ∷ xs) ys zero x e = e
slice_get_kept (y ∷ xs) ys (suc i) x e = slice_get_kept xs ys i x e

-- the element that was put at the end
pub slice_get_last : {X : Type 0} (xs : List X) (y : X) → slice_get (xs ++ y ∷ []) (length xs) ≡ Some y
slice_get_last [] y = refl
slice_get_last (x ∷ xs) y = slice_get_last xs y

-- an element of a longer list is an earlier one or the last
pub slice_get_push : {X : Type 0} (xs : List X) (y : X) (i : ℕ) (x : X) → slice_get (xs ++ y ∷ []) i ≡ Some x → (slice_get xs i ≡ Some x) ⊎ ((i ≡ length xs) × (y ≡ x))
slice_get_push [] y zero x e = inr (refl, same_Some y x e)
slice_get_push [] y (suc i) x e = absurd (cc e)
slice_get_push (z ∷ xs) y zero x e = inl e
slice_get_push (z ∷ xs) y (suc i) x e = elim (slice_get_push xs y i x e) [ inl a ↦ inl a | inr b ↦ inr (ap suc b.0, b.1) ]

-- the id is put behind those that are met
abbrev pub with_id : Met → ℕ → Met
with_id m id = record { flags = set m.flags id true; list = m.list ++ id ∷ [] }

-- an id that was met changes nothing
pub met_again : (m : Met) (id : ℕ) → is_met m id ≡ true → meeting m id ≡ m
met_again m id e = ap (λ (b : Bool). if b then m else with_id m id) e

-- an id that was not met is put behind the others
pub met_first : (m : Met) (id : ℕ) → is_met m id ≡ false → meeting m id ≡ with_id m id
met_first m id e = ap (λ (b : Bool). if b then m else with_id m id) e

-- where one flag more is set, there is one less that is not
pub unmet_fewer : (xs : List Bool) (i : ℕ) → i < length xs → get_or xs i false ≡ false → count_by not (set xs i true) + 1 ≡ count_by not xs
unmet_fewer xs i l o =
    let f : Bool → ℕ = λ x. if not x then 1 else 0 in
    let s : sum_by f (set xs i true) + f (get_or xs i false) ≡ sum_by f xs + f true = sum_by-set f xs i true false l in
    let u : f (get_or xs i false) ≡ 1 = ap f o in
    (let w : count_by not (set xs i true) + f (get_or xs i false) ≡ count_by not xs + 0 = s in omega arith)

-- none of these flags is set
pub none_met : (n i : ℕ) → get_or (replicate n false) i false ≡ true → ⊥
none_met zero i e = let x : true ≡ false = sym e in cc
none_met (suc n) zero e = let x : true ≡ false = sym e in cc
none_met (suc n) (suc i) e = none_met n i e

-- the flag of the new id is set
pub with_met : (m : Met) (id : ℕ) → id < length m.flags → is_met (with_id m id) id ≡ true
with_met m id l = get_or-set_same m.flags id true false l

-- where an id is put behind those that are met, these stay so, at their places
pub with_more : (m : Met) (id : ℕ) → id < length m.flags → MeetsMore m (with_id m id)
with_more m id l =
    record {
      met = λ p e. elim (cases_eq p id) [
        | inl q ↦ ap (λ (x : ℕ). is_met (with_id m id) x) q ∙ with_met m id l
        | inr n ↦ get_or-set_other m.flags id p true false n ∙ e
      ];
      listed = λ i p e. slice_get_kept m.list (id ∷ []) i p e;
    }

-- where a new id is put behind those that are met, there is still room for all others
pub with_counted : (m : Met) (id : ℕ) → id < MAX_PARTITIONS → is_met m id ≡ false → IsCounted m → IsCounted (with_id m id)
with_counted m id l o c =
    let z : length m.flags ≡ MAX_PARTITIONS = c.size in
    let k : length m.list + count_by not m.flags ≤ MAX_PARTITIONS = c.count in
    let f : count_by not (set m.flags id true) + 1 ≡ count_by not m.flags = unmet_fewer m.flags id (omega arith) o in
    let n : length (m.list ++ id ∷ []) ≡ length m.list + 1 = length-append m.list (id ∷ []) in
    record { size = length-set m.flags id true ∙ c.size; count = omega arith }

-- where a new id is put behind those that are met, all edges of the first ones of the list are still followed
pub with_reaching : (edge : ℕ → ℕ → Bool) (next : ℕ) (m : Met) (id : ℕ) → next ≤ length m.list → id < MAX_PARTITIONS → is_met m id ≡ false → IsReaching edge next m
    → IsReaching edge next (with_id m id)
with_reaching edge next m id w l o s =
    let z : length m.flags ≡ MAX_PARTITIONS = s.counted.size in
    let b : id < length m.flags = omega arith in
    record {
      counted = with_counted m id l o s.counted;
      listed = λ p e. elim (cases_eq p id) [
        | inl q ↦ (length m.list, slice_get_last m.list id ∙ ap (λ (x : ℕ). Some x) (sym q))
        | inr n ↦
            let f : (i : ℕ) × (slice_get m.list i ≡ Some p) = s.listed p (sym (get_or-set_other m.flags id p true false n) ∙ e) in
            (f.0, slice_get_kept m.list (id ∷ []) f.0 p f.1)
      ];
      done = λ i p q lt e d. elim (slice_get_push m.list id i p e) [
        | inl old ↦ (with_more m id b).met q (s.done i p q lt old d)
        | inr new ↦ absurd (let x : i ≡ length m.list = new.0 in omega arith)
      ];
    }

-- where an id is met, new or not, all edges of the first ones of the list are still followed
pub meets_reaching : (edge : ℕ → ℕ → Bool) (next : ℕ) (m : Met) (id : ℕ) → next ≤ length m.list → id < MAX_PARTITIONS → IsReaching edge next m
    → IsReaching edge next (meeting m id) × MeetsMore m (meeting m id) × (is_met (meeting m id) id ≡ true)
meets_reaching edge next m id w l s =
    elim (cases_Bool (is_met m id)) [
      | inl y ↦
          subst (λ (x : Met). IsReaching edge next x × MeetsMore m x × (is_met x id ≡ true)) (sym (met_again m id y))
          (s, record { met = λ p e. e; listed = λ i p e. e }, y)
      | inr n ↦
          let z : length m.flags ≡ MAX_PARTITIONS = s.counted.size in
          subst (λ (x : Met). IsReaching edge next x × MeetsMore m x × (is_met x id ≡ true)) (sym (met_first m id n))
          (with_reaching edge next m id w l n s, with_more m id (omega arith), with_met m id (omega arith))
    ]

-- what is left where an id is met that was not
pub record Added (old new : Met) (id : ℕ) : Type 0 where
  pub counted : IsCounted new
  pub longer : length new.list ≡ length old.list + 1
  pub reaching : (edge : ℕ → ℕ → Bool) (next : ℕ) → next ≤ length old.list → IsReaching edge next old → IsReaching edge next new
  pub more : MeetsMore old new
  pub met : is_met new id ≡ true
  pub others : (n : ℕ) → n ≢ id → is_met new n ≡ is_met old n

pub added : (m : Met) (id : ℕ) → id < MAX_PARTITIONS → is_met m id ≡ false → IsCounted m → Added m (meeting m id) id
added m id l o c =
    let z : length m.flags ≡ MAX_PARTITIONS = c.size in
    let w : id < length m.flags = omega (arith, z, l) in
    subst (λ (x : Met). Added m x id) (sym (met_first m id o)) (record {
      counted = with_counted m id l o c;
      longer = length-append m.list (id ∷ []);
      reaching = λ edge next low r. with_reaching edge next m id low l o r;
      more = with_more m id w;
      met = with_met m id w;
      others = λ n apart. get_or-set_other m.flags id n true false apart;
    })

-- at first none is met
pub blank_reaching : (edge : ℕ → ℕ → Bool) (m : Met) (n : ℕ) → n ≡ MAX_PARTITIONS → m.flags ≡ replicate n false → m.list ≡ [] → IsReaching edge 0 m
blank_reaching edge m n k f l =
    let z : length m.flags ≡ MAX_PARTITIONS = ap length f ∙ (length-replicate n false ∙ k) in
    let c : count_by not m.flags ≤ length m.flags = count_by-le-length not m.flags in
    let o : length m.list ≡ 0 = ap length l in
    record {
      counted = record { size = z; count = omega arith };
      listed = λ p e. absurd (none_met n p (ap (λ (x : List Bool). get_or x p false) (sym f) ∙ e));
      done = λ i p q lt e d. absurd (omega arith);
    }

-- where the edges of all that are met were followed, each id to which a walk leads is met
pub all_followed : (edge : ℕ → ℕ → Bool) (next : ℕ) (m : Met) → IsReaching edge next m → length m.list ≤ next → IsClosed (is_met m) edge
all_followed edge next m s l p q a d =
    let f : (i : ℕ) × (slice_get m.list i ≡ Some p) = s.listed p a in
    let w : f.0 < length m.list = slice_get_within m.list f.0 p f.1 in
    s.done f.0 p q (omega arith) f.1 d

-- an id with the type, below the bound
pub of_type_tells : (g : Graph) (ids typ p : ℕ) → is_of_type g ids typ p ≡ true → (p < ids) × (g.typ p ≡ typ)
of_type_tells g ids typ p e =
    let parts : (nat_lt p ids ≡ true) × ((g.typ p == typ) ≡ true) = and_parts (nat_lt p ids) (g.typ p == typ) e in
    (ltb-true p ids parts.0, eqb-true (g.typ p) typ parts.1)

-- where all to which an edge leads from the next one of the list are met, its edges were followed too
pub reaching_next : (edge : ℕ → ℕ → Bool) (next id : ℕ) (m : Met) → IsReaching edge next m → slice_get m.list next ≡ Some id
    → ((q : ℕ) → edge id q ≡ true → is_met m q ≡ true) → IsReaching edge (next + 1) m
reaching_next edge next id m s there followed =
    record {
      counted = s.counted;
      listed = s.listed;
      done = λ i p q l at e. elim (cases_lt i next) [
        | inl below ↦ s.done i p q below at e
        | inr above ↦
            let same : i ≡ next = omega arith in
            let is : p ≡ id = same_Some p id (sym at ∙ ap (slice_get m.list) same ∙ there) in
            followed q (subst (λ (x : ℕ). edge x q ≡ true) is e)
      ];
    }

-- one of those is not met
pub new-unmet : (e m : Bool) → (e && not m) ≡ true → m ≡ false
new-unmet true true u = sym u
new-unmet true false u = refl
new-unmet false m u = absurd (true≢false (sym u))

-- the id to which an edge leads is below the bound on ids, in either direction
pub edge-below : (way : Way) (g : Graph) (ids p q : ℕ) → HasEdgesBelow g ids → edge_by way g p q ≡ true → q < ids
edge-below Ahead g ids p q below e = (below p q e).1
edge-below Behind g ids p q below e = (below q p e).0
