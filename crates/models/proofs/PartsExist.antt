-- A model is valid for a log, or one part of it is the first that fails.
use Rattle.std.proofs.Common.{◌≡◌, ◌↔◌, ◌⊎◌, ℕ, zero, suc, ◌+◌, ◌<◌, ◌==◌, Bool, true, false, List, [], ◌∷◌, ◌++◌, slice_get, Some, sym, ◌∙◌, refl, ap, ap₂, subst, subst₂, inl, inr, arith, eqb-true}
use Rattle.std.proofs.lemmas.Bool.{cases_eq, or_cases}
use Rattle.std.proofs.lemmas.Option.{none-some}
use Rattle.std.specs.List.{AllByRecursion}
use Rattle.invariants.specs.declared.Kind.{Kind}
use Rattle.invariants.specs.declared.Kind.TheVariants.{AF, NF, AP, IB}
use Rattle.invariants.specs.declared.Invariant.{Invariant}
use Rattle.invariants.specs.declared.records.Partition.{Partition}
use Rattle.invariants.specs.declared.records.Edge.{Edge}
use Rattle.invariants.specs.declared.records.Listed.{Listed}
use Rattle.invariants.specs.declared.records.Merge.{Merge}
use Rattle.invariants.specs.declared.records.Block.{Block}
use Rattle.invariants.specs.declared.records.Model.{Model}
use Rattle.invariants.specs.Monitors.{step, is_bad}
use Rattle.partition_model.specs.Graphs.{Walk, IsPath, word, Accepts, Breaks, Merged}
use Rattle.partition_model.specs.Coarsening.{IsPair, PairBefore}
use Rattle.partition_model.specs.Laws.{PairsAscend, IsAmong}
use Rattle.partition_model.proofs.Lists.{In, all_in}
use Rattle.partition_model.proofs.Listing.{Contains-In, In-Contains}
use Rattle.partition_bounds.specs.Pairs.{pairs_below}
use Rattle.partition_bounds.proofs.Ordered.{pair-asym, pair-next}
use Rattle.partition_bounds.proofs.Pairing.{pairs_tell}
use Rattle.models.specs.declared.parts.Part.TheVariants as part
use Rattle.models.specs.Models.{mined_of, has_edge, graph_of, has_state, label_at, IsInLabel, IsLabelled}
use Rattle.models.specs.Checks.{IsBlocked, IsAccepted, IsFirstFailure, DiffersAt}
use Rattle.models.specs.Laws.{FirstPartExists}
use Rattle.models.proofs.Agreeing.{In-edges, edge-in}
use Rattle.models.proofs.Valid.{three-states}
use Rattle.models.proofs.Deciding.{OrNot, both, same-or-not, number-or-not, true-or-not, breaks-or-not, option-cases, some-same, from-or-not, all-or-not, any-or-not}
use Rattle.model_shape.specs.Shapes.{listing_of, listed_type, is_listed}

-- two kinds are the same or not
kind-or-not : (a b : Kind) → OrNot (a ≡ b)
kind-or-not AF AF = inl refl
kind-or-not AF NF = inr (λ e. cc e)
kind-or-not AF AP = inr (λ e. cc e)
kind-or-not AF IB = inr (λ e. cc e)
kind-or-not NF AF = inr (λ e. cc e)
kind-or-not NF NF = inl refl
kind-or-not NF AP = inr (λ e. cc e)
kind-or-not NF IB = inr (λ e. cc e)
kind-or-not AP AF = inr (λ e. cc e)
kind-or-not AP NF = inr (λ e. cc e)
kind-or-not AP AP = inl refl
kind-or-not AP IB = inr (λ e. cc e)
kind-or-not IB AF = inr (λ e. cc e)
kind-or-not IB NF = inr (λ e. cc e)
kind-or-not IB AP = inr (λ e. cc e)
kind-or-not IB IB = inl refl

-- invariants of the same kind and types are the same
same-invariant : (x y : Invariant) → x.kind ≡ y.kind → x.a ≡ y.a → x.b ≡ y.b → x ≡ y
same-invariant x y e f g = λ d. record { kind = e d; a = f d; b = g d }

-- two invariants are the same or not
invariant-or-not : (x y : Invariant) → OrNot (x ≡ y)
invariant-or-not x y =
    elim (both (kind-or-not x.kind y.kind) (both (cases_eq x.a y.a) (cases_eq x.b y.b))) [
      | inl a ↦ inl (same-invariant x y a.0 a.1.0 a.1.1)
      | inr f ↦ inr (λ e. f (ap (λ (z : Invariant). z.kind) e, (ap (λ (z : Invariant). z.a) e, ap (λ (z : Invariant). z.b) e)))
    ]

-- two lists of invariants are the same, or there is a first place at which they differ
same-or-differ : (xs ys : List Invariant) → (xs ≡ ys) ⊎ ((k : ℕ) × DiffersAt xs ys k)
same-or-differ [] [] = inl refl
same-or-differ [] (y ∷ ys) = inr (0, refl)
same-or-differ (x ∷ xs) [] = inr (0, refl)
same-or-differ (x ∷ xs) (y ∷ ys) =
    elim (invariant-or-not x y) [
      | inr n ↦ inr (0, n)
      | inl e ↦ elim (same-or-differ xs ys) [
        | inl f ↦ inl (ap₂ (λ (u : Invariant) (us : List Invariant). u ∷ us) e f)
        | inr o ↦ inr (suc o.0, (e, o.1))
      ]
    ]

-- a property holds of each member of a list, or there is a first of which it does not
all-or-first : {X : Type 0} (P : X → Type 0) → ((x : X) → OrNot (P x)) → (xs : List X) → AllByRecursion P xs ⊎ ((k : ℕ) × IsFirstFailure P xs k)
all-or-first P d [] = inl tt
all-or-first P d (x ∷ xs) =
    elim (d x) [
      | inr n ↦ inr (0, n)
      | inl p ↦ elim (all-or-first P d xs) [
        | inl a ↦ inl (p, a)
        | inr o ↦ inr (suc o.0, (p, o.1))
      ]
    ]

-- some walk from p to TERMINAL goes through these types
abbrev Goes : Model → ℕ → List ℕ → Type 0
Goes m p ts = (xs : List ℕ) × Walk (graph_of m) p xs 1 × (word (graph_of m) xs ≡ ts)

-- the edge leads from p to an id of the first type, from which such a walk goes through the others
abbrev Starts : Model → ℕ → ℕ → List ℕ → Edge → Type 0
Starts m p t ts e = (e.from ≡ p) × ((listed_type e.to m.partitions ≡ t) × Goes m e.to ts)

-- where there is such an edge, there is such a walk
starts-goes : (m : Model) (p t : ℕ) (ts : List ℕ) (e : Edge) → In e m.edges → Starts m p t ts e → Goes m p (t ∷ ts)
starts-goes m p t ts e i s =
    let k : has_edge p e.to m.edges ≡ true = subst (λ (z : ℕ). has_edge z e.to m.edges ≡ true) s.0 (In-edges e m.edges i) in
    (e.to ∷ s.1.1.0, (k, s.1.1.1), ap₂ (λ (u : ℕ) (us : List ℕ). u ∷ us) s.1.0 s.1.1.2)

-- such a walk begins with such an edge
goes-starts : (m : Model) (p t : ℕ) (ts xs : List ℕ) → Walk (graph_of m) p xs 1 → word (graph_of m) xs ≡ t ∷ ts → (e : Edge) × In e m.edges × Starts m p t ts e
goes-starts m p t ts [] w f = absurd (cc f)
goes-starts m p t ts (r ∷ rs) w f =
    let o : (x : Edge) × In x m.edges × (x.from ≡ p) × (x.to ≡ r) = edge-in p r m.edges w.0 in
    let h : listed_type r m.partitions ≡ t = cc in
    let l : word (graph_of m) rs ≡ ts = cc in
    let g : Goes m o.0.to ts = subst (λ (z : ℕ). Goes m z ts) (sym o.3) (rs, w.1, l) in
    (o.0, o.1, (o.2, (ap (λ (z : ℕ). listed_type z m.partitions) o.3 ∙ h, g)))

-- a walk to TERMINAL through no types is at TERMINAL
goes-end : (m : Model) (p : ℕ) (xs : List ℕ) → Walk (graph_of m) p xs 1 → word (graph_of m) xs ≡ [] → p ≡ 1
goes-end m p [] w f = w
goes-end m p (r ∷ rs) w f = absurd (cc f)

-- such a walk is there or not
goes-or-not : (m : Model) (ts : List ℕ) (p : ℕ) → OrNot (Goes m p ts)
goes-or-not m [] p =
    elim (cases_eq p 1) [
      | inl e ↦ inl ([], e, refl)
      | inr n ↦ inr (λ o. n (goes-end m p o.0 o.1 o.2))
    ]
goes-or-not m (t ∷ ts) p =
    elim (any-or-not (Starts m p t ts) (λ e. both (cases_eq e.from p) (both (cases_eq (listed_type e.to m.partitions) t) (goes-or-not m ts e.to))) m.edges) [
      | inl o ↦ inl (starts-goes m p t ts o.0 o.1 o.2)
      | inr f ↦ inr (λ o. f (goes-starts m p t ts o.0 o.1 o.2))
    ]

-- a word is that of a path or not
accepts-or-not : (m : Model) (t : ℕ) (ts : List ℕ) → OrNot (Accepts (graph_of m) (t ∷ ts))
accepts-or-not m t ts =
    elim (both (cases_eq (listed_type 0 m.partitions) t) (goes-or-not m ts 0)) [
      | inl a ↦ inl (0 ∷ a.1.0, (refl, a.1.1), ap₂ (λ (u : ℕ) (us : List ℕ). u ∷ us) a.0 a.1.2)
      | inr f ↦ inr (λ o. f (from-path o.0 o.1 o.2))
    ]
  where
    from-path : (path : List ℕ) → IsPath (graph_of m) path → word (graph_of m) path ≡ t ∷ ts → (listed_type 0 m.partitions ≡ t) × Goes m 0 ts
    from-path [] i e = absurd i
    from-path (x ∷ xs) i e =
        let h : listed_type x m.partitions ≡ t = cc in
        let l : word (graph_of m) xs ≡ ts = cc in
        (sym (ap (λ (z : ℕ). listed_type z m.partitions) i.0) ∙ h, (xs, subst (λ (z : ℕ). Walk (graph_of m) z xs 1) i.0 i.1, l))

-- the word of a trace is that of a path or not
accepted-or-not : (m : Model) (w : List ℕ) → OrNot (IsAccepted m w)
accepted-or-not m w = accepts-or-not m 0 (w ++ 1 ∷ [])

-- along the edge a state in the label of its start leads to one in the label of its end
abbrev Passes : Model → Listed → Edge → ℕ → Type 0
Passes m l e s = IsInLabel m.partitions l.labels e.from s → IsInLabel m.partitions l.labels e.to (step l.inv s (listed_type e.to m.partitions))

-- along the edge each of the three states does so
abbrev PassesAll : Model → Listed → Edge → Type 0
PassesAll m l e = Passes m l e 0 × (Passes m l e 1 × Passes m l e 2)

-- a state is in the label of an id or not
in-label-or-not : (m : Model) (l : Listed) (p s : ℕ) → OrNot (IsInLabel m.partitions l.labels p s)
in-label-or-not m l p s = true-or-not (has_state (label_at p m.partitions l.labels) s)

-- along an edge a state leads from label to label or not
passes-or-not : (m : Model) (l : Listed) (e : Edge) (s : ℕ) → OrNot (Passes m l e s)
passes-or-not m l e s = from-or-not (in-label-or-not m l e.from s) (in-label-or-not m l e.to (step l.inv s (listed_type e.to m.partitions)))

-- the state is not both in the label of TERMINAL and bad
abbrev Ends : Model → Listed → ℕ → Type 0
Ends m l s = IsInLabel m.partitions l.labels 1 s → is_bad l.inv s ≡ false

-- a truth value is false or not
false-or-not : (b : Bool) → OrNot (b ≡ false)
false-or-not true = inr (λ e. cc e)
false-or-not false = inl refl

-- a state is right at TERMINAL or not
ends-or-not : (m : Model) (l : Listed) (s : ℕ) → OrNot (Ends m l s)
ends-or-not m l s = from-or-not (in-label-or-not m l 1 s) (false-or-not (is_bad l.inv s))

-- what holds of each of the three states holds of a state below 3, along an edge
pass-at : (m : Model) (l : Listed) (e : Edge) (s : ℕ) → PassesAll m l e → s < 3 → Passes m l e s
pass-at m l e zero a k = a.0
pass-at m l e (suc zero) a k = a.1.0
pass-at m l e (suc (suc zero)) a k = a.1.1
pass-at m l e (suc (suc (suc s))) a k = absurd (omega arith)

-- what holds of each of the three states holds of a state below 3, at TERMINAL
ends-at : (m : Model) (l : Listed) (s : ℕ) → Ends m l 0 → Ends m l 1 → Ends m l 2 → s < 3 → Ends m l s
ends-at m l zero a b c k = a
ends-at m l (suc zero) a b c k = b
ends-at m l (suc (suc zero)) a b c k = c
ends-at m l (suc (suc (suc s))) a b c k = absurd (omega arith)

-- the labels of an invariant are inductive or not
labelled-or-not : (m : Model) (l : Listed) → OrNot (IsLabelled m l)
labelled-or-not m l =
    elim (both (in-label-or-not m l 0 (step l.inv 0 (listed_type 0 m.partitions)))
    (both (all-or-not (PassesAll m l) (λ e. both (passes-or-not m l e 0) (both (passes-or-not m l e 1) (passes-or-not m l e 2))) m.edges)
    (both (ends-or-not m l 0) (both (ends-or-not m l 1) (ends-or-not m l 2))))) [
      | inl a ↦ inl (record {
        start = a.0;
        along = λ p q s e k.
            let o : (x : Edge) × In x m.edges × (x.from ≡ p) × (x.to ≡ q) = edge-in p q m.edges e in
            let x : PassesAll m l o.0 = all_in (PassesAll m l) o.0 m.edges a.1.0 o.1 in
            let n : s < 3 = three-states (label_at p m.partitions l.labels) s k in
            let y : IsInLabel m.partitions l.labels o.0.from s = subst (λ (z : ℕ). IsInLabel m.partitions l.labels z s) (sym o.2) k in
            subst (λ (z : ℕ). IsInLabel m.partitions l.labels z (step l.inv s (listed_type z m.partitions))) o.3 (pass-at m l o.0 s x n y);
        end = λ s k. ends-at m l s a.1.1.0 a.1.1.1.0 a.1.1.1.1 (three-states (label_at 1 m.partitions l.labels) s k) k;
      })
      | inr f ↦ inr (λ i. f (i.start, (every i m.edges (λ x j. j), (i.end 0, (i.end 1, i.end 2)))))
    ]
  where
    every : IsLabelled m l → (xs : List Edge) → ((x : Edge) → In x xs → In x m.edges) → AllByRecursion (PassesAll m l) xs
    every i [] f = tt
    every i (x ∷ xs) f =
        let e : has_edge x.from x.to m.edges ≡ true = In-edges x m.edges (f x (inl refl)) in
        ((i.along x.from x.to 0 e, (i.along x.from x.to 1 e, i.along x.from x.to 2 e)), every i xs (λ y j. f y (inr j)))

-- the block is one of the pair, and its path breaks the invariant that it names once the pair is merged
abbrev Names : Model → ℕ → ℕ → Block → Type 0
Names m p q b = (b.p ≡ p) × ((b.q ≡ q) × ((l : Listed) × (slice_get m.invariants b.inv ≡ Some l) × Breaks (Merged (graph_of m) p q) l.inv b.path))

-- the path of a block breaks its invariant once the pair is merged, or not
broken-or-not : (m : Model) (p q : ℕ) (b : Block) → OrNot ((l : Listed) × (slice_get m.invariants b.inv ≡ Some l) × Breaks (Merged (graph_of m) p q) l.inv b.path)
broken-or-not m p q b =
    elim (option-cases (slice_get m.invariants b.inv)) [
      | inr e ↦ inr (λ o. none-some o.0 (sym e ∙ o.1))
      | inl o ↦ elim (breaks-or-not (Merged (graph_of m) p q) o.0.inv b.path) [
        | inl k ↦ inl (o.0, o.1, k)
        | inr f ↦ inr (λ x. f (let e : x.0 ≡ o.0 = some-same x.0 o.0 (sym x.1 ∙ o.1) in subst (λ (l : Listed). Breaks (Merged (graph_of m) p q) l.inv b.path) e x.2))
      ]
    ]

-- a pair has a block that keeps it apart or not
blocked-or-not : (m : Model) (p q : ℕ) → OrNot (IsBlocked m p q)
blocked-or-not m p q =
    elim (any-or-not (Names m p q) (λ b. both (cases_eq b.p p) (both (cases_eq b.q q) (broken-or-not m p q b))) m.blocks) [
      | inl o ↦ inl (o.0, o.2.1.1.0, record { there = Contains-In o.0 m.blocks o.1; lower = o.2.0; higher = o.2.1.0; names = o.2.1.1.1; breaks = o.2.1.1.2 })
      | inr f ↦ inr (λ b. f (b.0, In-Contains m.blocks b.0 b.2.there, (b.2.lower, (b.2.higher, (b.1, b.2.names, b.2.breaks)))))
    ]

-- no pair is before itself
same-not : (u v : ℕ) → PairBefore u v u v → ⊥
same-not u v b = pair-asym u v u v b b

-- a pair before the first of an ascending list is not in it
not-in : (r s p q : ℕ) (ms : List Merge) → PairBefore r s p q → PairsAscend p q ms → IsAmong r s ms → ⊥
not-in r s p q [] b a i = i
not-in r s p q (x ∷ ms) b a (inl e) =
    same-not x.p x.q (subst₂ (λ (u v : ℕ). PairBefore u v x.p x.q) (sym e.0) (sym e.1) (pair-next r s p q x.p x.q b a.0))
not-in r s p q (x ∷ ms) b a (inr i) = not-in r s x.p x.q ms (pair-next r s p q x.p x.q b a.0) a.1 i

-- the first pair of an ascending list that has no block
record IsFirstOpen (m : Model) (ms : List Merge) (p q : ℕ) : Type 0 where
  among : IsAmong p q ms
  open_is : IsBlocked m p q → ⊥
  before : (r s : ℕ) → IsAmong r s ms → PairBefore r s p q → IsBlocked m r s

-- each pair of an ascending list has a block, or some pair is the first that has none
blocked-or-first : (m : Model) (ms : List Merge) (p q : ℕ) → PairsAscend p q ms → ((r s : ℕ) → IsAmong r s ms → IsBlocked m r s) ⊎ ((u v : ℕ) × IsFirstOpen m ms u v)
blocked-or-first m [] p q a = inl (λ r s i. absurd i)
blocked-or-first m (x ∷ ms) p q a =
    elim (blocked-or-not m x.p x.q) [
      | inr n ↦ inr (
        x.p,
        x.q,
        record {
          among = inl (refl, refl);
          open_is = n;
          before = λ r s i b. elim i [
            | inl e ↦ absurd (same-not x.p x.q (subst₂ (λ (u v : ℕ). PairBefore u v x.p x.q) (sym e.0) (sym e.1) b))
            | inr j ↦ absurd (not-in r s x.p x.q ms b a.1 j)
          ];
        },
      )
      | inl k ↦ elim (blocked-or-first m ms x.p x.q a.1) [
        | inl f ↦ inl (λ r s i. elim i [
          | inl e ↦ subst₂ (λ (u v : ℕ). IsBlocked m u v) e.0 e.1 k
          | inr j ↦ f r s j
        ])
        | inr o ↦ inr (
          o.0,
          o.1,
          record {
            among = inr o.2.among;
            open_is = o.2.open_is;
            before = λ r s i b. elim i [
              | inl e ↦ subst₂ (λ (u v : ℕ). IsBlocked m u v) e.0 e.1 k
              | inr j ↦ o.2.before r s j b
            ];
          },
        )
      ]
    ]

-- some number is above all listed ids
listed-bound : (xs : List Partition) → (n : ℕ) × ((p : ℕ) → is_listed p xs ≡ true → p < n)
listed-bound [] = (0, λ p e. absurd (cc e))
listed-bound (x ∷ xs) =
    let r : (n : ℕ) × ((p : ℕ) → is_listed p xs ≡ true → p < n) = listed-bound xs in (
      r.0 + suc x.id,
      λ p e. elim (or_cases (x.id == p) (is_listed p xs) e) [
        | inl t ↦ (let q : x.id ≡ p = eqb-true x.id p t in omega arith)
        | inr f ↦ (let l : p < r.0 = r.1 p f in omega arith)
      ],
    )

-- a model is valid for a log, or some part of it fails first
pub first_part_exists : FirstPartExists
first_part_exists m log =
    elim (same-or-not (same-or-not number-or-not) m.types log.types) [
      | inr f ↦ inr (part.Types, f)
      | inl t ↦ elim (same-or-differ (listing_of m) (mined_of log)) [
        | inr o ↦ inr (part.Listing o.0, (t, o.1))
        | inl ls ↦ elim (all-or-first (IsAccepted m) (accepted-or-not m) log.words) [
          | inr o ↦ inr (part.Trace o.0, (t, ls, o.1))
          | inl ws ↦ elim (all-or-first (IsLabelled m) (labelled-or-not m) m.invariants) [
            | inr o ↦ inr (part.Label o.0, (t, ls, ws, o.1))
            | inl ds ↦
                let n : (n : ℕ) × ((p : ℕ) → is_listed p m.partitions ≡ true → p < n) = listed-bound m.partitions in
                let a : PairsAscend 0 0 (pairs_below n.0 (graph_of m)) × ((p q : ℕ) → IsPair (graph_of m) p q ↔ IsAmong p q (pairs_below n.0 (graph_of m))) = pairs_tell (graph_of m) n.0 n.1 in
                elim (blocked-or-first m (pairs_below n.0 (graph_of m)) 0 0 a.0) [
                  | inl f ↦ inl (record { types = t; listing = ls; traces = ws; labels = ds; blocks = λ p q i. f p q ((a.1 p q).0 i) })
                  | inr o ↦ inr (part.Block o.0 o.1, (t, ls, ws, ds, (a.1 o.0 o.1).1 o.2.among, o.2.open_is, λ r s i b. o.2.before r s ((a.1 r s).0 i) b))
                ]
          ]
        ]
      ]
    ]
