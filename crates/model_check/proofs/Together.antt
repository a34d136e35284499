-- Columns: what is put into them, and what edges between them tell of labels.
use Rattle.std.proofs.Common.{◌≡◌, ◌≢◌, ℕ, ◌+◌, ◌-◌, ◌<◌, ◌≤◌, ◌==◌, ◌&&◌, if◌then◌else◌, true, false, true≢false, List, ◌∷◌, length, drop, slice_get, Some, refl, sym, ◌∙◌, ap, subst, subst₂, ◌⊎◌, inl, inr, arith, eq-eqb, ne_eqb}
use Rattle.std.specs.List.{All}
use Rattle.std.proofs.lemmas.Bool.{cases_eq, cases_lt}
use Rattle.std.proofs.lemmas.Option.{slice_get_within}
use Rattle.std.proofs.lemmas.List.{drop_all}
use Rattle.std.proofs.lemmas.List.Elements.{recursion_from_All}
use Rattle.limits.specs.declared.TheConstants.{INITIAL, TERMINAL, MAX_PARTITIONS}
use Rattle.invariants.specs.declared.Invariant.{Invariant}
use Rattle.invariants.specs.declared.Kind.{Kind}
use Rattle.invariants.specs.declared.Kind.TheVariants.{AF, NF, AP, IB}
use Rattle.invariants.specs.declared.records.Partition.{Partition}
use Rattle.invariants.specs.declared.records.Edge.{Edge}
use Rattle.invariants.specs.declared.records.Listed.{Listed}
use Rattle.invariants.specs.declared.records.Model.{Model}
use Rattle.invariants.specs.Monitors.{step, step_of}
use Rattle.partition_model.specs.Graphs.{Graph}
use Rattle.partition_model.proofs.Lists.{In, all_in}
use Rattle.model_shape.specs.Shapes.{is_listed, AreShapedPartitions, IsShapedEdge, IsWellShaped}
use Rattle.models.specs.Models.{graph_of, has_state, label_at, IsLabelled}
use Rattle.models.proofs.Agreeing.{edge-in}
use Rattle.models.proofs.Formed.{shaped_are_formed}
use Rattle.models.proofs.Valid.{three-states}
use Rattle.model_check.specs.Rows.{AreApart, IsNextOfType}
use Rattle.model_check.specs.States.{IsSource, AreRightEnds}
use Rattle.model_check.specs.Columns.{at, AreLabelledBefore, AreWithin, AreInColumn, HasSources, HaveLabels, IsColumnOf, AreColumnsOf, SameOthers}
use Rattle.model_check.specs.declared.columns.TheConstants.{TOGETHER}

-- a column into which the labels of all partitions are put, but for the rest
pub record IsFilledUpTo (partitions rest : List Partition) (given rest-given labels : List ℕ) (k : ℕ) : Type 0 where
  pub apart : AreApart rest
  pub ahead : (p : ℕ) → is_listed p rest ≡ true → label_at p rest rest-given ≡ label_at p partitions given
  pub filled : (p : ℕ) → is_listed p partitions ≡ true → is_listed p rest ≡ false → at labels k p ≡ label_at p partitions given

-- at first all partitions are the rest
pub filled-none : (partitions : List Partition) (given labels : List ℕ) (k : ℕ) → AreApart partitions → IsFilledUpTo partitions partitions given given labels k
filled-none partitions given labels k apart = record { apart = apart; ahead = λ p h. refl; filled = λ p h n. absurd (true≢false (sym h ∙ n)) }

-- one label more is put into the column
pub filled-more : (partitions rest : List Partition) (given rest-given old labels : List ℕ) (k label : ℕ) (x : Partition) → k < TOGETHER
    → ((c q : ℕ) → c < TOGETHER → at labels c q ≡ (if c == k && q == x.id then label else at old c q))
    → IsFilledUpTo partitions (x ∷ rest) given (label ∷ rest-given) old k → IsFilledUpTo partitions rest given rest-given labels k
filled-more partitions rest given rest-given old labels k label x l put before =
    record { apart = before.apart.1; ahead = ahead; filled = filled }
  where
    ahead : (p : ℕ) → is_listed p rest ≡ true → label_at p rest rest-given ≡ label_at p partitions given
    ahead p h =
        let n : x.id ≢ p = λ e. true≢false (sym h ∙ sym (ap (λ q. is_listed q rest) e) ∙ before.apart.0) in
        rw (ne_eqb x.id p n) at (before.ahead p) h

    filled : (p : ℕ) → is_listed p partitions ≡ true → is_listed p rest ≡ false → at labels k p ≡ label_at p partitions given
    filled p h u =
        elim (cases_eq p x.id) [
          | inl e ↦
              let b : label ≡ label_at p partitions given = rw (eq-eqb x.id p (sym e)) at (before.ahead p) refl in
              let here : at labels k p ≡ label = put k p l ∙ rw (eq-eqb k k refl, eq-eqb p x.id e) refl in
              here ∙ b
          | inr n ↦
              let b : at old k p ≡ label_at p partitions given = rw (ne_eqb x.id p (λ e. n (sym e))) at (before.filled p h) u in
              let here : at labels k p ≡ at old k p = put k p l ∙ rw (eq-eqb k k refl, ne_eqb p x.id n) refl in
              here ∙ b
        ]

-- with no rest, all labels are in the column
pub filled-all : (partitions : List Partition) (given rest-given labels : List ℕ) (k i : ℕ) → length partitions ≤ i
    → IsFilledUpTo partitions (drop i partitions) given rest-given labels k → AreInColumn partitions given labels k
filled-all partitions given rest-given labels k i l before p h = before.filled p h (ap (λ (xs : List Partition). is_listed p xs) (drop_all i partitions l))

-- a column has the labels of one listed invariant more
pub labels-more : (m : Model) (old labels : List ℕ) (from k : ℕ) (x : Listed) → k < TOGETHER → slice_get m.invariants (from + k) ≡ Some x
    → SameOthers old labels k → AreInColumn m.partitions x.labels labels k → HaveLabels m old from k → HaveLabels m labels from (k + 1)
labels-more m old labels from k x w there same here before c l h e =
    elim (cases_eq c k) [
      | inl f ↦
          let one : Some x ≡ Some l = sym there ∙ sym (ap (λ i. slice_get m.invariants (from + i)) f) ∙ e in
          let two : x ≡ l = cc in
          subst₂ (λ (z : Listed) (i : ℕ). AreInColumn m.partitions z.labels labels i) two (sym f) here
      | inr n ↦ λ p i. same c p (omega (arith, h, w)) n ∙ before c l (omega (arith, h, n)) e p i
    ]

-- where no more invariants are listed, the other columns may have anything
pub labels-end : (m : Model) (labels : List ℕ) (from count : ℕ) → (TOGETHER ≤ count) ⊎ (length m.invariants - from ≤ count) → HaveLabels m labels from count → HaveLabels m labels from TOGETHER
labels-end m labels from count few before k l h e =
    elim few [
      | inl all ↦ before k l (omega (arith, all, h)) e
      | inr none ↦ before k l (let w : from + k < length m.invariants = slice_get_within m.invariants (from + k) l e in omega (arith, none, w)) e
    ]

-- the sources of the ids of a type are put into a column, up to a bound
pub record ArePutBelow (inv : Invariant) (g : Graph) (typ : ℕ) (labels old sources : List ℕ) (k bound : ℕ) : Type 0 where
  pub changed : (p : ℕ) → p < bound → g.typ p ≡ typ → IsSource inv typ (at labels k p) (at sources k p)
  pub kept : (p : ℕ) → g.typ p ≢ typ → at sources k p ≡ at old k p

-- one source more is put
pub put-more : (inv : Invariant) (g : Graph) (typ : ℕ) (labels old before sources : List ℕ) (k bound p source : ℕ) → k < TOGETHER → IsNextOfType g.typ typ bound p
    → ((c q : ℕ) → c < TOGETHER → at sources c q ≡ (if c == k && q == p then source else at before c q))
    → IsSource inv typ (at labels k p) source → ArePutBelow inv g typ labels old before k bound → ArePutBelow inv g typ labels old sources k (p + 1)
put-more inv g typ labels old before sources k bound p source l next put right b = record { changed = changed; kept = kept }
  where
    other : (q : ℕ) → q ≢ p → at sources k q ≡ at before k q
    other q n = put k q l ∙ rw (eq-eqb k k refl, ne_eqb q p n) refl

    changed : (q : ℕ) → q < p + 1 → g.typ q ≡ typ → IsSource inv typ (at labels k q) (at sources k q)
    changed q w t =
        elim (cases_eq q p) [
          | inl e ↦
              let here : at sources k q ≡ source = put k q l ∙ rw (eq-eqb k k refl, eq-eqb q p e) refl in
              subst₂ (λ (n m : ℕ). IsSource inv typ n m) (ap (λ z. at labels k z) (sym e)) (sym here) right
          | inr n ↦ elim (cases_lt q bound) [
            | inl m ↦ subst (λ (z : ℕ). IsSource inv typ (at labels k q) z) (sym (other q n)) (b.changed q m t)
            | inr m ↦ absurd (next.first q m (omega (arith, w, n)) t)
          ]
        ]

    kept : (q : ℕ) → g.typ q ≢ typ → at sources k q ≡ at old k q
    kept q n = other q (λ e. n (ap g.typ e ∙ next.there)) ∙ b.kept q n

-- where no further id has the type, all its sources are put
pub put-all : (inv : Invariant) (g : Graph) (typ : ℕ) (labels old sources : List ℕ) (k bound : ℕ) → ((q : ℕ) → bound ≤ q → q < MAX_PARTITIONS → g.typ q ≢ typ)
    → ArePutBelow inv g typ labels old sources k bound → HasSources inv g typ labels old sources k
put-all inv g typ labels old sources k bound none b =
    record {
      changed = λ q w t. elim (cases_lt q bound) [
        | inl m ↦ b.changed q m t
        | inr m ↦ absurd (none q m w t)
      ];
      kept = b.kept;
    }

-- a type that an invariant does not name leaves each state as it is
step-same : (inv : Invariant) (s typ : ℕ) → typ ≢ inv.a → typ ≢ inv.b → step inv s typ ≡ s
step-same inv s typ a b = again inv.kind
  where
    again : (kind : Kind) → step_of kind inv.a inv.b s typ ≡ s
    again AF = rw (ne_eqb typ inv.a a, ne_eqb typ inv.b b) refl
    again NF = rw (ne_eqb typ inv.a a, ne_eqb typ inv.b b) refl
    again AP = rw (ne_eqb typ inv.a a, ne_eqb typ inv.b b) refl
    again IB = rw (ne_eqb typ inv.a a, ne_eqb typ inv.b b) refl

-- where the sources of both types that an invariant names are put, all are right
sources-right : (inv : Invariant) (g : Graph) (labels first second third : List ℕ) (k p : ℕ) → p < MAX_PARTITIONS → at first k p ≡ at labels k p
    → HasSources inv g inv.a labels first second k → HasSources inv g inv.b labels second third k → IsSource inv (g.typ p) (at labels k p) (at third k p)
sources-right inv g labels first second third k p w same a b =
    elim (cases_eq (g.typ p) inv.b) [
      | inl e ↦ subst (λ (t : ℕ). IsSource inv t (at labels k p) (at third k p)) (sym e) (b.changed p w e)
      | inr n ↦ elim (cases_eq (g.typ p) inv.a) [
        | inl e ↦
            subst₂ (λ (t m : ℕ). IsSource inv t (at labels k p) m) (sym e) (sym (b.kept p n)) (a.changed p w e)
        | inr m ↦ λ s u. ap (λ z. has_state z s) (b.kept p n ∙ a.kept p m ∙ same) ∙ ap (λ z. has_state (at labels k p) z) (sym (step-same inv s (g.typ p) m n))
      ]
    ]

-- the other columns stay through two writes
pub others-more : (a b c : List ℕ) (k : ℕ) → SameOthers a b k → SameOthers b c k → SameOthers a c k
others-more a b c k x y d p l n = y d p l n ∙ x d p l n

-- a write into one column leaves the others as they are
pub put-others : (old new : List ℕ) (k id value : ℕ) → ((c q : ℕ) → c < TOGETHER → at new c q ≡ (if c == k && q == id then value else at old c q)) → SameOthers old new k
put-others old new k id value put c p l n = put c p l ∙ rw (ne_eqb c k n) refl

-- INITIAL and TERMINAL are listed
ends-listed : (types : ℕ) (xs : List Partition) → AreShapedPartitions types xs → (is_listed INITIAL xs ≡ true) × (is_listed TERMINAL xs ≡ true)
ends-listed types xs w = rw w.ends (refl, refl)

-- a column that has what belongs to each partition, with the right ends, is that of the invariant
pub column-of : (m : Model) (l : Listed) (g : Graph) (labels first second third : List ℕ) (k : ℕ) → IsWellShaped m → g ≡ graph_of m
    → AreInColumn m.partitions l.labels labels k → ((p : ℕ) → at first k p ≡ at labels k p) → HasSources l.inv g l.inv.a labels first second k → HasSources l.inv g l.inv.b labels second third k
    → AreRightEnds l.inv g (at labels k INITIAL) (at labels k TERMINAL) → IsColumnOf m l labels third k
column-of m l g labels first second third k w same all begun a b ends =
    let listed : (is_listed INITIAL m.partitions ≡ true) × (is_listed TERMINAL m.partitions ≡ true) = ends-listed (length m.types) m.partitions w.partitions in
    let below : (p : ℕ) → is_listed p m.partitions ≡ true → p < MAX_PARTITIONS = (shaped_are_formed m w).1 in
    record {
      start = subst₂ (λ (n : ℕ) (h : Graph). has_state n (step l.inv 0 (h.typ INITIAL)) ≡ true) (all INITIAL listed.0) same ends.start;
      end = λ s h. ends.end s (subst (λ (n : ℕ). has_state n s ≡ true) (sym (all TERMINAL listed.1)) h);
      has_labels = λ p h. all p h;
      has_sources = λ p h.
          let o : IsSource l.inv (g.typ p) (at labels k p) (at third k p) = sources-right l.inv g labels first second third k p (below p h) (begun p) a b in
          subst₂ (λ (n : ℕ) (f : Graph). IsSource l.inv (f.typ p) n (at third k p)) (all p h) same o;
    }

-- a column stays that of its invariant while another is laid
pub column-stays : (m : Model) (l : Listed) (labels old sources : List ℕ) (k c : ℕ) → SameOthers old sources k → c < TOGETHER → c ≢ k → IsColumnOf m l labels old c → IsColumnOf m l labels sources c
column-stays m l labels old sources k c same w n i =
    record {
      start = i.start;
      end = i.end;
      has_labels = i.has_labels;
      has_sources = λ p h. subst (λ (x : ℕ). IsSource l.inv ((graph_of m).typ p) (label_at p m.partitions l.labels) x) (sym (same c p w n)) (i.has_sources p h);
    }

-- the columns of the first listed invariants from a place on are laid, and the others have their labels also as sources
pub record AreLaidUpTo (m : Model) (labels sources : List ℕ) (from count : ℕ) : Type 0 where
  pub filled : HaveLabels m labels from TOGETHER
  pub laid : AreColumnsOf m labels sources from count
  pub begun : (c p : ℕ) → count ≤ c → c < TOGETHER → at sources c p ≡ at labels c p

-- at first none is laid
pub laid-none : (m : Model) (labels sources : List ℕ) (from : ℕ) → HaveLabels m labels from TOGETHER → sources ≡ labels → AreLaidUpTo m labels sources from 0
laid-none m labels sources from filled same =
    record {
      filled = filled;
      laid = λ k l h e. absurd (let low : k < 0 = h in omega arith);
      begun = λ c p l h. ap (λ (xs : List ℕ). at xs c p) same;
    }

-- one column more is laid
pub laid-more : (m : Model) (labels old sources : List ℕ) (from k : ℕ) (x : Listed) → k < TOGETHER → slice_get m.invariants (from + k) ≡ Some x
    → SameOthers old sources k → (AreInColumn m.partitions x.labels labels k → IsColumnOf m x labels sources k) → AreLaidUpTo m labels old from k → AreLaidUpTo m labels sources from (k + 1)
laid-more m labels old sources from k x w there same here before =
    record {
      filled = before.filled;
      laid = laid;
      begun = λ c p l h. same c p h (λ e. absurd (omega (arith, l, e))) ∙ before.begun c p (omega (arith, l)) h;
    }
  where
    laid : AreColumnsOf m labels sources from (k + 1)
    laid c l h e =
        elim (cases_eq c k) [
          | inl f ↦
              let one : Some x ≡ Some l = sym there ∙ sym (ap (λ i. slice_get m.invariants (from + i)) f) ∙ e in
              let two : x ≡ l = cc in
              subst₂ (λ (z : Listed) (i : ℕ). IsColumnOf m z labels sources i) two (sym f) (here (before.filled k x w there))
          | inr n ↦ column-stays m l labels old sources k c same (omega (arith, h, w)) n (before.laid c l (omega (arith, h, n)) e)
        ]

-- where no more invariants are listed, the other columns may have anything
pub columns-end : (m : Model) (labels sources : List ℕ) (from count : ℕ) → length m.invariants - from ≤ count → AreColumnsOf m labels sources from count → AreColumnsOf m labels sources from TOGETHER
columns-end m labels sources from count few before k l h e =
    before k l (let w : from + k < length m.invariants = slice_get_within m.invariants (from + k) l e in omega (arith, few, w)) e

-- where all edges lead from labels into sources, the labels of a column are inductive
pub column-labelled : (m : Model) (l : Listed) (labels sources : List ℕ) (k : ℕ) → IsWellShaped m → k < TOGETHER → IsColumnOf m l labels sources k
    → All (λ (e : Edge). AreWithin labels sources TOGETHER e.from e.to) m.edges → IsLabelled m l
column-labelled m l labels sources k w h i along =
    record {
      start = i.start;
      along = λ p q s e b.
          let o : (x : Edge) × In x m.edges × (x.from ≡ p) × (x.to ≡ q) = edge-in p q m.edges e in
          let shaped : IsShapedEdge m.partitions o.0 = all_in (IsShapedEdge m.partitions) o.0 m.edges w.edges.each o.1 in
          let from : is_listed p m.partitions ≡ true = ap (λ x. is_listed x m.partitions) (sym o.2) ∙ shaped.has_from in
          let to : is_listed q m.partitions ≡ true = ap (λ x. is_listed x m.partitions) (sym o.3) ∙ shaped.has_to in
          let led : AreWithin labels sources TOGETHER o.0.from o.0.to = all_in (λ (x : Edge). AreWithin labels sources TOGETHER x.from x.to) o.0 m.edges (recursion_from_All (λ (x : Edge). AreWithin labels sources TOGETHER x.from x.to) m.edges along) o.1 in
          let here : has_state (at labels k o.0.from) s ≡ true = ap (λ x. has_state (at labels k x) s) o.2 ∙ ap (λ n. has_state n s) (i.has_labels p from) ∙ b in
          let there : has_state (at sources k o.0.to) s ≡ true = led k s h here in
          sym (i.has_sources q to s (three-states (label_at p m.partitions l.labels) s b)) ∙ sym (ap (λ x. has_state (at sources k x) s) o.3) ∙ there;
      end = i.end;
    }

-- where all edges lead from labels into sources, so are those of all invariants up to the end of the columns
pub group-labelled : (m : Model) (labels sources : List ℕ) (from to : ℕ) → IsWellShaped m → to ≤ from + TOGETHER → AreColumnsOf m labels sources from TOGETHER
    → All (λ (e : Edge). AreWithin labels sources TOGETHER e.from e.to) m.edges → AreLabelledBefore m from → AreLabelledBefore m to
group-labelled m labels sources from to w h columns along before i l there below =
    elim (cases_lt i from) [
      | inl k ↦ before i l there k
      | inr k ↦
          let place : from + (i - from) ≡ i = omega (arith, k) in
          let low : i - from < TOGETHER = omega (arith, k, below, h) in
          column-labelled m l labels sources (i - from) w low (columns (i - from) l low (ap (λ x. slice_get m.invariants x) place ∙ there)) along
    ]
