-- The definitions on a small log, by computation: two traces a c d and b c e, where a, c, d, b, e are 2 to 6.
use Rattle.std.proofs.Common.{◌≡◌, ℕ, zero, suc, ◌<◌, ◌==◌, ◌&&◌, ◌||◌, not, Bool, true, false, List, [], ◌∷◌, map, refl, subst, sym, inl, inr, arith, eqb-true, subst₂}
use Rattle.std.proofs.lemmas.Bool.{and_parts, or_cases}
use Rattle.std.specs.List.{AllByRecursion}
use Rattle.invariants.specs.Candidates.{candidates, invariant}
use Rattle.invariants.specs.Monitors.{step, is_bad}
use Rattle.invariants.specs.declared.Kind.{Kind}
use Rattle.invariants.specs.declared.Kinds.TheVariants.{Three}
use Rattle.invariants.specs.declared.Kind.TheVariants.{AF, NF, AP}
use Rattle.invariants.specs.declared.records.Partition.{Partition}
use Rattle.invariants.specs.declared.records.Edge.{Edge}
use Rattle.invariants.specs.declared.records.Listed.{Listed}
use Rattle.invariants.specs.declared.records.Split.{Split}
use Rattle.invariants.specs.declared.records.Model.{Model}
use Rattle.invariants.proofs.ByPlaces.{holds-Holds}
use Rattle.partition_model.specs.Graphs.{word, Breaks, Merged}
use Rattle.partition_model.specs.Assignments.{ids_of, G, by_type}
use Rattle.partition_model.specs.Listings.{AreBelow, ArePartitions, AreEdges, partitions_below, edges_below}
use Rattle.partition_model.specs.Laws.{IsAmong}
use Rattle.partition_model.proofs.Lists.{In}
use Rattle.partition_model.proofs.Listing.{are_partitions, are_edges}
use Rattle.partition_bounds.specs.Pairs.{pair_of, pairs_below}
use Rattle.partition_bounds.proofs.Pairing.{pairs_tell}
use Rattle.models.specs.Models.{TypedWords, mined_of, graph_of, has_state, label_at, IsInLabel, IsLabelled}
use Rattle.models.specs.Checks.{IsBlocked, IsValid}
use Rattle.models.specs.Histories.{replayed, IsGraphOf, IsJustified, IsFirstStep}
use Rattle.models.specs.declared.parts.ReplayPart.TheVariants as step_of
use Rattle.models.proofs.Agreeing.{edge-in}
use Rattle.models.proofs.Valid.{three-states}
use Rattle.model_shape.specs.Shapes.{listing_of, listed_type, is_listed}
use Rattle.models.proofs.Among.{AscendAmong}

abbrev texts : List (List ℕ)
texts = (97 ∷ []) ∷ (99 ∷ []) ∷ (100 ∷ []) ∷ (98 ∷ []) ∷ (101 ∷ []) ∷ []

abbrev log : TypedWords
log = record { kinds = Three; types = texts; words = (2 ∷ 3 ∷ 4 ∷ []) ∷ (5 ∷ 3 ∷ 6 ∷ []) ∷ [] }

abbrev partition : ℕ → ℕ → ℕ → Partition
partition id typ count = record { id = id; typ = typ; count = count }

abbrev edge : ℕ → ℕ → ℕ → Edge
edge from to count = record { from = from; to = to; count = count }

-- an invariant with its labels
abbrev listed : Kind → ℕ → ℕ → List ℕ → Listed
listed kind a b labels = record { inv = invariant kind a b; labels = labels }

abbrev c_then_e : List ℕ
c_then_e = 0 ∷ 2 ∷ 3 ∷ 6 ∷ 1 ∷ []

-- a model of the log, with this for its one split
abbrev model_with : Split → Model
model_with s =
    record {
      types = texts;
      kinds = Three;
      partitions = partition 0 0 2 ∷ partition 1 1 2 ∷ partition 2 2 1 ∷ partition 3 3 1 ∷ partition 4 4 1 ∷ partition 5 5 1 ∷ partition 6 6 1 ∷ partition 7 3 1 ∷ [];
      edges = edge 0 2 1 ∷ edge 0 5 1 ∷ edge 2 3 1 ∷ edge 3 4 1 ∷ edge 4 1 1 ∷ edge 5 7 1 ∷ edge 6 1 1 ∷ edge 7 6 1 ∷ [];
      invariants =
          listed AF 0 3 (2 ∷ 1 ∷ 2 ∷ 1 ∷ 1 ∷ 2 ∷ 1 ∷ 1 ∷ [])
          ∷ listed NF 2 2 (1 ∷ 3 ∷ 2 ∷ 2 ∷ 2 ∷ 1 ∷ 1 ∷ 1 ∷ [])
          ∷ listed AF 2 3 (1 ∷ 1 ∷ 2 ∷ 1 ∷ 1 ∷ 1 ∷ 1 ∷ 1 ∷ [])
          ∷ listed AF 2 4 (1 ∷ 1 ∷ 2 ∷ 2 ∷ 1 ∷ 1 ∷ 1 ∷ 1 ∷ [])
          ∷ listed AP 2 4 (1 ∷ 3 ∷ 2 ∷ 2 ∷ 2 ∷ 1 ∷ 1 ∷ 1 ∷ [])
          ∷ listed NF 2 5 (1 ∷ 3 ∷ 2 ∷ 2 ∷ 2 ∷ 1 ∷ 1 ∷ 1 ∷ [])
          ∷ listed NF 2 6 (1 ∷ 3 ∷ 2 ∷ 2 ∷ 2 ∷ 1 ∷ 1 ∷ 1 ∷ [])
          ∷ listed NF 3 2 (1 ∷ 2 ∷ 1 ∷ 2 ∷ 2 ∷ 1 ∷ 2 ∷ 2 ∷ [])
          ∷ listed NF 3 3 (1 ∷ 2 ∷ 1 ∷ 2 ∷ 2 ∷ 1 ∷ 2 ∷ 2 ∷ [])
          ∷ listed AP 3 4 (1 ∷ 2 ∷ 1 ∷ 2 ∷ 2 ∷ 1 ∷ 2 ∷ 2 ∷ [])
          ∷ listed NF 3 5 (1 ∷ 2 ∷ 1 ∷ 2 ∷ 2 ∷ 1 ∷ 2 ∷ 2 ∷ [])
          ∷ listed AP 3 6 (1 ∷ 2 ∷ 1 ∷ 2 ∷ 2 ∷ 1 ∷ 2 ∷ 2 ∷ [])
          ∷ listed NF 4 2 (1 ∷ 3 ∷ 1 ∷ 1 ∷ 2 ∷ 1 ∷ 1 ∷ 1 ∷ [])
          ∷ listed NF 4 3 (1 ∷ 3 ∷ 1 ∷ 1 ∷ 2 ∷ 1 ∷ 1 ∷ 1 ∷ [])
          ∷ listed NF 4 4 (1 ∷ 3 ∷ 1 ∷ 1 ∷ 2 ∷ 1 ∷ 1 ∷ 1 ∷ [])
          ∷ listed NF 4 5 (1 ∷ 3 ∷ 1 ∷ 1 ∷ 2 ∷ 1 ∷ 1 ∷ 1 ∷ [])
          ∷ listed NF 4 6 (1 ∷ 3 ∷ 1 ∷ 1 ∷ 2 ∷ 1 ∷ 1 ∷ 1 ∷ [])
          ∷ listed NF 5 2 (1 ∷ 3 ∷ 1 ∷ 1 ∷ 1 ∷ 2 ∷ 2 ∷ 2 ∷ [])
          ∷ listed AF 5 3 (1 ∷ 1 ∷ 1 ∷ 1 ∷ 1 ∷ 2 ∷ 1 ∷ 1 ∷ [])
          ∷ listed NF 5 4 (1 ∷ 3 ∷ 1 ∷ 1 ∷ 1 ∷ 2 ∷ 2 ∷ 2 ∷ [])
          ∷ listed NF 5 5 (1 ∷ 3 ∷ 1 ∷ 1 ∷ 1 ∷ 2 ∷ 2 ∷ 2 ∷ [])
          ∷ listed AF 5 6 (1 ∷ 1 ∷ 1 ∷ 1 ∷ 1 ∷ 2 ∷ 1 ∷ 2 ∷ [])
          ∷ listed AP 5 6 (1 ∷ 3 ∷ 1 ∷ 1 ∷ 1 ∷ 2 ∷ 2 ∷ 2 ∷ [])
          ∷ listed NF 6 2 (1 ∷ 3 ∷ 1 ∷ 1 ∷ 1 ∷ 1 ∷ 2 ∷ 1 ∷ [])
          ∷ listed NF 6 3 (1 ∷ 3 ∷ 1 ∷ 1 ∷ 1 ∷ 1 ∷ 2 ∷ 1 ∷ [])
          ∷ listed NF 6 4 (1 ∷ 3 ∷ 1 ∷ 1 ∷ 1 ∷ 1 ∷ 2 ∷ 1 ∷ [])
          ∷ listed NF 6 5 (1 ∷ 3 ∷ 1 ∷ 1 ∷ 1 ∷ 1 ∷ 2 ∷ 1 ∷ [])
          ∷ listed NF 6 6 (1 ∷ 3 ∷ 1 ∷ 1 ∷ 1 ∷ 1 ∷ 2 ∷ 1 ∷ []) ∷ [];
      splits = s ∷ [];
      merges = [];
      blocks = record { p = 3; q = 7; inv = 3; path = c_then_e } ∷ [];
    }

abbrev model : Model
model = model_with (record { inv = 3; place = 2; path = c_then_e })

-- the listing
listing_is : listing_of model ≡ mined_of log
listing_is = refl

-- the steps give each event the id that it has in the model
ids_are : map ids_of (replayed model log) ≡ (2 ∷ 3 ∷ 4 ∷ []) ∷ (5 ∷ 7 ∷ 6 ∷ []) ∷ []
ids_are = refl

-- the steps lead to the partitions of the model
partitions_are : partitions_below 8 (replayed model log) ≡ model.partitions
partitions_are = refl

-- the steps lead to the edges of the model
edges_are : edges_below 8 (replayed model log) ≡ model.edges
edges_are = refl

-- the steps lead to the graph of the model
graph_is : IsGraphOf model (replayed model log)
graph_is =
    let b : AreBelow 8 (replayed model log) = (omega arith, (omega arith, (omega arith, (omega arith, (omega arith, (omega arith, tt)))))) in
    record {
      partitions = subst (λ (xs : List Partition). ArePartitions xs (replayed model log)) partitions_are (are_partitions (replayed model log) 8 (omega arith) b);
      edges = subst (λ (xs : List Edge). AreEdges xs (replayed model log)) edges_are (are_edges (replayed model log) 8 (omega arith) b);
    }

-- the path of the split breaks AF(a, d), which a c e does not keep
path_breaks : Breaks (G (by_type log.words)) (invariant AF 2 4) c_then_e
path_breaks = ((refl, (refl, (refl, (refl, (refl, refl))))), λ h. (let t : false ≡ true = (holds-Holds (invariant AF 2 4) (word (G (by_type log.words)) c_then_e)).1 h in cc))

-- so the history of the model is justified
is_justified : IsJustified model log
is_justified =
    record {
      types = refl;
      splits = (
        record {
          listed = listed AF 2 4 (1 ∷ 1 ∷ 2 ∷ 2 ∷ 1 ∷ 1 ∷ 1 ∷ 1 ∷ []);
          names = refl;
          breaks = path_breaks;
          place = refl;
          inside = omega arith;
          room = omega arith;
        },
        tt,
      );
      merges = tt;
      graph = graph_is;
    }

-- and with another place its first split is not
other_place : IsFirstStep (model_with (record { inv = 3; place = 1; path = c_then_e })) log (step_of.Split 0)
other_place = (refl, λ s. (let e : 1 ≡ 2 = s.place in absurd (omega arith)))

-- the candidates that it lists stand in their order
listing_ascends : AscendAmong (candidates 5) 0 (listing_of model)
listing_ascends = (1, omega arith, refl, (6, omega arith, refl, (8, omega arith, refl, (11, omega arith, refl, (13, omega arith, refl, (15, omega arith, refl, (18, omega arith, refl, (21, omega arith, refl, (24, omega arith, refl, (28, omega arith, refl, (30, omega arith, refl, (34, omega arith, refl, (36, omega arith, refl, (39, omega arith, refl, (42, omega arith, refl, (45, omega arith, refl, (48, omega arith, refl, (51, omega arith, refl, (53, omega arith, refl, (57, omega arith, refl, (60, omega arith, refl, (62, omega arith, refl, (64, omega arith, refl, (66, omega arith, refl, (69, omega arith, refl, (72, omega arith, refl, (75, omega arith, refl, (78, omega arith, refl, tt))))))))))))))))))))))))))))

-- one pair of one type
pairs_are : pairs_below 8 (graph_of model) ≡ pair_of 3 7 ∷ []
pairs_are = refl

-- whether a state leads along the edge from the label of its start into that of its end
abbrev passes_at : Model → Listed → Edge → ℕ → Bool
passes_at m l e s = not (has_state (label_at e.from m.partitions l.labels) s) || has_state (label_at e.to m.partitions l.labels) (step l.inv s (listed_type e.to m.partitions))

-- whether each of the three states does so along the edge
abbrev passes : Model → Listed → Edge → Bool
passes m l e = passes_at m l e 0 && passes_at m l e 1 && passes_at m l e 2

-- whether each of the three states does so along all edges
abbrev all_pass : Model → Listed → List Edge → Bool
all_pass m l [] = true
all_pass m l (e ∷ es) = passes m l e && all_pass m l es

-- whether the state is not both in the label of TERMINAL and bad
abbrev ends_at : Model → Listed → ℕ → Bool
ends_at m l s = not (has_state (label_at 1 m.partitions l.labels) s) || not (is_bad l.inv s)

-- whether the labels pass at INITIAL, along all edges and at TERMINAL
abbrev labels_pass : Model → Listed → Bool
labels_pass m l =
    has_state (label_at 0 m.partitions l.labels) (step l.inv 0 (listed_type 0 m.partitions)) && all_pass m l m.edges
    && (ends_at m l 0 && ends_at m l 1 && ends_at m l 2)

-- where the second of two truth values holds with the first, and the first holds, so does the second
follows : (a b : Bool) → (not a || b) ≡ true → a ≡ true → b ≡ true
follows true b e f = e
follows false b e f = absurd (cc f)

-- where not both of two truth values hold, and the first does, the second does not
kept_out : (a b : Bool) → (not a || not b) ≡ true → a ≡ true → b ≡ false
kept_out true false e f = refl
kept_out true true e f = absurd (cc e)
kept_out false b e f = absurd (cc f)

-- what passes along an edge passes for each state below 3
pass-at : (m : Model) (l : Listed) (e : Edge) (s : ℕ) → passes m l e ≡ true → s < 3 → passes_at m l e s ≡ true
pass-at m l e s t k =
    let a : ((passes_at m l e 0 && passes_at m l e 1) ≡ true) × (passes_at m l e 2 ≡ true) = and_parts (passes_at m l e 0 && passes_at m l e 1) (passes_at m l e 2) t in
    let b : (passes_at m l e 0 ≡ true) × (passes_at m l e 1 ≡ true) = and_parts (passes_at m l e 0) (passes_at m l e 1) a.0 in
    at s b.0 b.1 a.1 k
  where
    at : (s : ℕ) → passes_at m l e 0 ≡ true → passes_at m l e 1 ≡ true → passes_at m l e 2 ≡ true → s < 3 → passes_at m l e s ≡ true
    at zero x y z k = x
    at (suc zero) x y z k = y
    at (suc (suc zero)) x y z k = z
    at (suc (suc (suc s))) x y z k = absurd (omega arith)

-- what passes along all edges passes along each
all-pass : (m : Model) (l : Listed) (es : List Edge) (e : Edge) → all_pass m l es ≡ true → In e es → passes m l e ≡ true
all-pass m l [] e t i = absurd i
all-pass m l (x ∷ es) e t (inl q) = subst (λ (z : Edge). passes m l z ≡ true) q (and_parts (passes m l x) (all_pass m l es) t).0
all-pass m l (x ∷ es) e t (inr r) = all-pass m l es e (and_parts (passes m l x) (all_pass m l es) t).1 r

-- what passes at TERMINAL passes for each state below 3
end-at : (m : Model) (l : Listed) (s : ℕ) → (ends_at m l 0 && ends_at m l 1 && ends_at m l 2) ≡ true → s < 3 → ends_at m l s ≡ true
end-at m l s t k =
    let a : ((ends_at m l 0 && ends_at m l 1) ≡ true) × (ends_at m l 2 ≡ true) = and_parts (ends_at m l 0 && ends_at m l 1) (ends_at m l 2) t in
    let b : (ends_at m l 0 ≡ true) × (ends_at m l 1 ≡ true) = and_parts (ends_at m l 0) (ends_at m l 1) a.0 in
    at s b.0 b.1 a.1 k
  where
    at : (s : ℕ) → ends_at m l 0 ≡ true → ends_at m l 1 ≡ true → ends_at m l 2 ≡ true → s < 3 → ends_at m l s ≡ true
    at zero x y z k = x
    at (suc zero) x y z k = y
    at (suc (suc zero)) x y z k = z
    at (suc (suc (suc s))) x y z k = absurd (omega arith)

-- labels that pass are inductive
passed-labels : (m : Model) (l : Listed) → labels_pass m l ≡ true → IsLabelled m l
passed-labels m l t =
    let first : Bool = has_state (label_at 0 m.partitions l.labels) (step l.inv 0 (listed_type 0 m.partitions)) in
    let a : ((has_state (label_at 0 m.partitions l.labels) (step l.inv 0 (listed_type 0 m.partitions)) && all_pass m l m.edges) ≡ true) × ((ends_at m l 0 && ends_at m l 1 && ends_at m l 2) ≡ true) =
    and_parts (has_state (label_at 0 m.partitions l.labels) (step l.inv 0 (listed_type 0 m.partitions)) && all_pass m l m.edges) (ends_at m l 0 && ends_at m l 1 && ends_at m l 2) t in
    let b : (has_state (label_at 0 m.partitions l.labels) (step l.inv 0 (listed_type 0 m.partitions)) ≡ true) × (all_pass m l m.edges ≡ true) =
    and_parts (has_state (label_at 0 m.partitions l.labels) (step l.inv 0 (listed_type 0 m.partitions))) (all_pass m l m.edges) a.0 in
    record {
      start = b.0;
      along = λ p q s e k.
          let o : (x : Edge) × In x m.edges × (x.from ≡ p) × (x.to ≡ q) = edge-in p q m.edges e in
          let n : s < 3 = three-states (label_at p m.partitions l.labels) s k in
          let y : IsInLabel m.partitions l.labels o.0.from s = subst (λ (z : ℕ). IsInLabel m.partitions l.labels z s) (sym o.2) k in
          subst (λ (z : ℕ). IsInLabel m.partitions l.labels z (step l.inv s (listed_type z m.partitions))) o.3
          (follows (has_state (label_at o.0.from m.partitions l.labels) s) (has_state (label_at o.0.to m.partitions l.labels) (step l.inv s (listed_type o.0.to m.partitions)))
          (pass-at m l o.0 s (all-pass m l m.edges o.0 b.1 o.1) n) y);
      end = λ s k. kept_out (has_state (label_at 1 m.partitions l.labels) s) (is_bad l.inv s) (end-at m l s a.1 (three-states (label_at 1 m.partitions l.labels) s k)) k;
    }

abbrev every_pass : Model → List Listed → Bool
every_pass m [] = true
every_pass m (l ∷ ls) = labels_pass m l && every_pass m ls

every-labelled : (m : Model) (ls : List Listed) → every_pass m ls ≡ true → AllByRecursion (IsLabelled m) ls
every-labelled m [] t = tt
every-labelled m (l ∷ ls) t =
    let a : (labels_pass m l ≡ true) × (every_pass m ls ≡ true) = and_parts (labels_pass m l) (every_pass m ls) t in
    (passed-labels m l a.0, every-labelled m ls a.1)

-- the ids of the model are below 8
ids-below : (xs : List Partition) (p : ℕ) → AllByRecursion (λ x. x.id < 8) xs → is_listed p xs ≡ true → p < 8
ids-below [] p a e = absurd (cc e)
ids-below (x ∷ xs) p a e =
    elim (or_cases (x.id == p) (is_listed p xs) e) [
      | inl t ↦ (let q : x.id ≡ p = eqb-true x.id p t in let l : x.id < 8 = a.0 in omega arith)
      | inr f ↦ ids-below xs p a.1 f
    ]

-- the path of the block breaks AF(a, d) where the two are merged
block_breaks : Breaks (Merged (graph_of model) 3 7) (invariant AF 2 4) c_then_e
block_breaks = ((refl, (refl, (refl, (refl, (refl, refl))))), λ h. (let t : false ≡ true = (holds-Holds (invariant AF 2 4) (word (Merged (graph_of model) 3 7) c_then_e)).1 h in cc))

is_blocked : IsBlocked model 3 7
is_blocked = (
  record { p = 3; q = 7; inv = 3; path = c_then_e },
  listed AF 2 4 (1 ∷ 1 ∷ 2 ∷ 2 ∷ 1 ∷ 1 ∷ 1 ∷ 1 ∷ []),
  record { there = (0, omega arith, refl); lower = refl; higher = refl; names = refl; breaks = block_breaks },
)

one-pair : (p q : ℕ) → IsAmong p q (pair_of 3 7 ∷ []) → IsBlocked model p q
one-pair p q (inl e) = subst₂ (λ (u v : ℕ). IsBlocked model u v) e.0 e.1 is_blocked
one-pair p q (inr r) = absurd r

-- so the model is valid
is_valid : IsValid model log
is_valid =
    let ids : (p : ℕ) → is_listed p model.partitions ≡ true → p < 8 =
    λ p e. ids-below model.partitions p (omega arith, (omega arith, (omega arith, (omega arith, (omega arith, (omega arith, (omega arith, (omega arith, tt)))))))) e in
    record {
      types = refl;
      listing = refl;
      traces = (
        (0 ∷ 2 ∷ 3 ∷ 4 ∷ 1 ∷ [], (refl, (refl, (refl, (refl, (refl, refl))))), refl),
        ((0 ∷ 5 ∷ 7 ∷ 6 ∷ 1 ∷ [], (refl, (refl, (refl, (refl, (refl, refl))))), refl), tt),
      );
      labels = every-labelled model model.invariants refl;
      blocks = λ p q i. one-pair p q (((pairs_tell (graph_of model) 8 ids).1 p q).0 i);
    }

-- a set that is too small at the first c is not inductive; a larger one is
too_small : IsLabelled model (listed AF 2 4 (1 ∷ 1 ∷ 2 ∷ 1 ∷ 1 ∷ 1 ∷ 1 ∷ 1 ∷ [])) → ⊥
too_small i = let t : false ≡ true = i.along 2 3 1 refl refl in cc

larger : IsLabelled model (listed AF 2 4 (1 ∷ 1 ∷ 2 ∷ 3 ∷ 1 ∷ 1 ∷ 1 ∷ 1 ∷ []))
larger = passed-labels model (listed AF 2 4 (1 ∷ 1 ∷ 2 ∷ 3 ∷ 1 ∷ 1 ∷ 1 ∷ 1 ∷ [])) refl
