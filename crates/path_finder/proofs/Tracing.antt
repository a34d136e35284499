-- The next pair of the path among the entries of a level.
use Rattle.std.proofs.Common.{◌≡◌, ◌⊎◌, ◌&&◌, ℕ, suc, ◌+◌, ◌*◌, ◌/◌, ◌%◌, ◌<◌, ◌≤◌, Bool, true, length, slice_get, Some, bit_and, sym, ◌∙◌, ap, ap₂, subst, inl, inr, arith}
use Rattle.std.proofs.lemmas.Bool.{cases_eq, cases_lt, true≢false}
use Rattle.std.proofs.lemmas.Nat.{div-add-mod', mod_below}
use Rattle.partition_graph.specs.NeighbourWords.{IsWordOf}
use Rattle.partition_graph.specs.Nexts.{IsNext}
use Rattle.partition_graph.specs.Parts.{HasEdgesBelow}
use Rattle.partition_graph.proofs.NeighbourWords.{word-both}
use Rattle.path_finder.specs.declared.pair.TheConstants.{STATES}
use Rattle.path_finder.specs.declared.table.TheConstants.{OPEN}
use Rattle.path_finder.specs.declared.pair.Pair.{Pair}
use Rattle.path_finder.specs.declared.table.Entry.{Entry}
use Rattle.path_finder.specs.PairSets.{IsAmong}
use Rattle.path_finder.specs.Tables.{Entries, at, part_of, IsKnown, IsListed, IsNextPair, IsOnlyPair, IsSplitAt}
use Rattle.path_finder.specs.Walks.{Asked, IsPairOf, Leads}
use Rattle.path_finder.proofs.Entering.{place_within}
use Rattle.path_finder.proofs.Least.{has_next}
use Rattle.path_finder.proofs.Measuring.{state_small}
use Rattle.path_finder.proofs.PairSets.{on, own-bits}

-- the first number of a word is the least whose bit is on
pub first-on : (place x id r : ℕ) → ((h : ℕ → Bool) → IsWordOf h (place * 64 / 64) x → IsNext h (place * 64) id) → r / 64 ≡ place → on x (r % 64) ≡ true → id ≤ r
first-on place x id r next here is =
    let same : place ≡ place * 64 / 64 = omega (arith, div-add-mod' (place * 64) 64, mod_below (place * 64) 64 (omega arith)) in
    elim (cases_lt r id) [
      | inl below ↦ absurd (true≢false (sym is ∙ (next (λ n. on x (n % 64)) (subst (λ (w : ℕ). IsWordOf (λ n. on x (n % 64)) w x) same (own-bits place x))).first r (omega (arith, here, div-add-mod' r 64)) below))
      | inr above ↦ above
    ]

-- the bit is on in both words
pub on-both : (has : ℕ → Bool) (x y place id : ℕ) → IsWordOf has place x → id / 64 ≡ place → on (bit_and x y) (id % 64) ≡ (has id && on y (id % 64))
on-both has x y place id is here =
    let same : place * 64 + id % 64 ≡ id = omega (arith, here, div-add-mod' id 64) in
    word-both has (λ n. on y (n % 64)) place x y is (own-bits place y) (id % 64) (mod_below id 64 (omega arith))
    ∙ ap (λ (n : ℕ). has n && on y (n % 64)) same

-- the pair to which a pair leads
pub led-pair : (a : Asked) (p r : Pair) → HasEdgesBelow a.graph a.ids → p.state < 3 → Leads a p r → IsPairOf a r
led-pair a p r w small l = record { id = (w p.id r.id l.edge).1; state = omega (arith, state_small a p.state r.id small, l.step) }

-- all pairs of entries from the first place up to the end to which p leads have no lesser id
abbrev pub IsLeastAmong : Asked → Entries → Pair → ℕ → ℕ → Pair → Type 0
IsLeastAmong a e p first end next =
    (j : ℕ) (x : Entry) → first ≤ j → j < end → slice_get e.parts j ≡ Some x → (r : Pair) → IsAmong (part_of x) r → Leads a p r → next.id ≤ r.id

-- no pair is chosen yet, or p leads to it and it has this distance
abbrev pub IsChosen : Asked → Entries → Pair → ℕ → Pair → Type 0
IsChosen a e p d next = (next.id ≡ a.ids) ⊎ (IsPairOf a next × Leads a p next × (at e next ≡ d))

-- a pair at this distance is one of the entries of the level
pub in-level : (a : Asked) (e : Entries) (d first end : ℕ) (r : Pair) → length e.distances ≡ a.ids * STATES → IsListed e → IsSplitAt d first e → IsSplitAt (suc d) end e
    → IsPairOf a r → at e r ≡ d → d < OPEN
    → ((i : ℕ) (x : Entry) → first ≤ i → i < end → slice_get e.parts i ≡ Some x → IsAmong (part_of x) r → ⊥) → ⊥
in-level a e d first end r size listed from to pr v closes without = omega (arith, v, closes, listed.others r pr.state (omega (arith, place_within a r pr, size)) none)
  where
    none : (i : ℕ) (x : Entry) → slice_get e.parts i ≡ Some x → IsAmong (part_of x) r → ⊥
    none i x is am =
        let its : at e r ≡ x.distance = (listed.each i x is).value r am in
        elim (cases_lt i first) [
          | inl low ↦ omega (arith, its, v, from.before i x low is)
          | inr reached ↦ elim (cases_lt i end) [
            | inl inside ↦ without i x reached inside is am
            | inr past ↦ omega (arith, its, v, to.after i x past is)
          ]
        ]

-- the least of all entries of the level is the next one
pub next-chosen : (a : Asked) (e : Entries) (p : Pair) (d first end : ℕ) (next : Pair) → HasEdgesBelow a.graph a.ids → IsKnown a (suc d) e → IsListed e → IsSplitAt d first e → IsSplitAt (suc d) end e
    → IsPairOf a p → at e p ≡ suc d → suc d < OPEN → IsChosen a e p d next → IsLeastAmong a e p first end next → IsPairOf a next × IsNextPair a e p d next
next-chosen a e p d first end next w known listed from to pp value closes chosen least =
    elim chosen [
      | inl none ↦ absurd (omega (arith, none, some.1, cover some.0 (led-pair a p some.0 w pp.state some.2) some.2 some.3))
      | inr is ↦ (
        is.0,
        record {
          leads = is.1;
          value = is.2;
          first = λ r below leads v. omega (arith, below, cover r (led-pair a p r w pp.state leads) leads v);
        },
      )
    ]
  where
    some : (q : Pair) × (q.id < a.ids) × Leads a p q × (at e q ≡ d)
    some = has_next a e p d w known pp value closes

    cover : (r : Pair) → IsPairOf a r → Leads a p r → at e r ≡ d → next.id ≤ r.id
    cover r pr leads v = elim (cases_lt r.id next.id) [
      | inl below ↦ absurd (in-level a e d first end r known.size listed from to pr v (omega arith) (λ i x low high is am. omega (arith, below, least i x low high is r am leads)))
      | inr above ↦ above
    ]

-- the only pair of the level is the next one
pub next-only : (a : Asked) (e : Entries) (p : Pair) (d first end : ℕ) (q : Pair) → HasEdgesBelow a.graph a.ids → IsKnown a (suc d) e → IsListed e → IsSplitAt d first e → IsSplitAt (suc d) end e
    → IsPairOf a p → at e p ≡ suc d → suc d < OPEN → IsOnlyPair first end e q → IsPairOf a q × IsNextPair a e p d q
next-only a e p d first end q w known listed from to pp value closes only =
    let its : some.0 ≡ q = same some.0 (led-pair a p some.0 w pp.state some.2) some.3 in (
      subst (λ (r : Pair). IsPairOf a r) its (led-pair a p some.0 w pp.state some.2),
      record {
        leads = subst (λ (r : Pair). Leads a p r) its some.2;
        value = subst (λ (r : Pair). at e r ≡ d) its some.3;
        first = λ r below leads v. let id : r.id ≡ q.id = ap (λ (x : Pair). x.id) (same r (led-pair a p r w pp.state leads) v) in omega (arith, below, id);
      },
    )
  where
    some : (r : Pair) × (r.id < a.ids) × Leads a p r × (at e r ≡ d)
    some = has_next a e p d w known pp value closes

    same : (r : Pair) → IsPairOf a r → at e r ≡ d → r ≡ q
    same r pr v = elim (cases_eq r.id q.id) [
      | inl id ↦ elim (cases_eq r.state q.state) [
        | inl state ↦ let pair : ℕ → ℕ → Pair = λ n s. record { id = n; state = s } in ap₂ pair id state
        | inr other ↦ absurd (in-level a e d first end r known.size listed from to pr v (omega arith) (λ i x low high is am. other (ap (λ (y : Pair). y.state) (only i x low high is r am))))
      ]
      | inr other ↦ absurd (in-level a e d first end r known.size listed from to pr v (omega arith) (λ i x low high is am. other (ap (λ (y : Pair). y.id) (only i x low high is r am))))
    ]
