-- How the open pairs of a part are entered.
use Rattle.std.proofs.Common.{◌≡◌, ◌⊎◌, ◌&&◌, not, ℕ, ◌+◌, ◌-◌, ◌*◌, ◌/◌, ◌%◌, ◌^◌, ◌<◌, ◌≤◌, Bool, true, false, length, refl, sym, ◌∙◌, ap, ap₂, inl, inr, bit_and, arith}
use Rattle.std.proofs.lemmas.Bool.{and_parts, cases_Bool, cases_lt, true≢false}
use Rattle.std.proofs.lemmas.Nat.{div-add-mod', mod_below}
use Rattle.limits.specs.declared.TheConstants.{MAX_PARTITIONS}
use Rattle.partition_graph.specs.NeighbourWords.{IsWordOf}
use Rattle.path_finder.specs.declared.pair.TheConstants.{STATES}
use Rattle.path_finder.specs.declared.table.TheConstants.{OPEN}
use Rattle.path_finder.specs.declared.pair.Pair.{Pair}
use Rattle.path_finder.specs.declared.pair_set.PairSet.{PairSet}
use Rattle.path_finder.specs.declared.pair_set.Part.{Part}
use Rattle.path_finder.specs.Levels.{AreOpened, HasEntered}
use Rattle.path_finder.specs.PairSets.{has_in, has_pair, IsAdded, IsAmong}
use Rattle.path_finder.specs.Tables.{Entries, at, place, AreEnteredWith, IsSplitAt}
use Rattle.path_finder.specs.Walks.{Asked, IsPairOf}
use Rattle.path_finder.proofs.Entering.{place_within}
use Rattle.path_finder.proofs.PairSets.{on, own-bits}
use Rattle.path_finder.proofs.Reaching.{new-unmet}
use Rattle.path_finder.proofs.WordSteps.{word-less}

-- the bits of the open pairs of a part
open-bits : (part : Part) (n : PairSet) (entered : ℕ) → entered < 2 ^ 64 → IsWordOf (has_in n part.state) part.place entered → (id : ℕ) → id / 64 ≡ part.place
    → on (bit_and part.word (18446744073709551615 - entered)) (id % 64) ≡ (on part.word (id % 64) && not (has_in n part.state id))
open-bits part n entered fits is id here =
    let same : part.place * 64 + id % 64 ≡ id = omega (arith, here, div-add-mod' id 64) in
    word-less (λ k. on part.word (k % 64)) (has_in n part.state) part.place part.word entered fits (own-bits part.place part.word) is (id % 64) (mod_below id 64 (omega arith))
    ∙ ap (λ (k : ℕ). on part.word (k % 64) && not (has_in n part.state k)) same

-- a pair of the open ones is one of the part, and stands open
pub open-among : (a : Asked) (part : Part) (e : Entries) (n : PairSet) (entered : ℕ) (r : Pair) → entered < 2 ^ 64 → IsWordOf (has_in n part.state) part.place entered
    → ((r : Pair) → IsAmong part r → IsPairOf a r) → length e.distances ≡ a.ids * STATES → HasEntered a e n
    → IsAmong (record { state = part.state; place = part.place; word = bit_and part.word (18446744073709551615 - entered) }) r
    → IsAmong part r × (place r < length e.distances) × (OPEN ≤ at e r)
open-among a part e n entered r fits is pairs size all among =
    let both : (on part.word (r.id % 64) && not (has_in n part.state r.id)) ≡ true = sym (open-bits part n entered fits is r.id among.place) ∙ among.bit in
    let bits : (on part.word (r.id % 64) ≡ true) × (not (has_in n part.state r.id) ≡ true) = and_parts (on part.word (r.id % 64)) (not (has_in n part.state r.id)) both in
    let was : IsAmong part r = record { state = among.state; place = among.place; bit = bits.0 } in
    let pr : IsPairOf a r = pairs r was in
    let not_so : has_pair n r ≡ false =
    ap (λ (s : ℕ). has_in n s r.id) among.state ∙ new-unmet (on part.word (r.id % 64)) (has_in n part.state r.id) both in (
      was,
      omega (arith, place_within a r pr, size),
      elim (cases_lt (at e r) OPEN) [
        | inl low ↦ absurd (true≢false (sym (all.whole r pr low) ∙ not_so))
        | inr high ↦ high
      ],
    )

-- a pair of the part was entered, or it is one of the open ones
pub among-open : (a : Asked) (part : Part) (e : Entries) (n : PairSet) (entered : ℕ) (r : Pair) → a.ids ≤ MAX_PARTITIONS → entered < 2 ^ 64 → IsWordOf (has_in n part.state) part.place entered → HasEntered a e n → IsPairOf a r → IsAmong part r
    → (at e r < OPEN) ⊎ IsAmong (record { state = part.state; place = part.place; word = bit_and part.word (18446744073709551615 - entered) }) r
among-open a part e n entered r few fits is all pr among =
    elim (cases_Bool (has_in n part.state r.id)) [
      | inl there ↦ inl (all.sound r (record { state = pr.state; id = omega (arith, pr.id, few); has = ap (λ (s : ℕ). has_in n s r.id) among.state ∙ there })).1
      | inr gone ↦ inr (record {
        state = among.state;
        place = among.place;
        bit = open-bits part n entered fits is r.id among.place ∙ ap₂ (λ (x y : Bool). x && not y) among.bit gone;
      })
    ]

-- where the whole part was added, its open pairs were
pub added-open : (a : Asked) (part these : Part) (e : Entries) (n m : PairSet) → HasEntered a e n → ((r : Pair) → IsAmong part r → IsPairOf a r)
    → ((r : Pair) → IsAmong these r → IsAmong part r) → ((r : Pair) → IsAmong part r → (at e r < OPEN) ⊎ IsAmong these r)
    → IsAdded n m part → IsAdded n m these
added-open a part these e n m all pairs own either added =
    record {
      kept = added.kept;
      added = λ r is. added.added r (own r is);
      others = λ r low h. elim (added.others r low h) [
        | inl old ↦ inl old
        | inr among ↦ elim (either r among) [
          | inl entered ↦ inl (all.whole r (pairs r among) entered)
          | inr new ↦ inr new
        ]
      ];
    }

-- the set of the entered pairs stays the same where all pairs of the part were entered
pub entered-still : (a : Asked) (part : Part) (e : Entries) (n m : PairSet) → HasEntered a e n → ((r : Pair) → IsAmong part r → IsPairOf a r)
    → ((r : Pair) → IsAmong part r → at e r < OPEN) → IsAdded n m part → HasEntered a e m
entered-still a part e n m all pairs low added =
    record {
      sound = λ r is. elim (added.others r is.id is.has) [
        | inl old ↦ all.sound r (record { state = is.state; id = is.id; has = old })
        | inr among ↦ (pairs r among, low r among)
      ];
      whole = λ r p k. added.kept r (all.whole r p k);
    }

-- the set of the entered pairs has those that were entered now
pub entered-more : (a : Asked) (these : Part) (d : ℕ) (e g : Entries) (n m : PairSet) → d < OPEN → HasEntered a e n → ((r : Pair) → IsAmong these r → IsPairOf a r)
    → AreEnteredWith these d e g → IsAdded n m these → HasEntered a g m
entered-more a these d e g n m closes all pairs now added =
    record {
      sound = λ r is. elim (added.others r is.id is.has) [
        | inl old ↦
            let o : IsPairOf a r × (at e r < OPEN) = all.sound r (record { state = is.state; id = is.id; has = old }) in
            (o.0, elim (now.others r is.state) [ inl same ↦ omega (arith, same, o.1) | inr new ↦ (let v : at g r ≡ d = now.entered r new in omega (arith, v, closes)) ])
        | inr new ↦ (pairs r new, (let v : at g r ≡ d = now.entered r new in omega (arith, v, closes)))
      ];
      whole = λ r p k. elim (now.others r p.state) [
        | inl same ↦ added.kept r (all.whole r p (omega (arith, same, k)))
        | inr new ↦ added.added r new
      ];
    }

-- nothing is opened where no pair of the part is open
pub opened-none : (a : Asked) (part : Part) (d : ℕ) (e : Entries) → ((r : Pair) → IsAmong part r → at e r < OPEN) → AreOpened a part d e e
opened-none a part d e low =
    record {
      size = refl;
      entered = low;
      known = λ r p k. refl;
      others = λ r p. inl refl;
      count = omega arith;
      split = λ first s. s;
    }

-- the open ones are opened
pub opened-all : (a : Asked) (part : Part) (d w : ℕ) (e g : Entries) → d < OPEN
    → ((r : Pair) → IsAmong (record { state = part.state; place = part.place; word = w }) r → IsAmong part r × (place r < length e.distances) × (OPEN ≤ at e r))
    → ((r : Pair) → IsAmong part r → (at e r < OPEN) ⊎ IsAmong (record { state = part.state; place = part.place; word = w }) r)
    → part.state < 3
    → AreEnteredWith (record { state = part.state; place = part.place; word = w }) d e g → ((first : ℕ) → IsSplitAt d first e → IsSplitAt d first g) → AreOpened a part d e g
opened-all a part d w e g closes stand either low now split =
    record {
      size = now.size;
      entered = λ r is. elim (either r is) [
        | inl was ↦ elim (now.others r (omega (arith, is.state, low))) [ inl same ↦ omega (arith, same, was) | inr new ↦ (let v : at g r ≡ d = now.entered r new in omega (arith, v, closes)) ]
        | inr new ↦ (let v : at g r ≡ d = now.entered r new in omega (arith, v, closes))
      ];
      known = λ r p k. elim (now.others r p.state) [ inl same ↦ same | inr new ↦ absurd (let o : OPEN ≤ at e r = (stand r new).2 in omega (arith, o, k)) ];
      others = λ r p. elim (now.others r p.state) [ inl same ↦ inl same | inr new ↦ inr ((stand r new).0, now.entered r new) ];
      count = now.count;
      split = split;
    }
