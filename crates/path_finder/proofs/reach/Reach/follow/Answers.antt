use Rattle.std.proofs.Common.{◌≡◌, ◌<◌, ◌+◌, ◌*◌, ◌/◌, ◌%◌, ◌&&◌, not, ℕ, Bool, true, length, sym, ◌∙◌, ap, inl, inr, arith, refl, slice_get}
use Rattle.std.proofs.lemmas.Bool.{cases_Bool, true≢false}
use Rattle.std.proofs.lemmas.Nat.{div-add-mod', mod_below}
use Rattle.std.proofs.lemmas.Option.{slice_get_read, slice_get_within}
use Rattle.partition_graph.specs.Seen.{seen}
use Rattle.path_finder.specs.Nearness.{Met, is_met}
use Rattle.path_finder.specs.Reaching.{edge_by}
use Rattle.path_finder.proofs.PairSets.{bit-left, bit-on, first-mark, low-place, no-mark, place-marked}
use Rattle.path_finder.proofs.Reaching.{edge-below, new-unmet, reaching_next}
use Rattle.path_finder.proofs.WordSteps.{word-less}
use Rattle.path_finder.proofs.reach.Reach.follow.Goals as goal

pub loop-place-init : goal.loop-place-init
loop-place-init c =
    let e : ℕ → ℕ → Bool = edge_by c.args.way (seen c.args.sight.now.view) in
    record {
      place = c.requires.place;
      there =
          sym (ap (λ (m : Met). slice_get m.list c.args.next) c.self.view_is)
          ∙ slice_get_read c.self.inside.list.items (length c.self.inside.list.items) c.args.next c.index-id.result.now refl (omega (arith, c.requires.place, ap (λ (m : Met). length m.list) c.self.view_is)) c.index-id.ensures;
      reaching = c.requires.reaching;
      more = record { met = λ p m. m; listed = λ i p m. m };
      followed = λ q d.
          let low : q < c.ids_used.result = edge-below c.args.way (seen c.args.sight.now.view) c.ids_used.result c.index-id.result.now q (c.ids_used.ensures.within c.args.sight.now.sound) d in
          inl (place-marked (e c.index-id.result.now) c.neighbour_places-rest.result q c.neighbour_places-rest.ensures (omega (arith, low, c.ids_used.ensures.limit)) d);
    }

pub add_all-requires-clause-unmet : goal.add_all-requires-clause-unmet
add_all-requires-clause-unmet c i below is_on =
    let e : ℕ → ℕ → Bool = edge_by c.args.way (seen c.args.sight.now.view) in
    let n : ℕ = c.in-Some.place * 64 + i in
    let is = word-less (e c.index-id.result.now) (is_met c.loop-place.self) c.in-Some.place c.neighbours.result c.word.result c.word.type_inv c.neighbours.ensures c.word.ensures.word in
    new-unmet (e c.index-id.result.now n) (is_met c.loop-place.self n) (sym (is i below) ∙ is_on)

pub loop-place-preserved : goal.loop-place-preserved
loop-place-preserved c =
    let e : ℕ → ℕ → Bool = edge_by c.args.way (seen c.args.sight.now.view) in
    let id : ℕ = c.index-id.result.now in
    let i = c.loop-place.invariant in
    let k = c.add_all.ensures in
    let place : ℕ = c.in-Some.place in
    let is = word-less (e id) (is_met c.loop-place.self) place c.neighbours.result c.word.result c.word.type_inv c.neighbours.ensures c.word.ensures.word in
    record {
      place = slice_get_within c.add_all.new.self.list c.args.next id (k.more.listed c.args.next id i.there);
      there = k.more.listed c.args.next id i.there;
      reaching = k.reaching e c.args.next (omega (arith, i.place)) i.reaching;
      more = record { met = λ p m. k.more.met p (i.more.met p m); listed = λ j p m. k.more.listed j p (i.more.listed j p m) };
      followed = λ q d. elim (i.followed q d) [
        | inl waits ↦ elim (bit-left c.loop-place.rest c.without_bit-rest.result place (q / 64) (omega (arith, low-place q, edge-below c.args.way (seen c.args.sight.now.view) c.ids_used.result id q (c.ids_used.ensures.within c.args.sight.now.sound) d, c.ids_used.ensures.limit)) c.without_bit-rest.ensures.others waits) [
          | inl still ↦ inl still
          | inr here ↦ inr (elim (cases_Bool (is_met c.loop-place.self q)) [
            | inl was ↦ k.more.met q was
            | inr not_yet ↦
                let j : ℕ = q % 64 in
                let at : place * 64 + j ≡ q = omega (arith, here, div-add-mod' q 64) in
                let in_word : j < 64 = mod_below q 64 (omega arith) in
                let open_there : (e id q && not (is_met c.loop-place.self q)) ≡ true = ap (λ (b : Bool). b && not (is_met c.loop-place.self q)) d ∙ ap (λ (b : Bool). not b) not_yet in
                ap (λ (n : ℕ). is_met c.add_all.new.self n) (sym at)
                ∙ k.met j in_word (is j in_word ∙ ap (λ (n : ℕ). e id n && not (is_met c.loop-place.self n)) at ∙ open_there)
          ])
        ]
        | inr met ↦ inr (k.more.met q met)
      ];
    }

pub loop-place-smaller : goal.loop-place-smaller
loop-place-smaller c = c.without_bit-rest.ensures.fewer (bit-on c.loop-place.rest c.in-Some.place (first-mark c.loop-place.rest c.in-Some.place c.in-Some.ensures).there)

pub returns-then-place-ge-ID_WORDS-clause-reaching : goal.returns-then-place-ge-ID_WORDS-clause-reaching
returns-then-place-ge-ID_WORDS-clause-reaching c =
    let e : ℕ → ℕ → Bool = edge_by c.args.way (seen c.args.sight.now.view) in
    let id : ℕ = c.index-id.result.now in
    let i = c.loop-place.invariant in
    reaching_next e c.args.next id c.loop-place.self i.reaching i.there (λ q d. elim (i.followed q d) [
      | inl waits ↦
          let low : q < c.ids_used.result = edge-below c.args.way (seen c.args.sight.now.view) c.ids_used.result id q (c.ids_used.ensures.within c.args.sight.now.sound) d in
          let before : q / 64 < c.in-Some.place = omega (arith, low-place q, low, c.ids_used.ensures.limit, c.if-place-ge-ID_WORDS.true) in
          absurd (true≢false (sym waits ∙ (first-mark c.loop-place.rest c.in-Some.place c.in-Some.ensures).first (q / 64) (omega arith) before))
      | inr met ↦ met
    ])

pub returns-clause-reaching : goal.returns-clause-reaching
returns-clause-reaching c =
    let e : ℕ → ℕ → Bool = edge_by c.args.way (seen c.args.sight.now.view) in
    let id : ℕ = c.index-id.result.now in
    let i = c.loop-place.invariant in
    reaching_next e c.args.next id c.loop-place.self i.reaching i.there (λ q d. elim (i.followed q d) [
      | inl waits ↦
          let low : q < c.ids_used.result = edge-below c.args.way (seen c.args.sight.now.view) c.ids_used.result id q (c.ids_used.ensures.within c.args.sight.now.sound) d in
          absurd (true≢false (sym waits ∙ no-mark c.loop-place.rest (q / 64) (omega (arith, low-place q, low, c.ids_used.ensures.limit)) c.in_default.ensures))
      | inr met ↦ met
    ])
