use Rattle.std.proofs.Common.{◌≡◌, ◌<◌, ◌+◌, ◌*◌, ◌/◌, ◌%◌, ℕ, sym, ap, ◌∙◌, inl, inr, arith}
use Rattle.std.proofs.lemmas.Bool.{true≢false}
use Rattle.std.proofs.lemmas.Nat.{div-add-mod', mod_below}
use Rattle.path_finder.specs.Asking.{asked}
use Rattle.path_finder.specs.Walks.{Asked, state_at}
use Rattle.path_finder.proofs.PairSets.{bit-left, bit-on, first-mark, low-place, no-mark, on, place-marked}
use Rattle.path_finder.proofs.gather.gather_sources.Goals as goal

pub loop-place-init : goal.loop-place-init
loop-place-init c =
    let a : Asked = asked c.args.question.now in
    record {
      marked = c.requires.marked;
      kept = λ p h. h;
      all = λ p pp st leads.
          inl (place-marked (λ id. a.graph.edge id c.args.pair.id) c.args.sources.places p.id c.requires.places (omega (arith, pp.id, c.args.question.now.few)) leads.edge);
      others = λ p low h. inl h;
    }

pub add-requires-clause-marked : goal.add-requires-clause-marked
add-requires-clause-marked c = c.loop-place.invariant.marked

pub loop-place-preserved : goal.loop-place-preserved
loop-place-preserved c =
    let a : Asked = asked c.args.question.now in
    let q : ℕ = c.args.pair.id in
    let i = c.loop-place.invariant in
    let place : ℕ = c.in-Some.place in
    let rest : ℕ = c.loop-place.rest in
    let less : ℕ = c.without_bit-rest.result in
    let word : ℕ = c.source_word-word.result in
    let added = c.add.ensures.added in
    let edge : (id : ℕ) → id / 64 ≡ place → on word (id % 64) ≡ a.graph.edge id q = λ id here.
    let same : place * 64 + id % 64 ≡ id = omega (arith, here, div-add-mod' id 64) in
    c.source_word-word.ensures (id % 64) (mod_below id 64 (omega arith)) ∙ ap (λ (n : ℕ). a.graph.edge n q) same in
    record {
      marked = c.add.ensures.marked;
      kept = λ p h. added.kept p (i.kept p h);
      all = λ p pp st leads. elim (i.all p pp st leads) [
        | inl waits ↦ elim (bit-left rest less place (p.id / 64) (omega (arith, low-place p.id, pp.id, c.args.question.now.few)) c.without_bit-rest.ensures.others waits) [
          | inl still ↦ inl still
          | inr here ↦ inr (added.added p (record { state = st; place = here; bit = edge p.id here ∙ leads.edge }))
        ]
        | inr has ↦ inr (added.kept p has)
      ];
      others = λ p low h. elim (added.others p low h) [
        | inl old ↦ i.others p low old
        | inr among ↦ inr (record {
          edge = sym (edge p.id among.place) ∙ among.bit;
          step = ap (λ (s : ℕ). state_at a s q) among.state ∙ c.requires.step;
        })
      ];
    }

pub loop-place-smaller : goal.loop-place-smaller
loop-place-smaller c = c.without_bit-rest.ensures.fewer (bit-on c.loop-place.rest c.in-Some.place (first-mark c.loop-place.rest c.in-Some.place c.in-Some.ensures).there)

pub returns-then-place-ge-ID_WORDS-clause-gathered : goal.returns-then-place-ge-ID_WORDS-clause-gathered
returns-then-place-ge-ID_WORDS-clause-gathered c =
    let i = c.loop-place.invariant in
    record {
      kept = i.kept;
      all = λ p pp st leads. elim (i.all p pp st leads) [
        | inl waits ↦
            let low : p.id / 64 < c.in-Some.place = omega (arith, low-place p.id, pp.id, c.args.question.now.few, c.if-place-ge-ID_WORDS.true) in
            absurd (true≢false (sym waits ∙ (first-mark c.loop-place.rest c.in-Some.place c.in-Some.ensures).first (p.id / 64) (omega arith) low))
        | inr has ↦ has
      ];
      others = i.others;
    }

pub returns-clause-gathered : goal.returns-clause-gathered
returns-clause-gathered c =
    let i = c.loop-place.invariant in
    record {
      kept = i.kept;
      all = λ p pp st leads. elim (i.all p pp st leads) [
        | inl waits ↦ absurd (true≢false (sym waits ∙ no-mark c.loop-place.rest (p.id / 64) (omega (arith, low-place p.id, pp.id, c.args.question.now.few)) c.in_default.ensures))
        | inr has ↦ has
      ];
      others = i.others;
    }
