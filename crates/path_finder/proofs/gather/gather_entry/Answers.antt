use Rattle.std.proofs.Common.{◌≡◌, ◌+◌, ◌*◌, ◌/◌, ◌%◌, ◌&&◌, ℕ, Bool, bit_and, sym, ap, ap₂, refl, ◌∙◌, inl, inr, arith}
use Rattle.std.proofs.lemmas.Bool.{and_parts, true≢false}
use Rattle.std.proofs.lemmas.Nat.{div-add-mod', mod_below}
use Rattle.partition_graph.specs.NeighbourWords.{IsWordOf}
use Rattle.partition_graph.specs.Seen.{seen}
use Rattle.partition_graph.proofs.NeighbourWords.{word-both}
use Rattle.path_finder.specs.Asking.{asked}
use Rattle.path_finder.specs.Bits.{IsLowestBit}
use Rattle.path_finder.specs.IdSets.{has_id}
use Rattle.path_finder.specs.Walks.{Asked, state_at}
use Rattle.path_finder.proofs.PairSets.{bit-left, id-low, left-bit, none-of-word, on, own-bits, same-id}
use Rattle.path_finder.proofs.Lowest.{lowest-of-word, some-on}
use Rattle.path_finder.proofs.WordSteps.{bit-of-word}
use Rattle.path_finder.proofs.gather.gather_entry.Goals as goal

pub overflow_cast-pair : goal.overflow_cast-pair
overflow_cast-pair c =
    let f = bit-of-word c.args.entry.place c.loop-id.rest c.in-Some.id c.in-Some.ensures in
    record { fits = omega (arith, id-low c.in-Some.id c.args.entry.place f.0 c.requires.place) }

-- whether the bit is on in both words
both-on : (entry near : ℕ) (place id : ℕ) (has : ℕ → Bool) → IsWordOf has place near → id / 64 ≡ place → on (bit_and entry near) (id % 64) ≡ (on entry (id % 64) && has id)
both-on entry near place id has is here =
    let same : place * 64 + id % 64 ≡ id = omega (arith, here, div-add-mod' id 64) in
    word-both (λ n. on entry (n % 64)) has place entry near (own-bits place entry) is (id % 64) (mod_below id 64 (omega arith))
    ∙ ap (λ (n : ℕ). on entry (n % 64) && has n) same

pub loop-id-init : goal.loop-id-init
loop-id-init c =
    let near : ℕ → Bool = has_id c.args.question.now.near.now in
    record {
      marked = c.requires.marked;
      within = λ r is.
          let both = and_parts (on c.args.entry.word (r.id % 64)) (near r.id) (sym (both-on c.args.entry.word c.near_word.result c.args.entry.place r.id near c.near_word.ensures is.place) ∙ is.bit) in
          (record { state = is.state; place = is.place; bit = both.0 }, both.1);
      kept = λ p h. h;
      all = λ p q is pp leads.
          let looked = and_parts (near p.id) (near q.id) (and_parts (near p.id && near q.id) ((seen c.args.question.now.sight.now.view).edge p.id q.id) leads.edge).0 in
          inl (both-on c.args.entry.word c.near_word.result c.args.entry.place q.id near c.near_word.ensures is.place ∙ ap₂ (λ (a b : Bool). a && b) is.bit looked.1);
      others = λ p low h. inl h;
    }

pub gather_pair-requires-clause-looked : goal.gather_pair-requires-clause-looked
gather_pair-requires-clause-looked c =
    let f = bit-of-word c.args.entry.place c.loop-id.rest c.in-Some.id c.in-Some.ensures in
    (c.loop-id.invariant.within (record { id = c.in-Some.id; state = c.args.entry.state }) (record { state = refl; place = f.0; bit = f.1 })).1

pub without_lowest-rest-requires : goal.without_lowest-rest-requires
without_lowest-rest-requires c = some-on c.loop-id.rest (c.in-Some.id % 64) (bit-of-word c.args.entry.place c.loop-id.rest c.in-Some.id c.in-Some.ensures).1

pub loop-id-preserved : goal.loop-id-preserved
loop-id-preserved c =
    let a : Asked = asked c.args.question.now in
    let i = c.loop-id.invariant in
    let id : ℕ = c.in-Some.id in
    let rest : ℕ = c.loop-id.rest in
    let less : ℕ = c.without_lowest-rest.result in
    let w = c.without_lowest-rest.ensures in
    let low : IsLowestBit rest (id % 64) = lowest-of-word c.args.entry.place rest id c.in-Some.ensures in
    let g = c.gather_pair.ensures.gathered in
    let f = bit-of-word c.args.entry.place rest id c.in-Some.ensures in
    record {
      marked = c.gather_pair.ensures.marked;
      within = λ r is. i.within r (record { state = is.state; place = is.place; bit = (left-bit rest less (id % 64) (r.id % 64) (mod_below r.id 64 (omega arith)) (w.there (id % 64) low) (w.others (id % 64) low) is.bit).1 });
      kept = λ p h. g.kept p (i.kept p h);
      all = λ p q is pp leads. elim (i.all p q is pp leads) [
        | inl waits ↦ elim (bit-left rest less (id % 64) (q.id % 64) (mod_below q.id 64 (omega arith)) (w.others (id % 64) low) waits) [
          | inl still ↦ inl still
          | inr same ↦
              let this : q.id ≡ id = same-id c.args.entry.place q.id id is.place f.0 same in
              inr (g.all p pp pp.state (record { edge = ap (λ (n : ℕ). a.graph.edge p.id n) (sym this) ∙ leads.edge; step = ap (λ (n : ℕ). state_at a p.state n) (sym this) ∙ leads.step ∙ is.state }))
        ]
        | inr has ↦ inr (g.kept p has)
      ];
      others = λ p low h. elim (g.others p low h) [
        | inl old ↦ i.others p low old
        | inr leads ↦ inr (record { id = id; state = c.args.entry.state }, (i.within (record { id = id; state = c.args.entry.state }) (record { state = refl; place = f.0; bit = f.1 })).0, leads)
      ];
    }

pub loop-id-smaller : goal.loop-id-smaller
loop-id-smaller c = c.without_lowest-rest.ensures.fewer

pub returns-clause-gathered : goal.returns-clause-gathered
returns-clause-gathered c =
    let i = c.loop-id.invariant in
    record {
      kept = i.kept;
      all = λ p q is pp leads. elim (i.all p q is pp leads) [
        | inl waits ↦ absurd (true≢false (sym waits ∙ none-of-word c.args.entry.place c.loop-id.rest c.in_default.ensures q.id is.place))
        | inr has ↦ has
      ];
      others = i.others;
    }
