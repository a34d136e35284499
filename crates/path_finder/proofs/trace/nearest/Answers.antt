use Rattle.std.proofs.Common.{◌≡◌, ◌&&◌, ◌%◌, ℕ, Bool, refl, sym, ◌∙◌, ap, ap₂, inl, inr, arith}
use Rattle.std.proofs.lemmas.Bool.{and_parts, true≢false}
use Rattle.std.proofs.lemmas.Nat.{mod_below}
use Rattle.path_finder.specs.Asking.{asked}
use Rattle.path_finder.specs.Bits.{IsLowestBit}
use Rattle.path_finder.specs.Walks.{Asked, state_at}
use Rattle.path_finder.proofs.PairSets.{bit-left, id-low, left-bit, none-of-word, on, same-id}
use Rattle.path_finder.proofs.Tracing.{first-on, on-both}
use Rattle.path_finder.proofs.Lowest.{lowest-of-word, some-on}
use Rattle.path_finder.proofs.WordSteps.{bit-of-word}
use Rattle.path_finder.proofs.trace.nearest.Goals as goal

pub overflow_cast-id : goal.overflow_cast-id
overflow_cast-id c =
    let f = bit-of-word c.args.entry.place c.loop-at.rest c.in-Some.at c.in-Some.ensures in
    record { fits = omega (arith, id-low c.in-Some.at c.args.entry.place f.0 c.requires.place) }

pub loop-at-init : goal.loop-at-init
loop-at-init c =
    let edge : ℕ → Bool = λ q. (asked c.args.question.now).graph.edge c.args.pair.id q in
    record {
      within = λ id here is. and_parts (edge id) (on c.args.entry.word (id % 64)) (sym (on-both edge c.target_word.result c.args.entry.word c.args.entry.place id c.target_word.ensures here) ∙ is);
      waits = λ r am leads. on-both edge c.target_word.result c.args.entry.word c.args.entry.place r.id c.target_word.ensures am.place ∙ ap₂ (λ (a b : Bool). a && b) leads.edge am.bit;
    }

pub without_lowest-rest-requires : goal.without_lowest-rest-requires
without_lowest-rest-requires c = some-on c.loop-at.rest (c.in-Some.at % 64) (bit-of-word c.args.entry.place c.loop-at.rest c.in-Some.at c.in-Some.ensures).1

pub loop-at-preserved : goal.loop-at-preserved
loop-at-preserved c =
    let a : Asked = asked c.args.question.now in
    let i = c.loop-at.invariant in
    let id : ℕ = c.in-Some.at in
    let rest : ℕ = c.loop-at.rest in
    let less : ℕ = c.without_lowest-rest.result in
    let w = c.without_lowest-rest.ensures in
    let low : IsLowestBit rest (id % 64) = lowest-of-word c.args.entry.place rest id c.in-Some.ensures in
    let f = bit-of-word c.args.entry.place rest id c.in-Some.ensures in
    record {
      within = λ n here is. i.within n here (left-bit rest less (id % 64) (n % 64) (mod_below n 64 (omega arith)) (w.there (id % 64) low) (w.others (id % 64) low) is).1;
      waits = λ r am leads. elim (bit-left rest less (id % 64) (r.id % 64) (mod_below r.id 64 (omega arith)) (w.others (id % 64) low) (i.waits r am leads)) [
        | inl still ↦ still
        | inr same ↦
            let this : r.id ≡ id = same-id c.args.entry.place r.id id am.place f.0 same in
            absurd (c.if-state_at-entry.false (c.state_at.ensures.value ∙ ap (λ (n : ℕ). state_at a c.args.pair.state n) (sym this) ∙ leads.step ∙ am.state))
      ];
    }

pub loop-at-smaller : goal.loop-at-smaller
loop-at-smaller c = c.without_lowest-rest.ensures.fewer

pub returns-clause-least : goal.returns-clause-least
returns-clause-least c r am leads = absurd (true≢false (sym (c.loop-at.invariant.waits r am leads) ∙ none-of-word c.args.entry.place c.loop-at.rest c.in_default.ensures r.id am.place))

pub returns-then-id-other-clause-least : goal.returns-then-id-other-clause-least
returns-then-id-other-clause-least c r am leads =
    omega (arith, c.if-id-other.true, first-on c.args.entry.place c.loop-at.rest c.in-Some.at r.id c.in-Some.ensures am.place (c.loop-at.invariant.waits r am leads))

pub returns-then-state_at-entry-clause-found : goal.returns-then-state_at-entry-clause-found
returns-then-state_at-entry-clause-found c =
    let f = bit-of-word c.args.entry.place c.loop-at.rest c.in-Some.at c.in-Some.ensures in
    let its = c.loop-at.invariant.within c.in-Some.at f.0 f.1 in
    inr (record { state = refl; place = f.0; bit = its.1 }, record { edge = its.0; step = sym c.state_at.ensures.value ∙ c.if-state_at-entry.true })

pub returns-then-state_at-entry-clause-least : goal.returns-then-state_at-entry-clause-least
returns-then-state_at-entry-clause-least c r am leads = first-on c.args.entry.place c.loop-at.rest c.in-Some.at r.id c.in-Some.ensures am.place (c.loop-at.invariant.waits r am leads)
