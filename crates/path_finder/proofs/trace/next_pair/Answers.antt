use Rattle.std.proofs.Common.{◌≡◌, ◌&&◌, ℕ, Bool, slice_get, add-one, sym, ◌∙◌, ap, subst, inl, inr, arith}
use Rattle.std.proofs.lemmas.Bool.{and_parts, cases_lt}
use Rattle.std.proofs.lemmas.Option.{same_Some}
use Rattle.partition_graph.specs.Seen.{seen}
use Rattle.path_finder.specs.declared.pair.Pair.{Pair}
use Rattle.path_finder.specs.declared.table.Entry.{Entry}
use Rattle.path_finder.specs.Asking.{asked}
use Rattle.path_finder.specs.PairSets.{IsAmong}
use Rattle.path_finder.specs.Tables.{Entries, part_of, IsEntered, IsKnown, IsSplitAt}
use Rattle.path_finder.specs.IdSets.{has_id}
use Rattle.path_finder.specs.Walks.{Asked}
use Rattle.path_finder.proofs.Least.{has_next}
use Rattle.path_finder.proofs.Levels.{entered-pair}
use Rattle.path_finder.proofs.Tracing.{IsChosen, next-chosen, next-only}
use Rattle.path_finder.proofs.trace.next_pair.Goals as goal

pub loop-i-init : goal.loop-i-init
loop-i-init c = record { chosen = inl c.ids.ensures.value; least = λ j x high low is r am leads. absurd (omega (arith, high, low)) }

pub entry-requires : goal.entry-requires
entry-requires c = omega (arith, c.requires.end.within)

pub nearest-next-requires-clause-looked : goal.nearest-next-requires-clause-looked
nearest-next-requires-clause-looked c =
    let a : Asked = asked c.args.question.now in
    let d : ℕ = c.args.distance in
    let near : ℕ → Bool = has_id c.args.question.now.near.now in
    let some = has_next a c.args.table.now c.args.pair d c.args.question.now.within (subst (λ (n : ℕ). IsKnown a n c.args.table.now) (add-one d) c.requires.known) c.requires.pair (c.requires.entry ∙ add-one d) (omega (arith, c.requires.stands)) in
    (and_parts (near c.args.pair.id) (near some.0.id) (and_parts (near c.args.pair.id && near some.0.id) ((seen c.args.question.now.sight.now.view).edge c.args.pair.id some.0.id) some.2.edge).0).0

pub loop-i-preserved : goal.loop-i-preserved
loop-i-preserved c =
    let a : Asked = asked c.args.question.now in
    let e : Entries = c.args.table.now in
    let p : Pair = c.args.pair in
    let d : ℕ = c.args.distance in
    let k : ℕ = c.loop-i.i in
    let i = c.loop-i.invariant in
    let n = c.nearest-next.ensures in
    let entry : Entry = c.entry.result in
    let x : IsEntered e entry = c.requires.listed.each k entry c.entry.ensures in
    record {
      chosen = elim n.found [
        | inl same ↦ subst (λ (q : Pair). IsChosen a e p d q) (sym same) i.chosen
        | inr new ↦ inr (
          entered-pair a e entry c.nearest-next.result c.requires.known.size x new.0,
          new.1,
          omega (arith, x.value c.nearest-next.result new.0, c.requires.first.after k entry c.loop-i.auto.i c.entry.ensures, c.requires.end.before k entry c.loop-i-test.true c.entry.ensures),
        )
      ];
      least = λ j y high low is r am leads. elim (cases_lt j k) [
        | inl before ↦ omega (arith, n.lower, i.least j y high before is r am leads)
        | inr here ↦
            let same : j ≡ k = omega (arith, low, here) in
            let this : y ≡ entry = same_Some y entry (sym is ∙ ap (slice_get e.parts) same ∙ c.entry.ensures) in
            n.least r (subst (λ (z : Entry). IsAmong (part_of z) r) this am) leads
      ];
    }

-- the only pair is the next one
pub returns-in-Some : goal.returns-in-Some
returns-in-Some c =
    let a : Asked = asked c.args.question.now in
    let e : Entries = c.args.table.now in
    let d : ℕ = c.args.distance in
    let next = next-only a e c.args.pair d c.args.first c.args.end c.in-Some.only c.args.question.now.within
    (subst (λ (n : ℕ). IsKnown a n e) (add-one d) c.requires.known) c.requires.listed c.requires.first
    (subst (λ (n : ℕ). IsSplitAt n c.args.end e) (add-one d) c.requires.end)
    c.requires.pair (c.requires.entry ∙ add-one d) (omega (arith, c.requires.stands)) c.in-Some.ensures in
    record { pair = next.0; next = next.1 }

-- the pair that is left is the next one
pub returns : goal.returns
returns c =
    let a : Asked = asked c.args.question.now in
    let e : Entries = c.args.table.now in
    let d : ℕ = c.args.distance in
    let i = c.loop-i.invariant in
    let next = next-chosen a e c.args.pair d c.args.first c.args.end c.loop-i.next c.args.question.now.within
    (subst (λ (n : ℕ). IsKnown a n e) (add-one d) c.requires.known) c.requires.listed c.requires.first
    (subst (λ (n : ℕ). IsSplitAt n c.args.end e) (add-one d) c.requires.end)
    c.requires.pair (c.requires.entry ∙ add-one d) (omega (arith, c.requires.stands)) i.chosen
    (λ j x high low is r am leads. i.least j x high (omega (arith, low, c.loop-i-test.false)) is r am leads) in
    record { pair = next.0; next = next.1 }
