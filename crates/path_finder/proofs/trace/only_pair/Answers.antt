use Rattle.std.proofs.Common.{◌≡◌, ◌%◌, ℕ, slice_get, sym, ◌∙◌, ap, ap₂, subst, inl, inr, arith}
use Rattle.std.proofs.lemmas.Bool.{true≢false}
use Rattle.std.proofs.lemmas.Nat.{mod_below}
use Rattle.std.proofs.lemmas.Option.{same_Some}
use Rattle.path_finder.specs.declared.pair.Pair.{Pair}
use Rattle.path_finder.specs.declared.table.Entry.{Entry}
use Rattle.path_finder.specs.Bits.{IsLowestBit}
use Rattle.path_finder.specs.PairSets.{IsAmong}
use Rattle.path_finder.specs.Tables.{part_of}
use Rattle.path_finder.proofs.PairSets.{bit-left, id-low, off-zero, same-id}
use Rattle.path_finder.proofs.Lowest.{lowest-of-word}
use Rattle.path_finder.proofs.WordSteps.{bit-of-word}
use Rattle.path_finder.proofs.trace.only_pair.Goals as goal

pub overflow_cast-result : goal.overflow_cast-result
overflow_cast-result c =
    let x : Entry = c.entry-entry.result in
    let f = bit-of-word x.place x.word c.in-Some.id c.in-Some.ensures in
    record { fits = omega (arith, id-low c.in-Some.id x.place f.0 (c.requires.listed.each c.args.first x c.entry-entry.ensures).below) }

-- all pairs of the entry have the same id
pub returns : goal.returns
returns c i y low high is r among =
    let x : Entry = c.entry-entry.result in
    let id : ℕ = c.in-Some.id in
    let bit : IsLowestBit x.word (id % 64) = lowest-of-word x.place x.word id c.in-Some.ensures in
    let f = bit-of-word x.place x.word id c.in-Some.ensures in
    let here : i ≡ c.args.first = omega (arith, low, high, c.if-first-end.false) in
    let this : y ≡ x = same_Some y x (sym is ∙ ap (slice_get c.args.table.now.parts) here ∙ c.entry-entry.ensures) in
    let am : IsAmong (part_of x) r = subst (λ (z : Entry). IsAmong (part_of z) r) this among in
    let same : r.id ≡ id = elim (bit-left x.word c.without_lowest.result (id % 64) (r.id % 64) (mod_below r.id 64 (omega arith)) (c.without_lowest.ensures.others (id % 64) bit) am.bit) [
      | inl still ↦ absurd (true≢false (sym still ∙ off-zero c.without_lowest.result (r.id % 64) c.if-without_lowest-ne0.false))
      | inr at ↦ same-id x.place r.id id am.place f.0 at
    ] in
    let pair : ℕ → ℕ → Pair = λ n s. record { id = n; state = s } in
    ap₂ pair same am.state
