use Rattle.std.proofs.Common.{◌≡◌, slice_get, sym, ◌∙◌, ap, subst, inl, inr, arith}
use Rattle.std.proofs.lemmas.Bool.{cases_lt}
use Rattle.std.proofs.lemmas.Option.{same_Some, slice_get_within}
use Rattle.path_finder.specs.declared.table.Entry.{Entry}
use Rattle.path_finder.specs.PairSets.{IsAmong}
use Rattle.path_finder.specs.Tables.{part_of}
use Rattle.path_finder.proofs.gather.gather.Goals as goal

pub loop-i-init : goal.loop-i-init
loop-i-init c =
    record {
      marked = c.requires.marked;
      kept = λ p h. h;
      all = λ j x high low is. absurd (omega (arith, high, low));
      others = λ p low h. inl h;
    }

pub loop-i-preserved : goal.loop-i-preserved
loop-i-preserved c =
    let i = c.loop-i.invariant in
    let g = c.gather_entry.ensures.gathered in
    record {
      marked = c.gather_entry.ensures.marked;
      kept = λ p h. g.kept p (i.kept p h);
      all = λ j x high low is p q am pp leads. elim (cases_lt j c.loop-i.i) [
        | inl before ↦ g.kept p (i.all j x high before is p q am pp leads)
        | inr here ↦
            let same : j ≡ c.loop-i.i = omega (arith, low, here) in
            let this : x ≡ c.entry.result = same_Some x c.entry.result (sym is ∙ ap (slice_get c.args.table.now.parts) same ∙ c.entry.ensures) in
            g.all p q (subst (λ (y : Entry). IsAmong (part_of y) q) this am) pp leads
      ];
      others = λ p low h. elim (g.others p low h) [
        | inl old ↦ i.others p low old
        | inr new ↦ inr (new.0, record { index = c.loop-i.i; entry = c.entry.result; reached = c.loop-i.auto.i; there = c.entry.ensures; among = new.1 }, new.2)
      ];
    }

pub returns-clause-gathered : goal.returns-clause-gathered
returns-clause-gathered c =
    let i = c.loop-i.invariant in
    record {
      kept = i.kept;
      all = λ p q from pp leads. i.all from.index from.entry from.reached (omega (arith, slice_get_within c.args.table.now.parts from.index from.entry from.there, c.loop-i-test.false, c.len-i-end.ensures.len)) from.there p q from.among pp leads;
      others = i.others;
    }
