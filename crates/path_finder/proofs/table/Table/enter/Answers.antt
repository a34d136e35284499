use Rattle.std.proofs.Common.{◌++◌, ◌∷◌, [], List, sym, ◌∙◌, ap, subst, arith}
use Rattle.path_finder.specs.declared.table.Entry.{Entry}
use Rattle.path_finder.specs.Tables.{Entries, entries_of, part_of, AreEnteredWith, IsListed}
use Rattle.path_finder.proofs.Listing.{entries-more, listed-more, may-change, room-for, with_entry, MayEnter}
use Rattle.path_finder.proofs.table.Table.enter.Goals as goal

pub push_reserved-requires : goal.push_reserved-requires
push_reserved-requires c =
    let may : MayEnter c.args.self.now c.args.entry = record { small = c.requires.state; below = c.requires.place; some = c.requires.some; fits = omega arith; closes = c.requires.closes; stand = c.requires.stand_open; last = c.requires.last } in
    let e : Entries = entries_of c.self.inside.pairs c.self.inside.entries.items in
    omega (arith, c.self.invariant.1, room-for e c.args.entry c.self.invariant.0 (subst (λ (x : Entries). MayEnter x c.args.entry) (sym c.self.view_is) may))

pub invariant_of-self : goal.invariant_of-self
invariant_of-self c =
    let may : MayEnter c.args.self.now c.args.entry = record { small = c.requires.state; below = c.requires.place; some = c.requires.some; fits = omega arith; closes = c.requires.closes; stand = c.requires.stand_open; last = c.requires.last } in
    let e : Entries = entries_of c.self.inside.pairs c.self.inside.entries.items in (
      subst (λ (x : Entries). IsListed x)
          (sym (ap (λ (xs : List Entry). entries_of c.self.inside.pairs xs) c.push_reserved.ensures.items ∙ entries-more c.self.inside.pairs c.self.inside.entries.items c.args.entry))
          (listed-more e c.args.entry c.self.invariant.0 (subst (λ (x : Entries). MayEnter x c.args.entry) (sym c.self.view_is) may)),
      omega (arith, c.self.invariant.1, c.push_reserved.ensures.capacity),
    )

pub returns-clause-entered : goal.returns-clause-entered
returns-clause-entered c =
    let may : MayEnter c.args.self.now c.args.entry = record { small = c.requires.state; below = c.requires.place; some = c.requires.some; fits = omega arith; closes = c.requires.closes; stand = c.requires.stand_open; last = c.requires.last } in
    let e : Entries = entries_of c.self.inside.pairs c.self.inside.entries.items in
    subst (λ (x : Entries). AreEnteredWith (part_of c.args.entry) c.args.entry.distance c.args.self.now x)
    (sym (ap (λ (xs : List Entry). entries_of c.self.inside.pairs xs) c.push_reserved.ensures.items ∙ entries-more c.self.inside.pairs c.self.inside.entries.items c.args.entry))
    (subst (λ (x : Entries). AreEnteredWith (part_of c.args.entry) c.args.entry.distance x (with_entry e c.args.entry)) c.self.view_is
    (may-change e c.args.entry c.self.invariant.0 (subst (λ (x : Entries). MayEnter x c.args.entry) (sym c.self.view_is) may)))

pub returns-clause-parts : goal.returns-clause-parts
returns-clause-parts c = c.push_reserved.ensures.items ∙ ap (λ (x : Entries). x.parts ++ c.args.entry ∷ []) c.self.view_is
