-- What the run's log says after a step more.
use Rattle.std.proofs.Common.{◌≡◌, ℕ, List, [], ◌∷◌, ◌++◌, length, map, take, drop, All, sym, ◌∙◌, refl, ap, ap₂, subst, arith, length-append, length-drop}
use Rattle.std.proofs.lemmas.List.{take-append-le, drop-append-le}
use Rattle.std.proofs.lemmas.List.Elements.{All-head, All-tail}
use Rattle.invariants.specs.declared.records.Split.{Split}
use Rattle.cell_pool.specs.declared.spans.Span.{Span}
use Rattle.cell_pool.specs.declared.run_log.SplitEntry.{SplitEntry}
use Rattle.cell_pool.specs.Numbers.{Numbers, Pushes, KeepsLists}
use Rattle.run_history.specs.Records.{path_of, split_of, IsWithin}

-- what stands in front stays
pub keeps-front : (numbers more : List ℕ) → KeepsLists numbers (numbers ++ more)
keeps-front numbers more from len w =
    ap (take len) (drop-append-le from numbers more (omega arith))
    ∙ take-append-le len (drop from numbers) more (omega (arith, length-drop from numbers))

-- a push leaves all lists in their places
pub pushes-keep : (old new : Numbers) (path : List ℕ) (span : Span) → Pushes old new path span → KeepsLists old.numbers new.numbers
pushes-keep old new path span p =
    let e : new.numbers ≡ old.numbers ++ path = ap (λ (n : Numbers). n.numbers) p.appends in
    subst (KeepsLists old.numbers) (sym e) (keeps-front old.numbers path)

-- the new list lies within the numbers
pub pushes-within : (old new : Numbers) (path : List ℕ) (span : Span) → Pushes old new path span → IsWithin new.numbers span
pushes-within old new path span p =
    let e : new.numbers ≡ old.numbers ++ path = ap (λ (n : Numbers). n.numbers) p.appends in
    omega (arith, p.from, p.long, ap (λ (xs : List ℕ). length xs) e, length-append old.numbers path)

-- and so do the old ones
pub pushes-hold : (old new : Numbers) (path : List ℕ) (span other : Span) → Pushes old new path span → IsWithin old.numbers other → IsWithin new.numbers other
pushes-hold old new path span other p w =
    let e : new.numbers ≡ old.numbers ++ path = ap (λ (n : Numbers). n.numbers) p.appends in
    omega (arith, w, ap (λ (xs : List ℕ). length xs) e, length-append old.numbers path)

-- the splits stay
pub splits-stay : (old new : List ℕ) (es : List SplitEntry) → KeepsLists old new → All (λ e. IsWithin old e.path) es → map (split_of new) es ≡ map (split_of old) es
splits-stay old new [] k w = refl
splits-stay old new (e ∷ es) k w =
    let p : path_of new e.path ≡ path_of old e.path = k e.path.from e.path.len (All-head (λ (d : SplitEntry). IsWithin old d.path) e es w) in
    ap₂ (λ (x : List ℕ) (ss : List Split). record { inv = e.inv; place = e.place; path = x } ∷ ss) p
    (splits-stay old new es k (All-tail (λ (d : SplitEntry). IsWithin old d.path) e es w))
