use Rattle.std.proofs.Common.{◌<◌, ℕ, Bool, List, [], false, length, replicate, get_or, get_or-set_same, ap, ◌∙◌, arith}
use Rattle.path_finder.proofs.reach.Reach.clear.Goals as goal

pub returns-clause-flags : goal.returns-clause-flags
returns-clause-flags c =
    let rows : List (List Bool) = c.self.inside.met in
    let blank : List Bool = replicate (length (get_or rows 0 [])) false in
    let some : 0 < length rows = omega (arith, c.self.invariant.0.count) in
    ap (λ (xs : List (List Bool)). get_or xs 0 []) c.clear-2.ensures.rows ∙ get_or-set_same rows 0 blank [] some
    ∙ ap (λ (n : ℕ). replicate n false) (c.self.invariant.0.long 0 (omega arith))
