use Rattle.std.proofs.Common.{ℕ, List, ◌++◌, ◌∙◌, ap, ap₂}
use Rattle.invariants.specs.declared.Invariant.{Invariant}
use Rattle.invariants.specs.declared.Kinds.{Kinds}
use Rattle.invariants.specs.Mined.{mined_for}
use Rattle.traces.specs.Words.{words_of}
use Rattle.closure_miner.proofs.mine_by.Goals as goal

pub returns : goal.returns
returns g c =
    let words : List (List ℕ) = words_of c.args.traces.now in
    let made = c.in_ok-standing in
    c.from_vec.ensures
    ∙ (c.in_ok-pushed.ensures words made.ensures.stands
    ∙ (ap (λ (xs : List Invariant). xs ++ mined_for made.standing.kinds made.standing.types words) c.new-mined.ensures.items
    ∙ ap₂ (λ (k : Kinds) (n : ℕ). mined_for k n words) made.ensures.kinds (made.ensures.types ∙ c.requires.types)))
