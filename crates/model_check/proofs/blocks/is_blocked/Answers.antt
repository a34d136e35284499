use Rattle.std.proofs.Common.{◌≡◌, ◌<◌, ℕ, List, Some, slice_get, length, get_or, true≢false, sym, ◌∙◌, ap, subst, subst₂, arith}
use Rattle.std.proofs.lemmas.Option.{slice_get_read, slice_get-get_or}
use Rattle.invariants.specs.declared.records.Block.{Block}
use Rattle.invariants.specs.declared.records.Listed.{Listed}
use Rattle.partition_model.specs.Graphs.{Graph, Breaks, Merged}
use Rattle.partition_model.specs.Coarsening.{PairBefore}
use Rattle.model_check.specs.Pairs.{AreBefore}
use Rattle.model_check.proofs.Opening.{block-named, not-past, block-lower, block-higher, block-breaks, block-keeps}
use Rattle.model_check.proofs.blocks.is_blocked.Goals as goal
use Rattle.model_check.proofs.blocks.is_blocked.Goals.{After-skip_before, After-index-blocks-next, then-block-p-via-then-block-p, then-block-p-via-else-block-p+then-block-q}

before : (c : After-skip_before) → AreBefore c.args.model.now.blocks c.skip_before.result c.args.p c.args.q
before c = subst (λ (bs : List Block). AreBefore bs c.skip_before.result c.args.p c.args.q) c.as_slice-blocks.ensures c.skip_before.ensures.before

first : (c : After-skip_before) → (b : Block) → slice_get c.args.model.now.blocks c.skip_before.result ≡ Some b → PairBefore b.p b.q c.args.p c.args.q → ⊥
first c = subst (λ (bs : List Block). (b : Block) → slice_get bs c.skip_before.result ≡ Some b → PairBefore b.p b.q c.args.p c.args.q → ⊥) c.as_slice-blocks.ensures c.skip_before.ensures.first

there : (c : After-index-blocks-next) → slice_get c.args.model.now.blocks c.skip_before.result ≡ Some c.index-blocks-next.result
there c =
    slice_get_read c.args.model.now.blocks (length c.as_slice-blocks.result.now) c.skip_before.result c.index-blocks-next.result (ap length c.as_slice-blocks.ensures) c.if-next-blocks.false
    (c.index-blocks-next.is ∙ ap (λ (bs : List Block). get_or bs c.skip_before.result c.index-blocks-next.result) c.as_slice-blocks.ensures)

pub returns-then-next-blocks-clause-blocked : goal.returns-then-next-blocks-clause-blocked
returns-then-next-blocks-clause-blocked c =
    let s : After-skip_before = (goal.at.returns-then-next-blocks-clause-blocked c).After-skip_before in (
      λ f. absurd (true≢false (sym f)),
      λ b. absurd (not-past c.args.model.now c.requires.shaped c.args.p c.args.q c.skip_before.result (before s) (first s) (omega (arith, c.if-next-blocks.true, ap length c.as_slice-blocks.ensures)) b),
    )

pub returns-then-block-p-clause-blocked : goal.returns-then-block-p-clause-blocked
returns-then-block-p-clause-blocked c =
    let s : After-skip_before = (goal.at.returns-then-block-p-clause-blocked c).After-skip_before in
    let d : After-index-blocks-next = (goal.at.returns-then-block-p-clause-blocked c).After-index-blocks-next in (
      λ f. absurd (true≢false (sym f)),
      λ b. absurd (elim c.then-block-p.branch [
        | then-block-p-via-then-block-p w ↦ w.if-block-p.true (block-lower c.args.model.now c.requires.shaped c.args.p c.args.q c.skip_before.result (before s) (first s) c.index-blocks-next.result (there d) b)
        | then-block-p-via-else-block-p+then-block-q w ↦ w.if-block-q.true (block-higher c.args.model.now c.requires.shaped c.args.p c.args.q c.skip_before.result (before s) (first s) c.index-blocks-next.result (there d) b)
      ]),
    )

pub returns-clause-blocked : goal.returns-clause-blocked
returns-clause-blocked c =
    let s : After-skip_before = (goal.at.returns-clause-blocked c).After-skip_before in
    let d : After-index-blocks-next = (goal.at.returns-clause-blocked c).After-index-blocks-next in
    let m = c.args.model.now in
    let block : Block = c.index-blocks-next.result in
    let listed : Listed = get_or c.as_slice.result.now block.inv c.index-as_slice-block.result in
    let named : block.inv < length m.invariants = block-named m c.requires.shaped c.skip_before.result block (there d) in
    let names : slice_get m.invariants block.inv ≡ Some listed =
    ap (λ (ls : List Listed). slice_get ls block.inv) (sym c.as_slice.ensures)
    ∙ slice_get-get_or c.as_slice.result.now block.inv c.index-as_slice-block.result (omega (arith, named, ap length c.as_slice.ensures)) in
    let broken : Graph → List ℕ → Type 0 = λ g path. Breaks (Merged g c.args.p c.args.q) listed.inv path in (
      λ t.
          block-keeps m c.requires.shaped c.args.p c.args.q c.skip_before.result (before s) (first s) block listed (there d) c.if-block-p.false c.if-block-q.false names
          (subst₂ broken c.requires.graph c.as_slice-2.ensures (c.breaks.ensures.0 t)),
      λ b.
          c.breaks.ensures.1
          (subst₂ broken (sym c.requires.graph) (sym c.as_slice-2.ensures) (block-breaks m c.requires.shaped c.args.p c.args.q c.skip_before.result (before s) (first s) block listed (there d) names b)),
    )
