use Rattle.std.proofs.Common.{◌≡◌, ℕ, List, sym, ◌∙◌, ap, subst, subst₂}
use Rattle.invariants.specs.declared.Invariant.{Invariant}
use Rattle.model_check.specs.Rows.{shown}
use Rattle.model_check.specs.Columns.{at, AreInColumn, HasSources}
use Rattle.model_check.specs.States.{AreRightEnds}
use Rattle.model_check.proofs.Together.{column-of}
use Rattle.model_check.proofs.columns.lay_column.Goals as goal

pub returns-clause-column : goal.returns-clause-column
returns-clause-column c =
    let l = c.args.listed.now in
    let k = c.args.k in
    let g = shown c.args.graph.now in
    let labels : List ℕ = c.put_sources-2.new.columns.labels.items in
    let first : List ℕ = c.args.columns.now.sources.items in
    let second : List ℕ = c.put_sources.new.columns.sources.items in
    let third : List ℕ = c.put_sources-2.new.columns.sources.items in
    let same : labels ≡ c.args.columns.now.labels.items = c.put_sources-2.ensures.labels ∙ c.put_sources.ensures.labels in
    let begun : (p : ℕ) → at first k p ≡ at labels k p = λ p. c.requires.begun p ∙ ap (λ (ls : List ℕ). at ls k p) (sym same) in
    let a : HasSources l.inv g l.inv.a labels first second k = subst₂ (λ (i : Invariant) (ls : List ℕ). HasSources i g l.inv.a ls first second k) c.of-sources.ensures (sym c.put_sources-2.ensures.labels) c.put_sources.ensures.sources in
    let b : HasSources l.inv g l.inv.b labels second third k = subst (λ (i : Invariant). HasSources i g l.inv.b labels second third k) c.of-sources.ensures c.put_sources-2.ensures.sources in
    λ m w e all t. column-of m l g labels first second third k w e (subst (λ (ls : List ℕ). AreInColumn m.partitions l.labels ls k) (sym same) all) begun a b
    (subst₂ (λ (initial terminal : ℕ). AreRightEnds l.inv g initial terminal) c.label-initial.ensures c.label-terminal.ensures (c.has_right_ends.ensures.0 t))
