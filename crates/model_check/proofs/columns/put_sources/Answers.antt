use Rattle.std.proofs.Common.{◌<◌, ℕ, List, refl, sym, ◌∙◌, ap, subst, arith}
use Rattle.model_check.specs.Columns.{at, HasSources}
use Rattle.model_check.specs.Rows.{shown}
use Rattle.model_check.specs.States.{IsSource}
use Rattle.model_check.proofs.Together.{put-more, put-all, others-more, put-others}
use Rattle.model_check.proofs.columns.put_sources.Goals as goal

pub loop-p-init : goal.loop-p-init
loop-p-init c =
    record {
      labels = refl;
      put = record { changed = λ p l t. absurd (let low : p < 0 = l in omega arith); kept = λ p n. refl };
      others = λ d p l n. refl;
    }

pub loop-p-preserved : goal.loop-p-preserved
loop-p-preserved c =
    let inv = c.args.sources.now.inv in
    let labels : List ℕ = c.args.columns.now.labels.items in
    let old : List ℕ = c.args.columns.now.sources.items in
    let before : List ℕ = c.loop-p.columns.sources.items in
    let sources : List ℕ = c.put_source.new.self.sources.items in
    let p : ℕ = c.in-Some.p in
    let source : ℕ = c.leading_into-source.result in
    let right : IsSource inv c.args.typ (at labels c.args.k p) source =
    subst (λ (n : ℕ). IsSource inv c.args.typ n source) (c.label.ensures ∙ ap (λ (ls : List ℕ). at ls c.args.k p) c.loop-p.invariant.labels) c.leading_into-source.ensures in
    record {
      labels = c.put_source.ensures.labels ∙ c.loop-p.invariant.labels;
      put = put-more inv (shown c.args.graph.now) c.args.typ labels old before sources c.args.k c.loop-p.from p source c.requires.column c.in-Some.ensures c.put_source.ensures.sources right c.loop-p.invariant.put;
      others = others-more old before sources c.args.k c.loop-p.invariant.others (put-others before sources c.args.k _ _ c.put_source.ensures.sources);
    }

pub returns : goal.returns
returns c =
    let inv = c.args.sources.now.inv in
    let g = shown c.args.graph.now in
    let labels : List ℕ = c.args.columns.now.labels.items in
    let old : List ℕ = c.args.columns.now.sources.items in
    let sources : List ℕ = c.loop-p.columns.sources.items in
    record {
      labels = c.loop-p.invariant.labels;
      sources =
          subst (λ (ls : List ℕ). HasSources inv g c.args.typ ls old sources c.args.k) (sym c.loop-p.invariant.labels)
          (put-all inv g c.args.typ labels old sources c.args.k c.loop-p.from c.in_default.ensures c.loop-p.invariant.put);
      other_sources = c.loop-p.invariant.others;
    }
