use Rattle.std.proofs.Common.{◌≡◌, ℕ, length, get_or, map, replicate, ◌∙◌, ap, arith}
use Rattle.std.proofs.lemmas.Grind.{common_steps}
use Rattle.invariants.specs.Labels.{number_of}
use Rattle.model_shape.specs.Shapes.{is_listed}
use Rattle.models.specs.Models.{label_at}
use Rattle.model_check.proofs.Tabling.{zeros, table_none, unlisted-label}
use Rattle.model_check.proofs.label_table.lay_labels.Goals as goal

pub loop-i-init : goal.loop-i-init
loop-i-init c =
    let zero : (p : ℕ) → get_or c.fill.new.self p 0 ≡ 0 = λ p.
    ap (λ xs. get_or xs p 0) (c.fill.ensures.after (λ y same. same)) ∙ ap (λ (n : ℕ). get_or (replicate (length c.args.sets.now) n) p 0) c.none.ensures ∙ zeros (length c.args.sets.now) p in
    record {
      apart = c.requires.apart;
      labels = λ p. table_none (λ q. is_listed q c.args.partitions.now) (λ q. label_at q c.args.partitions.now (map number_of c.args.given.now)) c.fill.new.self p (zero p) (unlisted-label p c.args.partitions.now (map number_of c.args.given.now));
    }

pub loop-i-preserved : goal.loop-i-preserved
loop-i-preserved c = grind (arith, common_steps)
