use Rattle.std.proofs.Common.{◌≡◌, List, Bool, false, nat_lt, length, get_or, refl, ◌∙◌, arith}
use Rattle.std.proofs.lemmas.List.{length-set, get_or-set_other}
use Rattle.limits.specs.declared.TheConstants.{MAX_PARTITIONS}
use Rattle.replay_check.proofs.Known.{marked-more}
use Rattle.replay_check.proofs.graph.mark_live.Goals as goal

pub loop-p-preserved : goal.loop-p-preserved
loop-p-preserved c =
    let live : List Bool = c.loop-p.live in
    let b : Bool = nat_lt 0 (get_or c.args.sizes.now c.loop-p.p 0) in
    let size : length live ≡ length c.args.live.now = c.loop-p.invariant.size in
    let old : length c.args.live.now ≡ MAX_PARTITIONS = c.requires.live_size in
    record {
      size = length-set live c.loop-p.p b ∙ size;
      ends = λ j l. get_or-set_other live c.loop-p.p j b false (λ e. absurd (omega (arith, c.loop-p.auto.p))) ∙ c.loop-p.invariant.ends j l;
      marked = marked-more live c.args.sizes.now c.loop-p.p b (omega (arith, c.loop-p-test.true)) refl c.loop-p.invariant.marked;
    }
