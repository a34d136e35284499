use Rattle.std.proofs.Common.{◌≡◌, ℕ, Bool, true, sym, ◌∙◌, ap, refl, subst, arith}
use Rattle.std.proofs.lemmas.Bool.{eqb-true}
use Rattle.limits.specs.declared.TheConstants.{MAX_PARTITIONS}
use Rattle.partition_graph.specs.Seen.{seen}
use Rattle.path_finder.specs.Nearness.{Met, is_met}
use Rattle.path_finder.specs.Reaching.{edge_by, IsReaching}
use Rattle.path_finder.proofs.Reaching.{blank_reaching, meets_reaching}
use Rattle.path_finder.proofs.reach.Reach.reach_from.Goals as goal

pub follow_all-requires : goal.follow_all-requires
follow_all-requires c =
    let e : ℕ → ℕ → Bool = edge_by c.args.way (seen c.args.sight.now.view) in
    subst (λ (m : Met). IsReaching e 0 m) (sym c.meet.ensures)
    (meets_reaching e 0 c.clear.new.self c.args.start (omega arith) c.requires (blank_reaching e c.clear.new.self MAX_PARTITIONS refl c.clear.ensures.flags c.clear.ensures.list)).0

pub returns : goal.returns
returns c =
    let e : ℕ → ℕ → Bool = edge_by c.args.way (seen c.args.sight.now.view) in
    let m : is_met c.meet.new.self c.args.start ≡ true =
    subst (λ (m : Met). is_met m c.args.start ≡ true) (sym c.meet.ensures)
    (meets_reaching e 0 c.clear.new.self c.args.start (omega arith) c.requires (blank_reaching e c.clear.new.self MAX_PARTITIONS refl c.clear.ensures.flags c.clear.ensures.list)).2 in
    record {
      first = λ p t. ap (λ (x : ℕ). is_met c.follow_all.new.self x) (eqb-true p c.args.start t) ∙ c.follow_all.ensures.more.met c.args.start m;
      along = c.follow_all.ensures.closed;
    }
