use Rattle.std.proofs.Common.{◌≡◌, ◌<◌, ℕ, Bool, true, false, sym, subst, arith}
use Rattle.limits.specs.declared.TheConstants.{MAX_PARTITIONS}
use Rattle.path_finder.specs.Nearness.{Met, is_met}
use Rattle.path_finder.specs.Reaching.{meeting, IsReaching, MeetsMore}
use Rattle.path_finder.proofs.Reaching.{meets_reaching}
use Rattle.path_finder.proofs.reach.meet_of_type.Goals as goal

-- what is left where the id is met in one direction
kept : (old new : Met) (id : ℕ) → id < MAX_PARTITIONS → new ≡ meeting old id → (edge : ℕ → ℕ → Bool) → IsReaching edge 0 old → IsReaching edge 0 new × MeetsMore old new × (is_met new id ≡ true)
kept old new id low is edge before =
    subst (λ (m : Met). IsReaching edge 0 m × MeetsMore old m × (is_met m id ≡ true)) (sym is) (meets_reaching edge 0 old id (omega arith) low before)

pub meet-requires-clause-counted : goal.meet-requires-clause-counted
meet-requires-clause-counted c = (c.requires.ahead (λ p q. false)).counted

pub returns-clause-ahead : goal.returns-clause-ahead
returns-clause-ahead c edge = (kept c.args.ahead.now c.meet.new.self c.args.id c.requires.id c.meet.ensures edge (c.requires.ahead edge)).0

pub returns-clause-behind : goal.returns-clause-behind
returns-clause-behind c edge = (kept c.args.behind.now c.meet-2.new.self c.args.id c.requires.id c.meet-2.ensures edge (c.requires.behind edge)).0

pub returns-clause-more_ahead : goal.returns-clause-more_ahead
returns-clause-more_ahead c = (kept c.args.ahead.now c.meet.new.self c.args.id c.requires.id c.meet.ensures (λ p q. false) (c.requires.ahead (λ p q. false))).1

pub returns-clause-more_behind : goal.returns-clause-more_behind
returns-clause-more_behind c = (kept c.args.behind.now c.meet-2.new.self c.args.id c.requires.id c.meet-2.ensures (λ p q. false) (c.requires.behind (λ p q. false))).1

pub returns-clause-met_ahead : goal.returns-clause-met_ahead
returns-clause-met_ahead c e = (kept c.args.ahead.now c.meet.new.self c.args.id c.requires.id c.meet.ensures (λ p q. false) (c.requires.ahead (λ p q. false))).2

pub returns-clause-met_behind : goal.returns-clause-met_behind
returns-clause-met_behind c e = (kept c.args.behind.now c.meet-2.new.self c.args.id c.requires.id c.meet-2.ensures (λ p q. false) (c.requires.behind (λ p q. false))).2

pub meet-requires-2-clause-counted : goal.meet-requires-2-clause-counted
meet-requires-2-clause-counted c = (c.requires.behind (λ p q. false)).counted
