use Rattle.std.proofs.lemmas.Result.{IfOk-weaker}
use Rattle.closure_miner.proofs.Lists.{all-mined}
use Rattle.closure_miner.proofs.standing.Standing.push_all.Goals as goal

pub returns : goal.returns
returns g c = λ words stands.
    IfOk-weaker c.push_pairs.result _ _ (λ _ second.
    all-mined words c.args.self.now.kinds c.args.self.now.types c.args.list.now.items c.push_firsts.new.list.items c.push_pairs.new.list.items (c.in_ok-push_firsts.ensures words stands) second)
    (c.push_pairs.ensures words stands)
