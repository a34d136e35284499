use Rattle.std.proofs.Common.{arith}
use Rattle.partition_graph.specs.Seen.{seen}
use Rattle.path_finder.specs.IdSets.{has_id}
use Rattle.path_finder.proofs.Narrow.{all_keeps, asked_keeps}
use Rattle.path_finder.proofs.finder.find_near.Goals as goal

pub returns-then-is_wide : goal.returns-then-is_wide
returns-then-is_wide c =
    all_keeps (has_id c.all.result) (seen c.args.sight.now.view) c.ids_used-ids.result c.args.inv (c.ids_used-ids.ensures.within c.args.sight.now.sound) (λ u l. c.all.ensures u (omega (arith, l, c.ids_used-ids.ensures.limit)))

pub returns : goal.returns
returns c =
    asked_keeps c.args.sight.now.view (has_id c.find_type.new.self.near) c.args.inv c.ids_used-ids.result c.key_of-typ.result c.ids_used-ids.ensures.value c.ids_used-ids.ensures.two (c.ids_used-ids.ensures.within c.args.sight.now.sound) c.key_of-typ.ensures c.find_type.ensures
