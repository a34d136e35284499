-- That a view is sound has at most one proof, so a field can hold it.
use Rattle.std.proofs.Props.{props}
use Rattle.partition_graph.specs.Seen.{IsSound}
use Rattle.partition_graph.specs.declared.view.View.{View}
use Rattle.partition_graph.specs.declared.view.View.TheVariants.{Plain, Merged}

-- that a view is sound has at most one proof
pub sound-prop : (v : View) → IsProp (IsSound v)
sound-prop (Plain g) = Prim.hlevel props
sound-prop (Merged g p q) = Prim.hlevel props
