use Rattle.std.proofs.Common.{◌^◌, Some, sym, ap, ◌∙◌}
use Rattle.model_file.specs.Entries.{◌>>=◌, if_below, number_in}
use Rattle.model_file.specs.Streams.{data_at, whole_in}
use Rattle.model_file.proofs.Entering.{mapped, number-is}
use Rattle.model_file.proofs.entries.U32Entry.read.Goals as goal

pub returns-in-Ok-clause-value : goal.returns-in-Ok-clause-value
returns-in-Ok-clause-value c =
    mapped whole_in number_in (λ o. o >>= if_below (2 ^ 32)) number-is (data_at c.args.depth c.args.reader.now) c.number.new.reader c.in-Ok.n c.in-Ok.ensures.value
    ∙ ap (λ o. Some (o, c.number.new.reader)) (sym c.below_32.ensures)
