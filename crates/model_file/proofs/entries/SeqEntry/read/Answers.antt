use Rattle.std.proofs.Common.{subst}
use Rattle.model_file.specs.Streams.{data_at, Answers}
use Rattle.model_file.proofs.Listing.{whole-list}
use Rattle.model_file.proofs.entries.SeqEntry.read.Goals as goal

pub returns-clause-value : goal.returns-clause-value
returns-clause-value g c = subst (λ o. Answers c.list.result o c.list.new.reader) (whole-list g.T.Entry.read_as (data_at c.args.depth c.args.reader.now)) c.list.ensures.value
