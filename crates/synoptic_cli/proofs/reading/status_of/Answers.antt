use Rattle.std.proofs.Common.{rules}
use Rattle.synoptic_cli.proofs.reading.status_of.Goals as goal

pub returns-in-ReadFault : goal.returns-in-ReadFault
returns-in-ReadFault c = search rules
