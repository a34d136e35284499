use Rattle.std.specs.String.{string_bytes}
use Rattle.log_reader.proofs.InputByInput.{counted-inputs}
use Rattle.log_reader.proofs.reading.count_of.Goals as goal

pub returns-clause-value : goal.returns-clause-value
returns-clause-value c = counted-inputs string_bytes c.args.names.now c.max.result c.max.ensures
