use Rattle.std.proofs.Common.{rules}
use Rattle.command_line.proofs.table.fits_form.Goals as goal

pub returns-in-One : goal.returns-in-One
returns-in-One c = search rules
