use Rattle.std.proofs.Common.{refl}
use Rattle.log_reader.proofs.Buffered.{clean-more}
use Rattle.log_reader.proofs.line_reader.buffer.clean_after.Goals as goal

pub returns-then-are_clean : goal.returns-then-are_clean
returns-then-are_clean c = clean-more c.args.buf.now _ c.args.clean_from c.args.held c.args.to refl c.requires.clean (c.are_clean.ensures c.if-are_clean.true)
