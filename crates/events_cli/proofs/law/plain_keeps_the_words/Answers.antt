use Rattle.events_cli.proofs.PlainWords.{plain-keeps-the-words}
use Rattle.events_cli.proofs.law.plain_keeps_the_words.Goals as goal

pub returns : goal.returns
returns c = plain-keeps-the-words
