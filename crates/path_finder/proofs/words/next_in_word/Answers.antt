use Rattle.partition_graph.proofs.NeighbourWords.{next_in_word, none_in_word}
use Rattle.path_finder.proofs.words.next_in_word.Goals as goal

pub returns-then-rest-eq0 : goal.returns-then-rest-eq0
returns-then-rest-eq0 c has is = none_in_word has c.args.from c.args.word is c.if-rest-eq0.true

pub returns : goal.returns
returns c has is = next_in_word has c.args.from c.args.word is c.ranges.word.fits c.if-rest-eq0.false
