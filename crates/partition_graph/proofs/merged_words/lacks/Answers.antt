use Rattle.std.proofs.Common.{◌≡◌, ℕ, Bool, false, eqb, eqb-true, bit_and}
use Rattle.std.proofs.lemmas.Bool.{OnTrue_from}
use Rattle.partition_graph.specs.NeighbourWords.{ArePlaces}
use Rattle.partition_graph.proofs.Places.{place-off}
use Rattle.partition_graph.proofs.merged_words.lacks.Goals as goal

pub returns : goal.returns
returns c =
    let both : ℕ = bit_and c.args.places c.only_id.result in
    OnTrue_from (eqb both 0) ((has : ℕ → Bool) → ArePlaces has c.args.places → has c.args.id ≡ false)
    (λ none has are. place-off has c.args.places c.args.id c.only_id.result are c.if-id-ge-MAX_PARTITIONS.false c.only_id.ensures (eqb-true both 0 none))
