use Rattle.std.proofs.Common.{◌≡◌, ◌==◌, ◌&&◌, ◌-◌, Bool, true, false, not, refl, bit_and}
use Rattle.partition_graph.proofs.NeighbourWords.{word-same, word-both, word-without}
use Rattle.partition_graph.proofs.merged_words.without_id.Goals as goal

turned : (a b : Bool) → (a && b) ≡ (b && a)
turned true true = refl
turned true false = refl
turned false true = refl
turned false false = refl

pub returns : goal.returns
returns c has is =
    word-same (λ n. has n && not (n == c.args.id)) (λ n. not (n == c.args.id) && has n) c.args.place (bit_and c.args.word (18446744073709551615 - c.only_id.result)) (λ n. turned (has n) (not (n == c.args.id)))
    (word-both has (λ n. not (n == c.args.id)) c.args.place c.args.word (18446744073709551615 - c.only_id.result) is
    (word-without (λ n. n == c.args.id) c.args.place c.only_id.result c.only_id.type_inv c.only_id.ensures))
