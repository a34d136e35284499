use Rattle.std.proofs.Common.{◌≡◌, ℕ, ◌&&◌, Bool, true, false, refl, sym, bit_and}
use Rattle.std.proofs.lemmas.Bool.{true≢false}
use Rattle.partition_graph.specs.Seen.{seen}
use Rattle.partition_graph.proofs.NeighbourWords.{word-both, word-same}
use Rattle.path_finder.specs.IdSets.{has_id}
use Rattle.path_finder.proofs.question.Question.target_word.Goals as goal

-- an edge from an id that is looked at is one here, if its end is looked at too
looked-from : (a b e : Bool) → a ≡ true → (e && b) ≡ ((a && b) && e)
looked-from true true true t = refl
looked-from true true false t = refl
looked-from true false true t = refl
looked-from true false false t = refl
looked-from false b e t = absurd (true≢false (sym t))

pub returns : goal.returns
returns c =
    let around : ℕ → Bool = has_id c.args.self.now.near.now in
    let edge : ℕ → Bool = λ r. (seen c.args.self.now.sight.now.view).edge c.args.p r in
    word-same (λ r. edge r && around r) (λ r. (around c.args.p && around r) && edge r) c.args.place (bit_and c.target_word.result c.word.result)
    (λ r. looked-from (around c.args.p) (around r) (edge r) c.requires.looked)
    (word-both edge around c.args.place c.target_word.result c.word.result c.target_word.ensures c.word.ensures)
