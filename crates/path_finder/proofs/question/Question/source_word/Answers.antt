use Rattle.std.proofs.Common.{◌≡◌, ℕ, ◌&&◌, Bool, true, false, refl, sym, ◌∙◌, ap, bit_and}
use Rattle.std.proofs.lemmas.Bool.{true≢false}
use Rattle.partition_graph.specs.Seen.{seen}
use Rattle.partition_graph.specs.declared.view.View.{View}
use Rattle.partition_graph.proofs.NeighbourWords.{word-both, word-same}
use Rattle.path_finder.specs.IdSets.{has_id}
use Rattle.path_finder.proofs.question.Question.source_word.Goals as goal

looked-at : (a b e : Bool) → b ≡ true → (e && a) ≡ ((a && b) && e)
looked-at true true true t = refl
looked-at true true false t = refl
looked-at false true true t = refl
looked-at false true false t = refl
looked-at a false e t = absurd (true≢false (sym t))

pub returns : goal.returns
returns c =
    let around : ℕ → Bool = has_id c.args.self.now.near.now in
    let edge : ℕ → Bool = λ r. (seen c.args.self.now.sight.now.view).edge r c.args.q in
    word-same (λ r. edge r && around r) (λ r. (around r && around c.args.q) && edge r) c.args.place (bit_and c.merged_source_word.result c.word-2.result)
    (λ r. looked-at (around r) (around c.args.q) (edge r) c.requires.looked)
    (word-both edge around c.args.place c.merged_source_word.result c.word-2.result c.merged_source_word.ensures c.word-2.ensures)

pub returns-then-is_unmerged : goal.returns-then-is_unmerged
returns-then-is_unmerged c =
    let around : ℕ → Bool = has_id c.args.self.now.near.now in
    let edge : ℕ → Bool = λ r. (seen c.args.self.now.sight.now.view).edge r c.args.q in
    let own : ℕ → Bool = λ r. (seen c.unmerged.result).edge r c.args.q in
    let same : (r : ℕ) → own r ≡ edge r = λ r. ap (λ (v : View). (seen v).edge r c.args.q) c.unmerged.ensures ∙ sym (c.requires.same c.if-is_unmerged.true r) in
    word-same (λ r. own r && around r) (λ r. (around r && around c.args.q) && edge r) c.args.place (bit_and c.source_word.result c.word.result)
    (λ r. ap (λ (e : Bool). e && around r) (same r) ∙ looked-at (around r) (around c.args.q) (edge r) c.requires.looked)
    (word-both own around c.args.place c.source_word.result c.word.result c.source_word.ensures c.word.ensures)
