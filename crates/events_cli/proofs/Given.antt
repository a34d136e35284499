-- The words that `synoptic` is given.
use Rattle.std.proofs.Common.{◌≡◌, ◌∙◌, ◌&&◌, Bool, true, false, not, List, ℕ, ◌∷◌, ap, sym}
use Rattle.std.specs.Prelude.{codes, if◌then◌else◌}
use Rattle.command_line.specs.Task.{task_of}
use Rattle.events_cli.specs.Words.{given_words, graph_words, lists_undecided, mode_of, others, skips}

-- without -i, where lines that nothing decides are not to be listed
pub given-plain : (words rest : List (List ℕ)) → rest ≡ others words → lists_undecided (mode_of words) ≡ false → graph_words rest ≡ given_words words
given-plain words rest is lists =
    ap graph_words
    (is ∙ sym (ap (λ (b : Bool). if b && not (skips (task_of (graph_words (others words)))) then codes "-i" ∷ others words else others words) lists))

-- with -i, where they are to be listed and it is lacking
pub given-skip : (words rest plain : List (List ℕ)) (lack : Bool) → rest ≡ others words → lists_undecided (mode_of words) ≡ true → plain ≡ graph_words rest → lack ≡ not (skips (task_of plain))
    → graph_words (if lack then codes "-i" ∷ rest else rest) ≡ given_words words
given-skip words rest plain lack is lists plain-is lacks =
    let same : lack ≡ not (skips (task_of (graph_words (others words)))) = lacks ∙ ap (λ (ws : List (List ℕ)). not (skips (task_of ws))) (plain-is ∙ ap graph_words is) in
    ap graph_words
    (ap (λ (b : Bool). if b then codes "-i" ∷ rest else rest) same
    ∙ (ap (λ (ws : List (List ℕ)). if not (skips (task_of (graph_words (others words)))) then codes "-i" ∷ ws else ws) is
    ∙ sym (ap (λ (b : Bool). if b && not (skips (task_of (graph_words (others words)))) then codes "-i" ∷ others words else others words) lists)))
