use Rattle.std.proofs.Common.{◌≡◌, ℕ, List, ◌++◌, length, codes, ap, ◌∙◌, append_assoc}
use Rattle.synoptic_cli.specs.Commands.RunBench.{count_line}
use Rattle.synoptic_cli.proofs.commands.run_bench.push_model.Goals as goal

-- four texts, one behind another
four : (t a b c d : List ℕ) → (((t ++ a) ++ b) ++ c) ++ d ≡ t ++ (((a ++ b) ++ c) ++ d)
four t a b c d = simp append_assoc

put : (t0 t1 t2 t3 t4 a b c d : List ℕ) → t1 ≡ t0 ++ a → t2 ≡ t1 ++ b → t3 ≡ t2 ++ c → t4 ≡ t3 ++ d → t4 ≡ t0 ++ (((a ++ b) ++ c) ++ d)
put t0 t1 t2 t3 t4 a b c d one two three last =
    last ∙ (ap (λ (t : List ℕ). t ++ d) (three ∙ ap (λ (t : List ℕ). t ++ c) (two ∙ ap (λ (t : List ℕ). t ++ b) one)) ∙ four t0 a b c d)

pub returns : goal.returns
returns c =
    let m = c.args.model.now in
    put c.args.text.now.items c.push_count.new.text.items c.push_count-2.new.text.items c.push_count-3.new.text.items c.push_count-4.new.text.items
    (count_line (codes "invariants ") (length m.invariants)) (count_line (codes "splits ") (length m.splits)) (count_line (codes "merges ") (length m.merges)) (count_line (codes "partitions ") (length m.partitions))
    (c.in_ok-push_count.ensures ∙ ap (λ (n : ℕ). c.args.text.now.items ++ count_line (codes "invariants ") n) c.len.ensures)
    (c.in_ok-push_count-2.ensures ∙ ap (λ (n : ℕ). c.push_count.new.text.items ++ count_line (codes "splits ") n) c.len-2.ensures)
    (c.in_ok-push_count-3.ensures ∙ ap (λ (n : ℕ). c.push_count-2.new.text.items ++ count_line (codes "merges ") n) c.len-3.ensures)
    (c.in_ok-push_count-4.ensures ∙ ap (λ (n : ℕ). c.push_count-3.new.text.items ++ count_line (codes "partitions ") n) c.len-4.ensures)
