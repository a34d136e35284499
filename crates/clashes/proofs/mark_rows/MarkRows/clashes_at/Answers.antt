use Rattle.std.proofs.Common.{ℕ, List, Bool, bit_and, bit_or, subst}
use Rattle.partition_graph.specs.NeighbourWords.{IsWordOf}
use Rattle.clashes.specs.Marks.{Marks, on, has_clash}
use Rattle.clashes.proofs.First.{clash-word}
use Rattle.clashes.proofs.mark_rows.MarkRows.clashes_at.Goals as goal

pub returns : goal.returns
returns c =
    let T : List (List Bool) = c.self.inside.rows in
    let of : (r : ℕ) → ℕ → Type 0 = λ r w. IsWordOf (λ k. on T r k) c.args.place w in
    subst (λ (m : Marks). IsWordOf (λ k. has_clash m k c.args.p c.args.q) c.args.place (bit_or (bit_and c.word-met_p.result c.word-ahead_q.result) (bit_and c.word-met_q.result c.word-ahead_p.result))) c.self.view_is
    (clash-word c.self.inside.invs.items c.self.inside.others T c.args.p c.args.q c.args.place c.word-met_p.result c.word-ahead_q.result c.word-met_q.result c.word-ahead_p.result
    (subst (λ (r : ℕ). of r c.word-met_p.result) c.fore_row.ensures c.word-met_p.ensures) (subst (λ (r : ℕ). of r c.word-ahead_q.result) c.back_row.ensures c.word-ahead_q.ensures)
    (subst (λ (r : ℕ). of r c.word-met_q.result) c.fore_row-2.ensures c.word-met_q.ensures) (subst (λ (r : ℕ). of r c.word-ahead_p.result) c.back_row-2.ensures c.word-ahead_p.ensures))
