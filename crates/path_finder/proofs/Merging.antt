-- The edges that a merge does not change.
use Rattle.std.proofs.Common.{◌≡◌, ◌≢◌, ◌==◌, ◌&&◌, ◌||◌, not, ℕ, Bool, true, false, eqb-true, ne_eqb, refl, sym, ◌∙◌, ap}
use Rattle.std.proofs.lemmas.Bool.{true≢false}
use Rattle.partition_model.specs.Graphs.{Graph, merged_edge}

-- the edges to an id that is neither of the two, and to which no edge leads from the one that is merged away
pub same-edge : (g : Graph) (p q u v : ℕ) → v ≢ p → v ≢ q → g.edge q v ≡ false → merged_edge g p q u v ≡ g.edge u v
same-edge g p q u v np nq off =
    same (u == q) (v == q) (g.edge u v) (u == p) (g.edge q v) (v == p) (g.edge u q) (g.edge q q) (ne_eqb v q nq) (ne_eqb v p np) off (λ t. ap (λ (x : ℕ). g.edge x v) (eqb-true u q t) ∙ off)
  where
    same : (uq vq uv up qv vp u_q qq : Bool) → vq ≡ false → vp ≡ false → qv ≡ false → (uq ≡ true → uv ≡ false) → (not uq && not vq && (uv || (up && qv) || (vp && u_q) || (up && vp && qq))) ≡ uv
    same uq true uv up qv vp u_q qq a b c h = absurd (true≢false a)
    same uq false uv up true vp u_q qq a b c h = absurd (true≢false c)
    same uq false uv up false true u_q qq a b c h = absurd (true≢false b)
    same true false uv up false false u_q qq a b c h = sym (h refl)
    same false false true up false false u_q qq a b c h = refl
    same false false false true false false u_q qq a b c h = refl
    same false false false false false false u_q qq a b c h = refl
