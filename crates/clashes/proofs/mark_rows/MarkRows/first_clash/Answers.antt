use Rattle.std.proofs.Common.{◌≡◌, ◌<◌, ◌+◌, ◌∙◌, ℕ, true, false, length, ap, subst, arith, w64}
use Rattle.std.specs.Int.{bit_at}
use Rattle.std.proofs.lemmas.Nat.{div-add-mod', mod_below}
use Rattle.std.proofs.lemmas.Nat.Bits.{bit_at-zero, bit_at-trailing_zeros}
use Rattle.clashes.specs.Marks.{Marks, has_clash}
use Rattle.clashes.proofs.First.{clash-within, first-in-word, no-clash, none-in-word}
use Rattle.clashes.proofs.mark_rows.MarkRows.first_clash.Goals as goal

pub loop-first-init : goal.loop-first-init
loop-first-init c =
    record {
      whole = c.bits_apart-first.ensures.whole;
      none = λ k below. subst (λ (m : Marks). has_clash m k c.args.p c.args.q ≡ false) c.self.view_is
          (no-clash c.self.inside.invs.items c.self.inside.others c.self.inside.rows c.args.p c.args.q k c.fore_row.result c.back_row.result c.fore_row-2.result c.back_row-2.result c.fore_row.ensures c.back_row.ensures c.fore_row-2.ensures
          c.back_row-2.ensures (c.bits_apart-first.ensures.apart k below));
    }

pub returns-then-clashes-ne0 : goal.returns-then-clashes-ne0
returns-then-clashes-ne0 c =
    let w : ℕ = c.clashes_at-clashes.result in
    let t = bit_at-trailing_zeros w64 w (omega (arith, c.if-clashes-ne0.true)) c.clashes_at-clashes.type_inv in
    let within : (k : ℕ) → has_clash c.args.self.now k c.args.p c.args.q ≡ true → k < length c.args.self.now.invs =
    subst (λ (m : Marks). (k : ℕ) → has_clash m k c.args.p c.args.q ≡ true → k < length m.invs) c.self.view_is
    (λ k e. clash-within c.self.inside.invs.items c.self.inside.others c.self.inside.rows c.args.p c.args.q k c.self.invariant.shape c.requires.one c.requires.other e) in
    first-in-word c.args.self.now c.args.p c.args.q c.loop-first.first w _ c.loop-first.invariant.whole c.clashes_at-clashes.ensures t.0 t.1 t.2 within c.loop-first.invariant.none

pub loop-first-preserved : goal.loop-first-preserved
loop-first-preserved c =
    record {
      whole = omega (arith, c.loop-first.invariant.whole, div-add-mod' c.loop-first.first 64, div-add-mod' (c.loop-first.first + 64) 64, mod_below (c.loop-first.first + 64) 64 (omega arith));
      none = none-in-word (λ k. has_clash c.args.self.now k c.args.p c.args.q) c.loop-first.first c.clashes_at-clashes.result c.loop-first.invariant.whole c.clashes_at-clashes.ensures
          (λ i l. ap (λ (n : ℕ). bit_at n i) c.if-clashes-ne0.false ∙ bit_at-zero i) c.loop-first.invariant.none;
    }
