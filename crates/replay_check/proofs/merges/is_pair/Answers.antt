use Rattle.std.proofs.Common.{◌<◌, ◌≤◌, ℕ, true≢false, get_or, sym, ◌∙◌, eqb-true, eq-eqb, arith}
use Rattle.limits.specs.declared.TheConstants.{MAX_PARTITIONS}
use Rattle.replay_check.proofs.merges.is_pair.Goals as goal

pub returns-then-merge-lt-FIRST_TYPE-clause-right : goal.returns-then-merge-lt-FIRST_TYPE-clause-right
returns-then-merge-lt-FIRST_TYPE-clause-right c = λ h k. (
  λ f. absurd (true≢false (sym f)),
  λ i. absurd (let l : 2 ≤ c.args.merge.p = i.low in omega (arith, c.if-merge-lt-FIRST_TYPE.true)),
)

pub returns-then-not-live-p-clause-right : goal.returns-then-not-live-p-clause-right
returns-then-not-live-p-clause-right c = λ h k. (
  λ f. absurd (true≢false (sym f)),
  λ i. absurd (
      let o : c.args.merge.p < c.args.merge.q = c.requires.shaped.order in
      let b : c.args.merge.q < MAX_PARTITIONS = c.requires.shaped.high in
      true≢false (sym (k.live_are c.args.merge.p (omega arith) ∙ i.has_p) ∙ c.if-not-live-p.true)),
)

pub returns-then-not-live-q-clause-right : goal.returns-then-not-live-q-clause-right
returns-then-not-live-q-clause-right c = λ h k. (
  λ f. absurd (true≢false (sym f)),
  λ i. absurd (true≢false (sym (k.live_are c.args.merge.q c.requires.shaped.high ∙ i.has_q) ∙ c.if-not-live-q.true)),
)

pub returns-clause-right : goal.returns-clause-right
returns-clause-right c = λ h k.
    let p : ℕ = c.args.merge.p in
    let q : ℕ = c.args.merge.q in
    let order : p < q = c.requires.shaped.order in
    let high : q < MAX_PARTITIONS = c.requires.shaped.high in (
      λ t.
          let has_p = sym (k.live_are p (omega arith)) ∙ c.if-not-live-p.false in
          let has_q = sym (k.live_are q high) ∙ c.if-not-live-q.false in
          record {
            low = c.if-merge-lt-FIRST_TYPE.false;
            order = order;
            has_p = has_p;
            has_q = has_q;
            types = sym (k.types_are p has_p) ∙ eqb-true (get_or c.args.types.now p 0) (get_or c.args.types.now q 0) t ∙ k.types_are q has_q;
          },
      λ i. eq-eqb (get_or c.args.types.now p 0) (get_or c.args.types.now q 0) (k.types_are p i.has_p ∙ i.types ∙ sym (k.types_are q i.has_q)),
    )
