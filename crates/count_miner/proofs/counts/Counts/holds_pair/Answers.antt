use Rattle.std.proofs.Common.{◌≡◌, ◌<◌, ◌+◌, ◌-◌, ◌*◌, ℕ, List, map, nat_eq, eqb, reverse, arith, refl, ap, ◌∙◌}
use Rattle.std.proofs.lemmas.List.Folds.{sum_by-zero}
use Rattle.std.specs.List.{sum_by}
use Rattle.invariants.specs.declared.Invariant.{Invariant}
use Rattle.invariants.specs.declared.Kinds.{Kinds}
use Rattle.invariants.specs.declared.Kinds.TheVariants.{Three, Four}
use Rattle.invariants.specs.Candidates.{IsAsked}
use Rattle.invariants.specs.Holds.{always_followed, never_followed, always_preceded, interrupted}
use Rattle.invariants.specs.declared.Kind.TheVariants.{AF, NF, AP, IB}
use Rattle.traces.specs.Words.{Trace, word_of}
use Rattle.count_miner.specs.Counts.{type_count, followed_count, interrupted_count}
use Rattle.count_miner.proofs.Sums.{sums-agree, followed-le, preceded-le, followed-holds, never-holds, preceded-holds, all-traces, told, any-default}
use Rattle.count_miner.proofs.Between.{gaps-le, gaps-hold}
use Rattle.count_miner.proofs.Rows.{row-place}
use Rattle.count_miner.proofs.counts.Counts.holds_pair.Goals as goal

pub returns-in-AF : goal.returns-in-AF
returns-in-AF c = λ traces counted.
    let types = c.args.self.now.types in
    let a = c.args.inv.a - 2 in
    let b = c.args.inv.b - 2 in
    let words : List (List ℕ) = map (λ (trace : Trace). trace.events) traces in
    let in_a : a < types = omega (arith, c.requires.pair.a_low, c.requires.pair.a_high) in
    let in_b : b < types = omega (arith, c.requires.pair.b_low, c.requires.pair.b_high) in
    let first : a + 2 ≡ c.args.inv.a = omega (arith, c.requires.pair.a_low) in
    let second : b + 2 ≡ c.args.inv.b = omega (arith, c.requires.pair.b_low) in
    let f : List ℕ → ℕ = followed_count (a + 2) (b + 2) in
    let g : List ℕ → ℕ = type_count (a + 2) in
    let left : c.index.result.now ≡ sum_by f words = c.index.ensures ∙ (any-default c.args.self.now.followed.items (b * types + a) c.index.result.now (omega (arith, row-place types b a in_b in_a, c.args.self.now.followed_square)) ∙ counted.followed b a in_b in_a) in
    let right : c.index-in-AF.result.now ≡ sum_by g words = c.index-in-AF.ensures ∙ (any-default c.args.self.now.occurring.items a c.index-in-AF.result.now (omega (arith, in_a, c.args.self.now.occurring_row)) ∙ counted.occurring a in_a) in
    ap (λ n. nat_eq n c.index-in-AF.result.now) left
    ∙ (ap (nat_eq (sum_by f words)) right
    ∙ (sums-agree f g (λ w. followed-le (a + 2) (b + 2) w) words
    ∙ (all-traces (λ w. eqb (f w) (g w)) (always_followed (a + 2) (b + 2)) (λ w. followed-holds (a + 2) (b + 2) w (omega arith) (omega arith)) traces
    ∙ told AF c.args.inv a b c.in-AF.is first second (map word_of traces))))

pub returns-in-NF : goal.returns-in-NF
returns-in-NF c = λ traces counted.
    let types = c.args.self.now.types in
    let a = c.args.inv.a - 2 in
    let b = c.args.inv.b - 2 in
    let words : List (List ℕ) = map (λ (trace : Trace). trace.events) traces in
    let in_a : a < types = omega (arith, c.requires.pair.a_low, c.requires.pair.a_high) in
    let in_b : b < types = omega (arith, c.requires.pair.b_low, c.requires.pair.b_high) in
    let first : a + 2 ≡ c.args.inv.a = omega (arith, c.requires.pair.a_low) in
    let second : b + 2 ≡ c.args.inv.b = omega (arith, c.requires.pair.b_low) in
    let f : List ℕ → ℕ = followed_count (a + 2) (b + 2) in
    let left : c.index-in-NF.result.now ≡ sum_by f words = c.index-in-NF.ensures ∙ (any-default c.args.self.now.followed.items (b * types + a) c.index-in-NF.result.now (omega (arith, row-place types b a in_b in_a, c.args.self.now.followed_square)) ∙ counted.followed b a in_b in_a) in
    ap (λ n. nat_eq n 0) left
    ∙ (sum_by-zero f words
    ∙ (all-traces (λ w. eqb (f w) 0) (never_followed (a + 2) (b + 2)) (λ w. never-holds (a + 2) (b + 2) w (omega arith) (omega arith)) traces
    ∙ told NF c.args.inv a b c.in-NF.is first second (map word_of traces)))

pub returns-in-AP : goal.returns-in-AP
returns-in-AP c = λ traces counted.
    let types = c.args.self.now.types in
    let a = c.args.inv.a - 2 in
    let b = c.args.inv.b - 2 in
    let words : List (List ℕ) = map (λ (trace : Trace). trace.events) traces in
    let in_a : a < types = omega (arith, c.requires.pair.a_low, c.requires.pair.a_high) in
    let in_b : b < types = omega (arith, c.requires.pair.b_low, c.requires.pair.b_high) in
    let first : a + 2 ≡ c.args.inv.a = omega (arith, c.requires.pair.a_low) in
    let second : b + 2 ≡ c.args.inv.b = omega (arith, c.requires.pair.b_low) in
    let f : List ℕ → ℕ = λ w. followed_count (b + 2) (a + 2) (reverse w) in
    let g : List ℕ → ℕ = type_count (b + 2) in
    let left : c.index-in-AP.result.now ≡ sum_by f words = c.index-in-AP.ensures ∙ (any-default c.args.self.now.preceded.items (a * types + b) c.index-in-AP.result.now (omega (arith, row-place types a b in_a in_b, c.args.self.now.preceded_square)) ∙ counted.preceded a b in_a in_b) in
    let right : c.index-in-AP-2.result.now ≡ sum_by g words = c.index-in-AP-2.ensures ∙ (any-default c.args.self.now.occurring.items b c.index-in-AP-2.result.now (omega (arith, in_b, c.args.self.now.occurring_row)) ∙ counted.occurring b in_b) in
    ap (λ n. nat_eq n c.index-in-AP-2.result.now) left
    ∙ (ap (nat_eq (sum_by f words)) right
    ∙ (sums-agree f g (λ w. preceded-le (a + 2) (b + 2) w) words
    ∙ (all-traces (λ w. eqb (f w) (g w)) (always_preceded (a + 2) (b + 2)) (λ w. preceded-holds (a + 2) (b + 2) w (omega arith) (omega arith)) traces
    ∙ told AP c.args.inv a b c.in-AP.is first second (map word_of traces))))

-- InterruptedBy is asked for where four kinds are
asks-four : (kinds : Kinds) (inv : Invariant) → IsAsked kinds inv → inv.kind ≡ IB → kinds ≡ Four
asks-four Three inv asked is = absurd (asked is)
asks-four Four inv asked is = refl

pub returns-in-IB : goal.returns-in-IB
returns-in-IB c = λ traces counted.
    let types = c.args.self.now.types in
    let a = c.args.inv.a - 2 in
    let b = c.args.inv.b - 2 in
    let words : List (List ℕ) = map (λ (trace : Trace). trace.events) traces in
    let asked : c.args.self.now.kinds ≡ Four = asks-four c.args.self.now.kinds c.args.inv c.requires.pair.asked c.in-IB.is in
    let in_a : a < types = omega (arith, c.requires.pair.a_low, c.requires.pair.a_high) in
    let in_b : b < types = omega (arith, c.requires.pair.b_low, c.requires.pair.b_high) in
    let first : a + 2 ≡ c.args.inv.a = omega (arith, c.requires.pair.a_low) in
    let second : b + 2 ≡ c.args.inv.b = omega (arith, c.requires.pair.b_low) in
    let f : List ℕ → ℕ = interrupted_count (a + 2) (b + 2) in
    let g : List ℕ → ℕ = followed_count (a + 2) (a + 2) in
    let left : c.index-in-IB.result.now ≡ sum_by f words = c.index-in-IB.ensures ∙ (any-default c.args.self.now.interrupted.items (a * types + b) c.index-in-IB.result.now (omega (arith, row-place types a b in_a in_b, c.args.self.now.interrupted_square asked)) ∙ counted.interrupted asked a b in_a in_b) in
    let right : c.index-in-IB-2.result.now ≡ sum_by g words = c.index-in-IB-2.ensures ∙ (any-default c.args.self.now.followed.items (a * types + a) c.index-in-IB-2.result.now (omega (arith, row-place types a a in_a in_a, c.args.self.now.followed_square)) ∙ counted.followed a a in_a in_a) in
    ap (λ n. nat_eq n c.index-in-IB-2.result.now) left
    ∙ (ap (nat_eq (sum_by f words)) right
    ∙ (sums-agree f g (λ w. gaps-le (a + 2) (b + 2) w) words
    ∙ (all-traces (λ w. eqb (f w) (g w)) (interrupted (a + 2) (b + 2)) (λ w. gaps-hold (a + 2) (b + 2) w (omega arith) (omega arith)) traces
    ∙ told IB c.args.inv a b c.in-IB.is first second (map word_of traces))))
