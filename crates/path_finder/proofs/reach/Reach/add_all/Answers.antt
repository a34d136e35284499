use Rattle.std.proofs.Common.{◌≡◌, ◌==◌, ◌<◌, ◌+◌, ◌*◌, ◌/◌, ◌%◌, ℕ, zero, suc, Bool, false, eqb-true, sym, ap, subst, ◌∙◌, inl, inr, arith}
use Rattle.std.proofs.lemmas.Bool.{cases_eq}
use Rattle.std.proofs.lemmas.Nat.{div-add-mod', mod_below}
use Rattle.std.specs.Int.{bit_at}
use Rattle.limits.specs.declared.TheConstants.{MAX_PARTITIONS}
use Rattle.partition_graph.specs.NeighbourWords.{IsWordOf}
use Rattle.path_finder.specs.Nearness.{Met, is_met}
use Rattle.path_finder.proofs.Reaching.{Added, added}
use Rattle.path_finder.proofs.WordSteps.{bit-of-word, in-place}
use Rattle.path_finder.proofs.reach.Reach.add_all.Goals as goal

low-id : (place id : ℕ) → place < 16 → id / 64 ≡ place → id < 1024
low-id place id low here = omega (arith, low, here, div-add-mod' id 64, mod_below id 64 (omega arith))

pub overflow_cast-id : goal.overflow_cast-id
overflow_cast-id c =
    let b = bit-of-word c.args.place c.loop-id.rest c.in-Some.id c.in-Some.ensures in
    record { fits = omega (arith, low-id c.args.place c.in-Some.id c.requires.place b.0) }

pub add-requires-clause-id : goal.add-requires-clause-id
add-requires-clause-id c =
    let b = bit-of-word c.args.place c.loop-id.rest c.in-Some.id c.in-Some.ensures in
    low-id c.args.place c.in-Some.id c.requires.place b.0

pub add-requires-clause-unmet : goal.add-requires-clause-unmet
add-requires-clause-unmet c =
    let b = bit-of-word c.args.place c.loop-id.rest c.in-Some.id c.in-Some.ensures in
    ap (λ (n : ℕ). is_met c.loop-id.self n) (sym (in-place c.args.place c.in-Some.id b.0))
    ∙ c.loop-id.invariant.unmet (c.in-Some.id % 64) (mod_below c.in-Some.id 64 (omega arith)) b.1

pub loop-id-smaller : goal.loop-id-smaller
loop-id-smaller c =
    let b = bit-of-word c.args.place c.loop-id.rest c.in-Some.id c.in-Some.ensures in
    let low : c.in-Some.id < MAX_PARTITIONS = low-id c.args.place c.in-Some.id c.requires.place b.0 in
    let unmet = ap (λ (n : ℕ). is_met c.loop-id.self n) (sym (in-place c.args.place c.in-Some.id b.0)) ∙ c.loop-id.invariant.unmet (c.in-Some.id % 64) (mod_below c.in-Some.id 64 (omega arith)) b.1 in
    let k : Added c.loop-id.self c.add.new.self c.in-Some.id = subst (λ (m : Met). Added c.loop-id.self m c.in-Some.id) (sym c.add.ensures) (added c.loop-id.self c.in-Some.id low unmet c.loop-id.invariant.counted) in
    omega (arith, k.longer, k.counted.count)

pub loop-id-preserved : goal.loop-id-preserved
loop-id-preserved c =
    let b = bit-of-word c.args.place c.loop-id.rest c.in-Some.id c.in-Some.ensures in
    let i = c.loop-id.invariant in
    let bit : ℕ = c.in-Some.id % 64 in
    let low : c.in-Some.id < MAX_PARTITIONS = low-id c.args.place c.in-Some.id c.requires.place b.0 in
    let at : c.args.place * 64 + bit ≡ c.in-Some.id = in-place c.args.place c.in-Some.id b.0 in
    let unmet = ap (λ (n : ℕ). is_met c.loop-id.self n) (sym at) ∙ i.unmet bit (mod_below c.in-Some.id 64 (omega arith)) b.1 in
    let k : Added c.loop-id.self c.add.new.self c.in-Some.id = subst (λ (m : Met). Added c.loop-id.self m c.in-Some.id) (sym c.add.ensures) (added c.loop-id.self c.in-Some.id low unmet i.counted) in
    let r = c.without_bit-rest.ensures in
    record {
      counted = k.counted;
      long = omega (arith, i.long, k.longer);
      reaching = λ edge next w before. k.reaching edge next (omega (arith, w, i.long)) (i.reaching edge next w before);
      more = record { met = λ p m. k.more.met p (i.more.met p m); listed = λ j p m. k.more.listed j p (i.more.listed j p m) };
      unmet = λ j below on. elim (cases_eq j bit) [
        | inl same ↦ absurd (zero≢one (sym r.there ∙ ap (λ (n : ℕ). bit_at c.without_bit-rest.result n) (sym same) ∙ eqb-true (bit_at c.without_bit-rest.result j) 1 on))
        | inr apart ↦
            k.others (c.args.place * 64 + j) (λ e. apart (omega (arith, e, at)))
            ∙ i.unmet j below (ap (λ (n : ℕ). n == 1) (sym (r.others j below apart)) ∙ on)
      ];
      met = λ j below on off. elim (cases_eq j bit) [
        | inl same ↦ ap (λ (n : ℕ). is_met c.add.new.self n) (omega (arith, same, at)) ∙ k.met
        | inr apart ↦ k.more.met (c.args.place * 64 + j) (i.met j below on (ap (λ (n : ℕ). n == 1) (sym (r.others j below apart)) ∙ off))
      ];
    }
  where
    zero≢one : zero ≡ suc zero → ⊥
    zero≢one e = omega (arith, e)

pub returns-clause-met : goal.returns-clause-met
returns-clause-met c i below on =
    let same : c.args.place ≡ c.args.place * 64 / 64 = omega (arith, div-add-mod' (c.args.place * 64) 64, mod_below (c.args.place * 64) 64 (omega arith)) in
    let has : ℕ → Bool = λ n. bit_at c.loop-id.rest (n % 64) == 1 in
    let is : IsWordOf has c.args.place c.loop-id.rest = λ j low. ap (λ (k : ℕ). bit_at c.loop-id.rest k == 1) (here c.args.place j low) in
    let off : (bit_at c.loop-id.rest i == 1) ≡ false =
    ap (λ (k : ℕ). bit_at c.loop-id.rest k == 1) (here c.args.place i below)
    ∙ c.in_default.ensures has (subst (λ (w : ℕ). IsWordOf has w c.loop-id.rest) same is) (c.args.place * 64 + i) (omega arith) (omega (arith, below, same)) in
    c.loop-id.invariant.met i below on off
  where
    here : (p j : ℕ) → j < 64 → j ≡ (p * 64 + j) % 64
    here p j low = omega (arith, low, div-add-mod' (p * 64 + j) 64, mod_below (p * 64 + j) 64 (omega arith))
