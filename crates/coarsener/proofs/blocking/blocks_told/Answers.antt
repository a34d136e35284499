use Rattle.std.proofs.lemmas.Option.{slice_get-get_or}
use Rattle.std.proofs.Common.{get_or, slice_get, Some}
use Rattle.std.proofs.Common.{◌≡◌, ℕ, ◌+◌, ◌≤◌, ◌<◌, ◌∙◌, List, MatchOption, length, length-append, refl, sym, ap, subst, subst₂, arith}
use Rattle.invariants.specs.declared.Invariant.{Invariant}
use Rattle.cell_pool.specs.Numbers.{Numbers}
use Rattle.cell_pool.specs.RunLists.{RunLists}
use Rattle.run_history.specs.Records.{blocks_of}
use Rattle.partition_model.specs.Graphs.{IsLeastViolation, Merged}
use Rattle.partition_model.specs.Assignments.{G}
use Rattle.partition_model.specs.Refinement.{IsFirstBroken, SatisfiesAll}
use Rattle.path_finder.specs.declared.survey.Surrounding.{Surrounding}
use Rattle.path_finder.specs.Surveys.{IsSurveyOf}
use Rattle.labelling.specs.Labelled.{Labelling}
use Rattle.coarsener.specs.declared.pairs.Pair.{Pair}
use Rattle.coarsener.specs.Pairs.{HasNoPairBehind, IsNextPair}
use Rattle.coarsener.specs.Blocking.{EndsWithoutRoom, pair_count}
use Rattle.coarsener.specs.Telling.{TellsLosses}
use Rattle.coarsener.proofs.BlockingTurns.{IsBlocking, blocking-start, blocking-turn, blocking-end, blocking-full, blocking-limit, blocks-few, blocks-fewer, blocking-holds, blocking-none, with_block, none-lost, is-broken, broken-within, pairs-some}
use Rattle.coarsener.proofs.Behind.{pair-smaller}
use Rattle.coarsener.proofs.Deciding.{none}
use Rattle.coarsener.proofs.blocking.blocks_told.Goals as goal

pub loop-pair-init : goal.loop-pair-init
loop-pair-init g c =
    let some : 0 < pair_count c.args.apart.graph.now =
    pairs-some c.args.apart.graph.now c.next_pair.result c.next_pair.ensures.ids c.if-is_none.ensures
    (subst₂ (λ (p q : ℕ). MatchOption c.next_pair.result (HasNoPairBehind (G c.args.apart.graph.now.traces) p q) (λ (x : Pair). IsNextPair (G c.args.apart.graph.now.traces) p q x.p x.q))
    c.start-at.ensures.p c.start-at.ensures.q c.next_pair.ensures.next) in
    record {
      low = omega (arith, c.start-at.ensures.p);
      order = omega (arith, c.start-at.ensures.p, c.start-at.ensures.q);
      limit = omega (arith, c.start-at.ensures.q);
      list = refl;
      listed = c.requires.listed;
      told = c.requires.told some;
      few = c.requires.few some;
      some = some;
      surveyed = subst (λ (found : List Surrounding). IsSurveyOf found (G c.args.apart.graph.now.traces)) (sym c.forget.ensures.survey) (λ k s e. absurd (cc e));
      counted = omega (arith, ap length c.requires.begun);
      within = omega (arith, c.used.ensures.value, c.if-prove.false);
      run = subst₂ (λ (p q : ℕ). IsBlocking c.args.apart.invs.now c.args.apart.graph.now c.args.run_log.now c.args.run_log.now c.args.spans.now c.args.spans.now p q)
          (sym c.start-at.ensures.p) (sym c.start-at.ensures.q)
          (blocking-start c.args.apart.invs.now c.args.apart.graph.now c.args.run_log.now c.args.spans.now c.next_pair.ensures.ids c.requires.begun);
    }

pub unreachable-requires : goal.unreachable-requires
unreachable-requires g c =
    let all : SatisfiesAll (Merged (G c.args.apart.graph.now.traces) c.in-Some.pair.p c.in-Some.pair.q) c.loop-pair.planes.invs =
    c.in_default-first_lost.ensures.first c.args.apart.graph.now.traces c.in-Some.ensures.ids.typed c.in-Some.ensures.next.pair c.loop-pair.invariant.told in
    none-lost c.args.apart.invs.now c.args.apart.graph.now.traces c.in-Some.pair.p c.in-Some.pair.q c.in-Some.ensures.ids.typed c.in-Some.ensures.next.pair c.requires.ended
    (subst (λ (invs : List Invariant). SatisfiesAll (Merged (G c.args.apart.graph.now.traces) c.in-Some.pair.p c.in-Some.pair.q) invs) c.loop-pair.invariant.listed all)

pub bounds-apart-k : goal.bounds-apart-k
bounds-apart-k g c =
    let first : IsFirstBroken (Merged (G c.args.apart.graph.now.traces) c.in-Some.pair.p c.in-Some.pair.q) c.args.apart.invs.now c.in-Some-first_lost.k =
    subst (λ (invs : List Invariant). IsFirstBroken (Merged (G c.args.apart.graph.now.traces) c.in-Some.pair.p c.in-Some.pair.q) invs c.in-Some-first_lost.k) c.loop-pair.invariant.listed
    (c.in-Some-first_lost.ensures.first c.args.apart.graph.now.traces c.in-Some.ensures.ids.typed c.in-Some.ensures.next.pair c.loop-pair.invariant.told) in
    broken-within (Merged (G c.args.apart.graph.now.traces) c.in-Some.pair.p c.in-Some.pair.q) c.args.apart.invs.now c.in-Some-first_lost.k first

pub offset_bounds-apart-k : goal.offset_bounds-apart-k
offset_bounds-apart-k g c =
    let within : c.in-Some-first_lost.k < length c.args.apart.invs.now = bounds-apart-k g c in
    omega (arith, c.loop-pair.invariant.few)

pub unreachable-requires-then-not-find_loss :
    goal.unreachable-requires-then-not-find_loss
unreachable-requires-then-not-find_loss g c =
    let first : IsFirstBroken (Merged (G c.args.apart.graph.now.traces) c.in-Some.pair.p c.in-Some.pair.q) c.args.apart.invs.now c.in-Some-first_lost.k =
    subst (λ (invs : List Invariant). IsFirstBroken (Merged (G c.args.apart.graph.now.traces) c.in-Some.pair.p c.in-Some.pair.q) invs c.in-Some-first_lost.k) c.loop-pair.invariant.listed
    (c.in-Some-first_lost.ensures.first c.args.apart.graph.now.traces c.in-Some.ensures.ids.typed c.in-Some.ensures.next.pair c.loop-pair.invariant.told) in
    is-broken (Merged (G c.args.apart.graph.now.traces) c.in-Some.pair.p c.in-Some.pair.q) c.args.apart.invs.now c.in-Some-first_lost.k first (c.if-not-find_loss.ensures.satisfied refl)

pub returns-in_default-push-clause-err : goal.returns-in_default-push-clause-err
returns-in_default-push-clause-err g c =
    let first : IsFirstBroken (Merged (G c.args.apart.graph.now.traces) c.in-Some.pair.p c.in-Some.pair.q) c.args.apart.invs.now c.in-Some-first_lost.k =
    subst (λ (invs : List Invariant). IsFirstBroken (Merged (G c.args.apart.graph.now.traces) c.in-Some.pair.p c.in-Some.pair.q) invs c.in-Some-first_lost.k) c.loop-pair.invariant.listed
    (c.in-Some-first_lost.ensures.first c.args.apart.graph.now.traces c.in-Some.ensures.ids.typed c.in-Some.ensures.next.pair c.loop-pair.invariant.told) in
    let room : c.loop-pair.spans.room ≡ c.args.spans.now.room = ap (λ (x : Numbers). x.room) c.loop-pair.invariant.run.paths in
    subst (λ (x : Numbers). EndsWithoutRoom c.args.apart.invs.now c.args.apart.graph.now (blocks_of c.loop-pair.run_log x) (length x.numbers)) (sym c.in_default-push.ensures.push.1)
    (blocking-full c.args.apart.invs.now c.args.apart.graph.now c.args.run_log.now c.loop-pair.run_log c.args.spans.now c.loop-pair.spans c.loop-pair.at.p c.loop-pair.at.q
    c.in-Some.pair.p c.in-Some.pair.q c.in-Some-first_lost.k c.path.result.now c.loop-pair.invariant.run c.in-Some.ensures.next first
    (subst (λ (p : List ℕ). IsLeastViolation (Merged (G c.args.apart.graph.now.traces) c.in-Some.pair.p c.in-Some.pair.q) (get_or c.args.apart.invs.now c.in-Some-first_lost.k none) p) (sym c.path.ensures) (c.if-not-find_loss.ensures.found refl)) (omega (arith, c.in_default-push.ensures.push.0, room, c.requires.numbers)))

pub returns-in_default-push-clause-limit : goal.returns-in_default-push-clause-limit
returns-in_default-push-clause-limit g c =
    let run : IsBlocking c.args.apart.invs.now c.args.apart.graph.now c.args.run_log.now c.loop-pair.run_log c.args.spans.now c.push.new.self c.loop-pair.at.p c.loop-pair.at.q =
    subst (λ (x : Numbers). IsBlocking c.args.apart.invs.now c.args.apart.graph.now c.args.run_log.now c.loop-pair.run_log c.args.spans.now x c.loop-pair.at.p c.loop-pair.at.q)
    (sym c.in_default-push.ensures.push.1) c.loop-pair.invariant.run in
    blocking-limit c.args.apart.invs.now c.args.apart.graph.now c.loop-pair.run_log c.args.spans.now c.push.new.self c.in-Some.ensures.ids (returns-in_default-push-clause-err g c) run.paths

pub overflow_cast-k : goal.overflow_cast-k
overflow_cast-k g c =
    let first : IsFirstBroken (Merged (G c.args.apart.graph.now.traces) c.in-Some.pair.p c.in-Some.pair.q) c.args.apart.invs.now c.in-Some-first_lost.k =
    subst (λ (invs : List Invariant). IsFirstBroken (Merged (G c.args.apart.graph.now.traces) c.in-Some.pair.p c.in-Some.pair.q) invs c.in-Some-first_lost.k) c.loop-pair.invariant.listed
    (c.in-Some-first_lost.ensures.first c.args.apart.graph.now.traces c.in-Some.ensures.ids.typed c.in-Some.ensures.next.pair c.loop-pair.invariant.told) in
    let within : c.in-Some-first_lost.k < length c.args.apart.invs.now = broken-within (Merged (G c.args.apart.graph.now.traces) c.in-Some.pair.p c.in-Some.pair.q) c.args.apart.invs.now c.in-Some-first_lost.k first in
    omega (arith, c.loop-pair.invariant.few)

pub loop-pair-preserved : goal.loop-pair-preserved
loop-pair-preserved g c =
    let first : IsFirstBroken (Merged (G c.args.apart.graph.now.traces) c.in-Some.pair.p c.in-Some.pair.q) c.args.apart.invs.now c.in-Some-first_lost.k =
    subst (λ (invs : List Invariant). IsFirstBroken (Merged (G c.args.apart.graph.now.traces) c.in-Some.pair.p c.in-Some.pair.q) invs c.in-Some-first_lost.k) c.loop-pair.invariant.listed
    (c.in-Some-first_lost.ensures.first c.args.apart.graph.now.traces c.in-Some.ensures.ids.typed c.in-Some.ensures.next.pair c.loop-pair.invariant.told) in
    let run : IsBlocking c.args.apart.invs.now c.args.apart.graph.now c.args.run_log.now (with_block c.in-Some.pair.p c.in-Some.pair.q c.in-Some-first_lost.k c.in-Some-push.path c.loop-pair.run_log)
    c.args.spans.now c.push.new.self c.in-Some.pair.p c.in-Some.pair.q =
    blocking-turn c.args.apart.invs.now c.args.apart.graph.now c.args.run_log.now c.loop-pair.run_log c.args.spans.now c.loop-pair.spans c.push.new.self c.loop-pair.at.p c.loop-pair.at.q
    c.in-Some.pair.p c.in-Some.pair.q c.in-Some-first_lost.k c.path.result.now c.in-Some-push.path c.loop-pair.invariant.run c.in-Some.ensures.next first
    (subst (λ (p : List ℕ). IsLeastViolation (Merged (G c.args.apart.graph.now.traces) c.in-Some.pair.p c.in-Some.pair.q) (get_or c.args.apart.invs.now c.in-Some-first_lost.k none) p) (sym c.path.ensures) (c.if-not-find_loss.ensures.found refl)) c.in-Some-push.ensures.push c.in-Some-push.ensures.stays in
    let blocks : length c.add_block.new.self.blocks ≡ length c.loop-pair.run_log.blocks + 1 =
    ap (λ (x : RunLists). length x.blocks) c.add_block.ensures ∙ length-append c.loop-pair.run_log.blocks _ in
    let room : c.push.new.self.room ≡ c.args.spans.now.room = ap (λ (x : Numbers). x.room) run.paths in
    record {
      low = c.in-Some.ensures.next.pair.low;
      order = omega (arith, c.in-Some.ensures.next.pair.order);
      limit = c.in-Some.ensures.limit;
      list = ap (λ (planes : Labelling). planes.invs) c.first_lost.ensures.same ∙ c.loop-pair.invariant.list;
      listed = ap (λ (planes : Labelling). planes.invs) c.first_lost.ensures.same ∙ c.loop-pair.invariant.listed;
      told = subst (λ (planes : Labelling). TellsLosses c.args.apart.told planes (G c.args.apart.graph.now.traces)) (sym c.first_lost.ensures.same) c.loop-pair.invariant.told;
      few = c.loop-pair.invariant.few;
      some = c.loop-pair.invariant.some;
      surveyed = c.find_loss.ensures.surveyed;
      counted = omega (arith, c.find_loss.ensures.counted, c.loop-pair.invariant.counted);
      within = omega (arith, c.in-Some-push.ensures.push.fits, c.requires.numbers);
      run = subst (λ (x : RunLists). IsBlocking c.args.apart.invs.now c.args.apart.graph.now c.args.run_log.now x c.args.spans.now c.push.new.self c.in-Some.pair.p c.in-Some.pair.q)
          (sym c.add_block.ensures) run;
    }

pub returns-clause-ok : goal.returns-clause-ok
returns-clause-ok g c =
    blocking-end c.args.apart.invs.now c.args.apart.graph.now c.args.run_log.now c.loop-pair.run_log c.args.spans.now c.loop-pair.spans c.loop-pair.at.p c.loop-pair.at.q
    c.in_default.ensures.ids c.loop-pair.invariant.run c.in_default.ensures.next

pub returns-clause-few : goal.returns-clause-few
returns-clause-few g c =
    let few : length c.loop-pair.run_log.blocks ≤ pair_count c.args.apart.graph.now =
    blocks-few c.args.apart.invs.now c.args.apart.graph.now c.args.run_log.now c.loop-pair.run_log c.args.spans.now c.loop-pair.spans c.loop-pair.at.p c.loop-pair.at.q c.loop-pair.invariant.run in
    omega (arith, c.loop-pair.invariant.counted)

pub find_loss-requires-clause-known : goal.find_loss-requires-clause-known
find_loss-requires-clause-known g c t =
    let lost : IsFirstBroken (Merged (G c.args.apart.graph.now.traces) c.in-Some.pair.p c.in-Some.pair.q) c.args.apart.invs.now c.in-Some-first_lost.k =
    subst (λ (invs : List Invariant). IsFirstBroken (Merged (G c.args.apart.graph.now.traces) c.in-Some.pair.p c.in-Some.pair.q) invs c.in-Some-first_lost.k) c.loop-pair.invariant.listed
    (c.in-Some-first_lost.ensures.first c.args.apart.graph.now.traces c.in-Some.ensures.ids.typed c.in-Some.ensures.next.pair c.loop-pair.invariant.told) in
    let within : c.in-Some-first_lost.k < length c.args.apart.invs.now = broken-within (Merged (G c.args.apart.graph.now.traces) c.in-Some.pair.p c.in-Some.pair.q) c.args.apart.invs.now c.in-Some-first_lost.k lost in
    let inv : Invariant = get_or c.args.apart.invs.now c.in-Some-first_lost.k none in
    c.is_known-known.ensures c.loop-pair.planes (G c.args.apart.graph.now.traces) inv c.loop-pair.invariant.told
    (subst (λ (invs : List Invariant). slice_get invs c.in-Some-first_lost.k ≡ Some inv) (sym c.loop-pair.invariant.listed) (slice_get-get_or c.args.apart.invs.now c.in-Some-first_lost.k none within)) t

pub find_loss-requires-clause-pair : goal.find_loss-requires-clause-pair
find_loss-requires-clause-pair g c = c.in-Some.ensures.next.pair

pub add_block-requires : goal.add_block-requires
add_block-requires g c =
    omega (
      arith,
      blocks-fewer c.args.apart.invs.now c.args.apart.graph.now c.args.run_log.now c.loop-pair.run_log c.args.spans.now c.loop-pair.spans c.loop-pair.at.p c.loop-pair.at.q c.in-Some.pair.p c.in-Some.pair.q
          c.loop-pair.invariant.run c.in-Some.ensures.next,
      c.requires.room,
      ap (λ (x : RunLists). x.block_room) c.loop-pair.invariant.run.others,
    )

pub loop-pair-smaller : goal.loop-pair-smaller
loop-pair-smaller g c =
    pair-smaller c.loop-pair.at.p c.loop-pair.at.q c.in-Some.pair.p c.in-Some.pair.q c.in-Some.ensures.next.behind c.in-Some.ensures.limit c.loop-pair.invariant.limit c.in-Some.ensures.next.pair.order

pub returns-then-is_none-clause-ok : goal.returns-then-is_none-clause-ok
returns-then-is_none-clause-ok g c =
    blocking-none c.args.apart.invs.now c.args.apart.graph.now c.args.run_log.now c.args.spans.now c.next_pair.result c.next_pair.ensures.ids c.requires.begun c.if-is_none.ensures
    (subst₂ (λ (p q : ℕ). MatchOption c.next_pair.result (HasNoPairBehind (G c.args.apart.graph.now.traces) p q) (λ (x : Pair). IsNextPair (G c.args.apart.graph.now.traces) p q x.p x.q))
    c.start-at.ensures.p c.start-at.ensures.q c.next_pair.ensures.next)

pub returns-then-is_none-clause-paths : goal.returns-then-is_none-clause-paths
returns-then-is_none-clause-paths g c =
    (blocking-start c.args.apart.invs.now c.args.apart.graph.now c.args.run_log.now c.args.spans.now c.next_pair.ensures.ids c.requires.begun).paths

pub returns-in_default-push-clause-paths : goal.returns-in_default-push-clause-paths
returns-in_default-push-clause-paths g c =
    let run : IsBlocking c.args.apart.invs.now c.args.apart.graph.now c.args.run_log.now c.loop-pair.run_log c.args.spans.now c.push.new.self c.loop-pair.at.p c.loop-pair.at.q =
    subst (λ (x : Numbers). IsBlocking c.args.apart.invs.now c.args.apart.graph.now c.args.run_log.now c.loop-pair.run_log c.args.spans.now x c.loop-pair.at.p c.loop-pair.at.q)
    (sym c.in_default-push.ensures.push.1) c.loop-pair.invariant.run in
    run.paths

pub returns-in_default-push-clause-stays : goal.returns-in_default-push-clause-stays
returns-in_default-push-clause-stays g c =
    let run : IsBlocking c.args.apart.invs.now c.args.apart.graph.now c.args.run_log.now c.loop-pair.run_log c.args.spans.now c.push.new.self c.loop-pair.at.p c.loop-pair.at.q =
    subst (λ (x : Numbers). IsBlocking c.args.apart.invs.now c.args.apart.graph.now c.args.run_log.now c.loop-pair.run_log c.args.spans.now x c.loop-pair.at.p c.loop-pair.at.q)
    (sym c.in_default-push.ensures.push.1) c.loop-pair.invariant.run in
    run.stays

pub returns-in_default-push-clause-holds : goal.returns-in_default-push-clause-holds
returns-in_default-push-clause-holds g c =
    let run : IsBlocking c.args.apart.invs.now c.args.apart.graph.now c.args.run_log.now c.loop-pair.run_log c.args.spans.now c.push.new.self c.loop-pair.at.p c.loop-pair.at.q =
    subst (λ (x : Numbers). IsBlocking c.args.apart.invs.now c.args.apart.graph.now c.args.run_log.now c.loop-pair.run_log c.args.spans.now x c.loop-pair.at.p c.loop-pair.at.q)
    (sym c.in_default-push.ensures.push.1) c.loop-pair.invariant.run in
    blocking-holds c.args.apart.invs.now c.args.apart.graph.now c.args.run_log.now c.loop-pair.run_log c.args.spans.now c.push.new.self c.loop-pair.at.p c.loop-pair.at.q run

pub returns-in_default-push-clause-others : goal.returns-in_default-push-clause-others
returns-in_default-push-clause-others g c = c.loop-pair.invariant.run.others

pub returns-clause-paths : goal.returns-clause-paths
returns-clause-paths g c = c.loop-pair.invariant.run.paths

pub returns-clause-stays : goal.returns-clause-stays
returns-clause-stays g c = c.loop-pair.invariant.run.stays

pub returns-clause-others : goal.returns-clause-others
returns-clause-others g c = c.loop-pair.invariant.run.others

pub returns-clause-holds : goal.returns-clause-holds
returns-clause-holds g c =
    blocking-holds c.args.apart.invs.now c.args.apart.graph.now c.args.run_log.now c.loop-pair.run_log c.args.spans.now c.loop-pair.spans c.loop-pair.at.p c.loop-pair.at.q c.loop-pair.invariant.run

pub next_pair-requires-in-loop-pair-clause-low : goal.next_pair-requires-in-loop-pair-clause-low
next_pair-requires-in-loop-pair-clause-low g c = c.loop-pair.invariant.low

pub next_pair-requires-in-loop-pair-clause-order : goal.next_pair-requires-in-loop-pair-clause-order
next_pair-requires-in-loop-pair-clause-order g c = c.loop-pair.invariant.order

pub next_pair-requires-in-loop-pair-clause-limit : goal.next_pair-requires-in-loop-pair-clause-limit
next_pair-requires-in-loop-pair-clause-limit g c = c.loop-pair.invariant.limit

pub first_lost-requires-clause-order : goal.first_lost-requires-clause-order
first_lost-requires-clause-order g c = c.in-Some.ensures.next.pair.order

pub first_lost-requires-clause-limit : goal.first_lost-requires-clause-limit
first_lost-requires-clause-limit g c = c.in-Some.ensures.limit

pub returns-then-is_none-clause-stays : goal.returns-then-is_none-clause-stays
returns-then-is_none-clause-stays g c =
    (blocking-start c.args.apart.invs.now c.args.apart.graph.now c.args.run_log.now c.args.spans.now c.next_pair.ensures.ids c.requires.begun).stays

pub returns-then-is_none-clause-holds : goal.returns-then-is_none-clause-holds
returns-then-is_none-clause-holds g c = λ holds. holds

pub returns-then-is_none-clause-others : goal.returns-then-is_none-clause-others
returns-then-is_none-clause-others g c = refl

pub returns-then-is_none-clause-list : goal.returns-then-is_none-clause-list
returns-then-is_none-clause-list g c = refl

pub returns-in_default-push-clause-list : goal.returns-in_default-push-clause-list
returns-in_default-push-clause-list g c = ap (λ (planes : Labelling). planes.invs) c.first_lost.ensures.same ∙ c.loop-pair.invariant.list

pub returns-in_default-push-clause-few : goal.returns-in_default-push-clause-few
returns-in_default-push-clause-few g c =
    let fewer = blocks-fewer c.args.apart.invs.now c.args.apart.graph.now c.args.run_log.now c.loop-pair.run_log c.args.spans.now c.loop-pair.spans c.loop-pair.at.p c.loop-pair.at.q c.in-Some.pair.p c.in-Some.pair.q
    c.loop-pair.invariant.run c.in-Some.ensures.next in
    omega (arith, c.find_loss.ensures.counted, c.loop-pair.invariant.counted, fewer)

pub returns-in_default-push-clause-more : goal.returns-in_default-push-clause-more
returns-in_default-push-clause-more g c = omega (arith, c.find_loss.ensures.counted, c.loop-pair.invariant.counted)

pub returns-clause-list : goal.returns-clause-list
returns-clause-list g c = c.loop-pair.invariant.list

pub returns-clause-within : goal.returns-clause-within
returns-clause-within g c = c.loop-pair.invariant.within

pub returns-clause-more : goal.returns-clause-more
returns-clause-more g c = omega (arith, c.loop-pair.invariant.counted)
