use Rattle.std.proofs.Common.{◌≡◌, ◌≤◌, ◌<◌, ◌∙◌, ℕ, Bool, ◌||◌, List, false, length, ap, sym, subst, subst₂, refl, arith}
use Rattle.limits.specs.declared.TheConstants.{MAX_STEPS}
use Rattle.invariants.specs.declared.Invariant.{Invariant}
use Rattle.partition_model.specs.Listings.{AreBelow}
use Rattle.cell_pool.specs.RunLists.{RunLists}
use Rattle.run_history.specs.Records.{merges_of}
use Rattle.labelling.specs.Labelled.{Labelling}
use Rattle.coarsener.specs.Pairs.{HasIds}
use Rattle.coarsener.specs.Deciding.{IsDecided}
use Rattle.coarsener.proofs.Behind.{pair-smaller}
use Rattle.coarsener.proofs.MergingTurns.{IsCoarsening, IsCounted, coarsening-start, coarsening-turn, coarsening-few, coarsening-end, counting-start, counting-turn, others-turn, merge-count, none-left, owed-turn}
use Rattle.coarsener.proofs.merging.coarsen.Goals as goal

pub loop-pair-init : goal.loop-pair-init
loop-pair-init g c =
    let ids : HasIds c.args.graph.now = record {
      typed = c.ids_used.ensures.typed;
      below = subst (λ (n : ℕ). AreBelow n c.args.graph.now.traces) c.ids_used.ensures.value c.ids_used.ensures.below;
      two = omega (arith, c.ids_used.ensures.value, c.ids_used.ensures.two);
      limit = omega (arith, c.ids_used.ensures.value, c.ids_used.ensures.limit);
    } in
    record {
      low = omega (arith, c.start-at.ensures.p);
      order = omega (arith, c.start-at.ensures.p, c.start-at.ensures.q);
      limit = omega (arith, c.start-at.ensures.q);
      list = refl;
      marked = tt;
      others = refl;
      run = subst₂ (λ (p q : ℕ). IsCoarsening c.args.planes.now.invs c.args.graph.now c.args.graph.now p q (merges_of c.args.run_log.now)) (sym c.start-at.ensures.p) (sym c.start-at.ensures.q)
          (coarsening-start c.args.planes.now.invs c.args.graph.now c.args.run_log.now c.requires.satisfied c.requires.begun);
      more = omega arith;
      counted = subst₂ (λ (p q : ℕ). IsCounted c.args.graph.now c.args.graph.now p q (length c.args.run_log.now.merges) false) (sym c.start-at.ensures.p) (sym c.start-at.ensures.q)
          (subst (λ (m : ℕ). IsCounted c.args.graph.now c.args.graph.now 2 2 m false) (sym (ap length c.requires.begun)) (counting-start c.args.graph.now ids));
      last = λ e. refl;
      once = omega (arith, ap length c.requires.begun);
    }

pub merge_unless_lost-marked-requires-clause-room : goal.merge_unless_lost-marked-requires-clause-room
merge_unless_lost-marked-requires-clause-room g c =
    let few : length (merges_of c.loop-pair.run_log) < 1022 =
    coarsening-few c.args.planes.now.invs c.args.graph.now c.loop-pair.graph c.loop-pair.at.p c.loop-pair.at.q c.in-Some.pair.p c.in-Some.pair.q (merges_of c.loop-pair.run_log)
    c.in-Some.ensures.ids c.loop-pair.invariant.run c.in-Some.ensures.next.pair in
    let room : c.loop-pair.run_log.merge_room ≡ c.args.run_log.now.merge_room = ap (λ (l : RunLists). l.merge_room) c.loop-pair.invariant.others in
    let more : MAX_STEPS ≤ c.args.run_log.now.merge_room = c.requires.room in
    omega (arith, merge-count c.loop-pair.run_log)

pub loop-pair-preserved : goal.loop-pair-preserved
loop-pair-preserved g c =
    let decided : IsDecided c.args.planes.now.invs c.loop-pair.graph c.merge_unless_lost-marked.new.graph c.loop-pair.run_log c.merge_unless_lost-marked.new.run_log c.in-Some.pair.p c.in-Some.pair.q =
    subst (λ (invs : List Invariant). IsDecided invs c.loop-pair.graph c.merge_unless_lost-marked.new.graph c.loop-pair.run_log c.merge_unless_lost-marked.new.run_log c.in-Some.pair.p c.in-Some.pair.q)
    (c.mark.ensures.list ∙ c.loop-pair.invariant.list) c.merge_unless_lost-marked.ensures.decided in
    record {
      low = c.in-Some.ensures.next.pair.low;
      order = omega (arith, c.in-Some.ensures.next.pair.order);
      limit = c.in-Some.ensures.limit;
      list = ap (λ (planes : Labelling). planes.invs) c.merge_unless_lost-marked.ensures.same ∙ c.mark.ensures.list ∙ c.loop-pair.invariant.list;
      marked = c.merge_unless_lost-marked.ensures.marked;
      others = others-turn c.args.planes.now.invs c.loop-pair.graph c.merge_unless_lost-marked.new.graph c.args.run_log.now c.loop-pair.run_log c.merge_unless_lost-marked.new.run_log
          c.in-Some.pair.p c.in-Some.pair.q c.loop-pair.invariant.others decided;
      run = coarsening-turn c.args.planes.now.invs c.args.graph.now c.loop-pair.graph c.merge_unless_lost-marked.new.graph c.loop-pair.at.p c.loop-pair.at.q c.in-Some.pair.p c.in-Some.pair.q
          c.loop-pair.run_log c.merge_unless_lost-marked.new.run_log c.in-Some.ensures.ids c.loop-pair.invariant.run c.in-Some.ensures.next decided;
      more = omega (arith, c.loop-pair.invariant.more, c.mark.ensures.counted);
      counted = subst (λ (b : Bool). IsCounted c.args.graph.now c.merge_unless_lost-marked.new.graph c.in-Some.pair.p c.in-Some.pair.q (length c.merge_unless_lost-marked.new.run_log.merges) (c.loop-pair.apart || b))
          (sym c.stays_apart-apart.ensures)
          (counting-turn c.args.planes.now.invs c.args.graph.now c.loop-pair.graph c.merge_unless_lost-marked.new.graph c.loop-pair.at.p c.loop-pair.at.q c.in-Some.pair.p c.in-Some.pair.q
          c.loop-pair.run_log c.merge_unless_lost-marked.new.run_log c.loop-pair.apart c.merge_unless_lost-marked.result c.in-Some.ensures.ids c.loop-pair.invariant.counted c.in-Some.ensures.next decided c.merge_unless_lost-marked.ensures.owes);
      last = λ e. owed-turn c.loop-pair.apart c.merge_unless_lost-marked.result (ap (λ (b : Bool). c.loop-pair.apart || b) (sym c.stays_apart-apart.ensures) ∙ e);
      once = omega (arith, c.mark.ensures.counted, c.merge_unless_lost-marked.ensures.owes, c.loop-pair.invariant.once);
    }

pub returns-clause-run : goal.returns-clause-run
returns-clause-run g c =
    coarsening-end c.args.planes.now.invs c.args.graph.now c.loop-pair.graph c.loop-pair.at.p c.loop-pair.at.q (merges_of c.loop-pair.run_log) c.loop-pair.invariant.run c.in_default.ensures.next

pub returns-then-not-apart-clause-run : goal.returns-then-not-apart-clause-run
returns-then-not-apart-clause-run g c =
    coarsening-end c.args.planes.now.invs c.args.graph.now c.loop-pair.graph c.loop-pair.at.p c.loop-pair.at.q (merges_of c.loop-pair.run_log) c.loop-pair.invariant.run c.in_default.ensures.next

pub returns-then-not-apart-clause-marks : goal.returns-then-not-apart-clause-marks
returns-then-not-apart-clause-marks g c some =
    absurd (omega (
      arith,
      some,
      none-left c.args.graph.now c.loop-pair.graph c.loop-pair.at.p c.loop-pair.at.q (length c.loop-pair.run_log.merges) c.in_default.ensures.ids
          (subst (λ (b : Bool). IsCounted c.args.graph.now c.loop-pair.graph c.loop-pair.at.p c.loop-pair.at.q (length c.loop-pair.run_log.merges) b) c.if-not-apart.true c.loop-pair.invariant.counted) c.in_default.ensures.next,
    ))

pub loop-pair-smaller : goal.loop-pair-smaller
loop-pair-smaller g c =
    pair-smaller c.loop-pair.at.p c.loop-pair.at.q c.in-Some.pair.p c.in-Some.pair.q c.in-Some.ensures.next.behind c.in-Some.ensures.limit c.loop-pair.invariant.limit c.in-Some.ensures.next.pair.order

pub merge_unless_lost-marked-requires-clause-typed : goal.merge_unless_lost-marked-requires-clause-typed
merge_unless_lost-marked-requires-clause-typed g c = c.in-Some.ensures.ids.typed

pub merge_unless_lost-marked-requires-clause-pair : goal.merge_unless_lost-marked-requires-clause-pair
merge_unless_lost-marked-requires-clause-pair g c = c.in-Some.ensures.next.pair

pub merge_unless_lost-marked-requires-clause-limit : goal.merge_unless_lost-marked-requires-clause-limit
merge_unless_lost-marked-requires-clause-limit g c = c.in-Some.ensures.limit

pub merge_unless_lost-marked-requires-clause-listed : goal.merge_unless_lost-marked-requires-clause-listed
merge_unless_lost-marked-requires-clause-listed g c = c.mark.ensures.listed

pub merge_unless_lost-marked-requires-clause-marks : goal.merge_unless_lost-marked-requires-clause-marks
merge_unless_lost-marked-requires-clause-marks g c = c.mark.ensures.marks

pub mark-requires : goal.mark-requires
mark-requires g c = c.loop-pair.invariant.marked

pub mark-requires-2 : goal.mark-requires-2
mark-requires-2 g c = c.loop-pair.invariant.marked

pub returns-then-not-apart-clause-others : goal.returns-then-not-apart-clause-others
returns-then-not-apart-clause-others g c = c.loop-pair.invariant.others

pub returns-then-not-apart-clause-list : goal.returns-then-not-apart-clause-list
returns-then-not-apart-clause-list g c = c.loop-pair.invariant.list

pub returns-clause-others : goal.returns-clause-others
returns-clause-others g c = c.loop-pair.invariant.others

pub returns-clause-list : goal.returns-clause-list
returns-clause-list g c = c.mark-2.ensures.list ∙ c.loop-pair.invariant.list

pub returns-clause-marks : goal.returns-clause-marks
returns-clause-marks g c = λ some. record { marks = c.mark-2.ensures.marks; listed = c.mark-2.ensures.listed }
