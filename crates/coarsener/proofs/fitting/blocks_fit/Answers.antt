use Rattle.std.proofs.Common.{◌≡◌, ◌≤◌, ◌+◌, ◌*◌, ◌-◌, Bool, true, false, leb, refl, arith}
use Rattle.std.specs.Bool.{OnTrue}
use Rattle.std.proofs.lemmas.Bool.{leb-true}
use Rattle.limits.specs.declared.TheConstants.{MAX_PATH_NUMBERS}
use Rattle.partition_bounds.specs.Pairs.{longest_path}
use Rattle.coarsener.specs.declared.fitting.Known.{Known}
use Rattle.coarsener.specs.declared.fitting.Known.TheVariants.{Nothing, Ranks}
use Rattle.coarsener.specs.Blocking.{pair_count}
use Rattle.coarsener.specs.Fitting.{most_in_all}
use Rattle.coarsener.proofs.BlockSums.{all-fit, sum-nothing}
use Rattle.coarsener.proofs.fitting.blocks_fit.Goals as goal

-- what follows from a test
if-true : (b : Bool) (P : Type 0) → (b ≡ true → P) → OnTrue b P
if-true true P f = f refl
if-true false P f = tt

pub returns-then-most_in_all-room-clause-fit : goal.returns-then-most_in_all-room-clause-fit
returns-then-most_in_all-room-clause-fit c invs blocks w =
    let l : c.args.held + most_in_all Nothing c.args.graph.now ≤ MAX_PATH_NUMBERS = omega (arith, c.most_in_all.ensures.value, c.if-most_in_all-room.true, c.if-held.false) in
    all-fit invs Nothing c.args.graph.now blocks c.args.held c.most_in_all.ensures.ids tt l w

pub returns-clause-fit : goal.returns-clause-fit
returns-clause-fit c =
    let known : Known = Ranks (record { ref_ptr = c.args.graph.ref_ptr; now = c.rank_all-ranks.result }) c.falls_of-falls.result in
    let e : c.most_in_all-2.result ≡ most_in_all known c.args.graph.now = c.most_in_all-2.ensures.value in
    if-true (leb c.most_in_all-2.result (MAX_PATH_NUMBERS - c.args.held)) _ (λ t invs blocks w.
    let b : c.most_in_all-2.result ≤ MAX_PATH_NUMBERS - c.args.held = leb-true c.most_in_all-2.result (MAX_PATH_NUMBERS - c.args.held) t in
    all-fit invs known c.args.graph.now blocks c.args.held c.most_in_all.ensures.ids c.falls_of-falls.ensures (omega (arith, c.if-held.false)) w)

pub returns-clause-few : goal.returns-clause-few
returns-clause-few c few =
    let s : most_in_all Nothing c.args.graph.now ≤ pair_count c.args.graph.now * longest_path = sum-nothing c.args.graph.now in
    absurd (omega (arith, c.most_in_all.ensures.value, c.if-most_in_all-room.false))
