use Rattle.std.proofs.Common.{ap, subst, ◌∙◌}
use Rattle.std.specs.List.{AllByRecursion}
use Rattle.limits.specs.declared.TheConstants.{INITIAL}
use Rattle.partition_model.specs.Graphs.{Graph}
use Rattle.models.specs.Models.{IsLabelled}
use Rattle.models.specs.Checks.{IsAccepted, IsFirstFailure}
use Rattle.models.proofs.Formed.{shaped_are_formed}
use Rattle.model_check.specs.Verdicts.{inner_words_of, HasPathFor}
use Rattle.model_check.proofs.check_graph.Goals as goal
use Rattle.model_check.proofs.check_graph.Goals.{In_default, In_default-2}

-- each word has a path
same-words : (c : In_default) → AllByRecursion (IsAccepted c.args.model.now) (inner_words_of c.args.traces.now)
same-words c = subst (λ (g : Graph). AllByRecursion (HasPathFor g) (inner_words_of c.args.traces.now)) c.requires.graph c.in_default.ensures.first

-- the labels of each invariant are inductive
same-labels : (c : In_default-2) → AllByRecursion (IsLabelled c.args.model.now) c.args.model.now.invariants
same-labels c = rw c.in_default-2.is at c.in_ok-i.ensures

pub first_refused-requires : goal.first_refused-requires
first_refused-requires c = ap (λ (g : Graph). g.typ INITIAL) c.requires.graph ∙ (shaped_are_formed c.args.model.now c.requires.shaped).0.start_type

pub returns-in-Some : goal.returns-in-Some
returns-in-Some c = (
  c.requires.types,
  c.requires.listing,
  subst (λ (g : Graph). IsFirstFailure (HasPathFor g) (inner_words_of c.args.traces.now) c.in-Some.t) c.requires.graph c.in-Some.ensures.first,
)

pub returns-in-Some-2 : goal.returns-in-Some-2
returns-in-Some-2 c =
    let a = goal.at.returns-in-Some-2 c in (
      c.requires.types,
      c.requires.listing,
      same-words a.In_default,
      rw c.in-Some-2.is at c.in_ok-i.ensures,
    )

pub returns-in-Some-first_open : goal.returns-in-Some-first_open
returns-in-Some-first_open c =
    let a = goal.at.returns-in-Some-first_open c in (
      c.requires.types,
      c.requires.listing,
      same-words a.In_default,
      same-labels a.In_default-2,
      c.in-Some-first_open.ensures.pair,
      c.in-Some-first_open.ensures.stands_open,
      c.in-Some-first_open.ensures.first,
    )

pub returns-in-None : goal.returns-in-None
returns-in-None c =
    let a = goal.at.returns-in-None c in
    record {
      types = c.requires.types;
      listing = c.requires.listing;
      traces = same-words a.In_default;
      labels = same-labels a.In_default-2;
      blocks = c.in-None.ensures;
    }
