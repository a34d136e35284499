use Rattle.std.proofs.Common.{ℕ, List, sym, ◌∙◌, subst, subst₂}
use Rattle.std.proofs.lemmas.Result.{IfOk-weaker}
use Rattle.models.specs.Models.{typed_words}
use Rattle.replay_check.specs.Laid.{inner_words_of}
use Rattle.replay_check.specs.Sharing.{AreIdsOf}
use Rattle.replay_check.specs.Shown.{AreOwnPlaces}
use Rattle.replay_check.proofs.Following.{replay-from}
use Rattle.replay_check.proofs.replay.Goals as goal

pub follow-requires-clause-laid : goal.follow-requires-clause-laid
follow-requires-clause-laid c =
    subst₂ (λ (ids places : List ℕ). AreIdsOf (inner_words_of c.args.traces.now) ids places) (sym c.as_mut_slice.ensures.value) (sym c.as_slice-3.ensures.value) c.in_ok-ids.ensures.laid

pub follow-requires-clause-types_are : goal.follow-requires-clause-types_are
follow-requires-clause-types_are c = subst (λ (xs : List ℕ). AreOwnPlaces xs) (sym c.as_mut_slice-2.ensures.value) c.in_ok-id_types.ensures.places

pub returns : goal.returns
returns c =
    let log = typed_words c.args.model.now.kinds c.args.traces.now in
    let t = sym c.as_slice.ensures ∙ c.are_same.ensures.0 c.if-not-are_same.false ∙ c.as_slice-2.ensures ∙ c.types-types.ensures.value in
    IfOk-weaker c.follow.result _ _ (λ answer f. replay-from c.args.model.now log answer t f) c.follow.ensures
