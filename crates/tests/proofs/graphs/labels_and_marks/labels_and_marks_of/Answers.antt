use Rattle.std.proofs.Common.{◌≡◌, List, Some, slice_get, slice_index_or, subst}
use Rattle.std.proofs.lemmas.Option.{slice_get-get_or}
use Rattle.invariants.specs.declared.Invariant.{Invariant}
use Rattle.tests.proofs.graphs.labels_and_marks.labels_and_marks_of.Goals as goal

pub make-requires-2-clause-named : goal.make-requires-2-clause-named
make-requires-2-clause-named c = λ k d inside.
    c.in_ok-invs.ensures.named k _
    (subst (λ (xs : List Invariant). slice_get xs k ≡ Some (slice_index_or c.deref-2.result.now k d)) c.deref-2.ensures.value (slice_get-get_or c.deref-2.result.now k d inside))
