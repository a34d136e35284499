-- What bytes are read as: a well-shaped model, and one answer.
use Rattle.std.proofs.Common.{◌≡◌, ◌⊎◌, List, [], ◌∷◌, Result, Ok, Err, refl, sym, ◌∙◌, inl, inr, ⊎_elim}
use Rattle.invariants.specs.declared.records.Model.{Model}
use Rattle.limits.specs.declared.TheConstants.{INITIAL, TERMINAL}
use Rattle.model_shape.specs.Shapes.{end_of}
use Rattle.model_file.specs.Laws.{ReadIsWellShaped}
use Rattle.model_file.specs.Reading.{Gives, reads}
use Rattle.model_file.specs.Tree.{file_text}
use Rattle.model_file.specs.declared.refusal.FileError.{FileError}
use Rattle.model_file.specs.declared.refusal.FileError.TheVariants as refused
use Rattle.model_reader.specs.Laws.{AnswersAreOne, EmptyIsNotRead, UnshapedAreNotRead, empty_model}

-- no bytes are read as a model that is not well shaped
pub unshaped-are-not-read : ReadIsWellShaped → UnshapedAreNotRead
unshaped-are-not-read shaped bytes m not read = not (shaped bytes m read)

no-first : {X : Type 0} (x : X) (xs : List X) → [] ≡ x ∷ xs → ⊥
no-first x xs is = cc

-- the empty model is not well shaped
pub empty-is-not-read : ReadIsWellShaped → EmptyIsNotRead
empty-is-not-read shaped read =
    let parts = (shaped (file_text empty_model) empty_model read).partitions in
    no-first (end_of INITIAL parts.traces) (end_of TERMINAL parts.traces ∷ parts.inner) parts.ends

-- an answer is the reading, or out of memory
told : (a r : Result Model FileError) → Gives a r → (a ≡ Err refused.Memory) ⊎ (r ≡ a)
told (Ok m) r gives = inr gives
told (Err refused.Memory) r gives = inl refl
told (Err refused.TooLong) r gives = inr gives
told (Err refused.NotJson) r gives = inr gives
told (Err (refused.Shape field)) r gives = inr gives
told (Err (refused.Version n)) r gives = inr gives

-- the bytes have one answer
pub answers-are-one : AnswersAreOne
answers-are-one bytes a b some other p q = ⊎_elim
    (λ memory. absurd (some memory))
    (λ first. ⊎_elim
    (λ memory. absurd (other memory))
    (λ second. sym first ∙ second)
    (told b (reads bytes) q))
    (told a (reads bytes) p)
