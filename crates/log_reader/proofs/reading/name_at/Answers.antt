use Rattle.std.proofs.Common.{◌≡◌, ◌<◌, ◌≤◌, ℕ, zero, suc, List, [], ◌∷◌, length, map, get_or, slice_get, option_map, Some, refl, sym, ap, ◌∙◌, arith}
use Rattle.std.proofs.lemmas.List.{length-map}
use Rattle.std.proofs.lemmas.Option.{slice_get-map, slice_get_read}
use Rattle.std.specs.Prelude.{String}
use Rattle.std.specs.String.{string_bytes}
use Rattle.std.specs.declared.alloc.Global.{Global}
use Rattle.log_reader.specs.Views.{names_in}
use Rattle.log_reader.proofs.reading.name_at.Goals as goal

named : (names : List (String Global)) (number : ℕ) (name : String Global) → number < length names → name ≡ get_or names number name → slice_get (names_in names) number ≡ Some (string_bytes name)
named [] number name inside is = absurd (omega arith)
named (first ∷ names) number name inside is = slice_get-map string_bytes (first ∷ names) number ∙ ap (option_map string_bytes) (slice_get_read (first ∷ names) (length (first ∷ names)) number name refl inside is)

unnamed : (names : List (String Global)) (number : ℕ) → length names ≤ number → number < length (names_in names) → slice_get (names_in names) number ≡ Some []
unnamed [] zero few inside = refl
unnamed [] (suc number) few inside = absurd (omega arith)
unnamed (first ∷ names) number few inside = absurd (omega (arith, length-map (first ∷ names) string_bytes))

pub returns-in-Some : goal.returns-in-Some
returns-in-Some c =
    let lookup = c.in-Some.ensures.lookup in
    named c.args.names.now c.args.number c.in-Some.name.now lookup.3.0 lookup.1 ∙ ap (λ (bytes : List ℕ). Some bytes) (sym c.as_str.ensures.value)

pub returns-in-None : goal.returns-in-None
returns-in-None c = unnamed c.args.names.now c.args.number c.in-None.ensures.lookup.3 c.requires
