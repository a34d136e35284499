use Rattle.std.proofs.Common.{◌≡◌, ℕ, List, sym, ◌∙◌, ap, refl, false, Some, slice_get}
use Rattle.std.proofs.lemmas.Option.{slice_get_read, slice_get_past}
use Rattle.std.specs.Option.{option_map_or}
use Rattle.std.specs.Str.{bytes_eq}
use Rattle.trace_builder.proofs.PlaceMaps.{inside, outside}
use Rattle.trace_builder.proofs.slots.is_text_at.Goals as goal

pub returns-in-Some : goal.returns-in-Some
returns-in-Some c =
    let texts : List (List ℕ) = c.args.texts.now in
    let stands : slice_get texts c.args.place ≡ Some c.in-Some.known.now =
    slice_get_read texts _ c.args.place c.in-Some.known.now refl (inside _ _ c.in-Some.ensures.lookup.0) c.in-Some.ensures.lookup.1 in
    c.eq.ensures ∙ (ap (bytes_eq c.args.text.now) c.as_str.ensures ∙ sym (ap (λ found. option_map_or (bytes_eq c.args.text.now) found false) stands))

pub returns-in-None : goal.returns-in-None
returns-in-None c =
    let texts : List (List ℕ) = c.args.texts.now in
    sym (ap (λ found. option_map_or (bytes_eq c.args.text.now) found false) (slice_get_past texts c.args.place (outside _ _ c.in-None.ensures.lookup.0)))
