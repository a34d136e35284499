use Rattle.std.proofs.Common.{◌≡◌, Bool, true, false, cond, Option, None, refl, sym, ap, ◌∙◌}
use Rattle.std.specs.Str.{is_utf8}
use Rattle.std.proofs.lemmas.Str.{IsUtf8-from_is_utf8, is_utf8-from_IsUtf8}
use Rattle.serde_json.specs.Data.{Data}
use Rattle.serde_json.specs.Read.{read}
use Rattle.model_file.specs.Reading.{value_of}
use Rattle.model_file.proofs.found.read_found.Goals as goal

none-by : (b : Bool) (o : Option Data) → (b ≡ true → o ≡ None) → cond b o None ≡ None
none-by true o h = h refl
none-by false o h = refl

pub returns-in_default-clause-err : goal.returns-in_default-clause-err
unfolding value_of
returns-in_default-clause-err c = none-by (is_utf8 c.args.bytes.now) (read c.args.bytes.now) (λ e. absurd (c.in_default.ensures (IsUtf8-from_is_utf8 c.args.bytes.now e)))

pub returns-in-Ok-read_whole-clause-ok : goal.returns-in-Ok-read_whole-clause-ok
unfolding value_of
returns-in-Ok-read_whole-clause-ok c =
    let e = c.in-Ok-read_whole.ensures.ok in
    (e.0, rw (is_utf8-from_IsUtf8 c.args.bytes.now c.in-Ok.ensures.1) (ap read (sym c.in-Ok.ensures.0) ∙ e.1), e.2)

pub returns-in-Err-NotJson-clause-err : goal.returns-in-Err-NotJson-clause-err
unfolding value_of
returns-in-Err-NotJson-clause-err c =
    let none : read c.in-Ok.text.now ≡ None = rw c.in-Err-NotJson.field-0-is at c.in-Err-NotJson.ensures.err in
    none-by (is_utf8 c.args.bytes.now) (read c.args.bytes.now) (λ e. ap read (sym c.in-Ok.ensures.0) ∙ none)
