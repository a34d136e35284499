-- A refusal stays one in whatever comes after, and what a call gave of the value is what it gives of the bytes.
use Rattle.std.proofs.Common.{◌≡◌, ℕ, ◌≤◌, List, length, Some, Result, Ok, Err, refl, sym, ap, subst, ◌∙◌, le-ltb, lt-ltb, ◌<◌}
use Rattle.std.specs.Prelude.{IfOk, IfErr}
use Rattle.serde_json.specs.Data.{Data}
use Rattle.model_file.specs.declared.version.Version.{Version}
use Rattle.model_file.specs.Versions.{max_bytes}
use Rattle.model_file.specs.declared.refusal.FileError.{FileError}
use Rattle.model_file.specs.declared.refusal.FileError.TheVariants.{TooLong, NotJson, Memory}
use Rattle.model_file.specs.Reading.{◌>>=◌, or_not_json, Fails, Gives, IsNoValue, model_in, value_of, reads_as}

-- where a step fails, so does what goes on from it
pub Fails-then : {A B : Type 0} (e : FileError) (r : Result A FileError) (f : A → Result B FileError) → Fails e r → Fails e (r >>= f)
Fails-then Memory r f h = tt
Fails-then _ r f h = ap (λ x. x >>= f) h

-- the refusal of a step, where what is read comes down to that step
pub Fails-at : {A B : Type 0} (e : FileError) (whole : Result B FileError) (r : Result A FileError) (f : A → Result B FileError) → whole ≡ (r >>= f) → Fails e r → Fails e whole
Fails-at e whole r f is h = subst (Fails e) (sym is) (Fails-then e r f h)

-- the same of a call that answers something else, with its refusal
pub fails-at : {A B C : Type 0} (e refusal : FileError) (answer : Result C FileError) (whole : Result B FileError) (r : Result A FileError) (f : A → Result B FileError)
    → answer ≡ Err refusal → refusal ≡ e → whole ≡ (r >>= f) → Fails e r → IfErr answer (λ x. Fails x whole)
fails-at e refusal answer whole r f failed same is h = subst (λ x. IfErr x (λ y. Fails y whole)) (sym (failed ∙ ap Err same)) (Fails-at e whole r f is h)

-- the same steps after the same answer
pub then-same : {A B : Type 0} (r s : Result A FileError) (f g : A → Result B FileError) → r ≡ s → ((x : A) → f x ≡ g x) → (r >>= f) ≡ (s >>= g)
then-same {A} {B} r s f g e h = ap (λ t. t >>= f) e ∙ steps s
  where
    steps : (t : Result A FileError) → (t >>= f) ≡ (t >>= g)
    steps (Ok x) = h x
    steps (Err e) = refl

-- an answer that is a model is what was to be read
pub Gives-ok : {A : Type 0} (r read : Result A FileError) → Gives r read → IfOk r (λ x. read ≡ Ok x)
Gives-ok (Ok x) read h = h
Gives-ok (Err e) read h = tt

-- an answer that is a refusal is that of what was to be read
pub Gives-err : {A : Type 0} (r read : Result A FileError) → Gives r read → IfErr r (λ e. Fails e read)
Gives-err (Ok x) read h = tt
Gives-err (Err e) read h = h

-- bytes that are not too long are read as a value, and this as a model
pub reads-short : (version : Version) (bytes : List ℕ) → length bytes ≤ max_bytes version → reads_as version bytes ≡ (or_not_json (value_of bytes) >>= model_in version)
unfolding reads_as
reads-short version bytes short = rw (le-ltb (max_bytes version) (length bytes) short) refl

-- bytes that are too long are refused as such
pub reads-long : (version : Version) (bytes : List ℕ) → max_bytes version < length bytes → reads_as version bytes ≡ Err TooLong
unfolding reads_as
reads-long version bytes long = rw (lt-ltb (max_bytes version) (length bytes) long) refl

-- bytes of a value are read as the model that the value is
pub reads-value : (version : Version) (bytes : List ℕ) (d : Data) → length bytes ≤ max_bytes version → value_of bytes ≡ Some d → reads_as version bytes ≡ model_in version d
reads-value version bytes d short is = reads-short version bytes short ∙ ap (λ o. or_not_json o >>= model_in version) is

-- where the bytes give no value, the reading fails for the same cause
pub no-value : (version : Version) (e : FileError) (bytes : List ℕ) → length bytes ≤ max_bytes version → IsNoValue e (value_of bytes) → Fails e (reads_as version bytes)
no-value version NotJson bytes short h = reads-short version bytes short ∙ ap (λ o. or_not_json o >>= model_in version) h
no-value version Memory bytes short h = tt
no-value version _ bytes short h = absurd h
