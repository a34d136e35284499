-- What a built pattern and a refusal of syntax say, in the words of this crate.
use Rattle.std.proofs.Common.{◌<◌, ◌^◌, ◌≡◌, ◌≢◌, ◌⊎◌, ℕ, List, Option, Some, None, chars, refl, sym, subst, inl, inr, ⊎_elim, arith, Result, Ok, Err}
use Rattle.std.specs.Prelude.{IsSomeAnd, IfSome, IfOk, IfErr}
use Rattle.regex.specs.Patterns.{default_config, Reads, Refuses}
use Rattle.regex.specs.Strings.{regex_pattern, regex_names, regex_source, regex_config, IsReadFromSource}
use Rattle.regex.specs.declared.string.regex.Regex.{Regex}
use Rattle.regex.specs.declared.error.Error.{Error}
use Rattle.regex.specs.declared.error.Error.TheVariants as error
use Rattle.regex.specs.Sources.{IsRefusal}
use Rattle.regex.specs.Failures.{IsRightKind}
use Rattle.regex_syntax.specs.Grammar.{read, Names}
use Rattle.regex_syntax.specs.declared.error.ErrorKind.{ErrorKind}
use Rattle.regex_syntax.specs.declared.error.ErrorKind.TheVariants as kind
use Rattle.line_rules.specs.Patterns.{IsReadAs, IsNoPattern, NestsTooDeep, BuildGives}
use Rattle.line_rules.specs.Listed.{IsPattern, RegexGives, Tells, regex_state}
use Rattle.line_rules.specs.declared.patterns.BuildFault.{BuildFault}
use Rattle.line_rules.specs.declared.patterns.BuildFault.TheVariants.{Syntax, TooLarge, Memory}

weaker : {A : Type 0} (o : Option A) (P Q : A → Type 0) → ((x : A) → P x → Q x) → IsSomeAnd o P → IsSomeAnd o Q
weaker None P Q f h = absurd h
weaker (Some x) P Q f h = f x h

-- a built pattern is read from its text
pub read-as : (text : List ℕ) (r : Regex) → regex_source r ≡ text → regex_config r ≡ default_config → IsReadFromSource r → IsReadAs text (regex_pattern r) (regex_names r)
unfolding Reads
read-as text r source config is =
    let reads : Reads default_config text r.pattern.program.hir (regex_names r) = rw (source, config) at is in
    weaker (read default_config (chars text)) _ _ (λ x h. (h.0, h.1, h.2)) reads

-- a text that is read is a pattern
pub is-pattern : (text : List ℕ) (hir : _) (names : Names) → Reads default_config text hir names → IsPattern text
unfolding Reads
is-pattern text hir names reads = weaker (read default_config (chars text)) _ _ (λ x h. h.0) reads

deep : {A : Type 0} (o : Option A) (P : A → Type 0) → IfSome o P → (o ≡ None) ⊎ IsSomeAnd o P
deep None P h = inl refl
deep (Some x) P h = inr h

-- why a text is refused
pub refused-as : (text : List ℕ) (k : ErrorKind) → Refuses default_config text k → k ≢ kind.OutOfMemory → IsNoPattern text ⊎ NestsTooDeep text
unfolding Refuses
refused-as text k refuses other =
    ⊎_elim (λ memory. absurd (other memory))
    (λ rest. ⊎_elim (λ none. inl none) (λ nests. deep (read default_config (chars text)) _ nests.1) rest) refuses

-- what is told of an answer of `regex` is what a build by it gives
pub regex-gives : (text : List ℕ) (old new : ℕ) (answer : Result Regex Error) (told : Result Regex BuildFault)
    → IfOk answer (λ r. regex_source r ≡ text) → IfOk answer (λ r. regex_config r ≡ default_config) → IfOk answer IsReadFromSource
    → IfErr answer (IsRefusal default_config text) → IfErr answer (IsRightKind default_config text)
    → Tells old answer told new → RegexGives old text told new
regex-gives text old new (Ok r) told source config is refusal kind tells =
    subst (λ (t : Result Regex BuildFault). RegexGives old text t new) (sym tells.0) (read-as text r source config is, tells.1)
regex-gives text old new (Err (error.Syntax e)) told source config is refusal kind tells =
    subst (λ (t : Result Regex BuildFault). RegexGives old text t new) (sym tells.0) (refused-as text e.kind (refusal e refl) kind, tells.1)
regex-gives text old new (Err error.OutOfMemory) told source config is refusal kind tells =
    subst (λ (t : Result Regex BuildFault). RegexGives old text t new) (sym tells.0) tells.1
regex-gives text old new (Err error.CompiledTooBig) told source config is refusal kind tells =
    subst (λ (t : Result Regex BuildFault). RegexGives old text t new) (sym tells.0) (is-pattern text kind.0 kind.1 kind.2, tells.1)
regex-gives text old new (Err error.Internal) told source config is refusal kind tells =
    subst (λ (t : Result Regex BuildFault). RegexGives old text t new) (sym tells.0) (is-pattern text kind.0 kind.1 kind.2, tells.1)

-- and so what each build gives
pub build-gives : (text : List ℕ) (old new : ℕ) (told : Result Regex BuildFault) → RegexGives old text told new → BuildGives (regex_state old) text told (regex_state new)
build-gives text old new (Ok r) gives = gives.0
build-gives text old new (Err Syntax) gives = gives.0
build-gives text old new (Err TooLarge) gives = (omega (arith, gives.1), refl)
build-gives text old new (Err Memory) gives = tt

-- and the count stays below the end of its type
pub stays-below : (old new : ℕ) (answer : Result Regex Error) (told : Result Regex BuildFault) → Tells old answer told new → old < 2 ^ 64 → new < 2 ^ 64
stays-below old new (Ok r) told tells below = omega (arith, tells.1)
stays-below old new (Err (error.Syntax e)) told tells below = omega (arith, tells.1)
stays-below old new (Err error.OutOfMemory) told tells below = omega (arith, tells.1)
stays-below old new (Err error.CompiledTooBig) told tells below = omega (arith, tells.1)
stays-below old new (Err error.Internal) told tells below = omega (arith, tells.1)
