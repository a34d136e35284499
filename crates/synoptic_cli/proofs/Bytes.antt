-- What holds of the bytes of stages, where files are told and where they are not.
use Rattle.std.proofs.Common.{◌≡◌, ℕ, ◌+◌, List, [], ◌∷◌, ◌++◌, length, Option, Some, None, Result, Ok, Err, refl, sym, ap, ◌∙◌, subst, arith}
use Rattle.outside.specs.Inputs.{Files}
use Rattle.log_reader.specs.Inputs.{SomeContents, told_contents, with_content}
use Rattle.synoptic_cli.specs.Task.{Stage, stage_names, input_count}
use Rattle.synoptic_cli.specs.Stages.{SoFar, Stop, Filled, stage_reads, after, and_then, reads}
use Rattle.synoptic_cli.specs.Endings.{IsTold, SomeBytes, told_stages}

-- what follows from that which holds of the bytes of named inputs holds of them too
pub contents-map : (files : Option Files) (names : List (List ℕ)) (P Q : List (List ℕ) → Type 0) → ((contents : List (List ℕ)) → P contents → Q contents)
    → SomeContents files names P → SomeContents files names Q
contents-map None names P Q step some = (some.0, some.1, step some.0 some.2)
contents-map (Some fs) names P Q step some = step (told_contents fs names) some

-- what holds of the bytes of a file holds of those of the one input with its name
pub contents-one : (files : Option Files) (name bytes : List ℕ) (P : List (List ℕ) → Type 0) → IsTold files name bytes → P (bytes ∷ []) → SomeContents files (name ∷ []) P
contents-one None name bytes P told here = (bytes ∷ [], omega arith, here)
contents-one (Some fs) name bytes P told here = subst (λ (o : Option (List ℕ)). P (with_content o [])) (sym told) here

-- what follows from that which holds of the bytes of stages holds of them too
pub bytes-map : (files : Option Files) (stages : List Stage) (P Q : List Filled → Type 0) → ((filled : List Filled) → P filled → Q filled)
    → SomeBytes files stages P → SomeBytes files stages Q
bytes-map files [] P Q step some = step [] some
bytes-map files (stage ∷ stages) P Q step some =
    contents-map files (stage_names stage) (λ contents. SomeBytes files stages (λ rest. P ((stage, contents) ∷ rest))) (λ contents. SomeBytes files stages (λ rest. Q ((stage, contents) ∷ rest)))
    (λ contents. bytes-map files stages (λ rest. P ((stage, contents) ∷ rest)) (λ rest. Q ((stage, contents) ∷ rest)) (λ rest. step ((stage, contents) ∷ rest))) some

-- what holds of the bytes of first stages and of those of the stages after them gives what holds of all
pub bytes-both : (files : Option Files) (first second : List Stage) (P Q R : List Filled → Type 0) → ((f s : List Filled) → P f → Q s → R (f ++ s))
    → SomeBytes files first P → SomeBytes files second Q → SomeBytes files (first ++ second) R
bytes-both files [] second P Q R step p q = bytes-map files second Q R (λ s. step [] s p) q
bytes-both files (stage ∷ first) second P Q R step p q =
    contents-map files (stage_names stage) (λ contents. SomeBytes files first (λ rest. P ((stage, contents) ∷ rest))) (λ contents. SomeBytes files (first ++ second) (λ rest. R ((stage, contents) ∷ rest)))
    (λ contents here. bytes-both files first second (λ rest. P ((stage, contents) ∷ rest)) Q (λ rest. R ((stage, contents) ∷ rest)) (λ f s. step ((stage, contents) ∷ f) s) here q) p

-- what holds of any bytes holds of some
contents-any : (files : Option Files) (names : List (List ℕ)) (P : List (List ℕ) → Type 0) → ((contents : List (List ℕ)) → P contents) → SomeContents files names P
contents-any None names P any = ([], omega arith, any [])
contents-any (Some fs) names P any = any (told_contents fs names)

bytes-any : (files : Option Files) (stages : List Stage) (P : List Filled → Type 0) → ((filled : List Filled) → P filled) → SomeBytes files stages P
bytes-any files [] P any = any []
bytes-any files (stage ∷ stages) P any =
    contents-any files (stage_names stage) (λ contents. SomeBytes files stages (λ rest. P ((stage, contents) ∷ rest)))
    (λ contents. bytes-any files stages (λ rest. P ((stage, contents) ∷ rest)) (λ rest. any ((stage, contents) ∷ rest)))

-- what holds of the bytes of first stages gives what holds of all, whatever the bytes of those after them
pub bytes-first : (files : Option Files) (first second : List Stage) (P R : List Filled → Type 0) → ((f s : List Filled) → P f → R (f ++ s)) → SomeBytes files first P
    → SomeBytes files (first ++ second) R
bytes-first files first second P R step p = bytes-both files first second P (λ s. Unit {0}) R (λ f s here any. step f s here) p (bytes-any files second (λ s. Unit {0}) (λ s. tt))

-- where files are told, what holds of the bytes holds of those that are told
pub bytes-told : (files : Files) (stages : List Stage) (P : List Filled → Type 0) → SomeBytes (Some files) stages P → P (told_stages files stages)
bytes-told files [] P some = some
bytes-told files (stage ∷ stages) P some = bytes-told files stages (λ rest. P ((stage, told_contents files (stage_names stage)) ∷ rest)) some

-- how many inputs stages have, where they stand with their bytes
abbrev pub filled_count : List Filled → ℕ
filled_count [] = 0
filled_count (filled ∷ rest) = length (stage_names filled.0) + filled_count rest

-- stages with their bytes have as many inputs as the stages alone
pub bytes-count : (files : Option Files) (stages : List Stage) (P : List Filled → Type 0) → SomeBytes files stages P
    → SomeBytes files stages (λ filled. (filled_count filled ≡ input_count stages) × P filled)
bytes-count files [] P some = (refl, some)
bytes-count files (stage ∷ stages) P some =
    contents-map files (stage_names stage) (λ contents. SomeBytes files stages (λ rest. P ((stage, contents) ∷ rest)))
    (λ contents. SomeBytes files stages (λ rest. (length (stage_names stage) + filled_count rest ≡ length (stage_names stage) + input_count stages) × P ((stage, contents) ∷ rest)))
    (λ contents here.
    bytes-map files stages (λ rest. (filled_count rest ≡ input_count stages) × P ((stage, contents) ∷ rest))
    (λ rest. (length (stage_names stage) + filled_count rest ≡ length (stage_names stage) + input_count stages) × P ((stage, contents) ∷ rest))
    (λ rest p. (ap (λ n. length (stage_names stage) + n) p.0, p.1)) (bytes-count files stages (λ rest. P ((stage, contents) ∷ rest)) here)) some

-- first stages and those after them have the inputs of both
pub input_count-append : (first second : List Stage) → input_count (first ++ second) ≡ input_count first + input_count second
input_count-append [] second = omega arith
input_count-append (stage ∷ first) second = omega (arith, input_count-append first second)

-- ---- what stages read, one after another

-- a stop after so many inputs more
abbrev pub later : ℕ → Stop → Stop
later count stop = record { status = stop.status; count = count + stop.count }

same-stop : (stop : Stop) (count : ℕ) → count ≡ stop.count → ◌≡◌ {A = Stop} (record { status = stop.status; count = count }) stop
same-stop stop count is = ap (λ (n : ℕ). let s : Stop = record { status = stop.status; count = n } in s) is

after-zero : (r : Result SoFar Stop) → after 0 r ≡ r
after-zero (Ok s) = refl
after-zero (Err stop) = ap (λ (s : Stop). Err s) (same-stop stop (0 + stop.count) (omega arith))

after-after : (a b : ℕ) (r : Result SoFar Stop) → after a (after b r) ≡ after (a + b) r
after-after a b (Ok s) = refl
after-after a b (Err stop) = ap (λ (s : Stop). Err s) (same-stop (later (a + b) stop) (a + (b + stop.count)) (omega arith))

-- a reading that does not stop after more inputs reads the same without them
pub after-ok : (n : ℕ) (r : Result SoFar Stop) (s : SoFar) → after n r ≡ Ok s → r ≡ Ok s
after-ok n (Ok t) s is = is
after-ok n (Err stop) s is = cc

then-more : (r : Result SoFar Stop) (n count : ℕ) (f g : SoFar → Result SoFar Stop) (last : Result SoFar Stop) (s : SoFar) → ((t : SoFar) → f t ≡ Ok s → g t ≡ after count last)
    → and_then r n f ≡ Ok s → and_then r n g ≡ after (n + count) last
then-more (Err stop) n count f g last s step is = cc
then-more (Ok t) n count f g last s step is = ap (after n) (step t (after-ok n (f t) s is)) ∙ after-after n count last

-- what comes after stages that do not stop
pub reads-append : (f g : List Filled) (a b : SoFar) → reads a f ≡ Ok b → reads a (f ++ g) ≡ after (filled_count f) (reads b g)
reads-append [] g a b is = let same : a ≡ b = cc in ap (λ (s : SoFar). reads s g) same ∙ sym (after-zero (reads b g))
reads-append (x ∷ f) g a b is =
    then-more (stage_reads x.0 a x.1) (length (stage_names x.0)) (filled_count f) (λ t. reads t f) (λ t. reads t (f ++ g)) (reads b g) b (λ t. reads-append f g t b) is

after-err : (n : ℕ) (r : Result SoFar Stop) (stop : Stop) → after n r ≡ Err stop → (s : Stop) × (r ≡ Err s)
after-err n (Ok t) stop is = cc
after-err n (Err s) stop is = (s, refl)

then-stop : (r : Result SoFar Stop) (n : ℕ) (f g : SoFar → Result SoFar Stop) (stop : Stop) → ((t : SoFar) (s : Stop) → f t ≡ Err s → g t ≡ Err s) → and_then r n f ≡ Err stop → and_then r n g ≡ Err stop
then-stop (Err s) n f g stop step is = is
then-stop (Ok t) n f g stop step is =
    let inner = after-err n (f t) stop is in
    ap (after n) (step t inner.0 inner.1 ∙ sym inner.1) ∙ is

-- what stages stop at is what they and more stop at
pub reads-stop : (f g : List Filled) (a : SoFar) (stop : Stop) → reads a f ≡ Err stop → reads a (f ++ g) ≡ Err stop
reads-stop [] g a stop is = cc
reads-stop (x ∷ f) g a stop is =
    then-stop (stage_reads x.0 a x.1) (length (stage_names x.0)) (λ t. reads t f) (λ t. reads t (f ++ g)) stop (λ t s. reads-stop f g t s) is
