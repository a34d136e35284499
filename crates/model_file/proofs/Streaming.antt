-- The tokens of a text, a value at a time.
use Rattle.std.proofs.Common.{◌≡◌, ℕ, zero, suc, ◌-◌, ◌<◌, ◌≢◌, List, [], ◌∷◌, length, Option, Some, None, option_map, Result, Ok, Err, refl, sym, ap, ◌∙◌, subst, arith, Bor}
use Rattle.std.specs.Prelude.{MatchResult}
use Rattle.json.specs.Token.{Token}
use Rattle.json.specs.Json as json
use Rattle.json.specs.Json.{Parse, parse_map, after_end_array, read_key, items, members, value}
use Rattle.json.specs.Reads.{token_of}
use Rattle.json.specs.declared.token.Token.{Token as Read}
use Rattle.json.specs.declared.token.Token.TheVariants as read
use Rattle.json.proofs.Grammar.{left-parse_map, left_some, value_is, value-begin_array, value-begin_object}
use Rattle.serde_json.specs.Data.{Num, Data, null, boolean, number, string, array, object, Items, item, Members, no_members}
use Rattle.serde_json.specs.Find.{as_str, as_array, as_object}
use Rattle.serde_json.specs.Read.{number_of, of_json, of_items, converted}
use Rattle.model_file.proofs.Grammar.{converted-array, converted-object, item_read}
use Rattle.model_file.specs.declared.stream.Stop.{Stop}
use Rattle.model_file.specs.Streams.{data_at, items_at, members_at, after, whole_in, whole_from, Answers}

-- ---- one value

pub nothing-left : (depth : ℕ) → data_at depth [] ≡ None
nothing-left depth = ap (converted of_json) (value_is depth [])

pub array-open : (depth : ℕ) (ts : List Token) → 0 < depth → data_at depth (Token.begin_array ∷ ts) ≡ parse_map array (items_at (length ts) (depth - 1) ts)
array-open depth ts h = ap (converted of_json) (value-begin_array depth ts h) ∙ converted-array (items (value (depth - 1)) (length ts) ts)

pub object-open : (depth : ℕ) (ts : List Token) → 0 < depth → data_at depth (Token.begin_object ∷ ts) ≡ parse_map object (members_at no_members (depth - 1) ts)
object-open depth ts h = ap (converted of_json) (value-begin_object depth ts h) ∙ converted-object (members (value (depth - 1)) (length ts) ts)

any-array : (depth : ℕ) (ts : List Token) → (o : Option (Items × List Token)) × (data_at depth (Token.begin_array ∷ ts) ≡ parse_map array o)
unfolding value
any-array zero ts = (None, refl)
any-array (suc d) ts = (items_at (length ts) (suc d - 1) ts, array-open (suc d) ts (omega arith))

any-object : (depth : ℕ) (ts : List Token) → (o : Option (Members × List Token)) × (data_at depth (Token.begin_object ∷ ts) ≡ parse_map object o)
unfolding value
any-object zero ts = (None, refl)
any-object (suc d) ts = (members_at no_members (suc d - 1) ts, object-open (suc d) ts (omega arith))

pub string-read : (depth : ℕ) (s : List ℕ) (ts : List Token) → parse_map as_str (data_at depth (Token.string s ∷ ts)) ≡ Some (Some s, ts)
string-read depth s ts = ap (parse_map as_str) (ap (converted of_json) (value_is depth (Token.string s ∷ ts)))

-- a number's text, where it is in range
number-by : (o : Option Num) (ts : List Token) (r : Result (Option ℕ) Stop) → r ≡ whole_from o → Answers r (parse_map whole_in (option_map (λ b. (b, ts)) (option_map number o))) ts
number-by None ts r e = subst (λ x. Answers x (parse_map whole_in (option_map (λ b. (b, ts)) (option_map number None))) ts) (sym e) refl
number-by (Some x) ts r e = subst (λ y. Answers y (parse_map whole_in (option_map (λ b. (b, ts)) (option_map number (Some x)))) ts) (sym e) refl

pub number-answers : (depth : ℕ) (s : List ℕ) (ts : List Token) (r : Result (Option ℕ) Stop) → r ≡ whole_from (number_of s) → Answers r (parse_map whole_in (data_at depth (Token.number s ∷ ts))) ts
number-answers depth s ts r e =
    let is : option_map (λ b. (b, ts)) (option_map number (number_of s)) ≡ data_at depth (Token.number s ∷ ts) = sym (ap (converted of_json) (value_is depth (Token.number s ∷ ts))) in
    subst (λ o. Answers r (parse_map whole_in o) ts) is (number-by (number_of s) ts r e)

-- where a reading under f is there, so is what it leaves, and where it is not, there is no value
pub after-read : {A : Type 0} (f : Data → A) (o : Option (Data × List Token)) (x : A) (r : List Token) → parse_map f o ≡ Some (x, r) → after o ≡ Some r
after-read f o x r e = sym (left-parse_map f o) ∙ ap after e

number-gone : (depth : ℕ) (s : List ℕ) (ts : List Token) (stop : Stop) (o : Option Num) → whole_from o ≡ Err stop → data_at depth (Token.number s ∷ ts) ≡ option_map (λ b. (b, ts)) (option_map number o) → data_at depth (Token.number s ∷ ts) ≡ None
number-gone depth s ts stop None e is = is
number-gone depth s ts stop (Some n) e is = absurd cc

pub number-refused : (depth : ℕ) (s : List ℕ) (ts : List Token) (stop : Stop) → whole_from (number_of s) ≡ Err stop → data_at depth (Token.number s ∷ ts) ≡ None
number-refused depth s ts stop e = number-gone depth s ts stop (number_of s) e (ap (converted of_json) (value_is depth (Token.number s ∷ ts)))

-- a value that is passed where its parts are
pub by-parts : {E X : Type 0} (g : X → Data) (r : Result (Unit {0}) E) (o : Option (X × List Token)) (whole : Option (Data × List Token)) (left : List Token) → whole ≡ parse_map g o
    → MatchResult r (λ x. after o ≡ Some left) (λ x. o ≡ None) → MatchResult r (λ x. after whole ≡ Some left) (λ x. whole ≡ None)
by-parts g (Ok x) o whole left is h = ap after is ∙ left-parse_map g o ∙ h
by-parts g (Err e) o whole left is h = is ∙ ap (parse_map g) h

-- an item is passed
pub pass-item : (p : Parse json.Json) (n : ℕ) (ts r : List Token) → 0 < n → after_end_array ts ≡ None → after (converted of_json (p ts)) ≡ Some r
    → after (converted of_items (items p n ts)) ≡ after (converted of_items (items p (n - 1) r))
pass-item p n ts r some going e = let d = left_some (converted of_json (p ts)) r e in ap after (item_read p n ts r d.0 some going d.1) ∙ left-parse_map (item d.0) _

-- ---- what kind of value a token begins

abbrev kind : Data → ℕ
kind null = 0
kind (boolean b) = 1
kind (number n) = 2
kind (string s) = 3
kind (array ds) = 4
kind (object ms) = 5

abbrev token_kind : Token → ℕ
token_kind Token.begin_object = 5
token_kind Token.end_object = 6
token_kind Token.begin_array = 4
token_kind Token.end_array = 6
token_kind (Token.key s) = 6
token_kind (Token.string s) = 3
token_kind (Token.number s) = 2
token_kind (Token.boolean b) = 1
token_kind Token.null = 0
token_kind Token.bad = 6

abbrev Fronts : ℕ → Token → List Token → List Token → Type 0
Fronts depth t ts r = (d : Data) × (data_at depth (t ∷ ts) ≡ Some (d, r)) × (kind d ≡ token_kind t)

abbrev pick : {A : Type 0} → A → Option A → A
pick d None = d
pick d (Some a) = a

made-by : {X : Type 0} (g : X → Data) (k : ℕ) → ((x : X) → kind (g x) ≡ k) → (o : Option (X × List Token)) (whole : Option (Data × List Token)) (r : List Token) → whole ≡ parse_map g o → after whole ≡ Some r
    → (d : Data) × (whole ≡ Some (d, r)) × (kind d ≡ k)
made-by g k same None whole r is e = absurd cc
made-by g k same (Some (x, s)) whole r is e =
    let d = left_some whole r e in
    let here : Some (g x, s) ≡ Some (d.0, r) = sym is ∙ d.1 in
    let inside : g x ≡ d.0 = ap (λ o. (pick {A = Data × List Token} (g x, s) o).0) here in
    (d.0, d.1, sym (ap kind inside) ∙ same x)

leaf : (depth : ℕ) (t : Token) (ts r : List Token) (d : Data) → data_at depth (t ∷ ts) ≡ Some (d, ts) → kind d ≡ token_kind t → after (data_at depth (t ∷ ts)) ≡ Some r → Fronts depth t ts r
leaf depth t ts r d is k e = let same : ts ≡ r = cc in (d, is ∙ ap (λ x. Some (d, x)) same, k)

number-kind : (depth : ℕ) (s : List ℕ) (ts r : List Token) (o : Option Num) → data_at depth (Token.number s ∷ ts) ≡ option_map (λ b. (b, ts)) (option_map number o) → after (data_at depth (Token.number s ∷ ts)) ≡ Some r → Fronts depth (Token.number s) ts r
number-kind depth s ts r None is e = absurd cc
number-kind depth s ts r (Some n) is e = leaf depth (Token.number s) ts r (number n) is refl e

pub front-kind : (depth : ℕ) (t : Token) (ts r : List Token) → after (data_at depth (t ∷ ts)) ≡ Some r → Fronts depth t ts r
front-kind depth Token.begin_object ts r e = let o = any-object depth ts in made-by object 5 (λ x. refl) o.0 _ r o.1 e
front-kind depth Token.end_object ts r e = let none : data_at depth (Token.end_object ∷ ts) ≡ None = ap (converted of_json) (value_is depth (Token.end_object ∷ ts)) in absurd cc
front-kind depth Token.begin_array ts r e = let o = any-array depth ts in made-by array 4 (λ x. refl) o.0 _ r o.1 e
front-kind depth Token.end_array ts r e = let none : data_at depth (Token.end_array ∷ ts) ≡ None = ap (converted of_json) (value_is depth (Token.end_array ∷ ts)) in absurd cc
front-kind depth (Token.key s) ts r e = let none : data_at depth (Token.key s ∷ ts) ≡ None = ap (converted of_json) (value_is depth (Token.key s ∷ ts)) in absurd cc
front-kind depth (Token.string s) ts r e = leaf depth (Token.string s) ts r (string s) (ap (converted of_json) (value_is depth (Token.string s ∷ ts))) refl e
front-kind depth (Token.number s) ts r e = number-kind depth s ts r (number_of s) (ap (converted of_json) (value_is depth (Token.number s ∷ ts))) e
front-kind depth (Token.boolean b) ts r e = leaf depth (Token.boolean b) ts r (boolean b) (ap (converted of_json) (value_is depth (Token.boolean b ∷ ts))) refl e
front-kind depth Token.null ts r e = leaf depth Token.null ts r null (ap (converted of_json) (value_is depth (Token.null ∷ ts))) refl e
front-kind depth Token.bad ts r e = let none : data_at depth (Token.bad ∷ ts) ≡ None = ap (converted of_json) (value_is depth (Token.bad ∷ ts)) in absurd cc

-- ---- a value that is of another kind than the one that is read

no-number : (t : Read) → ((s : Bor (List ℕ)) → t ≡ read.Number s → ⊥) → token_kind (token_of t) ≢ 2
no-number read.BeginObject not e = absurd (omega (arith, e))
no-number read.EndObject not e = absurd (omega (arith, e))
no-number read.BeginArray not e = absurd (omega (arith, e))
no-number read.EndArray not e = absurd (omega (arith, e))
no-number (read.Key s) not e = absurd (omega (arith, e))
no-number (read.String s) not e = absurd (omega (arith, e))
no-number (read.Number s) not e = not s refl
no-number (read.Bool b) not e = absurd (omega (arith, e))
no-number read.Null not e = absurd (omega (arith, e))
no-number read.Bad not e = absurd (omega (arith, e))

no-string : (t : Read) → ((s : Bor (List ℕ)) → t ≡ read.String s → ⊥) → token_kind (token_of t) ≢ 3
no-string read.BeginObject not e = absurd (omega (arith, e))
no-string read.EndObject not e = absurd (omega (arith, e))
no-string read.BeginArray not e = absurd (omega (arith, e))
no-string read.EndArray not e = absurd (omega (arith, e))
no-string (read.Key s) not e = absurd (omega (arith, e))
no-string (read.String s) not e = not s refl
no-string (read.Number s) not e = absurd (omega (arith, e))
no-string (read.Bool b) not e = absurd (omega (arith, e))
no-string read.Null not e = absurd (omega (arith, e))
no-string read.Bad not e = absurd (omega (arith, e))

no-array : (t : Read) → (t ≡ read.BeginArray → ⊥) → token_kind (token_of t) ≢ 4
no-array read.BeginObject not e = absurd (omega (arith, e))
no-array read.EndObject not e = absurd (omega (arith, e))
no-array read.BeginArray not e = not refl
no-array read.EndArray not e = absurd (omega (arith, e))
no-array (read.Key s) not e = absurd (omega (arith, e))
no-array (read.String s) not e = absurd (omega (arith, e))
no-array (read.Number s) not e = absurd (omega (arith, e))
no-array (read.Bool b) not e = absurd (omega (arith, e))
no-array read.Null not e = absurd (omega (arith, e))
no-array read.Bad not e = absurd (omega (arith, e))

no-object : (t : Read) → (t ≡ read.BeginObject → ⊥) → token_kind (token_of t) ≢ 5
no-object read.BeginObject not e = not refl
no-object read.EndObject not e = absurd (omega (arith, e))
no-object read.BeginArray not e = absurd (omega (arith, e))
no-object read.EndArray not e = absurd (omega (arith, e))
no-object (read.Key s) not e = absurd (omega (arith, e))
no-object (read.String s) not e = absurd (omega (arith, e))
no-object (read.Number s) not e = absurd (omega (arith, e))
no-object (read.Bool b) not e = absurd (omega (arith, e))
no-object read.Null not e = absurd (omega (arith, e))
no-object read.Bad not e = absurd (omega (arith, e))

no-whole : (d : Data) → kind d ≢ 2 → whole_in d ≡ None
no-whole null h = refl
no-whole (boolean b) h = refl
no-whole (number n) h = absurd (h refl)
no-whole (string s) h = refl
no-whole (array ds) h = refl
no-whole (object ms) h = refl

no-text : (d : Data) → kind d ≢ 3 → as_str d ≡ None
no-text null h = refl
no-text (boolean b) h = refl
no-text (number n) h = refl
no-text (string s) h = absurd (h refl)
no-text (array ds) h = refl
no-text (object ms) h = refl

no-items : (d : Data) → kind d ≢ 4 → as_array d ≡ None
no-items null h = refl
no-items (boolean b) h = refl
no-items (number n) h = refl
no-items (string s) h = refl
no-items (array ds) h = absurd (h refl)
no-items (object ms) h = refl

no-members : (d : Data) → kind d ≢ 5 → as_object d ≡ None
no-members null h = refl
no-members (boolean b) h = refl
no-members (number n) h = refl
no-members (string s) h = refl
no-members (array ds) h = refl
no-members (object ms) h = absurd (h refl)

module _ (depth : ℕ) (t : Read) (ts r : List Token) (passed : after (data_at depth (token_of t ∷ ts)) ≡ Some r) where
  pub other-than-number : ((s : Bor (List ℕ)) → t ≡ read.Number s → ⊥) → parse_map whole_in (data_at depth (token_of t ∷ ts)) ≡ Some (None, r)
  other-than-number not =
      let d = front-kind depth (token_of t) ts r passed in
      ap (parse_map whole_in) d.1 ∙ ap (λ x. Some (x, r)) (no-whole d.0 (λ e. no-number t not (sym d.2 ∙ e)))

  pub other-than-string : ((s : Bor (List ℕ)) → t ≡ read.String s → ⊥) → parse_map as_str (data_at depth (token_of t ∷ ts)) ≡ Some (None, r)
  other-than-string not =
      let d = front-kind depth (token_of t) ts r passed in
      ap (parse_map as_str) d.1 ∙ ap (λ x. Some (x, r)) (no-text d.0 (λ e. no-string t not (sym d.2 ∙ e)))

  pub other-than-array : (t ≡ read.BeginArray → ⊥) → (d : Data) × (data_at depth (token_of t ∷ ts) ≡ Some (d, r)) × (as_array d ≡ None)
  other-than-array not = let d = front-kind depth (token_of t) ts r passed in (d.0, d.1, no-items d.0 (λ e. no-array t not (sym d.2 ∙ e)))

  pub other-than-object : (t ≡ read.BeginObject → ⊥) → (d : Data) × (data_at depth (token_of t ∷ ts) ≡ Some (d, r)) × (as_object d ≡ None)
  other-than-object not = let d = front-kind depth (token_of t) ts r passed in (d.0, d.1, no-members d.0 (λ e. no-object t not (sym d.2 ∙ e)))
