-- Lists and rows that are read an item at a time.
use Rattle.std.proofs.Common.{◌≡◌, ℕ, ◌-◌, ◌<◌, ◌≤◌, List, [], ◌∷◌, ◌++◌, length, Bool, Option, Some, None, option_map, Result, refl, sym, ap, ap₂, ◌∙◌, subst, arith, append-nil, append_assoc}
use Rattle.json.specs.Token.{Token}
use Rattle.json.specs.Json.{parse_map, after_end_array, value}
use Rattle.json.proofs.Grammar.{left_some}
use Rattle.serde_json.specs.Data.{Data, array, Items, item}
use Rattle.serde_json.specs.Find.{as_array}
use Rattle.model_file.specs.Entries.{◌>>=◌, each, list_in}
use Rattle.model_file.specs.Lists.{no_fields, one_more, both, added, kept_after, kept, kept_each, kept_in, never_over}
use Rattle.model_file.specs.declared.stream.Stop.{Stop}
use Rattle.model_file.specs.declared.stream.Stop.TheVariants.{NotJson, Memory}
use Rattle.model_file.specs.Streams.{data_at, items_at, after, IsStopped, Answers}
use Rattle.model_file.proofs.Grammar.{item_read, item_refused, items_over}

-- ---- readings under a map

abbrev pick : {A : Type 0} → A → Option A → A
pick d None = d
pick d (Some a) = a

-- what is read under f is what f gives of what is read
pub read-some : {D A : Type 0} (f : D → A) (o : Option (D × List Token)) (x : A) (r : List Token) → parse_map f o ≡ Some (x, r) → (d : D) × (o ≡ Some (d, r)) × (f d ≡ x)
read-some f None x r e = absurd cc
read-some f (Some (d, s)) x r e =
    let same : (f d, s) ≡ (x, r) = ap (pick (x, r)) e in
    (d, ap (λ t. Some (d, t)) (ap (λ p. p.1) same), ap (λ p. p.0) same)

-- what comes of another reading that stopped
pub stopped-by : {D E A B : Type 0} (f : D → A) (o : Option (D × List Token)) (g : E → B) (q : Option (E × List Token)) (e : Stop) → (o ≡ None → q ≡ None) → IsStopped e (parse_map f o) → IsStopped e (parse_map g q)
stopped-by f None g q NotJson h stopped = ap (parse_map g) (h refl)
stopped-by f (Some p) g q NotJson h stopped = absurd cc
stopped-by f o g q Memory h stopped = tt

-- ---- rows

module _ {A R : Type 0} (f : Data → Option A) (g : Items → Option R) (depth n : ℕ) (ts : List Token) (some : length ts ≤ n) (going : after_end_array ts ≡ None) where
  pub first-stopped : (e : Stop) → IsStopped e (parse_map f (data_at depth ts)) → IsStopped e (parse_map (one_more f g) (items_at n depth ts))
  first-stopped e h = stopped-by f (data_at depth ts) (one_more f g) (items_at n depth ts) e (item_refused (value depth) n ts going) h

  module _ (r : List Token) (less : length r < length ts) (x : Option A) (first : parse_map f (data_at depth ts) ≡ Some (x, r)) where
    one-item : (d : Data) × (items_at n depth ts ≡ parse_map (item d) (items_at (n - 1) depth r)) × (f d ≡ x)
    one-item = let d = read-some f (data_at depth ts) x r first in (d.0, item_read (value depth) n ts r d.0 (omega (arith, some, less)) going d.1, d.2)

    refused-after : items_at (n - 1) depth r ≡ None → items_at n depth ts ≡ None
    refused-after e = let d = one-item in d.1 ∙ ap (parse_map (item d.0)) e

    pub others-stopped : (e : Stop) → ((m : ℕ) → length r ≤ m → IsStopped e (parse_map g (items_at m depth r))) → IsStopped e (parse_map (one_more f g) (items_at n depth ts))
    others-stopped e h = stopped-by g (items_at (n - 1) depth r) (one_more f g) (items_at n depth ts) e refused-after (h (n - 1) (omega (arith, some, less)))

    pub row-read : (y : Option R) (s : List Token) (whole : Option (A × R)) → whole ≡ both x y → ((m : ℕ) → length r ≤ m → parse_map g (items_at m depth r) ≡ Some (y, s)) → parse_map (one_more f g) (items_at n depth ts) ≡ Some (whole, s)
    row-read y s whole is h =
        let d = one-item in
        let ds = read-some g (items_at (n - 1) depth r) y s (h (n - 1) (omega (arith, some, less))) in
        ap (parse_map (one_more f g)) (d.1 ∙ ap (parse_map (item d.0)) ds.1) ∙ ap (λ w. Some (w, s)) (ap₂ both d.2 ds.2 ∙ sym is)

module _ (depth n : ℕ) (ts r : List Token) (some : length ts ≤ n) (less : length r < length ts) (going : after_end_array ts ≡ None) (passed : after (data_at depth ts) ≡ Some r) where
  passed-item : (d : Data) × (items_at n depth ts ≡ parse_map (item d) (items_at (n - 1) depth r))
  passed-item = let d = left_some (data_at depth ts) r passed in (d.0, item_read (value depth) n ts r d.0 (omega (arith, some, less)) going d.1)

  -- a row that goes on where it should end
  pub too-many : (s : List Token) → ((m : ℕ) → length r ≤ m → after (items_at m depth r) ≡ Some s) → parse_map no_fields (items_at n depth ts) ≡ Some (None, s)
  too-many s h =
      let d = passed-item in
      let ds = left_some (items_at (n - 1) depth r) s (h (n - 1) (omega (arith, some, less))) in
      ap (parse_map no_fields) (d.1 ∙ ap (parse_map (item d.0)) ds.1)

  pub too-many-stopped : ((m : ℕ) → length r ≤ m → items_at m depth r ≡ None) → parse_map no_fields (items_at n depth ts) ≡ None
  too-many-stopped h = let d = passed-item in ap (parse_map no_fields) (d.1 ∙ ap (parse_map (item d.0)) (h (n - 1) (omega (arith, some, less))))

-- ---- lists

-- what was read before, and what is still to be read
abbrev pub joined : {A : Type 0} → (List A → Bool) → Option (List A) → Option (List A) → Option (List A)
joined over front rest = front >>= λ xs. rest >>= λ ys. Some (kept_after over xs ys)

joined-first : {A : Type 0} (over : List A → Bool) (rest : Option (List A)) → option_map (kept over) rest ≡ joined over (Some []) rest
joined-first over None = refl
joined-first over (Some ys) = refl

joined-last : {A : Type 0} (over : List A → Bool) (front : Option (List A)) → joined over front (Some []) ≡ front
joined-last over None = refl
joined-last over (Some xs) = refl

joined-next : {A : Type 0} (over : List A → Bool) (front : Option (List A)) (x : Option A) (rest : Option (List A)) → joined over front (x >>= λ a. rest >>= λ ys. Some (a ∷ ys)) ≡ joined over (added over front x) rest
joined-next over None x rest = refl
joined-next over (Some xs) None rest = refl
joined-next over (Some xs) (Some a) None = refl
joined-next over (Some xs) (Some a) (Some ys) = refl

-- a list that is never over is kept whole
kept-all : {A : Type 0} (front xs : List A) → kept_after never_over front xs ≡ front ++ xs
kept-all front [] = sym (append-nil front)
kept-all front (x ∷ xs) = kept-all (front ++ x ∷ []) xs ∙ append_assoc front (x ∷ []) xs

pub kept-whole : {A : Type 0} (o : Option (List A)) → option_map (kept never_over) o ≡ o
kept-whole None = refl
kept-whole (Some xs) = ap Some (kept-all [] xs)

-- a reading of a list that is kept whole
pub whole-list : {A : Type 0} (f : Data → Option A) (o : Option (Data × List Token)) → parse_map (kept_in never_over f) o ≡ parse_map (list_in f) o
whole-list f None = refl
whole-list f (Some p) = ap (λ x. Some (x, p.1)) (kept-whole (list_in f p.0))

module _ {A : Type 0} (over : List A → Bool) (f : Data → Option A) where
  pub list-begins : (o : Option (Items × List Token)) (front : Option (List A)) → front ≡ Some [] → parse_map (kept_each over f) o ≡ parse_map (λ ds. joined over front (each f ds)) o
  list-begins None front is = refl
  list-begins (Some p) front is = ap (λ x. Some (x, p.1)) (joined-first over (each f p.0) ∙ ap (λ b. joined over b (each f p.0)) (sym is))

  inside : (d : Data) (front : Option (List A)) (o : Option (Items × List Token)) → parse_map (λ ds. joined over front (each f ds)) (parse_map (item d) o) ≡ parse_map (λ ds. joined over (added over front (f d)) (each f ds)) o
  inside d front None = refl
  inside d front (Some p) = ap (λ x. Some (x, p.1)) (joined-next over front (f d) (each f p.0))

  module _ (depth n : ℕ) (ts : List Token) (some : length ts ≤ n) (front : Option (List A)) where
    pub list-goes-on : (r : List Token) (x : Option A) (next : Option (List A)) → length r < length ts → after_end_array ts ≡ None → parse_map f (data_at depth ts) ≡ Some (x, r) → next ≡ added over front x
        → parse_map (λ ds. joined over front (each f ds)) (items_at n depth ts) ≡ parse_map (λ ds. joined over next (each f ds)) (items_at (n - 1) depth r)
    list-goes-on r x next less going first is =
        let d = read-some f (data_at depth ts) x r first in
        ap (parse_map (λ ds. joined over front (each f ds))) (item_read (value depth) n ts r d.0 (omega (arith, some, less)) going d.1) ∙ inside d.0 front (items_at (n - 1) depth r)
        ∙ ap (λ b. parse_map (λ ds. joined over b (each f ds)) (items_at (n - 1) depth r)) (ap (added over front) d.2 ∙ sym is)

    pub list-ends : (r : List Token) (all : Option (List A)) → after_end_array ts ≡ Some r → all ≡ front → parse_map (λ ds. joined over front (each f ds)) (items_at n depth ts) ≡ Some (all, r)
    list-ends r all end is = ap (parse_map (λ ds. joined over front (each f ds))) (items_over (value depth) n ts r some end) ∙ ap (λ x. Some (x, r)) (joined-last over front ∙ sym is)

    pub list-stopped : (e : Stop) (whole : Option (Option (List A) × List Token)) → after_end_array ts ≡ None → IsStopped e (parse_map f (data_at depth ts)) → whole ≡ parse_map (λ ds. joined over front (each f ds)) (items_at n depth ts) → IsStopped e whole
    list-stopped e whole going h is = subst (IsStopped e) (sym is) (stopped-by f (data_at depth ts) (λ ds. joined over front (each f ds)) (items_at n depth ts) e (item_refused (value depth) n ts going) h)

  in-array : (o : Option (Items × List Token)) → parse_map (kept_each over f) o ≡ parse_map (kept_in over f) (parse_map array o)
  unfolding list_in
  in-array None = refl
  in-array (Some p) = refl

  pub list-inside : (r : Result (Option (List A)) Stop) (o : Option (Items × List Token)) (whole : Option (Data × List Token)) (left : List Token) → whole ≡ parse_map array o → Answers r (parse_map (kept_each over f) o) left → Answers r (parse_map (kept_in over f) whole) left
  list-inside r o whole left is h = subst (λ w. Answers r w left) (in-array o ∙ ap (parse_map (kept_in over f)) (sym is)) h

  pub no-list : (whole : Option (Data × List Token)) (d : Data) (left : List Token) → whole ≡ Some (d, left) → as_array d ≡ None → parse_map (kept_in over f) whole ≡ Some (None, left)
  unfolding list_in
  no-list whole d left is none = ap (parse_map (kept_in over f)) is ∙ ap (λ o. Some (option_map (kept over) (o >>= each f), left)) none
