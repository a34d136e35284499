-- The text of a model is UTF-8, and is read back as the value of the model.
use Rattle.std.proofs.Common.{◌≡◌, ℕ, ◌+◌, ◌^◌, ◌<◌, ◌≤◌, Bool, true, false, [], ◌∷◌, ◌++◌, decimal, IsUtf8, Some, option_and_then, refl, sym, ap, ◌∙◌, arith, append-nil, lt-ltb, ◌%◌}
use Rattle.std.specs.Prelude.{⊤}
use Rattle.std.proofs.lemmas.Str.{IsUtf8-append, IsUtf8-nil}
use Rattle.std.proofs.lemmas.Fmt.{decimal_by_steps}
use Rattle.json.specs.Lex.{tokens}
use Rattle.json.specs.Json as json
use Rattle.json.specs.Tree as tree
use Rattle.json.proofs.Printed.Tokens.{tokens-print}
use Rattle.json.proofs.Printed.Trees.{value-json_tokens, ArePrintable-json_tokens}
use Rattle.json.proofs.Printed.Decimals.{IsNumber-decimal}
use Rattle.json.proofs.Printed.Utf8.{IsUtf8-are_ascii, IsUtf8-quoted}
use Rattle.serde_json.specs.Data.{Num, unsigned, negative, float, Data, null, boolean, number, string, array, object, Items, no_items, item}
use Rattle.serde_json.specs.Read.{of_json, of_items, read, max_depth}
use Rattle.serde_json.specs.Written.{outline, items_outline, comma_if, compact_text, items_text}
use Rattle.serde_json.proofs.Numbers.{number_of-decimal}
use Rattle.serde_json.proofs.Texts.{print-outline}

abbrev IsSmallNumber : Num → Type 0
IsSmallNumber (unsigned n) = n < 2 ^ 64
IsSmallNumber (negative z) = ⊥
IsSmallNumber (float x) = ⊥

abbrev mutual
  -- a number that fits 64 bits, a text, or an array of such values
  pub IsPlain : Data → Type 0
  IsPlain null = ⊥
  IsPlain (boolean b) = ⊥
  IsPlain (number n) = IsSmallNumber n
  IsPlain (string s) = ⊤
  IsPlain (array ds) = ArePlain ds
  IsPlain (object ms) = ⊥

  -- each of these items is such a value
  pub ArePlain : Items → Type 0
  ArePlain no_items = ⊤
  ArePlain (item d ds) = IsPlain d × ArePlain ds

mutual
  -- such a value is read back from its outline
  pub plain-back : (d : Data) → IsPlain d → of_json (outline d) ≡ Some d
  plain-back null h = absurd h
  plain-back (boolean b) h = absurd h
  plain-back (number (unsigned n)) h = rw (number_of-decimal n h) refl
  plain-back (number (negative z)) h = absurd h
  plain-back (number (float x)) h = absurd h
  plain-back (string s) h = refl
  plain-back (array ds) h = rw (plain-items-back ds h) refl
  plain-back (object ms) h = absurd h

  plain-items-back : (ds : Items) → ArePlain ds → of_items (items_outline ds) ≡ Some ds
  plain-items-back no_items h = refl
  plain-items-back (item d ds) h = rw (plain-back d h.0, plain-items-back ds h.1) refl

mutual
  -- the numbers in the outline of such a value are numbers of JSON
  pub plain-numbers : (d : Data) → IsPlain d → tree.HasNumbers (outline d)
  plain-numbers null h = absurd h
  plain-numbers (boolean b) h = absurd h
  plain-numbers (number (unsigned n)) h = IsNumber-decimal n h
  plain-numbers (number (negative z)) h = absurd h
  plain-numbers (number (float x)) h = absurd h
  plain-numbers (string s) h = tt
  plain-numbers (array ds) h = plain-items-numbers ds h
  plain-numbers (object ms) h = absurd h

  plain-items-numbers : (ds : Items) → ArePlain ds → tree.ItemsHaveNumbers (items_outline ds)
  plain-items-numbers no_items h = tt
  plain-items-numbers (item d ds) h = (plain-numbers d h.0, plain-items-numbers ds h.1)

abbrev mutual
  -- such a value, in which each text is UTF-8
  pub IsSpelled : Data → Type 0
  IsSpelled null = ⊥
  IsSpelled (boolean b) = ⊥
  IsSpelled (number n) = IsSmallNumber n
  IsSpelled (string s) = IsUtf8 s
  IsSpelled (array ds) = AreSpelled ds
  IsSpelled (object ms) = ⊥

  -- each of these items is such a value, in which each text is UTF-8
  pub AreSpelled : Items → Type 0
  AreSpelled no_items = ⊤
  AreSpelled (item d ds) = IsSpelled d × AreSpelled ds

IsUtf8-one : (x : ℕ) → x < 128 → IsUtf8 (x ∷ [])
IsUtf8-one x h = IsUtf8-are_ascii (x ∷ []) (rw (lt-ltb x 128 h) refl)

IsUtf8-decimal : (n : ℕ) → n < 2 ^ 64 → IsUtf8 (decimal n)
IsUtf8-decimal = decimal_by_steps (λ n ds. IsUtf8 ds) (λ n h. IsUtf8-one (48 + n) (omega arith)) (λ n ds h u. IsUtf8-append ds ((48 + n % 10) ∷ []) u (IsUtf8-one (48 + n % 10) (omega arith)))

-- the comma between two items is UTF-8
pub IsUtf8-comma : (b : Bool) → IsUtf8 (comma_if b)
IsUtf8-comma true = IsUtf8-one 44 (omega arith)
IsUtf8-comma false = IsUtf8-nil

mutual
  -- the text of such a value is UTF-8
  pub spelled-text : (d : Data) → IsSpelled d → IsUtf8 (compact_text d)
  spelled-text null h = absurd h
  spelled-text (boolean b) h = absurd h
  spelled-text (number (unsigned n)) h = IsUtf8-decimal n h
  spelled-text (number (negative z)) h = absurd h
  spelled-text (number (float x)) h = absurd h
  spelled-text (string s) h = IsUtf8-quoted s h
  spelled-text (array ds) h = IsUtf8-append (91 ∷ []) (items_text false ds) (IsUtf8-one 91 (omega arith)) (spelled-items-text false ds h)
  spelled-text (object ms) h = absurd h

  spelled-items-text : (later : Bool) (ds : Items) → AreSpelled ds → IsUtf8 (items_text later ds)
  spelled-items-text later no_items h = IsUtf8-one 93 (omega arith)
  spelled-items-text later (item d ds) h =
      IsUtf8-append (comma_if later) (compact_text d ++ items_text true ds) (IsUtf8-comma later)
      (IsUtf8-append (compact_text d) (items_text true ds) (spelled-text d h.0) (spelled-items-text true ds h.1))

-- the text of a value that does not nest too deep is read as this value
pub read-text : (d : Data) → tree.HasNumbers (outline d) → tree.depth (outline d) ≤ 127 → of_json (outline d) ≡ Some d → read (compact_text d) ≡ Some d
read-text d numbers shallow back =
    let j = outline d in
    let printed : tokens (compact_text d) ≡ tree.json_tokens j ++ [] =
    ap tokens (sym (print-outline d)) ∙ tokens-print (tree.json_tokens j) (ArePrintable-json_tokens j numbers) ∙ sym (append-nil (tree.json_tokens j)) in
    ap (λ ts. option_and_then of_json (option_and_then (λ p. json.if_last p.0 p.1) (json.value max_depth ts))) printed
    ∙ ap (λ o. option_and_then of_json (option_and_then (λ p. json.if_last p.0 p.1) o)) (value-json_tokens j max_depth [] shallow)
    ∙ back
