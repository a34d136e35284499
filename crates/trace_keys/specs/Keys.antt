-- Keys of traces.
use Rattle.std.specs.Prelude.{ℕ, ◌≡◌, ◌==◌, ◌&&◌, Bool, false, List, [], ◌∷◌, ◌++◌, if◌then◌else◌}
use Rattle.std.specs.List.{list_any}
use Rattle.std.specs.Str.{bytes_eq}
use Rattle.trace_keys.specs.declared.key.ShownKey.{ShownKey}
use Rattle.trace_keys.specs.declared.key.KeyParts.{KeyParts}

-- what the events of one trace have in common: the number of a file, how many separators are before them there, and a text
pub record Key : Type 0 where
  pub file : ℕ
  pub section : ℕ
  pub text : List ℕ

-- the key that has these parts
abbrev pub key_in : KeyParts → Key
key_in parts = record { file = parts.file; section = parts.section; text = parts.text.now }

-- the key of a shown key
abbrev pub key_shown : ShownKey → Key
key_shown key = record { file = key.file; section = key.section; text = key.text.now }

-- two keys agree in file, section and text
abbrev pub same_key : Key → Key → Bool
same_key k l = k.file == l.file && k.section == l.section && bytes_eq k.text l.text

-- the list with x at its end, unless x is there
abbrev pub with_new : {X : Type 0} → (X → X → Bool) → List X → X → List X
with_new same xs x = if list_any (same x) xs then xs else xs ++ x ∷ []

-- no item is the same as a later one
abbrev pub AreApart : {X : Type 0} → (X → X → Bool) → List X → Type 0
AreApart same [] = Unit {0}
AreApart same (x ∷ xs) = (list_any (same x) xs ≡ false) × AreApart same xs
