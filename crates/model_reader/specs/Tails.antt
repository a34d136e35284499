-- What is left of a text.
use Rattle.std.specs.Prelude.{◌≡◌, ◌++◌, ℕ, List}

-- the bytes are the end of the text: it is a front and these bytes
pub record IsTail (text rest : List ℕ) : Type 0 where
  pub front : List ℕ
  pub is : text ≡ front ++ rest
