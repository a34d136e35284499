-- A text in memory as the one input of a log's reader: what contracts see of it.
use Rattle.std.specs.Prelude.{ℕ, List, [], ◌∷◌, None, Some, false}
use Rattle.outside.specs.Inputs.{Files, InputState}

-- what contracts see of the input
pub record StoredText : Type 0 where
  -- its bytes
  pub text : List ℕ
  -- the bytes that are still to be read; none if it is not open
  pub rest : List ℕ
  -- how often it was opened
  pub opens : ℕ

-- the input before the first call
abbrev pub unread : List ℕ → StoredText
unread text = record { text = text; rest = []; opens = 0 }

-- the text under the empty name, and no other file
abbrev pub files_with : List ℕ → Files
files_with text = ([], text) ∷ []

-- all contents are known, and no call may fail
abbrev pub text_state : StoredText → InputState
text_state s = record {
  files = Some (files_with s.text);
  rest = Some s.rest;
  opens = s.opens;
  faults = 0;
  may_fail = λ _. false;
  mark = false;
  followed = None;
}
