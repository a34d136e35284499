-- Laws on the log in the plain form.
use Rattle.std.specs.Prelude.{ℕ, ◌≡◌, ◌<◌, ◌≤◌, List, [], ◌∷◌, length, None, false}
use Rattle.std.specs.List.{AllByRecursion}
use Rattle.std.specs.Str.{IsUtf8}
use Rattle.limits.specs.declared.TheConstants.{MAX_EVENTS}
use Rattle.traces.specs.Words.{Log, log_of, types_of, words_of}
use Rattle.log_reader.specs.LogLines.{lines_of}
use Rattle.log_reader.specs.Reading.{Plain, Setting, events_of, setting}
use Rattle.events.specs.Located.{events_located}
use Rattle.events_cli.specs.Plain.{first_fault}
use Rattle.events_cli.specs.Texts.{plain_log}

-- the setting for a log in the plain form
abbrev pub plainly : Setting
plainly = setting Plain false false

-- the types are UTF-8 and not empty, and there are at most MAX_EVENTS traces
pub record HasTexts (log : Log) : Type 0 where
  pub texts : AllByRecursion (λ text. (0 < length text) × IsUtf8 text) log.types
  pub few : length log.traces ≤ MAX_EVENTS

-- read in the plain form, the text has the types and words of the log
pub record HasWordsOf (log : Log) (text : List ℕ) : Type 0 where
  pub types : types_of (events_of plainly (text ∷ [])) ≡ log.types
  pub words : words_of (log_of (events_of plainly (text ∷ []))) ≡ words_of log

-- this holds of the text written for each log whose events can all be in the plain form
abbrev pub PlainKeepsTheWords : Type 0
PlainKeepsTheWords =
    (s : Setting) (files : List (List ℕ)) → HasTexts (log_of (events_of s files))
    → first_fault (types_of (events_of s files)) (events_located s (lines_of s files)) ≡ None
    → HasWordsOf (log_of (events_of s files))
    (plain_log (types_of (events_of s files)) (events_located s (lines_of s files)))
