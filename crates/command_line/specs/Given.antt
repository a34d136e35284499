-- What the command line gives for each argument.
use Rattle.std.specs.Prelude.{Bool, false, List, [], Option, codes, option_map, unwrap_or, map}
use Rattle.std.specs.Option.{option_map_or}
use Rattle.std.specs.Str.{bytes_eq}
use Rattle.clap.specs.Words.{Row, Text, all_of, first_of}
use Rattle.command_line.specs.declared.given.Given.{Given}

-- the values of COMMAND, -e, -m and -n, which of -p, -i, -j and -r were given, and the FILEs
pub record Use : Type 0 where
  pub command : Option Text
  pub rules : Option Text
  pub plain : Bool
  pub model : Option Text
  pub ignore : Bool
  pub join : Bool
  pub number : Option Text
  pub interrupted : Bool
  pub files : List Text

-- whether an option without a value is given: clap's value for it is `true`
abbrev pub is_on : Text → List Row → Bool
is_on id rows = option_map_or (λ text. bytes_eq text (codes "true")) (first_of id rows) false

-- the arguments, as clap takes them
abbrev pub use_of : List Row → Use
use_of rows = record {
  command = first_of (codes "COMMAND") rows;
  rules = first_of (codes "e") rows;
  plain = is_on (codes "p") rows;
  model = first_of (codes "m") rows;
  ignore = is_on (codes "i") rows;
  join = is_on (codes "j") rows;
  number = first_of (codes "n") rows;
  interrupted = is_on (codes "r") rows;
  files = unwrap_or (all_of (codes "FILE") rows) [];
}

-- the arguments as the program's value gives them
abbrev pub given_held : Given → Use
given_held g = record {
  command = option_map (λ s. s.now) g.command;
  rules = option_map (λ s. s.now) g.rules;
  plain = g.plain;
  model = option_map (λ s. s.now) g.model;
  ignore = g.ignore;
  join = g.join;
  number = option_map (λ s. s.now) g.number;
  interrupted = g.interrupted;
  files = map (λ s. s.now) g.files.items;
}
