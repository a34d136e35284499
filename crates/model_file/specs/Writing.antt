-- What a JSON writer has received.
use Rattle.std.specs.Prelude.{◌≡◌, List, ◌∷◌, ◌++◌, map, codes, Result, OnOk}
use Rattle.json.specs.Token.{Token, key}
use Rattle.json.specs.Tree.{json_tokens}
use Rattle.json.specs.Written.{Written}
use Rattle.serde_json.specs.Data.{Data, string}
use Rattle.serde_json.specs.Written.{outline}
use Rattle.invariants.specs.declared.records.Model.{Model}
use Rattle.model_file.specs.Tree.{number_data, array_of, block_data, edge_data, listed_data, kinds_data, merge_data, partition_data, split_data}

-- the tokens of a value
unfoldable pub tokens_of : Data → List Token
tokens_of d = json_tokens (outline d)

-- the tokens of the keys from `blocks` to `kinds` with their values
abbrev pub first_members : Model → List Token
first_members m =
    key (codes "blocks") ∷ (tokens_of (array_of (map block_data m.blocks))
    ++ (key (codes "edges") ∷ (tokens_of (array_of (map edge_data m.edges))
    ++ (key (codes "invariants") ∷ (tokens_of (array_of (map listed_data m.invariants))
    ++ (key (codes "kinds") ∷ tokens_of (kinds_data m.kinds)))))))

-- the tokens of the keys from `merges` to `version` with their values
abbrev pub last_members : Model → List Token
last_members m =
    key (codes "merges") ∷ (tokens_of (array_of (map merge_data m.merges))
    ++ (key (codes "partitions") ∷ (tokens_of (array_of (map partition_data m.partitions))
    ++ (key (codes "splits") ∷ (tokens_of (array_of (map split_data m.splits))
    ++ (key (codes "types") ∷ (tokens_of (array_of (map string m.types))
    ++ (key (codes "version") ∷ tokens_of (number_data 2)))))))))

-- The tokens are appended if the call succeeds. What came before the first token stays.
pub record Appends {E : Type 0} (r : Result (Unit {0}) E) (old new : Written) (ts : List Token) : Type 0 where
  pub ok : OnOk r (new.tokens ≡ old.tokens ++ ts)
  pub before : new.before ≡ old.before
