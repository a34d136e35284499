use Rattle.std.proofs.Common.{arith, ◌≡◌, ◌-◌, ◌∷◌, ◌∙◌, ℕ, List, drop, length, take}
use Rattle.serde_json.specs.Written.{compact_text}
use Rattle.model_file.specs.Tree.{path_data}
use Rattle.model_reader.proofs.Tails.{first-apart, less-left}
use Rattle.model_reader.proofs.rest.Rest.path.Goals as goal

pub invariant_of-self-2 : goal.invariant_of-self-2
invariant_of-self-2 c =
    let old : List ℕ = c.self.inside.bytes.now in
    let first : old ≡ 91 ∷ take (length old - 1) (drop 1 old) = first-apart old 91 0 c.in-91.len_at_least (omega arith) in
    less-left c.self.inside.text.now.value.items old (compact_text (path_data (take c.in_ok-count.count c.numbers_in_list.new.numbers))) c.in_ok-count.others.now c.self.invariant
    (first ∙ c.in_ok-count.ensures.text)
