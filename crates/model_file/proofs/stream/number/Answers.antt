use Rattle.std.proofs.Common.{◌≡◌, [], ◌∷◌, length, sym, ap, ◌∙◌, subst, arith}
use Rattle.json.specs.Token.{Token}
use Rattle.json.specs.Json.{parse_map}
use Rattle.json.specs.Reads.{token_of}
use Rattle.model_file.specs.Streams.{data_at, whole_in, Answers}
use Rattle.model_file.proofs.Streaming.{nothing-left, number-answers, other-than-number}
use Rattle.model_file.proofs.stream.number.Goals as goal

pub returns-in_default-clause-value : goal.returns-in_default-clause-value
returns-in_default-clause-value c =
    let empty : c.args.reader.now ≡ [] = grind arith in
    ap (parse_map whole_in) (ap (data_at c.args.depth) empty ∙ nothing-left c.args.depth)

pub returns-in-Number-clause-value : goal.returns-in-Number-clause-value
returns-in-Number-clause-value c =
    let ts = c.next.new.self in
    let first : c.args.reader.now ≡ token_of c.in-Some.token ∷ ts = grind arith in
    let is : Token.number c.in-Number.text.now ∷ ts ≡ c.args.reader.now = sym (first ∙ ap (λ k. token_of k ∷ ts) c.in-Number.is) in
    subst (λ x. Answers c.whole.result (parse_map whole_in (data_at c.args.depth x)) ts) is (number-answers c.args.depth c.in-Number.text.now ts c.whole.result c.whole.ensures)

pub returns-in-Ok : goal.returns-in-Ok
returns-in-Ok c =
    let first : c.args.reader.now ≡ token_of c.in-Some.token ∷ c.next.new.self = grind arith in
    let r = c.pass_rest.new.reader in
    let less = c.in-Ok.ensures.shorter in
    record {
      value = ap (λ ts. parse_map whole_in (data_at c.args.depth ts)) first ∙ other-than-number c.args.depth c.in-Some.token c.next.new.self r c.in-Ok.ensures.value c.in_default-token.not-Number;
      shorter = omega (arith, ap length first, less);
    }
