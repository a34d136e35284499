use Rattle.std.proofs.Common.{◌≡◌, ◌<◌, [], ◌∷◌, length, ap, ap₂, ◌∙◌, arith}
use Rattle.json.specs.Json.{value}
use Rattle.json.specs.Reads.{token_of}
use Rattle.model_file.specs.Streams.{data_at}
use Rattle.model_file.proofs.Streaming.{nothing-left, array-open, other-than-array}
use Rattle.model_file.proofs.stream.open.Goals as goal

pub returns-in_default-clause-value : goal.returns-in_default-clause-value
returns-in_default-clause-value c =
    let empty : c.args.reader.now ≡ [] = grind arith in
    ap (data_at c.args.depth) empty ∙ nothing-left c.args.depth

pub returns-then-depth-eq0-clause-value : goal.returns-then-depth-eq0-clause-value
unfolding value
returns-then-depth-eq0-clause-value c =
    let first : c.args.reader.now ≡ token_of c.in-Some.token ∷ c.next.new.self = grind arith in
    let none : c.args.depth ≡ 0 = omega arith in
    ap₂ data_at none (first ∙ ap (λ k. token_of k ∷ c.next.new.self) c.in-BeginArray.is)

pub returns-in-BeginArray-clause-value : goal.returns-in-BeginArray-clause-value
returns-in-BeginArray-clause-value c =
    let first : c.args.reader.now ≡ token_of c.in-Some.token ∷ c.next.new.self = grind arith in
    let some : 0 < c.args.depth = omega arith in
    (some, ap (data_at c.args.depth) (first ∙ ap (λ k. token_of k ∷ c.next.new.self) c.in-BeginArray.is) ∙ array-open c.args.depth c.next.new.self some)

pub returns-in-Ok : goal.returns-in-Ok
returns-in-Ok c =
    let first : c.args.reader.now ≡ token_of c.in-Some.token ∷ c.next.new.self = grind arith in
    let r = c.pass_rest.new.reader in
    let less = c.in-Ok.ensures.shorter in
    let d = other-than-array c.args.depth c.in-Some.token c.next.new.self r c.in-Ok.ensures.value c.in_default-token.not-BeginArray in
    record {
      value = (d.0, ap (data_at c.args.depth) first ∙ d.1, d.2);
      shorter = omega (arith, ap length first, less);
    }
