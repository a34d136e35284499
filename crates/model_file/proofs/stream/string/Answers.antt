use Rattle.std.proofs.Common.{◌≡◌, [], ◌∷◌, length, ap, ◌∙◌, arith}
use Rattle.json.specs.Json.{parse_map}
use Rattle.json.specs.Reads.{token_of}
use Rattle.serde_json.specs.Find.{as_str}
use Rattle.model_file.specs.Streams.{data_at}
use Rattle.model_file.proofs.Streaming.{nothing-left, string-read, other-than-string}
use Rattle.model_file.proofs.stream.string.Goals as goal

pub returns-in_default-clause-err : goal.returns-in_default-clause-err
returns-in_default-clause-err c =
    let empty : c.args.reader.now ≡ [] = grind arith in
    ap (data_at c.args.depth) empty ∙ nothing-left c.args.depth

pub returns-in-String-clause-ok : goal.returns-in-String-clause-ok
returns-in-String-clause-ok c =
    let ts = c.next.new.self in
    let first : c.args.reader.now ≡ token_of c.in-Some.token ∷ ts = grind arith in
    ap (λ x. parse_map as_str (data_at c.args.depth x)) (first ∙ ap (λ k. token_of k ∷ ts) c.in-String.is) ∙ string-read c.args.depth c.in-String.text.now ts

pub returns-in-Ok : goal.returns-in-Ok
returns-in-Ok c =
    let first : c.args.reader.now ≡ token_of c.in-Some.token ∷ c.next.new.self = grind arith in
    let r = c.pass_rest.new.reader in
    let less = c.in-Ok.ensures.shorter in
    record {
      ok = ap (λ ts. parse_map as_str (data_at c.args.depth ts)) first ∙ other-than-string c.args.depth c.in-Some.token c.next.new.self r c.in-Ok.ensures.value c.in_default-token.not-String;
      err = tt;
      shorter = omega (arith, ap length first, less);
    }
