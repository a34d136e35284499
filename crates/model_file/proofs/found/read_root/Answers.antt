use Rattle.std.proofs.Common.{◌≡◌, [], ◌∷◌, refl, ap, ◌∙◌, arith}
use Rattle.json.specs.Json.{parse_map}
use Rattle.json.specs.Reads.{token_of}
use Rattle.serde_json.specs.Data.{object, no_members}
use Rattle.model_file.specs.declared.found.TheConstants.{MAX_DEPTH, FIELD_DEPTH}
use Rattle.model_file.specs.Streams.{data_at, members_at}
use Rattle.model_file.proofs.Streaming.{nothing-left, object-open, other-than-object}
use Rattle.model_file.proofs.Finding.{stopped-there}
use Rattle.model_file.proofs.found.read_root.Goals as goal

pub returns-in_default-clause-err : goal.returns-in_default-clause-err
returns-in_default-clause-err c =
    let empty : c.args.reader.now ≡ [] = grind arith in
    ap (data_at MAX_DEPTH) empty ∙ nothing-left MAX_DEPTH

pub returns-in-Ok-clause-ok : goal.returns-in-Ok-clause-ok
returns-in-Ok-clause-ok c =
    let ts = c.next.new.self in
    let first : c.args.reader.now ≡ token_of c.in-Some.token ∷ ts = grind arith in
    let e = c.in-Ok.ensures.ok in
    (object e.0, ap (data_at MAX_DEPTH) (first ∙ ap (λ k. token_of k ∷ ts) c.in-BeginObject.is) ∙ object-open MAX_DEPTH ts (omega arith) ∙ ap (parse_map object) e.1, (e.0, refl, e.2))

pub returns-in-Err-clause-err : goal.returns-in-Err-clause-err
returns-in-Err-clause-err c =
    let ts = c.next.new.self in
    let first : c.args.reader.now ≡ token_of c.in-Some.token ∷ ts = grind arith in
    stopped-there c.in-Err.e (members_at no_members FIELD_DEPTH ts) (data_at MAX_DEPTH c.args.reader.now)
    (λ none. ap (data_at MAX_DEPTH) (first ∙ ap (λ k. token_of k ∷ ts) c.in-BeginObject.is) ∙ object-open MAX_DEPTH ts (omega arith) ∙ ap (parse_map object) none) c.in-Err.ensures.err

pub returns-in-Ok-pass_rest : goal.returns-in-Ok-pass_rest
returns-in-Ok-pass_rest c =
    let first : c.args.reader.now ≡ token_of c.in-Some.token ∷ c.next.new.self = grind arith in
    let d = other-than-object MAX_DEPTH c.in-Some.token c.next.new.self c.pass_rest.new.reader c.in-Ok-pass_rest.ensures.value c.in_default-token.not-BeginObject in
    record {
      ok = (d.0, ap (data_at MAX_DEPTH) first ∙ d.1, d.2);
      err = tt;
    }
