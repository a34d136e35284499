use Rattle.std.proofs.Common.{◌≤◌, length, true, false, sym, ap, ◌∙◌, subst, arith}
use Rattle.std.specs.Prelude.{IfErr}
use Rattle.std.proofs.lemmas.Result.{err_from_is_err_and, on_ok_weaker}
use Rattle.model_file.specs.Versions.{max_bytes}
use Rattle.model_file.specs.Reading.{◌>>=◌, Fails}
use Rattle.model_file.specs.Found.{IsRoot, head_from, parts_from}
use Rattle.model_file.proofs.Fails.{fails-at, reads-long, no-value}
use Rattle.model_file.proofs.FoundIs.{root-refused, as-found}
use Rattle.model_file.proofs.reading.read_all.Goals as goal

pub returns-then-bytes-max_bytes-clause-err : goal.returns-then-bytes-max_bytes-clause-err
returns-then-bytes-max_bytes-clause-err c = reads-long c.args.version c.args.bytes.now (omega (arith, c.max_bytes.ensures))

pub returns-in_err-is_object-clause-err : goal.returns-in_err-is_object-clause-err
returns-in_err-is_object-clause-err c =
    let p = err_from_is_err_and c.from_residual.result c.from_residual.ensures.1 in
    rw (p.1, p.2) (no-value c.args.version _ c.args.bytes.now (omega (arith, c.max_bytes.ensures)) c.in_err-is_object.ensures.err)

pub returns-then-not-is_object-clause-err : goal.returns-then-not-is_object-clause-err
returns-then-not-is_object-clause-err c =
    let short : length c.args.bytes.now ≤ max_bytes c.args.version = omega (arith, c.max_bytes.ensures) in
    let e = c.in_ok-is_object.ensures.ok in
    let root : IsRoot c.args.version e.0 false c.read_found.new.found = subst (λ b. IsRoot c.args.version e.0 b c.read_found.new.found) c.if-not-is_object.true e.2 in
    root-refused c.args.version c.args.bytes.now e.0 short e.1 root

pub returns-in_err-test_head-clause-err : goal.returns-in_err-test_head-clause-err
returns-in_err-test_head-clause-err c =
    let f = c.read_found.new.found in
    let short : length c.args.bytes.now ≤ max_bytes c.args.version = omega (arith, c.max_bytes.ensures) in
    let e = c.in_ok-is_object.ensures.ok in
    let root : IsRoot c.args.version e.0 true f = subst (λ b. IsRoot c.args.version e.0 b f) c.if-not-is_object.false e.2 in
    let p = err_from_is_err_and c.from_residual-in_err-test_head.result c.from_residual-in_err-test_head.ensures.1 in
    fails-at _ _ c.from_residual-in_err-test_head.result _ (head_from c.args.version f) _ p.1 p.2 (as-found c.args.version c.args.bytes.now e.0 f short e.1 root) c.in_err-test_head.ensures

pub returns-clause-ok : goal.returns-clause-ok
returns-clause-ok c =
    let f = c.read_found.new.found in
    let short : length c.args.bytes.now ≤ max_bytes c.args.version = omega (arith, c.max_bytes.ensures) in
    let e = c.in_ok-is_object.ensures.ok in
    let root : IsRoot c.args.version e.0 true f = subst (λ b. IsRoot c.args.version e.0 b f) c.if-not-is_object.false e.2 in
    let is = as-found c.args.version c.args.bytes.now e.0 f short e.1 root ∙ ap (λ r. r >>= λ h. parts_from c.args.version f) c.in_ok-test_head.ensures in
    on_ok_weaker c.test_parts.result (λ passed. is ∙ passed) c.test_parts.ensures.ok

pub returns-clause-err : goal.returns-clause-err
returns-clause-err c =
    let f = c.read_found.new.found in
    let short : length c.args.bytes.now ≤ max_bytes c.args.version = omega (arith, c.max_bytes.ensures) in
    let e = c.in_ok-is_object.ensures.ok in
    let root : IsRoot c.args.version e.0 true f = subst (λ b. IsRoot c.args.version e.0 b f) c.if-not-is_object.false e.2 in
    let is = as-found c.args.version c.args.bytes.now e.0 f short e.1 root ∙ ap (λ r. r >>= λ h. parts_from c.args.version f) c.in_ok-test_head.ensures in
    subst (λ w. IfErr c.test_parts.result (λ x. Fails x w)) (sym is) c.test_parts.ensures.err
