use Rattle.std.proofs.Common.{◌≡◌, ◌-◌, length, Some, None, refl, sym, ◌∙◌, arith}
use Rattle.std.proofs.lemmas.Result.{err_from_is_err_and}
use Rattle.json.specs.Json.{read_key, value}
use Rattle.json.proofs.Grammar.{read_key-shorter}
use Rattle.serde_json.specs.Data.{no_members, put}
use Rattle.model_file.specs.declared.found.TheConstants.{FIELD_DEPTH}
use Rattle.model_file.specs.Streams.{members_at}
use Rattle.model_file.proofs.Grammar.{member_read, member_refused, key_refused, members_over}
use Rattle.model_file.proofs.Finding.{none-found, stopped-there}
use Rattle.model_file.proofs.found.read_members.Goals as goal

pub members-init : goal.members-init
members-init c = (length c.args.reader.now, no_members, omega arith, refl, c.requires ∙ sym (none-found c.args.version))

pub returns-in_err-key-clause-err : goal.returns-in_err-key-clause-err
returns-in_err-key-clause-err c =
    let l = c.members in
    let p = err_from_is_err_and c.from_residual.result c.from_residual.ensures.1 in
    let none : members_at no_members FIELD_DEPTH c.args.reader.now ≡ None = l.invariant.3 ∙ key_refused (value FIELD_DEPTH) l.invariant.1 l.invariant.0 l.reader c.in_err-key.ensures.value in
    rw (p.1, p.2) none

pub members-preserved : goal.members-preserved
members-preserved c =
    let p = value FIELD_DEPTH in
    let l = c.members in
    let n = l.invariant.0 in
    let old = l.invariant.1 in
    let k = c.in-Some.key.now in
    let s = c.next_key.new.self in
    let r = c.read_member.new.reader in
    let key : read_key l.reader ≡ Some (Some k, s) = grind arith in
    let less = read_key-shorter l.reader (Some k) s key in
    let lesser = c.in-Ok.ensures.shorter in
    let e = c.in-Ok.ensures.ok in
    (n - 1, put k e.0 old, omega (arith, l.invariant.2, less, lesser), l.invariant.3 ∙ member_read p old n k l.reader s r e.0 (omega (arith, l.invariant.2, less)) key e.1, e.2 old l.invariant.4)

pub returns-in-Err-clause-err : goal.returns-in-Err-clause-err
returns-in-Err-clause-err c =
    let l = c.members in
    let k = c.in-Some.key.now in
    let s = c.next_key.new.self in
    let key : read_key l.reader ≡ Some (Some k, s) = grind arith in
    stopped-there c.in-Err.e _ (members_at no_members FIELD_DEPTH c.args.reader.now) (λ none. l.invariant.3 ∙ member_refused (value FIELD_DEPTH) l.invariant.1 l.invariant.0 k l.reader s key none) c.in-Err.ensures.err

pub returns-clause-ok : goal.returns-clause-ok
returns-clause-ok c =
    let l = c.members in
    let over : read_key l.reader ≡ Some (None, c.next_key.new.self) = grind arith in
    (l.invariant.1, l.invariant.3 ∙ members_over (value FIELD_DEPTH) l.invariant.1 l.invariant.0 l.reader c.next_key.new.self l.invariant.2 over, l.invariant.4)
