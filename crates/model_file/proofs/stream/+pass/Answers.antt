use Rattle.std.proofs.Common.{◌≡◌, ◌-◌, ◌<◌, [], ◌∷◌, length, Some, None, refl, sym, ap, ap₂, ◌∙◌, arith}
use Rattle.json.specs.Token.{Token}
use Rattle.json.specs.Json.{after_end_array, read_key, value}
use Rattle.json.specs.Reads.{token_of}
use Rattle.json.proofs.Grammar.{left_none, left_some, value_is, read_key-shorter}
use Rattle.serde_json.specs.Data.{array, object, no_members, put}
use Rattle.model_file.proofs.Grammar.{item_refused, items_over, member_read, member_refused, key_refused, members_over}
use Rattle.model_file.specs.Streams.{after, data_at, items_at, members_at, whole_in}
use Rattle.model_file.proofs.Streaming.{nothing-left, array-open, object-open, number-answers, number-refused, after-read, pass-item, by-parts}
use Rattle.model_file.proofs.stream.+pass.Goals as goal

pub pass_items-items-init : goal.pass_items-items-init
pass_items-items-init t c = (λ m enough. (m, enough, refl), omega arith)

pub pass_items-items-preserved : goal.pass_items-items-preserved
pass_items-items-preserved t c =
    let p = value c.args.depth in
    let l = c.items in
    let going : (after_end_array l.reader ≡ None) × (c.take_end_array.new.self ≡ l.reader) = grind arith in
    let less : length c.pass_value.new.reader < length l.reader = rw (← going.1) c.in-Ok.ensures.shorter in (
      λ m enough.
          let prior = l.invariant.0 m enough in
          (prior.0 - 1, omega (arith, prior.1, less), prior.2 ∙ pass-item p prior.0 l.reader c.pass_value.new.reader (omega (arith, prior.1, less)) going.0 (rw (← going.1) c.in-Ok.ensures.value)),
      omega (arith, l.invariant.1, less),
    )

pub pass_items-returns-in-Err-clause-value : goal.pass_items-returns-in-Err-clause-value
pass_items-returns-in-Err-clause-value t c n enough =
    let p = value c.args.depth in
    let l = c.items in
    let going : (after_end_array l.reader ≡ None) × (c.take_end_array.new.self ≡ l.reader) = grind arith in
    let prior = l.invariant.0 n enough in
    left_none _ (prior.2 ∙ ap after (item_refused p prior.0 l.reader going.0 (rw (← going.1) c.in-Err.ensures.value)))

pub pass_items-returns-clause-value : goal.pass_items-returns-clause-value
pass_items-returns-clause-value t c n enough =
    let p = value c.args.depth in
    let l = c.items in
    let prior = l.invariant.0 n enough in
    prior.2 ∙ ap after (items_over p prior.0 l.reader c.take_end_array.new.self prior.1 (grind arith))

pub pass_members-members-init : goal.pass_members-members-init
pass_members-members-init t c = (length c.args.reader.now, no_members, omega arith, refl, omega arith)

pub pass_members-returns-in_err-next_key-clause-value : goal.pass_members-returns-in_err-next_key-clause-value
pass_members-returns-in_err-next_key-clause-value t c =
    let p = value c.args.depth in
    let l = c.members in
    let none : members_at no_members c.args.depth c.args.reader.now ≡ None = left_none _ (l.invariant.3 ∙ ap after (key_refused p l.invariant.1 l.invariant.0 l.reader c.in_err-next_key.ensures.value)) in
    grind (arith, none)

pub pass_members-members-preserved : goal.pass_members-members-preserved
pass_members-members-preserved t c =
    let p = value c.args.depth in
    let l = c.members in
    let n = l.invariant.0 in
    let old = l.invariant.1 in
    let k = c.in-Some.field-0.now in
    let s = c.next_key.new.self in
    let r = c.pass_value.new.reader in
    let key : read_key l.reader ≡ Some (Some k, s) = grind arith in
    let less = read_key-shorter l.reader (Some k) s key in
    let lesser = c.in_ok-pass_value.ensures.shorter in
    let d = left_some (data_at c.args.depth s) r c.in_ok-pass_value.ensures.value in
    (n - 1, put k d.0 old, omega (arith, l.invariant.2), l.invariant.3 ∙ ap after (member_read p old n k l.reader s r d.0 (omega (arith, l.invariant.2)) key d.1), omega (arith, l.invariant.4))

pub pass_members-returns-in_err-pass_value-clause-value : goal.pass_members-returns-in_err-pass_value-clause-value
pass_members-returns-in_err-pass_value-clause-value t c =
    let p = value c.args.depth in
    let l = c.members in
    let k = c.in-Some.field-0.now in
    let s = c.next_key.new.self in
    let key : read_key l.reader ≡ Some (Some k, s) = grind arith in
    let none : members_at no_members c.args.depth c.args.reader.now ≡ None = left_none _ (l.invariant.3 ∙ ap after (member_refused p l.invariant.1 l.invariant.0 k l.reader s key c.in_err-pass_value.ensures.value)) in
    grind (arith, none)

pub pass_members-returns-clause-value : goal.pass_members-returns-clause-value
pass_members-returns-clause-value t c =
    let p = value c.args.depth in
    let l = c.members in
    l.invariant.3 ∙ ap after (members_over p l.invariant.1 l.invariant.0 l.reader c.next_key.new.self l.invariant.2 (grind arith))

pub pass_rest-returns-in-String-clause-value : goal.pass_rest-returns-in-String-clause-value
pass_rest-returns-in-String-clause-value t c = rw (value_is c.args.depth (token_of c.args.token ∷ c.args.reader.now)) (grind arith)

pub pass_rest-returns-in-Ok-clause-value : goal.pass_rest-returns-in-Ok-clause-value
pass_rest-returns-in-Ok-clause-value t c =
    let ts = c.args.reader.now in
    let s = c.in-Number.text.now in
    let first : token_of c.args.token ∷ ts ≡ Token.number s ∷ ts = ap (λ k. token_of k ∷ ts) c.in-Number.is in
    let told = number-answers c.args.depth s ts c.whole.result c.whole.ensures in
    ap after (ap (data_at c.args.depth) first) ∙ after-read whole_in (data_at c.args.depth (Token.number s ∷ ts)) c.in-Ok.field-0 ts (rw c.in-Ok.is at told)

pub pass_rest-returns-in-Err-clause-value : goal.pass_rest-returns-in-Err-clause-value
pass_rest-returns-in-Err-clause-value t c =
    let ts = c.args.reader.now in
    let s = c.in-Number.text.now in
    let first : token_of c.args.token ∷ ts ≡ Token.number s ∷ ts = ap (λ k. token_of k ∷ ts) c.in-Number.is in
    ap (data_at c.args.depth) first ∙ number-refused c.args.depth s ts c.in-Err.field-0 (sym c.whole.ensures ∙ c.in-Err.is)

pub pass_rest-returns-in-EndObject-clause-value : goal.pass_rest-returns-in-EndObject-clause-value
pass_rest-returns-in-EndObject-clause-value t c = rw (value_is c.args.depth (token_of c.args.token ∷ c.args.reader.now)) (grind arith)

pub pass_rest-returns-then-depth-eq0-clause-value : goal.pass_rest-returns-then-depth-eq0-clause-value
unfolding value
pass_rest-returns-then-depth-eq0-clause-value t c =
    let none : c.args.depth ≡ 0 = omega arith in
    ap₂ data_at none (ap (λ k. token_of k ∷ c.args.reader.now) c.in-BeginArray.is)

pub pass_rest-returns-else-depth-eq0-clause-value : goal.pass_rest-returns-else-depth-eq0-clause-value
pass_rest-returns-else-depth-eq0-clause-value t c =
    let ts = c.args.reader.now in
    by-parts array c.pass_items.result (items_at (length ts) (c.args.depth - 1) ts) _ c.pass_items.new.reader
    (ap (data_at c.args.depth) (ap (λ k. token_of k ∷ ts) c.in-BeginArray.is) ∙ array-open c.args.depth ts (omega arith)) (c.pass_items.ensures.value (length ts) (omega arith))

pub pass_rest-returns-then-depth-eq0-2-clause-value : goal.pass_rest-returns-then-depth-eq0-2-clause-value
unfolding value
pass_rest-returns-then-depth-eq0-2-clause-value t c =
    let none : c.args.depth ≡ 0 = omega arith in
    ap₂ data_at none (ap (λ k. token_of k ∷ c.args.reader.now) c.in-BeginObject.is)

pub pass_rest-returns-else-depth-eq0-2-clause-value : goal.pass_rest-returns-else-depth-eq0-2-clause-value
pass_rest-returns-else-depth-eq0-2-clause-value t c =
    let ts = c.args.reader.now in
    by-parts object c.pass_members.result (members_at no_members (c.args.depth - 1) ts) _ c.pass_members.new.reader
    (ap (data_at c.args.depth) (ap (λ k. token_of k ∷ ts) c.in-BeginObject.is) ∙ object-open c.args.depth ts (omega arith)) c.pass_members.ensures.value

pub pass_value-returns-in_default-clause-value : goal.pass_value-returns-in_default-clause-value
pass_value-returns-in_default-clause-value t c = let empty : c.args.reader.now ≡ [] = grind arith in ap (data_at c.args.depth) empty ∙ nothing-left c.args.depth
