-- A key that is there is found, and a new one is put at the end.
use Rattle.std.proofs.Common.{◌≡◌, false, [], ◌∷◌, ◌++◌, sym, subst}
use Rattle.std.proofs.lemmas.Bool.{cond-true, cond-false, false_from_ne_true}
use Rattle.std.specs.List.{list_any}
use Rattle.trace_keys.specs.Keys.{AreApart, same_key, with_new}
use Rattle.trace_keys.proofs.Apart.{apart-push}
use Rattle.trace_keys.proofs.Keys.{any-stands, key-at, same_key-swap, stands-any}
use Rattle.trace_keys.proofs.Positions.{position-all}
use Rattle.key_table.specs.Laws.{KnownAreFound, NewArePut}

pub known-are-found : KnownAreFound
known-are-found keys key place apart at = record {
  found = sym (key-at keys place key apart at);
  stays = cond-true _ _ _ (stands-any keys place key at);
}

pub new-are-put : NewArePut
new-are-put keys key apart nowhere =
    let new : list_any (same_key key) keys ≡ false =
    false_from_ne_true (list_any (same_key key) keys) (λ any. let there = any-stands keys key any in nowhere there.0 there.1) in
    let put : with_new same_key keys key ≡ keys ++ key ∷ [] = cond-false _ _ _ new in
    record {
      found = (position-all (same_key key) keys).0 new;
      grows = put;
      apart = subst (AreApart same_key) (sym put) (apart-push same_key keys key same_key-swap apart new);
    }
