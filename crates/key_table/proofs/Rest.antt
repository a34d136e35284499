-- What the rest have for a key, and for one more.
use Rattle.std.proofs.Common.{◌≡◌, ℕ, Bool, true, false, ◌&&◌, List, [], ◌∷◌, cond, refl, sym, ap, ap₂, ◌∙◌, true≢false, ◌==◌, Option, Some, String, arith}
use Rattle.std.proofs.lemmas.Bool.{and_parts}
use Rattle.std.proofs.lemmas.Bool.Decides.{nat_tests}
use Rattle.std.specs.Str.{bytes_eq}
use Rattle.std.proofs.Math.Bool.{and-true}
use Rattle.std.proofs.lemmas.Map.Text.{is_eq-slice_cmp}
use Rattle.std.specs.BTreeMap.{insert_entry}
use Rattle.std.specs.Map.{lookup}
use Rattle.std.specs.Ordering.{is_eq, nat_cmp, match_ordering, ordering_then}
use Rattle.std.specs.String.{string_bytes, string_cmp}
use Rattle.std.specs.declared.alloc.Global.{Global}
use Rattle.std.specs.declared.cmp.Ordering.{Ordering}
use Rattle.std.specs.declared.cmp.Ordering.TheVariants.{Less, Equal, Greater}
use Rattle.trace_keys.specs.Keys.{Key, same_key}
use Rattle.key_table.specs.Placed.{key_of, key_cmp, is_key_of}
use Rattle.trace_keys.specs.Fingerprints.{front_of, end_of}
use Rattle.trace_keys.proofs.Keys.{same_key-refl, same_key-≡}

eqb-refl : (n : ℕ) → (n == n) ≡ true
eqb-refl n = grind (arith, nat_tests)

then-eq : (o p : Ordering) → is_eq (ordering_then o p) ≡ (is_eq o && is_eq p)
then-eq Less p = refl
then-eq Equal p = refl
then-eq Greater p = refl

nat-tells : (n m : ℕ) → is_eq (nat_cmp n m) ≡ (n == m)
nat-tells n m =
    sym (and-true (is_eq (nat_cmp n m))) ∙ (sym (then-eq (nat_cmp n m) Equal) ∙ (is_eq-slice_cmp (n ∷ []) (m ∷ []) ∙ and-true (n == m)))

key-tells : (k l : ℕ × ℕ × ℕ × ℕ × String Global) → is_eq (key_cmp k l) ≡ ((k.0 == l.0) && (k.1 == l.1) && same_key (key_of k) (key_of l))
key-tells k l =
    let words = ordering_then (nat_cmp k.0 l.0) (nat_cmp k.1 l.1) in
    let file = ordering_then words (nat_cmp k.2 l.2) in
    let section = ordering_then file (nat_cmp k.3 l.3) in
    let text = bytes_eq (string_bytes k.4) (string_bytes l.4) in
    let at_words : is_eq words ≡ ((k.0 == l.0) && (k.1 == l.1)) = then-eq (nat_cmp k.0 l.0) (nat_cmp k.1 l.1) ∙ ap₂ (λ a b. a && b) (nat-tells k.0 l.0) (nat-tells k.1 l.1) in
    let at_file : is_eq file ≡ (((k.0 == l.0) && (k.1 == l.1)) && (k.2 == l.2)) = then-eq words (nat_cmp k.2 l.2) ∙ ap₂ (λ a b. a && b) at_words (nat-tells k.2 l.2) in
    let at_section : is_eq section ≡ ((((k.0 == l.0) && (k.1 == l.1)) && (k.2 == l.2)) && (k.3 == l.3)) = then-eq file (nat_cmp k.3 l.3) ∙ ap₂ (λ a b. a && b) at_file (nat-tells k.3 l.3) in
    then-eq section (string_cmp k.4 l.4) ∙ ap₂ (λ a b. a && b) at_section (is_eq-slice_cmp (string_bytes k.4) (string_bytes l.4)) ∙ regroup (k.0 == l.0) (k.1 == l.1) (k.2 == l.2) (k.3 == l.3) text
  where
    regroup : (a b c d e : Bool) → ((((a && b) && c) && d) && e) ≡ (a && b && (c && d && e))
    regroup true true true true e = refl
    regroup true true true false e = refl
    regroup true true false d e = refl
    regroup true false c d e = refl
    regroup false b c d e = refl

-- the words of a key's fingerprint stand with it
abbrev pub HasItsWords : ℕ × ℕ × ℕ × ℕ × String Global → Type 0
HasItsWords k = (front_of (string_bytes k.4) ≡ k.0) × (end_of (string_bytes k.4) ≡ k.1)

-- a search by order finds what a search by equality finds
pub key-lookup : (es : List ((ℕ × ℕ × ℕ × ℕ × String Global) × ℕ)) (k : ℕ × ℕ × ℕ × ℕ × String Global) (key : Key) → HasItsWords k → key_of k ≡ key
    → lookup (λ l. is_eq (key_cmp k l)) es ≡ lookup (is_key_of key) es
key-lookup [] k key words is = refl
key-lookup (e ∷ es) k key words is =
    let test : is_eq (key_cmp k e.0) ≡ is_key_of key e.0 =
    key-tells k e.0 ∙ (ap₂ (λ a b. (a == e.0.0) && (b == e.0.1) && same_key (key_of k) (key_of e.0)) (sym words.0) (sym words.1) ∙ ap (λ x. is_key_of x e.0) is) in
    ap (λ b. cond b (Some e.1) (lookup (λ l. is_eq (key_cmp k l)) es)) test
    ∙ ap (λ rest. cond (is_key_of key e.0) (Some e.1) rest) (key-lookup es k key words is)

-- equal numbers
told : (n m : ℕ) → (n == m) ≡ true → n ≡ m
told n m same = grind (arith, nat_tests)

-- where these are a key's, they are told apart from others as the key is
parts : (key : Key) (k : ℕ × ℕ × ℕ × ℕ × String Global) → is_key_of key k ≡ true → (front_of key.text ≡ k.0) × (end_of key.text ≡ k.1) × (key ≡ key_of k)
parts key k is =
    let outer = and_parts (front_of key.text == k.0 && end_of key.text == k.1) (same_key key (key_of k)) is in
    let inner = and_parts (front_of key.text == k.0) (end_of key.text == k.1) outer.0 in
    (told (front_of key.text) k.0 inner.0, told (end_of key.text) k.1 inner.1, same_key-≡ key (key_of k) outer.1)

-- two truth values and false are false
nothing : (a b : Bool) → (a && b && false) ≡ false
nothing true true = refl
nothing true false = refl
nothing false b = refl

-- of a key with its words nothing but the key is asked
pub own-words : (key : Key) (k : ℕ × ℕ × ℕ × ℕ × String Global) → HasItsWords k → is_key_of key k ≡ same_key key (key_of k)
own-words key k words = by (same_key key (key_of k)) refl
  where
    by : (b : Bool) → same_key key (key_of k) ≡ b → is_key_of key k ≡ b
    by true same =
        let is : key ≡ key_of k = same_key-≡ key (key_of k) same in
        let low : (front_of key.text == k.0) ≡ true = ap (λ (x : Key). front_of x.text == k.0) is ∙ ap (λ n. n == k.0) words.0 ∙ eqb-refl k.0 in
        let high : (end_of key.text == k.1) ≡ true = ap (λ (x : Key). end_of x.text == k.1) is ∙ ap (λ n. n == k.1) words.1 ∙ eqb-refl k.1 in
        ap (λ a. a && end_of key.text == k.1 && same_key key (key_of k)) low ∙ (ap (λ a. a && same_key key (key_of k)) high ∙ same)
    by false other =
        ap (λ s. front_of key.text == k.0 && end_of key.text == k.1 && s) other ∙ nothing (front_of key.text == k.0) (end_of key.text == k.1)

both : (a b : Bool) (n m rest : Option ℕ) → a ≡ b → cond a n rest ≡ cond b n (cond a m rest)
both true true n m rest same = refl
both false false n m rest same = refl
both true false n m rest same = absurd (true≢false same)
both false true n m rest same = absurd (true≢false (sym same))

swap : (a b : Bool) (n m rest : Option ℕ) → (a ≡ true → b ≡ true → ⊥) → cond b m (cond a n rest) ≡ cond a n (cond b m rest)
swap true true n m rest apart = absurd (apart refl refl)
swap true false n m rest apart = refl
swap false true n m rest apart = refl
swap false false n m rest apart = refl

-- what a lookup finds after an entry is put
pub lookup-put : (key : Key) (es : List ((ℕ × ℕ × ℕ × ℕ × String Global) × ℕ)) (k : ℕ × ℕ × ℕ × ℕ × String Global) (n : ℕ)
    → lookup (is_key_of key) (insert_entry key_cmp es k n) ≡ cond (is_key_of key k) (Some n) (lookup (is_key_of key) es)
lookup-put key [] k n = refl
lookup-put key (e ∷ es) k n = by (lookup-put key es k n) (key_cmp k e.0) refl
  where
    test : ℕ × ℕ × ℕ × ℕ × String Global → Bool
    test l = is_key_of key l

    by : lookup test (insert_entry key_cmp es k n) ≡ cond (test k) (Some n) (lookup test es) → (o : Ordering) → key_cmp k e.0 ≡ o
        → lookup test (match_ordering o ((k, n) ∷ e ∷ es) ((e.0, n) ∷ es) (e ∷ insert_entry key_cmp es k n)) ≡ cond (test k) (Some n) (lookup test (e ∷ es))
    by rest Less is = refl
    by rest Equal is =
        let tells : (k.0 == e.0.0 && k.1 == e.0.1 && same_key (key_of k) (key_of e.0)) ≡ true = sym (key-tells k e.0) ∙ ap is_eq is in
        let outer = and_parts (k.0 == e.0.0 && k.1 == e.0.1) (same_key (key_of k) (key_of e.0)) tells in
        let inner = and_parts (k.0 == e.0.0) (k.1 == e.0.1) outer.0 in
        let same : test e.0 ≡ test k =
        ap (λ x. front_of key.text == e.0.0 && end_of key.text == e.0.1 && same_key key x) (sym (same_key-≡ (key_of k) (key_of e.0) outer.1))
        ∙ ap₂ (λ a b. front_of key.text == a && end_of key.text == b && same_key key (key_of k)) (sym (told k.0 e.0.0 inner.0)) (sym (told k.1 e.0.1 inner.1)) in
        both (test e.0) (test k) (Some n) (Some e.1) (lookup test es) same
    by rest Greater is =
        ap (λ found. cond (test e.0) (Some e.1) found) rest
        ∙ swap (test k) (test e.0) (Some n) (Some e.1) (lookup test es) (λ at_k at_e.
        let here = parts key k at_k in
        let there = parts key e.0 at_e in
        let one : (k.0 == e.0.0) ≡ true = ap (λ a. a == e.0.0) (sym here.0 ∙ there.0) ∙ eqb-refl e.0.0 in
        let two : (k.1 == e.0.1) ≡ true = ap (λ a. a == e.0.1) (sym here.1 ∙ there.1) ∙ eqb-refl e.0.1 in
        let three : same_key (key_of k) (key_of e.0) ≡ true = ap (λ x. same_key (key_of k) x) (sym there.2 ∙ here.2) ∙ same_key-refl (key_of k) in
        let all : is_eq (key_cmp k e.0) ≡ true =
        key-tells k e.0 ∙ (ap (λ a. a && k.1 == e.0.1 && same_key (key_of k) (key_of e.0)) one ∙ (ap (λ a. a && same_key (key_of k) (key_of e.0)) two ∙ three)) in
        true≢false (sym all ∙ ap is_eq is))
