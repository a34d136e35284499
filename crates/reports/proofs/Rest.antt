-- What the rest have for a list, and for one more.
use Rattle.std.proofs.Common.{◌≡◌, ℕ, Bool, true, false, List, [], ◌∷◌, cond, refl, sym, ap, ◌∙◌, true≢false, Option, Some}
use Rattle.std.proofs.lemmas.Map.Text.{is_eq-slice_cmp}
use Rattle.std.proofs.lemmas.Slice.Eq.{bytes_eq-Decides}
use Rattle.std.specs.Borrow.{Bor}
use Rattle.std.specs.BTreeMap.{insert_entry}
use Rattle.std.specs.Cmp.Lexicographic.{slice_cmp}
use Rattle.std.specs.Map.{lookup}
use Rattle.std.specs.Ordering.{is_eq, nat_cmp, match_ordering}
use Rattle.std.specs.Str.{bytes_eq}
use Rattle.std.specs.declared.cmp.Ordering.{Ordering}
use Rattle.std.specs.declared.cmp.Ordering.TheVariants.{Less, Equal, Greater}
use Rattle.reports.specs.Lists.{rest_place}

-- a search by order finds what a search by equality finds
pub by-order : (es : List (Bor (List ℕ) × ℕ)) (ids : List ℕ) → lookup (λ (k : Bor (List ℕ)). is_eq (slice_cmp nat_cmp ids k.now)) es ≡ rest_place es ids
by-order [] ids = refl
by-order (e ∷ es) ids =
    ap (λ b. cond b (Some e.1) (lookup (λ (k : Bor (List ℕ)). is_eq (slice_cmp nat_cmp ids k.now)) es)) (is_eq-slice_cmp ids e.0.now)
    ∙ ap (λ rest. cond (bytes_eq ids e.0.now) (Some e.1) rest) (by-order es ids)

both : (a b : Bool) (n m rest : Option ℕ) → a ≡ b → cond a n rest ≡ cond b n (cond a m rest)
both true true n m rest same = refl
both false false n m rest same = refl
both true false n m rest same = absurd (true≢false same)
both false true n m rest same = absurd (true≢false (sym same))

swap : (a b : Bool) (n m rest : Option ℕ) → (a ≡ true → b ≡ true → ⊥) → cond b m (cond a n rest) ≡ cond a n (cond b m rest)
swap true true n m rest apart = absurd (apart refl refl)
swap true false n m rest apart = refl
swap false true n m rest apart = refl
swap false false n m rest apart = refl

-- what the rest have after an entry is put
pub rest-put : (ids : List ℕ) (es : List (Bor (List ℕ) × ℕ)) (k : Bor (List ℕ)) (n : ℕ)
    → rest_place (insert_entry (λ (x y : Bor (List ℕ)). slice_cmp nat_cmp x.now y.now) es k n) ids ≡ cond (bytes_eq ids k.now) (Some n) (rest_place es ids)
rest-put ids [] k n = refl
rest-put ids (e ∷ es) k n = by (rest-put ids es k n) (slice_cmp nat_cmp k.now e.0.now) refl
  where
    put : List (Bor (List ℕ) × ℕ) → List (Bor (List ℕ) × ℕ)
    put entries = insert_entry (λ (x y : Bor (List ℕ)). slice_cmp nat_cmp x.now y.now) entries k n

    by : rest_place (put es) ids ≡ cond (bytes_eq ids k.now) (Some n) (rest_place es ids) → (o : Ordering) → slice_cmp nat_cmp k.now e.0.now ≡ o
        → rest_place (match_ordering o ((k, n) ∷ e ∷ es) ((e.0, n) ∷ es) (e ∷ put es)) ids ≡ cond (bytes_eq ids k.now) (Some n) (rest_place (e ∷ es) ids)
    by rest Less is = refl
    by rest Equal is =
        let same : k.now ≡ e.0.now = (bytes_eq-Decides k.now e.0.now).0 (sym (is_eq-slice_cmp k.now e.0.now) ∙ ap is_eq is) in
        both (bytes_eq ids e.0.now) (bytes_eq ids k.now) (Some n) (Some e.1) (rest_place es ids) (ap (bytes_eq ids) (sym same))
    by rest Greater is =
        ap (λ found. cond (bytes_eq ids e.0.now) (Some e.1) found) rest
        ∙ swap (bytes_eq ids k.now) (bytes_eq ids e.0.now) (Some n) (Some e.1) (rest_place es ids) (λ at_k at_e.
        let same : k.now ≡ e.0.now = sym ((bytes_eq-Decides ids k.now).0 at_k) ∙ (bytes_eq-Decides ids e.0.now).0 at_e in
        true≢false (sym ((bytes_eq-Decides k.now e.0.now).1 same) ∙ (sym (is_eq-slice_cmp k.now e.0.now) ∙ ap is_eq is)))
