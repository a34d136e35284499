-- Where marks are noted to be new, and where they are not.
use Rattle.std.proofs.Common.{◌≡◌, ℕ, ◌<◌, ◌||◌, Bool, true, false, List, length, slice_set, sym, ◌∙◌, refl, subst, inl, inr, true≢false}
use Rattle.std.proofs.lemmas.Bool.{cases_eq}
use Rattle.std.proofs.lemmas.List.{length-set, get_or-set_same, get_or-set_other}
use Rattle.bit_rows.specs.Tables.{is_set}
use Rattle.clashes.specs.Growing.{IsNoted}

-- marks are noted to be new at two ids
pub noted_at_both : (now : List Bool) (u v : ℕ) → u < length now → v < length now → IsNoted now (slice_set (slice_set now u true) v true) u v
noted_at_both now u v u_in v_in =
    let long : length (slice_set now u true) ≡ length now = length-set now u true in
    let second : is_set (slice_set (slice_set now u true) v true) v ≡ true = get_or-set_same (slice_set now u true) v true false (subst (λ (n : ℕ). v < n) (sym long) v_in) in
    record {
      from = elim (cases_eq u v) [
        | inl e ↦ subst (λ (p : ℕ). is_set (slice_set (slice_set now u true) v true) p ≡ true) (sym e) second
        | inr far ↦ get_or-set_other (slice_set now u true) v u true false far ∙ get_or-set_same now u true false u_in
      ];
      to = second;
      others = λ p not_u not_v. get_or-set_other (slice_set now u true) v p true false not_v ∙ get_or-set_other now u p true false not_u;
    }

neither : (a b : Bool) → (a || b) ≡ false → (a ≡ false) × (b ≡ false)
neither true b h = absurd (true≢false h)
neither false b h = (refl, h)

-- none of four is so
pub none_of_four : (a b c d : Bool) → (((a || b) || c) || d) ≡ false → (a ≡ false) × (b ≡ false) × (c ≡ false) × (d ≡ false)
none_of_four a b c d h =
    let three = neither ((a || b) || c) d h in
    let two = neither (a || b) c three.0 in
    let one = neither a b two.0 in
    (one.0, one.1, two.1, three.1)
