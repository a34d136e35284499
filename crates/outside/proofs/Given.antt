-- What a read of an open file gives.
use Rattle.std.proofs.Common.{◌≡◌, ℕ, ◌+◌, ◌≤◌, ◌<◌, min, List, [], ◌++◌, take, drop, length, Option, Some, None, sym, ap, ◌∙◌, arith, length-take, length-drop, length-append, take-append-drop}
use Rattle.std.proofs.lemmas.List.{drop-drop, take_at, drop_all}
use Rattle.std.proofs.Math.Seq.{drop-nil}
use Rattle.outside.specs.Inputs.{Files}
use Rattle.outside.specs.InMemory.{rest_of}

-- further on in a file
rest_of-add : (files : Files) (place : Option ℕ) (from n : ℕ) → rest_of files place (from + n) ≡ drop n (rest_of files place from)
rest_of-add files None from n = sym (drop-nil n)
rest_of-add files (Some place) from n = sym (drop-drop n from _)

-- A buffer that begins with the n bytes that were next: they are gone from the rest, and there were none only at the end.
pub front-given : (files : Files) (place : Option ℕ) (from n piece : ℕ) (rest before buf bytes : List ℕ)
    → bytes ≡ rest_of files place from → bytes ≡ rest → 1 ≤ piece → n ≡ min (length before) (min piece (length bytes)) → buf ≡ take n bytes ++ drop n before
    → (n ≤ length buf) × (rest ≡ take n buf ++ rest_of files place (from + n)) × (n ≡ 0 → 0 < length buf → rest_of files place (from + n) ≡ [])
front-given files place from n piece rest before buf bytes is same some count front =
    let front_long : length (take n bytes) ≡ n = omega (arith, length-take n bytes) in
    let long : length buf ≡ length before = omega (arith, ap length front, length-append (take n bytes) (drop n before), length-drop n before) in
    let left : rest_of files place (from + n) ≡ drop n bytes = rest_of-add files place from n ∙ ap (drop n) (sym is) in
    let begins : take n buf ≡ take n bytes = ap (take n) front ∙ take_at (take n bytes) (drop n before) n front_long in (
      omega arith,
      sym same ∙ (sym (take-append-drop n bytes) ∙ (ap (λ x. x ++ drop n bytes) (sym begins) ∙ ap (λ x. take n buf ++ x) (sym left))),
      λ (zero : n ≡ 0) (room : 0 < length buf). left ∙ drop_all n bytes (omega arith),
    )
