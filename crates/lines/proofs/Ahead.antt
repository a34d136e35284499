-- Lines with the bytes behind them.
use Rattle.std.proofs.Common.{◌≡◌, ℕ, ◌+◌, ◌-◌, ◌<◌, ◌≤◌, List, length, take, drop, get_or, sym, ap, ◌∙◌, arith}
use Rattle.std.proofs.lemmas.List.{drop-take, get_or-take, take_rest}

-- a byte of the line
pub byte-ahead : (line bytes : List ℕ) (k : ℕ) → take (length line) bytes ≡ line → k < length line → get_or line k 0 ≡ get_or bytes k 0
byte-ahead line bytes k begins below = ap (λ (ls : List ℕ). get_or ls k 0) (sym begins) ∙ get_or-take (length line) bytes k 0 below

-- what stands from a place on
pub rest-ahead : (line bytes : List ℕ) (n : ℕ) → take (length line) bytes ≡ line → n ≤ length line
    → take (length line - n) (take (length bytes - n) (drop n bytes)) ≡ drop n line
rest-ahead line bytes n begins inside =
    let whole : n + (length line - n) ≡ length line = omega (arith, inside) in
    ap (take (length line - n)) (take_rest bytes n)
    ∙ (sym (drop-take n (length line - n) bytes)
    ∙ (ap (λ m. drop n (take m bytes)) whole ∙ ap (drop n) begins))
