use Rattle.std.proofs.Common.{◌≡◌, ◌++◌, drop, length, min, take, ℕ, ◌+◌, ◌-◌, ◌<◌, ◌≤◌, List, [], refl, sym, ap, ◌∙◌, arith, length-take, length-drop, length-append, take-append-drop, take_all}
use Rattle.std.proofs.lemmas.List.{drop-drop, take_at, drop_all}
use Rattle.made_logs.proofs.text_input.TextInputInputs.read.Goals as goal

-- what stands from a place on, as a slice up to the end
rest_is : (at : ℕ) (text : List ℕ) → take (length text - at) (drop at text) ≡ drop at text
rest_is at text = take_all (length text - at) (drop at text) (omega (arith, length-drop at text))

-- a buffer that begins with the n bytes that were next: they are gone from the rest, and there were none only at the end
given : (text bytes before buf : List ℕ) (at n : ℕ) → bytes ≡ drop at text → n ≡ min (length before) (length bytes) → buf ≡ take n bytes ++ drop n before
    → (n ≤ length buf) × (bytes ≡ take n buf ++ drop (at + n) text) × (n ≡ 0 → 0 < length buf → drop (at + n) text ≡ [])
given text bytes before buf at n is count front =
    let front_long : length (take n bytes) ≡ n = omega (arith, length-take n bytes) in
    let long : length buf ≡ length before = omega (arith, ap length front, length-append (take n bytes) (drop n before), length-drop n before) in
    let left : drop (at + n) text ≡ drop n bytes = sym (drop-drop n at text) ∙ ap (drop n) (sym is) in
    let begins : take n buf ≡ take n bytes = ap (take n) front ∙ take_at (take n bytes) (drop n before) n front_long in (
      omega arith,
      sym (take-append-drop n bytes) ∙ (ap (λ x. x ++ drop n bytes) (sym begins) ∙ ap (λ x. take n buf ++ x) (sym left)),
      λ (zero : n ≡ 0) (room : 0 < length buf). left ∙ drop_all n bytes (omega arith),
    )

pub returns-clause-gives : goal.returns-clause-gives
returns-clause-gives c =
    let text = c.self.inside.text in
    let at = c.self.inside.at in
    let view : drop at text ≡ c.args.self.now.rest = ap (λ s. s.rest) c.self.view_is in
    let rest = rw c.as_slice.ensures at c.fill-count.ensures in
    let gives = given text (take (length text - at) (drop at text)) c.args.buf.now c.fill-count.new.buf at c.fill-count.result (rest_is at text) rest.count rest.front in
    (gives.0, sym view ∙ (sym (rest_is at text) ∙ gives.1), gives.2, refl)
