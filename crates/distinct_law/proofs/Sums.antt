-- Sums over lists, and over words by how often each comes.
use Rattle.std.proofs.Common.{◌≡◌, ℕ, ◌+◌, ◌*◌, Bool, true, false, cond, List, [], ◌∷◌, map, bytes_eq, zero-mul, one-mul, add-mul, sym, ◌∙◌, refl, ap, subst, inl, inr, arith, sum_by}
use Rattle.std.proofs.Math.Path.{fun_ext}
use Rattle.std.proofs.lemmas.Bool.{or_parts, false_from_ne_true, true≢false}
use Rattle.std.proofs.lemmas.List.Sums.{sum_by-cons}
use Rattle.std.proofs.lemmas.Slice.Eq.{bytes_eq-Decides}
use Rattle.std.specs.List.{list_any}
use Rattle.traces.specs.Words.{AreApart}
use Rattle.partition_model.proofs.Lists.{In, bit}
use Rattle.distinct_law.specs.Words.{times}

-- a sum over an image
pub sum-map : {X Y : Type 0} (g : Y → ℕ) (f : X → Y) (xs : List X) → sum_by g (map f xs) ≡ sum_by (λ x. g (f x)) xs
sum-map g f [] = refl
sum-map {X} g f (x ∷ xs) =
    let a : sum_by g (f x ∷ map f xs) ≡ g (f x) + sum_by g (map f xs) = sum_by-cons g (f x) (map f xs) in
    let b : sum_by (λ (y : X). g (f y)) (x ∷ xs) ≡ g (f x) + sum_by (λ (y : X). g (f y)) xs = sum_by-cons (λ (y : X). g (f y)) x xs in
    let i : sum_by g (map f xs) ≡ sum_by (λ (y : X). g (f y)) xs = sum-map g f xs in
    a ∙ ap (λ (n : ℕ). g (f x) + n) i ∙ sym b

-- a sum of what is the same
pub sum-same : {X : Type 0} (f g : X → ℕ) (xs : List X) → ((x : X) → f x ≡ g x) → sum_by f xs ≡ sum_by g xs
sum-same {X} f g xs e =
    let k : f ≡ g = fun_ext e in
    ap (λ (h : X → ℕ). sum_by h xs) k

-- a sum of sums is the sum of both
sum-both : {X : Type 0} (f g k : X → ℕ) (xs : List X) → ((x : X) → k x ≡ f x + g x) → sum_by k xs ≡ sum_by f xs + sum_by g xs
sum-both f g k [] e = refl
sum-both f g k (x ∷ xs) e =
    let a : sum_by k (x ∷ xs) ≡ k x + sum_by k xs = sum_by-cons k x xs in
    let b : sum_by f (x ∷ xs) ≡ f x + sum_by f xs = sum_by-cons f x xs in
    let c : sum_by g (x ∷ xs) ≡ g x + sum_by g xs = sum_by-cons g x xs in
    let d : k x ≡ f x + g x = e x in
    let i : sum_by k xs ≡ sum_by f xs + sum_by g xs = sum-both f g k xs e in
    omega arith

-- a sum of nothing but 0 is 0
sum-none : {X : Type 0} (f : X → ℕ) (xs : List X) → ((x : X) → In x xs → f x ≡ 0) → sum_by f xs ≡ 0
sum-none f [] e = refl
sum-none f (x ∷ xs) e =
    let a : sum_by f (x ∷ xs) ≡ f x + sum_by f xs = sum_by-cons f x xs in
    let b : f x ≡ 0 = e x (inl refl) in
    let i : sum_by f xs ≡ 0 = sum-none f xs (λ y j. e y (inr j)) in
    omega arith

-- what no member passes, this one does not
fails : (p : List ℕ → Bool) (ws : List (List ℕ)) → list_any p ws ≡ false → (w : List ℕ) → In w ws → p w ≡ false
fails p [] a w i = absurd i
fails p (v ∷ ws) a w (inl e) = subst (λ (x : List ℕ). p x ≡ false) e (or_parts (p v) (list_any p ws) a).0
fails p (v ∷ ws) a w (inr j) = fails p ws (or_parts (p v) (list_any p ws) a).1 w j

-- no word is the same as a later one
other : (u v : List ℕ) (ws : List (List ℕ)) → list_any (bytes_eq u) ws ≡ false → In v ws → bytes_eq v u ≡ false
other u v ws a i =
    false_from_ne_true (bytes_eq v u) (λ t.
    let e : u ≡ v = sym ((bytes_eq-Decides v u).0 t) in
    true≢false (sym ((bytes_eq-Decides u v).1 e) ∙ fails (bytes_eq u) ws a v i))

-- a word that stands once in a list counts once
counts-once : (v : List ℕ) (ws : List (List ℕ)) (f : List ℕ → ℕ) → AreApart bytes_eq ws → In v ws → sum_by (λ w. bit (bytes_eq v w) * f w) ws ≡ f v
counts-once v [] f a i = absurd i
counts-once v (u ∷ ws) f a (inl e) =
    let s : sum_by (λ (w : List ℕ). bit (bytes_eq v w) * f w) (u ∷ ws) ≡ bit (bytes_eq v u) * f u + sum_by (λ (w : List ℕ). bit (bytes_eq v w) * f w) ws = sum_by-cons (λ (w : List ℕ). bit (bytes_eq v w) * f w) u ws in
    let t : bytes_eq v u ≡ true = (bytes_eq-Decides v u).1 (sym e) in
    let one : bit (bytes_eq v u) * f u ≡ f v = ap (λ (b : Bool). bit b * f u) t ∙ one-mul (f u) ∙ ap f e in
    let none : sum_by (λ (w : List ℕ). bit (bytes_eq v w) * f w) ws ≡ 0 = sum-none (λ (w : List ℕ). bit (bytes_eq v w) * f w) ws (λ w i.
    let n : bytes_eq v w ≡ false = subst (λ (x : List ℕ). bytes_eq x w ≡ false) e (fails (bytes_eq u) ws a.0 w i) in
    ap (λ (b : Bool). bit b * f w) n ∙ zero-mul (f w)) in
    omega arith
counts-once v (u ∷ ws) f a (inr j) =
    let s : sum_by (λ (w : List ℕ). bit (bytes_eq v w) * f w) (u ∷ ws) ≡ bit (bytes_eq v u) * f u + sum_by (λ (w : List ℕ). bit (bytes_eq v w) * f w) ws = sum_by-cons (λ (w : List ℕ). bit (bytes_eq v w) * f w) u ws in
    let none : bit (bytes_eq v u) * f u ≡ 0 = ap (λ (b : Bool). bit b * f u) (other u v ws a.0 j) ∙ zero-mul (f u) in
    let i : sum_by (λ (w : List ℕ). bit (bytes_eq v w) * f w) ws ≡ f v = counts-once v ws f a.1 j in
    omega arith

-- one word more among the words
times-cons : (v : List ℕ) (words : List (List ℕ)) (w : List ℕ) → times (v ∷ words) w ≡ bit (bytes_eq v w) + times words w
times-cons v words w = sum_by-cons (λ (u : List ℕ). cond (bytes_eq u w) 1 0) v words

-- a sum over words is one over the words that stand once, each times how often it comes
pub weigh : (words few : List (List ℕ)) (f : List ℕ → ℕ) → AreApart bytes_eq few → ((w : List ℕ) → In w words → In w few) → sum_by f words ≡ sum_by (λ w. times words w * f w) few
weigh [] few f a i = sym (sum-none (λ (w : List ℕ). times [] w * f w) few (λ w j. zero-mul (f w)))
weigh (v ∷ words) few f a i =
    let s : sum_by f (v ∷ words) ≡ f v + sum_by f words = sum_by-cons f v words in
    let r : sum_by f words ≡ sum_by (λ (w : List ℕ). times words w * f w) few = weigh words few f a (λ w j. i w (inr j)) in
    let o : sum_by (λ (w : List ℕ). bit (bytes_eq v w) * f w) few ≡ f v = counts-once v few f a (i v (inl refl)) in
    let b : sum_by (λ (w : List ℕ). times (v ∷ words) w * f w) few ≡ sum_by (λ (w : List ℕ). bit (bytes_eq v w) * f w) few + sum_by (λ (w : List ℕ). times words w * f w) few =
    sum-both (λ (w : List ℕ). bit (bytes_eq v w) * f w) (λ (w : List ℕ). times words w * f w) (λ (w : List ℕ). times (v ∷ words) w * f w) few
    (λ w. ap (λ (n : ℕ). n * f w) (times-cons v words w) ∙ add-mul (bit (bytes_eq v w)) (times words w) (f w)) in
    omega arith
