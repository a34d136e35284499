-- Members of lists.
use Rattle.std.proofs.Common.{◌≡◌, ◌⊎◌, ℕ, zero, suc, ◌<◌, List, [], ◌∷◌, map, length, get_or, All, Contains, refl, inl, inr, subst, arith}
use Rattle.std.proofs.lemmas.List.Elements.{Contains-get_or}

-- a list has its first element
pub Contains-first : {X : Type 0} (x : X) (xs : List X) → Contains (x ∷ xs) x
Contains-first x xs = (0, omega arith, refl)

-- a list has what its rest has
pub Contains-later : {X : Type 0} (y : X) (xs : List X) (x : X) → Contains xs x → Contains (y ∷ xs) x
Contains-later y xs x h = (suc h.0, omega (arith, h.1), h.2)

contained_at : {X : Type 0} (y : X) (xs : List X) (x : X) (k : ℕ) → k < length (y ∷ xs) → get_or (y ∷ xs) k x ≡ x → (y ≡ x) ⊎ Contains xs x
contained_at y xs x zero lt e = inl e
contained_at y xs x (suc k) lt e = inr (k, omega arith, e)

-- what a list has is its first element, or is in its rest
pub Contains-cases : {X : Type 0} (y : X) (xs : List X) (x : X) → Contains (y ∷ xs) x → (y ≡ x) ⊎ Contains xs x
Contains-cases y xs x h = contained_at y xs x h.0 h.1 h.2

-- the empty list has nothing
pub Contains-nil : {X : Type 0} (x : X) → Contains [] x → ⊥
Contains-nil x h = omega (arith, h.1)

-- what each member has, all have
pub All-members : {X : Type 0} (P : X → Type 0) (xs : List X) → ((x : X) → Contains xs x → P x) → All P xs
All-members P xs f k d lt = f (get_or xs k d) (Contains-get_or xs k d lt)

-- the image of a list has the image of each element
pub Contains-map : {X Y : Type 0} (f : X → Y) (xs : List X) (x : X) → Contains xs x → Contains (map f xs) (f x)
Contains-map f [] x h = absurd (Contains-nil x h)
Contains-map f (z ∷ xs) x h =
    elim (Contains-cases z xs x h) [
      | inl e ↦ subst (λ y. Contains (f z ∷ map f xs) (f y)) e (Contains-first (f z) (map f xs))
      | inr r ↦ Contains-later (f z) (map f xs) (f x) (Contains-map f xs x r)
    ]

-- what the image of a list has is the image of an element
pub Contains-unmap : {X Y : Type 0} (f : X → Y) (xs : List X) (y : Y) → Contains (map f xs) y → (x : X) × Contains xs x × (f x ≡ y)
Contains-unmap f [] y h = absurd (Contains-nil y h)
Contains-unmap f (z ∷ xs) y h =
    elim (Contains-cases (f z) (map f xs) y h) [
      | inl e ↦ (z, Contains-first z xs, e)
      | inr r ↦ let o : (x : _) × Contains xs x × (f x ≡ y) = Contains-unmap f xs y r in (o.0, Contains-later z xs o.0 o.1, o.2)
    ]
