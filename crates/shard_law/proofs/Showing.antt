-- An invariant holds of each word exactly where the words show it or lack what it speaks of.
use Rattle.std.proofs.Common.{◌≡◌, ◌↔◌, ◌⊎◌, ℕ, zero, suc, ◌<◌, List, [], ◌∷◌, All, inl, inr, subst, sym}
use Rattle.std.proofs.lemmas.Bool.{cases_eq}
use Rattle.std.proofs.lemmas.List.Elements.{All-contains}
use Rattle.invariants.specs.declared.Kind.{Kind}
use Rattle.invariants.specs.declared.Kind.TheVariants.{AF, NF, AP, IB}
use Rattle.invariants.specs.declared.Invariant.{Invariant}
use Rattle.invariants.specs.Candidates.{invariant}
use Rattle.invariants.specs.Ends.{HasType}
use Rattle.invariants.specs.Holds.{At, Holds, HoldsAs, NeverFollowedBy}
use Rattle.shard_law.specs.Shards.{Occurs, IsShown, LacksAs, Lacks}
use Rattle.shard_law.specs.Laws.{ShownIsThere}
use Rattle.shard_law.proofs.Lists.{Contains-first, Contains-later, Contains-cases, Contains-nil, All-members}

-- a type at a place of a word is its first, or is in the rest
type_cases : (x y : ℕ) (word : List ℕ) (i : ℕ) → At (y ∷ word) i x → (y ≡ x) ⊎ HasType x word
type_cases x y word zero h = inl h
type_cases x y word (suc i) h = inr (i, h)

-- whether a word has a type is decided
has_type : (x : ℕ) (word : List ℕ) → HasType x word ⊎ (HasType x word → ⊥)
has_type x [] = inr (λ h. h.1)
has_type x (y ∷ word) =
    elim (cases_eq y x) [
      | inl e ↦ inl (0, e)
      | inr n ↦ elim (has_type x word) [
        | inl h ↦ inl (suc h.0, h.1)
        | inr m ↦ inr (λ h. elim (type_cases x y word h.0 h.1) [ inl e ↦ n e | inr r ↦ m r ])
      ]
    ]

has_same : (x : ℕ) (word other : List ℕ) → word ≡ other → HasType x other → HasType x word
has_same x word other e h = subst (λ (w : List ℕ). HasType x w) (sym e) h

-- whether a type occurs in the words is decided
pub occurs : (x : ℕ) (words : List (List ℕ)) → Occurs x words ⊎ (Occurs x words → ⊥)
occurs x [] = inr (λ h. Contains-nil h.0 h.1)
occurs x (word ∷ words) =
    elim (has_type x word) [
      | inl h ↦ inl (word, Contains-first word words, h)
      | inr n ↦ elim (occurs x words) [
        | inl h ↦ inl (h.0, Contains-later word words h.0 h.1, h.2)
        | inr m ↦ inr (λ h. elim (Contains-cases word words h.0 h.1) [ inl e ↦ n (has_same x word h.0 e h.2) | inr r ↦ m (h.0, r, h.2) ])
      ]
    ]

-- the invariant holds of each word
abbrev pub OfEvery : Invariant → List (List ℕ) → Type 0
OfEvery inv words = All (λ word. Holds inv word) words

followed : (a b : ℕ) (words : List (List ℕ)) → OfEvery (invariant AF a b) words → Occurs a words → Occurs b words
followed a b words all o =
    let h : HoldsAs AF a b o.0 = All-contains (λ word. Holds (invariant AF a b) word) words o.0 all o.1 in
    let later : (j : ℕ) × (o.2.0 < j) × At o.0 j b = h o.2.0 o.2.1 in
    (o.0, o.1, (later.0, later.2))

preceded : (a b : ℕ) (words : List (List ℕ)) → OfEvery (invariant AP a b) words → Occurs b words → Occurs a words
preceded a b words all o =
    let h : HoldsAs AP a b o.0 = All-contains (λ word. Holds (invariant AP a b) word) words o.0 all o.1 in
    let earlier : (i : ℕ) × (i < o.2.0) × At o.0 i a = h o.2.0 o.2.1 in
    (o.0, o.1, (earlier.0, earlier.2))

-- where b occurs nowhere, no word has two a
once : (a b : ℕ) (words : List (List ℕ)) → OfEvery (invariant IB a b) words → (Occurs b words → ⊥) → All (NeverFollowedBy a a) words
once a b words all n =
    All-members (NeverFollowedBy a a) words (λ word c i at j lt later.
    let h : HoldsAs IB a b word = All-contains (λ w. Holds (invariant IB a b) w) words word all c in
    let between : (k : ℕ) × (i < k) × (k < j) × At word k b = h i j at later lt in
    n (word, c, (between.0, between.3)))

shown : (inv : Invariant) (words : List (List ℕ)) → Occurs inv.a words → Occurs inv.b words → OfEvery inv words → IsShown inv words
shown inv words first second all = record { first = first; second = second; of_every = all }

shows : (kind : Kind) (a b : ℕ) (words : List (List ℕ)) → OfEvery (invariant kind a b) words → IsShown (invariant kind a b) words ⊎ LacksAs kind a b words
shows AF a b words all =
    elim (occurs a words) [
      | inl o ↦ inl (shown (invariant AF a b) words o (followed a b words all o) all)
      | inr n ↦ inr n
    ]
shows NF a b words all =
    elim (occurs a words) [
      | inl o ↦ elim (occurs b words) [
        | inl p ↦ inl (shown (invariant NF a b) words o p all)
        | inr n ↦ inr (λ _ p. n p)
      ]
      | inr n ↦ inr (λ o _. n o)
    ]
shows AP a b words all =
    elim (occurs b words) [
      | inl o ↦ inl (shown (invariant AP a b) words (preceded a b words all o) o all)
      | inr n ↦ inr n
    ]
shows IB a b words all =
    elim (occurs a words) [
      | inl o ↦ elim (occurs b words) [
        | inl p ↦ inl (shown (invariant IB a b) words o p all)
        | inr n ↦ inr (inr (n, once a b words all n))
      ]
      | inr n ↦ inr (inl n)
    ]

lacking : (kind : Kind) (a b : ℕ) (words : List (List ℕ)) → LacksAs kind a b words → OfEvery (invariant kind a b) words
lacking AF a b words n = All-members (λ word. Holds (invariant AF a b) word) words (λ word c i at. absurd (n (word, c, (i, at))))
lacking NF a b words n = All-members (λ word. Holds (invariant NF a b) word) words (λ word c i at j lt later. n (word, c, (i, at)) (word, c, (j, later)))
lacking AP a b words n = All-members (λ word. Holds (invariant AP a b) word) words (λ word c j at. absurd (n (word, c, (j, at))))
lacking IB a b words (inl n) = All-members (λ word. Holds (invariant IB a b) word) words (λ word c i j at later lt. absurd (n (word, c, (i, at))))
lacking IB a b words (inr n) = All-members (λ word. Holds (invariant IB a b) word) words (λ word c i j at later lt. absurd (All-contains (NeverFollowedBy a a) words word n.1 c i at j lt later))

-- an invariant holds of each word exactly where the words show it or lack what it speaks of
pub every_shows : (inv : Invariant) (words : List (List ℕ)) → OfEvery inv words ↔ (IsShown inv words ⊎ Lacks inv words)
every_shows inv words = (
  λ all. shows inv.kind inv.a inv.b words all,
  λ h. elim h [ inl s ↦ s.of_every | inr n ↦ lacking inv.kind inv.a inv.b words n ],
)

there : (kind : Kind) (a b : ℕ) (words : List (List ℕ)) → Occurs a words → Occurs b words → LacksAs kind a b words → ⊥
there AF a b words first second lacks = lacks first
there NF a b words first second lacks = lacks first second
there AP a b words first second lacks = lacks second
there IB a b words first second lacks = elim lacks [ inl n ↦ n first | inr n ↦ n.0 second ]

-- no words show an invariant and lack what it speaks of
pub shown_is_there : ShownIsThere
shown_is_there inv words h lacks = there inv.kind inv.a inv.b words h.first h.second lacks
