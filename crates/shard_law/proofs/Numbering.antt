-- A shard's own numbers.
use Rattle.std.proofs.Common.{◌≡◌, ◌↔◌, ◌⊎◌, ℕ, zero, suc, ◌+◌, ◌<◌, ◌≤◌, List, [], ◌∷◌, map, length, All, Contains, inl, inr, refl, sym, ap, ◌∙◌, subst, arith}
use Rattle.std.proofs.lemmas.List.Elements.{All-contains}
use Rattle.std.specs.List.{AllByRecursion}
use Rattle.invariants.specs.declared.Kind.{Kind}
use Rattle.invariants.specs.declared.Kind.TheVariants.{AF, NF, AP, IB}
use Rattle.invariants.specs.declared.Kinds.{Kinds}
use Rattle.invariants.specs.declared.Kinds.TheVariants.{Three, Four}
use Rattle.invariants.specs.declared.Invariant.{Invariant}
use Rattle.invariants.specs.Candidates.{invariant, candidates_for, IsFirst, IsPair, IsAsked}
use Rattle.invariants.specs.Ends.{IsWord, HasType}
use Rattle.invariants.specs.Holds.{At, Holds, HoldsAs}
use Rattle.invariants.specs.Mined.{mined_for, IsListed}
use Rattle.invariants.proofs.Members.{mined_tells, candidates_tell}
use Rattle.shard_law.specs.Shards.{Occurs, IsShown, Lacks, Shard, IsNumbered, words_of, in_whole, Lists}
use Rattle.shard_law.specs.Laws.{LackIsTold, OwnReports, ReportsJoin, TypesTell}
use Rattle.shard_law.proofs.Lists.{Contains-first, All-members, Contains-map, Contains-unmap}
use Rattle.shard_law.proofs.Showing.{occurs}
use Rattle.shard_law.proofs.Joining.{shards_join}

-- places of a word and of the word in other numbers
at_map : (f : ℕ → ℕ) (word : List ℕ) (i x : ℕ) → At word i x → At (map f word) i (f x)
at_map f [] i x h = h
at_map f (y ∷ word) zero x h = ap f h
at_map f (y ∷ word) (suc i) x h = at_map f word i x h

map_at : (f : ℕ → ℕ) (word : List ℕ) (i y : ℕ) → At (map f word) i y → (x : ℕ) × At word i x × (f x ≡ y)
map_at f [] i y h = absurd h
map_at f (x ∷ word) zero y h = (x, refl, h)
map_at f (x ∷ word) (suc i) y h = map_at f word i y h

abbrev Within : ℕ → List ℕ → Type 0
Within n word = AllByRecursion (λ x. x < n) word

within_at : (n : ℕ) (word : List ℕ) (i x : ℕ) → Within n word → At word i x → x < n
within_at n [] i x w h = absurd h
within_at n (y ∷ word) zero x w h = subst (λ z. z < n) h w.0
within_at n (y ∷ word) (suc i) x w h = within_at n word i x w.1 h

-- no two numbers below n become one
abbrev Apart : ℕ → (ℕ → ℕ) → Type 0
Apart n f = (x y : ℕ) → x < n → y < n → f x ≡ f y → x ≡ y

at_back : (n : ℕ) (f : ℕ → ℕ) → Apart n f → (word : List ℕ) → Within n word → (i x : ℕ) → x < n → At (map f word) i (f x) → At word i x
at_back n f apart word w i x lt h =
    let o : (z : ℕ) × At word i z × (f z ≡ f x) = map_at f word i (f x) h in
    subst (λ z. At word i z) (apart o.0 x (within_at n word i o.0 w o.1) lt o.2) o.1

holds_there : (n : ℕ) (f : ℕ → ℕ) → Apart n f → (word : List ℕ) → Within n word → (kind : Kind) (a b : ℕ) → a < n → b < n
    → HoldsAs kind a b word → HoldsAs kind (f a) (f b) (map f word)
holds_there n f apart word w AF a b la lb h = λ i at.
    let o : (j : ℕ) × (i < j) × At word j b = h i (at_back n f apart word w i a la at) in (o.0, o.1, at_map f word o.0 b o.2)
holds_there n f apart word w NF a b la lb h = λ i at j lt later. h i (at_back n f apart word w i a la at) j lt (at_back n f apart word w j b lb later)
holds_there n f apart word w AP a b la lb h = λ j at.
    let o : (i : ℕ) × (i < j) × At word i a = h j (at_back n f apart word w j b lb at) in (o.0, o.1, at_map f word o.0 a o.2)
holds_there n f apart word w IB a b la lb h = λ i j at later lt.
    let o : (k : ℕ) × (i < k) × (k < j) × At word k b = h i j (at_back n f apart word w i a la at) (at_back n f apart word w j a la later) lt in
    (o.0, o.1, o.2, at_map f word o.0 b o.3)

holds_here : (n : ℕ) (f : ℕ → ℕ) → Apart n f → (word : List ℕ) → Within n word → (kind : Kind) (a b : ℕ) → a < n → b < n
    → HoldsAs kind (f a) (f b) (map f word) → HoldsAs kind a b word
holds_here n f apart word w AF a b la lb h = λ i at.
    let o : (j : ℕ) × (i < j) × At (map f word) j (f b) = h i (at_map f word i a at) in (o.0, o.1, at_back n f apart word w o.0 b lb o.2)
holds_here n f apart word w NF a b la lb h = λ i at j lt later. h i (at_map f word i a at) j lt (at_map f word j b later)
holds_here n f apart word w AP a b la lb h = λ j at.
    let o : (i : ℕ) × (i < j) × At (map f word) i (f a) = h j (at_map f word j b at) in (o.0, o.1, at_back n f apart word w o.0 a la o.2)
holds_here n f apart word w IB a b la lb h = λ i j at later lt.
    let o : (k : ℕ) × (i < k) × (k < j) × At (map f word) k (f b) = h i j (at_map f word i a at) (at_map f word j a later) lt in
    (o.0, o.1, o.2, at_back n f apart word w o.0 b lb o.3)

-- types that occur
occurs_there : (shard : Shard) (x : ℕ) → Occurs x shard.words → Occurs (shard.number x) (words_of shard)
occurs_there shard x o =
    (map shard.number o.0, Contains-map (λ word. map shard.number word) shard.words o.0 o.1, (o.2.0, at_map shard.number o.0 o.2.0 x o.2.1))

-- a type of the whole that occurs in the shard has a number there
pub record HasNumber (shard : Shard) (y : ℕ) : Type 0 where
  own : ℕ
  below : own < shard.count + 2
  same : shard.number own ≡ y

occurs_here : (shard : Shard) → IsNumbered shard → (y : ℕ) → Occurs y (words_of shard) → HasNumber shard y
occurs_here shard numbered y o =
    let w : (word : List ℕ) × Contains shard.words word × (map shard.number word ≡ o.0) = Contains-unmap (λ word. map shard.number word) shard.words o.0 o.1 in
    let at : At (map shard.number w.0) o.2.0 y = subst (λ (v : List ℕ). At v o.2.0 y) (sym w.2) o.2.1 in
    let z : (x : ℕ) × At w.0 o.2.0 x × (shard.number x ≡ y) = map_at shard.number w.0 o.2.0 y at in
    let within : Within (shard.count + 2) w.0 = All-contains (λ word. Within (shard.count + 2) word) shard.words w.0 numbered.within w.1 in
    record { own = z.0; below = within_at (shard.count + 2) w.0 o.2.0 z.0 within z.1; same = z.2 }

-- in words, INITIAL stands first
starts : (word : List ℕ) → IsWord word → HasType 0 word
starts word h = subst (λ (w : List ℕ). HasType 0 w) (sym h.1) (0, refl)

own_first : (kinds : Kinds) (shard : Shard) → IsNumbered shard → (own : Invariant) → IsFirst shard.count own ⊎ IsPair kinds shard.count own → Occurs own.a shard.words
own_first kinds shard numbered own (inl h) =
    let o : Occurs own.b shard.words = numbered.occur own.b h.b_low h.b_high in
    let s : HasType 0 o.0 = starts o.0 (All-contains IsWord shard.words o.0 numbered.words o.1) in
    (o.0, o.1, subst (λ x. HasType x o.0) (sym h.a) s)
own_first kinds shard numbered own (inr h) = numbered.occur own.a h.a_low h.a_high

own_second : (kinds : Kinds) (shard : Shard) → IsNumbered shard → (own : Invariant) → IsFirst shard.count own ⊎ IsPair kinds shard.count own → Occurs own.b shard.words
own_second kinds shard numbered own (inl h) = numbered.occur own.b h.b_low h.b_high
own_second kinds shard numbered own (inr h) = numbered.occur own.b h.b_low h.b_high

a_below : (kinds : Kinds) (shard : Shard) (own : Invariant) → IsFirst shard.count own ⊎ IsPair kinds shard.count own → own.a < shard.count + 2
a_below kinds shard own (inl h) = omega (arith, h.a)
a_below kinds shard own (inr h) = h.a_high

b_below : (kinds : Kinds) (shard : Shard) (own : Invariant) → IsFirst shard.count own ⊎ IsPair kinds shard.count own → own.b < shard.count + 2
b_below kinds shard own (inl h) = h.b_high
b_below kinds shard own (inr h) = h.b_high

-- what the shard lists it shows
own_shown : (kinds : Kinds) (shard : Shard) → IsNumbered shard → (own : Invariant) → Contains (mined_for kinds shard.count shard.words) own → IsShown (in_whole shard own) (words_of shard)
own_shown kinds shard numbered own m =
    let h : IsListed kinds shard.count shard.words own = (mined_tells kinds shard.count shard.words own).0 m in
    let form : IsFirst shard.count own ⊎ IsPair kinds shard.count own = (candidates_tell kinds shard.count own).0 h.candidate in
    record {
      first = occurs_there shard own.a (own_first kinds shard numbered own form);
      second = occurs_there shard own.b (own_second kinds shard numbered own form);
      of_every = All-members (λ word. Holds (in_whole shard own) word) (words_of shard) (λ word c.
          let w : (v : List ℕ) × Contains shard.words v × (map shard.number v ≡ word) = Contains-unmap (λ v. map shard.number v) shard.words word c in
          subst (λ (v : List ℕ). Holds (in_whole shard own) v) w.2 (holds_there (shard.count + 2) shard.number numbered.apart w.0
          (All-contains (λ v. Within (shard.count + 2) v) shard.words w.0 numbered.within w.1)
          own.kind own.a own.b (a_below kinds shard own form) (b_below kinds shard own form)
          (All-contains (λ v. Holds own v) shard.words w.0 h.of_every w.1)));
    }

-- a number that is no end in the whole is none in the shard
no_end : (shard : Shard) → IsNumbered shard → (x y : ℕ) → shard.number x ≡ y → 2 ≤ y → 2 ≤ x
no_end shard numbered zero y e low = absurd (let z : 0 ≡ y = sym numbered.start ∙ e in omega arith)
no_end shard numbered (suc zero) y e low = absurd (let z : 1 ≡ y = sym numbered.end ∙ e in omega arith)
no_end shard numbered (suc (suc x)) y e low = omega arith

-- what the kinds ask for in the whole they ask for in the shard
own_asked : (kinds : Kinds) (shard : Shard) (inv : Invariant) (first : HasNumber shard inv.a) (second : HasNumber shard inv.b)
    → IsAsked kinds inv → IsAsked kinds (invariant inv.kind first.own second.own)
own_asked Three shard inv first second asked = asked
own_asked Four shard inv first second asked = λ kind same. asked kind (sym first.same ∙ (ap shard.number same ∙ second.same))

-- a candidate of the whole between types of the shard is one of the shard
own_form : (kinds : Kinds) (count : ℕ) (shard : Shard) → IsNumbered shard → (inv : Invariant) (first : HasNumber shard inv.a) (second : HasNumber shard inv.b)
    → IsFirst count inv ⊎ IsPair kinds count inv
    → IsFirst shard.count (invariant inv.kind first.own second.own) ⊎ IsPair kinds shard.count (invariant inv.kind first.own second.own)
own_form kinds count shard numbered inv first second (inl h) = inl (record {
  kind = h.kind;
  a = numbered.apart first.own 0 first.below (omega arith) (first.same ∙ (h.a ∙ sym numbered.start));
  b_low = no_end shard numbered second.own inv.b second.same h.b_low;
  b_high = second.below;
})
own_form kinds count shard numbered inv first second (inr h) = inr (record {
  a_low = no_end shard numbered first.own inv.a first.same h.a_low;
  a_high = first.below;
  b_low = no_end shard numbered second.own inv.b second.same h.b_low;
  b_high = second.below;
  asked = own_asked kinds shard inv first second h.asked;
})

-- a shard lists, in its own numbers, exactly the candidates of the whole that it shows
pub own_reports : OwnReports
own_reports kinds count shard numbered inv candidate = (
  λ h. subst (λ (i : Invariant). IsShown i (words_of shard)) h.2 (own_shown kinds shard numbered h.0 h.1),
  λ h. listed h (occurs_here shard numbered inv.a h.first) (occurs_here shard numbered inv.b h.second),
)
  where
    listed : IsShown inv (words_of shard) → HasNumber shard inv.a → HasNumber shard inv.b → Lists kinds shard inv
    listed h first second =
        let own : Invariant = invariant inv.kind first.own second.own in
        let same : in_whole shard own ≡ inv = ap (λ x. invariant inv.kind x (shard.number second.own)) first.same ∙ ap (λ y. invariant inv.kind inv.a y) second.same in
        let form : IsFirst shard.count own ⊎ IsPair kinds shard.count own = own_form kinds count shard numbered inv first second ((candidates_tell kinds count inv).0 candidate) in
        let all : All (λ word. Holds own word) shard.words = All-members (λ word. Holds own word) shard.words (λ word c.
        holds_here (shard.count + 2) shard.number numbered.apart word
        (All-contains (λ v. Within (shard.count + 2) v) shard.words word numbered.within c)
        own.kind own.a own.b first.below second.below
        (All-contains (λ v. Holds (in_whole shard own) v) (words_of shard) (map shard.number word)
        (subst (λ (i : Invariant). All (λ v. Holds i v) (words_of shard)) (sym same) h.of_every)
        (Contains-map (λ v. map shard.number v) shard.words word c))) in
        (own, (mined_tells kinds shard.count shard.words own).1 (record { candidate = (candidates_tell kinds shard.count own).1 form; of_every = all }), same)

-- a candidate is mined of the whole exactly where each shard lists it or lacks what it speaks of
pub reports_join : ReportsJoin
reports_join kinds count whole shards numbered cut inv = (
  λ m.
      let h : Contains (candidates_for kinds count) inv × All (λ words. IsShown inv words ⊎ Lacks inv words) (map words_of shards) = (shards_join kinds count whole (map words_of shards) cut inv).0 m in (
        h.0,
        All-members (λ shard. Lists kinds shard inv ⊎ Lacks inv (words_of shard)) shards (λ shard c.
            elim (All-contains (λ words. IsShown inv words ⊎ Lacks inv words) (map words_of shards) (words_of shard) h.1 (Contains-map words_of shards shard c)) [
              | inl s ↦ inl ((own_reports kinds count shard (All-contains IsNumbered shards shard numbered c) inv h.0).1 s)
              | inr n ↦ inr n
            ]),
      ),
  λ h. (shards_join kinds count whole (map words_of shards) cut inv).1 (
    h.0,
    All-members (λ words. IsShown inv words ⊎ Lacks inv words) (map words_of shards) (λ words c.
        let o : (shard : Shard) × Contains shards shard × (words_of shard ≡ words) = Contains-unmap words_of shards words c in
        subst (λ (ws : List (List ℕ)). IsShown inv ws ⊎ Lacks inv ws) o.2 (back h.0 o.0 o.1 (All-contains (λ shard. Lists kinds shard inv ⊎ Lacks inv (words_of shard)) shards o.0 h.1 o.1))),
  ),
)
  where
    back : Contains (candidates_for kinds count) inv → (shard : Shard) → Contains shards shard → Lists kinds shard inv ⊎ Lacks inv (words_of shard) → IsShown inv (words_of shard) ⊎ Lacks inv (words_of shard)
    back candidate shard c (inl l) = inl ((own_reports kinds count shard (All-contains IsNumbered shards shard numbered c) inv candidate).0 l)
    back candidate shard c (inr n) = inr n

-- NeverFollowedBy is of each of the kinds
asks_never : (kinds : Kinds) (a : ℕ) → IsAsked kinds (invariant NF a a)
asks_never Three a = λ e. let z : NF ≡ IB = e in cc
asks_never Four a = λ e. absurd (let z : NF ≡ IB = e in cc)

-- where a type may be interrupted, that no trace has it twice is a candidate too
never_too : (kinds : Kinds) (count a b : ℕ) → Contains (candidates_for kinds count) (invariant IB a b) → Contains (candidates_for kinds count) (invariant NF a a)
never_too kinds count a b c =
    (candidates_tell kinds count (invariant NF a a)).1 (elim ((candidates_tell kinds count (invariant IB a b)).0 c) [
      | inl f ↦ absurd (let z : IB ≡ AF = f.kind in cc)
      | inr p ↦ inr (record { a_low = p.a_low; a_high = p.a_high; b_low = p.a_low; b_high = p.a_high; asked = asks_never kinds a })
    ])

-- what a shard lacks of InterruptedBy is told by its types and its list
pub lack_is_told : LackIsTold
lack_is_told kinds count shard numbered a b candidate = (
  λ lacks. elim lacks [
    | inl n ↦ inl n
    | inr n ↦ elim (occurs a (words_of shard)) [
      | inl o ↦ inr (n.0, own.1 (record { first = o; second = o; of_every = n.1 }))
      | inr m ↦ inl m
    ]
  ],
  λ told. elim told [ inl n ↦ inl n | inr n ↦ inr (n.0, (own.0 n.1).of_every) ],
)
  where
    own : Lists kinds shard (invariant NF a a) ↔ IsShown (invariant NF a a) (words_of shard)
    own = own_reports kinds count shard numbered (invariant NF a a) (never_too kinds count a b candidate)

some_word : (words : List (List ℕ)) → All IsWord words → 0 < length words → Occurs 0 words
some_word [] h lt = absurd (omega arith)
some_word (word ∷ words) h lt = (word, Contains-first word words, starts word (All-contains IsWord (word ∷ words) word h (Contains-first word words)))

-- which types occur in a shard is told by its list of types, and that it has a trace by its words
pub types_tell : TypesTell
types_tell shard numbered = (
  (
    λ o.
        let w : (word : List ℕ) × Contains shard.words word × (map shard.number word ≡ o.0) = Contains-unmap (λ word. map shard.number word) shard.words o.0 o.1 in
        omega (arith, w.1.1),
    λ lt. subst (λ x. Occurs x (words_of shard)) numbered.start (occurs_there shard 0 (some_word shard.words numbered.words lt)),
  ),
  λ y low. (
    λ o. let n : HasNumber shard y = occurs_here shard numbered y o in (n.own, no_end shard numbered n.own y n.same low, n.below, n.same),
    λ n. subst (λ x. Occurs x (words_of shard)) n.3 (occurs_there shard n.0 (numbered.occur n.0 n.1 n.2)),
  ),
)
