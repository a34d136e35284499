-- What is found grows until it is all that is reached.
use Rattle.std.proofs.Common.{◌≡◌, ◌≢◌, ℕ, zero, suc, ◌+◌, ◌-◌, ◌*◌, ◌/◌, ◌%◌, ◌<◌, ◌≤◌, ◌||◌, Bool, true, false, set, List, [], ◌∷◌, length, get_or, slice_get, Some, Contains, refl, sym, ap, ◌∙◌, subst, subst₂, arith, inl, inr}
use Rattle.std.proofs.lemmas.Bool.{cases_eq, cases_lt, or_cases, or_parts, false≢true, true≢false}
use Rattle.std.proofs.lemmas.List.{get_or_default, get_or-reverse, get_or-set_same, get_or-set_other}
use Rattle.std.proofs.lemmas.List.Elements.{All-contains}
use Rattle.limits.specs.declared.TheConstants.{MAX_PARTITIONS, INITIAL}
use Rattle.invariants.specs.declared.Invariant.{Invariant}
use Rattle.invariants.specs.Monitors.{step, run}
use Rattle.partition_model.specs.Graphs.{Graph, Walk, word}
use Rattle.partition_graph.specs.declared.links.Link.{Link}
use Rattle.partition_graph.specs.declared.view.View.{View}
use Rattle.partition_graph.specs.declared.view.View.TheVariants.{Plain, Merged}
use Rattle.partition_graph.specs.Links.{AscendLinks, AreLinksOf, HasIds}
use Rattle.partition_graph.specs.Seen.{seen}
use Rattle.clashes.specs.Growing.{as_passed}
use Rattle.clashes.proofs.Passing.{edges_passed, passed_size}
use Rattle.labelling.specs.declared.layout.TheConstants.{STATES, LAST_PHASE}
use Rattle.labelling.specs.Found.{Found, IsReachedIn, IsExact, Grows, GrowsIf, HasStart, IsCarried, IsFollowed, IsNothing, IsSameBut, IsPropagated, IsStill}
use Rattle.labelling.specs.Phases.{phase_of, first_phase, turn}
use Rattle.labelling.specs.Rounds.{ArePropagated, IsAhead, IsBehind, KeepsAhead, KeepsBehind}
use Rattle.labelling.proofs.Turning.{phase_phase, turn_low, first_low, last_stays}

-- where nothing is found, what is found is the same
pub grows_none : (found : Found) → Grows found found false
grows_none found = record { same = refl; keeps = λ k p s on. on; fewer = omega arith; still = λ _. refl; falls = λ e. absurd (false≢true e) }

-- what grows twice has grown
pub grows_more : (first old new : Found) (changed more : Bool) → Grows first old changed → Grows old new more → Grows first new (changed || more)
grows_more first old new changed more a b = record {
  same = b.same ∙ a.same;
  keeps = λ k p s on. b.keeps k p s (a.keeps k p s on);
  fewer = omega (arith, a.fewer, b.fewer);
  still = λ off. let h = or_parts changed more off in b.still h.1 ∙ a.still h.0;
  falls = λ on. elim (or_cases changed more on) [ inl was ↦ omega (arith, a.falls was, b.fewer) | inr now ↦ omega (arith, b.falls now, a.fewer) ];
}

-- what was carried stays, as more is found before it and behind it
pub carried_on : (first old new last : Found) (x y : Bool) (p s typ q t : ℕ) → Grows first old x → IsCarried p s typ q t old new → Grows new last y
    → IsCarried p s typ q t first last
carried_on first old new last x y p s typ q t a h b k inv at on made =
    b.keeps k q t (h k inv (subst (λ (is : List Invariant). slice_get is k ≡ Some inv) (sym a.same) at) (a.keeps k p s on) made)

-- with one more move, the first moves along a link are carried
pub moves_on : (p q typ place : ℕ) (first old new : Found) (changed more : Bool) → Grows first old changed → Grows old new more
    → ((m : ℕ) → m < place → IsCarried p (m / STATES) typ q (m % STATES) first old) → IsCarried p (place / STATES) typ q (place % STATES) old new
    → (m : ℕ) → m < place + 1 → IsCarried p (m / STATES) typ q (m % STATES) first new
moves_on p q typ place first old new changed more a b before here m below = elim (cases_eq m place) [
  | inl same ↦
      subst (λ (z : ℕ). IsCarried p (z / STATES) typ q (z % STATES) first new) (sym same)
      (carried_on first old new new changed false p (place / STATES) typ q (place % STATES) a here (grows_none new))
  | inr ne ↦ carried_on first first old new false more p (m / STATES) typ q (m % STATES) (grows_none first) (before m (omega (arith, below, ne))) b
]

-- where all moves along a link are carried, what was found at its beginning is propagated
pub propagated_of_moves : (p q typ : ℕ) (old new : Found) → IsCarried p LAST_PHASE typ q LAST_PHASE old new
    → ((m : ℕ) → m < 6 → IsCarried p (m / STATES) typ q (m % STATES) old new) → IsPropagated p typ q old new
propagated_of_moves p q typ old new last h s t low next stays = elim (cases_eq s LAST_PHASE) [
  | inl same ↦ subst₂ (λ (y z : ℕ). IsCarried p y typ q z old new) (sym same) (sym (stays same)) last
  | inr ne ↦
      let first : (s * STATES + t) / STATES ≡ s = omega arith in
      let second : (s * STATES + t) % STATES ≡ t = omega arith in
      subst₂ (λ (y z : ℕ). IsCarried p y typ q z old new) first second (h (s * STATES + t) (omega (arith, low, next, ne)))
]

-- two steps that find more at one id alone find more there alone
pub same_but_more : (q : ℕ) (first old new : Found) → IsSameBut q first old → IsSameBut q old new → IsSameBut q first new
same_but_more q first old new a b k p s ne low on = a k p s ne low (b k p s ne low on)

-- what has grown has so whatever the flag says of more
pub grows_if : (old new : Found) (more : Bool) → Grows old new more → GrowsIf old new more
grows_if old new more g = record { same = g.same; keeps = g.keeps; fewer = g.fewer; falls = g.falls }

-- and also where nothing is left to be followed
pub grows_quiet : (old new : Found) (more : Bool) → Grows old new more → GrowsIf old new false
grows_quiet old new more g = record { same = g.same; keeps = g.keeps; fewer = g.fewer; falls = λ e. absurd (false≢true e) }

-- what grows twice has grown
pub grows_if_more : (first old new : Found) (again more : Bool) → GrowsIf first old again → GrowsIf old new more → GrowsIf first new (again || more)
grows_if_more first old new again more a b = record {
  same = b.same ∙ a.same;
  keeps = λ k p s on. b.keeps k p s (a.keeps k p s on);
  fewer = omega (arith, a.fewer, b.fewer);
  falls = λ on. elim (or_cases again more on) [ inl was ↦ omega (arith, a.falls was, b.fewer) | inr now ↦ omega (arith, b.falls now, a.fewer) ];
}

-- an id without a mark is another than the one that was marked
marked_apart : (marks : List Bool) (q r : ℕ) → q < length marks → IsStill (set marks q true) r → r ≢ q
marked_apart marks q r inside still e = true≢false (sym (ap (λ (z : ℕ). get_or (set marks q true) z false) e ∙ get_or-set_same marks q true false inside) ∙ still)

-- it was without one before
unmarked_before : (marks : List Bool) (q r : ℕ) → r ≢ q → IsStill (set marks q true) r → IsStill marks r
unmarked_before marks q r ne still = sym (get_or-set_other marks q r true false ne) ∙ still

-- an id ahead is another than those behind
ahead_apart : (from_end : Bool) (u p r : ℕ) → IsAhead from_end u p → IsBehind from_end u r → r ≢ p
ahead_apart false u p r a b e = absurd (omega (arith, a, b, e))
ahead_apart true u p r a b e = absurd (omega (arith, a, b, e))

-- a pass is behind itself
behind_own : (from_end : Bool) (u : ℕ) → IsBehind from_end u u
behind_own false u = omega arith
behind_own true u = omega arith

module _ (p q x : ℕ) (recent was : List Bool) (from_end : Bool) (old new : Found) where
  -- a link at whose beginning nothing is new is followed as it is
  pub skipped : IsStill recent p → IsFollowed p x q recent was was old old
  skipped a h still = h a still

  -- where nothing is found, what was propagated is propagated still, ahead and behind
  pub skipped_ahead : KeepsAhead recent recent was was old old
  skipped_ahead r y z a still = (a, still, λ h. h)

  pub skipped_behind : KeepsBehind from_end p was was old old
  skipped_behind r y z b still = (still, λ h. h)

  -- a link along which nothing more is found is followed, and its end is not marked
  pub followed_still : new ≡ old → IsPropagated p x q old new → IsFollowed p x q recent was was old new
  followed_still same h _ _ = subst (λ (f : Found). IsPropagated p x q f new) (sym same) h

  -- where nothing more is found along a link, what was propagated is propagated still, ahead and behind
  pub still_ahead : new ≡ old → KeepsAhead recent recent was was old new
  still_ahead same r y z a still = (a, still, λ h. subst (λ (f : Found). IsPropagated r y z f f) (sym same) h)

  pub still_behind : new ≡ old → KeepsBehind from_end p was was old new
  still_behind same r y z b still = (still, λ h. subst (λ (f : Found). IsPropagated r y z f f) (sym same) h)

  -- what was propagated from another id than the end is propagated still
  propagated_again : (r y z : ℕ) (changed : Bool) → Grows old new changed → IsSameBut q old new → r ≢ q → IsPropagated r y z old new → IsPropagated r y z new new
  propagated_again r y z changed grows but ne h s t low next stays k inv at on =
      h s t low next stays k inv (subst (λ (is : List Invariant). slice_get is k ≡ Some inv) grows.same at) (but k r s ne low on)

  propagated_more : (r y z : ℕ) (changed : Bool) → Grows old new changed → IsSameBut q old new → r ≢ q → IsPropagated r y z old old → IsPropagated r y z new new
  propagated_more r y z changed grows but ne h =
      propagated_again r y z changed grows but ne (λ s t low next stays k inv at on made. grows.keeps k z t (h s t low next stays k inv at on made))

  -- a link along which more is found is followed, and its end is marked for the next pass
  pub followed_more : (changed : Bool) → q < length was → Grows old new changed → IsSameBut q old new → IsPropagated p x q old new
      → IsFollowed p x q recent was (set was q true) old new
  followed_more changed inside grows but h _ still = propagated_again p x q changed grows but (marked_apart was q p inside still) h

  -- then what was propagated from ids without a mark is propagated still, ahead and behind
  pub more_ahead : (changed : Bool) → q < length was → Grows old new changed → IsSameBut q old new → KeepsAhead recent recent was (set was q true) old new
  more_ahead changed inside grows but r y z a still =
      let ne : r ≢ q = marked_apart was q r inside still in (a, unmarked_before was q r ne still, propagated_more r y z changed grows but ne)

  pub more_behind : (changed : Bool) → q < length was → Grows old new changed → IsSameBut q old new → KeepsBehind from_end p was (set was q true) old new
  more_behind changed inside grows but r y z b still =
      let ne : r ≢ q = marked_apart was q r inside still in (unmarked_before was q r ne still, propagated_more r y z changed grows but ne)

  -- a link along which more is found is followed, and its end, which is ahead, is marked for this pass
  pub followed_on : (changed : Bool) → IsAhead from_end p q → Grows old new changed → IsSameBut q old new → IsPropagated p x q old new → IsFollowed p x q recent was was old new
  followed_on changed a grows but h _ _ = propagated_again p x q changed grows but (ahead_apart from_end p q p a (behind_own from_end p)) h

  -- then too what was propagated from ids without a mark is propagated still, ahead and behind
  pub on_ahead : (changed : Bool) → q < length recent → Grows old new changed → IsSameBut q old new → KeepsAhead recent (set recent q true) was was old new
  on_ahead changed inside grows but r y z a still =
      let ne : r ≢ q = marked_apart recent q r inside a in (unmarked_before recent q r ne a, still, propagated_more r y z changed grows but ne)

  pub on_behind : (changed : Bool) → IsAhead from_end p q → Grows old new changed → IsSameBut q old new → KeepsBehind from_end p was was old new
  on_behind changed a grows but r y z b still = (still, propagated_more r y z changed grows but (ahead_apart from_end p q r a b))

-- no link of a list that ascends begins before its first place
ascend_first : (p q : ℕ) (links : List Link) (i : ℕ) (x : Link) → AscendLinks p q links → i < length links → get_or links i x ≡ x → p ≤ x.from
ascend_first p q [] i x h l e = absurd (omega (arith, l))
ascend_first p q (y ∷ ys) zero x h l e =
    let low : p ≤ y.from = elim h.0 [ inl a ↦ omega (arith, a) | inr b ↦ omega (arith, b.0) ] in
    subst (λ (z : Link). p ≤ z.from) e low
ascend_first p q (y ∷ ys) (suc i) x h l e =
    let low : p ≤ y.from = elim h.0 [ inl a ↦ omega (arith, a) | inr b ↦ omega (arith, b.0) ] in
    let rest : y.from ≤ x.from = ascend_first y.from (suc y.to) ys i x h.1 (omega (arith, l)) e in
    omega (arith, low, rest)

-- a later link begins no earlier
ascend_two : (p q : ℕ) (links : List Link) (i j : ℕ) (x y : Link) → AscendLinks p q links → i ≤ j → j < length links → get_or links i x ≡ x → get_or links j y ≡ y → x.from ≤ y.from
ascend_two p q [] i j x y h le l ex ey = absurd (omega (arith, l))
ascend_two p q (z ∷ zs) zero zero x y h le l ex ey = subst (λ (w : Link). w.from ≤ y.from) ex (subst (λ (w : Link). z.from ≤ w.from) ey (omega arith))
ascend_two p q (z ∷ zs) zero (suc j) x y h le l ex ey = subst (λ (w : Link). w.from ≤ y.from) ex (ascend_first z.from (suc z.to) zs j y h.1 (omega (arith, l)) ey)
ascend_two p q (z ∷ zs) (suc i) zero x y h le l ex ey = absurd (omega (arith, le))
ascend_two p q (z ∷ zs) (suc i) (suc j) x y h le l ex ey = ascend_two z.from (suc z.to) zs i j x y h.1 (omega (arith, le)) (omega (arith, l)) ex ey

-- a pass takes the links of an id together: those that it took so far begin behind
pub passed_order : (from_end : Bool) (links : List Link) (i j : ℕ) (x y : Link) → AscendLinks 0 0 links → i ≤ j → j < length links
    → get_or (as_passed from_end links) i x ≡ x → get_or (as_passed from_end links) j y ≡ y → IsBehind from_end y.from x.from
passed_order false links i j x y h le l ex ey = ascend_two 0 0 links i j x y h le l ex ey
passed_order true links i j x y h le l ex ey =
    ascend_two 0 0 links (length links - 1 - j) (length links - 1 - i) y x h (omega (arith, le, l)) (omega (arith, le, l))
    (sym (get_or-reverse links j y l) ∙ ey) (sym (get_or-reverse links i x (omega (arith, le, l))) ∙ ex)

-- what is found at the beginning of a link was followed, but at ids that are marked, and from a place on at those that were new
abbrev pub ArePropagatedFrom : List Link → Graph → ℕ → List Bool → List Bool → Found → Type 0
ArePropagatedFrom links g index recent marks found =
    (i : ℕ) (link : Link) → i < length links → get_or links i link ≡ link → IsStill marks link.from → (index ≤ i → IsStill recent link.from)
    → IsPropagated link.from (g.typ link.to) link.to found found

-- with one more link followed, all links before the next place are
pub links_more : (from_end : Bool) (links : List Link) (g : Graph) (index : ℕ) (link none : Link) (before recent was marks : List Bool) (old new : Found)
    → index < length links → link ≡ get_or links index none → ((i : ℕ) (other : Link) → i ≤ index → get_or links i other ≡ other → IsBehind from_end link.from other.from)
    → KeepsAhead before recent was marks old new → KeepsBehind from_end link.from was marks old new → IsFollowed link.from (g.typ link.to) link.to before was marks old new
    → ArePropagatedFrom links g index before was old → ArePropagatedFrom links g (index + 1) recent marks new
links_more from_end links g index link none before recent was marks old new inside is order ahead behind here have i other below at still later = elim (cases_eq i index) [
  | inl same ↦
      let e : link ≡ other = is ∙ get_or_default links index none other inside ∙ ap (λ (z : ℕ). get_or links z other) (sym same) ∙ at in
      let own : get_or links index link ≡ link = sym (is ∙ get_or_default links index none link inside) in
      subst (λ (z : Link). IsPropagated z.from (g.typ z.to) z.to new new) e
      (here (λ rec w. have index link inside own w (λ _. rec)) (subst (λ (z : Link). IsStill marks z.from) (sym e) still))
  | inr ne ↦ elim (cases_lt i index) [
    | inl less ↦
        let k = behind other.from (g.typ other.to) other.to (order i other (omega (arith, less)) at) still in
        k.1 (have i other below at k.0 (λ le. absurd (omega (arith, less, le))))
    | inr more ↦
        let k = ahead other.from (g.typ other.to) other.to (later (omega (arith, more, ne))) still in
        k.2 (have i other below at k.1 (λ _. k.0))
  ]
]

-- before the first link all is followed but what was new
pub links_begin : (from_end : Bool) (links : List Link) (g : Graph) (recent marks : List Bool) (found : Found) → AreLinksOf links g → ArePropagated links g recent found
    → ArePropagatedFrom (as_passed from_end links) g 0 recent marks found
links_begin from_end links g recent marks found are h i link below at still rec =
    h link ((are.edges link).1 ((edges_passed from_end links g are link).0 (i, below, at))) (rec (omega arith))

-- behind the last link all is followed but what is marked
pub links_all : (from_end : Bool) (links : List Link) (g : Graph) (index : ℕ) (recent marks : List Bool) (found : Found) → AreLinksOf links g → length links ≤ index
    → ArePropagatedFrom (as_passed from_end links) g index recent marks found → ArePropagated links g marks found
links_all from_end links g index recent marks found are past h link there still =
    let passed : Contains (as_passed from_end links) link = (edges_passed from_end links g are link).1 ((are.edges link).0 there) in
    let inside : passed.0 < length (as_passed from_end links) = passed.1 in
    h passed.0 link inside passed.2 still (λ le. absurd (omega (arith, le, inside, past, passed_size from_end links)))

-- at first only INITIAL is new
pub first_propagated : (links : List Link) (g : Graph) (none begun : Found) (marks : List Bool) → AreLinksOf links g → IsNothing none → begun.invs ≡ none.invs → IsSameBut INITIAL none begun
    → INITIAL < length marks → ArePropagated links g (set marks INITIAL true) begun
first_propagated links g none begun marks are nothing same but inside link there still s t low next stays k inv at on made =
    let ids : HasIds link = All-contains HasIds links link are.ids there in
    let ne : link.from ≢ INITIAL = λ e. true≢false (sym (ap (λ (z : ℕ). get_or (set marks INITIAL true) z false) e ∙ get_or-set_same marks INITIAL true false inside) ∙ still) in
    absurd (false≢true (sym (nothing.has k link.from s ids.0 low) ∙ but k link.from s ne low on))

module _ (g : Graph) (links : List Link) (found : Found) (are : AreLinksOf links g) (sound : IsReachedIn g found)
    (closed : (link : Link) → Contains links link → IsPropagated link.from (g.typ link.to) link.to found found) where
  along : (k : ℕ) (inv : Invariant) → slice_get found.invs k ≡ Some inv → (p : ℕ) (walk : List ℕ) (q s : ℕ) → p < MAX_PARTITIONS → s < STATES
      → Walk g p walk q → found.has k p s ≡ true → found.has k q (phase_of inv.kind (run inv (phase_of inv.kind s) (word g walk))) ≡ true
  along k inv at p [] q s in_p low w on = subst₂ (λ (x y : ℕ). found.has k x y ≡ true) w (sym (phase_phase inv.kind s)) on
  along k inv at p (r ∷ rs) q s in_p low w on =
      let link : Link = record { from = p; to = r } in
      let there : Contains links link = (are.edges link).1 w.0 in
      let ids : HasIds link = All-contains HasIds links link are.ids there in
      let next : turn inv s (g.typ r) < STATES = turn_low inv s (g.typ r) low in
      subst (λ (x : ℕ). found.has k q (phase_of inv.kind (run inv x (word g rs))) ≡ true) (phase_phase inv.kind (step inv (phase_of inv.kind s) (g.typ r)))
      (along k inv at r rs q (turn inv s (g.typ r)) ids.1 next w.1
      (closed link there s (turn inv s (g.typ r)) low next (last_stays inv g p s (g.typ r) (sound k inv p s at in_p low on)) k inv at on refl))

  -- where all is followed, what is found is what is reached
  pub exact : g.typ INITIAL ≡ INITIAL → ((t : ℕ) → t < STATES → HasStart t found) → IsExact g found
  exact typ starts k inv p s at in_p low = (
    λ on. sound k inv p s at in_p low on,
    λ r.
        let first : first_phase inv < STATES = first_low inv in
        let begins : phase_of inv.kind (first_phase inv) ≡ step inv 0 (g.typ INITIAL) = phase_phase inv.kind (step inv 0 INITIAL) ∙ ap (λ (x : ℕ). step inv 0 x) (sym typ) in
        let is : phase_of inv.kind (run inv (phase_of inv.kind (first_phase inv)) (word g r.0)) ≡ s =
        ap (λ (x : ℕ). phase_of inv.kind (run inv x (word g r.0))) begins ∙ ap (λ (x : ℕ). phase_of inv.kind x) r.2 ∙ phase_phase inv.kind s in
        subst (λ (x : ℕ). found.has k p x ≡ true) is
        (along k inv at INITIAL r.0 p (first_phase inv) (omega arith) first r.1 (starts (first_phase inv) first k inv at refl)),
  )

-- INITIAL has its own type in each view
pub initial_typ : (v : View) → (seen v).typ INITIAL ≡ INITIAL
initial_typ (Plain g) = refl
initial_typ (Merged g p q) = refl

-- nothing found is all reached
pub nothing_reached : (g : Graph) (found : Found) → IsNothing found → IsReachedIn g found
nothing_reached g found none k inv p s at in_p low on = absurd (false≢true (sym (none.has k p s in_p low) ∙ on))

-- with one more phase, the first of the phases are found in which monitors are at INITIAL
pub starts_more : (phase : ℕ) (old new : Found) → new.invs ≡ old.invs → ((k p s : ℕ) → old.has k p s ≡ true → new.has k p s ≡ true)
    → ((t : ℕ) → t < phase → HasStart t old) → HasStart phase new → (t : ℕ) → t < phase + 1 → HasStart t new
starts_more phase old new same keeps before here t below = elim (cases_eq t phase) [
  | inl e ↦ subst (λ (z : ℕ). HasStart z new) (sym e) here
  | inr ne ↦ λ k inv at made. keeps k INITIAL t (before t (omega (arith, below, ne)) k inv (subst (λ (is : List Invariant). slice_get is k ≡ Some inv) same at) made)
]

-- what is the same at all ids in use is exact where the other is
pub exact_same : (g : Graph) (old new : Found) → new.invs ≡ old.invs → ((k p s : ℕ) → p < MAX_PARTITIONS → s < STATES → new.has k p s ≡ old.has k p s)
    → IsExact g old → IsExact g new
exact_same g old new same has h k inv p s at in_p low =
    let was = h k inv p s (subst (λ (is : List Invariant). slice_get is k ≡ Some inv) same at) in_p low in
    (λ on. was.0 (sym (has k p s in_p low) ∙ on), λ r. has k p s in_p low ∙ was.1 r)

-- what INITIAL begins with is found still where more is
pub starts_on : (t : ℕ) (old new : Found) → new.invs ≡ old.invs → ((k p s : ℕ) → old.has k p s ≡ true → new.has k p s ≡ true)
    → HasStart t old → HasStart t new
starts_on t old new same keeps h k inv at made = keeps k INITIAL t (h k inv (subst (λ (is : List Invariant). slice_get is k ≡ Some inv) same at) made)
