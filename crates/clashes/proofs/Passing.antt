-- Passes over the links of a graph.
use Rattle.std.proofs.Common.{◌≡◌, ◌≢◌, ◌↔◌, ℕ, ◌+◌, ◌-◌, ◌<◌, ◌≤◌, ◌⊎◌, Bool, true, false, ◌||◌, List, length, get_or, reverse, take, refl, sym, ap, ◌∙◌, subst, arith, inl, inr}
use Rattle.std.specs.List.{All, Contains}
use Rattle.std.proofs.lemmas.List.{get_or_default, get_or-reverse, length-reverse, reverse-reverse, take_all}
use Rattle.std.proofs.lemmas.List.Elements.{All-more}
use Rattle.std.proofs.lemmas.Bool.{cases_Bool, cases_lt, or_parts, both_ways}
use Rattle.limits.specs.declared.TheConstants.{MAX_PARTITIONS}
use Rattle.bit_rows.specs.Tables.{is_set}
use Rattle.partition_model.specs.Graphs.{Graph}
use Rattle.partition_graph.specs.declared.links.Link.{Link}
use Rattle.partition_graph.specs.Links.{AreLinksOf, HasIds}
use Rattle.clashes.specs.Marks.{Marks}
use Rattle.clashes.specs.Changes.{IsEntered, IsFollowed, TellsGrowth, off_in}
use Rattle.clashes.specs.Growing.{as_passed, HasEntered, IsClosedAt, IsGrown, IsStill, IsClosedBut, IsFollowedIfNew, IsNoted}
use Rattle.clashes.proofs.Sound.{get_back, grown_then, grown_none, entered_grown, entered_has, has_stays, followed_grown, followed_closed}

-- the list has each edge of the graph as a link, and no others
abbrev pub AreEdgesOf : List Link → Graph → Type 0
AreEdgesOf links g = (link : Link) → Contains links link ↔ (g.edge link.from link.to ≡ true)

-- what is in a list is in the list reversed
in_reversed : (links : List Link) (x : Link) → Contains links x → Contains (reverse links) x
in_reversed links x there =
    let k : ℕ = there.0 in
    let below : k < length links = there.1 in
    let back : length links - 1 - k < length links = omega (arith, below) in
    let again : length links - 1 - (length links - 1 - k) ≡ k = omega (arith, below) in (
      length links - 1 - k,
      subst (λ (n : ℕ). length links - 1 - k < n) (sym (length-reverse links)) back,
      get_or-reverse links (length links - 1 - k) x back ∙ ap (λ (i : ℕ). get_or links i x) again ∙ there.2,
    )

-- in either order they are the edges
pub edges_passed : (from_end : Bool) (links : List Link) (g : Graph) → AreLinksOf links g → AreEdgesOf (as_passed from_end links) g
edges_passed false links g h link = h.edges link
edges_passed true links g h link = (
  λ there. (h.edges link).0 (subst (λ (xs : List Link). Contains xs link) (reverse-reverse links) (in_reversed (reverse links) link there)),
  λ edge. in_reversed links link ((h.edges link).1 edge),
)

-- and as many
pub passed_size : (from_end : Bool) (links : List Link) → length (as_passed from_end links) ≡ length links
passed_size false links = refl
passed_size true links = length-reverse links

-- a link of the graph is an edge of it
pub link_edge : (links : List Link) (g : Graph) (k : ℕ) (d : Link) → AreEdgesOf links g → k < length links → g.edge (get_or links k d).from (get_or links k d).to ≡ true
link_edge links g k d h l = (h (get_or links k d)).0 (k, l, get_or_default links k (get_or links k d) d l)

-- both ends of an edge are ids that can be used
pub edges_below : (links : List Link) (g : Graph) → AreLinksOf links g → (u v : ℕ) → g.edge u v ≡ true → (u < MAX_PARTITIONS) × (v < MAX_PARTITIONS)
edges_below links g h u v edge =
    let link : Link = record { from = u; to = v } in
    let there : Contains links link = (h.edges link).1 edge in
    subst (λ (x : Link). HasIds x) there.2 (h.ids there.0 link there.1)

-- what holds along each link holds along each edge
pub along_edges : (links : List Link) (g : Graph) (n : ℕ) (P : ℕ → ℕ → Type 0) → AreLinksOf links g → length links ≤ n → All (λ link. P link.from link.to) (take n links)
    → (u v : ℕ) → g.edge u v ≡ true → P u v
along_edges links g n P h l all u v edge =
    let link : Link = record { from = u; to = v } in
    let there : Contains links link = (h.edges link).1 edge in
    let whole : All (λ (x : Link). P x.from x.to) links = subst (λ (xs : List Link). All (λ (x : Link). P x.from x.to) xs) (take_all n links l) all in
    subst (λ (x : Link). P x.from x.to) there.2 (whole there.0 link there.1)

-- of these links the marks are there that they give at once
abbrev pub AreEnteredSoFar : Graph → Marks → List Link → Type 0
AreEnteredSoFar g marks links = All (λ link. HasEntered marks g link.from link.to) links

-- with one more link, the marks are there that it gives at once, and what marks tell stays so
pub seed_step : (g : Graph) (links : List Link) (i : ℕ) (d : Link) (old now new : Marks) (typ : ℕ) → AreLinksOf links g → i < length links
    → IsEntered now new (get_or links i d).from (get_or links i d).to typ → typ ≡ g.typ (get_or links i d).to
    → IsGrown old now g × AreEnteredSoFar g now (take i links) → IsGrown old new g × AreEnteredSoFar g new (take (i + 1) links)
seed_step g links i d old now new typ h l f e s =
    let x : Link = get_or links i d in
    let edge : g.edge x.from x.to ≡ true = link_edge links g i d h.edges l in
    let f' : IsEntered now new x.from x.to (g.typ x.to) = subst (λ (t : ℕ). IsEntered now new x.from x.to t) e f in
    let step : IsGrown now new g = entered_grown g now new x.from x.to edge f' in
    let P : Link → Type 0 = λ link. HasEntered new g link.from link.to in (
      grown_then old now new g s.0 step,
      All-more P links i d l (λ k z m. has_stays now new g (get_or (take i links) k z).from (get_or (take i links) k z).to step (s.1 k z m))
          (entered_has now new g x.from x.to f'),
    )

-- where growth is told, no more marks are off than before
pub told_most : (old new : Marks) (changed : Bool) → TellsGrowth old new changed → off_in new ≤ off_in old
told_most old new changed t =
    elim (cases_Bool changed) [
      | inl hit ↦ let f : off_in new < off_in old = t.fewer hit in omega arith
      | inr miss ↦ let e : off_in new ≡ off_in old = ap off_in (t.same miss) in omega arith
    ]

-- two steps of which each tells growth tell whether either changed any
pub told_then : (a b c : Marks) (x y : Bool) → TellsGrowth a b x → TellsGrowth b c y → TellsGrowth a c (x || y)
told_then a b c true y t u =
    record {
      same = λ e. absurd (let z : true ≡ false = e in cc);
      fewer = λ e. let f : off_in b < off_in a = t.fewer refl in let m : off_in c ≤ off_in b = told_most b c y u in omega arith;
    }
told_then a b c false y t u =
    record {
      same = λ e. u.same e ∙ t.same refl;
      fewer = λ e. let f : off_in c < off_in b = u.fewer e in let m : off_in b ≤ off_in a = told_most a b false t in omega arith;
    }

-- along the link with number j nothing more propagates, but where marks are new, or were at a link that is still to come
abbrev pub IsClosedFrom : Graph → Marks → List Link → List Bool → List Bool → ℕ → Type 0
IsClosedFrom g marks links recent now i =
    (j : ℕ) (d : Link) → j < length links → IsStill now (get_or links j d).from → IsStill now (get_or links j d).to
    → (j < i) ⊎ (IsStill recent (get_or links j d).from × IsStill recent (get_or links j d).to)
    → IsClosedAt marks g (get_or links j d).from (get_or links j d).to

-- a pass that has come to this link: what it told so far, and where marks may still propagate
pub record IsPassing (g : Graph) (old marks : Marks) (changed : Bool) (links : List Link) (recent now : List Bool) (i : ℕ) : Type 0 where
  pub grown : IsGrown old marks g
  pub tells : TellsGrowth old marks changed
  pub closed : IsClosedBut old g recent → IsClosedFrom g marks links recent now i
  pub still : changed ≡ false → (p : ℕ) → IsStill now p

-- before a pass nothing was changed
pub pass_begins : (g : Graph) (marks : Marks) (links : List Link) (recent now : List Bool) → AreEdgesOf links g → ((p : ℕ) → IsStill now p)
    → IsPassing g marks marks false links recent now 0
pass_begins g marks links recent now h none =
    record {
      grown = grown_none marks g;
      tells = record { same = λ e. refl; fewer = λ e. absurd (let z : false ≡ true = e in cc) };
      closed = λ before j d l from to way. elim way [
        | inl less ↦ absurd (omega arith)
        | inr were ↦ before (get_or links j d).from (get_or links j d).to (link_edge links g j d h l) were.0 were.1
      ];
      still = λ e. none;
    }

-- marks that did not change at the ends of a link
closed_kept : (old new : Marks) (g : Graph) (u v a b t : ℕ) → IsFollowed old new u v t → a ≢ u → a ≢ v → b ≢ u → b ≢ v → IsClosedAt old g a b → IsClosedAt new g a b
closed_kept old new g u v a b t f au av bu bv c =
    record {
      fore = λ k inv get sat stay hit. f.fores k b bv ∙ c.fore k inv (get_back old new k inv f.invs get) sat stay (sym (f.fores k a av) ∙ hit);
      back = λ k inv get sat stay hit. f.backs k a au ∙ c.back k inv (get_back old new k inv f.invs get) sat stay (sym (f.backs k b bu) ∙ hit);
    }

other_end : (now' : List Bool) (a u : ℕ) → is_set now' u ≡ true → IsStill now' a → a ≢ u
other_end now' a u hit still e = both_ways (is_set now' a) still (ap (λ (x : ℕ). is_set now' x) e ∙ hit)

below_or_last : (j i : ℕ) → j < i + 1 → (j < i) ⊎ (j ≡ i)
below_or_last j i l =
    elim (cases_lt j i) [ inl less ↦ inl less | inr m ↦ inr (let e : j ≡ i = omega arith in e) ]

-- nothing changes where nothing is new
passed_by : (g : Graph) (marks : Marks) (links : List Link) (recent now : List Bool) (i : ℕ) (e : Link) → i < length links
    → IsStill recent (get_or links i e).from → IsStill recent (get_or links i e).to → IsClosedFrom g marks links recent now i → IsClosedFrom g marks links recent now (i + 1)
passed_by g marks links recent now i e li rf rt have j d l from to way =
    elim way [
      | inr were ↦ have j d l from to (inr were)
      | inl less ↦ elim (below_or_last j i less) [
        | inl before ↦ have j d l from to (inl before)
        | inr same ↦
            let k : get_or links i e ≡ get_or links j d = get_or_default links i e d li ∙ ap (λ (x : ℕ). get_or links x d) (sym same) in
            have j d l from to (inr (subst (λ (x : Link). IsStill recent x.from) k rf, subst (λ (x : Link). IsStill recent x.to) k rt))
      ]
    ]

-- marks that were taken along and did not change
unchanged : (g : Graph) (old new : Marks) (links : List Link) (recent now : List Bool) (i : ℕ) (e : Link) → i < length links → new ≡ old
    → IsFollowed old new (get_or links i e).from (get_or links i e).to (g.typ (get_or links i e).to) → IsClosedFrom g old links recent now i → IsClosedFrom g new links recent now (i + 1)
unchanged g old new links recent now i e li same f have j d l from to way =
    let kept : IsClosedAt old g (get_or links j d).from (get_or links j d).to → IsClosedAt new g (get_or links j d).from (get_or links j d).to =
    λ c. subst (λ (m : Marks). IsClosedAt m g (get_or links j d).from (get_or links j d).to) (sym same) c in
    elim way [
      | inr were ↦ kept (have j d l from to (inr were))
      | inl less ↦ elim (below_or_last j i less) [
        | inl before ↦ kept (have j d l from to (inl before))
        | inr here ↦
            let k : get_or links i e ≡ get_or links j d = get_or_default links i e d li ∙ ap (λ (x : ℕ). get_or links x d) (sym here) in
            subst (λ (x : Link). IsClosedAt new g x.from x.to) k (followed_closed old new g (get_or links i e).from (get_or links i e).to f same)
      ]
    ]

-- marks that changed are new at both ends
noted : (g : Graph) (old new : Marks) (links : List Link) (recent now now' : List Bool) (i : ℕ) (e : Link) → i < length links
    → IsFollowed old new (get_or links i e).from (get_or links i e).to (g.typ (get_or links i e).to) → IsNoted now now' (get_or links i e).from (get_or links i e).to
    → IsClosedFrom g old links recent now i → IsClosedFrom g new links recent now' (i + 1)
noted g old new links recent now now' i e li f n have j d l from to way =
    let u : ℕ = (get_or links i e).from in
    let v : ℕ = (get_or links i e).to in
    let a : ℕ = (get_or links j d).from in
    let b : ℕ = (get_or links j d).to in
    let au : a ≢ u = other_end now' a u n.from from in
    let av : a ≢ v = other_end now' a v n.to from in
    let bu : b ≢ u = other_end now' b u n.from to in
    let bv : b ≢ v = other_end now' b v n.to to in
    let from' : IsStill now a = sym (n.others a au av) ∙ from in
    let to' : IsStill now b = sym (n.others b bu bv) ∙ to in
    let kept : IsClosedAt old g a b → IsClosedAt new g a b = λ c. closed_kept old new g u v a b (g.typ v) f au av bu bv c in
    elim way [
      | inr were ↦ kept (have j d l from' to' (inr were))
      | inl less ↦ elim (below_or_last j i less) [
        | inl before ↦ kept (have j d l from' to' (inl before))
        | inr here ↦
            let k : get_or links j d ≡ get_or links i e = ap (λ (x : ℕ). get_or links x d) here ∙ sym (get_or_default links i e d li) in
            absurd (au (ap (λ (x : Link). x.from) k))
      ]
    ]

-- a pass goes on by one link
pub pass_step : (g : Graph) (links : List Link) (i : ℕ) (d : Link) (old marks new : Marks) (typ : ℕ) (changed more : Bool) (recent now now' : List Bool) → AreEdgesOf links g → i < length links
    → IsFollowedIfNew marks new (get_or links i d).from (get_or links i d).to typ recent now → TellsGrowth marks new more → typ ≡ g.typ (get_or links i d).to
    → (more ≡ true → IsNoted now now' (get_or links i d).from (get_or links i d).to) → (more ≡ false → now' ≡ now)
    → IsPassing g old marks changed links recent now i → IsPassing g old new (changed || more) links recent now' (i + 1)
pass_step g links i d old marks new typ changed more recent now now' h l f t e note none s =
    let u : ℕ = (get_or links i d).from in
    let v : ℕ = (get_or links i d).to in
    let edge : g.edge u v ≡ true = link_edge links g i d h l in
    let quiet : (changed || more) ≡ false → (p : ℕ) → IsStill now' p =
    λ z p. let parts : (changed ≡ false) × (more ≡ false) = or_parts changed more z in
    subst (λ (x : List Bool). IsStill x p) (sym (none parts.1)) (s.still parts.0 p) in
    elim f.new_or_still [
      | inl went ↦
          let f' : IsFollowed marks new u v (g.typ v) = subst (λ (y : ℕ). IsFollowed marks new u v y) e went in
          record {
            grown = grown_then old marks new g s.grown (followed_grown g marks new u v edge f');
            tells = told_then old marks new changed more s.tells t;
            closed = λ before. elim (cases_Bool more) [
              | inl hit ↦ noted g marks new links recent now now' i d l f' (note hit) (s.closed before)
              | inr miss ↦ subst (λ (x : List Bool). IsClosedFrom g new links recent x (i + 1)) (sym (none miss)) (unchanged g marks new links recent now i d l (t.same miss) f' (s.closed before))
            ];
            still = quiet;
          }
      | inr stood ↦
          let miss : more ≡ false = elim (cases_Bool more) [
            | inl hit ↦ let less : off_in new < off_in marks = t.fewer hit in let same : off_in new ≡ off_in marks = ap off_in stood.0 in absurd (omega arith)
            | inr no_more ↦ no_more
          ] in
          record {
            grown = subst (λ (m : Marks). IsGrown old m g) (sym stood.0) s.grown;
            tells = told_then old marks new changed more s.tells t;
            closed = λ before. subst (λ (x : List Bool). IsClosedFrom g new links recent x (i + 1)) (sym (none miss))
                (subst (λ (m : Marks). IsClosedFrom g m links recent now (i + 1)) (sym stood.0) (passed_by g marks links recent now i d l stood.1 stood.2 (s.closed before)));
            still = quiet;
          }
    ]

-- the same for a link that is the one at this place
pub pass_taken : (g : Graph) (links : List Link) (i : ℕ) (x : Link) (old marks new : Marks) (typ : ℕ) (changed more : Bool) (recent now now' : List Bool) → AreEdgesOf links g → i < length links
    → x ≡ get_or links i x → IsFollowedIfNew marks new x.from x.to typ recent now → TellsGrowth marks new more → typ ≡ g.typ x.to
    → (more ≡ true → IsNoted now now' x.from x.to) → (more ≡ false → now' ≡ now)
    → IsPassing g old marks changed links recent now i → IsPassing g old new (changed || more) links recent now' (i + 1)
pass_taken g links i x old marks new typ changed more recent now now' h l is f t e note none s =
    pass_step g links i x old marks new typ changed more recent now now' h l (subst (λ (y : Link). IsFollowedIfNew marks new y.from y.to typ recent now) is f) t
    (e ∙ ap (λ (y : Link). g.typ y.to) is) (λ hit. subst (λ (y : Link). IsNoted now now' y.from y.to) is (note hit)) none s

-- behind a pass nothing more propagates but where marks are new
pub pass_closes : (g : Graph) (links : List Link) (n : ℕ) (marks : Marks) (recent now : List Bool) → AreEdgesOf links g → length links ≤ n → IsClosedFrom g marks links recent now n → IsClosedBut marks g now
pass_closes g links n marks recent now h l c u v edge from to =
    let link : Link = record { from = u; to = v } in
    let there : Contains links link = (h link).1 edge in
    let k : link ≡ get_or links there.0 link = sym there.2 in
    let below : there.0 < n = let b : there.0 < length links = there.1 in omega arith in
    subst (λ (x : Link). IsClosedAt marks g x.from x.to) there.2
    (c there.0 link there.1 (subst (λ (x : Link). IsStill now x.from) k from) (subst (λ (x : Link). IsStill now x.to) k to) (inl below))
