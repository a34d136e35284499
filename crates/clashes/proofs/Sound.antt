-- What marks tell stays so as they propagate, and where nothing more propagates they tell all.
use Rattle.std.proofs.Common.{◌≡◌, ℕ, ◌<◌, true, not, ◌&&◌, ◌||◌, List, [], ◌∷◌, ◌++◌, Some, slice_get, refl, sym, ap, ◌∙◌, subst, inl, inr, eq-eqb, eqb-true}
use Rattle.std.proofs.lemmas.Bool.{cases_eq, or_cases, or_left, or_right, and_parts, and_from, eqb-false, not-true, not_from_false, ne_eqb}
use Rattle.limits.specs.declared.TheConstants.{MAX_PARTITIONS, INITIAL, TERMINAL}
use Rattle.invariants.specs.declared.Invariant.{Invariant}
use Rattle.invariants.specs.Monitors.{step, is_bad, bad_of}
use Rattle.partition_model.specs.Graphs.{Graph, IsPath, word}
use Rattle.partition_model.specs.Assignments.{Event, Assignment, G, IsTyped, id_list, ids_of, pairs, word_of}
use Rattle.partition_model.proofs.Lists.{In, edge-In, pairs-In, pairs-first}
use Rattle.partition_model.proofs.Following.{follows}
use Rattle.merge_law.specs.Critical.{critical, calm_of, Fore, Back, IsOnPath, Enters, Stays, Falls}
use Rattle.merge_law.proofs.Walks.{through}
use Rattle.merge_law.proofs.Rules.{fore_follows, fore_is_least, back_follows, back_is_least}
use Rattle.clashes.specs.Marks.{Marks, on, is_met, is_ahead, AreMarksOf}
use Rattle.clashes.specs.Rules.{enters, stays, falls, starts, is_bad_itself}
use Rattle.clashes.specs.Changes.{IsBegun, IsEntered, IsFollowed}
use Rattle.clashes.specs.Growing.{HasEndsOnPaths, AreSound, HasEntered, IsClosedAt, AreEntered, IsClosed, IsGrown, HasBegun}

-- each end of an edge is on a path
pub ends_on_paths : (h : Assignment) → IsTyped h → (u v : ℕ) → (G h).edge u v ≡ true → IsOnPath (G h) u × IsOnPath (G h) v
ends_on_paths h t u v k =
    let o : (trace : List Event) × In trace h × (0 < pairs u v (id_list trace)) = edge-In u v h k in
    let f : IsPath (G h) (id_list o.0) × (word (G h) (id_list o.0) ≡ word_of o.0) = follows h t o.0 o.1 in (
      through (G h) 0 (ids_of o.0 ++ 1 ∷ []) 1 u f.0.1 (pairs-first u v (id_list o.0) o.2),
      through (G h) 0 (ids_of o.0 ++ 1 ∷ []) 1 v f.0.1 (inr (pairs-In u v 0 (ids_of o.0 ++ 1 ∷ []) o.2)),
    )

-- each end of an edge is on a path, and its id can be used
pub has_ends : (h : Assignment) → IsTyped h → ((u v : ℕ) → (G h).edge u v ≡ true → (u < MAX_PARTITIONS) × (v < MAX_PARTITIONS)) → HasEndsOnPaths (G h)
has_ends h t below u v k =
    let o : IsOnPath (G h) u × IsOnPath (G h) v = ends_on_paths h t u v k in (o.0, o.1, (below u v k).0, (below u v k).1)

-- where the test says that a type enters the critical state, it does
pub enters_is : (inv : Invariant) (x : ℕ) → enters inv x ≡ true → Enters inv x
enters_is inv x e = eqb-true (step inv (calm_of inv.kind) x) (critical inv) e

-- where a type enters the critical state, the test says so
pub is_enters : (inv : Invariant) (x : ℕ) → Enters inv x → enters inv x ≡ true
is_enters inv x e = eq-eqb (step inv (calm_of inv.kind) x) (critical inv) e

-- where the test says that a type stays in the critical state, it does
pub stays_is : (inv : Invariant) (x : ℕ) → stays inv x ≡ true → Stays inv x
stays_is inv x e = eqb-true (step inv (critical inv) x) (critical inv) e

-- where a type stays in the critical state, the test says so
pub is_stays : (inv : Invariant) (x : ℕ) → Stays inv x → stays inv x ≡ true
is_stays inv x e = eq-eqb (step inv (critical inv) x) (critical inv) e

-- where the test says that a type falls into the bad state, it does
pub falls_is : (inv : Invariant) (x : ℕ) → falls inv x ≡ true → Falls inv x
falls_is inv x e =
    let p : (is_bad inv (step inv (critical inv) x) ≡ true) × (not (is_bad inv (critical inv)) ≡ true) =
    and_parts (is_bad inv (step inv (critical inv) x)) (not (is_bad inv (critical inv))) e in (
      eqb-true (step inv (critical inv) x) (bad_of inv.kind) p.0,
      λ z. eqb-false (critical inv) (bad_of inv.kind) (not-true (is_bad inv (critical inv)) p.1) (sym z),
    )

-- where a type falls into the bad state, the test says so
pub is_falls : (inv : Invariant) (x : ℕ) → Falls inv x → falls inv x ≡ true
is_falls inv x f =
    and_from (is_bad inv (step inv (critical inv) x)) (not (is_bad inv (critical inv))) (eq-eqb (step inv (critical inv) x) (bad_of inv.kind) f.0)
    (not_from_false (is_bad inv (critical inv)) (ne_eqb (critical inv) (bad_of inv.kind) (λ z. f.1 (sym z))))

-- an invariant of the list has its number in the same list before
pub get_back : (old new : Marks) (k : ℕ) (inv : Invariant) → new.invs ≡ old.invs → slice_get new.invs k ≡ Some inv → slice_get old.invs k ≡ Some inv
get_back old new k inv e get = subst (λ (invs : List Invariant). slice_get invs k ≡ Some inv) e get

-- the marks that an edge brings at once tell what is so
pub entered_sound : (g : Graph) (old new : Marks) (u v : ℕ) → g.edge u v ≡ true → IsEntered old new u v (g.typ v) → HasEndsOnPaths g → AreSound old g → AreSound new g
entered_sound g old new u v edge f paths s =
    let ends : IsOnPath g u × IsOnPath g v × (u < MAX_PARTITIONS) × (v < MAX_PARTITIONS) = paths u v edge in
    record {
      fore = λ k p inv get sat l path hit.
          let get' : slice_get old.invs k ≡ Some inv = get_back old new k inv f.invs get in
          elim (cases_eq p v) [
            | inl e ↦
                let b : (on old.fores v k || enters inv (g.typ v)) ≡ true = sym (f.fore k inv get') ∙ ap (λ (x : ℕ). on new.fores x k) (sym e) ∙ hit in
                subst (λ (x : ℕ). Fore inv g x) (sym e) (elim (or_cases (on old.fores v k) (enters inv (g.typ v)) b) [
                  | inl had ↦ s.fore k v inv get' sat ends.3 ends.1 had
                  | inr brought ↦ (fore_follows g inv sat).1 u v ends.0 ends.1 edge (inl (enters_is inv (g.typ v) brought))
                ])
            | inr ne ↦ s.fore k p inv get' sat l path (sym (f.fores k p ne) ∙ hit)
          ];
      back = λ k p inv get sat l path hit.
          let get' : slice_get old.invs k ≡ Some inv = get_back old new k inv f.invs get in
          elim (cases_eq p u) [
            | inl e ↦
                let b : (on old.backs u k || falls inv (g.typ v)) ≡ true = sym (f.back k inv get') ∙ ap (λ (x : ℕ). on new.backs x k) (sym e) ∙ hit in
                subst (λ (x : ℕ). Back inv g x) (sym e) (elim (or_cases (on old.backs u k) (falls inv (g.typ v)) b) [
                  | inl had ↦ s.back k u inv get' sat ends.2 ends.0 had
                  | inr brought ↦ (back_follows g inv).1 u v ends.1 edge (inl (falls_is inv (g.typ v) brought))
                ])
            | inr ne ↦ s.back k p inv get' sat l path (sym (f.backs k p ne) ∙ hit)
          ];
    }

-- an edge that was entered has the marks that it gives at once
pub entered_has : (old new : Marks) (g : Graph) (u v : ℕ) → IsEntered old new u v (g.typ v) → HasEntered new g u v
entered_has old new g u v f =
    record {
      fore = λ k inv get sat hit. f.fore k inv (get_back old new k inv f.invs get) ∙ or_right (on old.fores v k) (enters inv (g.typ v)) hit;
      back = λ k inv get sat hit. f.back k inv (get_back old new k inv f.invs get) ∙ or_right (on old.backs u k) (falls inv (g.typ v)) hit;
    }

-- the marks that an edge takes along tell what is so
pub followed_sound : (g : Graph) (old new : Marks) (u v : ℕ) → g.edge u v ≡ true → IsFollowed old new u v (g.typ v) → HasEndsOnPaths g → AreSound old g → AreSound new g
followed_sound g old new u v edge f paths s =
    let ends : IsOnPath g u × IsOnPath g v × (u < MAX_PARTITIONS) × (v < MAX_PARTITIONS) = paths u v edge in
    record {
      fore = λ k p inv get sat l path hit.
          let get' : slice_get old.invs k ≡ Some inv = get_back old new k inv f.invs get in
          elim (cases_eq p v) [
            | inl e ↦
                let b : (on old.fores v k || (stays inv (g.typ v) && on old.fores u k)) ≡ true = sym (f.fore k inv get') ∙ ap (λ (x : ℕ). on new.fores x k) (sym e) ∙ hit in
                subst (λ (x : ℕ). Fore inv g x) (sym e) (elim (or_cases (on old.fores v k) (stays inv (g.typ v) && on old.fores u k) b) [
                  | inl had ↦ s.fore k v inv get' sat ends.3 ends.1 had
                  | inr brought ↦
                      let both : (stays inv (g.typ v) ≡ true) × (on old.fores u k ≡ true) = and_parts (stays inv (g.typ v)) (on old.fores u k) brought in
                      (fore_follows g inv sat).1 u v ends.0 ends.1 edge (inr (stays_is inv (g.typ v) both.0, s.fore k u inv get' sat ends.2 ends.0 both.1))
                ])
            | inr ne ↦ s.fore k p inv get' sat l path (sym (f.fores k p ne) ∙ hit)
          ];
      back = λ k p inv get sat l path hit.
          let get' : slice_get old.invs k ≡ Some inv = get_back old new k inv f.invs get in
          elim (cases_eq p u) [
            | inl e ↦
                let b : (on old.backs u k || (stays inv (g.typ v) && on old.backs v k)) ≡ true = sym (f.back k inv get') ∙ ap (λ (x : ℕ). on new.backs x k) (sym e) ∙ hit in
                subst (λ (x : ℕ). Back inv g x) (sym e) (elim (or_cases (on old.backs u k) (stays inv (g.typ v) && on old.backs v k) b) [
                  | inl had ↦ s.back k u inv get' sat ends.2 ends.0 had
                  | inr brought ↦
                      let both : (stays inv (g.typ v) ≡ true) × (on old.backs v k ≡ true) = and_parts (stays inv (g.typ v)) (on old.backs v k) brought in
                      (back_follows g inv).1 u v ends.1 edge (inr (stays_is inv (g.typ v) both.0, s.back k v inv get' sat ends.3 ends.1 both.1))
                ])
            | inr ne ↦ s.back k p inv get' sat l path (sym (f.backs k p ne) ∙ hit)
          ];
    }

-- where marks that an edge takes along change nothing, nothing more propagates along it
pub followed_closed : (old new : Marks) (g : Graph) (u v : ℕ) → IsFollowed old new u v (g.typ v) → new ≡ old → IsClosedAt new g u v
followed_closed old new g u v f same =
    record {
      fore = λ k inv get sat stay hit.
          f.fore k inv (get_back old new k inv f.invs get)
          ∙ or_right (on old.fores v k) (stays inv (g.typ v) && on old.fores u k) (and_from (stays inv (g.typ v)) (on old.fores u k) stay (ap (λ (m : Marks). on m.fores u k) (sym same) ∙ hit));
      back = λ k inv get sat stay hit.
          f.back k inv (get_back old new k inv f.invs get)
          ∙ or_right (on old.backs u k) (stays inv (g.typ v) && on old.backs v k) (and_from (stays inv (g.typ v)) (on old.backs v k) stay (ap (λ (m : Marks). on m.backs v k) (sym same) ∙ hit));
    }

-- marks that stay as they are lose nothing
pub grown_none : (marks : Marks) (g : Graph) → IsGrown marks marks g
grown_none marks g = record { invs = refl; sound = λ p s. s; fores = λ k p inv get h. h; backs = λ k p inv get h. h }

-- marks that grow twice have grown
pub grown_then : (a b c : Marks) (g : Graph) → IsGrown a b g → IsGrown b c g → IsGrown a c g
grown_then a b c g h m =
    record {
      invs = m.invs ∙ h.invs;
      sound = λ p s. m.sound p (h.sound p s);
      fores = λ k p inv get hit. m.fores k p inv (get_back b a k inv (sym h.invs) get) (h.fores k p inv get hit);
      backs = λ k p inv get hit. m.backs k p inv (get_back b a k inv (sym h.invs) get) (h.backs k p inv get hit);
    }

-- marks grow by what an edge brings at once
pub entered_grown : (g : Graph) (old new : Marks) (u v : ℕ) → g.edge u v ≡ true → IsEntered old new u v (g.typ v) → IsGrown old new g
entered_grown g old new u v edge f =
    record {
      invs = f.invs;
      sound = λ p s. entered_sound g old new u v edge f p s;
      fores = λ k p inv get hit. elim (cases_eq p v) [
        | inl e ↦ ap (λ (x : ℕ). on new.fores x k) e ∙ f.fore k inv get ∙ or_left (on old.fores v k) (enters inv (g.typ v)) (ap (λ (x : ℕ). on old.fores x k) (sym e) ∙ hit)
        | inr ne ↦ f.fores k p ne ∙ hit
      ];
      backs = λ k p inv get hit. elim (cases_eq p u) [
        | inl e ↦ ap (λ (x : ℕ). on new.backs x k) e ∙ f.back k inv get ∙ or_left (on old.backs u k) (falls inv (g.typ v)) (ap (λ (x : ℕ). on old.backs x k) (sym e) ∙ hit)
        | inr ne ↦ f.backs k p ne ∙ hit
      ];
    }

-- marks grow by what an edge takes along
pub followed_grown : (g : Graph) (old new : Marks) (u v : ℕ) → g.edge u v ≡ true → IsFollowed old new u v (g.typ v) → IsGrown old new g
followed_grown g old new u v edge f =
    record {
      invs = f.invs;
      sound = λ p s. followed_sound g old new u v edge f p s;
      fores = λ k p inv get hit. elim (cases_eq p v) [
        | inl e ↦ ap (λ (x : ℕ). on new.fores x k) e ∙ f.fore k inv get ∙ or_left (on old.fores v k) (stays inv (g.typ v) && on old.fores u k) (ap (λ (x : ℕ). on old.fores x k) (sym e) ∙ hit)
        | inr ne ↦ f.fores k p ne ∙ hit
      ];
      backs = λ k p inv get hit. elim (cases_eq p u) [
        | inl e ↦ ap (λ (x : ℕ). on new.backs x k) e ∙ f.back k inv get ∙ or_left (on old.backs u k) (stays inv (g.typ v) && on old.backs v k) (ap (λ (x : ℕ). on old.backs x k) (sym e) ∙ hit)
        | inr ne ↦ f.backs k p ne ∙ hit
      ];
    }

-- marks grow by those from which all others come
pub begun_grown : (g : Graph) (old new : Marks) → g.typ INITIAL ≡ INITIAL → IsBegun old new → IsGrown old new g
begun_grown g old new typ f =
    record {
      invs = f.invs;
      sound = λ paths s. record {
        fore = λ k p inv get sat l path hit.
            let get' : slice_get old.invs k ≡ Some inv = get_back old new k inv f.invs get in
            elim (cases_eq p INITIAL) [
              | inl e ↦
                  let b : (on old.fores INITIAL k || starts inv) ≡ true = sym (f.fore k inv get') ∙ ap (λ (x : ℕ). on new.fores x k) (sym e) ∙ hit in
                  elim (or_cases (on old.fores INITIAL k) (starts inv) b) [
                    | inl had ↦ s.fore k p inv get' sat l path (ap (λ (x : ℕ). on old.fores x k) e ∙ had)
                    | inr brought ↦ subst (λ (x : ℕ). Fore inv g x) (sym e)
                        ((fore_follows g inv sat).0 (ap (λ (x : ℕ). step inv 0 x) typ ∙ eqb-true (step inv 0 INITIAL) (critical inv) brought))
                  ]
              | inr ne ↦ s.fore k p inv get' sat l path (sym (f.fores k p ne) ∙ hit)
            ];
        back = λ k p inv get sat l path hit.
            let get' : slice_get old.invs k ≡ Some inv = get_back old new k inv f.invs get in
            elim (cases_eq p TERMINAL) [
              | inl e ↦
                  let b : (on old.backs TERMINAL k || is_bad_itself inv) ≡ true = sym (f.back k inv get') ∙ ap (λ (x : ℕ). on new.backs x k) (sym e) ∙ hit in
                  elim (or_cases (on old.backs TERMINAL k) (is_bad_itself inv) b) [
                    | inl had ↦ s.back k p inv get' sat l path (ap (λ (x : ℕ). on old.backs x k) e ∙ had)
                    | inr brought ↦ subst (λ (x : ℕ). Back inv g x) (sym e)
                        ((back_follows g inv).0 (eqb-true (critical inv) (bad_of inv.kind) brought))
                  ]
              | inr ne ↦ s.back k p inv get' sat l path (sym (f.backs k p ne) ∙ hit)
            ];
      };
      fores = λ k p inv get hit. elim (cases_eq p INITIAL) [
        | inl e ↦ ap (λ (x : ℕ). on new.fores x k) e ∙ f.fore k inv get ∙ or_left (on old.fores INITIAL k) (starts inv) (ap (λ (x : ℕ). on old.fores x k) (sym e) ∙ hit)
        | inr ne ↦ f.fores k p ne ∙ hit
      ];
      backs = λ k p inv get hit. elim (cases_eq p TERMINAL) [
        | inl e ↦ ap (λ (x : ℕ). on new.backs x k) e ∙ f.back k inv get ∙ or_left (on old.backs TERMINAL k) (is_bad_itself inv) (ap (λ (x : ℕ). on old.backs x k) (sym e) ∙ hit)
        | inr ne ↦ f.backs k p ne ∙ hit
      ];
    }

-- where the two ends were given the marks from which all others come, they have these
pub begun_has : (old new : Marks) (g : Graph) → IsBegun old new → HasBegun new g
begun_has old new g f =
    record {
      fore = λ k inv get sat hit. f.fore k inv (get_back old new k inv f.invs get) ∙ or_right (on old.fores INITIAL k) (starts inv) hit;
      back = λ k inv get sat hit. f.back k inv (get_back old new k inv f.invs get) ∙ or_right (on old.backs TERMINAL k) (is_bad_itself inv) hit;
    }

-- the marks from which all others come stay where marks grow
pub begun_stays : (old new : Marks) (g : Graph) → IsGrown old new g → HasBegun old g → HasBegun new g
begun_stays old new g h b =
    record {
      fore = λ k inv get sat hit. let get' : slice_get old.invs k ≡ Some inv = get_back old new k inv h.invs get in h.fores k INITIAL inv get' (b.fore k inv get' sat hit);
      back = λ k inv get sat hit. let get' : slice_get old.invs k ≡ Some inv = get_back old new k inv h.invs get in h.backs k TERMINAL inv get' (b.back k inv get' sat hit);
    }

-- the marks that an edge gives at once stay where marks grow
pub has_stays : (old new : Marks) (g : Graph) (u v : ℕ) → IsGrown old new g → HasEntered old g u v → HasEntered new g u v
has_stays old new g u v h b =
    record {
      fore = λ k inv get sat hit. let get' : slice_get old.invs k ≡ Some inv = get_back old new k inv h.invs get in h.fores k v inv get' (b.fore k inv get' sat hit);
      back = λ k inv get sat hit. let get' : slice_get old.invs k ≡ Some inv = get_back old new k inv h.invs get in h.backs k u inv get' (b.back k inv get' sat hit);
    }

-- the marks that all edges give at once stay where marks grow
pub entered_stays : (old new : Marks) (g : Graph) → IsGrown old new g → AreEntered old g → AreEntered new g
entered_stays old new g h b u v edge = has_stays old new g u v h (b u v edge)

-- where nothing more propagates, marks that tell what is so tell all that is so
pub all_told : (marks : Marks) (g : Graph) → g.typ INITIAL ≡ INITIAL → AreSound marks g → HasBegun marks g → AreEntered marks g → IsClosed marks g → AreMarksOf marks g
all_told marks g typ s b n c =
    record {
      fore = λ k p inv get sat l path. (
        λ hit. s.fore k p inv get sat l path hit,
        λ f. fore_is_least g inv (λ x. is_met marks k x)
            (λ e. b.fore k inv get sat (eq-eqb (step inv 0 INITIAL) (critical inv) (ap (λ (x : ℕ). step inv 0 x) (sym typ) ∙ e)))
            (λ u v edge way. elim way [
              | inl e ↦ (n u v edge).fore k inv get sat (is_enters inv (g.typ v) e)
              | inr e ↦ (c u v edge).fore k inv get sat (is_stays inv (g.typ v) e.0) e.1
            ]) p f,
      );
      back = λ k p inv get sat l path. (
        λ hit. s.back k p inv get sat l path hit,
        λ f. back_is_least g inv (λ x. is_ahead marks k x) sat
            (λ e. b.back k inv get sat (eq-eqb (critical inv) (bad_of inv.kind) e))
            (λ u v edge way. elim way [
              | inl e ↦ (n u v edge).back k inv get sat (is_falls inv (g.typ v) e)
              | inr e ↦ (c u v edge).back k inv get sat (is_stays inv (g.typ v) e.0) e.1
            ]) p path f,
      );
    }
