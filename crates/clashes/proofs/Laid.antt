-- From the rows of the table to the marks, and masks that stay.
use Rattle.std.proofs.Common.{◌≡◌, ◌≢◌, ℕ, zero, suc, ◌+◌, ◌*◌, ◌<◌, ◌≤◌, Bool, true, false, not, ◌&&◌, ◌||◌, ◌==◌, min, List, [], ◌∷◌, length, drop, Some, slice_get, refl, sym, ap, ap₂, ◌∙◌, subst, arith, inl, inr}
use Rattle.std.proofs.lemmas.List.{get_or-drop, get_or_past}
use Rattle.std.proofs.lemmas.Option.{slice_get_within, get_or_from_slice_get}
use Rattle.std.proofs.lemmas.Bool.{cases_lt}
use Rattle.limits.specs.declared.TheConstants.{MAX_PARTITIONS, INITIAL, TERMINAL}
use Rattle.invariants.specs.declared.Invariant.{Invariant}
use Rattle.invariants.specs.Monitors.{step, is_bad}
use Rattle.merge_law.specs.Critical.{critical, calm_of}
use Rattle.bit_rows.specs.Tables.{row_at, is_set, KeepsShape}
use Rattle.clashes.specs.declared.places.TheConstants.{START, BAD}
use Rattle.clashes.specs.Marks.{on}
use Rattle.clashes.specs.Rules.{enters, stays, falls, AreNamedBelow}
use Rattle.clashes.specs.Layout.{ids_from, fore_row, back_row, evens, odds, enters_row, stays_row, falls_row, row_count, fores_in, backs_in, marks_in, IsColumn, IsLaid}
use Rattle.clashes.specs.Changes.{IsUnmarked, IsTakenUp, IsBegun, IsEntered, IsFollowed, TellsGrowth}
use Rattle.clashes.proofs.Bits.{IsPropagated, IsCleared}
use Rattle.clashes.proofs.Offs.{IsTold, off_split}
use Rattle.clashes.proofs.Unnamed.{unnamed_step}

-- every other row of a table
even_at : (rows : List (List Bool)) (p : ℕ) → row_at (evens rows) p ≡ row_at rows (p * 2)
even_at [] p = refl
even_at (x ∷ []) zero = refl
even_at (x ∷ []) (suc p) = sym (get_or_past (x ∷ []) (suc p * 2) [] (omega arith))
even_at (x ∷ y ∷ rows) zero = refl
even_at (x ∷ y ∷ rows) (suc p) = even_at rows p ∙ ap (row_at (x ∷ y ∷ rows)) (let e : suc (suc (p * 2)) ≡ suc p * 2 = omega arith in e)

-- and the others
odd_at : (rows : List (List Bool)) (p : ℕ) → row_at (odds rows) p ≡ row_at rows (p * 2 + 1)
odd_at [] p = refl
odd_at (x ∷ []) p = sym (get_or_past (x ∷ []) (p * 2 + 1) [] (omega arith))
odd_at (x ∷ y ∷ rows) zero = refl
odd_at (x ∷ y ∷ rows) (suc p) = odd_at rows p ∙ ap (row_at (x ∷ y ∷ rows)) (let e : suc (suc (p * 2 + 1)) ≡ suc p * 2 + 1 = omega arith in e)

-- the marks of an id for what is met are one of its rows of the table
pub fore_is : (others : ℕ) (T : List (List Bool)) (p k : ℕ) → on (fores_in others T) p k ≡ on T (fore_row others p) k
fore_is others T p k = ap (λ row. is_set row k) (even_at (drop (ids_from others) T) p ∙ get_or-drop (ids_from others) T (p * 2) [])

-- the marks of an id for what is ahead are the other one
pub back_is : (others : ℕ) (T : List (List Bool)) (p k : ℕ) → on (backs_in others T) p k ≡ on T (back_row others p) k
back_is others T p k = ap (λ row. is_set row k) (odd_at (drop (ids_from others) T) p ∙ get_or-drop (ids_from others) T (p * 2 + 1) [] ∙ ap (row_at T) (let e : ids_from others + (p * 2 + 1) ≡ back_row others p = omega arith in e))

-- where the row of an id for what is met stays, so do its marks
pub same_fore : (others : ℕ) (T new : List (List Bool)) (p k : ℕ) → on new (fore_row others p) k ≡ on T (fore_row others p) k → on (fores_in others new) p k ≡ on (fores_in others T) p k
same_fore others T new p k h = fore_is others new p k ∙ h ∙ sym (fore_is others T p k)

-- where the row of an id for what is ahead stays, so do its marks
pub same_back : (others : ℕ) (T new : List (List Bool)) (p k : ℕ) → on new (back_row others p) k ≡ on T (back_row others p) k → on (backs_in others new) p k ≡ on (backs_in others T) p k
same_back others T new p k h = back_is others new p k ∙ h ∙ sym (back_is others T p k)

-- the form stays, and each row before those of ids
pub record KeepsMasks (others : ℕ) (T new : List (List Bool)) : Type 0 where
  pub shape : KeepsShape T new
  pub rows : (r k : ℕ) → r < ids_from others → on new r k ≡ on T r k

-- two changes that each keep the masks keep them
pub keeps_then : (others : ℕ) (a b c : List (List Bool)) → KeepsMasks others a b → KeepsMasks others b c → KeepsMasks others a c
keeps_then others a b c h m =
    record {
      shape = λ n bits s. m.shape n bits (h.shape n bits s);
      rows = λ r k l. m.rows r k l ∙ h.rows r k l;
    }

-- bits that are added to the row of an id keep the masks
pub propagated_keeps : (others : ℕ) (T new : List (List Bool)) (to : ℕ) (given : ℕ → Bool) → KeepsShape T new → IsPropagated T new to given → ids_from others ≤ to → KeepsMasks others T new
propagated_keeps others T new to given s h l = record { shape = s; rows = λ r k m. h.others r k (λ e. absurd (omega arith)) }

-- the masks stay where the row of an id is cleared
pub cleared_keeps : (others : ℕ) (T new : List (List Bool)) (r : ℕ) → KeepsShape T new → IsCleared T new r → ids_from others ≤ r → KeepsMasks others T new
cleared_keeps others T new r s h l = record { shape = s; rows = λ q k m. h.others q k (λ e. absurd (omega arith)) }

column_kept : (T new : List (List Bool)) (others k : ℕ) (inv : Invariant) → KeepsMasks others T new → IsColumn T (others + 1) k inv → IsColumn new (others + 1) k inv
column_kept T new others k inv h c =
    record {
      enters = λ x l. h.rows (enters_row x) k (omega arith) ∙ c.enters x l;
      stays = λ x l. h.rows (stays_row x) k (omega arith) ∙ c.stays x l;
      falls = λ x l. h.rows (falls_row x) k (omega arith) ∙ c.falls x l;
      starts = h.rows START k (omega arith) ∙ c.starts;
      bad = h.rows BAD k (omega arith) ∙ c.bad;
    }

-- where the masks stay, the table is still laid out for the invariants
pub laid_kept : (invs : List Invariant) (others : ℕ) (T new : List (List Bool)) → KeepsMasks others T new → IsLaid invs others T → IsLaid invs others new
laid_kept invs others T new h l =
    record {
      shape = h.shape (row_count others) (length invs) l.shape;
      few = l.few;
      low = l.low;
      named = l.named;
      columns = λ k inv below get. column_kept T new others k inv h (l.columns k inv below get);
    }

-- what is told of the bits of the table is told of the marks
pub told_marks : (invs : List Invariant) (others : ℕ) (T new : List (List Bool)) (changed : Bool) → IsTold (ids_from others) T new changed → TellsGrowth (marks_in invs others T) (marks_in invs others new) changed
told_marks invs others T new changed t =
    record {
      same = λ miss. ap (marks_in invs others) (t.same miss);
      fewer = λ hit. omega (arith, t.fewer hit, off_split (drop (ids_from others) T), off_split (drop (ids_from others) new));
    }

-- where the two rows of an id are cleared, its marks are off, and the others stay
pub unmarked : (invs : List Invariant) (others : ℕ) (T mid new : List (List Bool)) (p : ℕ) → p < MAX_PARTITIONS → IsCleared T mid (fore_row others p) → IsCleared mid new (back_row others p) → IsUnmarked (marks_in invs others T) (marks_in invs others new) p
unmarked invs others T mid new p l a b =
    record {
      invs = refl;
      fore = λ k. fore_is others new p k ∙ b.others (fore_row others p) k (λ e. absurd (omega arith)) ∙ a.here k;
      back = λ k. back_is others new p k ∙ b.here k;
      fores = λ k r ne. same_fore others T new r k (b.others (fore_row others r) k (λ e. absurd (omega arith)) ∙ a.others (fore_row others r) k (λ e. ne (omega arith)));
      backs = λ k r ne. same_back others T new r k (b.others (back_row others r) k (λ e. absurd (omega arith)) ∙ a.others (back_row others r) k (λ e. absurd (omega arith)));
    }

-- where the two rows of an id take up those of another, the id takes up its marks
pub taken_up : (invs : List Invariant) (others : ℕ) (T mid new : List (List Bool)) (p q : ℕ) → p < MAX_PARTITIONS → q < MAX_PARTITIONS → p ≢ q → IsPropagated T mid (fore_row others p) (on T (fore_row others q)) → IsPropagated mid new (back_row others p) (on mid (back_row others q))
    → IsTakenUp (marks_in invs others T) (marks_in invs others new) p q
taken_up invs others T mid new p q lp lq ne a b =
    record {
      invs = refl;
      fore = λ k. fore_is others new p k ∙ b.others (fore_row others p) k (λ e. absurd (omega arith)) ∙ a.here k
          ∙ ap₂ (λ (x y : Bool). x || y) (sym (fore_is others T p k)) (sym (fore_is others T q k));
      back = λ k. back_is others new p k ∙ b.here k
          ∙ ap₂ (λ (x y : Bool). x || y) (a.others (back_row others p) k (λ e. absurd (omega arith)) ∙ sym (back_is others T p k)) (a.others (back_row others q) k (λ e. absurd (omega arith)) ∙ sym (back_is others T q k));
      fores = λ k r m. same_fore others T new r k (b.others (fore_row others r) k (λ e. absurd (omega arith)) ∙ a.others (fore_row others r) k (λ e. m (omega arith)));
      backs = λ k r m. same_back others T new r k (b.others (back_row others r) k (λ e. absurd (omega arith)) ∙ a.others (back_row others r) k (λ e. absurd (omega arith)));
    }

-- where rows of the two ends take up START and BAD, the marks are there from which all others come
pub begun : (invs : List Invariant) (others : ℕ) (T mid new : List (List Bool)) → IsLaid invs others T → IsPropagated T mid (fore_row others INITIAL) (on T START) → IsPropagated mid new (back_row others TERMINAL) (on mid BAD)
    → IsBegun (marks_in invs others T) (marks_in invs others new)
begun invs others T mid new laid a b =
    record {
      invs = refl;
      fore = λ k inv get.
          let c : IsColumn T (others + 1) k inv = laid.columns k inv (slice_get_within invs k inv get) get in
          fore_is others new INITIAL k ∙ b.others (fore_row others INITIAL) k (λ e. absurd (omega arith)) ∙ a.here k
          ∙ ap₂ (λ (x y : Bool). x || y) (sym (fore_is others T INITIAL k)) c.starts;
      back = λ k inv get.
          let c : IsColumn T (others + 1) k inv = laid.columns k inv (slice_get_within invs k inv get) get in
          back_is others new TERMINAL k ∙ b.here k
          ∙ ap₂ (λ (x y : Bool). x || y) (a.others (back_row others TERMINAL) k (λ e. absurd (omega arith)) ∙ sym (back_is others T TERMINAL k)) (a.others BAD k (λ e. absurd (omega arith)) ∙ c.bad);
      fores = λ k r m. same_fore others T new r k (b.others (fore_row others r) k (λ e. absurd (omega arith)) ∙ a.others (fore_row others r) k (λ e. m (omega arith)));
      backs = λ k r m. same_back others T new r k (b.others (back_row others r) k (λ e. absurd (omega arith)) ∙ a.others (back_row others r) k (λ e. absurd (omega arith)));
    }

-- the least that no invariant names stands for each type from it on
pub class_step : (inv : Invariant) (others x typ s : ℕ) → x ≡ min typ others → (inv.a < others) × (inv.b < others) → step inv s x ≡ step inv s typ
class_step inv others x typ s e named =
    elim (cases_lt typ others) [
      | inl l ↦ ap (step inv s) (let k : x ≡ typ = omega arith in k)
      | inr m ↦
          unnamed_step inv.kind inv.a inv.b s x (λ z. absurd (omega (arith, named.0))) (λ z. absurd (omega (arith, named.1)))
          ∙ sym (unnamed_step inv.kind inv.a inv.b s typ (λ z. absurd (omega (arith, named.0))) (λ z. absurd (omega (arith, named.1))))
    ]

-- the masks of the class are those of the type
pub record AreMasksOf (T : List (List Bool)) (x k : ℕ) (inv : Invariant) (typ : ℕ) : Type 0 where
  pub enters : on T (enters_row x) k ≡ enters inv typ
  pub stays : on T (stays_row x) k ≡ stays inv typ
  pub falls : on T (falls_row x) k ≡ falls inv typ

named_at : (invs : List Invariant) (n k : ℕ) (inv : Invariant) → AreNamedBelow n invs → slice_get invs k ≡ Some inv → (inv.a < n) × (inv.b < n)
named_at invs n k inv h get =
    subst (λ (i : Invariant). (i.a < n) × (i.b < n)) (get_or_from_slice_get invs k inv inv get) (h k inv (slice_get_within invs k inv get))

-- the masks at the lesser of a type and the first number that none names are those of the type
pub masks_of : (invs : List Invariant) (others : ℕ) (T : List (List Bool)) (x typ k : ℕ) (inv : Invariant) → IsLaid invs others T → x ≡ min typ others → slice_get invs k ≡ Some inv → AreMasksOf T x k inv typ
masks_of invs others T x typ k inv laid e get =
    let c : IsColumn T (others + 1) k inv = laid.columns k inv (slice_get_within invs k inv get) get in
    let n : (inv.a < others) × (inv.b < others) = named_at invs others k inv laid.named get in
    let l : x < others + 1 = omega arith in
    record {
      enters = c.enters x l ∙ ap (λ (s : ℕ). s == critical inv) (class_step inv others x typ (calm_of inv.kind) e n);
      stays = c.stays x l ∙ ap (λ (s : ℕ). s == critical inv) (class_step inv others x typ (critical inv) e n);
      falls = c.falls x l ∙ ap (λ (s : ℕ). is_bad inv s && not (is_bad inv (critical inv))) (class_step inv others x typ (critical inv) e n);
    }

-- where its ends take up what a type enters and what it falls from, an edge gives the marks that it brings at once
pub entered : (invs : List Invariant) (others : ℕ) (T mid new : List (List Bool)) (u v typ x : ℕ) → IsLaid invs others T → x ≡ min typ others → u < MAX_PARTITIONS → v < MAX_PARTITIONS
    → IsPropagated T mid (fore_row others v) (on T (enters_row x)) → IsPropagated mid new (back_row others u) (on mid (falls_row x)) → IsEntered (marks_in invs others T) (marks_in invs others new) u v typ
entered invs others T mid new u v typ x laid e lu lv a b =
    record {
      invs = refl;
      fore = λ k inv get.
          let m : AreMasksOf T x k inv typ = masks_of invs others T x typ k inv laid e get in
          fore_is others new v k ∙ b.others (fore_row others v) k (λ z. absurd (omega arith)) ∙ a.here k
          ∙ ap₂ (λ (f g : Bool). f || g) (sym (fore_is others T v k)) m.enters;
      back = λ k inv get.
          let m : AreMasksOf T x k inv typ = masks_of invs others T x typ k inv laid e get in
          back_is others new u k ∙ b.here k
          ∙ ap₂ (λ (f g : Bool). f || g) (a.others (back_row others u) k (λ z. absurd (omega arith)) ∙ sym (back_is others T u k)) (a.others (falls_row x) k (λ z. absurd (omega arith)) ∙ m.falls);
      fores = λ k r ne. same_fore others T new r k (b.others (fore_row others r) k (λ z. absurd (omega arith)) ∙ a.others (fore_row others r) k (λ z. ne (omega arith)));
      backs = λ k r ne. same_back others T new r k (b.others (back_row others r) k (λ z. absurd (ne (omega arith))) ∙ a.others (back_row others r) k (λ z. absurd (omega arith)));
    }

swap : (f s g : Bool) → (f || (g && s)) ≡ (f || (s && g))
swap true s g = refl
swap false true true = refl
swap false true false = refl
swap false false true = refl
swap false false false = refl

-- an edge from an id to another takes marks along where they stay in their critical state
pub followed : (invs : List Invariant) (others : ℕ) (T mid new : List (List Bool)) (u v typ x : ℕ) → IsLaid invs others T → x ≡ min typ others → u < MAX_PARTITIONS → v < MAX_PARTITIONS → u ≢ v
    → IsPropagated T mid (fore_row others v) (λ k. on T (fore_row others u) k && on T (stays_row x) k) → IsPropagated mid new (back_row others u) (λ k. on mid (back_row others v) k && on mid (stays_row x) k)
    → IsFollowed (marks_in invs others T) (marks_in invs others new) u v typ
followed invs others T mid new u v typ x laid e lu lv ne a b =
    record {
      invs = refl;
      fore = λ k inv get.
          let m : AreMasksOf T x k inv typ = masks_of invs others T x typ k inv laid e get in
          fore_is others new v k ∙ b.others (fore_row others v) k (λ z. absurd (omega arith)) ∙ a.here k
          ∙ ap₂ (λ (f g : Bool). f || g) (sym (fore_is others T v k)) (ap₂ (λ (f g : Bool). f && g) (sym (fore_is others T u k)) m.stays)
          ∙ swap (on (fores_in others T) v k) (stays inv typ) (on (fores_in others T) u k);
      back = λ k inv get.
          let m : AreMasksOf T x k inv typ = masks_of invs others T x typ k inv laid e get in
          back_is others new u k ∙ b.here k
          ∙ ap₂ (λ (f g : Bool). f || g) (a.others (back_row others u) k (λ z. absurd (omega arith)) ∙ sym (back_is others T u k))
          (ap₂ (λ (f g : Bool). f && g) (a.others (back_row others v) k (λ z. absurd (omega arith)) ∙ sym (back_is others T v k)) (a.others (stays_row x) k (λ z. absurd (omega arith)) ∙ m.stays))
          ∙ swap (on (backs_in others T) u k) (stays inv typ) (on (backs_in others T) v k);
      fores = λ k r n. same_fore others T new r k (b.others (fore_row others r) k (λ z. absurd (omega arith)) ∙ a.others (fore_row others r) k (λ z. n (omega arith)));
      backs = λ k r n. same_back others T new r k (b.others (back_row others r) k (λ z. absurd (n (omega arith))) ∙ a.others (back_row others r) k (λ z. absurd (omega arith)));
    }
