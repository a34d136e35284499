-- Marks of invariants.
use Rattle.std.proofs.Common.{◌≡◌, ◌≢◌, ℕ, zero, suc, ◌+◌, ◌*◌, ◌<◌, ◌≤◌, ◌==◌, Bool, false, not, eqb, List, [], set, refl, sym, ap, ◌∙◌, subst, arith, inl, inr}
use Rattle.std.proofs.lemmas.List.{get_or-set_same, get_or-set_other}
use Rattle.std.proofs.lemmas.Bool.{cases_eq, cases_lt, ne_eqb}
use Rattle.invariants.specs.declared.Kind.{Kind}
use Rattle.invariants.specs.declared.Kind.TheVariants.{AF, NF, AP, IB}
use Rattle.invariants.specs.declared.Invariant.{Invariant}
use Rattle.invariants.specs.Monitors.{step, step_of, is_bad}
use Rattle.bit_rows.specs.Tables.{row_at, is_set, HasShape}
use Rattle.labelling.specs.declared.layout.TheConstants.{STATES, BROKEN_ROW, MOVE_ROWS, MOVES}
use Rattle.labelling.specs.Layout.{is_on, bad_row, first_row, moves_row, labels_from, is_move, IsApart, IsMarked}
use Rattle.labelling.specs.Phases.{phase_of, first_phase, turn}
use Rattle.labelling.proofs.Turning.{phase_phase}

-- the truth value that is put stands in its place
pub put_here : (old new : List (List Bool)) (n m r k : ℕ) (on : Bool) → HasShape old n m → r < n → k < m
    → new ≡ set old r (set (row_at old r) k on) → is_on new r k ≡ on
put_here old new n m r k on shape below inside is =
    ap (λ (t : List (List Bool)). is_on t r k) is
    ∙ ap (λ (x : List Bool). is_set x k) (get_or-set_same old r (set (row_at old r) k on) [] (omega (arith, below, shape.count)))
    ∙ get_or-set_same (row_at old r) k on false (omega (arith, inside, shape.long r below))

-- what is put in a row leaves the other rows
pub put_row : (old new : List (List Bool)) (r s j k : ℕ) (on : Bool) → new ≡ set old r (set (row_at old r) k on) → s ≢ r → is_on new s j ≡ is_on old s j
put_row old new r s j k on is ne =
    ap (λ (t : List (List Bool)). is_on t s j) is ∙ ap (λ (x : List Bool). is_set x j) (get_or-set_other old r s (set (row_at old r) k on) [] ne)

-- what is put for an invariant leaves what the rows say of the others
pub put_other : (old new : List (List Bool)) (n m r s j k : ℕ) (on : Bool) → HasShape old n m → r < n → k < m
    → new ≡ set old r (set (row_at old r) k on) → j ≢ k → is_on new s j ≡ is_on old s j
put_other old new n m r s j k on shape below inside is ne = elim (cases_eq s r) [
  | inl same ↦
      ap (λ (x : ℕ). is_on new x j) same ∙ ap (λ (t : List (List Bool)). is_on t r j) is
      ∙ ap (λ (x : List Bool). is_set x j) (get_or-set_same old r (set (row_at old r) k on) [] (omega (arith, below, shape.count)))
      ∙ get_or-set_other (row_at old r) k j on false ne ∙ sym (ap (λ (x : ℕ). is_on old x j) same)
  | inr other ↦ put_row old new r s j k on is other
]

step_other_of : (kind : Kind) (a b s x : ℕ) → x ≢ a → x ≢ b → step_of kind a b s x ≡ s
step_other_of AF a b s x na nb = let e : eqb x a ≡ false = ne_eqb x a na in let f : eqb x b ≡ false = ne_eqb x b nb in rw (e, f) refl
step_other_of NF a b s x na nb = let e : eqb x a ≡ false = ne_eqb x a na in let f : eqb x b ≡ false = ne_eqb x b nb in rw (e, f) refl
step_other_of AP a b s x na nb = let e : eqb x a ≡ false = ne_eqb x a na in let f : eqb x b ≡ false = ne_eqb x b nb in rw (e, f) refl
step_other_of IB a b s x na nb = let e : eqb x a ≡ false = ne_eqb x a na in let f : eqb x b ≡ false = ne_eqb x b nb in rw (e, f) refl

-- a type that an invariant does not name leaves the state
pub step_other : (inv : Invariant) (s x : ℕ) → x ≢ inv.a → x ≢ inv.b → step inv s x ≡ s
step_other inv s x na nb = step_other_of inv.kind inv.a inv.b s x na nb

-- a type that an invariant does not name leaves the phase
turn_other : (inv : Invariant) (s x : ℕ) → x ≢ inv.a → x ≢ inv.b → turn inv s x ≡ s
turn_other inv s x na nb = ap (λ (z : ℕ). phase_of inv.kind z) (step_other inv (phase_of inv.kind s) x na nb) ∙ phase_phase inv.kind s

-- a type that an invariant does not name makes no move
pub no_move : (inv : Invariant) (x m : ℕ) → m < MOVES → x ≢ inv.a → x ≢ inv.b → is_move inv x m ≡ false
no_move inv x zero low na nb = ap (λ (z : ℕ). z == 1) (turn_other inv 0 x na nb)
no_move inv x (suc zero) low na nb = ap (λ (z : ℕ). z == 0) (turn_other inv 1 x na nb)
no_move inv x (suc (suc zero)) low na nb = ap (λ (z : ℕ). not (z == 1)) (turn_other inv 1 x na nb)
no_move inv x (suc (suc (suc zero))) low na nb = ap (λ (z : ℕ). z == 2) (turn_other inv 1 x na nb)
no_move inv x (suc (suc (suc (suc m)))) low na nb = absurd (omega (arith, low))

-- the rows of the moves at a type are apart from those at another
pub apart_moves : (x y m k : ℕ) → y ≢ x → m < MOVES → IsApart x k (moves_row y + m) k
apart_moves x y m k ne low = elim (cases_lt y x) [
  | inl less ↦ inr (inl (omega (arith, less, low)))
  | inr more ↦ inr (inr (omega (arith, more, ne)))
]

-- marks stay where the values of the invariant stay
pub marked_same : (bound : ℕ) (old new : List (List Bool)) (k : ℕ) (inv : Invariant) → ((r : ℕ) → r < labels_from bound → r ≢ BROKEN_ROW → is_on new r k ≡ is_on old r k)
    → IsMarked bound old k inv → IsMarked bound new k inv
marked_same bound old new k inv same h = record {
  bad = λ s low. same (bad_row s) (omega (arith, low)) (λ e. absurd (omega (arith, e, low))) ∙ h.bad s low;
  first = λ s low. same (first_row s) (omega (arith, low)) (λ e. absurd (omega (arith, e))) ∙ h.first s low;
  moves = λ x m le low. same (moves_row x + m) (omega (arith, le, low)) (λ e. absurd (omega (arith, e))) ∙ h.moves x m le low;
}

-- an invariant is marked once its bad phases, its first phase and the moves at both its types are
pub marked_more : (bound : ℕ) (first one other : List (List Bool)) (k : ℕ) (inv : Invariant)
    → ((s : ℕ) → s < STATES → is_on first (bad_row s) k ≡ is_bad inv s)
    → ((s : ℕ) → s < STATES → is_on first (first_row s) k ≡ (first_phase inv == s))
    → ((r : ℕ) → MOVE_ROWS ≤ r → is_on first r k ≡ false)
    → ((m : ℕ) → m < MOVES → is_on one (moves_row inv.a + m) k ≡ is_move inv inv.a m)
    → ((r j : ℕ) → IsApart inv.a k r j → is_on one r j ≡ is_on first r j)
    → ((m : ℕ) → m < MOVES → is_on other (moves_row inv.b + m) k ≡ is_move inv inv.b m)
    → ((r j : ℕ) → IsApart inv.b k r j → is_on other r j ≡ is_on one r j) → IsMarked bound other k inv
marked_more bound first one other k inv bad begins blank a apart_a b apart_b = record {
  bad = λ s low. apart_b (bad_row s) k (inr (inl (omega (arith, low)))) ∙ apart_a (bad_row s) k (inr (inl (omega (arith, low)))) ∙ bad s low;
  first = λ s low. apart_b (first_row s) k (inr (inl (omega (arith, low)))) ∙ apart_a (first_row s) k (inr (inl (omega (arith, low)))) ∙ begins s low;
  moves = λ x m le low. elim (cases_eq x inv.b) [
    | inl same ↦ subst (λ (z : ℕ). is_on other (moves_row z + m) k ≡ is_move inv z m) (sym same) (b m low)
    | inr not_b ↦
        apart_b (moves_row x + m) k (apart_moves inv.b x m k not_b low)
        ∙ elim (cases_eq x inv.a) [
          | inl same ↦ subst (λ (z : ℕ). is_on one (moves_row z + m) k ≡ is_move inv z m) (sym same) (a m low)
          | inr not_a ↦
              apart_a (moves_row x + m) k (apart_moves inv.a x m k not_a low)
              ∙ blank (moves_row x + m) (omega arith) ∙ sym (no_move inv x m low not_a not_b)
        ]
  ];
}

-- where only the moves at y are marked, the bit of a move that x does not make is off
pub moves_off : (first one : List (List Bool)) (x y k m : ℕ) (inv : Invariant) → ((r : ℕ) → MOVE_ROWS ≤ r → is_on first r k ≡ false)
    → ((i : ℕ) → i < MOVES → is_on one (moves_row y + i) k ≡ is_move inv y i) → ((r j : ℕ) → IsApart y k r j → is_on one r j ≡ is_on first r j)
    → m < MOVES → is_move inv x m ≡ false → is_on one (moves_row x + m) k ≡ false
moves_off first one x y k m inv blank marked apart low off =
    elim (cases_eq x y) [
      | inl same ↦ subst (λ (z : ℕ). is_on one (moves_row z + m) k ≡ is_move inv z m) (sym same) (marked m low) ∙ off
      | inr ne ↦ apart (moves_row x + m) k (apart_moves y x m k ne low) ∙ blank (moves_row x + m) (omega arith)
    ]

-- what rows say of the first moves at a type
abbrev pub HasMoves : List (List Bool) → ℕ → Invariant → ℕ → ℕ → Type 0
HasMoves table k inv x bound = (m : ℕ) → m < bound → is_on table (moves_row x + m) k ≡ is_move inv x m

-- the rows say of one more move at a type
pub moves_more : (old new : List (List Bool)) (n count x k place row : ℕ) (inv : Invariant) (on : Bool) → HasShape old n count
    → MOVE_ROWS + (x + 1) * MOVES ≤ n → k < count → place < MOVES → row ≡ moves_row x + place → on ≡ is_move inv x place
    → new ≡ set old row (set (row_at old row) k on) → HasMoves old k inv x place → HasMoves new k inv x (place + 1)
moves_more old new n count x k place row inv on shape room number low at is_on_is is before m below =
    elim (cases_eq m place) [
      | inl same ↦
          ap (λ (z : ℕ). is_on new (moves_row x + z) k) same ∙ ap (λ (z : ℕ). is_on new z k) (sym at)
          ∙ put_here old new n count row k on shape (omega (arith, at, low, room)) number is ∙ is_on_is
          ∙ ap (λ (z : ℕ). is_move inv x z) (sym same)
      | inr ne ↦
          put_row old new row (moves_row x + m) k k on is (λ e. absurd (omega (arith, e, at, ne)))
          ∙ before m (omega (arith, below, ne))
    ]

-- what is put for a move leaves all that is apart from its type
pub moves_apart : (old new : List (List Bool)) (n count x k place row : ℕ) (on : Bool) → HasShape old n count
    → MOVE_ROWS + (x + 1) * MOVES ≤ n → k < count → place < MOVES → row ≡ moves_row x + place
    → new ≡ set old row (set (row_at old row) k on) → (r j : ℕ) → IsApart x k r j → is_on new r j ≡ is_on old r j
moves_apart old new n count x k place row on shape room number low at is r j apart =
    elim apart [
      | inl other ↦ put_other old new n count row r j k on shape (omega (arith, at, low, room)) number is other
      | inr outside ↦ put_row old new row r j k on is (λ e. elim outside [ inl before ↦ omega (arith, before, e, at) | inr behind ↦ omega (arith, behind, e, at, low) ])
    ]
