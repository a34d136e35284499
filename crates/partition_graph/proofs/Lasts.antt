-- The last events of traces.
use Rattle.std.proofs.Common.{◌≡◌, ℕ, zero, suc, ◌<◌, ◌≤◌, Bool, true, false, cond, List, [], ◌∷◌, ◌++◌, length, take, arith, ap, sym, ◌∙◌, refl, subst, Some}
use Rattle.std.specs.List.{slice_get}
use Rattle.partition_model.specs.Assignments.{Event, Assignment, events}
use Rattle.partition_model.specs.Listings.{first_event, IsLast}
use Rattle.partition_graph.specs.declared.cells.Cell.{Cell}
use Rattle.partition_graph.specs.Cells.{event_of, put_before, traces_of, IsClosed}

-- one more event before those of the first trace, or one more trace of one event before all
put_more_at : (e : Event) (t : List Event) (h : Assignment) (j k : ℕ) → k < suc (length h) → first_event (t ∷ h) k ≤ j → first_event (t ∷ h) (suc k) ≡ suc j → IsLast ((e ∷ t) ∷ h) (suc j)
put_more_at e t h j zero a b c = record { trace = zero; there = a; from = (let d : 0 ≤ suc j = omega arith in d); last = ap suc c }
put_more_at e t h j (suc k) a b c = record { trace = suc k; there = a; from = (let d : suc (first_event (t ∷ h) (suc k)) ≤ suc j = omega (arith, b) in d); last = ap suc c }

put_more : (e : Event) (h : Assignment) (j : ℕ) → IsLast h j → IsLast (put_before e h) (suc j)
put_more e [] j l = absurd (let t : l.trace < 0 = l.there in omega arith)
put_more e (t ∷ h) j l = put_more_at e t h j l.trace l.there l.from l.last

trace_more : (e : Event) (h : Assignment) (j : ℕ) → IsLast h j → IsLast ((e ∷ []) ∷ h) (suc j)
trace_more e h j l =
    record {
      trace = suc l.trace;
      there = (let a : l.trace < length h = l.there in let d : suc l.trace < suc (length h) = omega arith in d);
      from = (let b : first_event h l.trace ≤ j = l.from in let d : suc (first_event h l.trace) ≤ suc j = omega arith in d);
      last = ap suc l.last;
    }

alone_at : (e : Event) (j k : ℕ) → k < 1 → first_event ((e ∷ []) ∷ []) (suc k) ≡ suc (suc j) → ⊥
alone_at e j zero a c = let d : 1 ≡ suc (suc j) = c in omega arith
alone_at e j (suc k) a c = omega arith

put_less_at : (e : Event) (t : List Event) (h : Assignment) (j k : ℕ) → k < suc (length h) → first_event ((e ∷ t) ∷ h) k ≤ suc j → first_event ((e ∷ t) ∷ h) (suc k) ≡ suc (suc j) → IsLast (t ∷ h) j
put_less_at e t h j zero a b c = record { trace = zero; there = a; from = (let d : 0 ≤ j = omega arith in d); last = (let d : suc (first_event (t ∷ h) 1) ≡ suc (suc j) = c in let f : first_event (t ∷ h) 1 ≡ suc j = omega arith in f) }
put_less_at e t h j (suc k) a b c =
    record {
      trace = suc k;
      there = a;
      from = (let d : suc (first_event (t ∷ h) (suc k)) ≤ suc j = b in let f : first_event (t ∷ h) (suc k) ≤ j = omega arith in f);
      last = (let d : suc (first_event (t ∷ h) (suc (suc k))) ≡ suc (suc j) = c in let f : first_event (t ∷ h) (suc (suc k)) ≡ suc j = omega arith in f);
    }

put_less : (e : Event) (h : Assignment) (j : ℕ) → IsLast (put_before e h) (suc j) → IsLast h j
put_less e [] j l = absurd (alone_at e j l.trace l.there l.last)
put_less e (t ∷ h) j l = put_less_at e t h j l.trace l.there l.from l.last

trace_less_at : (e : Event) (h : Assignment) (j k : ℕ) → k < suc (length h) → first_event ((e ∷ []) ∷ h) k ≤ suc j → first_event ((e ∷ []) ∷ h) (suc k) ≡ suc (suc j) → IsLast h j
trace_less_at e h j zero a b c = absurd (let d : 1 ≡ suc (suc j) = c in omega arith)
trace_less_at e h j (suc k) a b c =
    record {
      trace = k;
      there = (let d : k < length h = omega arith in d);
      from = (let d : suc (first_event h k) ≤ suc j = b in let f : first_event h k ≤ j = omega arith in f);
      last = (let d : suc (first_event h (suc k)) ≡ suc (suc j) = c in let f : first_event h (suc k) ≡ suc j = omega arith in f);
    }

trace_less : (e : Event) (h : Assignment) (j : ℕ) → IsLast ((e ∷ []) ∷ h) (suc j) → IsLast h j
trace_less e h j l = trace_less_at e h j l.trace l.there l.from l.last

first_is_last : (e : Event) (h : Assignment) → IsLast ((e ∷ []) ∷ h) 0
first_is_last e h = record { trace = zero; there = (let d : 0 < suc (length h) = omega arith in d); from = (let d : 0 ≤ 0 = omega arith in d); last = refl }

-- a trace that begins with two events
two_first : (e d : Event) (t : List Event) (h : Assignment) → IsLast ((e ∷ d ∷ t) ∷ h) 0 → ⊥
two_first e d t h l =
    let a : suc (suc (length (t ++ events (take l.trace h)))) ≡ suc 0 = l.last in
    omega arith

-- what the first trace begins with
put_begins : (e : Event) (h : Assignment) → (t : List Event) × (g : Assignment) × (put_before e h ≡ (e ∷ t) ∷ g)
put_begins e [] = ([], [], refl)
put_begins e (t ∷ h) = (t, h, refl)

-- the traces of cells begin with the event of the first cell
pub first_begins : (c : Cell) (cs : List Cell) → (t : List Event) × (h : Assignment) × (traces_of (c ∷ cs) ≡ (event_of c ∷ t) ∷ h)
first_begins c cs =
    elim c.last as (λ b. (t : List Event) × (h : Assignment) × (cond b ((event_of c ∷ []) ∷ traces_of cs) (put_before (event_of c) (traces_of cs)) ≡ (event_of c ∷ t) ∷ h)) [
      | true ↦ ([], traces_of cs, refl)
      | false ↦ put_begins (event_of c) (traces_of cs)
    ]

-- a cell that is marked is the last of its trace
pub marked_is_last : (cs : List Cell) (i : ℕ) (x : Cell) → slice_get cs i ≡ Some x → x.last ≡ true → IsLast (traces_of cs) i
marked_is_last [] i x s m = absurd (cc s)
marked_is_last (c ∷ cs) zero x s m =
    let q : c ≡ x = cc s in
    let l : c.last ≡ true = ap (λ (z : Cell). z.last) q ∙ m in
    subst (λ (b : Bool). IsLast (cond b ((event_of c ∷ []) ∷ traces_of cs) (put_before (event_of c) (traces_of cs))) 0) (sym l) (first_is_last (event_of c) (traces_of cs))
marked_is_last (c ∷ cs) (suc i) x s m =
    let r : IsLast (traces_of cs) i = marked_is_last cs i x s m in
    elim c.last as (λ b. IsLast (cond b ((event_of c ∷ []) ∷ traces_of cs) (put_before (event_of c) (traces_of cs))) (suc i)) [
      | true ↦ trace_more (event_of c) (traces_of cs) i r
      | false ↦ put_more (event_of c) (traces_of cs) i r
    ]

-- and one that isn't, isn't
not_first : (e : Event) (cs : List Cell) → IsClosed false cs → IsLast (put_before e (traces_of cs)) 0 → ⊥
not_first e [] k l = cc k
not_first e (c ∷ cs) k l =
    let b : (t : List Event) × (h : Assignment) × (traces_of (c ∷ cs) ≡ (event_of c ∷ t) ∷ h) = first_begins c cs in
    two_first e (event_of c) b.0 b.1 (subst (λ (z : Assignment). IsLast (put_before e z) 0) b.2 l)

-- without the first event
less : (c : Cell) (cs : List Cell) (i : ℕ) → IsLast (traces_of (c ∷ cs)) (suc i) → IsLast (traces_of cs) i
less c cs i =
    elim c.last as (λ b. IsLast (cond b ((event_of c ∷ []) ∷ traces_of cs) (put_before (event_of c) (traces_of cs))) (suc i) → IsLast (traces_of cs) i) [
      | true ↦ trace_less (event_of c) (traces_of cs) i
      | false ↦ put_less (event_of c) (traces_of cs) i
    ]

-- a cell that is not marked is not the last of its trace
pub unmarked_is_not : (ended : Bool) (cs : List Cell) → IsClosed ended cs → (i : ℕ) (x : Cell) → slice_get cs i ≡ Some x → x.last ≡ false → IsLast (traces_of cs) i → ⊥
unmarked_is_not ended [] k i x s m l = cc s
unmarked_is_not ended (c ∷ cs) k zero x s m l =
    let q : c ≡ x = cc s in
    let n : c.last ≡ false = ap (λ (z : Cell). z.last) q ∙ m in
    not_first (event_of c) cs (subst (λ (b : Bool). IsClosed b cs) n k)
    (subst (λ (b : Bool). IsLast (cond b ((event_of c ∷ []) ∷ traces_of cs) (put_before (event_of c) (traces_of cs))) 0) n l)
unmarked_is_not ended (c ∷ cs) k (suc i) x s m l = unmarked_is_not c.last cs k i x s m (less c cs i l)
