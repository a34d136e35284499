-- How far a path follows a trace.
use Rattle.std.proofs.Common.{◌≡◌, ℕ, zero, suc, ◌+◌, ◌-◌, ◌<◌, ◌≤◌, ◌==◌, Bool, true, false, not, max, List, [], ◌∷◌, ◌++◌, length, take, get_or, arith, ap, sym, ◌∙◌, refl, inl, inr, eq-eqb, ne_eqb, eqb-true, length-append, Option, Some, None, Bor, eqb, true≢false}
use Rattle.std.proofs.lemmas.Bool.{cases_eq, cases_lt, cases_Bool}
use Rattle.std.proofs.lemmas.Option.{slice_get_past, slice_get_read, slice_get-get_or, same_Some, none-some}
use Rattle.std.specs.List.{slice_get, HoldsAt}
use Rattle.std.specs.Option.{IfSome, MatchOption, option_copied, option_eq}
use Rattle.partition_model.specs.Assignments.{Event, Assignment, events, ids_of, id_list}
use Rattle.partition_model.specs.Listings.{first_event, parts_of}
use Rattle.partition_model.specs.Refinement.{common, followed, stitch}
use Rattle.partition_model.proofs.Longest.{stitch_is_last}

-- where two lists go on with the same id, they have one more in common
follow-more : (k : ℕ) (xs ys : List ℕ) (x : ℕ) → k ≤ common xs ys → slice_get xs k ≡ Some x → slice_get ys k ≡ Some x → suc k ≤ common xs ys
follow-more k [] ys x l e f = absurd (cc e)
follow-more k (a ∷ xs) [] x l e f = absurd (cc f)
follow-more zero (a ∷ xs) (b ∷ ys) x l e f =
    let p : Some a ≡ Some x = e in
    let q : Some b ≡ Some x = f in
    let t : (a == b) ≡ true = eq-eqb a b cc in
    rw t (omega arith)
follow-more (suc k) (a ∷ xs) (b ∷ ys) x l e f =
    elim (cases_Bool (a == b)) [
      | inl t ↦
          let m : suc k ≤ suc (common xs ys) = rw t at l in
          let i : suc k ≤ common xs ys = follow-more k xs ys x (omega arith) e f in
          rw t (omega arith)
      | inr n ↦ let m : suc k ≤ 0 = rw n at l in absurd (omega arith)
    ]

-- where two lists go on otherwise, they have no more in common
follow-stop : (k : ℕ) (xs ys : List ℕ) → k ≤ common xs ys → ((x : ℕ) → slice_get xs k ≡ Some x → slice_get ys k ≡ Some x → ⊥) → common xs ys ≡ k
follow-stop k [] ys l d = let z : k ≤ 0 = l in omega arith
follow-stop k (a ∷ xs) [] l d = let z : k ≤ 0 = l in omega arith
follow-stop zero (a ∷ xs) (b ∷ ys) l d =
    elim (cases_eq a b) [
      | inl e ↦ absurd (d a refl (ap Some (sym e)))
      | inr n ↦ rw (ne_eqb a b n) refl
    ]
follow-stop (suc k) (a ∷ xs) (b ∷ ys) l d =
    elim (cases_Bool (a == b)) [
      | inl t ↦
          let m : suc k ≤ suc (common xs ys) = rw t at l in
          let i : common xs ys ≡ k = follow-stop k xs ys (omega arith) d in
          rw t (ap suc i)
      | inr n ↦ let m : suc k ≤ 0 = rw n at l in absurd (omega arith)
    ]

-- the trace with this number
abbrev pub trace_at : Assignment → ℕ → List Event
trace_at h t = get_or h t []

-- a trace whose number is below that of all traces is there
pub trace-there : (h : Assignment) (t : ℕ) → t < length h → slice_get h t ≡ Some (trace_at h t)
trace-there [] t l = absurd (omega arith)
trace-there (x ∷ h) zero l = refl
trace-there (x ∷ h) (suc t) l = trace-there h t (omega arith)

-- the events of the next trace are numbered from behind those of this one
first-more : (h : Assignment) (t : ℕ) → t < length h → first_event h (suc t) ≡ first_event h t + length (trace_at h t)
first-more [] t l = absurd (omega arith)
first-more (x ∷ h) zero l = omega (arith, length-append x [])
first-more (x ∷ h) (suc t) l =
    let i : first_event h (suc t) ≡ first_event h t + length (trace_at h t) = first-more h t (omega arith) in
    omega (arith, i, length-append x (events (take (suc t) h)), length-append x (events (take t h)))

get-front : (es more : List Event) (i : ℕ) → i < length es → slice_get (ids_of (es ++ more)) i ≡ slice_get (ids_of es) i
get-front [] more i l = absurd (omega arith)
get-front (e ∷ es) more zero l = refl
get-front (e ∷ es) more (suc i) l = get-front es more i (omega arith)

get-back : (es more : List Event) (i j : ℕ) → j ≡ length es + i → slice_get (ids_of (es ++ more)) j ≡ slice_get (ids_of more) i
get-back [] more i j q = let s : j ≡ i = omega arith in ap (slice_get (ids_of more)) s
get-back (e ∷ es) more i zero q = absurd (omega arith)
get-back (e ∷ es) more i (suc j) q = get-back es more i j (omega arith)

part-in : (h : Assignment) (t i j : ℕ) → t < length h → i < length (trace_at h t) → j ≡ first_event h t + i → slice_get (parts_of h) j ≡ slice_get (ids_of (trace_at h t)) i
part-in [] t i j l m q = absurd (omega arith)
part-in (x ∷ h) zero i j l m q =
    let s : j ≡ i = omega arith in
    ap (slice_get (ids_of (x ++ events h))) s ∙ get-front x (events h) i m
part-in (x ∷ h) (suc t) i j l m q =
    get-back x (events h) (first_event h t + i) j (omega (arith, q, length-append x (events (take t h))))
    ∙ part-in h t i (first_event h t + i) (omega arith) m refl

id-in : (es : List Event) (i : ℕ) → i < length es → slice_get (ids_of es ++ 1 ∷ []) i ≡ slice_get (ids_of es) i
id-in [] i l = absurd (omega arith)
id-in (e ∷ es) zero l = refl
id-in (e ∷ es) (suc i) l = id-in es i (omega arith)

id-end : (es : List Event) (i : ℕ) → i ≡ length es → slice_get (ids_of es ++ 1 ∷ []) i ≡ Some 1
id-end [] zero q = refl
id-end [] (suc i) q = absurd (omega arith)
id-end (e ∷ es) zero q = absurd (omega arith)
id-end (e ∷ es) (suc i) q = id-end es i (omega arith)

id-past : (es : List Event) (i x : ℕ) → length es < i → slice_get (ids_of es ++ 1 ∷ []) i ≡ Some x → ⊥
id-past [] zero x l e = absurd (omega arith)
id-past [] (suc zero) x l e = cc e
id-past [] (suc (suc i)) x l e = cc e
id-past (e ∷ es) zero x l f = absurd (omega arith)
id-past (e ∷ es) (suc i) x l f = id-past es i x (omega arith) f

-- what is kept while a path is followed along a trace, up to an event
pub record IsFollowing (h : Assignment) (path : List ℕ) (t place event : ℕ) : Type 0 where
  pub from : first_event h t ≤ event
  pub place_is : first_event h t + place ≡ event + 1
  pub follows : place ≤ common path (id_list (trace_at h t))

-- a path that begins with INITIAL is followed by each trace for one id
pub following-start : (h : Assignment) (path : List ℕ) (t first : ℕ) → first ≡ first_event h t → slice_get path 0 ≡ Some 0 → IsFollowing h path t 1 first
following-start h path t first q s =
    record {
      from = omega arith;
      place_is = omega arith;
      follows = follow-more 0 path (id_list (trace_at h t)) 0 (omega arith) s refl;
    }

id-of : (h : Assignment) (t event end place x : ℕ) → t < length h → first_event h t ≤ event → first_event h t + place ≡ event + 1 → event < end → end ≡ first_event h (t + 1)
    → slice_get (parts_of h) event ≡ Some x → slice_get (id_list (trace_at h t)) place ≡ Some x
id-of h t event end zero x l f p e q g = absurd (omega arith)
id-of h t event end (suc i) x l f p e q g =
    let m : first_event h (suc t) ≡ first_event h t + length (trace_at h t) = first-more h t l in
    let n : first_event h (t + 1) ≡ first_event h (suc t) = ap (first_event h) (let z : t + 1 ≡ suc t = omega arith in z) in
    let w : i < length (trace_at h t) = omega arith in
    id-in (trace_at h t) i w ∙ sym (part-in h t i event l w (omega arith)) ∙ g

-- one event more follows the path
pub following-more : (h : Assignment) (path : List ℕ) (t place event end x : ℕ) → IsFollowing h path t place event → t < length h → event < end → end ≡ first_event h (t + 1)
    → slice_get (parts_of h) event ≡ Some x → slice_get path place ≡ Some x → IsFollowing h path t (place + 1) (event + 1)
following-more h path t place event end x k l e q g s =
    let f : first_event h t ≤ event = k.from in
    let p : first_event h t + place ≡ event + 1 = k.place_is in
    let m : suc place ≤ common path (id_list (trace_at h t)) =
    follow-more place path (id_list (trace_at h t)) x k.follows s (id-of h t event end place x l f p e q g) in
    record { from = omega arith; place_is = omega arith; follows = omega arith }

answer : (h : Assignment) (path : List ℕ) (t result : ℕ) → t < length h → common path (id_list (trace_at h t)) ≡ result
    → IfSome (slice_get h t) (λ trace. result ≡ common path (id_list trace))
answer h path t result l e = rw (trace-there h t l) (sym e)

-- the trace leaves the path at an event
pub following-left : (h : Assignment) (path : List ℕ) (t place event end x : ℕ) → IsFollowing h path t place event → t < length h → event < end → end ≡ first_event h (t + 1)
    → slice_get (parts_of h) event ≡ Some x → (slice_get path place ≡ Some x → ⊥) → IfSome (slice_get h t) (λ trace. place ≡ common path (id_list trace))
following-left h path t place event end x k l e q g d =
    let i : slice_get (id_list (trace_at h t)) place ≡ Some x = id-of h t event end place x l k.from k.place_is e q g in
    answer h path t place l (follow-stop place path (id_list (trace_at h t)) k.follows (λ y a b. d (let s : Some y ≡ Some x = sym b ∙ i in a ∙ s)))

-- at the end of the trace
end-place : (h : Assignment) (t event place : ℕ) → t < length h → first_event h t + place ≡ event + 1 → event ≡ first_event h (t + 1) → place ≡ suc (length (trace_at h t))
end-place h t event place l p q =
    let m : first_event h (suc t) ≡ first_event h t + length (trace_at h t) = first-more h t l in
    let n : first_event h (t + 1) ≡ first_event h (suc t) = ap (first_event h) (let z : t + 1 ≡ suc t = omega arith in z) in
    omega arith

-- the path is followed to the end of the trace
pub following-whole : (h : Assignment) (path : List ℕ) (t place event : ℕ) → IsFollowing h path t place event → t < length h → event ≡ first_event h (t + 1)
    → slice_get path place ≡ Some 1 → IfSome (slice_get h t) (λ trace. place + 1 ≡ common path (id_list trace))
following-whole h path t place event k l q s =
    let tr : List Event = trace_at h t in
    let p : place ≡ suc (length tr) = end-place h t event place l k.place_is q in
    let g : slice_get (id_list tr) place ≡ Some 1 = ap (slice_get (id_list tr)) p ∙ id-end tr (length tr) refl in
    let m : suc place ≤ common path (id_list tr) = follow-more place path (id_list tr) 1 k.follows s g in
    let n : common path (id_list tr) ≡ suc place =
    follow-stop (suc place) path (id_list tr) m (λ x a b. id-past tr place x (omega arith) b) in
    answer h path t (place + 1) l (omega arith)

-- the path goes on otherwise than to TERMINAL at the end of the trace
pub following-end : (h : Assignment) (path : List ℕ) (t place event : ℕ) → IsFollowing h path t place event → t < length h → event ≡ first_event h (t + 1)
    → (slice_get path place ≡ Some 1 → ⊥) → IfSome (slice_get h t) (λ trace. place ≡ common path (id_list trace))
following-end h path t place event k l q d =
    let tr : List Event = trace_at h t in
    let p : place ≡ suc (length tr) = end-place h t event place l k.place_is q in
    let g : slice_get (id_list tr) place ≡ Some 1 = ap (slice_get (id_list tr)) p ∙ id-end tr (length tr) refl in
    answer h path t place l (follow-stop place path (id_list tr) k.follows (λ x a b. d (a ∙ sym b ∙ g)))

-- the longest of the first traces
followed-next : (path : List ℕ) (h : Assignment) (t n : ℕ) → t < length h → IfSome (slice_get h t) (λ trace. n ≡ common path (id_list trace))
    → followed (take (suc t) h) path ≡ max (followed (take t h) path) n
followed-next path [] t n l e = absurd (omega arith)
followed-next path (x ∷ h) zero n l e =
    let c : n ≡ common path (id_list x) = e in
    let d : followed (take 1 (x ∷ h)) path ≡ max (common path (id_list x)) 0 = refl in
    let f : followed (take 0 (x ∷ h)) path ≡ 0 = refl in
    omega (arith, c, d, f)
followed-next path (x ∷ h) (suc t) n l e =
    let i : followed (take (suc t) h) path ≡ max (followed (take t h) path) n = followed-next path h t n (omega arith) e in
    let d : followed (take (suc (suc t)) (x ∷ h)) path ≡ max (common path (id_list x)) (followed (take (suc t) h) path) = refl in
    let f : followed (take (suc t) (x ∷ h)) path ≡ max (common path (id_list x)) (followed (take t h) path) = refl in
    omega (arith, i, d, f)

take-whole : (h : Assignment) (t : ℕ) → length h ≤ t → take t h ≡ h
take-whole [] zero l = refl
take-whole [] (suc t) l = refl
take-whole (x ∷ h) zero l = absurd (omega arith)
take-whole (x ∷ h) (suc t) l = ap (λ (k : Assignment). x ∷ k) (take-whole h t (omega arith))

events-take : (h : Assignment) (t : ℕ) → first_event h t ≤ length (events h)
events-take h zero = omega arith
events-take [] (suc t) = omega arith
events-take (x ∷ h) (suc t) =
    omega (arith, events-take h t, length-append x (events (take t h)), length-append x (events h))

-- an event before the end of its trace is one of the events
pub event-there : (h : Assignment) (t event end : ℕ) → t < length h → event < end → end ≡ first_event h (t + 1) → event < length (events h)
event-there h t event end l e q = omega (arith, events-take h (t + 1))

-- what is read of a path is the id at the place, and none where the path has ended
pub read : (o : Option (Bor ℕ)) (path : List ℕ) (place : ℕ) → MatchOption o (length path ≤ place) (λ x. (place < length path) × HoldsAt (λ y. x.now ≡ y) path place)
    → option_copied o ≡ slice_get path place
read None path place m = sym (slice_get_past path place m)
read (Some x) path place m = sym (slice_get_read path (length path) place x.now refl m.0 (m.1 x.now))

-- an answer that is equal to one that is there is that one
pub is-same : (o : Option ℕ) (x : ℕ) → true ≡ option_eq eqb o (Some x) → o ≡ Some x
is-same None x e = absurd (true≢false e)
is-same (Some y) x e = ap Some (eqb-true y x (sym e))

-- an answer that is not equal to one that is there is another
pub is-not-same : (o : Option ℕ) (x : ℕ) → false ≡ option_eq eqb o (Some x) → o ≡ Some x → ⊥
is-not-same None x e q = none-some x q
is-not-same (Some y) x e q = true≢false (sym (eq-eqb y x (same_Some y x q)) ∙ sym e)

-- what is not so by a test that succeeds
pub not-false : (b : Bool) → not b ≡ true → false ≡ b
not-false true e = e
not-false false e = refl

-- what is so by a test that fails
pub not-true : (b : Bool) → not b ≡ false → true ≡ b
not-true true e = refl
not-true false e = e

-- the events of a trace stand before those of the next
pub first-le : (h : Assignment) (t : ℕ) → t < length h → first_event h t ≤ first_event h (t + 1)
first-le h t l =
    let m : first_event h (suc t) ≡ first_event h t + length (trace_at h t) = first-more h t l in
    let n : first_event h (t + 1) ≡ first_event h (suc t) = ap (first_event h) (let z : t + 1 ≡ suc t = omega arith in z) in
    omega arith

-- what two lists have in common has the same ids at each place
common-get : (k : ℕ) (xs ys : List ℕ) → k < common xs ys → slice_get ys k ≡ slice_get xs k
common-get k [] ys l = let z : k < 0 = l in absurd (omega arith)
common-get k (a ∷ xs) [] l = let z : k < 0 = l in absurd (omega arith)
common-get zero (a ∷ xs) (b ∷ ys) l =
    elim (cases_eq a b) [
      | inl e ↦ ap Some (sym e)
      | inr n ↦ let m : 0 < 0 = rw (ne_eqb a b n) at l in absurd (omega arith)
    ]
common-get (suc k) (a ∷ xs) (b ∷ ys) l =
    elim (cases_Bool (a == b)) [
      | inl t ↦ let m : suc k < suc (common xs ys) = rw t at l in common-get k xs ys (omega arith)
      | inr n ↦ let m : suc k < 0 = rw n at l in absurd (omega arith)
    ]

-- where the id at a place is another one, no more than the ids before it are in common
common-before : (k : ℕ) (xs ys : List ℕ) (x : ℕ) → slice_get xs k ≡ Some x → (slice_get ys k ≡ Some x → ⊥) → common xs ys ≤ k
common-before k xs ys x e d =
    elim (cases_lt k (common xs ys)) [
      | inl l ↦ absurd (d (common-get k xs ys l ∙ e))
      | inr g ↦ omega arith
    ]

-- a trace that leaves the path at this place at the latest is no longer one
no-longer : (h : Assignment) (path : List ℕ) (t longest : ℕ) → t < length h → common path (id_list (trace_at h t)) ≤ longest
    → IfSome (slice_get h t) (λ trace. longest ≡ max longest (common path (id_list trace)))
no-longer h path t longest l k = rw (trace-there h t l) (omega arith)

-- where a trace has another id than the path behind the longest front, it follows the path for no more
pub longest-left : (h : Assignment) (path : List ℕ) (t first end event longest x : ℕ) → t < length h → first ≡ first_event h t → end ≡ first_event h (t + 1) → first + longest ≡ event + 1 → first ≤ event → event < end
    → slice_get (parts_of h) event ≡ Some x → longest < length path → (x ≡ get_or path longest 0 → ⊥)
    → IfSome (slice_get h t) (λ trace. longest ≡ max longest (common path (id_list trace)))
longest-left h path t first end event longest x l f e p b k g w d =
    let y : ℕ = get_or path longest 0 in
    let s : slice_get path longest ≡ Some y = slice_get-get_or path longest 0 w in
    let i : slice_get (id_list (trace_at h t)) longest ≡ Some x = id-of h t event end longest x l (omega arith) (omega arith) k e g in
    no-longer h path t longest l (common-before longest path (id_list (trace_at h t)) y s (λ q. d (same_Some x y (sym i ∙ q))))

-- how many events a trace has
count-is : (h : Assignment) (t first end : ℕ) → t < length h → first ≡ first_event h t → end ≡ first_event h (t + 1) → end - first ≡ length (trace_at h t)
count-is h t first end l f e =
    let m : first_event h (suc t) ≡ first_event h t + length (trace_at h t) = first-more h t l in
    let n : first_event h (t + 1) ≡ first_event h (suc t) = ap (first_event h) (let z : t + 1 ≡ suc t = omega arith in z) in
    omega arith

-- where the ids of a trace end before the place behind the longest front, it follows the path for no more
pub longest-past : (h : Assignment) (path : List ℕ) (t first end longest : ℕ) → t < length h → first ≡ first_event h t → end ≡ first_event h (t + 1) → end - first + 1 < longest → longest < length path
    → IfSome (slice_get h t) (λ trace. longest ≡ max longest (common path (id_list trace)))
longest-past h path t first end zero l f e k w = absurd (omega arith)
longest-past h path t first end (suc i) l f e k w =
    let y : ℕ = get_or path (suc i) 0 in
    let s : slice_get path (suc i) ≡ Some y = slice_get-get_or path (suc i) 0 w in
    let c : end - first ≡ length (trace_at h t) = count-is h t first end l f e in
    no-longer h path t (suc i) l (common-before (suc i) path (id_list (trace_at h t)) y s (id-past (trace_at h t) i y (omega arith)))

-- where the ids of a trace end at that place and the path does not, the trace follows the path for no more
pub longest-end : (h : Assignment) (path : List ℕ) (t first end longest : ℕ) → t < length h → first ≡ first_event h t → end ≡ first_event h (t + 1) → end - first + 1 ≡ longest → longest < length path
    → (get_or path longest 0 ≡ 1 → ⊥) → IfSome (slice_get h t) (λ trace. longest ≡ max longest (common path (id_list trace)))
longest-end h path t first end zero l f e k w d = absurd (omega arith)
longest-end h path t first end (suc i) l f e k w d =
    let y : ℕ = get_or path (suc i) 0 in
    let s : slice_get path (suc i) ≡ Some y = slice_get-get_or path (suc i) 0 w in
    let c : end - first ≡ length (trace_at h t) = count-is h t first end l f e in
    let g : slice_get (ids_of (trace_at h t) ++ 1 ∷ []) i ≡ Some 1 = id-end (trace_at h t) i (omega arith) in
    no-longer h path t (suc i) l (common-before (suc i) path (id_list (trace_at h t)) y s (λ p. d (same_Some y 1 (sym p ∙ g))))

-- what is kept while the traces before t are looked at, where the events of t begin with number first
pub record IsLookedAt (h : Assignment) (path : List ℕ) (t longest first : ℕ) : Type 0 where
  pub longest_is : longest ≡ max 1 (followed (take t h) path)
  pub first_is : first ≡ first_event h t

-- with one trace more looked at, the longest front is that of one trace more
pub looked-more : (h : Assignment) (path : List ℕ) (t longest first now end : ℕ) → t < length h → IsLookedAt h path t longest first → IfSome (slice_get h t) (λ trace. now ≡ max longest (common path (id_list trace)))
    → end ≡ first_event h (t + 1) → IsLookedAt h path (t + 1) now end
looked-more h path t longest first now end l k m e =
    let n : now ≡ max longest (common path (id_list (trace_at h t))) = rw (trace-there h t l) at m in
    let b : longest ≡ max 1 (followed (take t h) path) = k.longest_is in
    let f : followed (take (suc t) h) path ≡ max (followed (take t h) path) (common path (id_list (trace_at h t))) =
    followed-next path h t (common path (id_list (trace_at h t))) l (rw (trace-there h t l) refl) in
    let g : followed (take (t + 1) h) path ≡ followed (take (suc t) h) path = ap (λ z. followed (take z h) path) (let z : t + 1 ≡ suc t = omega arith in z) in
    record { longest_is = omega arith; first_is = e }

followed-take : (h : Assignment) (path : List ℕ) (t : ℕ) → followed (take t h) path ≤ followed h path
followed-take h path zero = omega arith
followed-take [] path (suc t) = omega arith
followed-take (x ∷ h) path (suc t) =
    let i : followed (take t h) path ≤ followed h path = followed-take h path t in
    let d : followed (take (suc t) (x ∷ h)) path ≡ max (common path (id_list x)) (followed (take t h) path) = refl in
    let f : followed (x ∷ h) path ≡ max (common path (id_list x)) (followed h path) = refl in
    omega (arith, i, d, f)

-- some trace follows the path for the first id at least
pub front-there : (h : Assignment) (path : List ℕ) → 0 < length h → slice_get path 0 ≡ Some 0 → 0 < followed h path
front-there h path s b =
    let o = stitch_is_last h path s in
    let p : suc (stitch h path) ≡ followed h path = o.1 b in
    omega arith

-- where the longest front so far is as long as any can be, it is that of all traces
pub looked-enough : (h : Assignment) (path : List ℕ) (t longest first most : ℕ) → 0 < length h → slice_get path 0 ≡ Some 0 → followed h path ≤ most → IsLookedAt h path t longest first → most ≤ longest
    → longest ≡ followed h path
looked-enough h path t longest first most s b m k e =
    let a : longest ≡ max 1 (followed (take t h) path) = k.longest_is in
    omega (arith, followed-take h path t, front-there h path s b)

-- where all traces are looked at, the longest front is that of all
pub looked-whole : (h : Assignment) (path : List ℕ) (t longest first : ℕ) → 0 < length h → slice_get path 0 ≡ Some 0 → IsLookedAt h path t longest first → length h ≤ t
    → longest ≡ followed h path
looked-whole h path t longest first s b k l =
    let a : longest ≡ max 1 (followed (take t h) path) = k.longest_is in
    let q : followed (take t h) path ≡ followed h path = ap (λ k. followed k path) (take-whole h t l) in
    omega (arith, front-there h path s b)

-- no trace follows the path for more ids than it has
pub followed-within : (h : Assignment) (path : List ℕ) → 0 < length h → slice_get path 0 ≡ Some 0 → followed h path ≤ length path
followed-within h path s b = let o = stitch_is_last h path s in o.0.within
