-- What a session draws, one draw at a time.
use Rattle.std.proofs.Common.{◌≡◌, ◌≢◌, ℕ, zero, suc, ◌+◌, ◌-◌, ◌<◌, ◌≤◌, ◌∷◌, [], List, ◌++◌, length, map, min, Bool, true, false, not, ◌||◌, append_assoc, eqb, eq-eqb, sym, ap, ◌∙◌, arith}
use Rattle.std.specs.Fn.{iterate}
use Rattle.std.proofs.lemmas.Bool.Decides.{nat_tests}
use Rattle.std.proofs.lemmas.List.Sums.{take_while-cons}
use Rattle.load_maker.specs.declared.call.Call.{Call}
use Rattle.load_maker.specs.Sessions.{no_call, most_draws, line, next_state, draw_of, giving, draws, call_of, calls_within, state_within}

-- a draw that gives no call is the last
giving-end : (n x : ℕ) → eqb (draw_of (next_state x)) no_call ≡ true → giving (suc n) x ≡ []
giving-end n x last = rw last

-- a draw that gives a call is the first of these
giving-more : (n x : ℕ) → eqb (draw_of (next_state x)) no_call ≡ false
    → giving (suc n) x ≡ draw_of (next_state x) ∷ giving n (next_state x)
giving-more n x gives = take_while-cons (λ draw. not (eqb draw no_call)) (draw_of (next_state x)) (draws n (next_state x)) ∙ rw gives

-- no draw is left
at-none : (i : ℕ) → most_draws ≤ i → most_draws - i ≡ zero
at-none i all = omega arith

-- one draw is left, and those after it
at-one : (i : ℕ) → i < most_draws → most_draws - i ≡ suc (most_draws - (i + 1))
at-one i inside = omega arith

-- a draw that is no call is the last
drawn-last : (x y d : ℕ) → y ≡ next_state x → d ≡ draw_of y → d ≡ no_call → eqb (draw_of (next_state x)) no_call ≡ true
drawn-last x y d next drawn last = eq-eqb (draw_of (next_state x)) no_call (cc)

-- a draw that is a call is not the last
drawn-other : (x y d : ℕ) → y ≡ next_state x → d ≡ draw_of y → d ≢ no_call → eqb (draw_of (next_state x)) no_call ≡ false
drawn-other x y d next drawn other = let e : draw_of (next_state x) ≡ d = cc in grind (arith, nat_tests)

-- where all draws are made, no call is left
pub calls-none : (i x : ℕ) → most_draws ≤ i → calls_within (most_draws - i) x ≡ []
unfolding calls_within
calls-none i x all = ap (λ n. calls_within n x) (at-none i all)

-- where all draws are made, the state stays
pub state-none : (i x : ℕ) → most_draws ≤ i → state_within (most_draws - i) x ≡ x
unfolding state_within
state-none i x all = ap (λ n. state_within n x) (at-none i all)

-- where this draw gives no call, no call is left
pub calls-last : (i x y d : ℕ) → i < most_draws → y ≡ next_state x → d ≡ draw_of y → d ≡ no_call → calls_within (most_draws - i) x ≡ []
unfolding calls_within
calls-last i x y d inside next drawn last =
    ap (λ n. calls_within n x) (at-one i inside) ∙ ap (map call_of) (giving-end (most_draws - (i + 1)) x (drawn-last x y d next drawn last))

min-one : (n : ℕ) → min (suc n) (length {A = ℕ} [] + 1) ≡ suc zero
min-one n = omega arith

min-more : (n k : ℕ) → min (suc n) (suc k + 1) ≡ suc (min n (k + 1))
min-more n k = omega arith

state-end : (n x : ℕ) → giving (suc n) x ≡ [] → state_within (suc n) x ≡ next_state x
unfolding state_within
state-end n x none = rw none (ap (λ m. iterate next_state m x) (min-one n))

-- where this draw gives no call, the state that is left is this draw's
pub state-last : (i x y d : ℕ) → i < most_draws → y ≡ next_state x → d ≡ draw_of y → d ≡ no_call → state_within (most_draws - i) x ≡ y
state-last i x y d inside next drawn last =
    ap (λ n. state_within n x) (at-one i inside) ∙ (state-end (most_draws - (i + 1)) x (giving-end (most_draws - (i + 1)) x (drawn-last x y d next drawn last)) ∙ sym next)

-- where this draw gives a call, it comes first, and the calls of the draws after it follow
pub calls-next : (i x y d : ℕ) → i < most_draws → y ≡ next_state x → d ≡ draw_of y → d ≢ no_call
    → calls_within (most_draws - i) x ≡ call_of d ∷ calls_within (most_draws - (i + 1)) y
unfolding calls_within
calls-next i x y d inside next drawn other =
    ap (λ n. calls_within n x) (at-one i inside)
    ∙ (ap (map call_of) (giving-more (most_draws - (i + 1)) x (drawn-other x y d next drawn other))
    ∙ rw (drawn, next))

state-more : (n x : ℕ) → giving (suc n) x ≡ draw_of (next_state x) ∷ giving n (next_state x) → state_within (suc n) x ≡ state_within n (next_state x)
unfolding state_within
state-more n x more =
    ap (λ (draws : List ℕ). iterate next_state (min (suc n) (length draws + 1)) x) more
    ∙ ap (λ m. iterate next_state m x) (min-more n (length (giving n (next_state x))))

-- where this draw gives a call, the state is that which the draws after it leave
pub state-next : (i x y d : ℕ) → i < most_draws → y ≡ next_state x → d ≡ draw_of y → d ≢ no_call
    → state_within (most_draws - i) x ≡ state_within (most_draws - (i + 1)) y
state-next i x y d inside next drawn other =
    ap (λ n. state_within n x) (at-one i inside)
    ∙ (state-more (most_draws - (i + 1)) x (giving-more (most_draws - (i + 1)) x (drawn-other x y d next drawn other))
    ∙ ap (state_within (most_draws - (i + 1))) (sym next))

-- one line more, and those that follow
pub lines-step : (session : ℕ) (call given : Call) (text new rest all : List ℕ)
    → call ≡ given → new ≡ text ++ line session call → text ++ (line session given ++ rest) ≡ all → new ++ rest ≡ all
lines-step session call given text new rest all same put whole =
    ap (λ (t : List ℕ). t ++ rest) put
    ∙ (append_assoc text (line session call) rest
    ∙ (ap (λ (c : Call). text ++ (line session c ++ rest)) same ∙ whole))

-- whether one of them writes, and one of those that follow
pub or-step : (before here found rest all : Bool) → here ≡ found → (before || (found || rest)) ≡ all → ((before || here) || rest) ≡ all
or-step true here found rest all same h = h
or-step false here found rest all same h = ap (λ (b : Bool). b || rest) same ∙ h

-- none follows
pub or-none : (before all : Bool) → (before || false) ≡ all → before ≡ all
or-none true all h = h
or-none false all h = h
