-- One session more.
use Rattle.std.proofs.Common.{◌≡◌, ℕ, zero, suc, ◌+◌, ◌∷◌, [], List, ◌++◌, append-nil, add-one, refl, sym, ap, ◌∙◌, arith, flat_map}
use Rattle.std.specs.Fn.{iterate}
use Rattle.std.specs.List.{range_with_len}
use Rattle.std.proofs.lemmas.List.Concat.{flat_map-append}
use Rattle.load_maker.specs.Sessions.{first_state, session_end, session_text, state_after, log_text, SessionsStandInOrder}

-- a range with its last number set apart
range-more : (a n : ℕ) → range_with_len a (suc n) ≡ range_with_len a n ++ (a + n) ∷ []
range-more a zero = ap (λ k. k ∷ []) (omega arith)
range-more a (suc n) = ap (λ ks. a ∷ ks) (range-more (a + 1) n ∙ ap (λ k. range_with_len (a + 1) n ++ k ∷ []) (omega arith))

-- one more step is one step of what the others give
iterate-more : (f : ℕ → ℕ) (n x : ℕ) → iterate f (suc n) x ≡ f (iterate f n x)
iterate-more f zero x = refl
iterate-more f (suc n) x = iterate-more f n (f x)

text-none : log_text 0 ≡ []
unfolding log_text
text-none = refl

state-none : state_after 0 ≡ first_state
unfolding state_after
state-none = refl

text-more : (n : ℕ) → log_text (n + 1) ≡ log_text n ++ session_text (n + 1) (state_after n)
unfolding log_text
text-more n =
    ap (λ m. flat_map (λ k. session_text (k + 1) (state_after k)) (range_with_len 0 m)) (add-one n)
    ∙ (ap (flat_map (λ k. session_text (k + 1) (state_after k))) (range-more 0 n ∙ ap (λ k. range_with_len 0 n ++ k ∷ []) (omega arith))
    ∙ (flat_map-append (λ k. session_text (k + 1) (state_after k)) (range_with_len 0 n) (n ∷ [])
    ∙ ap (λ t. log_text n ++ t) (append-nil (session_text (n + 1) (state_after n)))))

state-more : (n : ℕ) → state_after (n + 1) ≡ session_end (state_after n)
unfolding state_after
state-more n = ap (λ m. iterate session_end m first_state) (add-one n) ∙ iterate-more session_end n first_state

-- the sessions stand one after the other, from an empty text and the first state on
pub in-order : SessionsStandInOrder
in-order = record { none = text-none; more = text-more; first = state-none; next = state-more }

-- the first session begins at the first state of a text that is empty
pub begins : (text : List ℕ) (x : ℕ) → text ≡ [] → x ≡ first_state → record { text : text ≡ log_text 0; state : x ≡ state_after 0 }
begins text x empty first = record { text = empty ∙ sym text-none; state = first ∙ sym state-none }

-- each further one goes on
pub goes-on : (k x y : ℕ) (old new : List ℕ) → old ≡ log_text k → x ≡ state_after k → new ≡ old ++ session_text (k + 1) x → y ≡ session_end x
    → record { text : new ≡ log_text (k + 1); state : y ≡ state_after (k + 1) }
goes-on k x y old new text state put ends = record {
  text = put ∙ (ap (λ (t : List ℕ). t ++ session_text (k + 1) x) text ∙ (ap (λ s. log_text k ++ session_text (k + 1) s) state ∙ sym (text-more k)));
  state = ends ∙ (ap session_end state ∙ sym (state-more k));
}
