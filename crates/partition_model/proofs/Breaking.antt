-- A path that is followed in a graph, while a monitor reads its word.
use Rattle.std.proofs.Common.{◌≡◌, ◌-◌, ◌==◌, ap₂, length, take, drop, get_or, take_all, arith, ℕ, true, false, true≢false, List, [], ◌∷◌, refl, sym, ◌∙◌, inl, inr}
use Rattle.std.proofs.lemmas.Bool.{cases_Bool}
use Rattle.limits.specs.declared.TheConstants.{INITIAL, TERMINAL}
use Rattle.invariants.specs.declared.Invariant.{Invariant}
use Rattle.invariants.specs.Holds.{Holds}
use Rattle.invariants.specs.Monitors.{step, run, is_bad}
use Rattle.invariants.proofs.Agree.{monitor_agrees}
use Rattle.partition_model.specs.Graphs.{Graph, Walk, word, Breaks}

-- the path breaks the invariant where the rest of it goes on from here, and the monitor ends badly
abbrev pub Fails : Graph → Invariant → ℕ → ℕ → List ℕ → Type 0
Fails g inv p state rest = Walk g p rest TERMINAL × (is_bad inv (run inv state (word g rest)) ≡ true)

-- the whole path breaks the invariant exactly where what is left of it does, from this id and this state
pub record IsFollowing (g : Graph) (inv : Invariant) (whole rest : List ℕ) (p state : ℕ) : Type 0 where
  pub forth : Breaks g inv whole → Fails g inv p state rest
  pub back : Fails g inv p state rest → Breaks g inv whole

bad-breaks : (inv : Invariant) (w : List ℕ) → (Holds inv w → ⊥) → is_bad inv (run inv 0 w) ≡ true
bad-breaks inv w n =
    elim (cases_Bool (is_bad inv (run inv 0 w))) [
      | inl t ↦ t
      | inr f ↦ absurd (n ((monitor_agrees inv w).0 f))
    ]

breaks-bad : (inv : Invariant) (w : List ℕ) → is_bad inv (run inv 0 w) ≡ true → Holds inv w → ⊥
breaks-bad inv w t h = true≢false (sym t ∙ (monitor_agrees inv w).1 h)

-- so it is at INITIAL, where the path begins with it
pub following_start : (g : Graph) (inv : Invariant) (rest : List ℕ) → IsFollowing g inv (INITIAL ∷ rest) rest INITIAL (step inv 0 (g.typ INITIAL))
following_start g inv rest =
    record {
      forth = λ b. (b.0.1, bad-breaks inv (word g (INITIAL ∷ rest)) b.1);
      back = λ f. ((refl, f.0), breaks-bad inv (word g (INITIAL ∷ rest)) f.1);
    }

-- and so it is at the next id, where an edge leads to it
pub following_more : (g : Graph) (inv : Invariant) (whole rest : List ℕ) (p q state : ℕ) → g.edge p q ≡ true → IsFollowing g inv whole (q ∷ rest) p state → IsFollowing g inv whole rest q (step inv state (g.typ q))
following_more g inv whole rest p q state e i =
    record {
      forth = λ b. (let f = i.forth b in (f.0.1, f.1));
      back = λ f. i.back ((e, f.0), f.1);
    }

-- a path that is not empty and begins with INITIAL
pub begins : (path : List ℕ) → (length path == 0) ≡ false → get_or path 0 0 ≡ INITIAL → path ≡ INITIAL ∷ take (length path - 1) (drop 1 path)
begins [] n e = absurd (true≢false n)
begins (x ∷ xs) n e = ap₂ (λ (u : ℕ) (us : List ℕ). u ∷ us) e (sym (take_all (length (x ∷ xs) - 1) xs (omega arith)))
