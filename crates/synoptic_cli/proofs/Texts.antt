-- Texts that are written one after another.
use Rattle.std.proofs.Common.{◌≡◌, ℕ, ◌+◌, ◌<◌, ◌≤◌, List, ◌∷◌, ◌++◌, add-one, length, take, drop, get_or, sym, ap, ◌∙◌, subst, arith, take-append-drop, drop-cons, take_all, ⊎_elim}
use Rattle.std.proofs.Math.Seq.{take-append-add}
use Rattle.std.proofs.lemmas.Bool.{cases_lt}
use Rattle.std.proofs.lemmas.List.{take-append-le}
use Rattle.std.proofs.lemmas.Grind.{flat_map-append}
use Rattle.std.specs.List.{flat_map}
use Rattle.std.proofs.KnownBytes.{Appends-trans}
use Rattle.std.specs.Io.KnownBytes.{Appends}
use Rattle.outside.specs.Counts.{Rose}
use Rattle.outside.specs.Sinks.{SinkState, AppendsFront}

-- the first texts were appended, and no fault was counted
pub record HasWritten {X : Type 0} (f : X → List ℕ) (texts : List X) (count : ℕ) (old new : SinkState) : Type 0 where
  pub written : Appends old.written new.written (flat_map f (take count texts))
  pub faults : new.faults ≡ old.faults

-- all texts are the first ones, the next one, and the rest
parted : {X : Type 0} (f : X → List ℕ) (texts : List X) (count : ℕ) (x : X) → count < length texts
    → flat_map f texts ≡ flat_map f (take count texts) ++ (f (get_or texts count x) ++ flat_map f (drop (count + 1) texts))
parted f texts count x lt =
    let next : drop count texts ≡ get_or texts count x ∷ drop (count + 1) texts = rw add-one (drop-cons texts count x lt) in
    ap (flat_map f) (sym (take-append-drop count texts))
    ∙ (flat_map-append f (take count texts) (drop count texts)
    ∙ ap (λ l. flat_map f (take count texts) ++ flat_map f l) next)

-- a front of a part is that of what begins with the part
front-within : (first part rest : List ℕ) (n : ℕ) → (place : ℕ) × (take place (first ++ (part ++ rest)) ≡ first ++ take n part)
front-within first part rest n =
    ⊎_elim
    (λ (over : length part < n).
    (length first + length part, take-append-add first (part ++ rest) (length part) ∙ ap (λ l. first ++ l) (take-append-le (length part) part rest (omega arith) ∙ take_all (length part) part (omega arith) ∙ sym (take_all n part (omega arith)))))
    (λ (within : n ≤ length part). (length first + n, take-append-add first (part ++ rest) n ∙ ap (λ l. first ++ l) (take-append-le n part rest within)))
    (cases_lt (length part) n)

-- a front of the next text after whole first ones is a front of all
pub fails-within : {X : Type 0} (f : X → List ℕ) (texts : List X) (count : ℕ) (x : X) (old mid new : SinkState) → count < length texts → HasWritten f texts count old mid
    → AppendsFront mid (f (get_or texts count x)) new → AppendsFront old (flat_map f texts) new
fails-within f texts count x old mid new lt before fails =
    let first = flat_map f (take count texts) in
    let part = f (get_or texts count x) in
    let rest = flat_map f (drop (count + 1) texts) in
    let within = front-within first part rest fails.0 in (
      within.0,
      subst (Appends old.written new.written) (sym (ap (take within.0) (parted f texts count x lt) ∙ within.1))
          (Appends-trans old.written mid.written new.written first (take fails.0 part) before.written fails.1),
    )

-- a count that rose later rose
pub rose-since : (before mid now : ℕ) → before ≤ mid → Rose mid now → Rose before now
rose-since before mid now up rose = omega arith
