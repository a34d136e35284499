-- How the events of a log are numbered, when one more follows.
use Rattle.std.proofs.Common.{◌≡◌, ℕ, ◌+◌, Bool, true, List, [], ◌∷◌, ◌++◌, map, refl, sym, ap, ◌∙◌, subst, ⊎_elim, append_assoc}
use Rattle.std.proofs.lemmas.Bool.{cases_Bool, cond-true, cond-false, or_left, or_right}
use Rattle.std.proofs.lemmas.List.{map-append}
use Rattle.std.proofs.lemmas.List.Folds.{list_any-append}
use Rattle.std.proofs.lemmas.List.Sums.{fold-append}
use Rattle.std.proofs.lemmas.Slice.Eq.{bytes_eq-Decides}
use Rattle.std.specs.List.{list_any, position_or_len, fold}
use Rattle.std.specs.Str.{bytes_eq}
use Rattle.limits.specs.declared.TheConstants.{FIRST_TYPE}
use Rattle.trace_keys.specs.Keys.{Key, same_key, with_new}
use Rattle.trace_keys.proofs.Keys.{same_key-refl}
use Rattle.trace_keys.proofs.Positions.{position-all}
use Rattle.traces.specs.Words.{Event as KeyedEvent, Trace, gathered_of, gathered_trace, keys_of, number_of, types_of}
use Rattle.traces.proofs.FirstMet.{keys-first_met, types-first_met}
use Rattle.traces.proofs.Grown.{number-new, position-end, position-kept}
use Rattle.trace_builder.specs.Placed.{placed_in}
use Rattle.trace_builder.specs.declared.placing.Placed.{Placed}
use Rattle.log_reader.specs.declared.refusal.At.{At}
use Rattle.events.specs.Located.{located_in}
use Rattle.events.specs.declared.located.Located.{Located}

-- the keys and types of events and of one more

keys-push : (events : List KeyedEvent) (e : KeyedEvent) → keys_of (events ++ e ∷ []) ≡ with_new same_key (keys_of events) e.key
keys-push events e =
    ap (fold (with_new same_key) []) (map-append (λ (x : KeyedEvent). x.key) events (e ∷ [])) ∙ fold-append (with_new same_key) [] (map (λ (x : KeyedEvent). x.key) events) (e.key ∷ [])

types-push : (events : List KeyedEvent) (e : KeyedEvent) → types_of (events ++ e ∷ []) ≡ with_new bytes_eq (types_of events) e.typ
types-push events e =
    ap (fold (with_new bytes_eq) []) (map-append (λ (x : KeyedEvent). x.typ) events (e ∷ [])) ∙ fold-append (with_new bytes_eq) [] (map (λ (x : KeyedEvent). x.typ) events) (e.typ ∷ [])

-- what was met keeps its place
place-kept : {X : Type 0} (same : X → X → Bool) (q : X) (xs : List X) (x : X) → list_any (same q) xs ≡ true → position_or_len (same q) (with_new same xs x) ≡ position_or_len (same q) xs
place-kept same q xs x has = ⊎_elim
    (λ old. ap (position_or_len (same q)) (cond-true _ _ _ old))
    (λ new. ap (position_or_len (same q)) (cond-false _ _ _ new) ∙ position-kept (same q) xs x has)
    (cases_Bool (list_any (same x) xs))

-- what is met now has the place that was told before it
place-own : {X : Type 0} (same : X → X → Bool) (xs : List X) (x : X) → same x x ≡ true → position_or_len (same x) (with_new same xs x) ≡ position_or_len (same x) xs
place-own same xs x itself = ⊎_elim
    (λ old. ap (position_or_len (same x)) (cond-true _ _ _ old))
    (λ new. ap (position_or_len (same x)) (cond-false _ _ _ new) ∙ (position-end (same x) xs x new itself ∙ sym ((position-all (same x) xs).0 new)))
    (cases_Bool (list_any (same x) xs))

-- an event whose key and type are among those of the events
pub record IsMet (events : List KeyedEvent) (e : KeyedEvent) : Type 0 where
  pub key : list_any (same_key e.key) (keys_of events) ≡ true
  pub typ : list_any (bytes_eq e.typ) (types_of events) ≡ true

-- so are all of these
abbrev pub AreMet : List KeyedEvent → List (At × KeyedEvent) → Type 0
AreMet events [] = Unit {0}
AreMet events (p ∷ ps) = IsMet events p.1 × AreMet events ps

any-there : {X : Type 0} (same : X → X → Bool) (x : X) (front rest : List X) → same x x ≡ true → list_any (same x) (front ++ x ∷ rest) ≡ true
any-there same x front rest itself = list_any-append (same x) front (x ∷ rest) ∙ or_right _ _ (or_left _ _ itself)

-- an event is among the events
is-met : (front rest : List KeyedEvent) (e : KeyedEvent) → IsMet (front ++ e ∷ rest) e
is-met front rest e =
    let key : KeyedEvent → Key = λ x. x.key in
    let typ : KeyedEvent → List ℕ = λ x. x.typ in
    record {
      key = (keys-first_met (map key (front ++ e ∷ rest)) []).members e.key
          ∙ (ap (list_any (same_key e.key)) (map-append key front (e ∷ rest)) ∙ any-there same_key e.key (map key front) (map key rest) (same_key-refl e.key));
      typ = (types-first_met (map typ (front ++ e ∷ rest)) []).members e.typ
          ∙ (ap (list_any (bytes_eq e.typ)) (map-append typ front (e ∷ rest)) ∙ any-there bytes_eq e.typ (map typ front) (map typ rest) ((bytes_eq-Decides e.typ e.typ).1 refl));
    }

-- the events of a log are
pub are-met : (all front : List KeyedEvent) (ps : List (At × KeyedEvent)) → all ≡ front ++ map (λ (p : At × KeyedEvent). p.1) ps → AreMet all ps
are-met all front [] is = tt
are-met all front (p ∷ ps) is = (
  subst (λ es. IsMet es p.1) (sym is) (is-met front (map (λ (p : At × KeyedEvent). p.1) ps) p.1),
  are-met all (front ++ p.1 ∷ []) ps (is ∙ sym (append_assoc front (p.1 ∷ []) (map (λ (p : At × KeyedEvent). p.1) ps))),
)

abbrev made : At → ℕ → ℕ → ℕ → Located
made at trace number time = record { at = at; trace = trace; number = number; time = time }

-- an event is numbered as it was
same-number : (events : List KeyedEvent) (e : KeyedEvent) (p : At × KeyedEvent) → IsMet events p.1 → located_in (events ++ e ∷ []) p ≡ located_in events p
same-number events e p met =
    let trace : position_or_len (same_key p.1.key) (keys_of (events ++ e ∷ [])) ≡ position_or_len (same_key p.1.key) (keys_of events) =
    ap (position_or_len (same_key p.1.key)) (keys-push events e) ∙ place-kept same_key p.1.key (keys_of events) e.key met.key in
    let number : number_of (types_of (events ++ e ∷ [])) p.1.typ ≡ number_of (types_of events) p.1.typ =
    ap (λ ts. number_of ts p.1.typ) (types-push events e) ∙ ap (λ n. n + FIRST_TYPE) (place-kept bytes_eq p.1.typ (types_of events) e.typ met.typ) in
    ap (λ t. made p.0 t (number_of (types_of (events ++ e ∷ [])) p.1.typ) p.1.time) trace ∙ ap (λ n. made p.0 (position_or_len (same_key p.1.key) (keys_of events)) n p.1.time) number

same-numbers : (events : List KeyedEvent) (e : KeyedEvent) (ps : List (At × KeyedEvent)) → AreMet events ps → map (located_in (events ++ e ∷ [])) ps ≡ map (located_in events) ps
same-numbers events e [] met = refl
same-numbers events e (p ∷ ps) met =
    ap (λ (x : Located). x ∷ map (located_in (events ++ e ∷ [])) ps) (same-number events e p met.0)
    ∙ ap (λ (xs : List Located). located_in events p ∷ xs) (same-numbers events e ps met.1)

-- the events of a log are numbered as they were
pub numbered-before : (events : List KeyedEvent) (e : KeyedEvent) (ps : List (At × KeyedEvent)) → map (λ (p : At × KeyedEvent). p.1) ps ≡ events
    → map (located_in (events ++ e ∷ [])) ps ≡ map (located_in events) ps
numbered-before events e ps are = same-numbers events e ps (are-met events [] ps (sym are))

keys-shown : (events : List KeyedEvent) (keys : List Key) → map (λ (trace : Trace). trace.key) (map (gathered_trace events) keys) ≡ keys
keys-shown events [] = refl
keys-shown events (key ∷ keys) = ap (λ (ks : List Key). key ∷ ks) (keys-shown events keys)

-- one more event is numbered by where it is put
pub numbered-last : (events : List KeyedEvent) (e : KeyedEvent) (at : At)
    → let placed : Placed = placed_in (gathered_of events) e.key e.typ in made at placed.trace placed.number e.time ≡ located_in (events ++ e ∷ []) (at, e)
numbered-last events e at =
    let trace : position_or_len (same_key e.key) (map (λ (trace : Trace). trace.key) (map (gathered_trace events) (keys_of events))) ≡ position_or_len (same_key e.key) (keys_of (events ++ e ∷ [])) =
    ap (position_or_len (same_key e.key)) (keys-shown events (keys_of events))
    ∙ (sym (place-own same_key (keys_of events) e.key (same_key-refl e.key)) ∙ ap (position_or_len (same_key e.key)) (sym (keys-push events e))) in
    let number : number_of (types_of events) e.typ ≡ number_of (types_of (events ++ e ∷ [])) e.typ =
    sym (number-new (types_of events) e.typ) ∙ ap (λ ts. number_of ts e.typ) (sym (types-push events e)) in
    ap (λ t. made at t (number_of (types_of events) e.typ) e.time) trace ∙ ap (λ n. made at (position_or_len (same_key e.key) (keys_of (events ++ e ∷ []))) n e.time) number
