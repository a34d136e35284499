-- The table of types, one more partition at a time.
use Rattle.std.proofs.Common.{◌≡◌, ◌==◌, ℕ, ◌+◌, ◌<◌, List, [], ◌∷◌, ◌++◌, length, get_or, take, sym, ap, ◌∙◌, Option, Some, None, option_map, if◌then◌else◌, refl, eqb, cond, Bool, true, false}
use Rattle.std.specs.Prelude.{find}
use Rattle.std.specs.Option.{option_or}
use Rattle.std.proofs.lemmas.List.{take_more}
use Rattle.std.proofs.lemmas.List.Folds.{find-append}
use Rattle.invariants.specs.declared.records.Partition.{Partition}
use Rattle.model_file.specs.Rules.{type_of}

mapped-or : (o p : Option Partition) → option_map (λ (q : Partition). q.typ) (option_or o p) ≡ option_or (option_map (λ (q : Partition). q.typ) o) (option_map (λ (q : Partition). q.typ) p)
mapped-or None p = refl
mapped-or (Some q) p = refl

one-type : (b : Bool) (p : Partition) → option_map (λ (q : Partition). q.typ) (cond b (Some p) None) ≡ cond b (Some p.typ) None
one-type true p = refl
one-type false p = refl

-- the types of a list with one more
type_of-next : (ps : List Partition) (p : Partition) (id : ℕ) → type_of (ps ++ p ∷ []) id ≡ option_or (type_of ps id) (if p.id == id then Some p.typ else None)
type_of-next ps p id =
    ap (option_map (λ (q : Partition). q.typ)) (find-append (λ (q : Partition). q.id == id) ps (p ∷ []))
    ∙ mapped-or (find (λ (q : Partition). q.id == id) ps) (find (λ (q : Partition). q.id == id) (p ∷ []))
    ∙ ap (option_or (type_of ps id)) (one-type (eqb p.id id) p)

-- a table in which one more partition is noted has the types of one more
pub types-more : (ps : List Partition) (i : ℕ) (d : Partition) (id : ℕ) (old new : Option ℕ) → i < length ps → old ≡ type_of (take i ps) id
    → new ≡ option_or old (if (get_or ps i d).id == id then Some (get_or ps i d).typ else None) → new ≡ type_of (take (i + 1) ps) id
types-more ps i d id old new inside before noted =
    noted ∙ ap (λ o. option_or o (if (get_or ps i d).id == id then Some (get_or ps i d).typ else None)) before ∙ sym (type_of-next (take i ps) (get_or ps i d) id)
    ∙ ap (λ xs. type_of xs id) (sym (take_more ps i d inside))
