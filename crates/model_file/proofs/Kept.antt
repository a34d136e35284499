-- A list of which no more is kept breaks its rule, as what is kept of it does.
use Rattle.std.proofs.Common.{◌≡◌, ℕ, ◌+◌, ◌≤◌, ◌⊎◌, Bool, true, false, cond, ◌&&◌, leb, List, [], ◌∷◌, ◌++◌, map, length, Option, Some, None, option_map, refl, sym, ap, subst, ◌∙◌, arith, inl, inr, append-nil, append_assoc, length-append}
use Rattle.std.specs.Option.{option_and_then}
use Rattle.std.specs.List.{list_all}
use Rattle.std.proofs.lemmas.Bool.{leb-true, ltb-true, false≢true}
use Rattle.serde_json.specs.Data.{Data}
use Rattle.invariants.specs.declared.Kinds.{Kinds}
use Rattle.invariants.specs.declared.records.Listed.{Listed}
use Rattle.invariants.specs.declared.records.Split.{Split}
use Rattle.invariants.specs.declared.records.Block.{Block}
use Rattle.model_shape.specs.Ascending.{CandidateBefore}
use Rattle.model_file.specs.declared.version.Version.{Version}
use Rattle.model_file.specs.declared.version.Version.TheVariants.{One, Two}
use Rattle.model_file.specs.declared.refusal.Field.{Field}
use Rattle.model_file.specs.Versions.{max_types}
use Rattle.model_file.specs.Rules.{comes_after, ascends_from, pair_less, types_hold, invariants_hold, splits_hold, block_holds, blocks_hold}
use Rattle.model_file.specs.Entries.{list_in}
use Rattle.model_file.specs.Lists.{put, kept_after, kept, kept_in, falls, types_over, splits_over, blocks_over, invariant_key, invariants_over}
use Rattle.model_file.specs.Reading.{◌>>=◌, or_shape, tested}
use Rattle.model_file.proofs.Passing.{not-true, ascends-told}
use Rattle.model_file.proofs.Telling.{rules-tell, listed-ascends}
use Rattle.model_file.proofs.Rising.{earlier-is-less}

-- ---- any rule

module _ {A : Type 0} (over rule : List A → Bool) where
  put-by : (front : List A) (x : A) (b : Bool) → over front ≡ b → put over front x ≡ cond b front (front ++ x ∷ [])
  put-by front x b e = ap (λ c. cond c front (front ++ x ∷ [])) e

  over-stays : (front xs : List A) → over front ≡ true → kept_after over front xs ≡ front
  over-stays front [] e = refl
  over-stays front (x ∷ xs) e = ap (λ ys. kept_after over ys xs) (put-by front x true e) ∙ over-stays front xs e

  -- the same list, or both break the rule
  abbrev Alike : List A → List A → Type 0
  Alike xs ys = (ys ≡ xs) ⊎ ((rule ys ≡ false) × (rule xs ≡ false))

  module _ (breaks : (front rest : List A) → over front ≡ true → rule (front ++ rest) ≡ false) where
    by-over : (x : A) (xs front : List A) (b : Bool) → Alike ((front ++ x ∷ []) ++ xs) (kept_after over (front ++ x ∷ []) xs) → over front ≡ b → Alike (front ++ x ∷ xs) (kept_after over front (x ∷ xs))
    by-over x xs front true next e = inr (subst (λ ys. rule ys ≡ false) (append-nil front ∙ sym (over-stays front (x ∷ xs) e)) (breaks front [] e), breaks front (x ∷ xs) e)
    by-over x xs front false next e =
        subst (λ ys. Alike (front ++ x ∷ xs) (kept_after over ys xs)) (sym (put-by front x false e))
        (subst (λ ys. Alike ys (kept_after over (front ++ x ∷ []) xs)) (append_assoc front (x ∷ []) xs) next)

    kept-alike : (xs front : List A) → Alike (front ++ xs) (kept_after over front xs)
    kept-alike [] front = inl (sym (append-nil front))
    kept-alike (x ∷ xs) front = by-over x xs front (over front) (kept-alike xs (front ++ x ∷ [])) refl

    alike-tested : (field : Field) (xs ys : List A) → Alike xs ys → tested field (rule ys) ys ≡ tested field (rule xs) xs
    alike-tested field xs ys (inl same) = ap (λ zs. tested field (rule zs) zs) same
    alike-tested field xs ys (inr both) = ap (λ b. tested field b ys) both.0 ∙ sym (ap (λ b. tested field b xs) both.1)

    -- what is kept of a list passes where the list does
    pub kept-tested : (f : Data → Option A) (field : Field) (o : Option Data) → (or_shape field (option_and_then (list_in f) o) >>= λ xs. tested field (rule xs) xs) ≡ (or_shape field (option_and_then (kept_in over f) o) >>= λ xs. tested field (rule xs) xs)
    kept-tested f field None = refl
    kept-tested f field (Some d) = each (list_in f d)
      where
        each : (o : Option (List A)) → (or_shape field o >>= λ xs. tested field (rule xs) xs) ≡ (or_shape field (option_map (kept over) o) >>= λ xs. tested field (rule xs) xs)
        each None = refl
        each (Some xs) = sym (alike-tested field xs (kept over xs) (kept-alike xs []))

-- ---- the rules of the lists

false-by : (b : Bool) → (b ≡ true → ⊥) → b ≡ false
false-by true h = absurd (h refl)
false-by false h = refl

and-false : (a b : Bool) → b ≡ false → (a && b) ≡ false
and-false true b e = e
and-false false b e = refl

first-false : (a b : Bool) → a ≡ false → (a && b) ≡ false
first-false true b e = absurd (false≢true (sym e))
first-false false b e = refl

-- keys that do not ascend somewhere do not ascend
falls-on : {A : Type 0} (key : A → ℕ × ℕ) (front rest : List A) (before : Option (ℕ × ℕ)) → falls key front ≡ true → ascends_from pair_less before (map key (front ++ rest)) ≡ false
falls-on key [] rest before e = absurd (false≢true e)
falls-on key (x ∷ []) rest before e = absurd (false≢true e)
falls-on key (x ∷ y ∷ []) rest before e =
    and-false (comes_after pair_less before (key x)) (pair_less (key x) (key y) && ascends_from pair_less (Some (key y)) (map key rest))
    (first-false (pair_less (key x) (key y)) (ascends_from pair_less (Some (key y)) (map key rest)) (not-true (pair_less (key x) (key y)) e))
falls-on key (x ∷ y ∷ z ∷ zs) rest before e =
    and-false (comes_after pair_less before (key x)) (ascends_from pair_less (Some (key x)) (map key (y ∷ z ∷ zs ++ rest))) (falls-on key (y ∷ z ∷ zs) rest (Some (key x)) e)

few-types : (version : Version) → max_types version ≤ 256
few-types One = omega arith
few-types Two = omega arith

pub types-break : (version : Version) (front rest : List (List ℕ)) → types_over front ≡ true → types_hold (max_types version) (front ++ rest) ≡ false
unfolding types_hold
types-break version front rest e =
    first-false (leb (length (front ++ rest)) (max_types version)) _
    (false-by (leb (length (front ++ rest)) (max_types version)) (λ h. omega (arith, few-types version, ltb-true 256 (length front) e, leb-true (length (front ++ rest)) (max_types version) h, length-append front rest)))

pub splits-break : (invariants : ℕ) (front rest : List Split) → splits_over front ≡ true → splits_hold invariants (front ++ rest) ≡ false
unfolding splits_hold
splits-break invariants front rest e =
    first-false (leb (length (front ++ rest) + 2) 1024) _
    (false-by (leb (length (front ++ rest) + 2) 1024) (λ h. omega (arith, ltb-true 1024 (length front + 2) e, leb-true (length (front ++ rest) + 2) 1024 h, length-append front rest)))

pub blocks-break : (type : ℕ → Option ℕ) (invariants : ℕ) (ss : List Split) (front rest : List Block) → blocks_over front ≡ true → blocks_hold type invariants ss (front ++ rest) ≡ false
unfolding blocks_hold
blocks-break type invariants ss front rest e =
    and-false (list_all (block_holds type invariants) (front ++ rest)) _
    (first-false (ascends_from pair_less None (map (λ (b : Block). (b.p, b.q)) (front ++ rest))) _ (falls-on (λ (b : Block). (b.p, b.q)) front rest None e))

-- well-shaped invariants ascend by their keys
keys-ascend : (kinds : Kinds) (types partitions : ℕ) (ls : List Listed) → invariants_hold kinds types partitions ls ≡ true → ascends_from pair_less None (map (λ (l : Listed). invariant_key l.inv) ls) ≡ true
keys-ascend kinds types partitions ls h =
    ascends-told pair_less (λ (l : Listed). invariant_key l.inv) (λ (x y : Listed). CandidateBefore kinds types x.inv y.inv) (λ (x y : Listed) c. earlier-is-less kinds types x.inv y.inv c) ls
    (listed-ascends kinds types ls ((rules-tell.invariants kinds types partitions ls).0 h).order)

pub invariants-break : (kinds : Kinds) (types partitions : ℕ) (front rest : List Listed) → invariants_over front ≡ true → invariants_hold kinds types partitions (front ++ rest) ≡ false
invariants-break kinds types partitions front rest e =
    false-by (invariants_hold kinds types partitions (front ++ rest))
    (λ h. false≢true (sym (falls-on (λ (l : Listed). invariant_key l.inv) front rest None e) ∙ keys-ascend kinds types partitions (front ++ rest) h))
