-- The word of a trace, followed by sets of ids.
use Rattle.std.proofs.Common.{◌≡◌, ◌≢◌, ◌↔◌, ℕ, ◌+◌, ◌<◌, ◌&&◌, nat_lt, Bool, true, List, [], ◌∷◌, ◌++◌, refl, sym, ◌∙◌, ap, ap₂, ◌≤◌, inl, inr, arith, get_or, eq-eqb, eqb-true, lt-ltb, le-ltb}
use Rattle.std.proofs.lemmas.Bool.{and_parts, cases_lt}
use Rattle.limits.specs.declared.TheConstants.{INITIAL, TERMINAL, MAX_PARTITIONS}
use Rattle.partition_model.specs.Graphs.{Graph, Walk, IsPath, word, Accepts}
use Rattle.partition_model.specs.Assignments.{with_ends}
use Rattle.model_check.specs.declared.rows.IdRows.{IdRows}
use Rattle.model_check.specs.declared.sets.TheConstants.{MEMBERS, LISTED, NEXT, LOOSE, ROOM, TYPES}
use Rattle.model_check.specs.Rows.{bit, shown, IsLaid}
use Rattle.model_check.specs.Successors.{in_set, IsEnteredFrom, IsSet}
use Rattle.model_check.proofs.Numbers.{set-within}

-- from some id of the set goes a walk with these types that ends at TERMINAL
abbrev pub Continues : Graph → (ℕ → Bool) → List ℕ → Type 0
Continues g set ts = (p : ℕ) × (xs : List ℕ) × (set p ≡ true) × Walk g p xs TERMINAL × (word g xs ≡ ts)

-- a set has the ids of a type to which edges lead from another
abbrev pub IsNextSet : Graph → (ℕ → Bool) → ℕ → (ℕ → Bool) → Type 0
IsNextSet g set t next = (q : ℕ) → (next q ≡ true) ↔ ((p : ℕ) × (set p ≡ true) × (g.edge p q ≡ true) × (g.typ q ≡ t))

-- a walk from the set goes on from the next set
goes-on : (g : Graph) (set next : ℕ → Bool) (t : ℕ) (ts : List ℕ) → IsNextSet g set t next → Continues g set (t ∷ ts) → Continues g next ts
goes-on g set next t ts n (p, [], s, w, e) = absurd (cc e)
goes-on g set next t ts n (p, r ∷ rs, s, w, e) =
    let ty : g.typ r ≡ t = cc e in
    let us : word g rs ≡ ts = cc e in
    (r, rs, (n r).1 (p, s, w.0, ty), w.1, us)

-- a walk from the next set is the rest of one from the set
goes-back : (g : Graph) (set next : ℕ → Bool) (t : ℕ) (ts : List ℕ) → IsNextSet g set t next → Continues g next ts → Continues g set (t ∷ ts)
goes-back g set next t ts n (q, xs, s, w, e) =
    let o : (p : ℕ) × (set p ≡ true) × (g.edge p q ≡ true) × (g.typ q ≡ t) = (n q).0 s in
    (o.0, q ∷ xs, o.1, (o.2, w), ap₂ (λ (u : ℕ) (us : List ℕ). u ∷ us) o.3 e)

-- a word that begins with INITIAL is accepted exactly where the rest goes on from the set of INITIAL alone
pub follow_start : (g : Graph) (set : ℕ → Bool) (ts : List ℕ) → g.typ INITIAL ≡ INITIAL → ((q : ℕ) → (set q ≡ true) ↔ (q ≡ INITIAL)) → Accepts g (INITIAL ∷ ts) ↔ Continues g set ts
follow_start g set ts ty only = (λ o. begin o.0 o.1 o.2, λ o. back o)
  where
    begin : (path : List ℕ) → IsPath g path → word g path ≡ INITIAL ∷ ts → Continues g set ts
    begin [] i e = absurd i
    begin (x ∷ xs) i e =
        let us : word g xs ≡ ts = cc e in
        (x, xs, (only x).1 i.0, i.1, us)

    back : Continues g set ts → Accepts g (INITIAL ∷ ts)
    back (p, xs, s, w, e) =
        let z : p ≡ INITIAL = (only p).0 s in
        (p ∷ xs, (z, w), ap₂ (λ (u : ℕ) (us : List ℕ). u ∷ us) (ap g.typ z ∙ ty) e)

-- where no type is left, a walk has to be at TERMINAL
pub follow_end : (g : Graph) (set : ℕ → Bool) → Continues g set [] ↔ (set TERMINAL ≡ true)
follow_end g set = (λ o. there o, λ e. (TERMINAL, [], e, refl, refl))
  where
    there : Continues g set [] → set TERMINAL ≡ true
    there (p, [], s, w, e) = ap set (sym w) ∙ s
    there (p, x ∷ xs, s, w, e) = absurd (cc e)

-- what lies in the rows, the number of the set in hand, and the word as far as it was followed
pub record IsFollowed (g : Graph) (whole : List ℕ) (types : List ℕ) (rows : IdRows) (kept set : ℕ) (rest : List ℕ) : Type 0 where
  pub laid : IsLaid types rows
  pub shows : shown (record { types = types; rows = rows.bits }) ≡ g
  pub number : IsSet (ROOM + 1) set
  pub known : set ≢ LOOSE → IsSet kept set
  pub tells : Accepts g (with_ends whole) ↔ Continues g (in_set rows set) rest

-- what the next set has, in the words of the graph
entered-is : (g : Graph) (types : List ℕ) (rows : IdRows) (set x q : ℕ) → IsLaid types rows → shown (record { types = types; rows = rows.bits }) ≡ g → IsSet (ROOM + 1) set
    → 0 < x → x < TYPES
    → IsEnteredFrom (in_set rows set) rows x q ↔ ((p : ℕ) × (in_set rows set p ≡ true) × (g.edge p q ≡ true) × (g.typ q ≡ x))
entered-is g types rows set x q laid s number low high = (
  λ o.
      let l : o.0 < MAX_PARTITIONS = set-within rows (ROOM + 1) set o.0 small number o.1 in
      (o.0, o.1, sym (edges o.0) ∙ rw (lt-ltb o.0 MAX_PARTITIONS l) o.2, sym (ap (λ (h : Graph). h.typ q) s) ∙ eqb-true _ x (sym (laid.members x q low high) ∙ o.3)),
  λ o.
      let both = and_parts (nat_lt o.0 MAX_PARTITIONS) (bit rows o.0 q) (edges o.0 ∙ o.2) in
      (o.0, o.1, both.1, laid.members x q low high ∙ eq-eqb _ x (ap (λ (h : Graph). h.typ q) s ∙ o.3)),
)
  where
    small : ROOM + 1 ≤ ROOM + 1
    small = omega arith

    edges : (p : ℕ) → (nat_lt p MAX_PARTITIONS && bit rows p q) ≡ g.edge p q
    edges p = ap (λ (h : Graph). h.edge p q) s

-- rows that agree below the sets show the same graph
pub still-shown : (types : List ℕ) (old new : IdRows) → ((r k : ℕ) → r < NEXT → bit new r k ≡ bit old r k) → shown (record { types = types; rows = new.bits }) ≡ shown (record { types = types; rows = old.bits })
still-shown types old new same =
    λ i. record {
      typ = λ p. get_or types p 0;
      edge = λ p q. edges p q i;
      listed = λ p. same LISTED p (omega arith) i;
    }
  where
    edges : (p q : ℕ) → (nat_lt p MAX_PARTITIONS && bit new p q) ≡ (nat_lt p MAX_PARTITIONS && bit old p q)
    edges p q =
        elim (cases_lt p MAX_PARTITIONS) [
          | inl l ↦ ap (λ b. nat_lt p MAX_PARTITIONS && b) (same p q (omega arith))
          | inr n ↦ rw (le-ltb p MAX_PARTITIONS n) refl
        ]

-- rows that agree below the sets have the same ids in the row of each type
pub still-laid : (types : List ℕ) (old new : IdRows) → IsLaid types old → ((r k : ℕ) → r < NEXT → bit new r k ≡ bit old r k) → IsLaid types new
still-laid types old new laid same =
    record {
      size = laid.size;
      members = λ x q low high. same (MEMBERS + x) q (omega arith) ∙ laid.members x q low high;
    }

-- one type further the set in hand is the next one, and the word goes on from it
pub follow_more : (g : Graph) (whole types : List ℕ) (old new : IdRows) (kept more from to x : ℕ) (rest : List ℕ) → 0 < x → x < TYPES
    → ((r k : ℕ) → r < NEXT → bit new r k ≡ bit old r k) → IsSet (ROOM + 1) to → (to ≢ LOOSE → IsSet more to)
    → ((q : ℕ) → (in_set new to q ≡ true) ↔ IsEnteredFrom (in_set old from) old x q)
    → IsFollowed g whole types old kept from (x ∷ rest) → IsFollowed g whole types new more to rest
follow_more g whole types old new kept more from to x rest low high same number known entered f =
    let next : IsNextSet g (in_set old from) x (in_set new to) = λ q.
    let e = entered-is g types old from x q f.laid f.shows f.number low high in
    (λ b. e.0 ((entered q).0 b), λ o. (entered q).1 (e.1 o)) in
    record {
      laid = still-laid types old new f.laid same;
      shows = still-shown types old new same ∙ f.shows;
      number = number;
      known = known;
      tells = (
        λ a. goes-on g (in_set old from) (in_set new to) x rest next (f.tells.0 a),
        λ k. f.tells.1 (goes-back g (in_set old from) (in_set new to) x rest next k),
      );
    }

-- before the first type the set in hand is INITIAL alone
pub follow_first : (g : Graph) (whole types : List ℕ) (rows : IdRows) (kept : ℕ) → IsLaid types rows → shown (record { types = types; rows = rows.bits }) ≡ g → g.typ INITIAL ≡ INITIAL
    → IsFollowed g whole types rows kept INITIAL (whole ++ TERMINAL ∷ [])
follow_first g whole types rows kept laid shows ty =
    record {
      laid = laid;
      shows = shows;
      number = (omega arith, λ m. absurd (let l : MAX_PARTITIONS ≤ INITIAL = m in omega arith));
      known = λ n. (omega arith, λ m. absurd (let l : MAX_PARTITIONS ≤ INITIAL = m in omega arith));
      tells = follow_start g (in_set rows INITIAL) (whole ++ TERMINAL ∷ []) ty (λ q. (λ e. eqb-true q INITIAL e, λ e. eq-eqb q INITIAL e));
    }
