-- What a model file has under each of its keys.
use Rattle.std.proofs.Common.{◌≡◌, ℕ, Bool, true, false, ◌&&◌, ◌||◌, not, List, Option, Some, None, bytes_eq, refl, sym, ap, ap₂, subst, ◌∙◌, Ordering, Less, Equal, Greater, is_eq}
use Rattle.std.specs.Prelude.{codes}
use Rattle.std.specs.Ordering.{nat_cmp, match_ordering}
use Rattle.std.specs.Cmp.Lexicographic.{slice_cmp}
use Rattle.std.proofs.lemmas.Bool.{false≢true}
use Rattle.std.proofs.lemmas.Slice.Eq.{bytes_eq-Decides}
use Rattle.std.proofs.lemmas.Map.Text.{is_eq-slice_cmp}
use Rattle.serde_json.specs.Data.{Data, Members, no_members, member, put}
use Rattle.serde_json.specs.Find.{get_member}
use Rattle.model_file.specs.declared.version.Version.{Version}
use Rattle.model_file.specs.declared.version.Version.TheVariants.{One, Two}
use Rattle.model_file.specs.Reading.{is_key, has_no_extra}
use Rattle.model_file.specs.declared.found.Found.{Found}
use Rattle.model_file.specs.declared.keys.Key.{Key}
use Rattle.model_file.specs.declared.keys.Key.TheVariants as key
use Rattle.model_file.specs.declared.keys.BoundedKey.TheVariants as bounded
use Rattle.model_file.specs.declared.keys.WholeKey.TheVariants as whole
use Rattle.model_file.specs.declared.stream.Stop.{Stop}
use Rattle.model_file.specs.declared.stream.Stop.TheVariants.{NotJson, Memory}
use Rattle.model_file.specs.Streams.{IsStopped}
use Rattle.model_file.specs.Found.{nothing, found_by, found_in, with_field, has_key, IsKey}

-- ---- the members of an object, of which one is put in

-- texts that compare as equal are the same
same-text : (a b : List ℕ) → slice_cmp nat_cmp a b ≡ Equal → a ≡ b
same-text a b e = (bytes_eq-Decides a b).0 (sym (is_eq-slice_cmp a b) ∙ ap is_eq e)

equal-text : (a b : List ℕ) → a ≡ b → is_eq (slice_cmp nat_cmp a b) ≡ true
equal-text a b e = is_eq-slice_cmp a b ∙ (bytes_eq-Decides a b).1 e

twice : {A : Type 0} (q : Ordering) (g d e : A) → match_ordering q g d g ≡ match_ordering q (match_ordering q g e g) d (match_ordering q g e g)
twice Less g d e = refl
twice Equal g d e = refl
twice Greater g d e = refl

swapped : {A : Type 0} (p q : Ordering) (g d e : A) → (p ≡ Equal → q ≡ Equal → ⊥) → match_ordering p (match_ordering q g d g) e (match_ordering q g d g) ≡ match_ordering q (match_ordering p g e g) d (match_ordering p g e g)
swapped Less Less g d e not = refl
swapped Less Equal g d e not = refl
swapped Less Greater g d e not = refl
swapped Equal Less g d e not = refl
swapped Equal Equal g d e not = absurd (not refl refl)
swapped Equal Greater g d e not = refl
swapped Greater Less g d e not = refl
swapped Greater Equal g d e not = refl
swapped Greater Greater g d e not = refl

module _ (k text : List ℕ) (d : Data) where
  abbrev Puts : Members → Members → Type 0
  Puts before after = get_member k after ≡ match_ordering (slice_cmp nat_cmp k text) (get_member k before) (Some d) (get_member k before)

  put-at : (o : Ordering) (l : List ℕ) (e : Data) (ms : Members) → slice_cmp nat_cmp text l ≡ o → Puts ms (put text d ms)
      → Puts (member l e ms) (match_ordering o (member text d (member l e ms)) (member l d ms) (member l e (put text d ms)))
  put-at Less l e ms is before = refl
  put-at Equal l e ms is before =
      subst (λ x. Puts (member x e ms) (member x d ms)) (same-text text l is) (twice (slice_cmp nat_cmp k text) (get_member k ms) (Some d) (Some e))
  put-at Greater l e ms is before =
      ap (λ g. match_ordering (slice_cmp nat_cmp k l) g (Some e) g) before
      ∙ swapped (slice_cmp nat_cmp k l) (slice_cmp nat_cmp k text) (get_member k ms) (Some d) (Some e)
      (λ x y. false≢true (ap is_eq (sym is) ∙ equal-text text l (sym (same-text k text y) ∙ same-text k l x)))

  -- what a look-up finds once a member was put in
  pub get-put : (ms : Members) → Puts ms (put text d ms)
  get-put no_members = refl
  get-put (member l e ms) = put-at (slice_cmp nat_cmp text l) l e ms refl (get-put ms)

and-swap : (a b c : Bool) → a && (b && c) ≡ b && (a && c)
and-swap true b c = refl
and-swap false true c = refl
and-swap false false c = refl

module _ (version : Version) (text : List ℕ) (d : Data) where
  abbrev Tells : Members → Members → Type 0
  Tells before after = has_no_extra version after ≡ is_key version text && has_no_extra version before

  tells-at : (o : Ordering) (l : List ℕ) (e : Data) (ms : Members) → slice_cmp nat_cmp text l ≡ o → Tells ms (put text d ms)
      → Tells (member l e ms) (match_ordering o (member text d (member l e ms)) (member l d ms) (member l e (put text d ms)))
  tells-at Less l e ms is before = refl
  tells-at Equal l e ms is before = subst (λ x. Tells (member x e ms) (member x d ms)) (same-text text l is) (once (is_key version text) (has_no_extra version ms))
    where
      once : (a b : Bool) → a && b ≡ a && (a && b)
      once true b = refl
      once false b = refl
  tells-at Greater l e ms is before = ap (λ b. is_key version l && b) before ∙ and-swap (is_key version l) (is_key version text) (has_no_extra version ms)

  pub extra-put : (ms : Members) → Tells ms (put text d ms)
  extra-put no_members = refl
  extra-put (member l e ms) = tells-at (slice_cmp nat_cmp text l) l e ms refl (extra-put ms)

-- where there is nothing to be read, reading what it is a part of stops as well
pub stopped-there : {A B : Type 0} (e : Stop) (o : Option A) (q : Option B) → (o ≡ None → q ≡ None) → IsStopped e o → IsStopped e q
stopped-there NotJson o q h stopped = h stopped
stopped-there Memory o q h stopped = tt

-- ---- what is found

pub none-found : (version : Version) → found_in version no_members ≡ nothing
unfolding found_in
none-found version = refl

one-extra : (a b : Bool) → not b || not a ≡ not (a && b)
one-extra true true = refl
one-extra true false = refl
one-extra false true = refl
one-extra false false = refl

-- look-ups that agree at the keys find the same
agreed : (b c : Bool) (f g : List ℕ → Option Data) → b ≡ c → ((k : List ℕ) → f k ≡ g k) → found_by b f ≡ found_by c g
agreed b c f g same h = rw (same, h (codes "version"), h (codes "types"), h (codes "kinds"), h (codes "partitions"), h (codes "edges"), h (codes "invariants"), h (codes "merges"), h (codes "splits"), h (codes "blocks")) refl

module _ (version : Version) (text : List ℕ) (d : Data) (ms : Members) where
  -- what was found before, with a note of whether the key is one of the version
  abbrev pub Noted : Found
  Noted = record (found_in version ms) { has_extra = (found_in version ms).has_extra || not (is_key version text) }

  -- what is found once the key has the value
  abbrev Next : Found
  Next = found_by (not (has_no_extra version ms) || not (is_key version text)) (λ k. match_ordering (slice_cmp nat_cmp k text) (get_member k ms) (Some d) (get_member k ms))

  next-is : Next ≡ found_in version (put text d ms)
  unfolding found_in
  next-is = agreed _ _ _ _ (one-extra (is_key version text) (has_no_extra version ms) ∙ ap not (sym (extra-put version text d ms))) (λ k. sym (get-put k text d ms))

either : (b c : Bool) → b || c ≡ false → (b ≡ false) × (c ≡ false)
either true c e = absurd (false≢true (sym e))
either false c e = (refl, e)

apart : {A : Type 0} (o : Ordering) (g d : A) → is_eq o ≡ false → match_ordering o g d g ≡ g
apart Less g d e = refl
apart Equal g d e = absurd (false≢true (sym e))
apart Greater g d e = refl

flipped : (a b : List ℕ) → bytes_eq a b ≡ false → is_eq (slice_cmp nat_cmp b a) ≡ false
flipped a b e = is_eq-slice_cmp b a ∙ turned (bytes_eq b a) refl
  where
    turned : (x : Bool) → bytes_eq b a ≡ x → x ≡ false
    turned true is = absurd (false≢true (sym e ∙ (bytes_eq-Decides a b).1 (sym ((bytes_eq-Decides b a).0 is))))
    turned false is = refl

-- a file of the version has the key exactly if its text is one of the keys
key-known : (version : Version) (k : Key) (text : List ℕ) → IsKey k text → has_key version k ≡ is_key version text
unfolding is_key
key-known One (key.Bounded bounded.Blocks) text e = subst (λ t. has_key One (key.Bounded bounded.Blocks) ≡ is_key One t) (sym e) refl
key-known Two (key.Bounded bounded.Blocks) text e = subst (λ t. has_key Two (key.Bounded bounded.Blocks) ≡ is_key Two t) (sym e) refl
key-known One (key.Bounded bounded.Invariants) text e = subst (λ t. has_key One (key.Bounded bounded.Invariants) ≡ is_key One t) (sym e) refl
key-known Two (key.Bounded bounded.Invariants) text e = subst (λ t. has_key Two (key.Bounded bounded.Invariants) ≡ is_key Two t) (sym e) refl
key-known One (key.Bounded bounded.Splits) text e = subst (λ t. has_key One (key.Bounded bounded.Splits) ≡ is_key One t) (sym e) refl
key-known Two (key.Bounded bounded.Splits) text e = subst (λ t. has_key Two (key.Bounded bounded.Splits) ≡ is_key Two t) (sym e) refl
key-known One (key.Bounded bounded.Types) text e = subst (λ t. has_key One (key.Bounded bounded.Types) ≡ is_key One t) (sym e) refl
key-known Two (key.Bounded bounded.Types) text e = subst (λ t. has_key Two (key.Bounded bounded.Types) ≡ is_key Two t) (sym e) refl
key-known One (key.Whole whole.Edges) text e = subst (λ t. has_key One (key.Whole whole.Edges) ≡ is_key One t) (sym e) refl
key-known Two (key.Whole whole.Edges) text e = subst (λ t. has_key Two (key.Whole whole.Edges) ≡ is_key Two t) (sym e) refl
key-known One (key.Whole whole.Merges) text e = subst (λ t. has_key One (key.Whole whole.Merges) ≡ is_key One t) (sym e) refl
key-known Two (key.Whole whole.Merges) text e = subst (λ t. has_key Two (key.Whole whole.Merges) ≡ is_key Two t) (sym e) refl
key-known One (key.Whole whole.Partitions) text e = subst (λ t. has_key One (key.Whole whole.Partitions) ≡ is_key One t) (sym e) refl
key-known Two (key.Whole whole.Partitions) text e = subst (λ t. has_key Two (key.Whole whole.Partitions) ≡ is_key Two t) (sym e) refl
key-known One key.Kinds text e = subst (λ t. has_key One key.Kinds ≡ is_key One t) (sym e) refl
key-known Two key.Kinds text e = subst (λ t. has_key Two key.Kinds ≡ is_key Two t) (sym e) refl
key-known One key.Version text e = subst (λ t. has_key One key.Version ≡ is_key One t) (sym e) refl
key-known Two key.Version text e = subst (λ t. has_key Two key.Version ≡ is_key Two t) (sym e) refl
key-known One key.Other text e = sym (either (bytes_eq text (codes "kinds")) _ e).1
key-known Two key.Other text e = sym e

module _ (version : Version) (d : Data) (ms : Members) where
  by-key : (k : Key) (text : List ℕ) → IsKey k text → with_field k d (Noted version text d ms) ≡ Next version text d ms
  unfolding found_in
  by-key (key.Bounded bounded.Blocks) text e = subst (λ t. with_field (key.Bounded bounded.Blocks) d (Noted version t d ms) ≡ Next version t d ms) (sym e) refl
  by-key (key.Bounded bounded.Invariants) text e = subst (λ t. with_field (key.Bounded bounded.Invariants) d (Noted version t d ms) ≡ Next version t d ms) (sym e) refl
  by-key (key.Bounded bounded.Splits) text e = subst (λ t. with_field (key.Bounded bounded.Splits) d (Noted version t d ms) ≡ Next version t d ms) (sym e) refl
  by-key (key.Bounded bounded.Types) text e = subst (λ t. with_field (key.Bounded bounded.Types) d (Noted version t d ms) ≡ Next version t d ms) (sym e) refl
  by-key (key.Whole whole.Edges) text e = subst (λ t. with_field (key.Whole whole.Edges) d (Noted version t d ms) ≡ Next version t d ms) (sym e) refl
  by-key (key.Whole whole.Merges) text e = subst (λ t. with_field (key.Whole whole.Merges) d (Noted version t d ms) ≡ Next version t d ms) (sym e) refl
  by-key (key.Whole whole.Partitions) text e = subst (λ t. with_field (key.Whole whole.Partitions) d (Noted version t d ms) ≡ Next version t d ms) (sym e) refl
  by-key key.Kinds text e = subst (λ t. with_field key.Kinds d (Noted version t d ms) ≡ Next version t d ms) (sym e) refl
  by-key key.Version text e = subst (λ t. with_field key.Version d (Noted version t d ms) ≡ Next version t d ms) (sym e) refl
  by-key key.Other text e =
      let h1 = either (bytes_eq text (codes "kinds")) _ e in
      let h2 = either (bytes_eq text (codes "blocks")) _ h1.1 in
      let h3 = either (bytes_eq text (codes "edges")) _ h2.1 in
      let h4 = either (bytes_eq text (codes "invariants")) _ h3.1 in
      let h5 = either (bytes_eq text (codes "merges")) _ h4.1 in
      let h6 = either (bytes_eq text (codes "partitions")) _ h5.1 in
      let h7 = either (bytes_eq text (codes "splits")) _ h6.1 in
      let h8 = either (bytes_eq text (codes "types")) _ h7.1 in
      let h9 = either (bytes_eq text (codes "version")) _ h8.1 in
      let same : (k : List ℕ) → bytes_eq text k ≡ false → match_ordering (slice_cmp nat_cmp k text) (get_member k ms) (Some d) (get_member k ms) ≡ get_member k ms
      = λ k differs. apart (slice_cmp nat_cmp k text) (get_member k ms) (Some d) (flipped text k differs) in
      rw (same (codes "version") h9.0, same (codes "types") h8.0, same (codes "kinds") h1.0, same (codes "partitions") h6.0, same (codes "edges") h3.0, same (codes "invariants") h4.0, same (codes "merges") h5.0, same (codes "splits") h7.0, same (codes "blocks") h2.0) refl

  -- what is found once a key and its value were read
  pub member-found : (k : Key) (text : List ℕ) (found : Found) (known : Bool) → IsKey k text → known ≡ has_key version k → found ≡ found_in version ms → with_field k d (record found { has_extra = found.has_extra || not known }) ≡ found_in version (put text d ms)
  member-found k text found known is known-is found-is =
      ap₂ (λ b f. with_field k d (record f { has_extra = f.has_extra || not b })) (known-is ∙ key-known version k text is) found-is ∙ by-key k text is ∙ next-is version text d ms
