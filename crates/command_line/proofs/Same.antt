-- Where clap finds no fault in the words it takes them.
use Rattle.std.proofs.Common.{◌≡◌, ◌∙◌, ◌&&◌, ◌||◌, ◌==◌, not, ℕ, Bool, true, false, zero, suc, refl, sym, ap, arith, List, [], ◌∷◌, Option, Some, None, is_some, length, drop, nat_le, nat_lt, true≢false}
use Rattle.std.specs.Prelude.{if◌then◌else◌, encode_utf8, slice_get, codes}
use Rattle.std.specs.Option.{option_map_or}
use Rattle.std.specs.List.{list_all, list_any}
use Rattle.std.specs.Str.{bytes_eq, chars}
use Rattle.clap.specs.Words.{Rule, Row, Text, Kinds, fault_of, takes, built}
use Rattle.clap.specs.ValueTests.{accepts}
use Rattle.clap.specs.Kinds.{or_else, value_kinds, values_kinds, range_kinds}
use Rattle.clap.specs.Walk.{Held, Names, Step, Waiting, Walk, action_of, arg_by_id, arg_by_index, arg_by_long, arg_by_short, attached_value, finished, has_row, is_pending, next, trailing, subcommand, value, nothing_held, reacted, settled, subcommand_met, takes_several, takes_values, values_or_missing, walk, walk_from, walked, word_met}
use Rattle.clap.specs.Lexer.{long_of, short_of}
use Rattle.clap.specs.Simple.{Shape, argument_words}
use Rattle.clap.specs.Takes.{action_passes, bundle_passes, bundle_step_passes, count_passes, default_passes, flag_word_passes, flags_pass, is_given, is_valid, level_passes, long_passes, option_passes, other_passes, positional_passes, react_passes, set_passes, settle_passes, short_passes, step_passes, turn_passes, use_passes, walk_passes, word_passes}
use Rattle.clap.specs.Faults.{action_fault, bundle_fault, bundle_step_fault, check_fault, count_fault, flag_word_fault, flags_fault, level_fault, long_fault, option_fault, other_fault, positional_fault, react_fault, set_fault, settle_fault, short_fault, step_fault, turn_fault, use_fault, values_fault, walk_fault, word_fault}
use Rattle.clap.specs.Facts.{explicit_source}
use Rattle.clap.specs.declared.builder.action.ArgAction.{ArgAction}
use Rattle.clap.specs.declared.builder.action.ArgAction.TheVariants as action
use Rattle.clap.specs.declared.builder.value_parser.ValueParser.{ValueParser}
use Rattle.clap.specs.declared.error.kind.ErrorKind.{ErrorKind}
use Rattle.clap.specs.declared.error.kind.ErrorKind.TheVariants as kind
use Rattle.clap.proofs.OnLiterals.{clap_on_literals}
use Rattle.clap.proofs.FaultLemmas.{leaf_fault}
use Rattle.clap.proofs.TakesLemmas.{leaf_takes}
use Rattle.command_line.specs.App.{app}
use Rattle.command_line.proofs.Taken.{is_simple-app}

abbrev are_none : Kinds → Bool
are_none [] = true
are_none (k ∷ ks) = false

cons_none : (k : ErrorKind) (ks : Kinds) → k ∷ ks ≡ [] → ⊥
cons_none k ks e = true≢false (sym (ap are_none e))

both_none : (a b : Kinds) → or_else a b ≡ [] → (a ≡ []) × (b ≡ [])
both_none [] b e = (refl, e)
both_none (k ∷ ks) b e = absurd (cons_none k ks e)

and : (a b : Bool) → a ≡ true → b ≡ true → (a && b) ≡ true
and true b ea eb = eb
and false b ea eb = ea

skipped : (t : Bool) (k : ErrorKind) (ks rest : Kinds) → (if t then k ∷ ks else rest) ≡ [] → (t ≡ false) × (rest ≡ [])
skipped true k ks rest e = absurd (cons_none k ks e)
skipped false k ks rest e = (refl, e)

kept : (t : Bool) (k : ErrorKind) (ks : Kinds) → (if t then [] else k ∷ ks) ≡ [] → t ≡ true
kept true k ks e = refl
kept false k ks e = absurd (cons_none k ks e)

guard : (has again : Bool) (k : ErrorKind) (ks : Kinds) → (if has && not again then k ∷ ks else []) ≡ [] → (not has || again) ≡ true
guard false again k ks e = refl
guard true true k ks e = refl
guard true false k ks e = absurd (cons_none k ks e)

choose : (t : Bool) (a b : Kinds) (p q : Bool) → (a ≡ [] → p ≡ true) → (b ≡ [] → q ≡ true) → (if t then a else b) ≡ [] → (if t then p else q) ≡ true
choose true a b p q f g e = f e
choose false a b p q f g e = g e

or_skip : (t : Bool) (a : Kinds) (p : Bool) → (a ≡ [] → p ≡ true) → (if t then [] else a) ≡ [] → (t || p) ≡ true
or_skip true a p f e = refl
or_skip false a p f e = f e

opt : {X : Type 0} (f : X → Kinds) (g : X → Bool) (o : Option X) → ((x : X) → f x ≡ [] → g x ≡ true) → option_map_or f o [] ≡ [] → option_map_or g o true ≡ true
opt f g None step e = refl
opt f g (Some x) step e = step x e

values_ok : (i : Bool) (p : ValueParser) (vs : List Text) → values_kinds i p vs ≡ [] → list_all (accepts i p) vs ≡ true
values_ok i p [] e = refl
values_ok i p (v ∷ vs) e =
    let h = both_none (value_kinds i p v) _ e in
    and _ _ (kept (accepts i p v) _ _ h.0) (values_ok i p vs h.1)

range_ok : (least most n : ℕ) → range_kinds least most n ≡ [] → (nat_le least n ≡ true) × (nat_le n most ≡ true)
range_ok least most n e = go (least == most) refl (skipped (nat_lt 0 least && n == 0) _ _ _ e).1
  where
    between : (short long : Bool) → nat_lt n least ≡ short → nat_lt most n ≡ long → (if short then kind.TooFewValues ∷ [] else (if long then kind.TooManyValues ∷ [] else [])) ≡ []
        → (nat_le least n ≡ true) × (nat_le n most ≡ true)
    between true long a b f = absurd (cons_none _ _ f)
    between false true a b f = absurd (cons_none _ _ f)
    between false false a b f = (grind arith, grind arith)

    go : (same : Bool) → (least == most) ≡ same → (if same then (if least == n then [] else kind.WrongNumberOfValues ∷ [])
        else (if nat_lt n least then kind.TooFewValues ∷ [] else (if nat_lt most n then kind.TooManyValues ∷ [] else []))) ≡ []
        → (nat_le least n ≡ true) × (nat_le n most ≡ true)
    go true is f = let k = kept (least == n) _ _ f in (grind arith, grind arith)
    go false is f = between (nat_lt n least) (nat_lt most n) refl refl f

count_ok : (a : Rule) (vs : List Text) (rows : List Row) → count_fault a vs rows ≡ [] → count_passes a vs rows ≡ true
count_ok a [] rows e = kept _ _ _ e
count_ok a (v ∷ vs) rows e = values_ok _ _ (v ∷ vs) e

set_ok : (again : Bool) (a : Rule) (vs : List Text) (rows : List Row) → set_fault again a vs rows ≡ [] → set_passes again a vs rows ≡ true
set_ok again a vs rows e =
    let h = both_none _ (values_fault a vs) e in
    and _ _ (guard (has_row a.id rows) again _ _ h.0) (values_ok _ _ vs h.1)

action_ok : (x : ArgAction) (again : Bool) (a : Rule) (vs : List Text) (rows : List Row) → action_fault x again a vs rows ≡ [] → action_passes x again a vs rows ≡ true
action_ok action.Set again a vs rows e = set_ok again a vs rows e
action_ok action.SetTrue again a vs rows e = set_ok again a vs rows e
action_ok action.SetFalse again a vs rows e = set_ok again a vs rows e
action_ok action.Append again a vs rows e = values_ok _ _ vs e
action_ok action.Count again a vs rows e = count_ok a vs rows e
action_ok action.Help again a vs rows e = absurd (cons_none _ _ e)
action_ok action.HelpShort again a vs rows e = absurd (cons_none _ _ e)
action_ok action.HelpLong again a vs rows e = absurd (cons_none _ _ e)
action_ok action.Version again a vs rows e = absurd (cons_none _ _ e)

use_ok : (again : Bool) (a : Rule) (vs : List Text) (rows : List Row) → use_fault again a vs rows ≡ [] → use_passes again a vs rows ≡ true
use_ok again a vs rows e =
    let h = both_none _ (action_fault (action_of a) again a (values_or_missing a vs) rows) e in
    let r = range_ok _ _ (length vs) h.0 in
    and _ _ r.0 (and _ _ r.1 (action_ok (action_of a) again a (values_or_missing a vs) rows h.1))

module _ (c : List Rule) (again : Bool) where
  settle_ok : (h : Held) → settle_fault c again h ≡ [] → settle_passes c again h ≡ true
  settle_ok h e = opt (λ p. option_map_or (λ a. use_fault again a p.1 h.rows) (arg_by_id c p.0) [])
      (λ p. option_map_or (λ a. use_passes again a p.1 h.rows) (arg_by_id c p.0) true) h.pending
      (λ p. opt (λ a. use_fault again a p.1 h.rows) (λ a. use_passes again a p.1 h.rows) (arg_by_id c p.0) (λ a. use_ok again a p.1 h.rows)) e

  react_ok : (a : Rule) (vs : List Text) (h : Held) → react_fault c again a vs h ≡ [] → react_passes c again a vs h ≡ true
  react_ok a vs h e =
      let s = both_none (settle_fault c again h) _ e in
      and _ _ (settle_ok h s.0) (use_ok again a vs (settled c h).rows s.1)

  option_ok : (a : Rule) (v : Option Text) (h : Held) → option_fault c again a v h ≡ [] → option_passes c again a v h ≡ true
  option_ok a (Some v) h e = react_ok a (v ∷ []) h e
  option_ok a None h e = settle_ok h e

  long_ok : (found : Option Rule) (v : Option Text) (h : Held) → long_fault c again found v h ≡ [] → long_passes c again found v h ≡ true
  long_ok None v h e = absurd (cons_none _ _ e)
  long_ok (Some a) v h e = choose (takes_values a) (option_fault c again a v h) _ (option_passes c again a v h) _ (option_ok a v h)
      (λ f. let s = skipped (is_some v) _ _ (react_fault c again a [] h) f in and _ _ (ap not s.0) (react_ok a [] h s.1)) e

  short_ok : (found : Option Rule) (rest : Text) (h : Held) (may : Held → Kinds) (mayp : Held → Bool) → ((x : Held) → may x ≡ [] → mayp x ≡ true)
      → short_fault c again found rest h may ≡ [] → short_passes c again found rest h mayp ≡ true
  short_ok None rest h may mayp step e = absurd (cons_none _ _ e)
  short_ok (Some a) rest h may mayp step e = choose (takes_values a) (option_fault c again a (attached_value rest) h) _ (option_passes c again a (attached_value rest) h) _
      (option_ok a (attached_value rest) h)
      (λ f. let s = both_none (react_fault c again a [] h) _ f in and _ _ (react_ok a [] h s.0) (step (reacted c a [] h) s.1)) e

  bundle_step_ok : (first : Option ℕ) (flags : Text) (skip : ℕ) (h : Held) (may : Text → ℕ → Held → Kinds) (mayp : Text → ℕ → Held → Bool)
      → ((t : Text) (n : ℕ) (x : Held) → may t n x ≡ [] → mayp t n x ≡ true)
      → bundle_step_fault c again first flags skip h may ≡ [] → bundle_step_passes c again first flags skip h mayp ≡ true
  bundle_step_ok None flags skip h may mayp step e = refl
  bundle_step_ok (Some x) flags zero h may mayp step e =
      let rest = drop (length (encode_utf8 x)) flags in
      short_ok (arg_by_short c x) rest h (may rest 0) (mayp rest 0) (step rest 0) e
  bundle_step_ok (Some x) flags (suc skip) h may mayp step e = step (drop (length (encode_utf8 x)) flags) skip h e

  flags_ok : (k : ℕ) (flags : Text) (skip : ℕ) (h : Held) → flags_fault c again k flags skip h ≡ [] → flags_pass c again k flags skip h ≡ true
  unfolding flags_fault flags_pass
  flags_ok zero flags skip h e = refl
  flags_ok (suc k) flags skip h e = bundle_step_ok (slice_get (chars flags) 0) flags skip h (flags_fault c again k) (flags_pass c again k) (flags_ok k) e

  flag_word_ok : (p : Option (Text × Option Text)) (word : Text) (h : Held) → flag_word_fault c again p word h ≡ [] → flag_word_passes c again p word h ≡ true
  flag_word_ok (Some p) word h e = long_ok (arg_by_long c p.0) p.1 h e
  flag_word_ok None word h e = opt (λ flags. bundle_fault c again flags h) (λ flags. bundle_passes c again flags h) (short_of word)
      (λ flags. flags_ok (length flags) flags h.skip (record h { skip = 0 })) e

  positional_ok : (a : Rule) (h : Held) → positional_fault c again a h ≡ [] → positional_passes c again a h ≡ true
  positional_ok a h e = or_skip (is_pending a h.pending && takes_several a) _ _ (settle_ok h) e

other_ok : (s : Shape) (name : Option Text) (word : Text) (h : Held) → other_fault s name word h ≡ [] → other_passes s name word h ≡ true
other_ok s (Some name) word h e = guard (bytes_eq name (codes "help")) s.disable_help_subcommand _ _ e
other_ok s None word h e = or_skip (bytes_eq word (45 ∷ 45 ∷ [])) _ _ (flag_word_ok s.rules s.args_override_self (long_of word) word h) e

word_ok : (s : Shape) (names : Names) (is_trailing : Bool) (waiting : Waiting) (word : Text) (h : Held)
    → word_fault s names is_trailing waiting word h ≡ [] → word_passes s names is_trailing waiting word h ≡ true
word_ok s names is_trailing waiting word h e = or_skip is_trailing _ _ (other_ok s (subcommand_met names waiting word) word h) e

stray : (t : Bool) (j k : ErrorKind) (js ks : Kinds) → (if t then j ∷ js else k ∷ ks) ≡ [] → ⊥
stray true j k js ks e = cons_none j js e
stray false j k js ks e = cons_none k ks e

step_ok : (s : Shape) (position : ℕ) (h : Held) (step : Step) → step_fault s position h step ≡ [] → step_passes s position h step ≡ true
step_ok s position h (next w) e = refl
step_ok s position h (trailing n) e = refl
step_ok s position h (subcommand name) e = refl
step_ok s position h value e = go (arg_by_index s.rules position) e
  where
    go : (found : Option Rule) → option_map_or (λ a. positional_fault s.rules s.args_override_self a h) found
        (if s.is_leaf then kind.UnknownArgument ∷ [] else kind.UnknownArgument ∷ kind.InvalidSubcommand ∷ []) ≡ []
        → option_map_or (λ a. positional_passes s.rules s.args_override_self a h) found false ≡ true
    go None f = absurd (stray s.is_leaf _ _ _ _ f)
    go (Some a) f = positional_ok s.rules s.args_override_self a h f

turn_ok : (s : Shape) (names : Names) (w : Walk) (word : Text) → turn_fault s names w word ≡ [] → turn_passes s names w word ≡ true
turn_ok s names w word e =
    let met = word_met s.rules names w.is_trailing w.waiting w.position word w.held in
    or_skip (is_some w.stopped) _ _ (λ f.
    let h = both_none (word_fault s names w.is_trailing w.waiting word w.held) _ f in
    and _ _ (word_ok s names w.is_trailing w.waiting word w.held h.0) (step_ok s w.position met.0 met.1 h.1)) e

walk_ok : (s : Shape) (names : Names) (w : Walk) (words : List Text) → walk_fault s names w words ≡ [] → walk_passes s names w words ≡ true
unfolding walk_fault walk_passes
walk_ok s names w [] e = refl
walk_ok s names w (word ∷ rest) e =
    let h = both_none (turn_fault s names w word) _ e in
    and _ _ (turn_ok s names w word h.0) (walk_ok s names (walked s.rules names w word) rest h.1)

help_ok : (has help any : Bool) → (not has && (help && not any)) ≡ false → (not help || (has || any)) ≡ true
help_ok has false any e = refl
help_ok true true any e = refl
help_ok false true true e = refl
help_ok false true false e = absurd (true≢false e)

sub_ok : (has wants : Bool) → (not has && wants) ≡ false → (not wants || has) ≡ true
sub_ok has false e = refl
sub_ok true true e = refl
sub_ok false true e = absurd (true≢false e)

required_all : (rows : List Row) (rules : List Rule) → list_any (λ a. a.required && not (is_given a.id rows)) rules ≡ false
    → list_all (λ a. not a.required || is_given a.id rows) rules ≡ true
required_all rows [] e = refl
required_all rows (a ∷ rest) e = go a.required (is_given a.id rows) (list_any (λ b. b.required && not (is_given b.id rows)) rest) _ (required_all rows rest) e
  where
    go : (r g more : Bool) (all : Bool) → (more ≡ false → all ≡ true) → ((r && not g) || more) ≡ false → ((not r || g) && all) ≡ true
    go false g more all f h = f h
    go true true more all f h = f h
    go true false more all f h = absurd (true≢false h)

spared_ok : (spared : Bool) (any all : Bool) → (any ≡ false → all ≡ true) → (not spared && any) ≡ false → (spared || all) ≡ true
spared_ok true any all f e = refl
spared_ok false any all f e = f e

check_ok : (s : Shape) (rows : List Row) (has : Bool) → list_all (λ a. a.is_free) s.rules ≡ true → check_fault s rows has ≡ [] → is_valid s rows has ≡ true
check_ok s rows has free e =
    let x = skipped _ _ _ _ e in
    let y = skipped _ _ _ _ x.1 in
    let z = skipped _ _ _ [] y.1 in
    and _ _ (help_ok has s.arg_required_else_help (list_any (λ r. explicit_source r.source) rows) x.0)
    (and _ _ (sub_ok has s.subcommand_required y.0) (and _ _ free
    (spared_ok (s.subcommand_negates_reqs && has) _ _ (required_all rows s.rules) z.0)))

-- words without a fault pass at their level
pub level_ok : (s : Shape) (names : Names) (h : Held) (words : List Text) (has : Bool) → list_all default_passes s.rules ≡ true → list_all (λ a. a.is_free) s.rules ≡ true
    → level_fault s names h words has [] ≡ [] → level_passes s names h words has ≡ true
level_ok s names h words has defaults free e =
    let a = both_none (walk_fault s names (walk_from h) words) _ e in
    let b = both_none (settle_fault s.rules s.args_override_self (walk s.rules names h words).held) _ a.1 in
    let d = both_none _ (check_fault s (finished s.rules (walk s.rules names h words).held) has) b.1 in
    and _ _ (walk_ok s names (walk_from h) words a.0) (and _ _ (settle_ok s.rules s.args_override_self (walk s.rules names h words).held b.0)
    (and _ _ defaults (check_ok s (finished s.rules (walk s.rules names h words).held) has free d.1)))

no_subs : (built app).subs ≡ []
unfolding app clap_on_literals
no_subs = refl

defaults : list_all default_passes (built app).top.rules ≡ true
unfolding app clap_on_literals
defaults = refl

free : list_all (λ a. a.is_free) (built app).top.rules ≡ true
unfolding app clap_on_literals
free = refl

-- clap takes the words in which it finds no fault
pub app_takes : (words : List Text) → fault_of app words ≡ [] → takes app words ≡ true
app_takes words none =
    and _ _ is_simple-app (leaf_takes (built app) nothing_held (argument_words app words) no_subs
    (level_ok (built app).top [] nothing_held (argument_words app words) false defaults free
    (sym (leaf_fault (built app) nothing_held (argument_words app words) no_subs) ∙ none)))
