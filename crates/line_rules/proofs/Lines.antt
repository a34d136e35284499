-- From line to line of an expressions file, and from its lines to its rules.
use Rattle.std.proofs.Common.{◌≡◌, ◌<◌, ◌≤◌, ◌+◌, ◌⊎◌, inl, inr, ℕ, suc, ◌||◌, true, false, List, [], ◌∷◌, ◌++◌, length, Result, Ok, Err, refl, ap, ap₂, sym, ◌∙◌, subst, arith, ⊎_elim, append_assoc, cond}
use Rattle.std.specs.Prelude.{IsTrue, Bool, Option, Some, None, is_some, codes, nat_le, ◌&&◌, if◌then◌else◌}
use Rattle.std.specs.Option.{option_map_or}
use Rattle.std.proofs.lemmas.Bool.{le-ltb}
use Rattle.std.specs.List.{list_any}
use Rattle.lines.specs.Lines.{pieces, line_of}
use Rattle.limits.specs.declared.TheConstants.{MAX_RULES, MAX_RULES_BYTES}
use Rattle.line_rules.specs.Patterns.{PatternsState, Stays, Rose, NestsTooDeep}
use Rattle.line_rules.specs.Rules as spec
use Rattle.line_rules.specs.Rules.{Alike, AreAlike, group_named, rule_of}
use Rattle.line_rules.specs.Files.{is_skipped, is_event, numbered, rule_lines, rule_at, with_rule, rules_from, with_event, rules_of, AreRead, first_time, has_time, lacks_type, differ, rule_read, rule_spelled, spelled_by, KeepsAt}
use Rattle.line_rules.specs.Building.{IsRuleOf, Builds, IsLineRefused, AddsLine, AreRulesOf, BuildsAt, AreLinesRefused}
use Rattle.line_rules.specs.declared.line_rules.RuleError.{RuleError}
use Rattle.line_rules.specs.declared.line_rules.RuleError.TheVariants as refused

-- the rules are those of the lines up to number `number`, after which `rest` is left
pub record ReadTo (bytes : List ℕ) (number : ℕ) (rest : List ℕ) (rules : List spec.Rule) : Type 0 where
  pub before : List (ℕ × List ℕ)
  pub plain : List spec.Rule
  pub lines : rule_lines bytes ≡ before ++ numbered (number + 1) (pieces rest)
  pub read : rules_from [] before ≡ Ok plain
  pub alike : AreAlike rules plain

-- before the first line
pub begin : (bytes : List ℕ) → ReadTo bytes 0 bytes []
begin bytes = record { before = []; plain = []; lines = refl; read = refl; alike = tt }

-- the rest of the lines goes on from the rules of the first
from-rest : (start : List spec.Rule) (xs ys : List (ℕ × List ℕ)) (plain : List spec.Rule) → rules_from start xs ≡ Ok plain → rules_from start (xs ++ ys) ≡ rules_from plain ys
from-rest start [] ys plain read =
    let same : start ≡ plain = cc in
    ap (λ rs. rules_from rs ys) same
from-rest start (x ∷ xs) ys plain read = by-rule (λ rule. from-rest (start ++ rule ∷ []) xs ys plain) (rule_at start x) read
  where
    by-rule : ((rule : spec.Rule) → rules_from (start ++ rule ∷ []) xs ≡ Ok plain → rules_from (start ++ rule ∷ []) (xs ++ ys) ≡ rules_from plain ys)
        → (r : Result spec.Rule RuleError) → with_rule r (λ rule. rules_from (start ++ rule ∷ []) xs) ≡ Ok plain
        → with_rule r (λ rule. rules_from (start ++ rule ∷ []) (xs ++ ys)) ≡ rules_from plain ys
    by-rule goes (Ok rule) read = goes rule read
    by-rule goes (Err e) read = absurd cc

alike-length : (rs ss : List spec.Rule) → AreAlike rs ss → length rs ≡ length ss
alike-length [] [] alike = refl
alike-length [] (s ∷ ss) alike = absurd alike
alike-length (r ∷ rs) [] alike = absurd alike
alike-length (r ∷ rs) (s ∷ ss) alike = ap suc (alike-length rs ss alike.1)

alike-append : (rs ss : List spec.Rule) (r s : spec.Rule) → AreAlike rs ss → Alike r s → AreAlike (rs ++ r ∷ []) (ss ++ s ∷ [])
alike-append [] [] r s alike one = (one, tt)
alike-append [] (t ∷ ss) r s alike one = absurd alike
alike-append (q ∷ rs) [] r s alike one = absurd alike
alike-append (q ∷ rs) (t ∷ ss) r s alike one = (alike.0, alike-append rs ss r s alike.1 one)

alike-first : (rs ss : List spec.Rule) → AreAlike rs ss → first_time rs ≡ first_time ss
alike-first [] [] alike = refl
alike-first [] (s ∷ ss) alike = absurd alike
alike-first (r ∷ rs) [] alike = absurd alike
alike-first (r ∷ rs) (s ∷ ss) alike =
    ap₂ (λ (form : spec.RuleForm) (t : Option Bool). if is_event form then Some (has_time r) else t) alike.0.form (alike-first rs ss alike.1)
    ∙ ap (λ (names : List (Option (List ℕ))). if is_event s.form then Some (is_some (group_named names (codes "TIME"))) else first_time ss) alike.0.names

-- a rule that is read is refused alike after rules that are alike
read-after : (rs ss : List spec.Rule) (number : ℕ) (o : Option spec.Rule) → first_time rs ≡ first_time ss → rule_read rs number o ≡ rule_read ss number o
read-after rs ss number None first = refl
read-after rs ss number (Some rule) first =
    ap (λ (t : Option Bool). if lacks_type rule then Err (refused.NoType number)
    else if is_event rule.form && option_map_or (λ timed. differ timed (has_time rule)) t false then Err (refused.MixedTime number) else Ok rule) first

spelled-after : (rs ss : List spec.Rule) (number : ℕ) (o : Option (spec.RuleForm × List ℕ)) → length rs ≡ length ss → first_time rs ≡ first_time ss → rule_spelled rs number o ≡ rule_spelled ss number o
spelled-after rs ss number None few first = refl
spelled-after rs ss number (Some spelled) few first =
    ap₂ (λ (n : ℕ) (r : Result spec.Rule RuleError). if nat_le MAX_RULES n then Err (refused.TooMany number) else r) few (read-after rs ss number (rule_of spelled.0 spelled.1) first)

alike-at : (rs ss : List spec.Rule) (line : ℕ × List ℕ) → AreAlike rs ss → rule_at rs line ≡ rule_at ss line
alike-at rs ss line alike = spelled-after rs ss line.0 (spelled_by line.1) (alike-length rs ss alike) (alike-first rs ss alike)

alike-event : (rs ss : List spec.Rule) → AreAlike rs ss → list_any (λ rule. is_event rule.form) rs ≡ list_any (λ rule. is_event rule.form) ss
alike-event [] [] alike = refl
alike-event [] (s ∷ ss) alike = absurd alike
alike-event (r ∷ rs) [] alike = absurd alike
alike-event (r ∷ rs) (s ∷ ss) alike = ap₂ ◌||◌ (ap is_event alike.0.form) (alike-event rs ss alike.1)

-- the next piece is skipped
skip-next : (number : ℕ) (rest piece after : List ℕ) → pieces rest ≡ piece ∷ pieces after → is_skipped (line_of piece) ≡ true → numbered number (pieces rest) ≡ numbered (number + 1) (pieces after)
skip-next number rest piece after next skipped = ap (numbered number) next ∙ rw skipped refl

-- the next piece is a line that is to be a rule
take-next : (number : ℕ) (rest piece after : List ℕ) → pieces rest ≡ piece ∷ pieces after → is_skipped (line_of piece) ≡ false
    → numbered number (pieces rest) ≡ (number, line_of piece) ∷ numbered (number + 1) (pieces after)
take-next number rest piece after next counts = ap (numbered number) next ∙ rw counts refl

added : (bytes : List ℕ) (number : ℕ) (rest piece after : List ℕ) (rs new : List spec.Rule) (r : spec.Rule) → ReadTo bytes number rest rs → pieces rest ≡ piece ∷ pieces after
    → is_skipped (line_of piece) ≡ false → new ≡ rs ++ r ∷ [] → IsRuleOf rs (number + 1) (line_of piece) r → ReadTo bytes (number + 1) after new
added bytes number rest piece after rs new r so next counts is one =
    let line : ℕ × List ℕ = (number + 1, line_of piece) in
    let at : rule_at so.plain line ≡ Ok one.plain = sym (alike-at rs so.plain line so.alike) ∙ one.read in
    record {
      before = so.before ++ line ∷ [];
      plain = so.plain ++ one.plain ∷ [];
      lines = so.lines ∙ (ap (λ ys. so.before ++ ys) (take-next (number + 1) rest piece after next counts) ∙ sym (append_assoc so.before (line ∷ []) (numbered (number + 1 + 1) (pieces after))));
      read = from-rest [] so.before (line ∷ []) so.plain so.read ∙ ap (λ r. with_rule r (λ rule. Ok (so.plain ++ rule ∷ []))) at;
      alike = subst (λ (ts : List spec.Rule). AreAlike ts (so.plain ++ one.plain ∷ [])) (sym is) (alike-append rs so.plain r one.plain so.alike one.alike);
    }

-- a line that is skipped or adds its rule
pub step : (bytes : List ℕ) (number : ℕ) (rest piece after : List ℕ) (rs new : List spec.Rule) → ReadTo bytes number rest rs → pieces rest ≡ piece ∷ pieces after
    → AddsLine (number + 1) (line_of piece) rs new → ReadTo bytes (number + 1) after new
step bytes number rest piece after rs new so next (inl skips) =
    record {
      before = so.before;
      plain = so.plain;
      lines = so.lines ∙ ap (λ ys. so.before ++ ys) (skip-next (number + 1) rest piece after next skips.0);
      read = so.read;
      alike = subst (λ (ts : List spec.Rule). AreAlike ts so.plain) (sym skips.1) so.alike;
    }
step bytes number rest piece after rs new so next (inr adds) = added bytes number rest piece after rs new adds.1.0 so next adds.0 adds.1.1 adds.1.2

-- the line's own refusal is the first of the lines
plain-refused : (bytes : List ℕ) (number : ℕ) (rest piece after : List ℕ) (rs : List spec.Rule) (e : RuleError) → ReadTo bytes number rest rs → pieces rest ≡ piece ∷ pieces after
    → is_skipped (line_of piece) ≡ false → rule_at rs (number + 1, line_of piece) ≡ Err e → rules_from [] (rule_lines bytes) ≡ Err e
plain-refused bytes number rest piece after rs e so next counts refusal =
    let line : ℕ × List ℕ = (number + 1, line_of piece) in
    let more : List (ℕ × List ℕ) = numbered (number + 1 + 1) (pieces after) in
    let at : rule_at so.plain line ≡ Err e = sym (alike-at rs so.plain line so.alike) ∙ refusal in
    ap (rules_from []) (so.lines ∙ ap (λ ys. so.before ++ ys) (take-next (number + 1) rest piece after next counts))
    ∙ (from-rest [] so.before (line ∷ more) so.plain so.read ∙ ap (λ r. with_rule r (λ rule. rules_from (so.plain ++ rule ∷ []) more)) at)

-- the line's pattern is one that is built
built-at : (bytes : List ℕ) (number : ℕ) (rest piece after : List ℕ) (rs : List spec.Rule) (Holds : List ℕ → Type 0) → length bytes ≤ MAX_RULES_BYTES → ReadTo bytes number rest rs
    → pieces rest ≡ piece ∷ pieces after → is_skipped (line_of piece) ≡ false → Builds rs (line_of piece) Holds → BuildsAt bytes (number + 1) Holds
built-at bytes number rest piece after rs Holds short so next counts builds =
    let few : length so.plain < MAX_RULES = rw (← alike-length rs so.plain so.alike) builds.few in
    record {
      pattern = builds.pattern;
      built = record {
        short = short;
        before = so.before;
        line = line_of piece;
        after = numbered (number + 1 + 1) (pieces after);
        lines = so.lines ∙ ap (λ ys. so.before ++ ys) (take-next (number + 1) rest piece after next counts);
        rules = so.plain;
        read = so.read;
        few = few;
        form = builds.form;
        spelled = builds.spelled;
      };
      holds = builds.holds;
    }

-- what stays over two steps
pub stays-on : (old mid new : PatternsState) → Stays old mid → Stays mid new → Stays old new
stays-on old mid new one more = record { may_refuse = more.may_refuse ∙ one.may_refuse; refusals = omega arith }

rose-before : (old mid new : ℕ) → old ≤ mid → Rose mid new → Rose old new
rose-before old mid new grows rose = omega arith

-- a line that is refused
pub refuse : (bytes : List ℕ) (number : ℕ) (rest piece after : List ℕ) (rs : List spec.Rule) (old mid new : PatternsState) (e : RuleError) → length bytes ≤ MAX_RULES_BYTES → ReadTo bytes number rest rs
    → pieces rest ≡ piece ∷ pieces after → is_skipped (line_of piece) ≡ false → Stays old mid → IsLineRefused mid new rs (number + 1) (line_of piece) e → AreLinesRefused bytes old new e
refuse bytes number rest piece after rs old mid new refused.Memory short so next counts stays h = tt
refuse bytes number rest piece after rs old mid new (refused.Syntax at) short so next counts stays h =
    subst (λ (n : ℕ). (rules_from [] (rule_lines bytes) ≡ Err (refused.Syntax n)) ⊎ BuildsAt bytes n NestsTooDeep) (sym h.0)
    (⊎_elim (λ plain. inl (plain-refused bytes number rest piece after rs (refused.Syntax (number + 1)) so next counts plain))
    (λ builds. inr (built-at bytes number rest piece after rs NestsTooDeep short so next counts builds)) h.1)
refuse bytes number rest piece after rs old mid new (refused.TooLarge at) short so next counts stays h =
    let may : List ℕ → Type 0 = λ pattern. IsTrue (old.may_refuse pattern) in
    let built : BuildsAt bytes (number + 1) may = built-at bytes number rest piece after rs may short so next counts
    (subst (λ (f : List ℕ → Bool). Builds rs (line_of piece) (λ pattern. IsTrue (f pattern))) stays.may_refuse h.2) in
    (rose-before old.refusals mid.refusals new.refusals stays.refusals h.1, subst (λ (n : ℕ). BuildsAt bytes n may) (sym h.0) built)
refuse bytes number rest piece after rs old mid new refused.TooLong short so next counts stays h = absurd h
refuse bytes number rest piece after rs old mid new refused.NoEvent short so next counts stays h = absurd h
refuse bytes number rest piece after rs old mid new e short so next counts stays h = plain-refused bytes number rest piece after rs e so next counts h

-- a file that is short enough is read by its lines
short-file : (bytes : List ℕ) → length bytes ≤ MAX_RULES_BYTES → rules_of bytes ≡ with_event (rules_from [] (rule_lines bytes))
short-file bytes short = rw (le-ltb MAX_RULES_BYTES (length bytes) short) refl

events-of : (bytes : List ℕ) (rs : List spec.Rule) (b : Bool) → length bytes ≤ MAX_RULES_BYTES → (of : AreRulesOf bytes rs) → list_any (λ rule. is_event rule.form) rs ≡ b
    → rules_of bytes ≡ (cond b (Ok of.plain) (Err refused.NoEvent))
events-of bytes rs b short of any =
    let same : list_any (λ rule. is_event rule.form) of.plain ≡ b = sym (alike-event rs of.plain of.alike) ∙ any in
    short-file bytes short ∙ (ap with_event of.read ∙ rw same refl)

-- the rules of the lines, one of which is an event rule, are those of the file
pub file-read : (bytes : List ℕ) (rs : List spec.Rule) → length bytes ≤ MAX_RULES_BYTES → AreRulesOf bytes rs → list_any (λ rule. is_event rule.form) rs ≡ true → AreRead bytes rs
file-read bytes rs short of any = (of.plain, events-of bytes rs true short of any, of.alike)

-- and without one there are none
pub no-event : (bytes : List ℕ) (rs : List spec.Rule) → length bytes ≤ MAX_RULES_BYTES → AreRulesOf bytes rs → list_any (λ rule. is_event rule.form) rs ≡ false → rules_of bytes ≡ Err refused.NoEvent
no-event bytes rs short of any = events-of bytes rs false short of any

-- a refusal that keeps the count of refusals keeps an equal one
pub count-on : (old mid new : PatternsState) (e : RuleError) → mid.refusals ≡ old.refusals → KeepsAt mid e new → KeepsAt old e new
count-on old mid new (refused.TooLarge number) same kept = tt
count-on old mid new other same kept = kept ∙ same
