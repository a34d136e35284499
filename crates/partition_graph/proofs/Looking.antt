-- Looking for a word in slots.
use Rattle.std.proofs.Common.{◌≡◌, ◌≢◌, ℕ, ◌+◌, ◌-◌, ◌<◌, ◌≤◌, List, [], length, set, get_or, Option, None, Some, arith, ap, sym, ◌∙◌, subst, inl, inr}
use Rattle.std.proofs.lemmas.Bool.{cases_lt, cases_eq}
use Rattle.std.proofs.lemmas.List.{length-set, get_or_past}
use Rattle.std.proofs.lemmas.List.Elements.{All-set}
use Rattle.std.specs.Option.{IfSome}
use Rattle.partition_graph.specs.declared.word_slots.TheConstants.{LOOKS}
use Rattle.partition_graph.specs.Slots.{AreSlots, HaveOthers, IsLook}

-- what a slot has is no more than the number of traces that were met
pub slot-low : (traces : ℕ) (slots : List ℕ) (place : ℕ) → AreSlots traces slots → get_or slots place 0 ≤ traces
slot-low traces slots place a =
    elim (cases_lt place (length slots)) [
      | inl inside ↦ a.below place 0 inside
      | inr past ↦ (let e : get_or slots place 0 ≡ 0 = get_or_past slots place 0 past in omega arith)
    ]

-- one trace more was met
more-slots : (traces : ℕ) (slots : List ℕ) → AreSlots traces slots → AreSlots (traces + 1) slots
more-slots traces slots a =
    record {
      some = a.some;
      few = a.few;
      below = λ k d l. (let b : get_or slots k d ≤ traces = a.below k d l in let r : get_or slots k d ≤ traces + 1 = omega arith in r);
    }

-- and a slot has its number
slots-with : (traces place : ℕ) (slots : List ℕ) → AreSlots traces slots → AreSlots (traces + 1) (set slots place (traces + 1))
slots-with traces place slots a =
    let n : length (set slots place (traces + 1)) ≡ length slots = length-set slots place (traces + 1) in
    let last : traces + 1 ≤ traces + 1 = omega arith in
    record {
      some = (let s : LOOKS < length slots = a.some in omega arith);
      few = subst (λ n. n < 4294967296) (sym n) a.few;
      below = All-set (λ slot. slot ≤ traces + 1) slots place (traces + 1) last (more-slots traces slots a).below;
    }

-- the slots stay good, and a trace that is found is an earlier one with the word
pub looked : (words : List (List ℕ)) (t : ℕ) (found : Option ℕ) (old new : List ℕ) → IsLook words t found old new → AreSlots t old
    → AreSlots (t + 1) new × IfSome found (λ e. (e < t) × (get_or words e [] ≡ get_or words t []))
looked words t None old new k a = (
  elim k.outcome [
    | inl put ↦ subst (λ (slots : List ℕ). AreSlots (t + 1) slots) (sym put.2) (slots-with t k.end old a)
    | inr full ↦ subst (λ (slots : List ℕ). AreSlots (t + 1) slots) (sym full.1) (more-slots t old a)
  ],
  tt,
)
looked words t (Some e) old new k a =
    let low : get_or old k.end 0 ≤ t = slot-low t old k.end a in
    let at : get_or old k.end 0 ≡ e + 1 = k.outcome.0.0 in (
      subst (λ (slots : List ℕ). AreSlots (t + 1) slots) (sym k.outcome.1) (more-slots t old a),
      (omega arith, k.outcome.0.1),
    )

-- one slot more was looked at
pub one-looked : (words : List (List ℕ)) (slots : List ℕ) (home place slot : ℕ) (word other : List ℕ) → get_or slots place 0 ≡ slot + 1 → get_or words slot [] ≡ other → other ≢ word
    → HaveOthers words slots home place word → HaveOthers words slots home (place + 1) word
one-looked words slots home place slot word other at is differs before = λ k from to.
    elim (cases_eq k place) [
      | inl e ↦ subst (λ j. (get_or slots j 0 ≢ 0) × (get_or words (get_or slots j 0 - 1) [] ≢ word)) (sym e) (here)
      | inr n ↦ before k from (omega (arith, to, n))
    ]
  where
    back : get_or slots place 0 - 1 ≡ slot
    back = omega (arith, at)

    here : (get_or slots place 0 ≢ 0) × (get_or words (get_or slots place 0 - 1) [] ≢ word)
    here = (λ z. absurd (omega (arith, at, z)), λ same. differs (sym is ∙ ap (λ j. get_or words j []) (sym back) ∙ same))
