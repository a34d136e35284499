-- The run of one log is that of each log with the same words.
use Rattle.std.proofs.Common.{◌≡◌, ◌↔◌, ℕ, ◌+◌, List, length, Contains, refl, subst}
use Rattle.invariants.specs.declared.Invariant.{Invariant}
use Rattle.invariants.specs.declared.Kinds.{Kinds}
use Rattle.invariants.specs.declared.records.Split.{Split}
use Rattle.invariants.specs.declared.records.Merge.{Merge}
use Rattle.partition_model.specs.Assignments.{Assignment, IsTyped, by_type}
use Rattle.partition_model.specs.Refinement.{IsRefined, Refines, Splits}
use Rattle.partition_model.specs.Coarsening.{merged_by, Coarsens}
use Rattle.partition_model.proofs.Keeping.{refinement_keeps}
use Rattle.partition_model.proofs.Runs.{start-run, runs_keep}
use Rattle.models.specs.Models.{TypedWords, mined_of}
use Rattle.models.specs.Histories.{split_by}
use Rattle.models.specs.Laws.{IsTypedLog}
use Rattle.models.proofs.Valid.{mined-hold}
use Rattle.infer_core.proofs.Sharing.{Alike}
use Rattle.distinct_law.specs.Words.{HaveSameWords}
use Rattle.distinct_law.proofs.Alike.{refines-alike, splits-alike, coarsens-alike}
use Rattle.distinct_law.proofs.SameWords.{asked, alike-start, same_mined}

-- where these splits of a log with so many types lead
abbrev pub split-to : List (List ℕ) → List Split → List (List ℕ) → Assignment
split-to types splits words = split_by (length types + 2) splits (by_type words)

module _ (kinds : Kinds) (types us vs : List (List ℕ)) (same : (w : List ℕ) → Contains us w ↔ Contains vs w) (t : IsTypedLog (asked kinds types us)) where
  -- both are asked for the same kinds and have the same types
  same-words : HaveSameWords (asked kinds types us) (asked kinds types vs)
  same-words = record { kinds = refl; types = refl; words = same }

  -- so the same is mined of both
  pub mined-alike : mined_of (asked kinds types us) ≡ mined_of (asked kinds types vs)
  mined-alike = same_mined (asked kinds types us) (asked kinds types vs) same-words

  -- refinement makes the same splits
  pub refined-alike : (splits : List Split) (end : Assignment) → IsRefined (mined_of (asked kinds types us)) (length types) us splits end
      → IsRefined (mined_of (asked kinds types vs)) (length types) vs splits (split-to types splits vs) × Alike end (split-to types splits vs) × IsTyped end
  refined-alike splits end w =
      let log : TypedWords = asked kinds types us in
      let n : ℕ = length types + 2 in
      let o : Refines (mined_of log) (by_type vs) n splits (split-to types splits vs) × Alike end (split-to types splits vs) =
      refines-alike us (mined_of log) splits (by_type us) (by_type vs) n end (alike-start log (asked kinds types vs) same-words) (start-run us n t) t.two (mined-hold log) w in (
        subst (λ (invs : List Invariant). Refines invs (by_type vs) n splits (split-to types splits vs)) mined-alike o.0,
        o.1,
        (refinement_keeps (mined_of log) us n splits end t (mined-hold log) w).typed,
      )

  -- and the same first splits
  pub stopped-alike : (splits : List Split) (now : Assignment) → Splits (mined_of (asked kinds types us)) (by_type us) (length types + 2) splits now
      → Splits (mined_of (asked kinds types vs)) (by_type vs) (length types + 2) splits (split-to types splits vs) × Alike now (split-to types splits vs) × IsTyped now
  stopped-alike splits now w =
      let log : TypedWords = asked kinds types us in
      let n : ℕ = length types + 2 in
      let o : Splits (mined_of log) (by_type vs) n splits (split-to types splits vs) × Alike now (split-to types splits vs) =
      splits-alike us (mined_of log) splits (by_type us) (by_type vs) n now (alike-start log (asked kinds types vs) same-words) (start-run us n t) t.two (mined-hold log) w in (
        subst (λ (invs : List Invariant). Splits invs (by_type vs) n splits (split-to types splits vs)) mined-alike o.0,
        o.1,
        (runs_keep (mined_of log) us n splits now t (mined-hold log) w).typed,
      )

  -- coarsening makes the same merges
  pub coarsened-alike : (merges : List Merge) (h k end : Assignment) → Alike h k → IsTyped h → Coarsens (mined_of (asked kinds types us)) h merges end
      → Coarsens (mined_of (asked kinds types vs)) k merges (merged_by merges k) × Alike end (merged_by merges k) × IsTyped end
  coarsened-alike merges h k end a u w =
      let log : TypedWords = asked kinds types us in
      let o : Coarsens (mined_of log) k merges (merged_by merges k) × Alike end (merged_by merges k) × IsTyped end = coarsens-alike (mined_of log) merges h k end a u w in
      (subst (λ (invs : List Invariant). Coarsens invs k merges (merged_by merges k)) mined-alike o.0, o.1, o.2)
