-- What marks say of merges.
use Rattle.std.proofs.Common.{◌≡◌, ◌<◌, ◌≤◌, ◌↔◌, ◌&&◌, true, arith, inl, inr}
use Rattle.std.proofs.lemmas.Bool.{or_cases, or_left, or_right, and_parts, and_from, false_from_ne_true, both_ways}
use Rattle.limits.specs.declared.TheConstants.{MAX_PARTITIONS}
use Rattle.partition_model.specs.Graphs.{Satisfies, Merged}
use Rattle.partition_model.specs.Assignments.{G}
use Rattle.merge_law.specs.Critical.{Fore, Back, Clash, IsOnPath}
use Rattle.merge_law.proofs.Walks.{all_on_paths}
use Rattle.merge_law.proofs.Loses.{merge_keeps}
use Rattle.clashes.specs.Marks.{is_met, is_ahead, has_clash}
use Rattle.clashes.specs.Laws.{ClashesTell}

-- a merge of partitions keeps an invariant exactly where the two have no clash for it
pub clashes_tell : ClashesTell
clashes_tell marks h p q k inv m t i lq get sat =
    let order : p < q = i.order in
    let low : 2 ≤ p = i.low in
    let lp : p < MAX_PARTITIONS = omega arith in
    let path-p : IsOnPath (G h) p = all_on_paths h p t i.low i.has_p in
    let path-q : IsOnPath (G h) q = all_on_paths h q t (omega arith) i.has_q in
    let fp : (is_met marks k p ≡ true) ↔ Fore inv (G h) p = m.fore k p inv get sat lp path-p in
    let fq : (is_met marks k q ≡ true) ↔ Fore inv (G h) q = m.fore k q inv get sat lq path-q in
    let bp : (is_ahead marks k p ≡ true) ↔ Back inv (G h) p = m.back k p inv get sat lp path-p in
    let bq : (is_ahead marks k q ≡ true) ↔ Back inv (G h) q = m.back k q inv get sat lq path-q in
    let keeps : Satisfies (Merged (G h) p q) inv ↔ (Clash inv (G h) p q → ⊥) = merge_keeps (G h) inv p q low order i.types path-p path-q sat in (
      λ kept. false_from_ne_true (has_clash marks k p q) (λ hit. elim (or_cases (is_met marks k p && is_ahead marks k q) (is_met marks k q && is_ahead marks k p) hit) [
        | inl b ↦ let both : (is_met marks k p ≡ true) × (is_ahead marks k q ≡ true) = and_parts (is_met marks k p) (is_ahead marks k q) b in keeps.0 kept (inl (fp.0 both.0, bq.0 both.1))
        | inr b ↦ let both : (is_met marks k q ≡ true) × (is_ahead marks k p ≡ true) = and_parts (is_met marks k q) (is_ahead marks k p) b in keeps.0 kept (inr (fq.0 both.0, bp.0 both.1))
      ]),
      λ none. keeps.1 (λ clash. elim clash [
        | inl c ↦ both_ways (has_clash marks k p q) none (or_left (is_met marks k p && is_ahead marks k q) (is_met marks k q && is_ahead marks k p) (and_from (is_met marks k p) (is_ahead marks k q) (fp.1 c.0) (bq.1 c.1)))
        | inr c ↦ both_ways (has_clash marks k p q) none (or_right (is_met marks k p && is_ahead marks k q) (is_met marks k q && is_ahead marks k p) (and_from (is_met marks k q) (is_ahead marks k p) (fq.1 c.0) (bp.1 c.1)))
      ]),
    )
